use Rattle.std.proofs.Common.{◌+◌, zero, suc, ℕ, Bool, ◌&&◌, ◌≡◌, List, sym, refl, ap, ◌∙◌, rules, add-zero, zero-add, arith}
use Rattle.std.proofs.Math.Bool.{and-true, and_assoc}
use borrow.Author.Tests.{tests}
use Rattle.std.specs.List.{list_all, range_with_len}
use Rattle.std.proofs.lemmas.Iterator.{YieldsList-from_range}
use Rattle.std.proofs.lemmas.Iterator.Search.{all_from_yields_List}
use Rattle.numbers.specs.Rows.{zero_row}
use Rattle.cabinet.specs.Cells.{Cell, cell_at}
use Rattle.site.specs.Making.{cells_zero, same_row}
use Rattle.site.proofs.making.cells_are_zero.Goals as goal

-- one number more at the end
all_more : (test : ℕ → Bool) (a n j : ℕ) → a + n ≡ j → list_all test (range_with_len a (suc n)) ≡ (list_all test (range_with_len a n) && test j)
all_more test a zero j e = and-true (test a) ∙ ap test (sym (add-zero a) ∙ e)
all_more test a (suc n) j e =
    let last : a + 1 + n ≡ j = omega arith in
    ap (λ b. test a && b) (all_more test (a + 1) n j last) ∙ sym (and_assoc (test a) (list_all test (range_with_len (a + 1) n)) (test j))

all_zero : (cs : List Cell) (n : ℕ) → list_all (λ k. same_row (cell_at cs k).row zero_row) (range_with_len 0 n) ≡ cells_zero cs n
all_zero cs zero = refl
all_zero cs (suc n) = all_more (λ k. same_row (cell_at cs k).row zero_row) 0 n n (zero-add n) ∙ ap (λ b. b && same_row (cell_at cs n).row zero_row) (all_zero cs n)

pub returns : goal.returns
returns g c =
    let cs = (g.C.Cabinet.cells c.args.cab.now).list in
    all_from_yields_List (λ k. same_row (cell_at cs k).row zero_row) _ _ c.all.result c.all.ensures.ran (YieldsList-from_range 0 c.args.n c.args.n refl (omega arith)) (λ x b q k. search (rules, tests))
    ∙ all_zero cs c.args.n

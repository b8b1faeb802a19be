-- Views against their codes: for controllers below 8 their order and equality are the same.
use Rattle.std.proofs.Common.{◌≡◌, ℕ, ◌/◌, ◌%◌, ◌<◌, ◌≤◌, true, false, ◌&&◌, ◌||◌, eqb, ltb, ap, ◌∙◌, arith}
use Rattle.std.proofs.lemmas.Bool.{both_ways, eq-eqb}
use Rattle.std.proofs.lemmas.Bool.Decides.{nat_tests}
use Rattle.numbers.specs.declared.views.View.{View}
use Rattle.numbers.specs.Views.{earlier, same_view, view_of}
use Rattle.numbers.proofs.SameViews.{same_view_equal}
use Rattle.protocol.specs.Views.{view_number}
use Rattle.runs.proofs.Bond.{Small, code}

-- over plain numbers first

earlier_number : (a i b j : ℕ) → i < 8 → j < 8 → (ltb a b || (eqb a b && ltb i j)) ≡ true → view_number a i < view_number b j
earlier_number a i b j p q h = grind (arith, nat_tests)

not_earlier_number : (a i b j : ℕ) → i < 8 → j < 8 → (ltb a b || (eqb a b && ltb i j)) ≡ false → view_number b j ≤ view_number a i
not_earlier_number a i b j p q h = grind (arith, nat_tests)

same_number : (a i b j : ℕ) → i < 8 → j < 8 → (eqb a b && eqb i j) ≡ eqb (view_number a i) (view_number b j)
same_number a i b j p q = grind (arith, nat_tests)

pub same_code : (v w : View) → same_view v w ≡ true → code v ≡ code w
same_code v w h = ap code (same_view_equal v w h)

module _ (v w : View) (small_v : Small v) (small_w : Small w) where
  pub earlier_code : earlier v w ≡ true → code v < code w
  earlier_code h = earlier_number v.count.number v.controller.number w.count.number w.controller.number small_v small_w h

  pub not_earlier_code : earlier v w ≡ false → code w ≤ code v
  not_earlier_code h = not_earlier_number v.count.number v.controller.number w.count.number w.controller.number small_v small_w h

  pub same_view_code : same_view v w ≡ eqb (code v) (code w)
  same_view_code = same_number v.count.number v.controller.number w.count.number w.controller.number small_v small_w

  -- one code, one view
  pub code_same : code v ≡ code w → v ≡ w
  code_same e = same_view_equal v w (same_view_code ∙ eq-eqb (code v) (code w) e)

  pub other_code : same_view v w ≡ false → code v ≡ code w → ⊥
  other_code h e = both_ways (same_view v w) h (same_view_code ∙ eq-eqb (code v) (code w) e)

-- the view of a code
abbrev pub coded_view : ℕ → View
coded_view k = view_of (k / 8) (k % 8)

pub code_of_view : (k : ℕ) → code (coded_view k) ≡ k
code_of_view k = omega arith

pub view_of_code : (v : View) → Small v → coded_view (code v) ≡ v
view_of_code v small = code_same (coded_view (code v)) v (omega arith) small (code_of_view (code v))

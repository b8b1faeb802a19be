-- What a lent row or part leaves of the table and the memory that it was lent from.
use Rattle.std.proofs.Common.{◌≡◌, ℕ, ◌+◌, ◌-◌, ◌*◌, List, [], ◌++◌, get_or, take, drop, set, sym, ap, ◌∙◌, arith}
use borrow.Rule.Slice.PartMut.{Post-is, put_mid}
use Rattle.std.proofs.lemmas.List.{drop-drop, take-append-drop}
use Rattle.numbers.specs.declared.views.ControllerNumber.{ControllerNumber}
use Rattle.controller.specs.declared.records.Controller.{Controller}
use Rattle.controller.specs.Records.{down_record}
use Rattle.site.specs.declared.records.Site.{Site}
use Rattle.site.specs.States.{part, with_part, with_row}

module _ {A : Type 0} where
  -- the part that is lent from a to b is controller i's, and the books with p back at its place have p as that part
  pub part_lent : (books : List A) (cap i a b : ℕ) (p : List A) → a ≡ i * cap → b ≡ i * cap + cap
      → (take (b - a) (drop a books) ≡ part books cap i) × (put_mid a (b - a) books p ≡ with_part books cap i p)
  part_lent books cap i a b p from to =
      let k : b - a ≡ cap = omega arith in
      let after : put_mid a (b - a) books p ≡ take a books ++ (p ++ drop b books) = ap (λ z. take a books ++ (p ++ z)) (Post-is a b books (omega arith)) in (
        ap (λ n. take n (drop a books)) k ∙ ap (λ n. take cap (drop n books)) from,
        after ∙ ap (λ n. take n books ++ (p ++ drop b books)) from ∙ ap (λ n. take (i * cap) books ++ (p ++ drop n books)) to,
      )

  -- a part put back as it was
  pub part_same : (books : List A) (cap i : ℕ) → with_part books cap i (part books cap i) ≡ books
  part_same books cap i =
      let whole : part books cap i ++ drop cap (drop (i * cap) books) ≡ drop (i * cap) books = take-append-drop cap (drop (i * cap) books) in
      let tail : drop (i * cap + cap) books ≡ drop cap (drop (i * cap) books) = ap (λ n. drop n books) (omega arith) ∙ sym (drop-drop cap (i * cap) books) in
      ap (λ z. take (i * cap) books ++ (part books cap i ++ z)) tail ∙ ap (λ z. take (i * cap) books ++ z) whole ∙ take-append-drop (i * cap) books

-- row j and the part from a to b are those of k, which is i
pub record LentTo (x : Site) (k i : ControllerNumber) (j a b : ℕ) : Type 0 where
  pub who : k ≡ i
  pub row : j ≡ k.number
  pub from : a ≡ k.number * x.cap
  pub to : b ≡ k.number * x.cap + x.cap

pub lent_to : {x : Site} {k i : ControllerNumber} {j a b : ℕ} → k ≡ i → j ≡ k.number → a ≡ k.number * x.cap → b ≡ k.number * x.cap + x.cap → LentTo x k i j a b
lent_to who row from to = record { who = who; row = row; from = from; to = to }

module _ {A : Type 0} (x : Site) (books : List A) (k i : ControllerNumber) (j a b : ℕ) (given : LentTo x k i j a b) where
  -- what is said of them is said of controller i's
  pub lent : {B : Type 0} (P : ControllerNumber → Controller → List A → B) → P k (get_or x.rows j down_record) (take (b - a) (drop a books)) ≡ P i (get_or x.rows i.number down_record) (part books x.cap i.number)
  lent P =
      ap (λ n. P k (get_or x.rows n down_record) (take (b - a) (drop a books))) given.row
      ∙ ap (λ z. P k (get_or x.rows k.number down_record) z) (part_lent books x.cap k.number a b [] given.from given.to).0
      ∙ ap (λ z. P z (get_or x.rows z.number down_record) (part books x.cap z.number)) given.who

  -- and they come back at their place
  pub row_back : (r r' : Controller) → r ≡ r' → record { made = x.made; n = x.n; cap = x.cap; pool = x.pool; count = x.count; rows = set x.rows j r } ≡ with_row x i r'
  row_back r r' e = ap (λ n. with_row x (record { number = n }) r) (given.row ∙ ap (λ z. z.number) given.who) ∙ ap (with_row x i) e

  pub part_back : (p p' : List A) → p ≡ p' → put_mid a (b - a) books p ≡ with_part books x.cap i.number p'
  part_back p p' e = (part_lent books x.cap k.number a b p given.from given.to).1 ∙ ap (λ z. with_part books x.cap z.number p) given.who ∙ ap (with_part books x.cap i.number) e

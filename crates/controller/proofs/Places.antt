-- What stands at a place of a list.
use Rattle.std.proofs.Common.{◌≡◌, ℕ, zero, suc, ◌-◌, ◌<◌, true, cond, eqb, List, [], ◌∷◌, length, get_or, Some, None, sym, ap, arith, rules}
use Rattle.controller.specs.Books.{at_place, item}

module _ {A : Type 0} where
  pub item_within : (xs : List A) (i : ℕ) (x : A) → i < length xs → x ≡ get_or xs i x → item xs i ≡ Some x
  item_within [] i x lt read = let no : ⊥ = omega arith in elim no [ ]
  item_within (y ∷ ys) zero x lt read = ap (λ z. Some z) (sym read)
  item_within (y ∷ ys) (suc i) x lt read = item_within ys i x (omega arith) read

  pub place_zero : (xs : List A) (k : ℕ) → k < 1 → at_place xs k ≡ None
  place_zero xs k low =
      let none : eqb k 0 ≡ true = search rules in
      ap (λ b. cond b None (item xs (k - 1))) none

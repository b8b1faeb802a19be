-- What `item` reads of a list: after a put, and of a list that is made of others.
use Rattle.std.proofs.Common.{◌≡◌, ℕ, zero, suc, ◌-◌, ◌<◌, ◌≤◌, cond, ◌≢◌, ◌⊎◌, List, [], ◌∷◌, ◌++◌, length, take, set, Some, None, Option, sym, refl, ap, ◌∙◌, inl, inr, suc-le-suc, le_of_suc-le-suc, not-suc-le-zero, zero-lt-suc, map, arith}
use Rattle.std.specs.List.{range_with_len}
use Rattle.std.proofs.lemmas.List.FromFn.{get_or-map-range_with_len, length-map-range_with_len}
use Rattle.std.proofs.lemmas.Bool.{cases_lt, ne_eqb}
use Rattle.std.proofs.lemmas.Option.{none-some}
use Rattle.controller.specs.Books.{at_place, item}
use Rattle.controller.proofs.Places.{item_within, place_zero}

module _ {A : Type 0} where
  pub cases_option : (o : Option A) → (o ≡ None) ⊎ ((x : A) × (o ≡ Some x))
  cases_option None = inl refl
  cases_option (Some x) = inr (x, refl)

  -- every place within has an item, and no other

  pub item_some : (xs : List A) (i : ℕ) → i < length xs → (x : A) × (item xs i ≡ Some x)
  item_some [] i lt = absurd (not-suc-le-zero lt)
  item_some (x ∷ xs) zero lt = (x, refl)
  item_some (x ∷ xs) (suc i) lt = item_some xs i (le_of_suc-le-suc lt)

  pub item_below : (xs : List A) (i : ℕ) (x : A) → item xs i ≡ Some x → i < length xs
  item_below [] i x h = absurd (none-some x h)
  item_below (y ∷ ys) zero x h = zero-lt-suc (length ys)
  item_below (y ∷ ys) (suc i) x h = suc-le-suc (item_below ys i x h)

  -- after a put

  pub item_set_same : (xs : List A) (i : ℕ) (a : A) → i < length xs → item (set xs i a) i ≡ Some a
  item_set_same [] i a lt = absurd (not-suc-le-zero lt)
  item_set_same (x ∷ xs) zero a lt = refl
  item_set_same (x ∷ xs) (suc i) a lt = item_set_same xs i a (le_of_suc-le-suc lt)

  pub item_set_other : (xs : List A) (i j : ℕ) (a : A) → j ≢ i → item (set xs i a) j ≡ item xs j
  item_set_other [] i j a h = refl
  item_set_other (x ∷ xs) zero zero a h = absurd (h refl)
  item_set_other (x ∷ xs) zero (suc j) a h = refl
  item_set_other (x ∷ xs) (suc i) zero a h = refl
  item_set_other (x ∷ xs) (suc i) (suc j) a h = item_set_other xs i j a (λ e. h (ap suc e))

  -- of a front

  pub item_take : (k : ℕ) (xs : List A) (j : ℕ) → j < k → item (take k xs) j ≡ item xs j
  item_take zero xs j lt = absurd (not-suc-le-zero lt)
  item_take (suc k) [] j lt = refl
  item_take (suc k) (x ∷ xs) zero lt = refl
  item_take (suc k) (x ∷ xs) (suc j) lt = item_take k xs j (le_of_suc-le-suc lt)

  pub item_of_take : (k : ℕ) (xs : List A) (j : ℕ) (x : A) → item (take k xs) j ≡ Some x → (j < k) × (item xs j ≡ Some x)
  item_of_take zero xs j x h = absurd (none-some x h)
  item_of_take (suc k) [] j x h = absurd (none-some x h)
  item_of_take (suc k) (y ∷ ys) zero x h = (zero-lt-suc k, h)
  item_of_take (suc k) (y ∷ ys) (suc j) x h = let rest = item_of_take k ys j x h in (suc-le-suc rest.0, rest.1)

  pub item_append_left : (xs ys : List A) (j : ℕ) → j < length xs → item (xs ++ ys) j ≡ item xs j
  item_append_left [] ys j lt = absurd (not-suc-le-zero lt)
  item_append_left (x ∷ xs) ys zero lt = refl
  item_append_left (x ∷ xs) ys (suc j) lt = item_append_left xs ys j (le_of_suc-le-suc lt)

  -- of the first n values of a function
  pub item_counted : (f : ℕ → A) (n j : ℕ) → j < n → item (map f (range_with_len 0 n)) j ≡ Some (f j)
  item_counted f n j lt =
      item_within (map f (range_with_len 0 n)) j (f j) (omega (arith, length-map-range_with_len f 0 n)) (sym (get_or-map-range_with_len f 0 n j j (f j) lt (omega arith)))

  -- a list that has the same items is the front
  pub front_same : (xs ys : List A) → length ys ≤ length xs
      → ((j : ℕ) (x y : A) → item xs j ≡ Some x → item ys j ≡ Some y → x ≡ y) → take (length ys) xs ≡ ys
  front_same xs [] le same = refl
  front_same [] (y ∷ ys) le same = absurd (not-suc-le-zero le)
  front_same (x ∷ xs) (y ∷ ys) le same = ap (λ z. z ∷ take (length ys) xs) (same 0 x y refl refl) ∙ ap (λ r. y ∷ r) (front_same xs ys (le_of_suc-le-suc le) (λ j. same (suc j)))

  -- what stands at a place is the item before it

  pub at_item : (xs : List A) (k : ℕ) → 1 ≤ k → at_place xs k ≡ item xs (k - 1)
  at_item xs k low = ap (λ b. cond b None (item xs (k - 1))) (ne_eqb k 0 (λ e. omega arith))

  pub place_item : (xs : List A) (k : ℕ) (x : A) → at_place xs k ≡ Some x → (1 ≤ k) × (item xs (k - 1) ≡ Some x)
  place_item xs k x h = by (cases_lt k 1)
    where
      by : (k < 1) ⊎ (1 ≤ k) → (1 ≤ k) × (item xs (k - 1) ≡ Some x)
      by (inl z) = absurd (none-some x (sym (place_zero xs k z) ∙ h))
      by (inr z) = (z, sym (at_item xs k z) ∙ h)

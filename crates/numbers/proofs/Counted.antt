-- One element further in a count, and what the answer of a count or a search says of each element.
use Rattle.std.proofs.Common.{◌≡◌, ℕ, zero, suc, ◌+◌, ◌<◌, ◌≤◌, Bool, true, false, cond, List, [], ◌∷◌, length, get_or, drop, Some, None, Option, sym, refl, ap, ◌∙◌, subst, inl, inr, suc-le-suc, le_of_suc-le-suc, not-suc-le-zero, zero-lt-suc, arith}
use Rattle.std.proofs.lemmas.List.{drop_more}
use Rattle.std.proofs.lemmas.Option.{none-some, same_Some}
use Rattle.std.proofs.lemmas.Bool.{or_parts, or_cases, cases_Bool, false≢true}
use Rattle.std.proofs.lemmas.List.Recursion.{and_at, and_from_places, or_at}
use Rattle.numbers.specs.Counting.{count, every, some, first, first_from}

-- the list has what is read as one that is there
pub get_or_within : {A : Type 0} (xs : List (Option A)) (i : ℕ) (a : A) → get_or xs i None ≡ Some a → i < length xs
get_or_within [] i a h = absurd (none-some a h)
get_or_within (x ∷ xs) zero a h = zero-lt-suc (length xs)
get_or_within (x ∷ xs) (suc i) a h = suc-le-suc (get_or_within xs i a h)

module _ {A : Type 0} (test : A → Bool) where
  -- what is read at i is the first of what is left from i on
  split : (xs : List A) (i : ℕ) (x : A) → i < length xs → x ≡ get_or xs i x → drop i xs ≡ x ∷ drop (i + 1) xs
  split xs i x lt read = drop_more xs i x lt ∙ ap (λ y. y ∷ drop (i + 1) xs) (sym read)

  pub count_yes : (xs : List A) (i : ℕ) (x : A) → i < length xs → x ≡ get_or xs i x → test x ≡ true → count test (drop i xs) ≡ 1 + count test (drop (i + 1) xs)
  count_yes xs i x lt read passed = ap (count test) (split xs i x lt read) ∙ ap (λ b. cond b (1 + count test (drop (i + 1) xs)) (count test (drop (i + 1) xs))) passed

  pub count_no : (xs : List A) (i : ℕ) (x : A) → i < length xs → x ≡ get_or xs i x → test x ≡ false → count test (drop i xs) ≡ count test (drop (i + 1) xs)
  count_no xs i x lt read failed = ap (count test) (split xs i x lt read) ∙ ap (λ b. cond b (1 + count test (drop (i + 1) xs)) (count test (drop (i + 1) xs))) failed

  -- where every one passes, the one at i does
  pub every_at : (xs : List A) (i : ℕ) (d : A) → every test xs ≡ true → i < length xs → test (get_or xs i d) ≡ true
  every_at xs i d all lt = and_at (every test) test refl (λ x xs. refl) xs i d lt all

  pub every_from : (xs : List A) (d : A) → ((i : ℕ) → i < length xs → test (get_or xs i d) ≡ true) → every test xs ≡ true
  every_from xs d each = and_from_places (every test) test refl (λ x xs. refl) xs d each

  -- where none passes, the one at i does not
  pub some_none : (xs : List A) (i : ℕ) (d : A) → some test xs ≡ false → i < length xs → test (get_or xs i d) ≡ false
  some_none [] i d none lt = absurd (not-suc-le-zero lt)
  some_none (x ∷ xs) zero d none lt = (or_parts (test x) (some test xs) none).0
  some_none (x ∷ xs) (suc i) d none lt = some_none xs i d (or_parts (test x) (some test xs) none).1 (le_of_suc-le-suc lt)

  -- one that passes: its number, that the list has it, and that it passes
  abbrev pub PassesAt : List A → A → ℕ → Type 0
  PassesAt xs d i = (i < length xs) × (test (get_or xs i d) ≡ true)

  later : (x : A) (xs : List A) (d : A) → (i : ℕ) × PassesAt xs d i → (i : ℕ) × PassesAt (x ∷ xs) d i
  later x xs d p = (suc p.0, (suc-le-suc p.1.0, p.1.1))

  -- where some one passes, one does at a number
  pub some_at : (xs : List A) (d : A) → some test xs ≡ true → (i : ℕ) × PassesAt xs d i
  some_at [] d h = absurd (false≢true h)
  some_at (x ∷ xs) d h = elim (or_cases (test x) (some test xs) h) [ inl e ↦ (zero, (zero-lt-suc (length xs), e)) | inr k ↦ later x xs d (some_at xs d k) ]

  pub some_from : (xs : List A) (i : ℕ) (d : A) → PassesAt xs d i → some test xs ≡ true
  some_from xs i d p = or_at (some test) test refl (λ x xs. refl) xs i d p.0 p.1

  -- where one or more pass, one does at a number
  pub count_at : (xs : List A) (d : A) → 1 ≤ count test xs → (i : ℕ) × PassesAt xs d i
  count_at [] d h = absurd (not-suc-le-zero h)
  count_at (x ∷ xs) d h =
      elim (cases_Bool (test x)) [
        | inl e ↦ (zero, (zero-lt-suc (length xs), e))
        | inr e ↦ later x xs d (count_at xs d (subst (λ b. 1 ≤ cond b (1 + count test xs) (count test xs)) e h))
      ]

  -- the first that passes, at c
  abbrev pub FirstAt : List A → A → ℕ → Type 0
  FirstAt xs d c = PassesAt xs d c × ((i : ℕ) → i < c → test (get_or xs i d) ≡ false)

  first_later : (x : A) (xs : List A) (d : A) (c : ℕ) → test x ≡ false → FirstAt xs d c → FirstAt (x ∷ xs) d (suc c)
  first_later x xs d c e p =
      ((suc-le-suc p.0.0, p.0.1), elim [ zero ↦ λ lt. e | suc i ↦ λ lt. p.1 i (le_of_suc-le-suc lt) ])

  first_from_some : (k : ℕ) (xs : List A) (d : A) (c : ℕ) → first_from test k xs ≡ Some c → (i : ℕ) × (c ≡ k + i) × FirstAt xs d i
  first_from_some k [] d c h = absurd (none-some c h)
  first_from_some k (x ∷ xs) d c h =
      elim (cases_Bool (test x)) [
        | inl e ↦ (let same : k ≡ c = same_Some k c (subst (λ b. cond b (Some k) (first_from test (k + 1) xs) ≡ Some c) e h) in (zero, omega arith, ((zero-lt-suc (length xs), e), λ i lt. absurd (not-suc-le-zero lt))))
        | inr e ↦ (let more : (i : ℕ) × (c ≡ k + 1 + i) × FirstAt xs d i = first_from_some (k + 1) xs d c (subst (λ b. cond b (Some k) (first_from test (k + 1) xs) ≡ Some c) e h) in (suc more.0, omega arith, first_later x xs d more.0 e more.2))
      ]

  -- the first is at the number that `first` gives
  pub first_some : (xs : List A) (d : A) (c : ℕ) → first test xs ≡ Some c → FirstAt xs d c
  first_some xs d c h =
      let it : (i : ℕ) × (c ≡ 0 + i) × FirstAt xs d i = first_from_some 0 xs d c h in
      let same : it.0 ≡ c = omega arith in
      subst (FirstAt xs d) same it.2

  first_from_none : (k : ℕ) (xs : List A) (i : ℕ) (d : A) → first_from test k xs ≡ None → i < length xs → test (get_or xs i d) ≡ false
  first_from_none k [] i d h lt = absurd (not-suc-le-zero lt)
  first_from_none k (x ∷ xs) zero d h lt = elim (cases_Bool (test x)) [ inl e ↦ absurd (none-some k (sym (subst (λ b. cond b (Some k) (first_from test (k + 1) xs) ≡ None) e h))) | inr e ↦ e ]
  first_from_none k (x ∷ xs) (suc i) d h lt =
      elim (cases_Bool (test x)) [
        | inl e ↦ absurd (none-some k (sym (subst (λ b. cond b (Some k) (first_from test (k + 1) xs) ≡ None) e h)))
        | inr e ↦ first_from_none (k + 1) xs i d (subst (λ b. cond b (Some k) (first_from test (k + 1) xs) ≡ None) e h) (le_of_suc-le-suc lt)
      ]

  -- where there is no first, the one at i does not pass
  pub first_none : (xs : List A) (i : ℕ) (d : A) → first test xs ≡ None → i < length xs → test (get_or xs i d) ≡ false
  first_none xs i d h lt = first_from_none 0 xs i d h lt

-- The entries of a book that are used, by their number.
use Rattle.std.proofs.Common.{◌≡◌, ℕ, min, List, length, take, sym, ap, ◌∙◌, ⊎_elim, arith}
use Rattle.std.proofs.lemmas.Bool.{cases_lt}
use Rattle.std.proofs.lemmas.List.{take_all}

-- so many of a list as it has, and m at most, are its first m
pub cut_is : {A : Type 0} (xs : List A) (m u : ℕ) → u ≡ min (length xs) m → take u xs ≡ take m xs
cut_is xs m u e =
    ⊎_elim
    (λ lt. take_all u xs (omega (arith, e)) ∙ sym (take_all m xs (omega arith)))
    (λ ge. let same : u ≡ m = omega (arith, e) in ap (λ k. take k xs) same)
    (cases_lt (length xs) m)

-- A majority counted in a table is one of the protocol.
use Rattle.std.proofs.Common.{◌≡◌, ℕ, zero, suc, ◌+◌, ◌<◌, ◌≤◌, Bool, true, false, cond, List, [], ◌∷◌, ◌++◌, length, get_or, take, sym, refl, ap, ◌∙◌, arith, take-suc}
use Rattle.numbers.specs.Majorities.{majority_of}
use Rattle.numbers.specs.Counting.{count as counted}
use Rattle.protocol.specs.Majorities.{Majority, bit, count}

module _ {A : Type 0} (test : A → Bool) where
  -- one more at the end
  counted_push : (xs : List A) (x : A) → counted test (xs ++ (x ∷ [])) ≡ bit (test x) + counted test xs
  counted_push [] x = by (test x)
    where
      by : (b : Bool) → cond b (1 + 0) 0 ≡ bit b + 0
      by true = refl
      by false = refl
  counted_push (y ∷ ys) x = by (test y) (counted_push ys x)
    where
      by : (b : Bool) → counted test (ys ++ (x ∷ [])) ≡ bit (test x) + counted test ys
          → cond b (1 + counted test (ys ++ (x ∷ []))) (counted test (ys ++ (x ∷ []))) ≡ bit (test x) + cond b (1 + counted test ys) (counted test ys)
      by true e = omega arith
      by false e = e

  -- how many of the first n pass is how many numbers below n have one that passes
  counted_taken : (xs : List A) (d : A) (n : ℕ) → n ≤ length xs → counted test (take n xs) ≡ count (λ k. test (get_or xs k d)) n
  unfolding count
  counted_taken xs d zero h = refl
  counted_taken xs d (suc n) h =
      ap (counted test) (take-suc xs n d (omega arith)) ∙ counted_push (take n xs) (get_or xs n d) ∙ ap (λ k. bit (test (get_or xs n d)) + k) (counted_taken xs d n (omega arith))

-- two tests that agree below n
count_same : (p q : ℕ → Bool) (n : ℕ) → ((k : ℕ) → k < n → p k ≡ q k) → count p n ≡ count q n
unfolding count
count_same p q zero agree = refl
count_same p q (suc n) agree = ap (λ b. bit b + count p n) (agree n (omega arith)) ∙ ap (λ k. bit (q n) + k) (count_same p q n (λ k lt. agree k (omega arith)))

-- a majority of the first n pass one test, and the other agrees with it
pub majority_taken : {A : Type 0} (test : A → Bool) (xs : List A) (d : A) (n : ℕ) (p : ℕ → Bool) → n ≤ length xs → ((k : ℕ) → k < n → p k ≡ test (get_or xs k d))
    → majority_of n ≤ counted test (take n xs) → Majority n p
majority_taken test xs d n p long agree most =
    let counts : counted test (take n xs) ≡ count p n = counted_taken test xs d n long ∙ sym (count_same p (λ k. test (get_or xs k d)) n agree) in
    omega arith

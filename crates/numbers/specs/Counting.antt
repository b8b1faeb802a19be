-- Counting, every, some and the first, over a list.
use Rattle.std.specs.Prelude.{◌≡◌, ℕ, ◌+◌, Bool, true, false, if◌then◌else◌, ◌&&◌, ◌||◌, List, [], ◌∷◌, Some, None, Option}

-- whatever a closure gives of a value is the test's answer
abbrev pub Computes : {A : Type 0} → (A → Bool → Type 0) → (A → Bool) → Type 0
Computes {A = A} gives test = (x : A) (r : Bool) → gives x r → r ≡ test x

module _ {A : Type 0} (test : A → Bool) where
  -- how many pass the test
  abbrev pub count : List A → ℕ
  count [] = 0
  count (x ∷ xs) = if test x then 1 + count xs else count xs

  -- every one passes the test
  abbrev pub every : List A → Bool
  every [] = true
  every (x ∷ xs) = test x && every xs

  -- some one passes the test
  abbrev pub some : List A → Bool
  some [] = false
  some (x ∷ xs) = test x || some xs

  -- the number of the first that passes the test, where the list's own first has number k
  abbrev pub first_from : ℕ → List A → Option ℕ
  first_from k [] = None
  first_from k (x ∷ xs) = if test x then Some k else first_from (k + 1) xs

  abbrev pub first : List A → Option ℕ
  first xs = first_from 0 xs

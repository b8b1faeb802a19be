-- Numbers as a script writes them: plain digits, up to 65,535.
use Rattle.std.specs.Prelude.{◌≡◌, ℕ, ◌+◌, ◌-◌, ◌*◌, ◌^◌, ◌<◌, true, List, [], ◌∷◌, length, Option, MatchOption}
use Rattle.std.specs.Str.{all_ascii_digits}

-- the number that digits go on to write after n
abbrev pub going_on : ℕ → List ℕ → ℕ
going_on n [] = n
going_on n (c ∷ cs) = going_on (10 * n + (c - 48)) cs

abbrev pub written : List ℕ → ℕ
written = going_on 0

abbrev pub IsNumber : List ℕ → Type 0
IsNumber w = (all_ascii_digits w ≡ true) × (0 < length w) × (written w < 2 ^ 16)

-- a number is read just where one is written, and is the one that is written
abbrev pub Reads : List ℕ → Option ℕ → Type 0
Reads w r = MatchOption r (IsNumber w → ⊥) (λ n. IsNumber w × (n ≡ written w))

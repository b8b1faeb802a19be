-- Majorities of the numbers below n.
use Rattle.std.specs.Prelude.{Bool, true, false, ℕ, zero, suc, ◌+◌, ◌*◌, ◌<◌}

abbrev pub bit : Bool → ℕ
bit true = 1
bit false = 0

-- how many of the numbers below n pass the test
unfoldable pub count : (ℕ → Bool) → ℕ → ℕ
count q zero = 0
count q (suc n) = bit (q n) + count q n

-- more than half of the numbers below n pass the test
abbrev pub Majority : ℕ → (ℕ → Bool) → Type 0
Majority n q = n < 2 * count q n

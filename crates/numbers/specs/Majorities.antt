-- A majority of n controllers.
use Rattle.std.specs.Prelude.{ℕ, ◌+◌, ◌/◌}

abbrev pub majority_of : ℕ → ℕ
majority_of n = n / 2 + 1

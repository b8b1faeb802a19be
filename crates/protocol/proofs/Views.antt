-- A view's number has its count and its caller, and is ordered as they are.
use Rattle.std.specs.Prelude.{◌≡◌, ◌⊎◌, ℕ, ◌<◌}
use Rattle.std.proofs.Common.{inl, inr, arith}
use Rattle.std.proofs.Math.Decide.{dec_lt}
use Rattle.protocol.specs.Views.{view_number, count_of, caller_of}

-- an earlier count, or the same count and a smaller caller
abbrev pub Earlier : (a i b j : ℕ) → Type 0
Earlier a i b j = (a < b) ⊎ ((a ≡ b) × (i < j))

pub number_of_earlier : (a i b j : ℕ) → i < 8 → j < 8 → Earlier a i b j → view_number a i < view_number b j
number_of_earlier a i b j hi hj h = omega arith

pub earlier_of_number : (a i b j : ℕ) → i < 8 → j < 8 → view_number a i < view_number b j → Earlier a i b j
earlier_of_number a i b j hi hj h = go (dec_lt a b)
  where
    go : Dec (a < b) → Earlier a i b j
    go (yes k) = inl k
    go (no k) = inr (omega arith)

pub view_number_injective : (a i b j : ℕ) → i < 8 → j < 8 → view_number a i ≡ view_number b j → (a ≡ b) × (i ≡ j)
view_number_injective a i b j hi hj h = omega arith

pub view_number_parts : (a i : ℕ) → i < 8 → (count_of (view_number a i) ≡ a) × (caller_of (view_number a i) ≡ i)
view_number_parts a i h = omega arith

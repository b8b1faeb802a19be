-- Two majorities have a member in common.
use Rattle.std.specs.Prelude.{◌≡◌, refl, Bool, true, false, ℕ, zero, suc, ◌+◌, ◌<◌}
use Rattle.std.proofs.Common.{arith}
use Rattle.protocol.specs.Majorities.{bit, count, Majority}

pub record Meet (p q : ℕ → Bool) (n : ℕ) : Type 0 where
  pub who : ℕ
  pub below : who < n
  pub left : p who ≡ true
  pub right : q who ≡ true

-- two sets that are together more than n
pub meet : (p q : ℕ → Bool) (n : ℕ) → n < count p n + count q n → Meet p q n
unfolding count
meet p q zero h = absurd (omega arith)
meet p q (suc n) h = go (λ k. meet p q n k) (p n) (q n) refl refl h
  where
    up : Meet p q n → Meet p q (suc n)
    up m = record { who = m.who; below = omega arith; left = m.left; right = m.right }

    go : (n < count p n + count q n → Meet p q n) → (a b : Bool) → p n ≡ a → q n ≡ b → suc n < (bit a + count p n) + (bit b + count q n) → Meet p q (suc n)
    go ih true true e f k = record { who = n; below = omega arith; left = e; right = f }
    go ih true false e f k = up (ih (omega arith))
    go ih false true e f k = up (ih (omega arith))
    go ih false false e f k = up (ih (omega arith))

pub majorities_meet : (p q : ℕ → Bool) (n : ℕ) → Majority n p → Majority n q → Meet p q n
majorities_meet p q n h k = meet p q n (omega arith)

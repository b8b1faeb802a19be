-- A function changed at one place.
use Rattle.std.specs.Prelude.{ℕ}
use Rattle.std.proofs.Math.Decide.{ℕ_discrete}

abbrev pub pick : {X : Type 0} {P : Type 0} → Dec P → X → X → X
pick (yes _) x y = x
pick (no _) x y = y

-- the function f with x at i
unfoldable pub upd : {X : Type 0} → (ℕ → X) → ℕ → X → ℕ → X
upd f i x c = pick (ℕ_discrete c i) x (f c)

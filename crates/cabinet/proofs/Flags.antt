-- A flag that decides a fact, by what it says each way.
use Rattle.std.proofs.Common.{◌≡◌, Bool, true, false, refl}
use Rattle.std.specs.Bool.{Decides}

pub decides_by : (flag : Bool) (P : Type 0) → (flag ≡ true → P) → (flag ≡ false → P → ⊥) → Decides flag P
decides_by true P h k = (h, λ p. refl)
decides_by false P h k = (h, λ p. absurd (k refl p))

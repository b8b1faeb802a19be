-- Two views that are the same, or of which neither is earlier, are one.
use Rattle.std.proofs.Common.{◌≡◌, ℕ, Bool, true, false, ◌&&◌, ◌||◌, eqb, ltb, arith}
use Rattle.std.proofs.lemmas.Bool.{and_parts, eqb-true}
use Rattle.std.proofs.lemmas.Bool.Decides.{nat_tests}
use Rattle.numbers.specs.declared.views.View.{View}
use Rattle.numbers.specs.Views.{earlier, same_view, view_of}

-- the order as one of plain numbers
abbrev pub sooner : ℕ → ℕ → ℕ → ℕ → Bool
sooner a b c d = ltb a c || (eqb a c && ltb b d)

numbers_level : (a b c d : ℕ) → sooner a b c d ≡ false → sooner c d a b ≡ false → (eqb a c && eqb b d) ≡ true
numbers_level a b c d p q = grind (arith, nat_tests)

numbers_self : (a b : ℕ) → (eqb a a && eqb b b) ≡ true
numbers_self a b = grind (arith, nat_tests)

numbers_same : (a b c d : ℕ) → a ≡ c → b ≡ d → view_of a b ≡ view_of c d
numbers_same a b c d p q = cc

pub same_view_equal : (v w : View) → same_view v w ≡ true → v ≡ w
same_view_equal v w h =
    let parts : (eqb v.count.number w.count.number ≡ true) × (eqb v.controller.number w.controller.number ≡ true) = and_parts _ _ h in
    numbers_same v.count.number v.controller.number w.count.number w.controller.number (eqb-true _ _ parts.0) (eqb-true _ _ parts.1)

pub same_view_self : (v : View) → same_view v v ≡ true
same_view_self v = numbers_self v.count.number v.controller.number

-- of two views, neither of them earlier: they are one
pub views_level : (v w : View) → earlier v w ≡ false → earlier w v ≡ false → v ≡ w
views_level v w p q = same_view_equal v w (numbers_level v.count.number v.controller.number w.count.number w.controller.number p q)

-- What one event more hands out, and what it opens: with its own stamp, and of its own view, and nothing else.
use Rattle.std.proofs.Common.{◌≡◌, ℕ, suc, ◌≢◌, eqb, cond, ◌&&◌, List, [], ◌∷◌, ◌++◌, length, refl, ap}
use Rattle.std.proofs.lemmas.Bool.{and_from, and_parts, cond_both, eq-eqb, eqb-true}
use Rattle.protocol.specs.Model.{Entry, Event, handed, opening}
use Rattle.protocol.specs.Guarantee.{handed_with, openings_of}

module _ {E : Type 0} (h : List (Event E)) where
  pub handed_here : (w k : ℕ) (x : E) → handed_with w k (handed w k x ∷ h) ≡ x ∷ handed_with w k h
  handed_here w k x = ap (λ b. cond b (x ∷ []) [] ++ handed_with w k h) (and_from (eqb w w) (eqb k k) (eq-eqb w w refl) (eq-eqb k k refl))

  pub handed_elsewhere : (z j w k : ℕ) (x : E) → (z ≡ w → j ≡ k → ⊥) → handed_with w k (handed z j x ∷ h) ≡ handed_with w k h
  handed_elsewhere z j w k x other = cond_both (eqb z w && eqb j k) (x ∷ []) [] (λ ys. ys ++ handed_with w k h ≡ handed_with w k h)
      (λ e. let both = and_parts (eqb z w) (eqb j k) e in absurd (other (eqb-true z w both.0) (eqb-true j k both.1)))
      (λ _. refl)

  pub opening_here : (v l : ℕ) (f : ℕ → Entry E) → length (openings_of v (opening v l f ∷ h)) ≡ suc (length (openings_of v h))
  opening_here v l f = ap (λ b. length (cond b (opening v l f ∷ []) [] ++ openings_of v h)) (eq-eqb v v refl)

  pub opening_elsewhere : (w l : ℕ) (f : ℕ → Entry E) (v : ℕ) → w ≢ v → openings_of v (opening w l f ∷ h) ≡ openings_of v h
  opening_elsewhere w l f v other = cond_both (eqb w v) (opening w l f ∷ []) [] (λ xs. xs ++ openings_of v h ≡ openings_of v h)
      (λ e. absurd (other (eqb-true w v e)))
      (λ _. refl)

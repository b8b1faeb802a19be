-- What holds of each element of a list with one more.
use Rattle.std.specs.Prelude.{◌≡◌, ◌⊎◌, List, [], ◌∷◌, ◌++◌}
use Rattle.std.proofs.Math.Path.{refl, subst}
use Rattle.std.proofs.Common.{inl, inr, sym}
use Rattle.protocol.specs.Members.{Member}

module _ {X : Type 0} where
  -- to show P of each element of a list with one more

  pub each_first : (P : X → Type 0) (xs : List X) (y : X) → ((m : X) → Member m xs → P m) → P y → (m : X) → Member m (y ∷ xs) → P m
  each_first P xs y all here m (inl e) = subst P (sym e) here
  each_first P xs y all here m (inr h) = all m h

  pub each_last : (P : X → Type 0) (xs : List X) (y : X) → ((m : X) → Member m xs → P m) → P y → (m : X) → Member m (xs ++ (y ∷ [])) → P m
  each_last P [] y all here = each_first P [] y all here
  each_last P (x ∷ xs) y all here = each_first P (xs ++ (y ∷ [])) x (each_last P xs y (λ m h. all m (inr h)) here) (all x (inl refl))

  -- what is in a list with one more at its end was there, or is the one
  pub member_push : (xs : List X) (m y : X) → Member m (xs ++ (y ∷ [])) → Member m xs ⊎ (m ≡ y)
  member_push xs m y = each_last (λ k. Member k xs ⊎ (k ≡ y)) xs y (λ k h. inl h) (inr refl) m

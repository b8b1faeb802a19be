-- The members of a list are members of a longer one.
use Rattle.std.proofs.Common.{List, [], ◌∷◌, ◌++◌, refl, inl, inr}
use Rattle.protocol.specs.Members.{Member}

module _ {A : Type 0} where
  pub member_front : (x : A) (xs ys : List A) → Member x xs → Member x (xs ++ ys)
  member_front x [] ys h = absurd h
  member_front x (z ∷ zs) ys (inl e) = inl e
  member_front x (z ∷ zs) ys (inr h) = inr (member_front x zs ys h)

  pub member_last : (x : A) (xs : List A) → Member x (xs ++ (x ∷ []))
  member_last x [] = inl refl
  member_last x (z ∷ zs) = inr (member_last x zs)

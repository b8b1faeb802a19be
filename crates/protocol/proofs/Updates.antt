-- What a choice, and a function changed at one place, give.
use Rattle.std.specs.Prelude.{◌≡◌, ◌≢◌, ℕ}
use Rattle.std.proofs.Common.{refl, subst, sym}
use Rattle.std.proofs.Math.Decide.{ℕ_discrete}
use Rattle.protocol.specs.Updates.{pick, upd}

module _ {X : Type 0} where
  -- to show Q of what is chosen
  pub pick_all : {P : Type 0} (Q : X → Type 0) (d : Dec P) (x y : X) → (P → Q x) → ((P → ⊥) → Q y) → Q (pick d x y)
  pick_all Q (yes h) x y left right = left h
  pick_all Q (no h) x y left right = right h

  -- to show Q of each place of a changed function
  pub upd_all : (Q : ℕ → X → Type 0) (f : ℕ → X) (i : ℕ) (x : X) → Q i x → ((c : ℕ) → c ≢ i → Q c (f c)) → (c : ℕ) → Q c (upd f i x c)
  unfolding upd
  upd_all Q f i x here there c = pick_all (Q c) (ℕ_discrete c i) x (f c) (λ e. subst (λ (k : ℕ). Q k x) (sym e) here) (there c)

  pub upd_same : (f : ℕ → X) (i : ℕ) (x : X) → upd f i x i ≡ x
  upd_same f i x = upd_all (λ c y. c ≡ i → y ≡ x) f i x (λ _. refl) (λ c h e. absurd (h e)) i refl

  pub upd_other : (f : ℕ → X) (i : ℕ) (x : X) (c : ℕ) → c ≢ i → upd f i x c ≡ f c
  upd_other f i x = upd_all (λ c y. c ≢ i → y ≡ f c) f i x (λ h. absurd (h refl)) (λ c _ _. refl)

-- A confirmed entry is the one change that was handed out with its stamp; no stamp is handed out twice, and no view is opened twice.
use Rattle.std.proofs.Common.{◌≡◌, ℕ, ◌≤◌, ◌<◌, ◌⊎◌, [], ◌∷◌, length, sym, ap, subst, ◌∙◌, inl, inr, arith}
use Rattle.std.proofs.lemmas.Bool.{cases_lt}
use Rattle.protocol.specs.Model.{Entry, Site, View}
use Rattle.protocol.specs.Guarantee.{handed_with, openings_of}
use Rattle.protocol.proofs.Invariant.{ConfirmedOk, Invariant, Source, Stamped}

module _ {E : Type 0} (n : ℕ) (s : Site E) (inv : Invariant n s) where
  pub handed_once : (w l : ℕ) (f : ℕ → Entry E) → ConfirmedOk n s.replicas s.views w l f → (k : ℕ) → k < l → handed_with (f k).view k s.history ≡ (f k).what ∷ []
  handed_once w l f c k h =
      let t : Source s.views k (f k) = subst (λ y. Source s.views k y) (sym (c.begins.same k h)) (((inv.view_ok w).log c.begins.opens).source k (omega (arith, c.begins.within))) in
      (inv.told_ok (f k).view).once k (record { opens = t.stands.opens; above = t.above; below = t.stands.in_log }) ∙ ap (λ (y : Entry E). y.what ∷ []) t.stands.same

  pub handed_at_most_once : (w k : ℕ) → length (handed_with w k s.history) ≤ 1
  handed_at_most_once w k = go (cases_lt 0 V.opened_by) (cases_lt k V.opening_length) (cases_lt k V.log_length)
    where
      V : View E
      V = s.views w

      unused : (Stamped V.opened_by V.opening_length V.log_length k → ⊥) → length (handed_with w k s.history) ≤ 1
      unused h = omega (arith, ap length ((inv.told_ok w).unused k h))

      go : (0 < V.opened_by) ⊎ (V.opened_by ≤ 0) → (k < V.opening_length) ⊎ (V.opening_length ≤ k) → (k < V.log_length) ⊎ (V.log_length ≤ k) → length (handed_with w k s.history) ≤ 1
      go (inl o) (inr a) (inl b) = omega (arith, ap length ((inv.told_ok w).once k (record { opens = o; above = a; below = b })))
      go (inr o) _ _ = unused (λ t. omega (arith, t.opens))
      go _ (inl a) _ = unused (λ t. omega (arith, t.above))
      go _ _ (inr b) = unused (λ t. omega (arith, t.below))

  pub opened_at_most_once : (v : ℕ) → length (openings_of v s.history) ≤ 1
  opened_at_most_once v = go (cases_lt 0 (s.views v).opened_by)
    where
      go : (0 < (s.views v).opened_by) ⊎ ((s.views v).opened_by ≤ 0) → length (openings_of v s.history) ≤ 1
      go (inl o) = omega (arith, (inv.told_ok v).opened o)
      go (inr o) = omega (arith, (inv.told_ok v).unopened (omega arith))

-- Lookups, and slips settled as confirmed or lost, keep the invariant.
use Rattle.std.proofs.Common.{◌≡◌, ℕ, suc, ◌<◌, ltb, ◌≢◌, ap, ◌∙◌, arith}
use Rattle.std.proofs.lemmas.Bool.{ltb-true}
use Rattle.protocol.specs.Majorities.{Majority}
use Rattle.protocol.specs.Model.{active, looked_up, confirmed, lost, Site, note, IsPrimary}
use Rattle.protocol.proofs.Invariant.{Invariant, MajorityHad}
use Rattle.protocol.proofs.Frame.{step_note}
use Rattle.protocol.proofs.Active.{active_book, whole_log}

module _ {E : Type 0} (n : ℕ) (s : Site E) (inv : Invariant n s) where
  pub lookup_ok : (i : ℕ) → (s.replicas i).status ≡ active → Invariant n (note s (looked_up (s.replicas i).current (s.replicas i).length (s.replicas i).book))
  lookup_ok i a = step_note n s inv (looked_up (s.replicas i).current (s.replicas i).length (s.replicas i).book) inv.told_ok (active_book n s inv i a)

  -- a majority has acknowledged the length k to its primary
  past : (i k : ℕ) → IsPrimary s i → Majority n (λ d. ltb k ((s.replicas i).acknowledged d)) → MajorityHad n s.replicas (s.replicas i).current k
  past i k p most = record {
    who = λ d. ltb k ((s.replicas i).acknowledged d);
    most = most;
    had = λ c a b. omega (arith, ltb-true k ((s.replicas i).acknowledged c) b, (inv.replica_ok i).counted p.is_active p.is_primary c);
  }

  pub confirmed_ok : (i k : ℕ) → IsPrimary s i → k < (s.replicas i).length → Majority n (λ d. ltb (suc k) ((s.replicas i).acknowledged d))
      → Invariant n (note s (confirmed (s.replicas i).current (suc k) (s.replicas i).book))
  confirmed_ok i k p h most =
      let b = (active_book n s inv i p.is_active).begins in
      step_note n s inv (confirmed (s.replicas i).current (suc k) (s.replicas i).book) inv.told_ok
      (record {
        begins = record { opens = b.opens; within = omega (arith, b.within); same = λ j a. b.same j (omega arith) };
        most = past i (suc k) p most;
      })

  pub lost_ok : (i z k : ℕ) → IsPrimary s i → z < (s.replicas i).current → (k < (s.replicas i).length → ((s.replicas i).book k).view ≢ z)
      → Majority n (λ d. ltb 0 ((s.replicas i).acknowledged d)) → Invariant n (note s (lost (s.replicas i).current z k))
  lost_ok i z k p h no_such most =
      let b = (active_book n s inv i p.is_active).begins in
      step_note n s inv (lost (s.replicas i).current z k) inv.told_ok
      (record {
        opens = b.opens;
        later = h;
        clear = λ a e.
            let here : k < (s.replicas i).length = omega (arith, whole_log n s inv i p) in
            no_such here (ap (λ x. x.view) (b.same k here) ∙ e);
        most = past i 0 p most;
      })

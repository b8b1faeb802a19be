-- A crash and a recovery, which forget all but the two views, keep the invariant.
use Rattle.std.proofs.Common.{ℕ, ◌≢◌, refl, arith}
use Rattle.std.proofs.lemmas.Bool.{false≢true}
use Rattle.protocol.specs.Model.{Status, active, manager, Site, forgetting, with_replica}
use Rattle.protocol.proofs.Invariant.{Invariant}
use Rattle.protocol.proofs.Frame.{step_replica}

module _ {E : Type 0} (n : ℕ) (s : Site E) (inv : Invariant n s) where
  pub forgetting_ok : (i : ℕ) (t : Status) → t ≢ active → t ≢ manager → Invariant n (with_replica s i (forgetting (s.replicas i) t))
  forgetting_ok i t not_active not_manager =
      step_replica n s inv i (forgetting (s.replicas i) t) s.pool
      (record {
        promised_up = omega arith;
        floor_up = λ w. omega arith;
        floor_fix = λ w h. refl;
        waits = λ a f. absurd (false≢true f);
        manages = λ m. absurd (not_manager m);
      })
      (λ old.
      let h = old.replica i in
      record {
        state = record {
          ordered = h.state.ordered;
          idle = λ a f. absurd (false≢true f);
          active_complete = λ a. absurd (not_active a);
          active_current = λ a. absurd (not_active a);
        };
        held = record { its_book = λ f. absurd (false≢true f); floors = h.held.floors };
        answers = λ m. absurd (not_manager m);
        counted = λ a. absurd (not_active a);
      })
      (λ old. old.message)

-- Entries passed, invitations sent and messages lost keep the invariant.
use Rattle.std.proofs.Common.{ℕ, ◌<◌, List, sym, arith}
use Rattle.protocol.specs.Members.{Member}
use Rattle.protocol.specs.Model.{Message, invitation, entry, Site, with_pool, IsPrimary, after_pass, after_invite}
use Rattle.protocol.proofs.Invariant.{Invariant}
use Rattle.protocol.proofs.Frame.{step_pool, step_send}
use Rattle.protocol.proofs.Active.{active_book}

module _ {E : Type 0} (n : ℕ) (s : Site E) (inv : Invariant n s) where
  pub pass_ok : (i b k : ℕ) → IsPrimary s i → k < (s.replicas i).length → Invariant n (after_pass s i b k)
  pass_ok i b k p h =
      let a = (active_book n s inv i p.is_active).begins in
      step_send n s inv (entry i b (s.replicas i).current k ((s.replicas i).book k))
      (record { opens = a.opens; in_log = omega (arith, a.within); same = sym (a.same k h) })

  pub invite_ok : (i b : ℕ) → Invariant n (after_invite s i b)
  invite_ok i b = step_send n s inv (invitation i b (s.replicas i).promised) tt

  pub lose_ok : (ms : List (Message E)) → ((m : Message E) → Member m ms → Member m s.pool) → Invariant n (with_pool s ms)
  lose_ok ms sub = step_pool n s inv ms (λ m h. inv.message_ok m (sub m h))

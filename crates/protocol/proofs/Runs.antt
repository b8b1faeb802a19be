-- Every site that a run reaches satisfies the invariant.
use Rattle.std.proofs.Common.{ℕ, ◌<◌}
use Rattle.protocol.specs.Model.{waiting, down, Entry, Site}
use Rattle.protocol.specs.Model.{Next, change, pass, call, invite, form, deliver_invitation, deliver_answer, deliver_formation, deliver_entry}
use Rattle.protocol.specs.Model.{deliver_acknowledgement, join, settle_confirmed, settle_lost, lookup, crash, recover, lose, Run, start, then}
use Rattle.protocol.proofs.Invariant.{Invariant}
use Rattle.protocol.proofs.Sending.{invite_ok, lose_ok, pass_ok}
use Rattle.protocol.proofs.Settling.{confirmed_ok, lookup_ok, lost_ok}
use Rattle.protocol.proofs.Counting.{acknowledgement_ok, answer_ok}
use Rattle.protocol.proofs.Forgetting.{forgetting_ok}
use Rattle.protocol.proofs.Promising.{call_ok, invitation_ok}
use Rattle.protocol.proofs.Forming.{form_ok}
use Rattle.protocol.proofs.Opening.{open_ok}
use Rattle.protocol.proofs.Joining.{join_ok}
use Rattle.protocol.proofs.Appending.{entry_ok}
use Rattle.protocol.proofs.Changing.{change_ok}
use Rattle.protocol.proofs.Start.{invariant_at_start}

module _ {E : Type 0} where
  pub invariant_after : (n : ℕ) (s t : Site E) → Next n s t → Invariant n s → Invariant n t
  invariant_after n s t (change i x p) inv = change_ok n s inv i x p
  invariant_after n s t (pass i b k p h) inv = pass_ok n s inv i b k p h
  invariant_after n s t (call i h a) inv = call_ok n s inv i h
  invariant_after n s t (invite i b m) inv = invite_ok n s inv i b
  invariant_after n s t (form i c x l p m h e best rule) inv = form_ok n s inv i c x l p m e best rule
  invariant_after n s t (deliver_invitation a c v m u h) inv = invitation_ok n s inv a c v h
  invariant_after n s t (deliver_answer c i v a m u e) inv = answer_ok n s inv c i v a m e
  invariant_after n s t (deliver_formation i c v m w e h) inv = open_ok n s inv i c v m w e h
  invariant_after n s t (deliver_entry p b v k e m a h q) inv = entry_ok n s inv p b v k e m a h q
  invariant_after n s t (deliver_acknowledgement b p v l m q e) inv = acknowledgement_ok n s inv b p v l m e
  invariant_after n s t (join i p w q e h) inv = join_ok n s inv i p q e h
  invariant_after n s t (settle_confirmed i k p h m) inv = confirmed_ok n s inv i k p h m
  invariant_after n s t (settle_lost i z k p h c m) inv = lost_ok n s inv i z k p h c m
  invariant_after n s t (lookup i a) inv = lookup_ok n s inv i a
  invariant_after n s t (crash i u) inv = forgetting_ok n s inv i down (λ e. cc) (λ e. cc)
  invariant_after n s t (recover i d) inv = forgetting_ok n s inv i waiting (λ e. cc) (λ e. cc)
  invariant_after n s t (lose ms h) inv = lose_ok n s inv ms h

  pub invariant_of_run : (n : ℕ) (blank : ℕ → Entry E) → 0 < n → (s : Site E) → Run n blank s → Invariant n s
  invariant_of_run n blank some s start = invariant_at_start n blank some
  invariant_of_run n blank some s (then {s = r} run x) = invariant_after n r s x (invariant_of_run n blank some r run)

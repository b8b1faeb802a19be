-- A replica that appends an entry sent to it keeps the invariant.
use Rattle.std.proofs.Common.{◌≡◌, ℕ, suc, sym, ap, subst, ◌∙◌, arith}
use Rattle.protocol.specs.Updates.{upd}
use Rattle.protocol.specs.Members.{Member}
use Rattle.protocol.specs.Model.{active, Entry, Replica, entry, acknowledgement, Site, appending, after_entry}
use Rattle.protocol.proofs.Updates.{upd_same}
use Rattle.protocol.proofs.Members.{each_last}
use Rattle.protocol.proofs.Invariant.{EntryOk, Invariant, MessageOk}
use Rattle.protocol.proofs.Frame.{step_replica}
use Rattle.protocol.proofs.Advancing.{appending_grows, appending_ok}

module _ {E : Type 0} (n : ℕ) (s : Site E) (inv : Invariant n s) where
  module _ (p b v k : ℕ) (e : Entry E) (mem : Member (entry p b v k e) s.pool)
      (act : (s.replicas b).status ≡ active) (here : (s.replicas b).current ≡ v) (place : k ≡ (s.replicas b).length) where
    abbrev r : Replica E
    r = s.replicas b

    abbrev replica' : Replica E
    replica' = appending r e r.acknowledged

    abbrev site' : Site E
    site' = after_entry s p b v e

    there : EntryOk (s.views r.current) r.length e
    there = subst (λ y. EntryOk (s.views y) r.length e) (sym here) (subst (λ j. EntryOk (s.views v) j e) place (inv.message_ok (entry p b v k e) mem))

    floor_is : (site'.replicas b).floor v ≡ suc (suc r.length)
    floor_is = ap (λ y. y.floor v) (upd_same s.replicas b replica') ∙ ap (λ y. upd r.floor r.current (suc (suc r.length)) y) (sym here)
        ∙ upd_same r.floor r.current (suc (suc r.length))

    pub entry_ok : Invariant n site'
    entry_ok =
        step_replica n s inv b replica' site'.pool (appending_grows (inv.replica_ok b) e r.acknowledged act)
        (λ old. appending_ok (old.replica b) e r.acknowledged act there ((old.replica b).counted act))
        (λ old. each_last (λ m. MessageOk n site'.replicas site'.views m) s.pool (acknowledgement b p v (suc r.length)) old.message (omega (arith, floor_is)))

-- A replica that joins a primary, with a copy of its book, keeps the invariant.
use Rattle.std.proofs.Common.{◌≡◌, ℕ, suc, ◌<◌, refl, sym, ap, subst, ◌∙◌, arith}
use Rattle.protocol.specs.Model.{Entry, Replica, acknowledgement, Site, entering, IsPrimary, after_join}
use Rattle.protocol.proofs.Updates.{upd_same}
use Rattle.protocol.proofs.Members.{each_last}
use Rattle.protocol.proofs.Invariant.{Invariant, LookupOk, MessageOk}
use Rattle.protocol.proofs.Frame.{step_replica}
use Rattle.protocol.proofs.Active.{active_book, leads}
use Rattle.protocol.proofs.Advancing.{entering_grows, entering_ok}

module _ {E : Type 0} (n : ℕ) (s : Site E) (inv : Invariant n s) where
  module _ (i p : ℕ) (primary : IsPrimary s p) (same : (s.replicas p).current ≡ (s.replicas i).promised) (later : (s.replicas i).current < (s.replicas p).current) where
    abbrev v : ℕ
    v = (s.replicas i).promised

    abbrev l : ℕ
    l = (s.replicas p).length

    abbrev f : ℕ → Entry E
    f = (s.replicas p).book

    abbrev replica' : Replica E
    replica' = entering (s.replicas i) v p l f (λ _. 0)

    abbrev site' : Site E
    site' = after_join s i p

    floor_is : (site'.replicas i).floor v ≡ suc l
    floor_is = ap (λ y. y.floor v) (upd_same s.replicas i replica') ∙ upd_same (s.replicas i).floor v (suc l)

    pub join_ok : Invariant n site'
    join_ok =
        step_replica n s inv i replica' site'.pool
        (entering_grows (inv.replica_ok i) v p l f (λ _. 0) (omega arith) refl)
        (λ old. entering_ok (old.replica i) v p l f (λ _. 0) (omega arith)
        (ap (λ y. (s.views y).opened_by) (sym same) ∙ leads n s inv p primary)
        (subst (λ y. LookupOk (s.views y) l f) same (active_book n s inv p primary.is_active))
        (λ _ d. omega arith))
        (λ old. each_last (λ m. MessageOk n site'.replicas site'.views m) s.pool (acknowledgement i p v l) old.message (omega (arith, floor_is)))

-- A form message taken: its replica opens the view, and the invariant is kept.
use Rattle.std.proofs.Common.{◌≡◌, ℕ, suc, pred, ◌≤◌, ◌<◌, true, ◌⊎◌, length, refl, sym, ap, subst, ◌∙◌, inl, inr, arith}
use Rattle.std.proofs.lemmas.Bool.{cases_lt}
use Rattle.protocol.specs.Updates.{upd}
use Rattle.protocol.specs.Members.{Member}
use Rattle.protocol.specs.Model.{waiting, Entry, Replica, View, formation, opening, Site, entering, opening_by, after_formation}
use Rattle.protocol.proofs.Updates.{upd_all, upd_same}
use Rattle.protocol.proofs.Members.{each_first}
use Rattle.protocol.proofs.Invariant.{BookOk, EventOk, FormationOk, Idle, Invariant, LookupOk, ReplicaOk, Source, Told, ViewOk}
use Rattle.protocol.proofs.Growth.{Grows, one_replica, one_view}
use Rattle.protocol.proofs.Stable.{safe_stable, source_stable}
use Rattle.protocol.proofs.Frame.{still}
use Rattle.protocol.proofs.Advancing.{entering_grows, entering_ok, no_floor}
use Rattle.protocol.proofs.History.{opening_elsewhere, opening_here}

module _ {E : Type 0} (n : ℕ) (s : Site E) (inv : Invariant n s) where
  module _ (i c v : ℕ) (mem : Member (formation i c v) s.pool)
      (waits : (s.replicas c).status ≡ waiting) (here : (s.replicas c).promised ≡ v) (complete : (s.replicas c).complete ≡ true) where
    abbrev r : Replica E
    r = s.replicas c

    abbrev l : ℕ
    l = r.length

    abbrev f : ℕ → Entry E
    f = r.book

    abbrev acknowledged : ℕ → ℕ
    acknowledged = upd (λ _. 0) c (suc l)

    abbrev replica' : Replica E
    replica' = entering r v c l f acknowledged

    abbrev view' : View E
    view' = opening_by (s.views v) c l f

    abbrev site' : Site E
    site' = after_formation s c v

    idle_now : Idle r.status
    idle_now = subst (λ y. Idle y) (sym waits) tt

    formation_ok : FormationOk n s.replicas s.views c v
    formation_ok = inv.message_ok (formation i c v) mem

    book_ok : BookOk (s.views r.current) r.primary (r.floor r.current) l f
    book_ok = (inv.replica_ok c).held.its_book complete

    later : r.current < v
    later = omega (arith, (inv.replica_ok c).state.idle idle_now complete)

    not_open : (s.views v).opened_by ≡ 0
    not_open = go (cases_lt 0 (s.views v).opened_by)
      where
        go : (0 < (s.views v).opened_by) ⊎ ((s.views v).opened_by ≤ 0) → (s.views v).opened_by ≡ 0
        go (inr k) = omega arith
        go (inl k) =
            let d : ℕ = pred (s.views v).opened_by in
            let e : (s.views v).opened_by ≡ suc d = omega arith in
            let q : d ≡ c = omega (arith, (inv.view_ok v).formed.own d e, formation_ok.named) in
            absurd (omega (arith, (inv.view_ok v).led d e, ap (λ y. (s.replicas y).floor v) q, no_floor (inv.replica_ok c) v later))

    site_grows : Grows s.replicas site'.replicas s.views site'.views
    site_grows = record {
      replica = one_replica s.replicas c replica' (entering_grows (inv.replica_ok c) v c l f acknowledged later here);
      view = one_view s.views v view' (record { opened_by_fix = λ d h. absurd (omega (arith, not_open)); formed_for_fix = λ d h. h; log = λ h. absurd (omega (arith, not_open)) });
    }

    view_is : site'.views v ≡ view'
    view_is = upd_same s.views v view'

    floor_is : (site'.replicas c).floor v ≡ suc l
    floor_is = ap (λ y. y.floor v) (upd_same s.replicas c replica') ∙ upd_same r.floor v (suc l)

    book_now : LookupOk (site'.views v) l f
    book_now = subst (λ y. LookupOk y l f) (sym view_is)
        (record { begins = record { opens = omega arith; within = omega arith; same = λ j k. refl }; above = omega arith })

    source_now : (j : ℕ) → j < l → Source site'.views j (f j)
    source_now j k = source_stable site_grows j (f j)
        (subst (λ y. Source s.views j y) (sym (book_ok.begins.same j k))
        (((inv.view_ok r.current).log book_ok.begins.opens).source j (omega (arith, book_ok.begins.within))))

    view_now : ViewOk n site'.replicas site'.views v (s.views v) → ViewOk n site'.replicas site'.views v view'
    view_now h = record {
      log = λ _. record { fits = omega arith; begins = λ j k. refl; stamps = λ j a b. absurd (omega arith); source = source_now };
      formed = record { own = λ d e. formation_ok.named ∙ e; past = h.formed.past; over = h.formed.over };
      led = λ d e.
          let q : d ≡ c = omega arith in
          omega (arith, floor_is, ap (λ y. (site'.replicas y).floor v) q);
      safe = λ _ u k. safe_stable site_grows {n = n} (formation_ok.ready idle_now complete here u k);
    }

    told_here : Told v view' site'.history
    told_here = record {
      once = λ k t. absurd (omega (arith, t.above, t.below));
      unused = λ k _. (inv.told_ok v).unused k (λ t. omega (arith, t.opens, not_open));
      opened = λ _. omega (arith, opening_here s.history v l f, (inv.told_ok v).unopened not_open);
      unopened = λ e. absurd (omega arith);
    }

    told_elsewhere : (w : ℕ) → (v ≡ w → ⊥) → Told w (s.views w) site'.history
    told_elsewhere w other =
        let h = inv.told_ok w in
        let as_before = ap length (opening_elsewhere s.history v l f w other) in
        record { once = h.once; unused = h.unused; opened = λ o. as_before ∙ h.opened o; unopened = λ e. as_before ∙ h.unopened e }

    pub open_ok : Invariant n site'
    open_ok =
        let old = still n s inv site_grows in
        record {
          replica_ok = upd_all (λ d y. ReplicaOk n site'.replicas site'.views d y) s.replicas c replica'
              (entering_ok (old.replica c) v c l f acknowledged (omega (arith, later))
              (ap (λ y. y.opened_by) view_is) book_now
              (λ _. upd_all (λ d y. y ≤ (site'.replicas d).floor v) (λ _. 0) c (suc l) (omega (arith, floor_is)) (λ d _. omega arith)))
              (λ d _. old.replica d);
          view_ok = upd_all (λ w y. ViewOk n site'.replicas site'.views w y) s.views v view' (view_now (old.view v)) (λ w _. old.view w);
          told_ok = upd_all (λ w y. Told w y site'.history) s.views v view' told_here (λ w other. told_elsewhere w (λ e. other (sym e)));
          message_ok = old.message;
          event_ok = each_first (λ x. EventOk n site'.replicas site'.views x) s.history (opening v l f) old.event (record {
            opens = omega (arith, ap (λ y. y.opened_by) view_is);
            length_is = ap (λ y. y.opening_length) view_is;
            book_is = ap (λ y. y.opening_book) view_is;
          });
        }

-- A change appended by a primary, with a stamp of its own, keeps the invariant.
use Rattle.std.proofs.Common.{◌≡◌, ℕ, suc, ◌≤◌, ◌<◌, ◌≢◌, [], ◌∷◌, refl, sym, ap, subst, ◌∙◌, arith}
use Rattle.protocol.specs.Updates.{upd}
use Rattle.protocol.specs.Model.{Entry, Replica, View, handed, Site, appending, growing, IsPrimary, after_change}
use Rattle.protocol.specs.Guarantee.{handed_with}
use Rattle.protocol.proofs.Updates.{upd_all, upd_other, upd_same}
use Rattle.protocol.proofs.Members.{each_first}
use Rattle.protocol.proofs.Invariant.{EntryOk, EventOk, Invariant, LogOk, Opened, ReplicaOk, Source, Stamped, Told, ViewOk}
use Rattle.protocol.proofs.Growth.{Grows, LogGrows, one_replica, one_view}
use Rattle.protocol.proofs.Frame.{still}
use Rattle.protocol.proofs.Active.{leads, whole_log}
use Rattle.protocol.proofs.Advancing.{appending_grows, appending_ok}
use Rattle.protocol.proofs.History.{handed_elsewhere, handed_here}

module _ {E : Type 0} (n : ℕ) (s : Site E) (inv : Invariant n s) where
  module _ (i : ℕ) (x : E) (primary : IsPrimary s i) where
    abbrev r : Replica E
    r = s.replicas i

    abbrev v : ℕ
    v = r.current

    abbrev l : ℕ
    l = r.length

    abbrev V : View E
    V = s.views v

    abbrev e : Entry E
    e = record { view = v; what = x }

    abbrev acknowledged : ℕ → ℕ
    acknowledged = upd r.acknowledged i (suc (suc l))

    abbrev replica' : Replica E
    replica' = appending r e acknowledged

    abbrev view' : View E
    view' = growing V e

    abbrev site' : Site E
    site' = after_change s i x

    log_is : V.log_length ≡ l
    log_is = whole_log n s inv i primary

    led_by : V.opened_by ≡ suc i
    led_by = leads n s inv i primary

    opens : Opened V
    opens = omega (arith, led_by)

    old_log : LogOk s.views v V.opening_length V.opening_book V.log_length V.log
    old_log = (inv.view_ok v).log opens

    log_grows : LogGrows v V view'
    log_grows = record {
      opening_length_fix = refl;
      opening_book_fix = refl;
      log_length_up = omega arith;
      log_fix = λ j k. upd_other V.log V.log_length e j (omega arith);
      log_new = upd_all (λ j y. V.log_length ≤ j → j < suc V.log_length → y.view ≡ v) V.log V.log_length e (λ _ _. refl) (λ j d a b. absurd (d (omega arith)));
    }

    site_grows : Grows s.replicas site'.replicas s.views site'.views
    site_grows = record {
      replica = one_replica s.replicas i replica' (appending_grows (inv.replica_ok i) e acknowledged primary.is_active);
      view = one_view s.views v view' (record { opened_by_fix = λ d h. h; formed_for_fix = λ d h. h; log = λ h. log_grows });
    }

    floor_is : (site'.replicas i).floor v ≡ suc (suc l)
    floor_is = ap (λ y. y.floor v) (upd_same s.replicas i replica') ∙ upd_same r.floor v (suc (suc l))

    there : EntryOk (site'.views v) V.log_length e
    there = subst (λ y. EntryOk y V.log_length e) (sym (upd_same s.views v view')) (record { opens = opens; in_log = omega arith; same = upd_same V.log V.log_length e })

    source_now : Source site'.views V.log_length e
    source_now = record { stands = there; above = omega (arith, ap (λ y. y.opening_length) (upd_same s.views v view'), old_log.fits) }

    view_now : ViewOk n site'.replicas site'.views v V → ViewOk n site'.replicas site'.views v view'
    view_now k = record {
      log = λ o.
          let h = k.log o in
          record {
            fits = omega (arith, h.fits);
            begins = λ j q. upd_other V.log V.log_length e j (omega (arith, h.fits)) ∙ h.begins j q;
            stamps = upd_all (λ j y. V.opening_length ≤ j → j < suc V.log_length → y.view ≡ v) V.log V.log_length e (λ _ _. refl) (λ j d a b. h.stamps j a (omega arith));
            source = upd_all (λ j y. j < suc V.log_length → Source site'.views j y) V.log V.log_length e (λ _. source_now) (λ j d q. h.source j (omega arith));
          };
      formed = k.formed;
      led = λ d e.
          let q : d ≡ i = omega (arith, led_by) in
          omega (arith, floor_is, log_is, ap (λ y. (site'.replicas y).floor v) q);
      safe = k.safe;
    }

    -- the new stamp, which nothing had, and the others of the view
    told_here : Told v view' site'.history
    told_here = record {
      once = upd_all (λ k y. Stamped V.opened_by V.opening_length (suc V.log_length) k → handed_with v k site'.history ≡ y.what ∷ []) V.log V.log_length e
          (λ _. given) (λ k other t. as_before k other ∙ h.once k (record { opens = t.opens; above = t.above; below = omega (arith, t.below) }));
      unused = λ k not. as_before k (λ q. not (record { opens = opens; above = omega (arith, old_log.fits); below = omega arith }))
          ∙ h.unused k (λ t. not (record { opens = t.opens; above = t.above; below = omega (arith, t.below) }));
      opened = h.opened;
      unopened = h.unopened;
    }
      where
        h : Told v V s.history
        h = inv.told_ok v

        as_before : (k : ℕ) → k ≢ V.log_length → handed_with v k site'.history ≡ handed_with v k s.history
        as_before k other = handed_elsewhere s.history v l v k x (λ _ q. other (omega (arith, log_is)))

        given : handed_with v V.log_length site'.history ≡ x ∷ []
        given = ap (λ k. handed_with v V.log_length (handed v k x ∷ s.history)) (sym log_is) ∙ handed_here s.history v V.log_length x
            ∙ ap (λ ys. x ∷ ys) (h.unused V.log_length (λ t. omega (arith, t.below)))

    told_elsewhere : (w : ℕ) → (v ≡ w → ⊥) → Told w (s.views w) site'.history
    told_elsewhere w other = record { once = λ k t. as_before k ∙ h.once k t; unused = λ k t. as_before k ∙ h.unused k t; opened = h.opened; unopened = h.unopened }
      where
        h : Told w (s.views w) s.history
        h = inv.told_ok w

        as_before : (k : ℕ) → handed_with w k site'.history ≡ handed_with w k s.history
        as_before k = handed_elsewhere s.history v l w k x (λ q _. other q)

    pub change_ok : Invariant n site'
    change_ok =
        let old = still n s inv site_grows in
        record {
          replica_ok = upd_all (λ d y. ReplicaOk n site'.replicas site'.views d y) s.replicas i replica'
              (appending_ok (old.replica i) e acknowledged primary.is_active
              (subst (λ j. EntryOk (site'.views v) j e) log_is there)
              (λ b. upd_all (λ d y. y ≤ (site'.replicas d).floor v) r.acknowledged i (suc (suc l)) (omega (arith, floor_is))
              (λ d _. (old.replica i).counted primary.is_active b d)))
              (λ d _. old.replica d);
          view_ok = upd_all (λ w y. ViewOk n site'.replicas site'.views w y) s.views v view' (view_now (old.view v)) (λ w _. old.view w);
          told_ok = upd_all (λ w y. Told w y site'.history) s.views v view' told_here (λ w other. told_elsewhere w (λ q. other (sym q)));
          message_ok = old.message;
          event_ok = each_first (λ y. EventOk n site'.replicas site'.views y) s.history (handed v l x) old.event tt;
        }

-- A manager that forms its view keeps the invariant.
use Rattle.std.proofs.Common.{◌≡◌, ℕ, suc, ◌≤◌, ◌<◌, Bool, ◌⊎◌, sym, ap, subst, ◌∙◌, inl, inr, arith}
use Rattle.std.proofs.lemmas.Bool.{cases_lt}
use Rattle.protocol.specs.Updates.{upd}
use Rattle.protocol.specs.Views.{caller_of}
use Rattle.protocol.specs.Model.{manager, normal, Replica, View, formation, Site, Latest, Rule, resting, forming, after_form}
use Rattle.protocol.proofs.Updates.{upd_all, upd_same}
use Rattle.protocol.proofs.Members.{each_last}
use Rattle.protocol.proofs.Invariant.{AnswerOk, Idle, Invariant, MessageOk, ReplicaOk, Told, ViewOk}
use Rattle.protocol.proofs.Growth.{Grows, log_same, one_replica, one_view, replica_stays}
use Rattle.protocol.proofs.Stable.{ready_stable}
use Rattle.protocol.proofs.Frame.{still}
use Rattle.protocol.proofs.Choosing.{chosen_safe}

module _ {E : Type 0} (n : ℕ) (s : Site E) (inv : Invariant n s) where
  module _ (i c x l : ℕ) (p : Bool) (manages : (s.replicas i).status ≡ manager) (answered : (s.replicas i).answers c ≡ normal x l p)
      (best : Latest n (s.replicas i).answers x l) (rule : Rule n (s.replicas i).answers x) where
    abbrev v : ℕ
    v = (s.replicas i).promised

    abbrev replica' : Replica E
    replica' = resting (s.replicas i)

    abbrev view' : View E
    view' = forming (s.views v) c

    abbrev site' : Site E
    site' = after_form s i c

    idle_now : Idle (s.replicas i).status
    idle_now = subst (λ y. Idle y) (sym manages) tt

    own : caller_of v ≡ i
    own = ((inv.replica_ok i).answers manages).own

    unformed : (s.views v).formed_for ≡ 0
    unformed = go (cases_lt 0 (s.views v).formed_for)
      where
        go : (0 < (s.views v).formed_for) ⊎ ((s.views v).formed_for ≤ 0) → (s.views v).formed_for ≡ 0
        go (inl h) = absurd ((inv.view_ok v).formed.over h (ap (λ y. (s.replicas y).promised) own) (ap (λ y. (s.replicas y).status) own ∙ manages))
        go (inr h) = omega arith

    site_grows : Grows s.replicas site'.replicas s.views site'.views
    site_grows = record {
      replica = one_replica s.replicas i replica' (replica_stays (s.replicas i) replica' (λ _. idle_now) (λ m. absurd (cc)));
      view = one_view s.views v view'
          (record { opened_by_fix = λ d h. h; formed_for_fix = λ d h. absurd (omega (arith, unformed)); log = λ h. log_same v (s.views v) (suc c) });
    }

    here : site'.replicas (caller_of v) ≡ replica'
    here = ap (upd s.replicas i replica') own ∙ upd_same s.replicas i replica'

    past : v ≤ (s.replicas c).promised
    past = (subst (λ y. AnswerOk (s.replicas c) s.views c v y) answered (((inv.replica_ok i).answers manages).each c)).last.past

    pub form_ok : Invariant n site'
    form_ok =
        let old = still n s inv site_grows in
        let h = old.replica i in
        let k = old.view v in
        record {
          replica_ok = upd_all (λ d y. ReplicaOk n site'.replicas site'.views d y) s.replicas i replica'
              (record {
                state = record { ordered = h.state.ordered; idle = λ a f. h.state.idle idle_now f; active_complete = λ a. absurd (cc); active_current = λ a. absurd (cc) };
                held = h.held;
                answers = λ m. absurd (cc);
                counted = λ a. absurd (cc);
              })
              (λ d _. old.replica d);
          view_ok = upd_all (λ w y. ViewOk n site'.replicas site'.views w y) s.views v view'
              (record {
                log = k.log;
                formed = record {
                  own = λ d e. absurd (omega (arith, k.formed.own d e, unformed));
                  past = λ _. omega (arith, ap (λ y. y.promised) here);
                  over = λ _ _ m. let a = ap (λ y. y.status) here in cc;
                };
                led = k.led;
                safe = k.safe;
              })
              (λ w _. old.view w);
          told_ok = upd_all (λ w y. Told w y s.history) s.views v view' (inv.told_ok v) (λ w _. inv.told_ok w);
          message_ok = each_last (λ m. MessageOk n site'.replicas site'.views m) s.pool (formation i c v) old.message (record {
            named = ap (λ y. y.formed_for) (upd_same s.views v view');
            past = omega (arith, past, (site_grows.replica c).promised_up);
            ready = ready_stable site_grows n c v past
                (chosen_safe n s inv v (s.replicas i).answers ((inv.replica_ok i).answers manages).each x l best rule c p answered);
          });
          event_ok = old.event;
        }

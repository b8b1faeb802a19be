-- Promises keep the invariant: a replica calls a view, or accepts an invitation to one.
use Rattle.std.proofs.Common.{◌≡◌, ℕ, suc, ◌<◌, ◌≢◌, eqb, Bool, true, false, List, sym, ap, subst, ◌∙◌, refl, inl, arith}
use Rattle.std.proofs.lemmas.Bool.{eqb-true}
use Rattle.protocol.specs.Updates.{upd}
use Rattle.protocol.specs.Members.{Member}
use Rattle.protocol.specs.Model.{Status, active, manager, waiting, Answer, none, crashed, normal, Replica, View, Site}
use Rattle.protocol.specs.Model.{Message, answer, promising, answer_of, next_view, after_call, after_invitation}
use Rattle.protocol.proofs.Updates.{upd_all, upd_same}
use Rattle.protocol.proofs.Members.{each_last}
use Rattle.protocol.proofs.Invariant.{AnswerOk, AnswersOk, Invariant, LastIn, MessageOk, ReplicaOk}
use Rattle.protocol.proofs.Frame.{Still, step_replica}

module _ {E : Type 0} where
  -- what c answers is so once it has promised v
  answer_of_ok : {n : ℕ} {R : ℕ → Replica E} {W : ℕ → View E} {c : ℕ} {r : Replica E} → ReplicaOk n R W c r → (t : Status) (v : ℕ) (a : ℕ → Answer) → r.promised < v
      → AnswerOk (promising r t v a) W c v (answer_of c r)
  answer_of_ok {W} {c} {r} h t v a up = go r.complete refl
    where
      last : LastIn (promising r t v a) v r.current
      last = record { past = omega arith; upto = λ w _ b. (h.held.floors w b).reached }

      go : (b : Bool) → r.complete ≡ b
          → AnswerOk (promising r t v a) W c v (elim b [ true ↦ normal r.current r.length (eqb r.primary c) | false ↦ crashed r.current ])
      go true f = record {
        last = last;
        before = omega (arith, h.state.ordered);
        at_floor = (h.held.its_book f).at_floor;
        leads = λ e. (h.held.its_book f).led ∙ ap suc (eqb-true r.primary c e);
        kept = λ _ _ _. refl;
      }
      go false f = last

  module _ (n : ℕ) (s : Site E) (inv : Invariant n s) where
    -- i promises v
    module _ (i : ℕ) (t : Status) (v : ℕ) (a : ℕ → Answer) (up : (s.replicas i).promised < v) where
      abbrev r' : Replica E
      r' = promising (s.replicas i) t v a

      abbrev R : ℕ → Replica E
      R = upd s.replicas i r'

      own_answer : AnswerOk (R i) s.views i v (answer_of i (s.replicas i))
      own_answer = subst (λ x. AnswerOk x s.views i v (answer_of i (s.replicas i))) (sym (upd_same s.replicas i r')) (answer_of_ok (inv.replica_ok i) t v a up)

      promise_ok : (ms : List (Message E)) → t ≢ active → (t ≡ manager → AnswersOk R s.views i v a)
          → (Still n s inv R s.views → (m : Message E) → Member m ms → MessageOk n R s.views m)
          → Invariant n (record s { replicas = R; pool = ms })
      promise_ok ms not_active answers messages =
          step_replica n s inv i r' ms
          (record { promised_up = omega arith; floor_up = λ w. omega arith; floor_fix = λ w h. refl; waits = λ _ _. inl up; manages = λ _. inl up })
          (λ old.
          let h = old.replica i in
          record {
            state = record {
              ordered = omega (arith, h.state.ordered);
              idle = λ _ _. omega (arith, h.state.ordered);
              active_complete = λ x. absurd (not_active x);
              active_current = λ x. absurd (not_active x);
            };
            held = h.held;
            answers = answers;
            counted = λ x. absurd (not_active x);
          })
          messages

    pub call_ok : (i : ℕ) → i < 8 → Invariant n (after_call s i)
    call_ok i h =
        let r = s.replicas i in
        let t = after_call s i in
        let v : ℕ = next_view r i in
        let a : ℕ → Answer = upd (λ _. none) i (answer_of i r) in
        let up : r.promised < v = omega arith in
        promise_ok i manager v a up s.pool (λ x. cc)
        (λ _. record {
          own = omega arith;
          each = upd_all (λ d b. AnswerOk (t.replicas d) t.views d v b) (λ _. none) i (answer_of i r) (own_answer i manager v a up) (λ d _. tt);
        })
        (λ old. old.message)

    pub invitation_ok : (a c v : ℕ) → (s.replicas c).promised < v → Invariant n (after_invitation s a c v)
    invitation_ok a c v up =
        let t = after_invitation s a c v in
        promise_ok c waiting v (λ _. none) up t.pool (λ x. cc) (λ x. absurd (cc))
        (λ old. each_last (λ m. MessageOk n t.replicas t.views m) s.pool (answer c a v (answer_of c (s.replicas c))) old.message (own_answer c waiting v (λ _. none) up))

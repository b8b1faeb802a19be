-- Answers and acknowledgements counted keep the invariant.
use Rattle.std.proofs.Common.{◌≡◌, ℕ, suc, ◌≤◌, max, sym, ap, subst, arith}
use Rattle.protocol.specs.Updates.{upd}
use Rattle.protocol.specs.Members.{Member}
use Rattle.protocol.specs.Model.{Answer, answer, acknowledgement, Site, with_answers, with_acknowledged, after_answer, after_acknowledgement}
use Rattle.protocol.proofs.Updates.{upd_all}
use Rattle.protocol.proofs.Invariant.{AnswerOk, Invariant}
use Rattle.protocol.proofs.Growth.{replica_stays}
use Rattle.protocol.proofs.Frame.{step_replica}

module _ {E : Type 0} (n : ℕ) (s : Site E) (inv : Invariant n s) where
  pub answer_ok : (c i v : ℕ) (a : Answer) → Member (answer c i v a) s.pool → (s.replicas i).promised ≡ v → Invariant n (after_answer s c i a)
  answer_ok c i v a mem here =
      let r = s.replicas i in
      let t = after_answer s c i a in
      let r' = with_answers r (upd r.answers c a) in
      step_replica n s inv i r' s.pool (replica_stays r r' (λ x. x) (λ x. x))
      (λ old.
      let h = old.replica i in
      record {
        state = h.state;
        held = h.held;
        answers = λ m. record {
          own = (h.answers m).own;
          each = upd_all (λ d b. AnswerOk (t.replicas d) t.views d r.promised b) r.answers c a
              (subst (λ y. AnswerOk (t.replicas c) t.views c y a) (sym here) (old.message (answer c i v a) mem)) (λ d _. (h.answers m).each d);
        };
        counted = h.counted;
      })
      (λ old. old.message)

  pub acknowledgement_ok : (b p v l : ℕ) → Member (acknowledgement b p v l) s.pool → (s.replicas p).current ≡ v → Invariant n (after_acknowledgement s b p l)
  acknowledgement_ok b p v l mem here =
      let r = s.replicas p in
      let t = after_acknowledgement s b p l in
      let r' = with_acknowledged r (upd r.acknowledged b (max (r.acknowledged b) (suc l))) in
      step_replica n s inv p r' s.pool (replica_stays r r' (λ x. x) (λ x. x))
      (λ old.
      let h = old.replica p in
      record {
        state = h.state;
        held = h.held;
        answers = h.answers;
        counted = λ a q. upd_all (λ d y. y ≤ (t.replicas d).floor r.current) r.acknowledged b (max (r.acknowledged b) (suc l))
            (omega (arith, h.counted a q b, old.message (acknowledgement b p v l) mem, ap (t.replicas b).floor here)) (λ d _. h.counted a q d);
      })
      (λ old. old.message)

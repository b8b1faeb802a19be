-- A choice by the rules of the site is one that the protocol allows.
use Rattle.std.proofs.Common.{◌≡◌, ℕ, ◌<◌, ◌≤◌, Bool, true, List, length, get_or, take, Some, None, Option, sym, refl, ap, ◌∙◌, subst, inl, inr, arith, length-take}
use Rattle.std.proofs.lemmas.List.{get_or-take}
use Rattle.numbers.specs.declared.views.View.{View}
use Rattle.entries.specs.declared.messages.Reply.{Reply}
use Rattle.entries.specs.declared.messages.Reply.TheVariants.{Normal, Crash}
use Rattle.forming.specs.Rules.{Allowed, AnswersCrashed, AnswersNormally, Chosen, LatestNormal, Rule2, Rule3, answered, choice, is_normal}
use Rattle.forming.proofs.ByRules.{by_rules_at, latest_same}
use Rattle.numbers.proofs.Counted.{get_or_within}
use Rattle.protocol.specs.Majorities.{Majority}
use Rattle.protocol.specs.Model as model
use Rattle.protocol.specs.Model.{Latest, Rule, crashed, crashed_earlier, normal, normal_majority, primary_answered}
use Rattle.runs.proofs.Bond.{Small, SmallAnswer, code, the_answer}
use Rattle.runs.proofs.Codes.{code_same, earlier_code, not_earlier_code}
use Rattle.runs.proofs.Majorities.{majority_taken}

-- what the protocol asks of a choice
pub record Formable (n : ℕ) (f : ℕ → model.Answer) (c : ℕ) : Type 0 where
  pub view : ℕ
  pub length : ℕ
  pub primary : Bool
  pub below : c < n
  pub answers_so : f c ≡ normal view length primary
  pub latest : Latest n f view length
  pub rule : Rule n f view

-- an answer of the protocol comes from one of its kind

normal_of : (o : Option Reply) (u k : ℕ) (p : Bool) → the_answer o ≡ normal u k p → (w : View) × ((o ≡ Some (Normal w k p)) × (code w ≡ u))
normal_of None u k p e = let z : ◌≡◌ {A = ℕ} 0 1 = cc in absurd (omega arith)
normal_of (Some (Normal w l q)) u k p e = (w, (cc, cc))
normal_of (Some (Crash w)) u k p e = let z : ◌≡◌ {A = ℕ} 0 1 = cc in absurd (omega arith)

crash_of : (o : Option Reply) (u : ℕ) → the_answer o ≡ crashed u → (w : View) × ((o ≡ Some (Crash w)) × (code w ≡ u))
crash_of None u e = let z : ◌≡◌ {A = ℕ} 0 1 = cc in absurd (omega arith)
crash_of (Some (Normal w l q)) u e = let z : ◌≡◌ {A = ℕ} 0 1 = cc in absurd (omega arith)
crash_of (Some (Crash w)) u e = (w, (refl, cc))

normal_test : (o : Option Reply) → model.is_normal (the_answer o) ≡ is_normal o
normal_test None = refl
normal_test (Some (Normal u l p)) = refl
normal_test (Some (Crash u)) = refl

answer_test : (o : Option Reply) → model.is_answer (the_answer o) ≡ answered o
answer_test None = refl
answer_test (Some (Normal u l p)) = refl
answer_test (Some (Crash u)) = refl

module _ (n : ℕ) (a : List (Option Reply)) (f : ℕ → model.Answer) (long : n ≤ length a) (agree : (d : ℕ) → d < n → f d ≡ the_answer (get_or a d None)) (small : (d : ℕ) → d < n → SmallAnswer (get_or a d None)) where
  -- what the first n say is what the table says

  within : (d : ℕ) (y : Reply) → get_or (take n a) d None ≡ Some y → d < n
  within d y e = let lt = get_or_within (take n a) d y e in omega (arith, length-take n a)

  read : (d : ℕ) (y : Reply) → get_or (take n a) d None ≡ Some y → get_or a d None ≡ Some y
  read d y e = sym (get_or-take n a d None (within d y e)) ∙ e

  small_at : (d : ℕ) (y : Reply) → get_or (take n a) d None ≡ Some y → SmallAnswer (Some y)
  small_at d y e = subst SmallAnswer (read d y e) (small d (within d y e))

  said : (d : ℕ) (y : Reply) → get_or (take n a) d None ≡ Some y → f d ≡ the_answer (Some y)
  said d y e = agree d (within d y e) ∙ ap the_answer (read d y e)

  -- and the other way round
  normal_at : (d : ℕ) → d < n → (u k : ℕ) (p : Bool) → f d ≡ normal u k p → (w : View) × (AnswersNormally (take n a) d w k p × (code w ≡ u))
  normal_at d lt u k p e =
      let it = normal_of (get_or a d None) u k p (sym (agree d lt) ∙ e) in
      (it.0, (get_or-take n a d None lt ∙ it.1.0, it.1.1))

  crash_at : (d : ℕ) → d < n → (u : ℕ) → f d ≡ crashed u → (w : View) × (AnswersCrashed (take n a) d w × (code w ≡ u))
  crash_at d lt u e =
      let it = crash_of (get_or a d None) u (sym (agree d lt) ∙ e) in
      (it.0, (get_or-take n a d None lt ∙ it.1.0, it.1.1))

  most_normal : (k : ℕ) → k < n → model.is_normal (f k) ≡ is_normal (get_or a k None)
  most_normal k lt = ap model.is_normal (agree k lt) ∙ normal_test (get_or a k None)

  most_answered : (k : ℕ) → k < n → model.is_answer (f k) ≡ answered (get_or a k None)
  most_answered k lt = ap model.is_answer (agree k lt) ∙ answer_test (get_or a k None)

  module _ (c : ℕ) (best : Chosen (take n a) c) where
    small_best : Small best.view
    small_best = small_at c (Normal best.view best.length best.primary) best.answers_so

    is_latest : LatestNormal (take n a) best.view
    is_latest = record { who = c; length = best.length; primary = best.primary; answers_so = best.answers_so; latest = best.latest }

    latest : Latest n f (code best.view) best.length
    latest =
        record {
          newest = λ d lt u k p e.
              (let it = normal_at d lt u k p e in
              let w = it.0 in
              let upto : code w ≤ code best.view = not_earlier_code best.view w small_best (small_at d (Normal w k p) it.1.0) (best.latest d w k p it.1.0) in
              subst (λ v. v ≤ code best.view) it.1.1 upto);
          longest = λ d lt k p e.
              (let it = normal_at d lt (code best.view) k p e in
              let w = it.0 in
              let same : w ≡ best.view = code_same w best.view (small_at d (Normal w k p) it.1.0) small_best it.1.1 in
              best.longest d k p (subst (λ v. AnswersNormally (take n a) d v k p) same it.1.0));
        }

    rule : Allowed (take n a) n → Rule n f (code best.view)
    rule allowed =
        let most : Majority n (λ d. model.is_answer (f d)) = majority_taken answered a None n (λ d. model.is_answer (f d)) long most_answered allowed.most in
        elim allowed.rule [
          | inl one ↦ normal_majority (majority_taken is_normal a None n (λ d. model.is_normal (f d)) long most_normal one)
          | inr rest ↦ elim rest [ inl two ↦ by_two most two | inr three ↦ by_three most three ]
        ]
      where
        by_two : Majority n (λ d. model.is_answer (f d)) → Rule2 (take n a) → Rule n f (code best.view)
        by_two most two = crashed_earlier most (λ d lt u e.
            (let it = crash_at d lt u e in
            let w = it.0 in
            let same : two.newest ≡ best.view = latest_same (take n a) two.newest best.view two.normal is_latest in
            let before : code w < code best.view = subst (λ v. code w < code v) same (earlier_code w two.newest (small_at d (Crash w) it.1.0) (subst Small (sym same) small_best) (two.crashes d w it.1.0)) in
            subst (λ v. v < code best.view) it.1.1 before))

        by_three : Majority n (λ d. model.is_answer (f d)) → Rule3 (take n a) → Rule n f (code best.view)
        by_three most three =
            let same : three.newest ≡ best.view = latest_same (take n a) three.newest best.view three.normal is_latest in
            let leads : AnswersNormally (take n a) three.leader best.view three.length true = subst (λ v. AnswersNormally (take n a) three.leader v three.length true) same three.leads_it in
            primary_answered most
            (λ d lt u e.
            (let it = crash_at d lt u e in
            let w = it.0 in
            let upto : code w ≤ code best.view = subst (λ v. code w ≤ code v) same (not_earlier_code three.newest w (subst Small (sym same) small_best) (small_at d (Crash w) it.1.0) (three.crashes d w it.1.0)) in
            subst (λ v. v ≤ code best.view) it.1.1 upto))
            three.leader (within three.leader (Normal best.view three.length true) leads) three.length (said three.leader (Normal best.view three.length true) leads)

  pub formable : (c : ℕ) → choice (take n a) n ≡ Some c → Formable n f c
  formable c e =
      let rules = by_rules_at (take n a) n (Some c) (sym e) in
      let best = rules.1 in
      record {
        view = code best.view;
        length = best.length;
        primary = best.primary;
        below = within c (Normal best.view best.length best.primary) best.answers_so;
        answers_so = said c (Normal best.view best.length best.primary) best.answers_so;
        latest = latest c best;
        rule = rule c best rules.0;
      }

-- A list of turns that is played from its beginning: what is left leads from here to where all leads from the start.
use Rattle.std.proofs.Common.{◌≡◌, ℕ, suc, ◌+◌, ◌<◌, ◌≤◌, List, [], ◌∷◌, ◌++◌, length, get_or, take, drop, set, Some, Option, Result, sym, refl, ap, ◌∙◌, add-one, arith, drop-cons, take-suc-set, drop-set-lt}
use lib.Seq.{append_snoc}
use Rattle.std.proofs.lemmas.List.{append-nil, drop_all, take_all}
use Rattle.entries.specs.declared.kinds.Answer.{Answer}
use Rattle.entries.specs.declared.kinds.Question.{Question}
use Rattle.site.specs.declared.faults.Fault.{Fault}
use Rattle.site.specs.States.{State, done}
use Rattle.controller.specs.declared.outcomes.Outcome.{Outcome}
use Rattle.runs.specs.declared.steps.Step.{Step}
use Rattle.runs.specs.declared.steps.Turn.{Turn}
use Rattle.runs.specs.Runs.{played, ran, step, steps_of}

module _ {E : Type 0} (says : E → Question → Option Answer) (unsettled : Answer) where
  -- the turns `all` are to be played from `start`; the first i are, and led to `here`
  pub record Leads (start : State E) (all : List (Turn E)) (here : State E) (turns : List (Turn E)) (i : ℕ) : Type 0 where
    pub states : ran says unsettled here (steps_of (drop i turns)) ≡ ran says unsettled start (steps_of all)
    pub outcomes : take i turns ++ played says unsettled here (drop i turns) ≡ played says unsettled start all

  -- the turn with what came of it
  abbrev pub turn_with : Turn E → Result (Outcome E) Fault → Turn E
  turn_with t o = record { step = t.step; outcome = Some o }

  module _ (start : State E) (all : List (Turn E)) (here : State E) (turns : List (Turn E)) (i : ℕ) (leads : Leads start all here turns i) where
    -- one turn more
    pub leads_on : (d : Turn E) (o : Result (Outcome E) Fault) (there : State E) → i < length turns → step says unsettled here (get_or turns i d).step ≡ done o there
        → Leads start all there (set turns i (turn_with (get_or turns i d) o)) (i + 1)
    leads_on d o there below gives =
        let t = get_or turns i d in
        let u = turn_with t o in
        let left : drop i turns ≡ t ∷ drop (suc i) turns = drop-cons turns i d below in
        let after : drop (i + 1) (set turns i u) ≡ drop (suc i) turns = ap (λ n. drop n (set turns i u)) (add-one i) ∙ drop-set-lt (suc i) turns i u (omega arith) in
        let before : take (i + 1) (set turns i u) ≡ take i turns ++ (u ∷ []) = ap (λ n. take n (set turns i u)) (add-one i) ∙ take-suc-set turns i u below in
        let goes : ran says unsettled here (steps_of (drop i turns)) ≡ ran says unsettled there (steps_of (drop (suc i) turns)) =
        ap (λ z. ran says unsettled here (steps_of z)) left ∙ ap (λ z. ran says unsettled z.state (steps_of (drop (suc i) turns))) gives in
        let plays : played says unsettled here (drop i turns) ≡ u ∷ played says unsettled there (drop (suc i) turns) =
        ap (played says unsettled here) left ∙ ap (λ z. turn_with t z.result ∷ played says unsettled z.state (drop (suc i) turns)) gives in
        record {
          states = ap (λ z. ran says unsettled there (steps_of z)) after ∙ sym goes ∙ leads.states;
          outcomes =
              ap (λ z. z ++ played says unsettled there (drop (i + 1) (set turns i u))) before
              ∙ ap (λ z. (take i turns ++ (u ∷ [])) ++ played says unsettled there z) after
              ∙ append_snoc (take i turns) u (played says unsettled there (drop (suc i) turns))
              ∙ ap (λ z. take i turns ++ z) (sym plays)
              ∙ leads.outcomes;
        }

    -- all are played
    pub leads_end : length turns ≤ i → (ran says unsettled start (steps_of all) ≡ here) × (played says unsettled start all ≡ turns)
    leads_end e =
        let none_left : drop i turns ≡ [] = drop_all i turns e in
        let all_done : take i turns ≡ turns = take_all i turns e in (
          sym leads.states ∙ ap (λ z. ran says unsettled here (steps_of z)) none_left,
          sym leads.outcomes ∙ ap (λ z. take i turns ++ played says unsettled here z) none_left ∙ append-nil (take i turns) ∙ all_done,
        )

  -- a list of steps after another
  pub ran_on : (s : State E) (xs ys : List (Step E)) → ran says unsettled s (xs ++ ys) ≡ ran says unsettled (ran says unsettled s xs) ys
  ran_on s [] ys = refl
  ran_on s (x ∷ xs) ys = ran_on (step says unsettled s x).state xs ys

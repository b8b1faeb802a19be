-- One step of a site, and a list of them.
use Rattle.std.specs.Prelude.{cond, List, [], ◌∷◌, Some, Ok, Err, Option, Result}
use Rattle.numbers.specs.declared.refusals.Refusal.TheVariants.{BadForm}
use Rattle.numbers.specs.declared.views.ControllerNumber.{ControllerNumber}
use Rattle.numbers.specs.declared.views.Stamp.{Stamp}
use Rattle.numbers.specs.Views.{controller_of, stamp_ok}
use Rattle.entries.specs.declared.kinds.Answer.{Answer}
use Rattle.entries.specs.declared.kinds.Question.{Question}
use Rattle.controller.specs.declared.outcomes.Outcome.{Outcome}
use Rattle.controller.specs.declared.slips.Settled.{Settled as Settlement}
use Rattle.controller.specs.declared.slips.Settled.TheVariants.{Confirmed as IsConfirmed, Lost as IsLost, Waiting as StillWaiting}
use Rattle.controller.specs.declared.verdicts.Verdict.{Verdict}
use Rattle.controller.specs.declared.verdicts.Verdict.TheVariants.{Confirmed, Lost, Waiting}
use Rattle.controller.specs.Lookups.{lookup}
use Rattle.controller.specs.Power.{crash, recover}
use Rattle.controller.specs.Primaries.{change, pass}
use Rattle.controller.specs.Verdicts.{settle}
use Rattle.controller.specs.ViewChanges.{call, form, invite}
use Rattle.site.specs.declared.faults.Fault.{Fault}
use Rattle.site.specs.States.{Done, State}
use Rattle.site.specs.Steps.{deliver_step, join_step, lose_step, refuse, step_at, step_between}
use Rattle.runs.specs.declared.steps.Step.{Step}
use Rattle.runs.specs.declared.steps.Step.TheVariants.{Change, Pass, Call, Invite, Form, Deliver, Join, Settle, Lookup, Crash, Recover, Lose}
use Rattle.runs.specs.declared.steps.Turn.{Turn}

abbrev pub verdict_in : Settlement → Verdict
verdict_in IsConfirmed = Confirmed
verdict_in IsLost = Lost
verdict_in (StillWaiting slip) = Waiting

-- the slip is taken up from its numbers first
abbrev pub settle_step : {E : Type 0} → State E → ControllerNumber → Stamp → Done (Outcome E) E
settle_step s i t = cond (stamp_ok t) (step_at s i (settle s.site.n t)) (refuse s (controller_of 0) BadForm)

module _ {E : Type 0} (says : E → Question → Option Answer) (unsettled : Answer) where
  -- what a step gives: its outcome or a fault, and the state after it
  abbrev pub step : State E → Step E → Done (Outcome E) E
  step s (Change i x) = step_at s i (change x)
  step s (Pass i b k) = step_between s i b (pass b k)
  step s (Call i) = step_at s i call
  step s (Invite i b) = step_between s i b (invite b)
  step s (Form i) = step_at s i (form s.site.n)
  step s (Deliver j) = deliver_step s j
  step s (Join i p) = join_step s i p
  step s (Settle i t) = settle_step s i t
  step s (Lookup i question) = step_at s i (lookup says unsettled question)
  step s (Crash i) = step_at s i crash
  step s (Recover i) = step_at s i recover
  step s (Lose j) = lose_step s j

  -- the state after a list of steps, refused ones included
  abbrev pub ran : State E → List (Step E) → State E
  ran s [] = s
  ran s (x ∷ xs) = ran (step s x).state xs

  -- the turns with their outcomes
  abbrev pub played : State E → List (Turn E) → List (Turn E)
  played s [] = []
  played s (t ∷ ts) = record { step = t.step; outcome = Some (step s t.step).result } ∷ played (step s t.step).state ts

-- the steps of a list of turns
abbrev pub steps_of : {E : Type 0} → List (Turn E) → List (Step E)
steps_of [] = []
steps_of (t ∷ ts) = t.step ∷ steps_of ts

-- what a make and the steps after it give: the make's result, the state after them, and the turns
pub record Ran (E : Type 0) : Type 0 where
  pub result : Result (Unit {0}) Fault
  pub state : State E
  pub turns : List (Turn E)

abbrev pub ran_to : {E : Type 0} → Result (Unit {0}) Fault → State E → List (Turn E) → Ran E
ran_to r s ts = record { result = r; state = s; turns = ts }

module _ {E : Type 0} (says : E → Question → Option Answer) (unsettled : Answer) where
  -- where the make was refused, nothing is played
  abbrev pub after_make : Result (Unit {0}) Fault → State E → List (Turn E) → Ran E
  after_make (Ok x) s ts = ran_to (Ok x) (ran says unsettled s (steps_of ts)) (played says unsettled s ts)
  after_make (Err f) s ts = ran_to (Err f) s ts

  abbrev pub made_and_ran : Done (Unit {0}) E → List (Turn E) → Ran E
  made_and_ran made ts = after_make made.result made.state ts

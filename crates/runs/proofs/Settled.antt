-- A settle by a slip's numbers: from the slip that was taken up and what came back to the verdict.
use Rattle.std.proofs.Common.{◌≡◌, Bool, true, false, cond, Ok, Err, Result, refl, ap, ◌∙◌, []}
use Rattle.numbers.specs.declared.refusals.Refusal.TheVariants.{BadForm}
use Rattle.numbers.specs.declared.views.ControllerNumber.{ControllerNumber}
use Rattle.numbers.specs.declared.views.Stamp.{Stamp}
use Rattle.numbers.specs.Views.{controller_of, stamp_ok}
use Rattle.controller.specs.declared.outcomes.Outcome.{Outcome}
use Rattle.controller.specs.declared.outcomes.Outcome.TheVariants.{Settled}
use Rattle.controller.specs.declared.slips.Settled.{Settled as Settlement}
use Rattle.controller.specs.declared.slips.Slip.{Slip}
use Rattle.controller.specs.declared.verdicts.Verdict.{Verdict}
use Rattle.controller.specs.declared.verdicts.Verdict.TheVariants.{Confirmed, Lost, Waiting}
use Rattle.controller.specs.Actions.{Action, Own}
use Rattle.controller.specs.Slips.{slip_of, stamp_on}
use Rattle.controller.specs.Verdicts.{settle, settled_by, verdict_of}
use Rattle.controller.proofs.Actions.{asks_split}
use Rattle.site.specs.declared.faults.Fault.{Fault}
use Rattle.site.specs.States.{Done, State, book, done, fault_by, row}
use Rattle.site.specs.Steps.{acts, refuse, site_asks, step_at}
use Rattle.runs.specs.Runs.{settle_step, verdict_in}
use Rattle.runs.proofs.Simulated.{acts_split, reads}

-- the verdict in what a settle gives back, as the outcome of its step
abbrev pub result_in : {E : Type 0} → Result Settlement (Fault × Slip) → Result (Outcome E) Fault
result_in (Ok x) = Ok (Settled (verdict_in x))
result_in (Err f) = Err f.0

-- what a take-up of the stamp's slip gives
abbrev taken_up : Stamp → Bool → Result Slip Fault
taken_up t ok = cond ok (Ok (slip_of t)) (Err (fault_by (controller_of 0) BadForm))

module _ {E : Type 0} (s : State E) (i : ControllerNumber) (t : Stamp) where
  abbrev action : ControllerNumber → Own E → Action E
  action = settle s.site.n t

  abbrev Told : Result Settlement (Fault × Slip) → Done (Outcome E) E → Type 0
  Told r d = settled_by (slip_of t) d.result ≡ r → d ≡ done (result_in r) s

  -- a slip by the verdict v, and the verdict in it
  by_verdict : (r : Result Settlement (Fault × Slip)) (v : Verdict) → Told r (done (Ok (Settled v)) s)
  by_verdict r Confirmed e = ap (λ z. done (result_in z) s) e
  by_verdict r Lost e = ap (λ z. done (result_in z) s) e
  by_verdict r Waiting e = ap (λ z. done (result_in z) s) e

  settled : (r : Result Settlement (Fault × Slip)) → settled_by (slip_of t) (step_at s i action).result ≡ r → step_at s i action ≡ done (result_in r) s
  settled r =
      asks_split (Told r) (site_asks s i []) (refuse s i) (acts s i action) (λ k e. ap (λ z. done (result_in z) s) e)
      (λ ys. acts_split (Told r) s i action (λ f e. ap (λ z. done (result_in z) s) e) (λ zs room put. reads (Told r) s i action (λ f e. ap (λ z. done (result_in z) s) e) refl (by_verdict r (verdict_of s.site.n (row s i) (book s i) t))))

  -- the slip was taken up, and its settle gave r
  pub settle_up : (slip : Slip) (r : Result Settlement (Fault × Slip)) → Ok slip ≡ taken_up t (stamp_ok t) → settled_by slip (step_at s i (settle s.site.n (stamp_on slip))).result ≡ r → settle_step s i t ≡ done (result_in r) s
  settle_up slip r up gives = by (stamp_ok t) up
    where
      by : (ok : Bool) → Ok slip ≡ taken_up t ok → cond ok (step_at s i action) (refuse s (controller_of 0) BadForm) ≡ done (result_in r) s
      by true e = let same : slip_of t ≡ slip = cc in settled r (ap (λ z. settled_by z (step_at s i (settle s.site.n (stamp_on z))).result) same ∙ gives)
      by false e = absurd (cc)

  -- it was not
  pub settle_not_up : (f : Fault) → Err f ≡ taken_up t (stamp_ok t) → settle_step s i t ≡ done (Err f) s
  settle_not_up f up = by (stamp_ok t) up
    where
      by : (ok : Bool) → Err f ≡ taken_up t ok → cond ok (step_at s i action) (refuse s (controller_of 0) BadForm) ≡ done (Err f) s
      by true e = absurd (cc)
      by false e = ap (λ z. done (Err z) s) (cc)

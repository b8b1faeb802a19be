-- Every list of steps is a run of the protocol.
use Rattle.std.proofs.Common.{ℕ, List, [], ◌∷◌, Option}
use Rattle.entries.specs.declared.kinds.Answer.{Answer as Light}
use Rattle.entries.specs.declared.kinds.Question.{Question}
use Rattle.site.specs.States.{State}
use Rattle.protocol.specs.Model as model
use Rattle.protocol.specs.Model.{Run, Site}
use Rattle.runs.specs.declared.steps.Step.{Step}
use Rattle.runs.specs.declared.steps.Step.TheVariants.{Change, Pass, Call, Invite, Form, Deliver, Join, Settle, Lookup, Crash, Recover, Lose}
use Rattle.runs.specs.History.{Event, history_from, told}
use Rattle.runs.specs.Runs.{ran, step}
use Rattle.runs.proofs.Bond.{Bond}
use Rattle.runs.proofs.Calls.{sim_call}
use Rattle.runs.proofs.Changes.{sim_change}
use Rattle.runs.proofs.Deliveries.{sim_deliver}
use Rattle.runs.proofs.Forms.{sim_form}
use Rattle.runs.proofs.Joins.{sim_join}
use Rattle.runs.proofs.Lookups.{sim_lookup}
use Rattle.runs.proofs.Losses.{sim_lose}
use Rattle.runs.proofs.Power.{sim_crash, sim_recover}
use Rattle.runs.proofs.Sends.{sim_invite, sim_pass}
use Rattle.runs.proofs.Simulated.{Simulated, stays}
use Rattle.runs.proofs.Verdicts.{sim_settle}

module _ {E : Type 0} (says : E → Question → Option Light) (unsettled : Light) (n : ℕ) (blank : ℕ → model.Entry E) where
  pub sim_step : (s : State E) (h : List (Event E)) (m : Site E) → Run n blank m → Bond says unsettled n s h m → (x : Step E)
      → Simulated says unsettled n blank (step says unsettled s x).state (told says unsettled h s x)
  sim_step s h m run bond (Change i x) = sim_change says unsettled n blank s h m run bond i x
  sim_step s h m run bond (Pass i b k) = sim_pass says unsettled n blank s h m run bond i b k
  sim_step s h m run bond (Call i) = sim_call says unsettled n blank s h m run bond i
  sim_step s h m run bond (Invite i b) = sim_invite says unsettled n blank s h m run bond i b
  sim_step s h m run bond (Form i) = sim_form says unsettled n blank s h m run bond i
  sim_step s h m run bond (Deliver j) = sim_deliver says unsettled n blank s h m run bond j
  sim_step s h m run bond (Join i p) = sim_join says unsettled n blank s h m run bond i p
  sim_step s h m run bond (Settle i t) = sim_settle says unsettled n blank s h m run bond i t
  sim_step s h m run bond (Lookup i q) = sim_lookup says unsettled n blank s h m run bond i q
  sim_step s h m run bond (Crash i) = sim_crash says unsettled n blank s h m run bond i
  sim_step s h m run bond (Recover i) = sim_recover says unsettled n blank s h m run bond i
  sim_step s h m run bond (Lose j) = sim_lose says unsettled n blank s h m run bond j

  pub sim_all : (s : State E) (h : List (Event E)) (m : Site E) → Run n blank m → Bond says unsettled n s h m → (xs : List (Step E))
      → Simulated says unsettled n blank (ran says unsettled s xs) (history_from says unsettled h s xs)
  sim_all s h m run bond [] = stays run bond
  sim_all s h m run bond (x ∷ xs) =
      let next = sim_step s h m run bond x in
      sim_all (step says unsettled s x).state (told says unsettled h s x) next.site next.run next.bond xs

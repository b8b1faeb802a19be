-- A power cut and the recovery from it are steps of the protocol.
use Rattle.std.proofs.Common.{◌≡◌, ℕ, true, false, List, Option, refl, arith}
use Rattle.std.proofs.lemmas.Bool.{false≢true, not-true}
use Rattle.numbers.specs.declared.rows.Row.{Row}
use Rattle.numbers.specs.declared.views.ControllerNumber.{ControllerNumber}
use Rattle.numbers.specs.Rows.{zero_row}
use Rattle.numbers.specs.Views.{controller_of}
use Rattle.entries.specs.declared.book.Entry.{Entry}
use Rattle.entries.specs.declared.kinds.Answer.{Answer as Light}
use Rattle.entries.specs.declared.kinds.Question.{Question}
use Rattle.cabinet.specs.Cells.{cell_at}
use Rattle.controller.specs.declared.records.Controller.{Controller}
use Rattle.controller.specs.declared.records.Status.{Status}
use Rattle.controller.specs.declared.records.Status.TheVariants.{Down, Waiting}
use Rattle.controller.specs.declared.outcomes.Outcome.{Outcome}
use Rattle.controller.specs.Power.{crash, recover}
use Rattle.controller.specs.Records.{up}
use Rattle.site.specs.States.{Done, State, row}
use Rattle.site.specs.Steps.{share}
use Rattle.protocol.specs.Model as model
use Rattle.protocol.specs.Model.{Replica, Run, Site, forgetting, then, with_replica}
use Rattle.runs.specs.declared.steps.Step.TheVariants.{Crash, Recover}
use Rattle.runs.specs.History.{Event, told}
use Rattle.runs.specs.Runs.{step}
use Rattle.runs.proofs.Acting.{down_is_down, up_not_down}
use Rattle.runs.proofs.Bond.{Bond, OwnR, ReplicaR, StatusR}
use Rattle.runs.proofs.Puts.{frame_action}
use Rattle.runs.proofs.Simulated.{Simulated, at_split, stays}

-- what forgets its book keeps the views in its cell
forgets : {E : Type 0} {n c : ℕ} {x : Controller} {w : Row} {b : List (Entry E)} {r : Replica E} → ReplicaR n c x w b r → (st : Status) (v : Row) (t : model.Status)
    → (up st ≡ true → v ≡ w) → StatusR n c st (forgetting r t) → OwnR c 0 st
    → ReplicaR n c (record { status = st; views = v; complete = false; length = 0; primary = controller_of 0 }) w b (forgetting r t)
forgets old st v t views status mine =
    record {
      status = status;
      views = views;
      cell = old.cell;
      complete = refl;
      primary = refl;
      log = record { len = refl; within = omega arith; same = λ j e below. absurd (omega arith); small = λ j e below. absurd (omega arith) };
      own = mine;
    }

module _ {E : Type 0} (says : E → Question → Option Light) (unsettled : Light) (n : ℕ) (blank : ℕ → model.Entry E)
    (s : State E) (h : List (Event E)) (m : Site E) (run : Run n blank m) (bond : Bond says unsettled n s h m) (i : ControllerNumber) where
  abbrev Sim : State E → List (Event E) → Type 0
  Sim = Simulated says unsettled n blank

  abbrev P : Done (Outcome E) E → Type 0
  P d = Sim d.state h

  pub sim_crash : Sim (step says unsettled s (Crash i)).state (told says unsettled h s (Crash i))
  sim_crash = at_split P s i crash (λ f. stays run bond) n bond.sizes.size (λ below up room put.
      let here = bond.replicas i.number below in
      record {
        site = with_replica m i.number (forgetting (m.replicas i.number) model.down);
        run = then run (model.crash i.number (up_not_down n i.number (m.replicas i.number) (row s i).status here.status up.0));
        bond = frame_action says unsettled n s h m bond i below (crash i (share s i)) (forgetting (m.replicas i.number) model.down) m.views put refl
            (forgets here Down zero_row model.down (λ h. absurd (false≢true h)) refl tt);
      })

  pub sim_recover : Sim (step says unsettled s (Recover i)).state (told says unsettled h s (Recover i))
  sim_recover = at_split P s i recover (λ f. stays run bond) n bond.sizes.size (λ below down room put.
      let here = bond.replicas i.number below in
      record {
        site = with_replica m i.number (forgetting (m.replicas i.number) model.waiting);
        run = then run (model.recover i.number (down_is_down n i.number (m.replicas i.number) (row s i).status here.status (not-true _ down.0)));
        bond = frame_action says unsettled n s h m bond i below (recover i (share s i)) (forgetting (m.replicas i.number) model.waiting) m.views put refl
            (forgets here Waiting (cell_at s.cells i.number).row model.waiting (λ h. refl) refl tt);
      })

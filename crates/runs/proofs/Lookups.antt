-- A question that is answered is a step of the protocol.
use Rattle.std.proofs.Common.{◌≡◌, ℕ, ◌<◌, true, List, ◌∷◌, ◌++◌, Option, refl}
use Rattle.numbers.specs.declared.views.ControllerNumber.{ControllerNumber}
use Rattle.entries.specs.declared.kinds.Answer.{Answer as Light}
use Rattle.entries.specs.declared.kinds.Question.{Question}
use Rattle.entries.specs.Lookups.{looked}
use Rattle.controller.specs.Books.{in_use}
use Rattle.controller.specs.declared.outcomes.Outcome.{Outcome}
use Rattle.controller.specs.Lookups.{lookup}
use Rattle.controller.specs.Records.{is_active, is_up}
use Rattle.site.specs.States.{Done, State, book, row}
use Rattle.protocol.specs.Model as model
use Rattle.protocol.specs.Model.{Run, Site, note, then}
use Rattle.runs.specs.declared.steps.Step.TheVariants.{Lookup}
use Rattle.runs.specs.History.{Event, book_at, looked_up, tells, told, view_at}
use Rattle.runs.specs.Runs.{step}
use Rattle.runs.proofs.Acting.{active_is_active, current_code, views_small}
use Rattle.runs.proofs.Bond.{Bond}
use Rattle.runs.proofs.Frame.{frame_note}
use Rattle.runs.proofs.Simulated.{Simulated, at_split, reads, stays}
use Rattle.runs.proofs.Used.{used_book}

module _ {E : Type 0} (says : E → Question → Option Light) (unsettled : Light) (n : ℕ) (blank : ℕ → model.Entry E)
    (s : State E) (h : List (Event E)) (m : Site E) (run : Run n blank m) (bond : Bond says unsettled n s h m) (i : ControllerNumber) where
  abbrev Sim : State E → List (Event E) → Type 0
  Sim = Simulated says unsettled n blank

  answers : i.number < n → is_up (row s i) ≡ true → is_active (row s i) ≡ true → (question : Question)
      → Sim s (looked_up (view_at s i) (book_at s i) question (looked says unsettled (in_use (row s i) (book s i)) question) ∷ h)
  answers below up acts question =
      let r = m.replicas i.number in
      let old = bond.replicas i.number below in
      record {
        site = note m (model.looked_up r.current r.length r.book);
        run = then run (model.lookup i.number (active_is_active n i.number r (row s i).status old.status acts));
        bond = frame_note says unsettled n s h m bond _ (model.looked_up r.current r.length r.book) (
          current_code old up,
          (views_small old up).0,
          used_book old,
          refl,
        );
      }

  abbrev L : Question → Done (Outcome E) E → Type 0
  L question d = Sim d.state (tells s (Lookup i question) d.result d.state ++ h)

  pub sim_lookup : (question : Question) → Sim (step says unsettled s (Lookup i question)).state (told says unsettled h s (Lookup i question))
  sim_lookup question =
      at_split (L question) s i (lookup says unsettled question) (λ f. stays run bond) n bond.sizes.size
      (λ below zs room put. reads (L question) s i (lookup says unsettled question) (λ f. stays run bond) refl (answers below zs.0 zs.1.0 question))

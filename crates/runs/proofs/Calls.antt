-- A call of the site is one of the protocol.
use Rattle.std.proofs.Common.{◌≡◌, ℕ, ◌+◌, ◌*◌, ◌/◌, ◌<◌, true, List, Option, refl, ap, ◌∙◌, arith}
use Rattle.numbers.specs.declared.views.ControllerNumber.{ControllerNumber}
use Rattle.entries.specs.declared.kinds.Answer.{Answer as Light}
use Rattle.entries.specs.declared.kinds.Question.{Question}
use Rattle.cabinet.specs.Cells.{cell_at}
use Rattle.controller.specs.declared.records.Status.TheVariants.{Manager}
use Rattle.controller.specs.Actions.{cells_after, own, put_asks}
use Rattle.controller.specs.Records.{is_up, only, reply_of}
use Rattle.controller.specs.ViewChanges.{call, called_row, called_view}
use Rattle.controller.proofs.Actions.{AllYes}
use Rattle.site.specs.States.{State, book, put_share, row}
use Rattle.site.specs.Steps.{share}
use Rattle.protocol.specs.Updates.{upd}
use Rattle.protocol.proofs.Views.{view_number_parts}
use Rattle.protocol.specs.Model as model
use Rattle.protocol.specs.Model.{Run, Site, answer_of, manager, next_view, none, promising, then}
use Rattle.runs.specs.declared.steps.Step.TheVariants.{Call}
use Rattle.runs.specs.History.{Event, told}
use Rattle.runs.specs.Runs.{step}
use Rattle.runs.proofs.Acting.{promised_code, up_not_down, views_small}
use Rattle.runs.proofs.Bond.{Bond, ReplicaR, StatusR, code, the_answer}
use Rattle.runs.proofs.Promises.{answer_is, promises}
use Rattle.runs.proofs.Puts.{frame_action}
use Rattle.runs.proofs.Simulated.{Simulated, at_split, stays}
use Rattle.runs.proofs.Tables.{only_long, reply_small, small_only, table_only}

module _ {E : Type 0} (says : E → Question → Option Light) (unsettled : Light) (n : ℕ) (blank : ℕ → model.Entry E) where
  module _ (s : State E) (h : List (Event E)) (m : Site E) (run : Run n blank m) (bond : Bond says unsettled n s h m) (i : ControllerNumber) where
    -- the call is taken
    calls : i.number < n → is_up (row s i) ≡ true → AllYes (put_asks true s.cells i (called_row i (row s i)).views)
        → Simulated says unsettled n blank (put_share s i (own (called_row i (row s i)) (book s i) (cells_after true s.cells i (called_row i (row s i)).views))) h
    calls below is put =
        let most = bond.sizes.most in
        let r = m.replicas i.number in
        let x = row s i in
        let old : ReplicaR n i.number x (cell_at s.cells i.number).row (book s i) r = bond.replicas i.number below in
        let small = views_small old is in
        let answers : ℕ → model.Answer = upd (λ _. none) i.number (answer_of i.number r) in
        let status : StatusR n i.number (Manager (only i (reply_of i x))) (promising r manager (next_view r i.number) answers) = (
          refl,
          only_long i (reply_of i x),
          table_only the_answer n most i below (reply_of i x) (answer_of i.number r) (answer_is old is i) none refl,
          small_only n most i below (reply_of i x) (reply_small i x small.0),
        ) in
        let next : next_view r i.number ≡ code (called_view i x) =
        ap (λ k. (k / 8 + 1) * 8 + i.number) (promised_code old is)
        ∙ ap (λ k. (k + 1) * 8 + i.number) (view_number_parts x.views.promised.count.number x.views.promised.controller.number small.1).0 in
        record {
          site = model.after_call m i.number;
          run = then run (model.call i.number (omega arith) (up_not_down n i.number r x.status old.status is));
          bond = frame_action says unsettled n s h m bond i below (call i (share s i)) (promising r manager (next_view r i.number) answers) m.views put refl
              (promises old is (Manager (only i (reply_of i x))) manager (called_view i x) (next_view r i.number) answers next put.1.0 status tt);
        }

  pub sim_call : (s : State E) (h : List (Event E)) (m : Site E) → Run n blank m → Bond says unsettled n s h m → (i : ControllerNumber)
      → Simulated says unsettled n blank (step says unsettled s (Call i)).state (told says unsettled h s (Call i))
  sim_call s h m run bond i =
      at_split (λ d. Simulated says unsettled n blank d.state h) s i call (λ f. stays run bond) n bond.sizes.size (λ below qs room put. calls s h m run bond i below qs.0 put)

-- The delivery of an answer is one of the protocol.
use Rattle.std.proofs.Common.{◌≡◌, ℕ, ◌<◌, ◌≤◌, true, leb, List, length, set, Some, Option, sym, refl, ap, ◌∙◌, subst, arith, length-set}
use Rattle.std.proofs.lemmas.Bool.{and_parts}
use Rattle.numbers.specs.declared.views.ControllerNumber.{ControllerNumber}
use Rattle.numbers.specs.declared.views.View.{View}
use Rattle.numbers.specs.Views.{same_view}
use Rattle.entries.specs.declared.messages.Body.TheVariants.{Answer as Answers}
use Rattle.entries.specs.declared.messages.Message.{Message}
use Rattle.entries.specs.declared.messages.Reply.{Reply}
use Rattle.entries.specs.declared.messages.Reply.TheVariants.{Normal, Crash}
use Rattle.entries.specs.declared.kinds.Answer.{Answer as Light}
use Rattle.entries.specs.declared.kinds.Question.{Question}
use Rattle.cabinet.specs.Cells.{cell_at}
use Rattle.controller.specs.declared.records.Controller.{Controller}
use Rattle.controller.specs.declared.records.Status.{Status}
use Rattle.controller.specs.declared.records.Status.TheVariants.{Manager}
use Rattle.controller.specs.Books.{cap_of}
use Rattle.controller.specs.Deliveries.{takes_answer, takes_by}
use Rattle.controller.specs.Messages.{reply_ok, view_below}
use Rattle.controller.specs.Messages.{message}
use Rattle.controller.specs.Actions.{Effect, effect_of, taken}
use Rattle.controller.specs.Records.{up}
use Rattle.controller.proofs.Statuses.{with_status}
use Rattle.site.specs.States.{State, book, has_room, row}
use Rattle.site.specs.Steps.{share}
use Rattle.protocol.specs.Members.{Member}
use Rattle.protocol.specs.Updates.{upd}
use Rattle.protocol.specs.Model as model
use Rattle.protocol.specs.Model.{Run, Site, deliver_answer, then, with_answers}
use Rattle.runs.specs.History.{Event}
use Rattle.runs.proofs.Acting.{promised_code}
use Rattle.runs.proofs.Bond.{Bond, ReplicaR, SmallAnswer, StatusR, code, the_answer, the_message}
use Rattle.runs.proofs.Codes.{same_code}
use Rattle.runs.proofs.Puts.{frame_action}
use Rattle.runs.proofs.Promises.{restated}
use Rattle.runs.proofs.Ranges.{below_small, in_range}
use Rattle.runs.proofs.Shown.{Shown, Takes, of_body, shown_split}
use Rattle.runs.proofs.Simulated.{stays}
use Rattle.runs.proofs.Tables.{small_set, table_set}

-- a reply in range is of a small view
answer_small : (n cap : ℕ) (y : Reply) → n ≤ 7 → reply_ok n cap y ≡ true → SmallAnswer (Some y)
answer_small n cap (Normal u l p) most h = below_small n u most (and_parts (view_below n u) (leb l cap) h).0
answer_small n cap (Crash u) most h = below_small n u most h

module _ {E : Type 0} (says : E → Question → Option Light) (unsettled : Light) (n : ℕ) (blank : ℕ → model.Entry E) where
  module _ (s : State E) (h : List (Event E)) (m : Site E) (run : Run n blank m) (bond : Bond says unsettled n s h m) (j : ℕ) (a c : ControllerNumber) (v : View) (y : Reply) where
    abbrev x : Message E
    x = message a c v (Answers y)

    abbrev Goal : Effect E → Type 0
    Goal = Shown says unsettled n blank s h j x

    abbrev after : List (Option Reply) → Controller
    after answers = with_status (row s c) (Manager (set answers a.number (Some y)))

    -- the answer is counted
    counted : Member (the_message x) m.pool → a.number < n → c.number < n → SmallAnswer (Some y)
        → (answers : List (Option Reply)) → (row s c).status ≡ Manager answers → same_view v (row s c).views.promised ≡ true
        → Goal (taken c (has_room s) (share s c) (takes_answer x c (share s c) answers y))
    counted member sender below small answers e same =
        let most = bond.sizes.most in
        let r = m.replicas c.number in
        let old : ReplicaR n c.number (row s c) (cell_at s.cells c.number).row (book s c) r = bond.replicas c.number below in
        let was : StatusR n c.number (Manager answers) r = subst (λ st. StatusR n c.number st r) e old.status in
        let is = ap up e in
        let within : a.number < length answers = omega (arith, was.1) in
        let next : ℕ → model.Answer = upd r.answers a.number (the_answer (Some y)) in
        let status : StatusR n c.number (Manager (set answers a.number (Some y))) (with_answers r next) =
        (was.0, length-set answers a.number (Some y) ∙ was.1, table_set the_answer n answers r.answers a.number y (the_answer (Some y)) refl within was.2, small_set n answers a.number y within small was.3) in
        record {
          site = model.after_answer m a.number c.number (the_answer (Some y));
          run = then run (deliver_answer a.number c.number (code v) (the_answer (Some y)) member was.0 (promised_code old is ∙ sym (same_code v (row s c).views.promised same)));
          bond = frame_action says unsettled n s h m bond c below (takes_answer x c (share s c) answers y) (with_answers r next) m.views tt refl
              (restated old is (Manager (set answers a.number (Some y))) r.status r.acknowledged next status tt);
        }

    by : Member (the_message x) m.pool → a.number < n → c.number < n → SmallAnswer (Some y)
        → (st : Status) → (row s c).status ≡ st → Goal (effect_of c (has_room s) (share s c) (takes_by x c (share s c) st (Answers y)))
    by member sender below small (Manager answers) e = shown_split says unsettled n blank s h j x (takes_answer x c (share s c) answers y) (stays run bond) (λ ys room put. counted member sender below small answers e ys.0)
    by member sender below small st e = stays run bond

    takes : Takes says unsettled n blank s h j m x
    takes member ok =
        let range = in_range n (cap_of (book s c)) x bond.sizes.most ok in
        by member range.sender range.addressee (answer_small n (cap_of (book s c)) y bond.sizes.most range.body) (row s c).status refl

  pub sim_answer : (s : State E) (h : List (Event E)) (m : Site E) → Run n blank m → Bond says unsettled n s h m
      → (j : ℕ) (msg : Message E) (y : Reply) → msg.body ≡ Answers y → Takes says unsettled n blank s h j m msg
  sim_answer s h m run bond j msg y e = of_body says unsettled n blank s h j m msg (Answers y) e (takes s h m run bond j msg.sender msg.addressee msg.view y)

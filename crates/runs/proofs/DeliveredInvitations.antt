-- The delivery of an invitation is one of the protocol.
use Rattle.std.proofs.Common.{◌≡◌, ℕ, ◌<◌, true, List, length, Option, sym, refl, ap, subst}
use Rattle.std.proofs.lemmas.Bool.{ltb-true}
use Rattle.numbers.specs.declared.views.ControllerNumber.{ControllerNumber}
use Rattle.numbers.specs.declared.views.View.{View}
use Rattle.numbers.specs.Views.{earlier}
use Rattle.entries.specs.declared.messages.Body.TheVariants.{Invitation, Answer as Answers}
use Rattle.entries.specs.declared.messages.Message.{Message}
use Rattle.entries.specs.declared.kinds.Answer.{Answer as Light}
use Rattle.entries.specs.declared.kinds.Question.{Question}
use Rattle.cabinet.specs.Cells.{cell_at}
use Rattle.controller.specs.declared.records.Controller.{Controller}
use Rattle.controller.specs.declared.records.Status.{Status}
use Rattle.controller.specs.declared.records.Status.TheVariants.{Down, Waiting, Manager, Backup, Primary}
use Rattle.controller.specs.Books.{cap_of}
use Rattle.controller.specs.Deliveries.{promised_row, takes_by, takes_invitation}
use Rattle.controller.specs.Messages.{message}
use Rattle.controller.specs.Actions.{Effect, cells_after, effect_of, own, put_asks, taken}
use Rattle.controller.specs.Records.{is_up, reply_of, up}
use Rattle.controller.proofs.Actions.{AllYes}
use Rattle.site.specs.States.{State, book, has_room, put_share, row, sent}
use Rattle.site.specs.Steps.{share}
use Rattle.protocol.specs.Members.{Member}
use Rattle.protocol.specs.Model as model
use Rattle.protocol.specs.Model.{Run, Site, deliver_invitation, none, promising, send, then, waiting, with_replica}
use Rattle.runs.specs.History.{Event}
use Rattle.runs.proofs.Acting.{promised_code, up_not_down, views_small}
use Rattle.runs.proofs.Bond.{Bond, ReplicaR, Small, code, the_message}
use Rattle.runs.proofs.Codes.{earlier_code}
use Rattle.runs.proofs.Frame.{frame_send}
use Rattle.runs.proofs.Promises.{answer_is, promises}
use Rattle.runs.proofs.Puts.{frame_action}
use Rattle.runs.proofs.Ranges.{in_range}
use Rattle.runs.proofs.Shown.{Shown, Takes, of_body, shown_split}
use Rattle.runs.proofs.Simulated.{stays}

module _ {E : Type 0} (says : E → Question → Option Light) (unsettled : Light) (n : ℕ) (blank : ℕ → model.Entry E) where
  module _ (s : State E) (h : List (Event E)) (m : Site E) (run : Run n blank m) (bond : Bond says unsettled n s h m) (j : ℕ) (a c : ControllerNumber) (v : View) where
    abbrev x : Message E
    x = message a c v Invitation

    abbrev reply : Message E
    reply = message c a v (Answers (reply_of c (row s c)))

    abbrev after : Controller
    after = promised_row (row s c) v

    abbrev state : State E
    state = put_share s c (own after (book s c) (cells_after true s.cells c after.views))

    abbrev Goal : Effect E → Type 0
    Goal = Shown says unsettled n blank s h j x

    -- the view is promised, and answered
    promised : Member (the_message x) m.pool → c.number < n → Small v
        → is_up (row s c) ≡ true → earlier (row s c).views.promised v ≡ true → has_room s ≡ true → AllYes (put_asks true s.cells c after.views)
        → Goal (taken c (has_room s) (share s c) (takes_invitation x c (share s c)))
    promised member below in_range is later room ready =
        let r = m.replicas c.number in
        let old : ReplicaR n c.number (row s c) (cell_at s.cells c.number).row (book s c) r = bond.replicas c.number below in
        let small = views_small old is in
        let before : r.promised < code v = subst (λ k. k < code v) (sym (promised_code old is)) (earlier_code (row s c).views.promised v small.1 in_range later) in
        let next = promising r waiting (code v) (λ _. none) in
        let put = frame_action says unsettled n s h m bond c below (takes_invitation x c (share s c)) next m.views ready refl
        (promises old is Waiting waiting v (code v) (λ _. none) refl ready.1.0 refl tt) in
        record {
          site = model.after_invitation m a.number c.number (code v);
          run = then run (deliver_invitation a.number c.number (code v) member (up_not_down n c.number r (row s c).status old.status is) before);
          bond = subst (λ y. Bond says unsettled n (sent state reply) h (send (with_replica m c.number next) (model.answer c.number a.number (code v) y)))
              (sym (answer_is old is c))
              (frame_send says unsettled n state h (with_replica m c.number next) put reply (ltb-true s.site.count (length s.pool) room));
        }

    took : Member (the_message x) m.pool → c.number < n → Small v → is_up (row s c) ≡ true → Goal (effect_of c (has_room s) (share s c) (takes_invitation x c (share s c)))
    took member below in_range is = shown_split says unsettled n blank s h j x (takes_invitation x c (share s c)) (stays run bond) (λ ys room put. promised member below in_range is ys.0 room.0 put)

    by : Member (the_message x) m.pool → c.number < n → Small v → (st : Status) → (row s c).status ≡ st → Goal (effect_of c (has_room s) (share s c) (takes_by x c (share s c) st Invitation))
    by member below in_range Down e = stays run bond
    by member below in_range Waiting e = took member below in_range (ap up e)
    by member below in_range (Manager answers) e = took member below in_range (ap up e)
    by member below in_range Backup e = took member below in_range (ap up e)
    by member below in_range (Primary lengths) e = took member below in_range (ap up e)

    takes : Takes says unsettled n blank s h j m x
    takes member ok = let range = in_range n (cap_of (book s c)) x bond.sizes.most ok in by member range.addressee range.small (row s c).status refl

  pub sim_invitation : (s : State E) (h : List (Event E)) (m : Site E) → Run n blank m → Bond says unsettled n s h m
      → (j : ℕ) (msg : Message E) → msg.body ≡ Invitation → Takes says unsettled n blank s h j m msg
  sim_invitation s h m run bond j msg e = of_body says unsettled n blank s h j m msg Invitation e (takes s h m run bond j msg.sender msg.addressee msg.view)

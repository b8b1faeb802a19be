-- The delivery of a form message is one of the protocol.
use Rattle.std.proofs.lemmas.List.{get_or-set_same}
use Rattle.std.proofs.Common.{◌≡◌, ℕ, suc, ◌<◌, true, List, Option, sym, refl, ap, ◌∙◌, subst, replicate, Some, None, arith}
use Rattle.numbers.specs.declared.views.ControllerNumber.{ControllerNumber}
use Rattle.numbers.specs.declared.views.View.{View}
use Rattle.numbers.specs.Rows.{row_ok}
use Rattle.numbers.specs.Views.{same_view}
use Rattle.entries.specs.declared.messages.Body.TheVariants.{Form}
use Rattle.entries.specs.declared.messages.Message.{Message}
use Rattle.entries.specs.declared.kinds.Answer.{Answer as Light}
use Rattle.entries.specs.declared.kinds.Question.{Question}
use Rattle.cabinet.specs.Cells.{cell_at}
use Rattle.controller.specs.declared.records.Controller.{Controller}
use Rattle.controller.specs.declared.records.Status.{Status}
use Rattle.controller.specs.declared.records.Status.TheVariants.{Waiting, Primary}
use Rattle.controller.specs.Books.{cap_of}
use Rattle.controller.specs.Deliveries.{opened_row, takes_by, takes_form}
use Rattle.controller.specs.Messages.{message}
use Rattle.controller.specs.Actions.{Effect, cells_after, effect_of, own, put_asks, taken}
use Rattle.controller.specs.Records.{only, up}
use Rattle.controller.proofs.Actions.{AllYes}
use Rattle.site.specs.States.{State, book, has_room, put_share, row}
use Rattle.site.specs.Steps.{share}
use Rattle.protocol.specs.Members.{Member}
use Rattle.protocol.specs.Updates.{upd}
use Rattle.protocol.proofs.Updates.{upd_same}
use Rattle.protocol.specs.Model as model
use Rattle.protocol.specs.Model.{Replica, Run, Site, deliver_formation, entering, opening_by, then, with_replica, with_view}
use Rattle.runs.specs.History.{Event, book_at, opened}
use Rattle.runs.proofs.Acting.{promised_code}
use Rattle.runs.proofs.Bond.{Bond, BookR, ReplicaR, Small, StatusR, code, the_length, the_message}
use Rattle.runs.proofs.Codes.{same_code}
use Rattle.runs.proofs.Frame.{frame_note}
use Rattle.runs.proofs.Puts.{frame_action}
use Rattle.runs.proofs.Ranges.{in_range}
use Rattle.runs.proofs.Shown.{Shown, Takes, of_body, shown_split}
use Rattle.runs.proofs.Simulated.{stays}
use Rattle.runs.proofs.Tables.{only_long, table_only}
use Rattle.runs.proofs.Used.{used_book}

module _ {E : Type 0} (says : E → Question → Option Light) (unsettled : Light) (n : ℕ) (blank : ℕ → model.Entry E) where
  module _ (s : State E) (h : List (Event E)) (m : Site E) (run : Run n blank m) (bond : Bond says unsettled n s h m) (j : ℕ) (a c : ControllerNumber) (v : View) where
    abbrev x : Message E
    x = message a c v Form

    abbrev after : Controller
    after = opened_row c (row s c) v

    abbrev state : State E
    state = put_share s c (own after (book s c) (cells_after true s.cells c after.views))

    abbrev Goal : Effect E → Type 0
    Goal = Shown says unsettled n blank s h j x

    -- the replica as it enters the view
    abbrev next : Replica E
    next =
        let r = m.replicas c.number in
        entering r (code v) c.number r.length r.book (upd (λ _. 0) c.number (suc r.length))

    enters : c.number < n → (row s c).status ≡ Waiting → same_view v (row s c).views.promised ≡ true → (row s c).complete ≡ true → row_ok after.views ≡ true
        → ReplicaR n c.number after after.views (book s c) next
    enters below e same complete kept =
        let most = bond.sizes.most in
        let r = m.replicas c.number in
        let old : ReplicaR n c.number (row s c) (cell_at s.cells c.number).row (book s c) r = bond.replicas c.number below in
        let status : StatusR n c.number (Primary (only c (row s c).length)) next =
        (refl, only_long c (row s c).length, refl, table_only the_length n most c below (row s c).length (suc r.length) (ap suc old.log.len) 0 refl) in
        record { status = status; views = λ _. refl; cell = record { kept = kept; current = refl; promised = same_code v (row s c).views.promised same }; complete = sym complete; primary = refl; log = old.log; own = get_or-set_same (replicate 7 None) c.number (Some (row s c).length) None (omega arith) }

    -- the view is opened
    opens : Member (the_message x) m.pool → c.number < n → Small v
        → (row s c).status ≡ Waiting → same_view v (row s c).views.promised ≡ true → (row s c).complete ≡ true → AllYes (put_asks true s.cells c after.views)
        → Goal (taken c (has_room s) (share s c) (takes_form x c (share s c)))
    opens member below in_range e same complete ready =
        let r = m.replicas c.number in
        let old : ReplicaR n c.number (row s c) (cell_at s.cells c.number).row (book s c) r = bond.replicas c.number below in
        let is = ap up e in
        let was : StatusR n c.number Waiting r = subst (λ st. StatusR n c.number st r) e old.status in
        let entered : Site E = with_view (with_replica m c.number next) (code v) (opening_by (m.views (code v)) c.number r.length r.book) in
        let put : Bond says unsettled n state h entered = frame_action says unsettled n s h m bond c below (takes_form x c (share s c)) next entered.views ready refl (enters below e same complete ready.1.0) in
        let has : BookR (book_at state c) r.length r.book =
        subst (λ (k : Replica E). BookR (book_at state c) k.length k.book) (upd_same m.replicas c.number next)
        (used_book (put.replicas c.number below)) in
        record {
          site = model.after_formation m c.number (code v);
          run = then run (deliver_formation a.number c.number (code v) member was (promised_code old is ∙ sym (same_code v (row s c).views.promised same)) (old.complete ∙ complete));
          bond = frame_note says unsettled n state h entered put (opened v (book_at state c)) (model.opening (code v) r.length r.book) (refl, in_range, has);
        }

    by : Member (the_message x) m.pool → c.number < n → Small v → (st : Status) → (row s c).status ≡ st → Goal (effect_of c (has_room s) (share s c) (takes_by x c (share s c) st Form))
    by member below in_range Waiting e = shown_split says unsettled n blank s h j x (takes_form x c (share s c)) (stays run bond) (λ ys room put. opens member below in_range e ys.0 ys.1.0 put)
    by member below in_range st e = stays run bond

    takes : Takes says unsettled n blank s h j m x
    takes member ok = let range = in_range n (cap_of (book s c)) x bond.sizes.most ok in by member range.addressee range.small (row s c).status refl

  pub sim_formation : (s : State E) (h : List (Event E)) (m : Site E) → Run n blank m → Bond says unsettled n s h m
      → (j : ℕ) (msg : Message E) → msg.body ≡ Form → Takes says unsettled n blank s h j m msg
  sim_formation s h m run bond j msg e = of_body says unsettled n blank s h j m msg Form e (takes s h m run bond j msg.sender msg.addressee msg.view)

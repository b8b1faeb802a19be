-- A join is a step of the protocol.
use Rattle.std.proofs.Common.{◌≡◌, ℕ, ◌<◌, ◌≤◌, true, List, length, take, drop, Option, sym, refl, ◌∙◌, subst, arith, length-append, length-drop}
use Rattle.std.proofs.lemmas.List.{length-take-le}
use Rattle.std.proofs.lemmas.Bool.{leb-true, ltb-true}
use Rattle.numbers.specs.declared.views.ControllerNumber.{ControllerNumber}
use Rattle.numbers.specs.declared.views.View.{View}
use Rattle.numbers.specs.Views.{earlier, same_view}
use Rattle.entries.specs.declared.messages.Body.TheVariants.{Acknowledgement}
use Rattle.entries.specs.declared.book.Entry.{Entry}
use Rattle.entries.specs.declared.kinds.Answer.{Answer as Light}
use Rattle.entries.specs.declared.kinds.Question.{Question}
use Rattle.controller.specs.declared.outcomes.Outcome.{Outcome}
use Rattle.controller.specs.declared.records.Controller.{Controller}
use Rattle.controller.specs.Books.{cap_of, in_use, item}
use Rattle.controller.specs.Actions.{cells_after, own, put_asks}
use Rattle.controller.specs.Joins.{copied, join, joined_row}
use Rattle.controller.specs.Messages.{message}
use Rattle.controller.specs.Records.{is_up, leading, waiting}
use Rattle.controller.proofs.Actions.{AllYes}
use Rattle.site.specs.States.{Done, State, book, put_share, row, sent}
use Rattle.site.specs.Steps.{share}
use Rattle.protocol.specs.Model as model
use Rattle.protocol.specs.Model.{Run, Site, acknowledgement, entering, then}
use Rattle.runs.specs.declared.steps.Step.TheVariants.{Join}
use Rattle.runs.specs.History.{Event, told}
use Rattle.runs.specs.Runs.{step}
use Rattle.runs.proofs.Acting.{current_code, primary_leads, promised_code, views_small, waiting_is_waiting}
use Rattle.runs.proofs.Bond.{Bond, code}
use Rattle.runs.proofs.Codes.{earlier_code, same_code}
use Rattle.runs.proofs.Frame.{frame_send}
use Rattle.runs.proofs.Items.{item_append_left, item_take}
use Rattle.runs.proofs.Puts.{frame_action}
use Rattle.runs.proofs.Simulated.{Simulated, between_split, stays}

same_acknowledgement : (E : Type 0) (a b v w l k : ℕ) → v ≡ w → l ≡ k → ◌≡◌ {A = model.Message E} (acknowledgement a b v l) (acknowledgement a b w k)
same_acknowledgement E a b v w l k e f = cc

module _ {E : Type 0} where
  copied_long : (from b : List (Entry E)) → length from ≤ length b → length (copied from b) ≡ length b
  copied_long from b fits = length-append from (drop (length from) b) ∙ omega (arith, length-drop (length from) b)

  -- what stands in a copy of the first l entries of `from`
  copied_item : (l : ℕ) (from b : List (Entry E)) → l ≤ length from → (j : ℕ) → j < length (take l from) → item (copied (take l from) b) j ≡ item from j
  copied_item l from b fits j lt = item_append_left (take l from) (drop (length (take l from)) b) j lt ∙ item_take l from j (omega (arith, length-take-le l from fits))

module _ {E : Type 0} (says : E → Question → Option Light) (unsettled : Light) (n : ℕ) (blank : ℕ → model.Entry E) where
  module _ (s : State E) (h : List (Event E)) (m : Site E) (run : Run n blank m) (bond : Bond says unsettled n s h m) (i p : ControllerNumber) where
    -- the primary's view and its entries
    abbrev v : View
    v = (row s p).views.current

    abbrev log : List (Entry E)
    log = in_use (row s p) (book s p)

    abbrev new : Controller
    new = joined_row p v (length log)

    -- what the questions tell
    record May : Type 0 where
      low : i.number < n
      low_p : p.number < n
      alive : is_up (row s i) ≡ true
      alive_p : is_up (row s p) ≡ true
      waits_so : waiting (row s i).status ≡ true
      leads_so : leading (row s p).status ≡ true
      same : same_view v (row s i).views.promised ≡ true
      later : earlier (row s i).views.current v ≡ true
      fits : length log ≤ length (book s i)
      room : s.site.count < length s.pool

    abbrev left : State E
    left = put_share s i (own new (copied log (book s i)) (cells_after true s.cells i new.views))

    joining : May → AllYes (put_asks true s.cells i new.views) → Simulated says unsettled n blank (sent left (message i p v (Acknowledgement (length log)))) h
    joining may ready =
        let rep = bond.replicas i.number may.low in
        let led = bond.replicas p.number may.low_p in
        let r = m.replicas i.number in
        let o = m.replicas p.number in
        let promised_v : r.promised ≡ code v = promised_code rep may.alive ∙ sym (same_code v (row s i).views.promised may.same) in
        let current_v : o.current ≡ code v = current_code led may.alive_p in
        let later : code (row s i).views.current < code v = earlier_code (row s i).views.current v (views_small rep may.alive).0 (views_small led may.alive_p).0 may.later in
        let before : r.current < o.current = omega (arith, current_code rep may.alive) in
        let log_long : length log ≡ (row s p).length = length-take-le (row s p).length (book s p) led.log.within in
        let entered = entering r r.promised p.number o.length o.book (λ _. 0) in
        let framed = frame_action says unsettled n s h m bond i may.low (join p (row s p) log i (share s i)) entered m.views ready (copied_long log (book s i) may.fits)
        (record {
          status = refl;
          views = λ _. refl;
          cell = record { kept = ready.1.0; current = promised_v; promised = promised_v };
          complete = refl;
          primary = refl;
          log = record {
            len = led.log.len ∙ sym log_long;
            within = omega (arith, copied_long log (book s i) may.fits, may.fits);
            same = λ j e lt at. led.log.same j e (omega arith) (sym (copied_item (row s p).length (book s p) (book s i) led.log.within j lt) ∙ at);
            small = λ j e lt at. led.log.small j e (omega arith) (sym (copied_item (row s p).length (book s p) (book s i) led.log.within j lt) ∙ at);
          };
          own = tt;
        }) in
        let answered = frame_send says unsettled n left h (model.with_replica m i.number entered) framed (message i p v (Acknowledgement (length log))) may.room in
        let as_sent = same_acknowledgement E i.number p.number (code v) r.promised (length log) o.length (sym promised_v) (log_long ∙ sym led.log.len) in
        record {
          site = model.after_join m i.number p.number;
          run = then run (model.join i.number p.number (waiting_is_waiting n i.number r (row s i).status rep.status may.waits_so) (primary_leads n p.number m (row s p).status led.status may.leads_so) (current_v ∙ sym promised_v) before);
          bond = subst (λ (x : model.Message E). Bond says unsettled n (sent left (message i p v (Acknowledgement (length log)))) h (model.send (model.with_replica m i.number entered) x)) as_sent answered;
        }

    pub sim_join : Simulated says unsettled n blank (step says unsettled s (Join i p)).state (told says unsettled h s (Join i p))
    sim_join =
        between_split (λ (d : Done (Outcome E) E). Simulated says unsettled n blank d.state h) s i (join p (row s p) log) (λ f. stays run bond) n bond.sizes.size p
        (λ low low_p zs room put.
        let views = zs.1.1.1.1.1 in
        joining
        (record {
          low = low;
          low_p = low_p;
          alive = zs.0;
          alive_p = zs.1.0;
          waits_so = zs.1.1.0;
          leads_so = zs.1.1.1.1.0;
          same = views.0;
          later = views.1.0;
          fits = omega (arith, leb-true (length log) (cap_of (book s i)) views.1.1.0);
          room = ltb-true s.site.count (length s.pool) room.0;
        })
        put)

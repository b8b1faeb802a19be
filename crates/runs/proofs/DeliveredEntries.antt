-- The delivery of an entry is one of the protocol.
use Rattle.std.proofs.Common.{◌≡◌, ℕ, suc, ◌+◌, ◌-◌, ◌<◌, ◌≤◌, true, eqb, leb, List, length, set, Option, sym, refl, ap, ◌∙◌, subst, arith, length-set}
use Rattle.std.proofs.lemmas.Bool.{and_parts, eqb-true, leb-true, ltb-true}
use Rattle.numbers.specs.declared.views.ControllerNumber.{ControllerNumber}
use Rattle.numbers.specs.declared.views.Place.{Place}
use Rattle.numbers.specs.declared.views.View.{View}
use Rattle.numbers.specs.Views.{same_view}
use Rattle.entries.specs.declared.messages.Body.TheVariants.{Entry as Carries, Acknowledgement}
use Rattle.entries.specs.declared.book.Entry.{Entry}
use Rattle.entries.specs.declared.messages.Message.{Message}
use Rattle.entries.specs.declared.kinds.Answer.{Answer as Light}
use Rattle.entries.specs.declared.kinds.Question.{Question}
use Rattle.cabinet.specs.Cells.{cell_at}
use Rattle.controller.specs.declared.records.Controller.{Controller}
use Rattle.controller.specs.declared.records.Status.{Status}
use Rattle.controller.specs.declared.records.Status.TheVariants.{Backup, Primary}
use Rattle.controller.specs.Books.{appended, cap_of}
use Rattle.controller.specs.Deliveries.{takes_by, takes_entry}
use Rattle.controller.specs.Messages.{body_ok, view_below}
use Rattle.controller.specs.Messages.{message}
use Rattle.controller.specs.Actions.{Effect, effect_of, own, taken}
use Rattle.controller.specs.Records.{is_up, up}
use Rattle.controller.proofs.Statuses.{with_status}
use Rattle.site.specs.States.{State, book, has_room, put_share, row, sent}
use Rattle.site.specs.Steps.{share}
use Rattle.protocol.specs.Members.{Member}
use Rattle.protocol.specs.Model as model
use Rattle.protocol.specs.Model.{Run, Site, acknowledgement, active, appending, deliver_entry, send, then, with_replica}
use Rattle.protocol.proofs.Active.{whole_log}
use Rattle.protocol.proofs.Runs.{invariant_of_run}
use Rattle.runs.specs.History.{Event}
use Rattle.runs.proofs.Acting.{current_code}
use Rattle.runs.proofs.Appending.{appends, own_after}
use Rattle.runs.proofs.Bond.{Bond, ReplicaR, Small, StatusR, code, the_entry, the_message}
use Rattle.runs.proofs.Codes.{same_code}
use Rattle.runs.proofs.Frame.{frame_send}
use Rattle.runs.proofs.Puts.{frame_action}
use Rattle.runs.proofs.Ranges.{below_small, in_range}
use Rattle.runs.proofs.Shown.{Shown, Takes, of_body, shown_split}
use Rattle.runs.proofs.Simulated.{stays}

-- an entry in range fits the book, and its view is small
entry_fits : {E : Type 0} (n : ℕ) (b : List (Entry E)) (k : Place) (e : Entry E) → n ≤ 7 → body_ok n (cap_of b) (Carries k e) ≡ true → (k.number ≤ length b) × Small e.view
entry_fits n b k e most ok =
    let parts = and_parts (view_below n e.view) (leb k.number (cap_of b)) ok in
    (omega (arith, leb-true k.number (cap_of b) parts.1), below_small n e.view most parts.0)

module _ {E : Type 0} (says : E → Question → Option Light) (unsettled : Light) (n : ℕ) (blank : ℕ → model.Entry E) where
  module _ (s : State E) (h : List (Event E)) (m : Site E) (run : Run n blank m) (bond : Bond says unsettled n s h m) (j : ℕ) (a c : ControllerNumber) (v : View) (k : Place) (e : Entry E) where
    abbrev x : Message E
    x = message a c v (Carries k e)

    abbrev reply : Message E
    reply = message c a v (Acknowledgement ((row s c).length + 1))

    abbrev after : Controller
    after = appended c (row s c)

    abbrev longer : List (Entry E)
    longer = set (book s c) (row s c).length e

    abbrev state : State E
    state = put_share s c (own after longer s.cells)

    abbrev Goal : Effect E → Type 0
    Goal = Shown says unsettled n blank s h j x

    -- a controller's replica, if it is up, is in the view that it is asked for
    in_view : c.number < n → is_up (row s c) ≡ true → same_view v (row s c).views.current ≡ true → (m.replicas c.number).current ≡ code v
    in_view below is same = current_code (bond.replicas c.number below) is ∙ sym (same_code v (row s c).views.current same)

    -- the entry is taken, and acknowledged
    followed : Member (the_message x) m.pool → c.number < n → body_ok n (cap_of (book s c)) (Carries k e) ≡ true
        → (row s c).status ≡ Backup → same_view v (row s c).views.current ≡ true → eqb k.number ((row s c).length + 1) ≡ true → has_room s ≡ true
        → Goal (taken c (has_room s) (share s c) (takes_entry x c (share s c) k e))
    followed member below ok is same next room =
        let r = m.replicas c.number in
        let l = (row s c).length in
        let old : ReplicaR n c.number (row s c) (cell_at s.cells c.number).row (book s c) r = bond.replicas c.number below in
        let alive = ap up is in
        let was : r.status ≡ active = subst (λ t. StatusR n c.number t r) is old.status in
        let fits = entry_fits n (book s c) k e bond.sizes.most ok in
        let at : k.number ≡ l + 1 = eqb-true k.number (l + 1) next in
        let inside : l < length (book s c) = omega (arith, fits.0) in
        let last : k.number - 1 ≡ r.length = omega (arith, old.log.len) in
        let one_more : l + 1 ≡ suc r.length = omega (arith, old.log.len) in
        let after_status : StatusR n c.number after.status (appending r (the_entry e) r.acknowledged) =
        subst (λ t. StatusR n c.number (appended c (with_status (row s c) t)).status (appending r (the_entry e) r.acknowledged)) (sym is) was in
        let left : Site E = with_replica m c.number (appending r (the_entry e) r.acknowledged) in
        let most = bond.sizes.most in
        let put : Bond says unsettled n state h left = frame_action says unsettled n s h m bond c below (takes_entry x c (share s c) k e) (appending r (the_entry e) r.acknowledged) m.views tt (length-set (book s c) l e)
        (appends c old alive e (the_entry e) r.acknowledged refl fits.1 inside after_status (own_after n c (l + 1) r (omega arith) (row s c).status old.status)) in
        record {
          site = model.after_entry m a.number c.number (code v) (the_entry e);
          run = then run (deliver_entry a.number c.number (code v) (k.number - 1) (the_entry e) member was (in_view below alive same) last);
          bond = subst (λ z. Bond says unsettled n (sent state reply) h (send left (acknowledgement c.number a.number (code v) z))) one_more
              (frame_send says unsettled n state h left put reply (ltb-true s.site.count (length s.pool) room));
        }

    -- no primary gets an entry: it has the whole log of its view
    no_entry : Member (the_message x) m.pool → c.number < n → (lengths : List (Option ℕ))
        → (row s c).status ≡ Primary lengths → same_view v (row s c).views.current ≡ true → eqb k.number ((row s c).length + 1) ≡ true → ⊥
    no_entry member below lengths is same next =
        let r = m.replicas c.number in
        let old = bond.replicas c.number below in
        let was = subst (λ t. StatusR n c.number t r) is old.status in
        let inv = invariant_of_run n blank (omega (arith, bond.sizes.least)) m run in
        let in_log : k.number - 1 < (m.views (code v)).log_length = (inv.message_ok (the_message x) member).in_log in
        let whole : (m.views (code v)).log_length ≡ r.length =
        subst (λ (z : ℕ). (m.views z).log_length ≡ r.length) (in_view below (ap up is) same) (whole_log n m inv c.number (record { is_active = was.0; is_primary = was.2 })) in
        let at : k.number ≡ (row s c).length + 1 = eqb-true k.number ((row s c).length + 1) next in
        omega (arith, old.log.len)

    -- the questions of an active addressee
    took : (same_view v (row s c).views.current ≡ true → eqb k.number ((row s c).length + 1) ≡ true → has_room s ≡ true → Goal (taken c (has_room s) (share s c) (takes_entry x c (share s c) k e)))
        → Goal (effect_of c (has_room s) (share s c) (takes_by x c (share s c) Backup (Carries k e)))
    took go = shown_split says unsettled n blank s h j x (takes_entry x c (share s c) k e) (stays run bond) (λ ys room put. go ys.0 ys.1.0 room.0)

    by : Member (the_message x) m.pool → c.number < n → body_ok n (cap_of (book s c)) (Carries k e) ≡ true
        → (st : Status) → (row s c).status ≡ st → Goal (effect_of c (has_room s) (share s c) (takes_by x c (share s c) st (Carries k e)))
    by member below ok Backup is = took (λ same next room. followed member below ok is same next room)
    by member below ok (Primary lengths) is = took (λ same next room. absurd (no_entry member below lengths is same next))
    by member below ok st is = stays run bond

    takes : Takes says unsettled n blank s h j m x
    takes member ok = let range = in_range n (cap_of (book s c)) x bond.sizes.most ok in by member range.addressee range.body (row s c).status refl

  pub sim_entry : (s : State E) (h : List (Event E)) (m : Site E) → Run n blank m → Bond says unsettled n s h m
      → (j : ℕ) (msg : Message E) (k : Place) (e : Entry E) → msg.body ≡ Carries k e → Takes says unsettled n blank s h j m msg
  sim_entry s h m run bond j msg k e is = of_body says unsettled n blank s h j m msg (Carries k e) is (takes s h m run bond j msg.sender msg.addressee msg.view k e)

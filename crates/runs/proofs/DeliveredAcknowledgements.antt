-- The delivery of an acknowledgement is one of the protocol.
use Rattle.std.proofs.lemmas.Bool.{cases_eq, leb-true}
use Rattle.std.proofs.lemmas.List.{get_or-set_same, get_or-set_other}
use Rattle.std.proofs.Common.{◌≡◌, ℕ, suc, ◌<◌, max, true, List, get_or, set, Some, None, Option, sym, refl, ap, ◌∙◌, subst, arith, length-set, length, leb, ◌≤◌, ◌⊎◌, inl, inr}
use Rattle.numbers.specs.declared.views.ControllerNumber.{ControllerNumber}
use Rattle.numbers.specs.declared.views.View.{View}
use Rattle.numbers.specs.Views.{same_view}
use Rattle.entries.specs.declared.messages.Body.TheVariants.{Acknowledgement}
use Rattle.entries.specs.declared.messages.Message.{Message}
use Rattle.entries.specs.declared.kinds.Answer.{Answer as Light}
use Rattle.entries.specs.declared.kinds.Question.{Question}
use Rattle.cabinet.specs.Cells.{cell_at}
use Rattle.controller.specs.declared.records.Controller.{Controller}
use Rattle.controller.specs.declared.records.Status.{Status}
use Rattle.controller.specs.declared.records.Status.TheVariants.{Backup, Primary}
use Rattle.controller.specs.Books.{cap_of}
use Rattle.controller.specs.Deliveries.{larger, takes_acknowledgement, takes_by}
use Rattle.controller.specs.Messages.{message}
use Rattle.controller.specs.Actions.{Effect, effect_of, taken}
use Rattle.controller.specs.Records.{up}
use Rattle.controller.proofs.Statuses.{with_status}
use Rattle.site.specs.States.{State, book, has_room, row}
use Rattle.site.specs.Steps.{share}
use Rattle.protocol.specs.Members.{Member}
use Rattle.protocol.specs.Updates.{upd}
use Rattle.protocol.specs.Model as model
use Rattle.protocol.specs.Model.{Run, Site, deliver_acknowledgement, then, with_acknowledged}
use Rattle.runs.specs.History.{Event}
use Rattle.runs.proofs.Acting.{current_code}
use Rattle.runs.proofs.Bond.{Bond, OwnR, ReplicaR, StatusR, code, the_length, the_message}
use Rattle.runs.proofs.Codes.{same_code}
use Rattle.runs.proofs.Puts.{frame_action}
use Rattle.runs.proofs.Promises.{restated}
use Rattle.runs.proofs.Ranges.{in_range}
use Rattle.runs.proofs.Shown.{Shown, Takes, of_body, shown_split}
use Rattle.runs.proofs.Simulated.{stays}
use Rattle.runs.proofs.Tables.{table_set}

-- the larger of two acknowledged lengths, as the protocol has it
larger_length : (o : Option ℕ) (l k : ℕ) → k ≡ the_length o → max k (suc l) ≡ the_length (Some (larger o l))
larger_length None l k e = omega arith
larger_length (Some j) l k e = omega arith

-- a primary's own length stays its length, also where it acknowledges to itself
own_kept : (lengths : List (Option ℕ)) (a c l k : ℕ) → a < length lengths → l ≤ k → get_or lengths c None ≡ Some k
    → get_or (set lengths a (Some (larger (get_or lengths a None) l))) c None ≡ Some k
own_kept lengths a c l k inside fits own = by (cases_eq c a)
  where
    by : (c ≡ a) ⊎ (c ≡ a → ⊥) → get_or (set lengths a (Some (larger (get_or lengths a None) l))) c None ≡ Some k
    by (inl e) =
        let at : get_or lengths a None ≡ Some k = ap (λ z. get_or lengths z None) (sym e) ∙ own in
        let most : max k l ≡ k = omega arith in
        ap (λ z. get_or (set lengths a (Some (larger (get_or lengths a None) l))) z None) e
        ∙ get_or-set_same lengths a (Some (larger (get_or lengths a None) l)) None inside
        ∙ ap (λ z. Some (larger z l)) at ∙ ap (λ z. Some z) most
    by (inr other) = get_or-set_other lengths a c (Some (larger (get_or lengths a None) l)) None other ∙ own

module _ {E : Type 0} (says : E → Question → Option Light) (unsettled : Light) (n : ℕ) (blank : ℕ → model.Entry E) where
  module _ (s : State E) (h : List (Event E)) (m : Site E) (run : Run n blank m) (bond : Bond says unsettled n s h m) (j : ℕ) (a c : ControllerNumber) (v : View) (l : ℕ) where
    abbrev x : Message E
    x = message a c v (Acknowledgement l)

    abbrev Goal : Effect E → Type 0
    Goal = Shown says unsettled n blank s h j x

    abbrev after : List (Option ℕ) → Controller
    after lengths = with_status (row s c) (Primary (set lengths a.number (Some (larger (get_or lengths a.number None) l))))

    -- the length is noted
    noted : Member (the_message x) m.pool → a.number < n → c.number < n
        → (lengths : List (Option ℕ)) → (row s c).status ≡ Primary lengths → same_view v (row s c).views.current ≡ true → leb l (row s c).length ≡ true
        → Goal (taken c (has_room s) (share s c) (takes_acknowledgement x c (share s c) lengths l))
    noted member sender below lengths e same fits =
        let most = bond.sizes.most in
        let r = m.replicas c.number in
        let old : ReplicaR n c.number (row s c) (cell_at s.cells c.number).row (book s c) r = bond.replicas c.number below in
        let was : StatusR n c.number (Primary lengths) r = subst (λ st. StatusR n c.number st r) e old.status in
        let is = ap up e in
        let most_of : ℕ = max (r.acknowledged a.number) (suc l) in
        let new : ℕ = larger (get_or lengths a.number None) l in
        let next : ℕ → ℕ = upd r.acknowledged a.number most_of in
        let status : StatusR n c.number (Primary (set lengths a.number (Some new))) (with_acknowledged r next) = (
          was.0,
          length-set lengths a.number (Some new) ∙ was.1,
          was.2,
          table_set the_length n lengths r.acknowledged a.number new most_of (larger_length (get_or lengths a.number None) l (r.acknowledged a.number) (was.3 a.number sender)) (omega (arith, was.1)) was.3,
        ) in
        record {
          site = model.after_acknowledgement m a.number c.number l;
          run = then run (deliver_acknowledgement a.number c.number (code v) l member (record { is_active = was.0; is_primary = was.2 }) (current_code old is ∙ sym (same_code v (row s c).views.current same)));
          bond = frame_action says unsettled n s h m bond c below (takes_acknowledgement x c (share s c) lengths l) (with_acknowledged r next) m.views tt refl
              (restated old is (Primary (set lengths a.number (Some new))) r.status next r.answers status
              (own_kept lengths a.number c.number l (row s c).length (omega (arith, was.1)) (leb-true _ _ fits) (subst (OwnR c.number (row s c).length) e old.own)));
        }

    by : Member (the_message x) m.pool → a.number < n → c.number < n
        → (st : Status) → (row s c).status ≡ st → Goal (effect_of c (has_room s) (share s c) (takes_by x c (share s c) st (Acknowledgement l)))
    by member sender below (Primary lengths) e = shown_split says unsettled n blank s h j x (takes_acknowledgement x c (share s c) lengths l) (stays run bond) (λ ys room put. noted member sender below lengths e ys.0 ys.1.0)
    by member sender below Backup e = stays run bond
    by member sender below st e = stays run bond

    takes : Takes says unsettled n blank s h j m x
    takes member ok = let range = in_range n (cap_of (book s c)) x bond.sizes.most ok in by member range.sender range.addressee (row s c).status refl

  pub sim_acknowledgement : (s : State E) (h : List (Event E)) (m : Site E) → Run n blank m → Bond says unsettled n s h m
      → (j : ℕ) (msg : Message E) (l : ℕ) → msg.body ≡ Acknowledgement l → Takes says unsettled n blank s h j m msg
  sim_acknowledgement s h m run bond j msg l e = of_body says unsettled n blank s h j m msg (Acknowledgement l) e (takes s h m run bond j msg.sender msg.addressee msg.view l)

-- A primary's change, and an entry that it passes on.
use Rattle.std.specs.Prelude.{◌+◌, false, List, [], ◌∷◌, Some, None, Option, nat_lt, slice_set}
use Rattle.numbers.specs.declared.refusals.Refusal.TheVariants.{BookFull, DoesNotFit, NotPrimary, WrongPower, WrongStatus}
use Rattle.numbers.specs.declared.views.ControllerNumber.{ControllerNumber}
use Rattle.numbers.specs.declared.views.Place.{Place}
use Rattle.numbers.specs.Views.{place_of}
use Rattle.entries.specs.declared.messages.Body.TheVariants.{Entry as Carries}
use Rattle.entries.specs.declared.book.Entry.{Entry}
use Rattle.controller.specs.declared.outcomes.Outcome.TheVariants.{Changed}
use Rattle.controller.specs.declared.records.Controller.{Controller}
use Rattle.controller.specs.Actions.{Action, Own, only_asks}
use Rattle.controller.specs.Books.{appended, at_place, cap_of, in_use}
use Rattle.controller.specs.Messages.{message}
use Rattle.controller.specs.Questions.{Question, ask}
use Rattle.controller.specs.Records.{is_active, is_primary, is_up}

-- the questions of every step of a primary
abbrev pub primary_asks : Controller → List Question → List Question
primary_asks r qs = ask (is_up r) WrongPower ∷ ask (is_active r) WrongStatus ∷ ask (is_primary r) NotPrimary ∷ qs

-- x is appended in the current view; its slip is its stamp
abbrev pub change : {E : Type 0} → E → ControllerNumber → Own E → Action E
change x i o =
    let r = o.row in
    record (only_asks o (primary_asks r (ask (nat_lt r.length (cap_of o.book)) BookFull ∷ []))) {
      gives = Changed (record { view = r.views.current; place = place_of (r.length + 1) });
      row = appended i r;
      book = slice_set o.book r.length (record { view = r.views.current; change = x });
    }

module _ {E : Type 0} (b : ControllerNumber) (k : Place) (i : ControllerNumber) (o : Own E) where
  -- the entry at place k goes to b in the current view, if there is one
  abbrev pub passes : Option (Entry E) → Action E
  passes None = only_asks o (primary_asks o.row (ask false DoesNotFit ∷ []))
  passes (Some e) = record (only_asks o (primary_asks o.row [])) { sent = Some (message i b o.row.views.current (Carries k e)) }

  abbrev pub pass : Action E
  pass = passes (at_place (in_use o.row o.book) k.number)

-- A waiting controller joins the view of an active primary.
use Rattle.std.specs.Prelude.{Some, ℕ, true, List, [], ◌∷◌, ◌++◌, length, drop, Ok, Err, Result, nat_le}
use Rattle.numbers.specs.declared.refusals.Refusal.TheVariants.{DoesNotFit, NotPrimary, WrongPower, WrongStatus, WrongView}
use Rattle.numbers.specs.declared.views.ControllerNumber.{ControllerNumber}
use Rattle.numbers.specs.declared.views.View.{View}
use Rattle.numbers.specs.Views.{earlier, same_view}
use Rattle.entries.specs.declared.messages.Body.TheVariants.{Acknowledgement}
use Rattle.entries.specs.declared.book.Entry.{Entry}
use Rattle.controller.specs.declared.faults.Fault.{Fault}
use Rattle.controller.specs.declared.records.Controller.{Controller}
use Rattle.controller.specs.declared.records.Status.TheVariants.{Backup}
use Rattle.controller.specs.Actions.{Action, Own, only_asks}
use Rattle.controller.specs.Books.{cap_of}
use Rattle.controller.specs.Messages.{message}
use Rattle.controller.specs.Questions.{Question, ask}
use Rattle.controller.specs.Records.{is_active, is_primary, is_up, is_waiting}

-- active under p in view v, with a complete book of that length
abbrev pub joined_row : ControllerNumber → View → ℕ → Controller
joined_row p v l = record { status = Backup; views = record { current = v; promised = v }; complete = true; length = l; primary = p }

-- a book with other entries at its beginning
abbrev pub copied : {E : Type 0} → List (Entry E) → List (Entry E) → List (Entry E)
copied from book = from ++ drop (length from) book

-- the book once the caller has copied the log over it, as it does where the step is taken
abbrev pub taken_over : {A E : Type 0} → Result A Fault → List (Entry E) → List (Entry E) → List (Entry E)
taken_over (Ok x) log book = copied log book
taken_over (Err e) log book = book

-- i is waiting, and p active and primary, both up
abbrev pub join_asks : Controller → Controller → List Question → List Question
join_asks r led qs = ask (is_up r) WrongPower ∷ ask (is_up led) WrongPower ∷ ask (is_waiting r) WrongStatus ∷ ask (is_active led) WrongStatus ∷ ask (is_primary led) NotPrimary ∷ qs

-- i follows p in view v, whose primary's entries are `log`: it puts the view as current, takes the entries over and acknowledges their number
abbrev pub follow : {E : Type 0} → ControllerNumber → View → List (Entry E) → ControllerNumber → Own E → Action E
follow p v log i o = record (only_asks o (ask (same_view v o.row.views.promised) WrongView ∷ ask (earlier o.row.views.current v) WrongView ∷ ask (nat_le (length log) (cap_of o.book)) DoesNotFit ∷ [])) {
  row = joined_row p v (length log);
  book = copied log o.book;
  puts = true;
  sent = Some (message i p v (Acknowledgement (length log)));
}

-- i joins the view of p, whose record is `led` and whose entries in use are `log`
abbrev pub join : {E : Type 0} → ControllerNumber → Controller → List (Entry E) → ControllerNumber → Own E → Action E
join p led log i o = let f = follow p led.views.current log i o in record f { asks = join_asks o.row led f.asks }

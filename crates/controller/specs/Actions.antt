-- The one shape of a step: what a controller has of its own, what it does, and what that gives.
use Rattle.std.specs.Prelude.{Bool, true, false, not, List, [], ◌∷◌, Some, None, Ok, Err, Option, Result}
use Rattle.numbers.specs.declared.refusals.Refusal.{Refusal}
use Rattle.numbers.specs.declared.refusals.Refusal.TheVariants.{BadForm, CellWorn, PoolFull}
use Rattle.numbers.specs.declared.rows.Row.{Row}
use Rattle.numbers.specs.declared.views.ControllerNumber.{ControllerNumber}
use Rattle.numbers.specs.Rows.{row_ok}
use Rattle.entries.specs.declared.book.Entry.{Entry}
use Rattle.entries.specs.declared.messages.Message.{Message}
use Rattle.cabinet.specs.Cells.{Cell, is_worn, put_cells}
use Rattle.controller.specs.declared.faults.Fault.{Fault}
use Rattle.controller.specs.declared.faults.Fault.TheVariants.{Refused}
use Rattle.controller.specs.declared.outcomes.Outcome.{Outcome}
use Rattle.controller.specs.declared.outcomes.Outcome.TheVariants.{Done}
use Rattle.controller.specs.declared.records.Controller.{Controller}
use Rattle.controller.specs.Faults.{worn_fault}
use Rattle.controller.specs.Questions.{Question, ask, asks}

-- what a controller has of its own: its record, its book, and the cells, of which one is its own
pub record Own (E : Type 0) : Type 0 where
  pub row : Controller
  pub book : List (Entry E)
  pub cells : List Cell

abbrev pub own : {E : Type 0} → Controller → List (Entry E) → List Cell → Own E
own r b cs = record { row = r; book = b; cells = cs }

-- an action: what it asks first, and what it does where every answer is yes: what it gives, the record and the book after it,
-- whether the record's views are put into the controller's cell, and what is sent
pub record Action (E : Type 0) : Type 0 where
  pub asks : List Question
  pub gives : Outcome E
  pub row : Controller
  pub book : List (Entry E)
  pub puts : Bool
  pub sent : Option (Message E)

-- what a step gives: its result, what the controller has after it, and what is sent
pub record Effect (E : Type 0) : Type 0 where
  pub result : Result (Outcome E) Fault
  pub own : Own E
  pub sent : Option (Message E)

module _ {E : Type 0} where
  -- what only asks: nothing changes and nothing is sent
  abbrev pub only_asks : Own E → List Question → Action E
  only_asks o qs = record { asks = qs; gives = Done; row = o.row; book = o.book; puts = false; sent = None }

  -- always refused
  abbrev pub never : Own E → Refusal → Action E
  never o k = only_asks o (ask false k ∷ [])

-- what is sent asks for room, after an action's own questions
abbrev pub room_asks : {E : Type 0} → Bool → Option (Message E) → List Question
room_asks room None = []
room_asks room (Some m) = ask room PoolFull ∷ []

-- and then a put of the views w asks that controller i's cell is not worn, and that they keep the form of a record
abbrev pub put_asks : Bool → List Cell → ControllerNumber → Row → List Question
put_asks false cs i w = []
put_asks true cs i w = ask (not (is_worn cs i.number)) CellWorn ∷ ask (row_ok w) BadForm ∷ []

abbrev pub cells_after : Bool → List Cell → ControllerNumber → Row → List Cell
cells_after false cs i w = cs
cells_after true cs i w = put_cells cs i.number w

-- the fault of controller i's step that was refused; a worn cell is named
abbrev pub fault_at : ControllerNumber → Refusal → Fault
fault_at i CellWorn = worn_fault i.number
fault_at i k = Refused k i

module _ {E : Type 0} (i : ControllerNumber) (room : Bool) (o : Own E) where
  -- refused: what the controller has stays as it was, and nothing is sent
  abbrev pub refused : Refusal → Effect E
  refused k = record { result = Err (fault_at i k); own = o; sent = None }

  abbrev pub taken : Action E → Effect E
  taken a = record { result = Ok a.gives; own = own a.row a.book (cells_after a.puts o.cells i a.row.views); sent = a.sent }

  abbrev pub effect_of : Action E → Effect E
  effect_of a = asks a.asks refused (asks (room_asks room a.sent) refused (asks (put_asks a.puts o.cells i a.row.views) refused (taken a)))

  -- what controller i's step gives, where the caller says whether there is room for a message
  abbrev pub effect : (ControllerNumber → Own E → Action E) → Effect E
  effect action = effect_of (action i o)

-- How a call hands out what its step gives: its result as an outcome; a message to be sent, of which f is the outcome; or a message in return, if any

abbrev pub as_outcome : {A E F : Type 0} → (A → Outcome E) → Result A F → Result (Outcome E) F
as_outcome f (Ok x) = Ok (f x)
as_outcome f (Err e) = Err e

module _ {E : Type 0} where
  abbrev pub returned : Result (Outcome E) Fault → Own E → Effect E
  returned r o = record { result = r; own = o; sent = None }

  abbrev pub returned_message : (Message E → Outcome E) → Result (Message E) Fault → Own E → Effect E
  returned_message f (Ok m) o = record { result = Ok (f m); own = o; sent = Some m }
  returned_message f (Err e) o = record { result = Err e; own = o; sent = None }

  abbrev pub returned_reply : Outcome E → Result (Option (Message E)) Fault → Own E → Effect E
  returned_reply x (Ok m) o = record { result = Ok x; own = o; sent = m }
  returned_reply x (Err e) o = record { result = Err e; own = o; sent = None }

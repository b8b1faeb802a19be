-- The history of a list of steps: what is read off the steps that were taken.
use Rattle.std.specs.Prelude.{◌-◌, Bool, cond, ◌&&◌, List, [], ◌∷◌, ◌++◌, take, Ok, Option, Result, ◌==◌}
use Rattle.numbers.specs.declared.views.ControllerNumber.{ControllerNumber}
use Rattle.numbers.specs.declared.views.Stamp.{Stamp}
use Rattle.numbers.specs.declared.views.View.{View}
use Rattle.numbers.specs.Views.{same_view, view_of}
use Rattle.entries.specs.declared.messages.Body.{Body}
use Rattle.entries.specs.declared.messages.Body.TheVariants.{Form}
use Rattle.entries.specs.declared.book.Entry.{Entry}
use Rattle.entries.specs.declared.messages.Message.{Message}
use Rattle.entries.specs.declared.kinds.Answer.{Answer}
use Rattle.entries.specs.declared.kinds.Question.{Question}
use Rattle.controller.specs.declared.verdicts.Verdict.{Verdict}
use Rattle.controller.specs.declared.verdicts.Verdict.TheVariants.{Confirmed, Lost, Waiting}
use Rattle.controller.specs.Books.{in_use}
use Rattle.site.specs.declared.faults.Fault.{Fault}
use Rattle.site.specs.States.{State, book, row}
use Rattle.controller.specs.declared.outcomes.Outcome.{Outcome}
use Rattle.controller.specs.declared.outcomes.Outcome.TheVariants.{Changed, Settled, Answered, Delivered}
use Rattle.runs.specs.declared.steps.Step.{Step}
use Rattle.runs.specs.declared.steps.Step.TheVariants.{Change, Deliver, Settle, Lookup}
use Rattle.runs.specs.Runs.{step}

pub data Event (E : Type 0) : Type 0 where
  -- a change was handed out with this stamp
  handed : Stamp → E → Event E
  -- a view was opened with this book
  opened : View → List (Entry E) → Event E
  -- a slip was confirmed in this view, by a controller whose book held these entries at smaller places
  confirmed : Stamp → View → List (Entry E) → Event E
  -- a slip was reported lost
  lost : Stamp → Event E
  -- in this view and from this book a question was given this answer
  looked_up : View → List (Entry E) → Question → Answer → Event E

abbrev pub same_stamp : Stamp → Stamp → Bool
same_stamp t u = same_view t.view u.view && t.place.number == u.place.number

module _ {E : Type 0} where
  -- the view and the book of controller i
  abbrev pub view_at : State E → ControllerNumber → View
  view_at s i = (row s i).views.current

  abbrev pub book_at : State E → ControllerNumber → List (Entry E)
  book_at s i = in_use (row s i) (book s i)

  -- a delivery opens a view if the message is a form message; the book is its addressee's after the step
  abbrev pub opening : State E → Message E → Body E → List (Event E)
  opening t m Form = opened m.view (book_at t m.addressee) ∷ []
  opening t m b = []

  abbrev pub settling : State E → ControllerNumber → Stamp → Verdict → List (Event E)
  settling s i t Confirmed = confirmed t (view_at s i) (take (t.place.number - 1) (book_at s i)) ∷ []
  settling s i t Lost = lost t ∷ []
  settling s i t Waiting = []

  -- what a step tells, from the state before it, its outcome and the state after it
  abbrev pub change_tells : E → Result (Outcome E) Fault → List (Event E)
  change_tells x (Ok (Changed t)) = handed t x ∷ []
  change_tells x o = []

  abbrev pub deliver_tells : State E → Result (Outcome E) Fault → List (Event E)
  deliver_tells t (Ok (Delivered m)) = opening t m m.body
  deliver_tells t o = []

  abbrev pub settle_tells : State E → ControllerNumber → Stamp → Result (Outcome E) Fault → List (Event E)
  settle_tells s i t (Ok (Settled v)) = settling s i t v
  settle_tells s i t o = []

  abbrev pub lookup_tells : State E → ControllerNumber → Question → Result (Outcome E) Fault → List (Event E)
  lookup_tells s i q (Ok (Answered a)) = looked_up (view_at s i) (book_at s i) q a ∷ []
  lookup_tells s i q o = []

  abbrev pub tells : State E → Step E → Result (Outcome E) Fault → State E → List (Event E)
  tells s (Change i x) o t = change_tells x o
  tells s (Deliver j) o t = deliver_tells t o
  tells s (Settle i u) o t = settle_tells s i u o
  tells s (Lookup i q) o t = lookup_tells s i q o
  tells s x o t = []

  -- the changes that were handed out with a stamp
  abbrev pub handed_by : Stamp → Event E → List E
  handed_by t (handed u x) = cond (same_stamp u t) (x ∷ []) []
  handed_by t e = []

  abbrev pub handed_with : Stamp → List (Event E) → List E
  handed_with t [] = []
  handed_with t (x ∷ xs) = handed_by t x ++ handed_with t xs

  -- the books with which a view was opened
  abbrev pub openings_by : View → Event E → List (List (Entry E))
  openings_by v (opened w b) = cond (same_view w v) (b ∷ []) []
  openings_by v e = []

  abbrev pub openings_of : View → List (Event E) → List (List (Entry E))
  openings_of v [] = []
  openings_of v (x ∷ xs) = openings_by v x ++ openings_of v xs

module _ {E : Type 0} (says : E → Question → Option Answer) (unsettled : Answer) where
  -- what one step adds to a history, whose latest event is the first
  abbrev pub told : List (Event E) → State E → Step E → List (Event E)
  told h s x = tells s x (step says unsettled s x).result (step says unsettled s x).state ++ h

  abbrev pub history_from : List (Event E) → State E → List (Step E) → List (Event E)
  history_from h s [] = h
  history_from h s (x ∷ xs) = history_from (told h s x) (step says unsettled s x).state xs

  -- make opens the view (0, 0) with the empty book
  abbrev pub history : State E → List (Step E) → List (Event E)
  history s xs = history_from (opened (view_of 0 0) [] ∷ []) s xs

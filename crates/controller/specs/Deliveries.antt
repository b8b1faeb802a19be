-- What a message does to its addressee.
use Rattle.std.specs.Prelude.{ℕ, ◌+◌, max, true, not, List, [], ◌∷◌, is_some, Some, None, Option, ◌==◌, nat_le, slice_index_or, slice_set}
use Rattle.numbers.specs.declared.refusals.Refusal.TheVariants.{BadMessage, DoesNotFit, IncompleteBook, NotPrimary, WrongPower, WrongStatus, WrongView}
use Rattle.numbers.specs.declared.views.ControllerNumber.{ControllerNumber}
use Rattle.numbers.specs.declared.views.Place.{Place}
use Rattle.numbers.specs.declared.views.View.{View}
use Rattle.numbers.specs.Views.{earlier, same_view}
use Rattle.entries.specs.declared.messages.Body.{Body}
use Rattle.entries.specs.declared.messages.Body.TheVariants.{Invitation, Answer, Form, Entry as Carries, Acknowledgement}
use Rattle.entries.specs.declared.book.Entry.{Entry}
use Rattle.entries.specs.declared.messages.Message.{Message}
use Rattle.entries.specs.declared.messages.Reply.{Reply}
use Rattle.controller.specs.declared.outcomes.Outcome.TheVariants.{Delivered}
use Rattle.controller.specs.declared.records.Controller.{Controller}
use Rattle.controller.specs.declared.records.Status.{Status}
use Rattle.controller.specs.declared.records.Status.TheVariants.{Down, Waiting, Manager, Backup, Primary}
use Rattle.controller.specs.Actions.{Action, Own, never, only_asks}
use Rattle.controller.specs.Books.{appended, cap_of}
use Rattle.controller.specs.Messages.{message, message_ok}
use Rattle.controller.specs.Questions.{Question, ask}
use Rattle.controller.specs.Records.{only, reply_of}

-- the larger of an acknowledged length, or none, and another
abbrev pub larger : Option ℕ → ℕ → ℕ
larger None l = l
larger (Some k) l = max k l

-- an invitation: its view becomes promised, and the addressee waits
abbrev pub promised_row : Controller → View → Controller
promised_row r v = record r { status = Waiting; views = record r.views { promised = v } }

-- a form message: its view becomes current, and the addressee is its primary
abbrev pub opened_row : ControllerNumber → Controller → View → Controller
opened_row i r v = record r { status = Primary (only i r.length); views = record r.views { current = v }; primary = i }

module _ {E : Type 0} (m : Message E) (i : ControllerNumber) (o : Own E) where
  abbrev r : Controller
  r = o.row

  -- in return, to the sender
  abbrev pub in_return : Body E → Option (Message E)
  in_return x = Some (message i m.sender m.view x)

  -- the message is taken, where these questions are answered yes
  abbrev pub takes_it : List Question → Action E
  takes_it qs = record (only_asks o qs) { gives = Delivered m }

  -- the view is later than the promised one; it is promised and answered
  abbrev pub takes_invitation : Action E
  takes_invitation = record (takes_it (ask (earlier r.views.promised m.view) WrongView ∷ [])) {
    row = promised_row r m.view;
    puts = true;
    sent = in_return (Answer (reply_of i r));
  }

  -- the view is the promised one, and no answer of the sender is counted; it is counted
  abbrev pub takes_answer : List (Option Reply) → Reply → Action E
  takes_answer answers a = record (takes_it (ask (same_view m.view r.views.promised) WrongView ∷ ask (not (is_some (slice_index_or answers m.sender.number None))) DoesNotFit ∷ [])) {
    row = record r { status = Manager (slice_set answers m.sender.number (Some a)) };
  }

  -- the view is the promised one, and the book is complete; the view is opened
  abbrev pub takes_form : Action E
  takes_form = record (takes_it (ask (same_view m.view r.views.promised) WrongView ∷ ask r.complete IncompleteBook ∷ [])) {
    row = opened_row i r m.view;
    puts = true;
  }

  -- the view is the current one, and the place is length + 1; the entry is appended and the new length acknowledged
  abbrev pub takes_entry : Place → Entry E → Action E
  takes_entry k e = record (takes_it (ask (same_view m.view r.views.current) WrongView ∷ ask (k.number == r.length + 1) DoesNotFit ∷ [])) {
    row = appended i r;
    book = slice_set o.book r.length e;
    sent = in_return (Acknowledgement (r.length + 1));
  }

  -- the view is the current one, and the length at most its own; the larger of old and new is kept
  abbrev pub takes_acknowledgement : List (Option ℕ) → ℕ → Action E
  takes_acknowledgement lengths l = record (takes_it (ask (same_view m.view r.views.current) WrongView ∷ ask (nat_le l r.length) DoesNotFit ∷ [])) {
    row = record r { status = Primary (slice_set lengths m.sender.number (Some (larger (slice_index_or lengths m.sender.number None) l))) };
  }

  -- by the addressee's status and the kind of message
  abbrev pub takes_by : Status → Body E → Action E
  takes_by Down x = never o WrongPower
  takes_by st Invitation = takes_invitation
  takes_by (Manager answers) (Answer a) = takes_answer answers a
  takes_by Waiting Form = takes_form
  takes_by Backup (Carries k e) = takes_entry k e
  takes_by (Primary lengths) (Carries k e) = takes_entry k e
  takes_by Backup (Acknowledgement l) = never o NotPrimary
  takes_by (Primary lengths) (Acknowledgement l) = takes_acknowledgement lengths l
  takes_by st x = never o WrongStatus

  abbrev pub takes : Action E
  takes = takes_by r.status m.body

-- the message is in range for n controllers, and is then taken by its kind
abbrev pub deliver : {E : Type 0} → ℕ → Message E → ControllerNumber → Own E → Action E
deliver n m i o = let t = takes m i o in record t { asks = ask (message_ok n (cap_of o.book) m) BadMessage ∷ t.asks }

-- Calling a view, inviting to it and forming it.
use Rattle.std.specs.Prelude.{ℕ, ◌+◌, true, false, List, [], ◌∷◌, take, Some, None, Option, nat_lt}
use Rattle.std.specs.Option.{option_map}
use Rattle.numbers.specs.declared.refusals.Refusal.TheVariants.{CountsSpent, NoRuleAllows, WrongPower, WrongStatus}
use Rattle.numbers.specs.declared.views.ControllerNumber.{ControllerNumber}
use Rattle.numbers.specs.declared.views.View.{View}
use Rattle.numbers.specs.Views.{controller_of, count_of}
use Rattle.entries.specs.declared.messages.Body.TheVariants.{Invitation, Form}
use Rattle.forming.specs.Rules.{choice}
use Rattle.controller.specs.declared.outcomes.Outcome.TheVariants.{Formed}
use Rattle.controller.specs.declared.records.Controller.{Controller}
use Rattle.controller.specs.declared.records.Status.{Status}
use Rattle.controller.specs.declared.records.Status.TheVariants.{Waiting, Manager}
use Rattle.controller.specs.Actions.{Action, Own, only_asks}
use Rattle.controller.specs.Messages.{message}
use Rattle.controller.specs.Questions.{Question, ask}
use Rattle.controller.specs.Records.{is_manager, is_up, only, reply_of}

-- call: the view (promised count + 1, i) is promised; i manages it, with its own answer counted

abbrev pub called_view : ControllerNumber → Controller → View
called_view i r = record { count = count_of (r.views.promised.count.number + 1); controller = i }

abbrev pub called_row : ControllerNumber → Controller → Controller
called_row i r = record r { status = Manager (only i (reply_of i r)); views = record r.views { promised = called_view i r } }

abbrev pub call : {E : Type 0} → ControllerNumber → Own E → Action E
call i o = record (only_asks o (ask (is_up o.row) WrongPower ∷ ask (nat_lt o.row.views.promised.count.number 16383) CountsSpent ∷ [])) {
  row = called_row i o.row;
  puts = true;
}

-- the questions of every step of a manager
abbrev pub manager_asks : Controller → List Question → List Question
manager_asks r qs = ask (is_up r) WrongPower ∷ ask (is_manager r) WrongStatus ∷ qs

-- invite: an invitation to the promised view goes to b
abbrev pub invite : {E : Type 0} → ControllerNumber → ControllerNumber → Own E → Action E
invite b i o = record (only_asks o (manager_asks o.row [])) { sent = Some (message i b o.row.views.promised Invitation) }

-- form: the rules choose among the answers of controllers 0 to n - 1

abbrev pub choice_at : ℕ → Status → Option ℕ
choice_at n (Manager a) = choice (take n a) n
choice_at n s = None

unfoldable pub form_choice : ℕ → Controller → Option ControllerNumber
form_choice n r = option_map controller_of (choice_at n r.status)

module _ {E : Type 0} (n : ℕ) (i : ControllerNumber) (o : Own E) where
  -- the form message goes to the chosen controller, if there is one, and i waits
  abbrev pub forms : Option ControllerNumber → Action E
  forms None = only_asks o (manager_asks o.row (ask false NoRuleAllows ∷ []))
  forms (Some c) = record (only_asks o (manager_asks o.row [])) {
    gives = Formed c;
    row = record o.row { status = Waiting };
    sent = Some (message i c o.row.views.promised Form);
  }

  abbrev pub form : Action E
  form = forms (form_choice n o.row)

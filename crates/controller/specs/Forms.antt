-- What a form answers, in the words of the rules.
use Rattle.std.specs.Prelude.{ℕ, List, Some, None, Ok, Err, Option, Result}
use Rattle.numbers.specs.declared.refusals.Refusal.{Refusal}
use Rattle.numbers.specs.declared.refusals.Refusal.TheVariants.{CellWorn, NoRuleAllows}
use Rattle.numbers.specs.declared.views.ControllerNumber.{ControllerNumber}
use Rattle.entries.specs.declared.messages.Message.{Message}
use Rattle.entries.specs.declared.messages.Reply.{Reply}
use Rattle.forming.specs.Rules.{Allowed, ByRules}
use Rattle.controller.specs.declared.faults.Fault.{Fault}
use Rattle.controller.specs.declared.faults.Fault.TheVariants.{Worn, Refused}

-- a manager's form chooses the controller that the rules name; it is refused by 12 exactly if no rule allows a view, and by another question only where one does
abbrev pub FormsByRules : List (Option Reply) → ℕ → Result ControllerNumber Refusal → Type 0
FormsByRules answers n (Ok c) = ByRules answers n (Some c.number)
FormsByRules answers n (Err NoRuleAllows) = ByRules answers n None
FormsByRules answers n (Err k) = Allowed answers n

-- the refusal that a fault tells of
abbrev pub refusal_in : Fault → Refusal
refusal_in (Worn cell controller) = CellWorn
refusal_in (Refused k controller) = k

-- the controller that a form's message goes to, or the refusal
abbrev pub chosen_in : {E : Type 0} → Result (Message E) Fault → Result ControllerNumber Refusal
chosen_in (Ok m) = Ok m.addressee
chosen_in (Err f) = Err (refusal_in f)

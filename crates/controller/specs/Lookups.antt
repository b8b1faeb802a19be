-- What an active controller answers from its book.
use Rattle.std.specs.Prelude.{[], ◌∷◌, Option}
use Rattle.numbers.specs.declared.refusals.Refusal.TheVariants.{WrongPower, WrongStatus}
use Rattle.numbers.specs.declared.views.ControllerNumber.{ControllerNumber}
use Rattle.entries.specs.declared.kinds.Answer.{Answer}
use Rattle.entries.specs.declared.kinds.Question.{Question}
use Rattle.entries.specs.Lookups.{looked}
use Rattle.controller.specs.declared.outcomes.Outcome.TheVariants.{Answered}
use Rattle.controller.specs.Actions.{Action, Own, only_asks}
use Rattle.controller.specs.Books.{in_use}
use Rattle.controller.specs.Questions.{ask}
use Rattle.controller.specs.Records.{is_active, is_up}

-- the rule of lookup, over the entries in use
abbrev pub lookup : {E : Type 0} → (E → Question → Option Answer) → Answer → Question → ControllerNumber → Own E → Action E
lookup says unsettled question i o = record (only_asks o (ask (is_up o.row) WrongPower ∷ ask (is_active o.row) WrongStatus ∷ [])) {
  gives = Answered (looked says unsettled (in_use o.row o.book) question);
}

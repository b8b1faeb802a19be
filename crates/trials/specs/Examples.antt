-- The form of a manager that has counted the answers of a worked example.
use Rattle.std.specs.Prelude.{true, None, List, [], ◌++◌, replicate, Option, Result}
use Rattle.numbers.specs.declared.views.ControllerNumber.{ControllerNumber}
use Rattle.entries.specs.declared.cards.CardChange.{CardChange}
use Rattle.entries.specs.declared.messages.Reply.{Reply}
use Rattle.controller.specs.declared.faults.Fault.{Fault}
use Rattle.controller.specs.declared.outcomes.Outcome.{Outcome}
use Rattle.controller.specs.declared.records.Status.TheVariants.{Manager}
use Rattle.controller.specs.Actions.{effect, own}
use Rattle.controller.specs.Records.{first_record}
use Rattle.controller.specs.ViewChanges.{form}

-- of controller i of three, with these answers of controllers 0 to 2, where the pool has room
abbrev pub formed : ControllerNumber → List (Option Reply) → Result (Outcome CardChange) Fault
formed i answers = (effect i true (own (record (first_record i) { status = Manager (answers ++ replicate 4 None) }) [] []) (form 3)).result

-- A power cut, and the recovery from it.
use Rattle.std.specs.Prelude.{not, [], ◌∷◌}
use Rattle.numbers.specs.declared.refusals.Refusal.TheVariants.{WrongPower}
use Rattle.numbers.specs.declared.rows.Row.{Row}
use Rattle.numbers.specs.declared.views.ControllerNumber.{ControllerNumber}
use Rattle.cabinet.specs.Cells.{cell_at}
use Rattle.controller.specs.declared.records.Controller.{Controller}
use Rattle.controller.specs.declared.records.Status.TheVariants.{Waiting}
use Rattle.controller.specs.Actions.{Action, Own, only_asks}
use Rattle.controller.specs.Questions.{ask}
use Rattle.controller.specs.Records.{down_record, is_up}

-- back, with the views of its cell and no book
abbrev pub back_record : Row → Controller
back_record w = record down_record { status = Waiting; views = w }

module _ {E : Type 0} (i : ControllerNumber) (o : Own E) where
  abbrev pub crash : Action E
  crash = record (only_asks o (ask (is_up o.row) WrongPower ∷ [])) { row = down_record }

  abbrev pub recover : Action E
  recover = record (only_asks o (ask (not (is_up o.row)) WrongPower ∷ [])) { row = back_record (cell_at o.cells i.number).row }

-- A put of two views into a controller's own cell.
use Rattle.std.specs.Prelude.{◌≡◌, true, false, cond, ◌⊎◌, List}
use Rattle.numbers.specs.declared.refusals.Refusal.TheVariants.{BadForm}
use Rattle.numbers.specs.declared.rows.Row.{Row}
use Rattle.numbers.specs.declared.views.ControllerNumber.{ControllerNumber}
use Rattle.numbers.specs.Rows.{row_ok}
use Rattle.cabinet.specs.Cells.{Cell, is_worn, put_cells}
use Rattle.controller.specs.declared.faults.Fault.{Fault}
use Rattle.controller.specs.declared.faults.Fault.TheVariants.{Refused}
use Rattle.controller.specs.Faults.{worn_fault}

-- why a put fails
abbrev pub put_fails : List Cell → ControllerNumber → Row → Fault → Type 0
put_fails cs i w e = ((is_worn cs i.number ≡ true) × (e ≡ worn_fault i.number)) ⊎ ((is_worn cs i.number ≡ false) × ((row_ok w ≡ false) × (e ≡ Refused BadForm i)))

abbrev pub put_after : List Cell → ControllerNumber → Row → List Cell
put_after cs i w = cond (row_ok w) (put_cells cs i.number w) cs

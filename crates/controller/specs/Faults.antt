-- The fault of a worn cell: the cell, and the controller that it belongs to.
use Rattle.std.specs.Prelude.{ℕ}
use Rattle.numbers.specs.Views.{controller_of}
use Rattle.controller.specs.declared.faults.Fault.{Fault}
use Rattle.controller.specs.declared.faults.Fault.TheVariants.{Worn}

abbrev pub worn_fault : ℕ → Fault
worn_fault cell = Worn cell (controller_of cell)

-- What a strip's cells are: those of its bytes.
use Rattle.std.specs.Prelude.{ℕ, List, refl}
use Rattle.cabinet.specs.Cells.{Cell, Seven}
use Rattle.cabinet.specs.declared.strip.Strip.{Strip}
use Rattle.cabinet.specs.Slots.{strip_cells}

abbrev pub bytes_in : Strip → List ℕ
bytes_in s = s.bytes.now

abbrev pub cells_in : Strip → List Cell
cells_in s = strip_cells s.sound (bytes_in s)

abbrev pub strip_seven : Strip → Seven
strip_seven s = record { list = cells_in s; seven = refl }

-- What a tray's cells are: a row and the writes left of each.
use Rattle.std.specs.Prelude.{ℕ, List, map, refl, slice_index_or}
use Rattle.std.specs.List.{range_with_len}
use Rattle.numbers.specs.Rows.{zero_row}
use Rattle.numbers.specs.declared.rows.Row.{Row}
use Rattle.cabinet.specs.Cells.{Cell, Seven}
use Rattle.cabinet.specs.declared.tray.Tray.{Tray}

-- seven cells, of a table of rows and one of the writes left
abbrev pub cells_of : List Row → List ℕ → List Cell
cells_of rows left = map (λ c. record { row = slice_index_or rows c zero_row; left = slice_index_or left c 0 }) (range_with_len 0 7)

abbrev pub tray_cells : Tray → List Cell
tray_cells t = cells_of t.rows t.left

abbrev pub tray_seven : Tray → Seven
tray_seven t = record { list = tray_cells t; seven = refl }

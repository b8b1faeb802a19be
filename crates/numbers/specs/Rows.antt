-- The form of a cell record, as a row of two views.
use Rattle.std.specs.Prelude.{Bool, not, ◌&&◌}
use Rattle.numbers.specs.declared.rows.Row.{Row}
use Rattle.numbers.specs.Views.{view_of, view_ok, earlier}

-- both views are in range, and the current one is not later than the promised one
abbrev pub row_ok : Row → Bool
row_ok w = view_ok w.current && view_ok w.promised && not (earlier w.promised w.current)

-- twice the view (0, 0)
abbrev pub zero_row : Row
zero_row = record { current = view_of 0 0; promised = view_of 0 0 }

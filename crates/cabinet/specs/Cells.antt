-- The meaning of a cabinet: seven cells, each with a row and the writes left.
use Rattle.std.specs.Prelude.{◌≡◌, ℕ, ◌-◌, Bool, true, if◌then◌else◌, List, length, ◌==◌, slice_index_or, slice_set}
use Rattle.numbers.specs.declared.rows.Row.{Row}
use Rattle.numbers.specs.Rows.{row_ok, zero_row}

-- a cell: its row, and the writes left
pub record Cell : Type 0 where
  pub row : Row
  pub left : ℕ

-- the cells of a cabinet: seven, numbered from 0
pub record Seven : Type 0 where
  pub list : List Cell
  pub seven : length list ≡ 7

-- a cell as it is made, with n writes left
abbrev pub fresh : ℕ → Cell
fresh n = record { row = zero_row; left = n }

-- cell i; one of 7 or more holds twice the view (0, 0) and has no writes left
abbrev pub cell_at : List Cell → ℕ → Cell
cell_at cs i = slice_index_or cs i (fresh 0)

abbrev pub is_worn : List Cell → ℕ → Bool
is_worn cs i = (cell_at cs i).left == 0

-- the cells after a put of w into cell i: without writes left the same; else that cell holds w and has one write fewer, and the others stay
abbrev pub put_cells : List Cell → ℕ → Row → List Cell
put_cells cs i w = if is_worn cs i then cs else slice_set cs i (record { row = w; left = (cell_at cs i).left - 1 })

-- every row keeps the form of a cell record
abbrev pub AllKept : List Row → Type 0
AllKept rows = (k : ℕ) → row_ok (slice_index_or rows k zero_row) ≡ true

-- Making a site.
use Rattle.std.specs.Prelude.{ℕ, zero, suc, ◌*◌, Bool, true, false, cond, ◌&&◌, List, [], ◌∷◌, map, length, Ok, Err, ◌==◌, nat_le, nat_lt}
use Rattle.std.specs.List.{range_with_len}
use Rattle.numbers.specs.declared.refusals.Refusal.TheVariants.{CellsUsed, NotMade}
use Rattle.numbers.specs.declared.rows.Row.{Row}
use Rattle.numbers.specs.Rows.{zero_row}
use Rattle.numbers.specs.Views.{controller_of, same_view}
use Rattle.cabinet.specs.Cells.{Cell, cell_at}
use Rattle.controller.specs.declared.records.Controller.{Controller}
use Rattle.controller.specs.Questions.{ask, asks}
use Rattle.controller.specs.Records.{down_record, first_record}
use Rattle.site.specs.declared.records.Site.{Site}
use Rattle.site.specs.States.{Done, State, fault_by}

-- 3 to 7 controllers, 1 to 65,535 entries a book, a pool of 8 to 4,096 messages, and books of n × cap entries
abbrev pub sizes_ok : ℕ → ℕ → ℕ → ℕ → Bool
sizes_ok n cap books pool = nat_le 3 n && nat_le n 7 && nat_le 1 cap && nat_le cap 65535 && nat_le 8 pool && nat_le pool 4096 && books == n * cap

abbrev pub same_row : Row → Row → Bool
same_row v w = same_view v.current w.current && same_view v.promised w.promised

-- cells 0 to n - 1 hold twice the view (0, 0)
abbrev pub cells_zero : List Cell → ℕ → Bool
cells_zero cs zero = true
cells_zero cs (suc n) = cells_zero cs n && same_row (cell_at cs n).row zero_row

-- controllers below n are active at the start, the others down
abbrev pub made_row : ℕ → ℕ → Controller
made_row n c = cond (nat_lt c n) (first_record (controller_of c)) down_record

abbrev pub made_rows : ℕ → List Controller
made_rows n = map (made_row n) (range_with_len 0 7)

abbrev pub made_site : ℕ → ℕ → ℕ → Site
made_site n cap pool = record { made = true; n = n; cap = cap; pool = pool; count = 0; rows = made_rows n }

-- a site that was never made
abbrev pub no_site : Site
no_site = record { made = false; n = 0; cap = 0; pool = 0; count = 0; rows = map (λ c. down_record) (range_with_len 0 7) }

abbrev pub make_step : {E : Type 0} → State E → ℕ → ℕ → Done (Unit {0}) E
make_step s n cap =
    asks (ask (sizes_ok n cap (length s.books) (length s.pool)) NotMade ∷ ask (cells_zero s.cells n) CellsUsed ∷ [])
    (λ k. record { result = Err (fault_by (controller_of 0) k); state = s })
    (record { result = Ok tt; state = record s { site = made_site n cap (length s.pool) } })

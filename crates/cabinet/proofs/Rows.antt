-- The cells of a tray, one by one, and its rows, which stay in form.
use Rattle.std.proofs.Common.{◌≡◌, ℕ, ◌-◌, ◌<◌, ◌≤◌, ◌≢◌, zero, suc, true, false, List, [], ◌∷◌, length, get_or, set, ap, ◌∙◌, sym, ⊎_elim, arith}
use Rattle.std.proofs.lemmas.List.FromFn.{get_or-map-range_with_len}
use Rattle.std.proofs.lemmas.List.{get_or-set_same, get_or-set_other, get_or_past}
use Rattle.std.proofs.lemmas.Bool.{cases_lt, cond-false, ne_eqb}
use Rattle.numbers.specs.declared.rows.Row.{Row}
use Rattle.numbers.specs.Rows.{row_ok, zero_row}
use Rattle.cabinet.specs.Cells.{Cell, AllKept, cell_at, fresh, is_worn, put_cells}
use Rattle.cabinet.specs.Trays.{cells_of}
use Rattle.cabinet.proofs.Places.{counted_set}

-- one row in form more leaves all in form
pub kept_set : (ws : List Row) (i : ℕ) (w : Row) → AllKept ws → row_ok w ≡ true → AllKept (set ws i w)
kept_set [] i w all kept k = all k
kept_set (v ∷ ws) zero w all kept zero = kept
kept_set (v ∷ ws) zero w all kept (suc k) = all (suc k)
kept_set (v ∷ ws) (suc i) w all kept zero = all zero
kept_set (v ∷ ws) (suc i) w all kept (suc k) = kept_set ws i w (λ j. all (suc j)) kept k

-- the cell that two tables of seven give, one beyond them too
pub cell_of : (rows : List Row) (left : List ℕ) (c : ℕ) → length rows ≡ 7 → length left ≡ 7 → cell_at (cells_of rows left) c ≡ record { row = get_or rows c zero_row; left = get_or left c 0 }
cell_of rows left c r l =
    ⊎_elim
    (λ h. get_or-map-range_with_len (λ d. record { row = get_or rows d zero_row; left = get_or left d 0 }) 0 7 c c (fresh 0) h (omega arith))
    (λ h. get_or_past (cells_of rows left) c (fresh 0) h ∙ sym (beyond h))
    (cases_lt c 7)
  where
    beyond : 7 ≤ c → record { row = get_or rows c zero_row; left = get_or left c 0 } ≡ fresh 0
    beyond h = let a = get_or_past rows c zero_row (omega arith) in let b = get_or_past left c 0 (omega arith) in λ i. record { row = a i; left = b i }

-- one cell written in both tables
pub cells_set : (rows : List Row) (left : List ℕ) (c : ℕ) (w : Row) (m : ℕ) → length rows ≡ 7 → length left ≡ 7 → c < 7 → cells_of (set rows c w) (set left c m) ≡ set (cells_of rows left) c (record { row = w; left = m })
cells_set rows left c w m r l lt =
    let a = get_or-set_same rows c w zero_row (omega arith) in
    let b = get_or-set_same left c m 0 (omega arith) in
    counted_set _ _ 7 c (record { row = w; left = m }) lt (λ i. record { row = a i; left = b i })
    (λ d h ne. let e = get_or-set_other rows c d w zero_row ne in let f = get_or-set_other left c d m 0 ne in λ i. record { row = e i; left = f i })

-- a put, with m writes left
pub cells_put : (rows : List Row) (left : List ℕ) (c : ℕ) (w : Row) (m : ℕ) → length rows ≡ 7 → length left ≡ 7 → m ≡ (cell_at (cells_of rows left) c).left → m ≢ 0 → cells_of (set rows c w) (set left c (m - 1)) ≡ put_cells (cells_of rows left) c w
cells_put rows left c w m r l is some =
    let cs = cells_of rows left in
    let told = ap (λ (x : Cell). x.left) (cell_of rows left c r l) in
    let lt : c < 7 = ⊎_elim (λ h. h) (λ h. absurd (some (is ∙ told ∙ get_or_past left c 0 (omega arith)))) (cases_lt c 7) in
    let free : is_worn cs c ≡ false = ne_eqb _ 0 (λ z. some (is ∙ z)) in
    cells_set rows left c w (m - 1) r l lt ∙ ap (λ k. set cs c (record { row = w; left = k - 1 })) is ∙ sym (cond-false (is_worn cs c) cs _ free)

-- The cells of a strip, one by one.
use Rattle.std.proofs.Common.{◌≡◌, ℕ, ◌-◌, ◌<◌, Bool, true, false, eqb, List, length, refl, ap, ◌∙◌, arith}
use Rattle.std.proofs.lemmas.List.FromFn.{get_or-map-range_with_len}
use Rattle.std.proofs.lemmas.Bool.{ne_eqb}
use Rattle.cabinet.specs.Cells.{Cell, cell_at, fresh}
use Rattle.cabinet.specs.Slots.{slots_in, filled, part_cell, part, Countable, StripForm, strip_cells}
use Rattle.cabinet.proofs.Search.{most}
use Rattle.cabinet.proofs.Cuts.{part_length}

-- whatever the bytes are, a strip has seven cells
pub cells_are_seven : (flag : Bool) (bs : List ℕ) → length (strip_cells flag bs) ≡ 7
cells_are_seven flag bs = refl

-- a cell of a strip in form
pub cell_sound : (flag : Bool) (bs : List ℕ) (c : ℕ) → flag ≡ true → c < 7 → cell_at (strip_cells flag bs) c ≡ part_cell (part bs c)
cell_sound true bs c e h = get_or-map-range_with_len (λ d. part_cell (part bs d)) 0 7 c c (fresh 0) h (omega arith)
cell_sound false bs c e h = cc

-- a cell with an empty slot is not worn
pub not_worn : (x : Cell) (p : List ℕ) → x ≡ part_cell p → filled p < slots_in p → eqb x.left 0 ≡ false
not_worn x p e room = ap (λ (y : Cell). eqb y.left 0) e ∙ ne_eqb (slots_in p - filled p) 0 (λ z. omega arith)

-- bytes in form are as many as a strip's, so right counts of them are kept
pub form_size : (bs : List ℕ) → StripForm bs → Countable (length bs)
form_size bs form = λ _. (form.whole, form.least, form.most)

-- in fewer bytes than seven slots take no slot of a part is filled
pub no_slot : (bs : List ℕ) (c : ℕ) → length bs < 56 → c < 7 → filled (part bs c) ≡ 0
no_slot bs c few lt = omega (arith, most (part bs c), part_length bs c lt)

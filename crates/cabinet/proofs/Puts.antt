-- A put into a strip: the slot found for it, the form while it is written, and the cells after it.
use Rattle.std.proofs.Common.{◌≡◌, ℕ, ◌+◌, ◌-◌, ◌<◌, ◌≤◌, Bool, true, false, cond, List, ◌∷◌, length, get_or, drop, set, Some, None, sym, refl, ap, ◌∙◌, subst, arith}
use Rattle.std.specs.Bool.{Decides}
use borrow.Rule.Slice.PartMut.{put_mid}
use Rattle.numbers.specs.declared.rows.Row.{Row}
use Rattle.numbers.specs.Rows.{row_ok}
use Rattle.cabinet.specs.Cells.{Cell, is_worn, put_cells}
use Rattle.cabinet.specs.Slots.{slot_bytes, with_slot, slots_in, filled, part_cell, part, StripForm, Counted, strip_cells, next_slot, put_bytes}
use Rattle.cabinet.proofs.Blocks.{over, block_written, block_longer, first_written}
use Rattle.cabinet.proofs.Cuts.{empty_slot, written_form, written_cells, written_counted, written_counts}
use Rattle.cabinet.proofs.Fills.{free_form, free_filled, fill_form, fill_filled, fill_cell}
use Rattle.cabinet.proofs.Strips.{cell_sound}

-- byte i begins the first empty slot of cell c, one of the seven of a strip in form; the slot's other seven bytes are written, and then 1 there
module _ (flag : Bool) (bs : List ℕ) (c i : ℕ) (told : Decides flag (StripForm bs)) (e : Some i ≡ cond (is_worn (strip_cells flag bs) c) None (Some (next_slot bs c)))
    (mine : (flag ≡ true) × (c < 7) × (filled (part bs c) < slots_in (part bs c))) (fits : i + 8 ≤ length bs)
    (k : ℕ) (seven : List ℕ) (v : Row) (kept : row_ok v ≡ true) (size : k ≡ 7) (after : seven ≡ drop 1 (slot_bytes v)) where
  abbrev rest : List ℕ
  rest = drop 1 (slot_bytes v)

  left : is_worn (strip_cells flag bs) c ≡ false
  left = grind arith

  place : i ≡ next_slot bs c
  place = grind arith

  form : StripForm bs
  form = told.0 mine.0

  -- the slot's first byte is 0
  free : get_or bs i 0 ≡ 0
  free = empty_slot bs c mine.1 mine.2 i place

  freed : put_mid (i + 1) k bs seven ≡ over bs i 8 (0 ∷ rest)
  freed =
      block_written bs (i + 1) k seven ∙ ap (λ n. over bs (i + 1) n seven) size ∙ ap (over bs (i + 1) 7) after
      ∙ block_longer bs i 7 rest 0 (omega arith) refl ∙ ap (λ b. over bs i 8 (b ∷ rest)) free

  -- the form holds after it
  put_form : StripForm (with_slot bs i v)
  put_form =
      subst StripForm (ap (λ n. with_slot bs n v) (sym place))
      (written_form bs c (filled (part bs c)) (slot_bytes v) mine.1 mine.2 refl form (fill_form (part bs c) v (form.parts c mine.1) mine.2 kept))

  put_where : with_slot bs i v ≡ put_bytes flag bs c v
  put_where = let at = place in let room = left in grind arith

  put_true : strip_cells true (with_slot bs (next_slot bs c) v) ≡ set (strip_cells true bs) c (record { row = v; left = (part_cell (part bs c)).left - 1 })
  put_true = written_cells bs c (filled (part bs c)) (slot_bytes v) mine.1 mine.2 refl (record { row = v; left = (part_cell (part bs c)).left - 1 }) (fill_cell (part bs c) v (form.parts c mine.1) mine.2)

  put_done : strip_cells flag (with_slot bs i v) ≡ put_cells (strip_cells flag bs) c v
  put_done =
      let less = ap (λ (x : Cell). x.left) (cell_sound flag bs c mine.0 mine.1) in
      let at = place in
      let room = left in
      let done = put_true in
      let sound = mine.0 in
      grind arith

  -- until the first byte comes the slot is empty, and the form holds
  pub rest_told : Decides flag (StripForm (put_mid (i + 1) k bs seven))
  rest_told =
      let p = part bs c in
      let whole = freed ∙ ap (λ n. over bs n 8 (0 ∷ rest)) place in
      ((λ _. subst StripForm (sym whole) (written_form bs c (filled p) (0 ∷ rest) mine.1 mine.2 refl form (free_form p (0 ∷ rest) (form.parts c mine.1) mine.2 refl refl))), (λ _. mine.0))

  written : set (put_mid (i + 1) k bs seven) i 1 ≡ with_slot bs i v
  written = ap (λ z. set z i 1) freed ∙ first_written bs i 8 rest (omega arith) 0 1

  pub put_told : Decides flag (StripForm (set (put_mid (i + 1) k bs seven) i 1))
  put_told = ((λ _. subst StripForm (sym written) put_form), (λ _. mine.0))

  pub put_bytes_are : set (put_mid (i + 1) k bs seven) i 1 ≡ put_bytes flag bs c v
  put_bytes_are = written ∙ put_where

  pub put_cells_are : strip_cells flag (set (put_mid (i + 1) k bs seven) i 1) ≡ put_cells (strip_cells flag bs) c v
  put_cells_are = ap (strip_cells flag) written ∙ put_done

  -- the counts hold until the first byte comes, and with one more after it
  module _ (ns : List ℕ) (counted : Counted ns bs) where
    pub rest_counted : Counted ns (put_mid (i + 1) k bs seven)
    rest_counted =
        let p = part bs c in
        let whole = freed ∙ ap (λ n. over bs n 8 (0 ∷ rest)) place in
        let same = free_filled p (0 ∷ rest) (form.parts c mine.1) mine.2 refl refl in
        subst (Counted ns) (sym whole) (written_counted bs c (filled p) (0 ∷ rest) mine.1 mine.2 refl ns (counted c mine.1 ∙ sym same) counted)

    pub put_counted : length ns ≡ 7 → Counted (set ns c (get_or ns c 0 + 1)) (set (put_mid (i + 1) k bs seven) i 1)
    put_counted size =
        let p = part bs c in
        let one : get_or ns c 0 + 1 ≡ filled p + 1 = ap (λ n. n + 1) (counted c mine.1) in
        let more = one ∙ sym (fill_filled p v (form.parts c mine.1) mine.2) in
        let after = written ∙ ap (λ n. with_slot bs n v) place in
        subst (Counted (set ns c (get_or ns c 0 + 1))) (sym after) (written_counts bs c (filled p) (slot_bytes v) mine.1 mine.2 refl ns (get_or ns c 0 + 1) (omega (arith, mine.1, size)) more counted)

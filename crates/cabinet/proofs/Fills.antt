-- A part whose first empty slot is written: left empty it keeps its form, and filled it holds the new record and has one empty slot fewer.
use Rattle.std.proofs.Common.{◌≡◌, ℕ, ◌+◌, ◌-◌, ◌*◌, ◌/◌, ◌<◌, true, false, not, eqb, ◌≢◌, List, length, get_or, take, drop, sym, refl, ap, ◌∙◌, ⊎_elim, arith, rules, below_more}
use Rattle.std.proofs.lemmas.List.{get_or-drop, get_or-take}
use Rattle.std.proofs.lemmas.Bool.{cases_eq, cases_lt, cond-false, ne_eqb}
use Rattle.numbers.specs.declared.rows.Row.{Row}
use Rattle.numbers.specs.Rows.{row_ok, zero_row}
use Rattle.cabinet.specs.Slots.{slot_bytes, slot_ok, row_in, with_slot, slots_in, slot_at, is_filled, filled, part_cell, PartForm}
use Rattle.cabinet.proofs.Blocks.{over, over_length, block_here, block_before, block_after}
use Rattle.cabinet.proofs.OneToOne.{row_back, slot_of_ok}
use Rattle.cabinet.proofs.Search.{filled_before, filled_only}

-- the first byte of a slot says whether it is filled
first_byte : (p : List ℕ) (k : ℕ) → is_filled p k ≡ not (eqb (get_or (slot_at p k) 0 0) 0)
first_byte p k =
    let whole : get_or (take 8 (drop (8 * k) p)) 0 0 ≡ get_or p (8 * k + 0) 0 = get_or-take 8 (drop (8 * k) p) 0 0 (omega arith) ∙ get_or-drop (8 * k) p 0 0 in
    let here : 8 * k + 0 ≡ 8 * k = omega arith in
    sym (ap (λ b. not (eqb b 0)) (whole ∙ ap (λ i. get_or p i 0) here))

-- slot n written
module _ (p : List ℕ) (n : ℕ) (s : List ℕ) (room : n < slots_in p) (long : length s ≡ 8) where
  pub write_length : length (over p (8 * n) 8 s) ≡ length p
  write_length = over_length p (8 * n) 8 s (omega arith) long

  pub slot_here : slot_at (over p (8 * n) 8 s) n ≡ s
  slot_here = block_here p (8 * n) 8 s (omega arith) long

  pub slot_other : (k : ℕ) → k ≢ n → slot_at (over p (8 * n) 8 s) k ≡ slot_at p k
  slot_other k ne =
      ⊎_elim
      (λ h. block_before p (8 * n) 8 s (omega arith) long (8 * k) 8 (omega arith))
      (λ h. block_after p (8 * n) 8 s (omega arith) long (8 * k) 8 (omega arith))
      (cases_lt k n)

  pub filled_here : is_filled (over p (8 * n) 8 s) n ≡ not (eqb (get_or s 0 0) 0)
  filled_here = first_byte (over p (8 * n) 8 s) n ∙ ap (λ z. not (eqb (get_or z 0 0) 0)) slot_here

  pub filled_other : (k : ℕ) → k ≢ n → is_filled (over p (8 * n) 8 s) k ≡ is_filled p k
  filled_other k ne = first_byte (over p (8 * n) 8 s) k ∙ ap (λ z. not (eqb (get_or z 0 0) 0)) (slot_other k ne) ∙ sym (first_byte p k)

-- the first empty slot written, and still empty
module _ (p s : List ℕ) (form : PartForm p) (room : filled p < slots_in p) (long : length s ≡ 8) (free : get_or s 0 0 ≡ 0) where
  abbrev still : List ℕ
  still = over p (8 * filled p) 8 s

  free_slots : slots_in still ≡ slots_in p
  free_slots = ap (λ n. n / 8) (write_length p (filled p) s room long)

  free_here : is_filled still (filled p) ≡ false
  free_here = filled_here p (filled p) s room long ∙ ap (λ b. not (eqb b 0)) free

  pub free_filled : filled still ≡ filled p
  free_filled =
      filled_only still (filled p) (omega (arith, free_slots))
      (λ k h. filled_other p (filled p) s room long k (omega arith) ∙ filled_before p k h)
      (λ h. free_here)

  pub free_form : PartForm still
  free_form k lt =
      let was = form k (omega (arith, free_slots)) in
      let same = slot_other p (filled p) s room long k in
      let other = filled_other p (filled p) s room long k in
      let here = free_here in
      let count = free_filled in
      grind arith

-- the first empty slot filled
module _ (p : List ℕ) (w : Row) (form : PartForm p) (room : filled p < slots_in p) where
  abbrev after : List ℕ
  after = with_slot p (8 * filled p) w

  fill_slots : slots_in after ≡ slots_in p
  fill_slots = ap (λ n. n / 8) (write_length p (filled p) (slot_bytes w) room refl)

  pub fill_filled : filled after ≡ filled p + 1
  fill_filled =
      filled_only after (filled p + 1) (omega (arith, fill_slots))
      (below_more _ (filled p) (λ k h. filled_other p (filled p) (slot_bytes w) room refl k (omega arith) ∙ filled_before p k h) (filled_here p (filled p) (slot_bytes w) room refl))
      (λ h. filled_other p (filled p) (slot_bytes w) room refl (filled p + 1) (omega arith) ∙ (form (filled p + 1) (omega (arith, fill_slots))).1 (omega arith))

  pub fill_form : row_ok w ≡ true → PartForm after
  fill_form kept k lt =
      ⊎_elim
      (λ e. ((λ _. ap slot_ok (ap (slot_at after) e ∙ slot_here p (filled p) (slot_bytes w) room refl) ∙ slot_of_ok w kept), (λ h. let no : ⊥ = omega (arith, fill_filled) in search rules)))
      (λ ne. (
        (λ h. ap slot_ok (slot_other p (filled p) (slot_bytes w) room refl k ne) ∙ (form k (omega (arith, fill_slots))).0 (omega (arith, fill_filled))),
        (λ h. filled_other p (filled p) (slot_bytes w) room refl k ne ∙ (form k (omega (arith, fill_slots))).1 (omega (arith, fill_filled))),
      ))
      (cases_eq k (filled p))

  fill_row : (part_cell after).row ≡ w
  fill_row =
      let some : eqb (filled after) 0 ≡ false = ne_eqb (filled after) 0 (λ e. omega (arith, fill_filled)) in
      let last : filled after - 1 ≡ filled p = omega (arith, fill_filled) in
      cond-false (eqb (filled after) 0) zero_row (row_in (slot_at after (filled after - 1))) some ∙ ap row_in (ap (slot_at after) last ∙ slot_here p (filled p) (slot_bytes w) room refl) ∙ row_back w

  fill_left : (part_cell after).left ≡ (part_cell p).left - 1
  fill_left = omega (arith, fill_filled, fill_slots)

  pub fill_cell : part_cell after ≡ record { row = w; left = (part_cell p).left - 1 }
  fill_cell = λ i. record { row = fill_row i; left = fill_left i }

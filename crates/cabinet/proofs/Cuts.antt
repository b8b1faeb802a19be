-- The seven parts of a strip, and what becomes of them where a slot of one is written.
use Rattle.std.proofs.Common.{◌≡◌, ℕ, ◌+◌, ◌*◌, ◌/◌, ◌%◌, ◌<◌, ◌≤◌, ◌≢◌, List, map, length, get_or, take, drop, set, sym, ap, ◌∙◌, subst, ⊎_elim, mul-le-mul_right, arith}
use Rattle.std.specs.List.{range_with_len}
use Rattle.std.proofs.lemmas.List.{get_or-set_same, get_or-set_other, get_or-drop, get_or-take, length-drop, length-take}
use Rattle.std.proofs.lemmas.Bool.{cases_eq, cases_lt, eqb-true, not-false}
use Rattle.cabinet.specs.Cells.{Cell}
use Rattle.cabinet.specs.Slots.{slots_in, filled, part_cell, PartForm, part_size, part, StripForm, Counted, next_slot}
use Rattle.cabinet.proofs.Places.{counted_set}
use Rattle.cabinet.proofs.Search.{filled_stop}
use Rattle.cabinet.proofs.Blocks.{over, over_length, over_over, block_here, block_before, block_after}

-- a part begins no earlier than the one before it ends
pub parts_apart : (c d s : ℕ) → c < d → c * s + s ≤ d * s
parts_apart c d s h =
    let more : (c + 1) * s ≤ d * s = mul-le-mul_right s (omega arith) in
    let split : (c + 1) * s ≡ c * s + s = omega arith in
    omega arith

-- every part lies within the strip
pub part_within : (n c : ℕ) → c < 7 → c * (n / 7) + n / 7 ≤ n
part_within n c h = omega (arith, parts_apart c 7 (n / 7) h)

pub part_length : (bs : List ℕ) (c : ℕ) → c < 7 → length (part bs c) ≡ part_size bs
part_length bs c h = simp (length-take, length-drop) (omega (arith, part_within (length bs) c h))

-- a slice that is part c
module _ (bs p : List ℕ) (c : ℕ) (mine : p ≡ part bs c) (lt : c < 7) where
  slice_size : c * length p ≡ c * part_size bs
  slice_size = ap (λ m. c * m) (ap length mine ∙ part_length bs c lt)

  pub slice_within : c * length p + length p ≤ length bs
  slice_within = omega (arith, slice_size, ap length mine, part_length bs c lt, part_within (length bs) c lt)

  pub slice_next : (n : ℕ) → n ≡ filled p → c * length p + 8 * n ≡ next_slot bs c
  slice_next n e = omega (arith, slice_size, ap filled mine)

-- the first empty slot of part c begins with 0
pub empty_slot : (bs : List ℕ) (c : ℕ) → c < 7 → filled (part bs c) < slots_in (part bs c) → (i : ℕ) → i ≡ next_slot bs c → get_or bs i 0 ≡ 0
empty_slot bs c lt room i place =
    let p = part bs c in
    let n = filled p in
    let inside : 8 * n < part_size bs = omega (arith, part_length bs c lt) in
    let first : get_or p (8 * n) 0 ≡ 0 = eqb-true _ _ (not-false _ (filled_stop p room)) in
    let here : get_or p (8 * n) 0 ≡ get_or bs (c * part_size bs + 8 * n) 0 = get_or-take (part_size bs) (drop (c * part_size bs) bs) (8 * n) 0 inside ∙ get_or-drop (c * part_size bs) bs (8 * n) 0 in
    ap (λ k. get_or bs k 0) place ∙ sym here ∙ first

-- slot n of part c written
module _ (bs : List ℕ) (c n : ℕ) (s : List ℕ) (lt : c < 7) (room : n < slots_in (part bs c)) (long : length s ≡ 8) where
  abbrev begin : ℕ
  begin = c * part_size bs + 8 * n

  abbrev written : List ℕ
  written = over bs begin 8 s

  -- the part as it is then
  abbrev part_written : List ℕ
  part_written = over (part bs c) (8 * n) 8 s

  slot_within : 8 * n + 8 ≤ part_size bs
  slot_within = omega (arith, part_length bs c lt)

  pub slot_fits : begin + 8 ≤ length bs
  slot_fits = omega (arith, slot_within, part_within (length bs) c lt)

  pub written_length : length written ≡ length bs
  written_length = over_length bs begin 8 s slot_fits long

  part_written_length : length part_written ≡ part_size bs
  part_written_length = over_length (part bs c) (8 * n) 8 s (omega (arith, slot_within, part_length bs c lt)) long ∙ part_length bs c lt

  by_part : written ≡ over bs (c * part_size bs) (part_size bs) part_written
  by_part = sym (over_over bs (c * part_size bs) (part_size bs) (8 * n) 8 s (part_within (length bs) c lt) slot_within long)

  cut_same : (d : ℕ) → part written d ≡ take (part_size bs) (drop (d * part_size bs) (over bs (c * part_size bs) (part_size bs) part_written))
  cut_same d = ap (λ m. take (m / 7) (drop (d * (m / 7)) written)) written_length ∙ ap (λ z. take (part_size bs) (drop (d * part_size bs) z)) by_part

  pub part_here : part written c ≡ part_written
  part_here = cut_same c ∙ block_here bs (c * part_size bs) (part_size bs) part_written (part_within (length bs) c lt) part_written_length

  pub part_else : (d : ℕ) → d ≢ c → part written d ≡ part bs d
  part_else d ne =
      cut_same d
      ∙ ⊎_elim
      (λ h. block_before bs (c * part_size bs) (part_size bs) part_written (part_within (length bs) c lt) part_written_length (d * part_size bs) (part_size bs) (parts_apart d c (part_size bs) h))
      (λ h. block_after bs (c * part_size bs) (part_size bs) part_written (part_within (length bs) c lt) part_written_length (d * part_size bs) (part_size bs) (parts_apart c d (part_size bs) (omega arith)))
      (cases_lt d c)

  -- the strip stays in form if the part does
  pub written_form : StripForm bs → PartForm part_written → StripForm written
  written_form form mine = record {
    whole = ap (λ m. m % 56) written_length ∙ form.whole;
    least = omega (arith, written_length, form.least);
    most = omega (arith, written_length, form.most);
    parts = λ d h. ⊎_elim
        (λ e. subst PartForm (sym (ap (part written) e ∙ part_here)) mine)
        (λ ne. subst PartForm (sym (part_else d ne)) (form.parts d h))
        (cases_eq d c);
  }

  -- and its other cells stay as they are
  pub written_cells : (x : Cell) → part_cell part_written ≡ x → map (λ d. part_cell (part written d)) (range_with_len 0 7) ≡ set (map (λ d. part_cell (part bs d)) (range_with_len 0 7)) c x
  written_cells x e = counted_set (λ d. part_cell (part bs d)) (λ d. part_cell (part written d)) 7 c x lt (ap part_cell part_here ∙ e) (λ d h ne. ap part_cell (part_else d ne))

  -- the counts of all parts where that one is still so, and where it is another
  pub written_counted : (ns : List ℕ) → get_or ns c 0 ≡ filled part_written → Counted ns bs → Counted ns written
  written_counted ns here counted d h =
      ⊎_elim
      (λ e. ap (λ j. get_or ns j 0) e ∙ here ∙ sym (ap (λ j. filled (part written j)) e ∙ ap filled part_here))
      (λ ne. counted d h ∙ sym (ap filled (part_else d ne)))
      (cases_eq d c)

  pub written_counts : (ns : List ℕ) (m : ℕ) → c < length ns → m ≡ filled part_written → Counted ns bs → Counted (set ns c m) written
  written_counts ns m within here counted d h =
      ⊎_elim
      (λ e. ap (λ j. get_or (set ns c m) j 0) e ∙ get_or-set_same ns c m 0 within ∙ here ∙ sym (ap (λ j. filled (part written j)) e ∙ ap filled part_here))
      (λ ne. get_or-set_other ns c d m 0 ne ∙ counted d h ∙ sym (ap filled (part_else d ne)))
      (cases_eq d c)

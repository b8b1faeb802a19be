-- The bytes of a strip: slots of eight bytes, in seven equal parts.
use Rattle.std.specs.Prelude.{◌≡◌, ℕ, ◌+◌, ◌-◌, ◌*◌, ◌/◌, ◌%◌, ◌<◌, ◌≤◌, Bool, true, false, if◌then◌else◌, not, ◌&&◌, List, [], ◌∷◌, ◌++◌, map, length, take, drop, ◌==◌, slice_index}
use Rattle.std.specs.List.{prefix_len, range_with_len}
use Rattle.numbers.specs.declared.rows.Row.{Row}
use Rattle.numbers.specs.declared.views.View.{View}
use Rattle.numbers.specs.Rows.{row_ok, zero_row}
use Rattle.numbers.specs.Views.{view_of}
use Rattle.cabinet.specs.Cells.{Cell, fresh, is_worn}

-- a view: its count, highest byte first, and its controller
abbrev pub view_bytes : View → List ℕ
view_bytes v = v.count.number / 256 ∷ v.count.number % 256 ∷ v.controller.number ∷ []

-- a filled slot: 1, the current view, the promised view, 0
abbrev pub slot_bytes : Row → List ℕ
slot_bytes w = 1 ∷ (view_bytes w.current ++ (view_bytes w.promised ++ 0 ∷ []))

-- the view that three bytes are read as, from byte k on
abbrev pub view_at : List ℕ → ℕ → View
view_at s k = view_of (slice_index s k * 256 + slice_index s (k + 1)) (slice_index s (k + 2))

-- the row that eight bytes are read as
abbrev pub row_in : List ℕ → Row
row_in s = record { current = view_at s 1; promised = view_at s 4 }

-- whether eight bytes are a filled slot
abbrev pub slot_ok : List ℕ → Bool
slot_ok s = slice_index s 0 == 1 && row_ok (row_in s) && slice_index s 7 == 0

-- the same bytes, but for the eight from byte i on, which are the filled slot of w
abbrev pub with_slot : List ℕ → ℕ → Row → List ℕ
with_slot bs i w = take i bs ++ (slot_bytes w ++ drop (i + 8) bs)

-- one part

abbrev pub slots_in : List ℕ → ℕ
slots_in p = length p / 8

abbrev pub slot_at : List ℕ → ℕ → List ℕ
slot_at p k = take 8 (drop (8 * k) p)

-- a slot is empty if its first byte is 0
abbrev pub is_filled : List ℕ → ℕ → Bool
is_filled p k = not (slice_index p (8 * k) == 0)

-- how many slots are filled before the first empty one
abbrev pub filled : List ℕ → ℕ
filled p = prefix_len (is_filled p) (range_with_len 0 (slots_in p))

-- the record is that of the last filled slot, or twice (0, 0); the writes left are the empty slots
abbrev pub part_cell : List ℕ → Cell
part_cell p = record { row = if filled p == 0 then zero_row else row_in (slot_at p (filled p - 1)); left = slots_in p - filled p }

-- every slot is filled and in form
abbrev pub AllInForm : List ℕ → Type 0
AllInForm p = (k : ℕ) → k < slots_in p → slot_ok (slot_at p k) ≡ true

-- every slot is empty
abbrev pub AllEmpty : List ℕ → Type 0
AllEmpty p = (k : ℕ) → k < slots_in p → is_filled p k ≡ false

-- filled slots come first, each in form; after the first empty one all are empty
abbrev pub PartForm : List ℕ → Type 0
PartForm p = (k : ℕ) → k < slots_in p → (k < filled p → slot_ok (slot_at p k) ≡ true) × (filled p ≤ k → is_filled p k ≡ false)

-- the strip

abbrev pub part_size : List ℕ → ℕ
part_size bs = length bs / 7

abbrev pub part : List ℕ → ℕ → List ℕ
part bs c = take (part_size bs) (drop (c * part_size bs) bs)

-- so many bytes a strip can have: a multiple of 56, from 56 to 57,344
abbrev pub StripSize : ℕ → Type 0
StripSize n = (n % 56 ≡ 0) × (56 ≤ n) × (n ≤ 57344)

-- the numbers of bytes of which a strip keeps right counts: a strip's, or fewer than seven slots take
abbrev pub Countable : ℕ → Type 0
Countable n = 56 ≤ n → StripSize n

-- a multiple of 56 bytes, from 56 to 57,344, and all seven parts in form
pub record StripForm (bs : List ℕ) : Type 0 where
  pub whole : length bs % 56 ≡ 0
  pub least : 56 ≤ length bs
  pub most : length bs ≤ 57344
  pub parts : (c : ℕ) → c < 7 → PartForm (part bs c)

-- so many slots of each part are filled
abbrev pub Counted : List ℕ → List ℕ → Type 0
Counted ns bs = (c : ℕ) → c < 7 → slice_index ns c ≡ filled (part bs c)

-- cell c of a strip; where its bytes are not in form, every cell is worn at twice (0, 0)
abbrev pub strip_cell : Bool → List ℕ → ℕ → Cell
strip_cell true bs c = part_cell (part bs c)
strip_cell false bs c = fresh 0

abbrev pub strip_cells : Bool → List ℕ → List Cell
strip_cells flag bs = map (strip_cell flag bs) (range_with_len 0 7)

-- where the first empty slot of cell c begins
abbrev pub next_slot : List ℕ → ℕ → ℕ
next_slot bs c = c * part_size bs + 8 * filled (part bs c)

-- the bytes after a put of w into cell c: without writes left the same; else the first empty slot of its part is that of w, and every other byte stays
abbrev pub put_bytes : Bool → List ℕ → ℕ → Row → List ℕ
put_bytes flag bs c w = if is_worn (strip_cells flag bs) c then bs else with_slot bs (next_slot bs c) w

-- filled slots and records match one to one: rows in form have different slots, and a slot is in form exactly if it is that of a row in form, the one that it is read as
pub record OneToOne : Type 0 where
  pub written : (w : Row) → row_ok w ≡ true → (slot_ok (slot_bytes w) ≡ true) × (row_in (slot_bytes w) ≡ w)
  pub read : (s : List ℕ) → length s ≡ 8 → ((k : ℕ) → slice_index s k < 256) → slot_ok s ≡ true → (row_ok (row_in s) ≡ true) × (slot_bytes (row_in s) ≡ s)

-- Filled slots and rows in form match one to one.
use Rattle.std.proofs.Common.{◌≡◌, ℕ, ◌+◌, ◌*◌, ◌/◌, ◌%◌, ◌<◌, true, ◌&&◌, eqb, List, [], ◌∷◌, length, get_or, ap, ◌∙◌, arith}
use Rattle.std.proofs.lemmas.List.{drop_all, drop_more}
use Rattle.std.proofs.lemmas.Bool.{and_parts, eqb-true}
use Rattle.numbers.specs.declared.rows.Row.{Row}
use Rattle.numbers.specs.Rows.{row_ok}
use Rattle.numbers.specs.Views.{view_of}
use Rattle.cabinet.specs.Slots.{slot_bytes, slot_ok, row_in, OneToOne}

-- eight numbers, one by one
pub eight_numbers : (xs : List ℕ) → length xs ≡ 8 → xs ≡ get_or xs 0 0 ∷ get_or xs 1 0 ∷ get_or xs 2 0 ∷ get_or xs 3 0 ∷ get_or xs 4 0 ∷ get_or xs 5 0 ∷ get_or xs 6 0 ∷ get_or xs 7 0 ∷ []
eight_numbers xs h =
    let a = drop_more xs 0 0 (omega arith) in
    let b = drop_more xs 1 0 (omega arith) in
    let c = drop_more xs 2 0 (omega arith) in
    let d = drop_more xs 3 0 (omega arith) in
    let e = drop_more xs 4 0 (omega arith) in
    let f = drop_more xs 5 0 (omega arith) in
    let g = drop_more xs 6 0 (omega arith) in
    let i = drop_more xs 7 0 (omega arith) in
    let none = drop_all 8 xs (omega arith) in
    cc

abbrev with_counts : Row → ℕ → ℕ → Row
with_counts w m n = record { current = view_of m w.current.controller.number; promised = view_of n w.promised.controller.number }

pub row_back : (w : Row) → row_in (slot_bytes w) ≡ w
row_back w =
    let a : w.current.count.number / 256 * 256 + w.current.count.number % 256 ≡ w.current.count.number = omega arith in
    let b : w.promised.count.number / 256 * 256 + w.promised.count.number % 256 ≡ w.promised.count.number = omega arith in
    ap (λ m. with_counts w m (w.promised.count.number / 256 * 256 + w.promised.count.number % 256)) a ∙ ap (λ n. with_counts w w.current.count.number n) b

pub slot_of_ok : (w : Row) → row_ok w ≡ true → slot_ok (slot_bytes w) ≡ true
slot_of_ok w kept = let back = row_back w in cc

pub row_of_ok : (s : List ℕ) → slot_ok s ≡ true → row_ok (row_in s) ≡ true
row_of_ok s ok = (and_parts _ _ (and_parts _ _ ok).0).1

pub slot_back : (s : List ℕ) → length s ≡ 8 → ((k : ℕ) → get_or s k 0 < 256) → slot_ok s ≡ true → slot_bytes (row_in s) ≡ s
slot_back s long fits ok =
    let ends = and_parts (eqb (get_or s 0 0) 1 && row_ok (row_in s)) (eqb (get_or s 7 0) 0) ok in
    let starts = and_parts (eqb (get_or s 0 0) 1) (row_ok (row_in s)) ends.0 in
    let first = eqb-true (get_or s 0 0) 1 starts.0 in
    let last = eqb-true (get_or s 7 0) 0 ends.1 in
    let a : (get_or s 1 0 * 256 + get_or s 2 0) / 256 ≡ get_or s 1 0 = omega (arith, fits 2) in
    let b : (get_or s 1 0 * 256 + get_or s 2 0) % 256 ≡ get_or s 2 0 = omega (arith, fits 2) in
    let c : (get_or s 4 0 * 256 + get_or s 5 0) / 256 ≡ get_or s 4 0 = omega (arith, fits 5) in
    let d : (get_or s 4 0 * 256 + get_or s 5 0) % 256 ≡ get_or s 5 0 = omega (arith, fits 5) in
    let each = eight_numbers s long in
    cc

pub one_to_one : OneToOne
one_to_one = record {
  written = λ w kept. (slot_of_ok w kept, row_back w);
  read = λ s long fits ok. (row_of_ok s ok, slot_back s long fits ok);
}

-- The number of filled slots of a part: what it says, and that no other number says it.
use Rattle.std.proofs.Common.{◌≡◌, ℕ, ◌<◌, ◌≤◌, true, false, List, length, get_or, sym, ap, ◌∙◌, arith}
use Rattle.std.specs.List.{range_with_len}
use Rattle.std.proofs.lemmas.List.FromFn.{length-range_with_len, get_or-range_with_len}
use Rattle.std.proofs.lemmas.List.Sums.{prefix_len-le-length, prefix_len_is, prefix_len_passes, prefix_len_stops}
use Rattle.cabinet.specs.Slots.{is_filled, filled, slots_in}

module _ (p : List ℕ) where
  abbrev places : List ℕ
  places = range_with_len 0 (slots_in p)

  count : length places ≡ slots_in p
  count = length-range_with_len 0 (slots_in p)

  place : (k : ℕ) → k < slots_in p → is_filled p (get_or places k 0) ≡ is_filled p k
  place k h = ap (is_filled p) (omega (arith, get_or-range_with_len 0 (slots_in p) k 0 h))

  pub most : filled p ≤ slots_in p
  most = omega (arith, count, prefix_len-le-length (is_filled p) places)

  pub filled_before : (k : ℕ) → k < filled p → is_filled p k ≡ true
  filled_before k h = sym (place k (omega (arith, most))) ∙ prefix_len_passes (is_filled p) places k 0 h

  pub filled_stop : filled p < slots_in p → is_filled p (filled p) ≡ false
  filled_stop h = sym (place (filled p) h) ∙ prefix_len_stops (is_filled p) places 0 (omega (arith, count))

  pub filled_only : (m : ℕ) → m ≤ slots_in p → ((k : ℕ) → k < m → is_filled p k ≡ true) → (m < slots_in p → is_filled p m ≡ false) → filled p ≡ m
  filled_only m le before stop =
      prefix_len_is (is_filled p) places m 0 (omega (arith, count)) (λ k h. place k (omega arith) ∙ before k h) (λ h. place m (omega (arith, count)) ∙ stop (omega (arith, count)))

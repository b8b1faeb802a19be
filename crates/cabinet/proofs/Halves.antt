-- A part that is cut after its filled slots: its form, by that of the two pieces.
use Rattle.std.proofs.Common.{◌≡◌, ℕ, ◌+◌, ◌-◌, ◌*◌, ◌<◌, ◌≤◌, not, eqb, List, length, get_or, take, drop, sym, ap, ◌∙◌, arith}
use Rattle.std.proofs.lemmas.List.{drop-take, get_or-drop, length-drop, length-take, take-take}
use Rattle.cabinet.specs.Slots.{slot_ok, slots_in, slot_at, is_filled, filled, AllInForm, AllEmpty, PartForm}
use Rattle.cabinet.proofs.Search.{most}

module _ (p q r : List ℕ) (n : ℕ) (count : n ≡ filled p) (front : q ≡ take (8 * n) p) (back : r ≡ drop (8 * n) p) where
  within : 8 * n ≤ length p
  within = omega (arith, count, most p)

  front_slots : slots_in q ≡ n
  front_slots = let long : length q ≡ 8 * n = (ap length front ∙ simp length-take (omega (arith, within))) in omega (arith, long)

  back_slots : slots_in r ≡ slots_in p - n
  back_slots = let long : length r ≡ length p - 8 * n = (ap length back ∙ length-drop (8 * n) p) in omega (arith, long)

  front_slot : (k : ℕ) → k < n → slot_at q k ≡ slot_at p k
  front_slot k h =
      let m = 8 * n - 8 * k in
      let all : 8 * n ≡ 8 * k + m = omega arith in
      ap (λ z. slot_at z k) (front ∙ ap (λ i. take i p) all) ∙ ap (take 8) (drop-take (8 * k) m p) ∙ take-take 8 m (drop (8 * k) p) (omega arith)

  back_slot : (k j : ℕ) → n + j ≡ k → is_filled r j ≡ is_filled p k
  back_slot k j e =
      let at : 8 * n + 8 * j ≡ 8 * k = omega (arith, e) in
      ap (λ b. not (eqb b 0)) (ap (λ z. get_or z (8 * j) 0) back ∙ get_or-drop (8 * n) p (8 * j) 0 ∙ ap (λ i. get_or p i 0) at)

  pub halves_form : AllInForm q → AllEmpty r → PartForm p
  halves_form good empty k lt = (
    (λ h. ap slot_ok (sym (front_slot k (omega (arith, count)))) ∙ good k (omega (arith, count, front_slots))),
    (λ h. sym (back_slot k (k - n) (omega (arith, count))) ∙ empty (k - n) (omega (arith, count, back_slots))),
  )

  pub form_front : PartForm p → AllInForm q
  form_front form k lt = ap slot_ok (front_slot k (omega (arith, front_slots))) ∙ (form k (omega (arith, front_slots, within))).0 (omega (arith, front_slots, count))

  pub form_back : PartForm p → AllEmpty r
  form_back form k lt = back_slot (n + k) k (omega arith) ∙ (form (n + k) (omega (arith, back_slots))).1 (omega (arith, count))

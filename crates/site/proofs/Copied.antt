-- The beginning of one part of the books copied over that of another, which lies apart from it.
use Rattle.std.proofs.Common.{◌≡◌, ℕ, zero, suc, ◌+◌, ◌-◌, ◌*◌, ◌<◌, ◌≤◌, ◌⊎◌, min, List, [], ◌∷◌, ◌++◌, length, take, drop, sym, ap, ◌∙◌, inl, inr, ⊎_elim, mul-le-mul_right, arith}
use native.Mathlib.Nat.{min-zero, suc-min-suc, zero-min}
use lib.Seq.{paste}
use Rattle.std.proofs.lemmas.Bool.{cases_order, eqb-false, not-true}
use Rattle.std.proofs.lemmas.List.{append_assoc, drop-drop, drop-take, length-drop, length-take, take-append-drop}
use Rattle.numbers.specs.declared.views.ControllerNumber.{ControllerNumber}
use Rattle.entries.specs.declared.book.Entry.{Entry}
use Rattle.numbers.specs.declared.members.Member.{Member}
use Rattle.controller.specs.Joins.{copied}
use Rattle.site.specs.declared.records.Site.{Site}
use Rattle.site.specs.States.{IsPair, part, with_part}

-- a part begins no earlier than the one before it ends
parts_apart : (c d s : ℕ) → c < d → c * s + s ≤ d * s
parts_apart c d s h =
    let more : (c + 1) * s ≤ d * s = mul-le-mul_right s (omega arith) in
    let split : (c + 1) * s ≡ c * s + s = omega arith in
    omega arith

-- the beginnings of two controllers' parts lie apart
pub parts_lie_apart : {x : Site} {books pool a b n : ℕ} {i p : ControllerNumber} {m : Member × Member} → IsPair x books pool i p m
    → a ≡ m.0.number.number * x.cap → b ≡ m.1.number.number * x.cap → n ≤ x.cap → (b + n ≤ a) ⊎ (a + n ≤ b)
parts_lie_apart {x = x} {a = a} {b = b} {i = i} {p = p} pair start start_2 few =
    let to : a ≡ i.number * x.cap = start ∙ ap (λ z. z.number * x.cap) pair.first.number in
    let from : b ≡ p.number * x.cap = start_2 ∙ ap (λ z. z.number * x.cap) pair.second.number in
    ⊎_elim
    (λ e. absurd (eqb-false i.number p.number (not-true _ pair.two) e))
    (λ order. ⊎_elim
    (λ h. inr (omega (arith, to, from, few, parts_apart i.number p.number x.cap h)))
    (λ h. inl (omega (arith, to, from, few, parts_apart p.number i.number x.cap h)))
    order)
    (cases_order i.number p.number)

module _ {A : Type 0} where
  -- the first n of the first m
  take_min : (n m : ℕ) (xs : List A) → take n (take m xs) ≡ take (min n m) xs
  take_min zero m xs = ap (λ k. take k xs) (sym (zero-min m))
  take_min (suc n) zero xs = ap (λ k. take k xs) (sym (min-zero (suc n)))
  take_min (suc n) (suc m) [] = ap (λ k. take k []) (sym (suc-min-suc n m))
  take_min (suc n) (suc m) (x ∷ xs) = ap (λ ys. x ∷ ys) (take_min n m xs) ∙ ap (λ k. take k (x ∷ xs)) (sym (suc-min-suc n m))

  -- all from place u on, cut at place m
  drop_cut : (u m : ℕ) (xs : List A) → u ≤ m → drop u (take m xs) ++ drop m xs ≡ drop u xs
  drop_cut u m xs h =
      let e : m ≡ u + (m - u) = omega arith in
      ap (λ k. drop u (take k xs) ++ drop k xs) e
      ∙ ap (λ z. z ++ drop (u + (m - u)) xs) (drop-take u (m - u) xs)
      ∙ ap (λ z. take (m - u) (drop u xs) ++ z) (sym (drop-drop (m - u) u xs))
      ∙ take-append-drop (m - u) (drop u xs)

module _ {E : Type 0} (books : List (Entry E)) (cap i p : ℕ) where
  -- with the first l entries of p's part over the beginning of i's
  pub part_copied : (l : ℕ) → p * cap + cap ≤ length books → paste books (i * cap) (drop (p * cap) books) (min l cap) ≡ with_part books cap i (copied (take l (part books cap p)) (part books cap i))
  part_copied l within =
      let u : ℕ = min l cap in
      let before : List (Entry E) = take (i * cap) books in
      let old : List (Entry E) = part books cap i in
      let after : List (Entry E) = drop (i * cap + cap) books in
      let log : List (Entry E) = take u (drop (p * cap) books) in
      let long : length log ≡ u = simp (length-take, length-drop) (omega arith) in
      let tail : drop (i * cap + u) books ≡ drop u old ++ after = sym (drop-drop u (i * cap) books) ∙ sym (drop_cut u cap (drop (i * cap) books) (omega arith)) ∙ ap (λ z. drop u old ++ z) (drop-drop cap (i * cap) books) in
      ap (λ z. before ++ log ++ z) tail
      ∙ append_assoc before log (drop u old ++ after)
      ∙ ap (λ z. before ++ z) (sym (append_assoc log (drop u old) after))
      ∙ ap (λ k. before ++ (log ++ drop k old ++ after)) (sym long)
      ∙ ap (λ z. with_part books cap i (copied z old)) (sym (take_min l cap (drop (p * cap) books)))

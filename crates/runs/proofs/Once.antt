-- No stamp is handed out twice and no view is opened twice, since in the protocol none is.
use Rattle.std.proofs.Common.{◌≡◌, ℕ, ◌-◌, ◌≤◌, Bool, true, false, cond, ◌&&◌, eqb, List, [], ◌∷◌, ◌++◌, length, Option, length-append, refl, ◌∙◌, arith}
use Rattle.std.proofs.lemmas.Bool.{and_from, and_parts, eqb-true, eq-eqb}
use Rattle.numbers.specs.declared.views.Stamp.{Stamp}
use Rattle.numbers.specs.declared.views.View.{View}
use Rattle.numbers.specs.Views.{same_view}
use Rattle.entries.specs.declared.kinds.Answer.{Answer as Light}
use Rattle.entries.specs.declared.kinds.Question.{Question}
use Rattle.protocol.specs.Guarantee as theorem
use Rattle.protocol.specs.Guarantee.{Stands}
use Rattle.protocol.specs.Model as model
use Rattle.protocol.specs.Model.{Site}
use Rattle.runs.specs.Guarantee.{Once}
use Rattle.runs.specs.History.{Event, handed, handed_by, handed_with, opened, openings_by, openings_of, same_stamp}
use Rattle.runs.proofs.Bond.{EventR, HistoryR, code}
use Rattle.runs.proofs.Codes.{same_code}

-- one element or none: where the first list has one, the second has one
one_if : {X Y : Type 0} (a b : Bool) → (a ≡ true → b ≡ true) → (x : X) (y : Y) → length (cond a (x ∷ []) []) ≤ length (cond b (y ∷ []) [])
one_if true true h x y = omega arith
one_if true false h x y = absurd (let e : false ≡ true = h refl in cc)
one_if false b h x y = omega arith

-- a list in two parts, each no longer than the other's
no_longer : {X Y : Type 0} (p q : List X) (r s : List Y) → length p ≤ length r → length q ≤ length s → length (p ++ q) ≤ length (r ++ s)
no_longer p q r s h k = omega (arith, length-append p q, length-append r s)

module _ {E : Type 0} (says : E → Question → Option Light) (unsettled : Light) where
  -- Stamps

  same_in_code : (u t : Stamp) (w k : ℕ) → w ≡ code u.view → k ≡ u.place.number - 1 → same_stamp u t ≡ true
      → (eqb w (code t.view) && eqb k (t.place.number - 1)) ≡ true
  same_in_code u t w k view place same =
      let both = and_parts (same_view u.view t.view) (eqb u.place.number t.place.number) same in
      let views : w ≡ code t.view = view ∙ same_code u.view t.view both.0 in
      let places : k ≡ t.place.number - 1 = omega (arith, eqb-true u.place.number t.place.number both.1) in
      and_from (eqb w (code t.view)) (eqb k (t.place.number - 1)) (eq-eqb w (code t.view) views) (eq-eqb k (t.place.number - 1) places)

  module _ (t : Stamp) where
    abbrev v : ℕ
    v = code t.view

    abbrev j : ℕ
    j = t.place.number - 1

    handed_by_no_more : (x : Event E) (y : model.Event E) → EventR says unsettled x y → length (handed_by t x) ≤ length (theorem.handed_by v j y)
    handed_by_no_more (handed u x) (model.handed w k y) r = one_if _ _ (same_in_code u t w k r.0 (omega (arith, r.2))) x y
    handed_by_no_more (handed u x) y r = absurd r
    handed_by_no_more x y r = omega arith

    handed_no_more : (h : List (Event E)) (H : List (model.Event E)) → HistoryR says unsettled h H → length (handed_with t h) ≤ length (theorem.handed_with v j H)
    handed_no_more [] H r = omega arith
    handed_no_more (x ∷ xs) [] r = absurd r
    handed_no_more (x ∷ xs) (y ∷ ys) r = no_longer _ _ _ _ (handed_by_no_more x y r.0) (handed_no_more xs ys r.1)

  -- Views

  module _ (v : View) where
    openings_by_no_more : (x : Event E) (y : model.Event E) → EventR says unsettled x y → length (openings_by v x) ≤ length (theorem.openings_by (code v) y)
    openings_by_no_more (opened u b) (model.opening w l f) r = one_if _ _ (λ same. eq-eqb w (code v) (r.0 ∙ same_code u v same)) b (model.opening w l f)
    openings_by_no_more (opened u b) y r = absurd r
    openings_by_no_more x y r = omega arith

    openings_no_more : (h : List (Event E)) (H : List (model.Event E)) → HistoryR says unsettled h H → length (openings_of v h) ≤ length (theorem.openings_of (code v) H)
    openings_no_more [] H r = omega arith
    openings_no_more (x ∷ xs) [] r = absurd r
    openings_no_more (x ∷ xs) (y ∷ ys) r = no_longer _ _ _ _ (openings_by_no_more x y r.0) (openings_no_more xs ys r.1)

  pub once : (h : List (Event E)) (m : Site E) → Stands m → HistoryR says unsettled h m.history → Once h
  once h m stands histories =
      record {
        stamps = λ t. omega (arith, handed_no_more t h m.history histories, stands.handed_at_most_once (code t.view) (t.place.number - 1));
        views = λ v. omega (arith, openings_no_more v h m.history histories, stands.opened_at_most_once (code v));
      }

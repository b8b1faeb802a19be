use Rattle.std.proofs.Common.{◌≡◌, ℕ, ◌<◌, Bool, get_or, refl, sym, subst, arith, rules}
use Rattle.std.specs.Bool.{Decides, MatchBool}
use Rattle.std.specs.List.{range_with_len, AllWithin, HoldsAt}
use Rattle.std.proofs.lemmas.Iterator.{cases_from_all, YieldsList-from_range}
use Rattle.std.proofs.lemmas.List.FromFn.{get_or-range_with_len}
use Rattle.cabinet.specs.Slots.{part, PartForm}
use Rattle.cabinet.proofs.Flags.{decides_by}
use Rattle.cabinet.proofs.strip.parts_are_in_form.Goals as goal

place : (d : ℕ) → d < 7 → get_or (range_with_len 0 7) d 0 ≡ d
place d h = omega (arith, get_or-range_with_len 0 7 d 0 h)

all_seven : (P : ℕ → Type 0) (r : Bool) → MatchBool r (AllWithin P (range_with_len 0 7) 0 7) ((d : ℕ) × (d < 7) × HoldsAt (λ i. P i → ⊥) (range_with_len 0 7) d) → Decides r ((d : ℕ) → d < 7 → P d)
all_seven P r cases =
    decides_by r _
    (λ t d h. let all = rw t at cases in subst P (place d h) (all d 0 (omega arith) h))
    (λ f all. let some = rw f at cases in some.2 0 (subst P (sym (place some.0 some.1)) (all some.0 some.1)))

pub returns : goal.returns
returns c =
    all_seven (λ d. PartForm (part c.args.bytes.now d)) c.all.result
    (cases_from_all _ _ c.all.result (λ d. PartForm (part c.args.bytes.now d)) (λ d. PartForm (part c.args.bytes.now d) → ⊥) c.all.ensures.ran (YieldsList-from_range 0 7 7 refl refl) (λ x q k. search rules) (λ x q k. search rules))

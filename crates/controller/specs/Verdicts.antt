-- What becomes of a slip: confirmed, lost or waiting.
use Rattle.std.specs.Prelude.{◌≡◌, ℕ, Bool, true, false, cond, not, ◌&&◌, List, [], ◌∷◌, take, Some, None, Ok, Err, Option, Result, nat_le}
use Rattle.numbers.specs.declared.refusals.Refusal.TheVariants.{WrongView}
use Rattle.numbers.specs.declared.views.ControllerNumber.{ControllerNumber}
use Rattle.numbers.specs.declared.views.Stamp.{Stamp}
use Rattle.numbers.specs.declared.views.View.{View}
use Rattle.numbers.specs.Majorities.{majority_of}
use Rattle.numbers.specs.Views.{earlier, same_view}
use Rattle.entries.specs.declared.book.Entry.{Entry}
use Rattle.numbers.specs.Counting.{count}
use Rattle.controller.specs.declared.records.Controller.{Controller}
use Rattle.controller.specs.declared.outcomes.Outcome.{Outcome}
use Rattle.controller.specs.declared.outcomes.Outcome.TheVariants.{Settled}
use Rattle.controller.specs.declared.slips.Settled.{Settled as Settlement}
use Rattle.controller.specs.declared.slips.Settled.TheVariants.{Confirmed as IsConfirmed, Lost as IsLost, Waiting as StillWaiting}
use Rattle.controller.specs.declared.slips.Slip.{Slip}
use Rattle.controller.specs.declared.verdicts.Verdict.{Verdict}
use Rattle.controller.specs.declared.verdicts.Verdict.TheVariants.{Confirmed, Lost, Waiting as Undecided}
use Rattle.controller.specs.Books.{at_place, in_use}
use Rattle.controller.specs.Primaries.{primary_asks}
use Rattle.controller.specs.Questions.{ask}
use Rattle.controller.specs.Actions.{Action, Own, only_asks}
use Rattle.controller.specs.Records.{lengths_of}

-- an acknowledged length of at least k; any acknowledged length
abbrev pub reaches : ℕ → Option ℕ → Bool
reaches k None = false
reaches k (Some l) = nat_le k l

abbrev pub joined : Option ℕ → Bool
joined None = false
joined (Some l) = true

-- the lengths that a primary has of controllers 0 to n - 1; [] of any other status
unfoldable pub lengths_in : ℕ → Controller → List (Option ℕ)
lengths_in n r = take n (lengths_of r.status)

-- a majority of n pass a test of their acknowledged lengths
abbrev pub most : ℕ → (Option ℕ → Bool) → Controller → Bool
most n test r = nat_le (majority_of n) (count test (lengths_in n r))

module _ {E : Type 0} where
  abbrev is_of : View → Option (Entry E) → Bool
  is_of v None = false
  is_of v (Some e) = same_view e.view v

  -- the entry at the slip's place has the slip's view
  abbrev pub holds : Controller → List (Entry E) → Stamp → Bool
  holds r book s = is_of s.view (at_place (in_use r book) s.place.number)

  -- confirmed: the book holds the entry, and a majority have acknowledged its place
  abbrev pub is_confirmed : ℕ → Controller → List (Entry E) → Stamp → Bool
  is_confirmed n r book s = holds r book s && most n (reaches s.place.number) r

  -- lost: the book does not hold it, the view is later than the slip's, and a majority have joined the view
  abbrev pub is_lost : ℕ → Controller → List (Entry E) → Stamp → Bool
  is_lost n r book s = not (holds r book s) && earlier s.view r.views.current && most n joined r

  -- waiting: neither
  abbrev pub verdict_of : ℕ → Controller → List (Entry E) → Stamp → Verdict
  verdict_of n r book s = cond (is_confirmed n r book s) Confirmed (cond (is_lost n r book s) Lost Undecided)

abbrev pub settle : {E : Type 0} → ℕ → Stamp → ControllerNumber → Own E → Action E
settle n s i o = record (only_asks o (primary_asks o.row (ask (not (earlier o.row.views.current s.view)) WrongView ∷ []))) {
  gives = Settled (verdict_of n o.row o.book s);
}

-- the slip is spent where it is confirmed or lost; else it comes back
abbrev pub with_slip : Slip → Verdict → Settlement
with_slip s Confirmed = IsConfirmed
with_slip s Lost = IsLost
with_slip s Undecided = StillWaiting s

-- what a settle's result is for who brought the slip; a refusal hands it back as well. A settle's outcome is always a verdict, so the second row never applies
abbrev pub settled_by : {E F : Type 0} → Slip → Result (Outcome E) F → Result Settlement (F × Slip)
settled_by s (Ok (Settled v)) = Ok (with_slip s v)
settled_by s (Ok x) = Ok (StillWaiting s)
settled_by s (Err f) = Err (f, s)

-- the three conditions exclude one another and leave no case out
pub record ThreeWays (confirmed lost : Bool) (v : Verdict) : Type 0 where
  pub apart : confirmed ≡ true → lost ≡ false
  pub says_confirmed : confirmed ≡ true → v ≡ Confirmed
  pub says_lost : lost ≡ true → v ≡ Lost
  pub says_waiting : confirmed ≡ false → lost ≡ false → v ≡ Undecided

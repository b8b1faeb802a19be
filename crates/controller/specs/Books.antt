-- A controller's part of the books: its capacity and the entries in use.
use Rattle.std.specs.Prelude.{ℕ, zero, suc, ◌+◌, ◌-◌, min, cond, List, [], ◌∷◌, length, take, Some, None, Option, ◌==◌, slice_set}
use Rattle.numbers.specs.declared.views.ControllerNumber.{ControllerNumber}
use Rattle.entries.specs.declared.book.Entry.{Entry}
use Rattle.controller.specs.declared.records.Controller.{Controller}
use Rattle.controller.specs.declared.records.Status.{Status}
use Rattle.controller.specs.declared.records.Status.TheVariants.{Primary}

-- item i of a list, from 0, or none
abbrev pub item : {A : Type 0} → List A → ℕ → Option A
item [] i = None
item (x ∷ xs) zero = Some x
item (x ∷ xs) (suc i) = item xs i

-- what stands at a place, from 1, or none
abbrev pub at_place : {A : Type 0} → List A → ℕ → Option A
at_place xs k = cond (k == 0) None (item xs (k - 1))

module _ {E : Type 0} where
  -- how many entries a book can hold: places go up to 65,535
  abbrev pub cap_of : List (Entry E) → ℕ
  cap_of book = min (length book) 65535

  -- the entries in use: as many as the record's length says
  abbrev pub in_use : Controller → List (Entry E) → List (Entry E)
  in_use r book = take r.length book

-- a primary's own acknowledged length is its length
abbrev pub own_length : ControllerNumber → ℕ → Status → Status
own_length i l (Primary lengths) = Primary (slice_set lengths i.number (Some l))
own_length i l s = s

-- the record with one entry more
abbrev pub appended : ControllerNumber → Controller → Controller
appended i r = record r { status = own_length i (r.length + 1) r.status; length = r.length + 1 }

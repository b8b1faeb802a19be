-- The number of every refusal.
use Rattle.std.specs.Prelude.{ℕ, ◌==◌, List, [], ◌∷◌, find, unwrap_or}
use Rattle.numbers.specs.declared.refusals.Refusal.{Refusal}
use Rattle.numbers.specs.declared.refusals.Refusal.TheVariants.{NotMade, NoSuchController, NoSuchMessage, BadMessage, WrongPower, WrongStatus, NotPrimary, WrongView, IncompleteBook, DoesNotFit, BookFull, NoRuleAllows, CountsSpent, PoolFull, CellWorn, CellsUsed, BadForm}

-- the number by which users know a refusal
abbrev pub number_of : Refusal → ℕ
number_of NotMade = 1
number_of NoSuchController = 2
number_of NoSuchMessage = 3
number_of BadMessage = 4
number_of WrongPower = 5
number_of WrongStatus = 6
number_of NotPrimary = 7
number_of WrongView = 8
number_of IncompleteBook = 9
number_of DoesNotFit = 10
number_of BookFull = 11
number_of NoRuleAllows = 12
number_of CountsSpent = 13
number_of PoolFull = 14
number_of CellWorn = 15
number_of CellsUsed = 16
number_of BadForm = 17

-- every refusal, in any order
abbrev pub refusals : List Refusal
refusals = NotMade ∷ NoSuchController ∷ NoSuchMessage ∷ BadMessage ∷ WrongPower ∷ WrongStatus ∷ NotPrimary ∷ WrongView ∷ IncompleteBook ∷ DoesNotFit ∷ BookFull ∷ NoRuleAllows ∷ CountsSpent ∷ PoolFull ∷ CellWorn ∷ CellsUsed ∷ BadForm ∷ []

-- the refusal that has the number q, as promises cite it; where none has, BadForm
abbrev pub refusal : ℕ → Refusal
refusal q = unwrap_or (find (λ r. number_of r == q) refusals) BadForm

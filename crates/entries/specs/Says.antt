-- What the two kinds of change say to a question.
use Rattle.std.specs.Prelude.{ℕ, ◌/◌, ◌%◌, ◌^◌, Bool, if◌then◌else◌, ◌&&◌, Some, None, Option, ◌==◌, nat_le, nat_lt}
use Rattle.entries.specs.declared.cards.CardChange.{CardChange}
use Rattle.entries.specs.declared.hours.HoursChange.{HoursChange}
use Rattle.entries.specs.declared.kinds.Answer.{Answer}
use Rattle.entries.specs.declared.kinds.Answer.TheVariants.{Green, Red}
use Rattle.entries.specs.declared.kinds.Question.{Question}

-- bit d of a set of doors, of which there are 16
abbrev pub in_set : ℕ → ℕ → Bool
in_set doors d = nat_lt d 16 && doors / 2 ^ d % 2 == 1

-- the question (card, door): green if given and red if withdrawn, provided the card is equal and the door in the set
abbrev pub card_says : CardChange → Question → Option Answer
card_says x q = if x.card == q.first && in_set x.doors q.second then Some (if x.given then Green else Red) else None

-- the question (door, minute): at an equal door, green exactly if opening ≤ minute < shutting
abbrev pub hours_says : HoursChange → Question → Option Answer
hours_says x q = if x.door == q.first then Some (if nat_le x.opening q.second && nat_lt q.second x.shutting then Green else Red) else None

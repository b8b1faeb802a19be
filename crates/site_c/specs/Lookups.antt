-- Entries and questions as the numbers that cross, and what is green.
use Rattle.std.specs.Prelude.{Bool, true, false, not, List, Option, ◌==◌}
use Rattle.numbers.specs.Views.{view_of}
use Rattle.entries.specs.declared.book.Entry.{Entry}
use Rattle.entries.specs.declared.cards.CardChange.{CardChange}
use Rattle.entries.specs.declared.hours.HoursChange.{HoursChange}
use Rattle.entries.specs.declared.kinds.Answer.{Answer}
use Rattle.entries.specs.declared.kinds.Answer.TheVariants.{Green, Red}
use Rattle.entries.specs.declared.kinds.Question.{Question}
use Rattle.entries.specs.Lookups.{looked}
use Rattle.site_c.specs.declared.lookups.Numbers.{Numbers}
use Rattle.site_c.specs.declared.lookups.Pair.{Pair}

-- the entry of five numbers; a card is given where the last is not 0
abbrev pub card_entry : Numbers → Entry CardChange
card_entry r = record { view = view_of r.count r.controller; change = record { card = r.x; doors = r.y; given = not (r.z == 0) } }

abbrev pub hours_entry : Numbers → Entry HoursChange
hours_entry r = record { view = view_of r.count r.controller; change = record { door = r.x; opening = r.y; shutting = r.z } }

abbrev pub is_green : Answer → Bool
is_green Green = true
is_green Red = false

-- whether a book answers with green
abbrev pub answers_green : {E : Type 0} → (E → Question → Option Answer) → Answer → List (Entry E) → Pair → Bool
answers_green says unsettled es p = is_green (looked says unsettled es (record { first = p.first; second = p.second }))

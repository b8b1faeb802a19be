-- Three runs of card changes at three controllers, and their histories: what the guarantee speaks of occurs.
use Rattle.std.specs.Prelude.{◌≡◌, true, false, List, [], ◌∷◌, replicate}
use Rattle.numbers.specs.Views.{controller_of, place_of, stamp_of, view_of}
use Rattle.entries.specs.declared.messages.Body.TheVariants.{Invitation}
use Rattle.entries.specs.declared.book.Entry.{Entry}
use Rattle.entries.specs.declared.messages.Message.{Message}
use Rattle.entries.specs.declared.cards.CardChange.{CardChange}
use Rattle.entries.specs.declared.kinds.Answer.TheVariants.{Green, Red}
use Rattle.entries.specs.declared.kinds.Question.{Question}
use Rattle.entries.specs.Says.{card_says}
use Rattle.cabinet.specs.Cells.{fresh}
use Rattle.site.specs.Making.{make_step, no_site}
use Rattle.site.specs.States.{State, state}
use Rattle.runs.specs.declared.steps.Step.{Step}
use Rattle.runs.specs.declared.steps.Step.TheVariants.{Change, Pass, Call, Invite, Form, Deliver, Join, Settle, Lookup, Crash}
use Rattle.runs.specs.Guarantee.{entry_of}
use Rattle.runs.specs.History.{Event, confirmed, handed, history, looked_up, lost, opened}

-- card 7 is withdrawn at doors 0 and 3; of it at door 3 is asked
abbrev pub withdrawn : CardChange
withdrawn = record { card = 7; doors = 9; given = false }

abbrev pub asked : Question
asked = record { first = 7; second = 3 }

-- memory for three books of two entries and eight messages, and a tray with four writes left in each cell
abbrev blank : Entry CardChange
blank = record { view = view_of 0 0; change = withdrawn }

abbrev nothing : Message CardChange
nothing = record { sender = controller_of 0; addressee = controller_of 0; view = view_of 0 0; body = Invitation }

abbrev pub memory : State CardChange
memory = state no_site (replicate 7 (fresh 4)) (replicate 6 blank) (replicate 8 nothing)

abbrev pub history_of : List (Step CardChange) → List (Event CardChange)
history_of steps = history card_says Red (make_step memory 3 2).state steps

-- A confirmed change, and a later view.
-- 0 takes the change, passes it to 1, and it is confirmed. 1 calls the view (1, 1), invites 2, and forms it; 1 itself, whose book is longer, opens it, and is asked about the card.
abbrev pub confirmed_steps : List (Step CardChange)
confirmed_steps =
    Change (controller_of 0) withdrawn ∷ Pass (controller_of 0) (controller_of 1) (place_of 1) ∷ Deliver 0 ∷ Deliver 1 ∷ Settle (controller_of 0) (stamp_of 0 0 1)
    ∷ Call (controller_of 1) ∷ Invite (controller_of 1) (controller_of 2) ∷ Deliver 2 ∷ Deliver 3 ∷ Form (controller_of 1) ∷ Deliver 4
    ∷ Lookup (controller_of 1) asked ∷ []

-- the latest first
abbrev pub ConfirmedRun : Type 0
ConfirmedRun = history_of confirmed_steps ≡
    looked_up (view_of 1 1) (entry_of (stamp_of 0 0 1) withdrawn ∷ []) asked Red
    ∷ opened (view_of 1 1) (entry_of (stamp_of 0 0 1) withdrawn ∷ [])
    ∷ confirmed (stamp_of 0 0 1) (view_of 0 0) []
    ∷ handed (stamp_of 0 0 1) withdrawn
    ∷ opened (view_of 0 0) [] ∷ []

-- A change that is lost.
-- 0 takes the change and its power fails before it passes it on. 1 forms the view (1, 1) with 2 and opens it with an empty book; 2 joins, and the slip is lost.
abbrev pub lost_steps : List (Step CardChange)
lost_steps =
    Change (controller_of 0) withdrawn ∷ Crash (controller_of 0)
    ∷ Call (controller_of 1) ∷ Invite (controller_of 1) (controller_of 2) ∷ Deliver 0 ∷ Deliver 1 ∷ Form (controller_of 1) ∷ Deliver 2
    ∷ Join (controller_of 2) (controller_of 1) ∷ Deliver 3 ∷ Settle (controller_of 1) (stamp_of 0 0 1) ∷ []

abbrev pub LostRun : Type 0
LostRun = history_of lost_steps ≡
    lost (stamp_of 0 0 1) ∷ opened (view_of 1 1) [] ∷ handed (stamp_of 0 0 1) withdrawn ∷ opened (view_of 0 0) [] ∷ []

-- A late confirmation.
-- 0 takes two changes and passes both to 1. 1 forms the view (1, 1) with 2, opens it and answers from it, before 0, which is still active in (0, 0), counts what 1 acknowledged and says confirmed. A change at 2 is refused, and tells nothing. 2 joins, and 1 confirms the slip in (1, 1) too.
abbrev pub given : CardChange
given = record { card = 7; doors = 9; given = true }

abbrev pub late_steps : List (Step CardChange)
late_steps =
    Change (controller_of 0) withdrawn ∷ Change (controller_of 0) given
    ∷ Pass (controller_of 0) (controller_of 1) (place_of 1) ∷ Deliver 0 ∷ Pass (controller_of 0) (controller_of 1) (place_of 2) ∷ Deliver 2
    ∷ Call (controller_of 1) ∷ Invite (controller_of 1) (controller_of 2) ∷ Deliver 4 ∷ Deliver 5 ∷ Form (controller_of 1) ∷ Deliver 6
    ∷ Lookup (controller_of 1) asked ∷ Change (controller_of 2) withdrawn
    ∷ Deliver 3 ∷ Settle (controller_of 0) (stamp_of 0 0 2)
    ∷ Join (controller_of 2) (controller_of 1) ∷ Deliver 7 ∷ Settle (controller_of 1) (stamp_of 0 0 2) ∷ []

abbrev both_entries : List (Entry CardChange)
both_entries = entry_of (stamp_of 0 0 1) withdrawn ∷ entry_of (stamp_of 0 0 2) given ∷ []

abbrev pub LateRun : Type 0
LateRun = history_of late_steps ≡
    confirmed (stamp_of 0 0 2) (view_of 1 1) (entry_of (stamp_of 0 0 1) withdrawn ∷ [])
    ∷ confirmed (stamp_of 0 0 2) (view_of 0 0) (entry_of (stamp_of 0 0 1) withdrawn ∷ [])
    ∷ looked_up (view_of 1 1) both_entries asked Green
    ∷ opened (view_of 1 1) both_entries
    ∷ handed (stamp_of 0 0 2) given ∷ handed (stamp_of 0 0 1) withdrawn ∷ opened (view_of 0 0) [] ∷ []

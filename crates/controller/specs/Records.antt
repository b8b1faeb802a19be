-- A controller's record, and what can be read off it.
use Rattle.std.specs.Prelude.{ℕ, Bool, true, false, cond, List, [], replicate, Some, None, Option, ◌==◌, slice_set}
use Rattle.numbers.specs.declared.views.ControllerNumber.{ControllerNumber}
use Rattle.numbers.specs.Rows.{zero_row}
use Rattle.numbers.specs.Views.{controller_of}
use Rattle.entries.specs.declared.messages.Reply.{Reply}
use Rattle.entries.specs.declared.messages.Reply.TheVariants.{Normal, Crash}
use Rattle.controller.specs.declared.records.Controller.{Controller}
use Rattle.controller.specs.declared.records.Status.{Status}
use Rattle.controller.specs.declared.records.Status.TheVariants.{Down, Waiting, Manager, Backup, Primary}

-- a table of seven with nothing in it but x at i
abbrev pub only : {A : Type 0} → ControllerNumber → A → List (Option A)
only i x = slice_set (replicate 7 None) i.number (Some x)

-- down: it remembers nothing
abbrev pub down_record : Controller
down_record = record { status = Down; views = zero_row; complete = false; length = 0; primary = controller_of 0 }

-- at the start: active in view (0, 0) under controller 0, with an empty book
abbrev pub first_status : Bool → Status
first_status true = Primary (only (controller_of 0) 0)
first_status false = Backup

abbrev pub first_record : ControllerNumber → Controller
first_record i = record { status = first_status (i.number == 0); views = zero_row; complete = true; length = 0; primary = controller_of 0 }

abbrev pub up : Status → Bool
up Down = false
up s = true

abbrev pub waiting : Status → Bool
waiting Waiting = true
waiting s = false

abbrev pub managing : Status → Bool
managing (Manager a) = true
managing s = false

abbrev pub active : Status → Bool
active Backup = true
active (Primary l) = true
active s = false

abbrev pub leading : Status → Bool
leading (Primary l) = true
leading s = false

-- the answers that a manager counts; [] of any other status
abbrev pub answers_of : Status → List (Option Reply)
answers_of (Manager a) = a
answers_of s = []

-- the lengths that each controller has acknowledged to a primary; [] of any other status
abbrev pub lengths_of : Status → List (Option ℕ)
lengths_of (Primary l) = l
lengths_of s = []

abbrev pub is_up : Controller → Bool
is_up r = up r.status

abbrev pub is_waiting : Controller → Bool
is_waiting r = waiting r.status

abbrev pub is_manager : Controller → Bool
is_manager r = managing r.status

abbrev pub is_active : Controller → Bool
is_active r = active r.status

abbrev pub is_primary : Controller → Bool
is_primary r = leading r.status

-- what controller i says of itself to a call: a normal answer if its book is complete, else a crash answer
abbrev pub reply_of : ControllerNumber → Controller → Reply
reply_of i r = cond r.complete (Normal r.views.current r.length (r.primary.number == i.number)) (Crash r.views.current)

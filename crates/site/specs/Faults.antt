-- What a fault of the site says, from the controller's fault.
use Rattle.std.specs.Prelude.{ℕ, Ok, Err, Result}
use Rattle.numbers.specs.declared.refusals.Refusal.{Refusal}
use Rattle.numbers.specs.declared.refusals.Refusal.TheVariants.{CellWorn}
use Rattle.controller.specs.declared.faults.Fault.{Fault as Stopped}
use Rattle.controller.specs.declared.faults.Fault.TheVariants.{Worn, Refused}
use Rattle.site.specs.declared.faults.Fault.{Fault}
use Rattle.site.specs.declared.faults.Named.{Named}
use Rattle.site.specs.declared.faults.Named.TheVariants.{Cell, Message, Controller}

-- a worn cell is 15, and names cell and controller; else the acting controller is named
abbrev pub site_fault : Stopped → Fault
site_fault (Worn c k) = record { refusal = CellWorn; named = Cell c k }
site_fault (Refused q k) = record { refusal = q; named = Controller k }

-- at a delivery the message is named in place of the acting controller
abbrev pub in_place : ℕ → Named → Named
in_place j (Controller k) = Message j
in_place j x = x

abbrev pub about_message : ℕ → Fault → Fault
about_message j f = record f { named = in_place j f.named }

abbrev pub about : {A : Type 0} → ℕ → Result A Fault → Result A Fault
about j (Ok x) = Ok x
about j (Err f) = Err (about_message j f)

-- a result without what its fault names
abbrev pub refusal_alone : {A : Type 0} → Result A Fault → Result A Refusal
refusal_alone (Ok x) = Ok x
refusal_alone (Err f) = Err f.refusal

-- A slip and its stamp.
use Rattle.numbers.specs.declared.views.Stamp.{Stamp}
use Rattle.controller.specs.declared.slips.Slip.{Slip}

abbrev pub slip_of : Stamp → Slip
slip_of s = record { stamp = s }

abbrev pub stamp_on : Slip → Stamp
stamp_on s = s.stamp

-- Which numbers are controllers of a site.
use Rattle.std.specs.Prelude.{ℕ, Bool, ◌&&◌, nat_le, nat_lt}
use Rattle.numbers.specs.declared.views.ControllerNumber.{ControllerNumber}

abbrev pub is_member : ℕ → ControllerNumber → Bool
is_member n i = nat_lt i.number n && nat_le n 7

-- Numbers and views: their ranges, and when a view is earlier than another.
use Rattle.std.specs.Prelude.{ℕ, Bool, ◌&&◌, ◌||◌, ◌==◌, nat_le, nat_lt}
use Rattle.numbers.specs.declared.views.ControllerNumber.{ControllerNumber}
use Rattle.numbers.specs.declared.views.Place.{Place}
use Rattle.numbers.specs.declared.views.Stamp.{Stamp}
use Rattle.numbers.specs.declared.views.View.{View}
use Rattle.numbers.specs.declared.views.ViewCount.{ViewCount}

abbrev pub place_of : ℕ → Place
place_of n = record { number = n }

abbrev pub count_of : ℕ → ViewCount
count_of n = record { number = n }

abbrev pub controller_of : ℕ → ControllerNumber
controller_of n = record { number = n }

-- the view (c, k)
abbrev pub view_of : ℕ → ℕ → View
view_of c k = record { count = count_of c; controller = controller_of k }

abbrev pub stamp_of : ℕ → ℕ → ℕ → Stamp
stamp_of c k p = record { view = view_of c k; place = place_of p }

-- the ranges

abbrev pub place_ok : Place → Bool
place_ok p = nat_le 1 p.number && nat_le p.number 65535

abbrev pub count_ok : ViewCount → Bool
count_ok c = nat_le c.number 16383

abbrev pub controller_ok : ControllerNumber → Bool
controller_ok k = nat_le k.number 6

abbrev pub view_ok : View → Bool
view_ok v = count_ok v.count && controller_ok v.controller

abbrev pub stamp_ok : Stamp → Bool
stamp_ok s = view_ok s.view && place_ok s.place

-- the count is smaller, or the counts are equal and the controller is smaller
abbrev pub earlier : View → View → Bool
earlier v w = nat_lt v.count.number w.count.number || (v.count.number == w.count.number && nat_lt v.controller.number w.controller.number)

abbrev pub same_view : View → View → Bool
same_view v w = v.count.number == w.count.number && v.controller.number == w.controller.number

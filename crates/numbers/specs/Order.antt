-- The order of views, and of stamps.
use Rattle.std.specs.Prelude.{◌≡◌, Bool, true, false, ◌&&◌, ◌||◌, ◌⊎◌, ◌==◌, nat_lt}
use Rattle.std.specs.Ordering.{is_eq, is_lt}
use Rattle.std.specs.declared.cmp.Ordering.{Ordering}
use Rattle.numbers.specs.declared.views.Stamp.{Stamp}
use Rattle.numbers.specs.declared.views.View.{View}
use Rattle.numbers.specs.Views.{earlier, same_view}

-- the order is total, and `same_view` is equality
abbrev pub TotalOrder : Type 0
TotalOrder =
    ((v : View) → earlier v v ≡ false)
    × ((u v w : View) → earlier u v ≡ true → earlier v w ≡ true → earlier u w ≡ true)
    × ((v w : View) → (earlier v w ≡ true) ⊎ ((v ≡ w) ⊎ (earlier w v ≡ true)))
    × ((v w : View) → (same_view v w ≡ true → v ≡ w) × (v ≡ w → same_view v w ≡ true))

-- the view is earlier, or the views are one and the place is smaller
abbrev pub earlier_stamp : Stamp → Stamp → Bool
earlier_stamp s t = earlier s.view t.view || (same_view s.view t.view && nat_lt s.place.number t.place.number)

abbrev pub same_stamp : Stamp → Stamp → Bool
same_stamp s t = same_view s.view t.view && s.place.number == t.place.number

-- a comparison of stamps puts one before another exactly where it is the earlier one, and calls two equal exactly where they are one
abbrev pub OrdersStamps : (Stamp → Stamp → Ordering) → Type 0
OrdersStamps compare = (s t : Stamp) → (is_lt (compare s t) ≡ earlier_stamp s t) × (is_eq (compare s t) ≡ same_stamp s t)

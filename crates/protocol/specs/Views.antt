-- A view as one number, 8 * count + caller: views are ordered as their numbers are.
use Rattle.std.specs.Prelude.{ℕ, ◌+◌, ◌*◌, ◌/◌, ◌%◌}

-- the view that controller i calls with the count a
abbrev pub view_number : ℕ → ℕ → ℕ
view_number a i = a * 8 + i

abbrev pub count_of : ℕ → ℕ
count_of v = v / 8

-- the controller that calls the view
abbrev pub caller_of : ℕ → ℕ
caller_of v = v % 8

use Rattle.std.proofs.Common.{◌≡◌, ◌+◌, ◌≤◌, Bool, drop}
use Rattle.std.specs.Fn.{FnReturnsAt}
use Rattle.numbers.specs.Counting.{Computes, count}
use Rattle.numbers.proofs.counting.count.Given as goal

-- the count so far and that of the rest are the whole count
abbrev pub invariant-loop-x : goal.invariant-loop-x
invariant-loop-x g l = (l.n ≤ l.x-index) × ((passes : g.row.A.Denot → Bool) → Computes (FnReturnsAt g.F.Fn l.test) passes → l.n + count passes (drop l.x-index l.xs) ≡ count passes l.xs)

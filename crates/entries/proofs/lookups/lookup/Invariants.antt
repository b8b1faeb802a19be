use Rattle.std.proofs.Common.{◌≡◌, length}
use Rattle.entries.specs.Lookups.{or_else, settled}
use Rattle.entries.proofs.lookups.lookup.Given as goal

-- the last entry and what is left before it settle the question as the whole book does
abbrev pub invariant-loop-answer : goal.invariant-loop-answer
invariant-loop-answer g l = or_else (g.E.Kind.says l.last.change l.question) (settled g.E.Kind.says l.rest l.question) ≡ settled g.E.Kind.says l.book l.question

abbrev pub decreases-loop-answer : goal.decreases-loop-answer
decreases-loop-answer g l = length l.rest

use Rattle.site.specs.States.{state}
use Rattle.runs.proofs.Leading.{Leads}
use Rattle.runs.proofs.playing.resume.Given as goal

abbrev pub invariant-loop-turn : goal.invariant-loop-turn
invariant-loop-turn g l =
    Leads g.E.Kind.says g.E.Kind.UNSETTLED
    (state l.initial.site (g.C.Cabinet.cells l.initial.cab).list l.initial.books l.initial.pool) l.initial.turns
    (state l.site (g.C.Cabinet.cells l.cab).list l.books l.pool) l.turns l.turn-index

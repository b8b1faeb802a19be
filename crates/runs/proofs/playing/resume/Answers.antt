use Rattle.std.proofs.Common.{arith}
use Rattle.site.specs.States.{state}
use Rattle.runs.specs.Runs.{steps_of}
use Rattle.runs.proofs.Guaranteed.{goes_on, stays_in_order}
use Rattle.runs.proofs.Leading.{leads_end, leads_on}
use Rattle.runs.proofs.playing.resume.Goals as goal

pub loop-turn-preserved : goal.loop-turn-preserved
loop-turn-preserved g c = leads_on g.E.Kind.says g.E.Kind.UNSETTLED _ _ _ c.loop-turn.turns c.loop-turn.turn-index c.loop-turn.invariant c.turn-item.result c.play.result _ (omega arith) c.play.ensures

pub returns : goal.returns
returns g c =
    let here = state c.args.site.now (g.C.Cabinet.cells c.args.cab.now).list c.args.books.now c.args.pool.now in
    let there = state c.loop-turn.site (g.C.Cabinet.cells c.loop-turn.cab).list c.loop-turn.books c.loop-turn.pool in
    let end = leads_end g.E.Kind.says g.E.Kind.UNSETTLED here c.args.turns.now there c.loop-turn.turns c.loop-turn.turn-index c.loop-turn.invariant (omega arith) in
    record {
      state = end.0;
      turns = end.1;
      records = λ s n cap. stays_in_order g.E.Kind.says g.E.Kind.UNSETTLED s n cap here there (steps_of c.args.turns.now) end.0;
      guarantee = λ s n cap. goes_on g.E.Kind.says g.E.Kind.UNSETTLED s n cap here there (steps_of c.args.turns.now) end.0;
    }

use Rattle.std.proofs.Common.{rules}
use Rattle.site.specs.States.{has_room, state}
use Rattle.site.proofs.Settling.{settled_at}
use Rattle.site.proofs.records.Site.settle.Goals as goal

pub returns : goal.returns
returns g c cs =
    let room = has_room (state c.args.self.now cs c.args.books.now c.args.pool.now) in
    settled_at c.args.self.now cs c.args.books.now c.args.pool.now _ _ _ _ _ c.args.slip c.in-Ok.ensures
    (record { who = c.in-Ok.ensures.number; row = c.index.ensures.value; from = c.part.ensures.start; to = c.part.ensures.end }) c.in-Ok.ensures.size
    (c.settle.ensures room cs) c.map_err.ensures.cases (λ e p. search rules)

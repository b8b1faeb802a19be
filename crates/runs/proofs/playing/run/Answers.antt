use Rattle.std.proofs.Common.{◌≡◌, [], Ok, ap}
use Rattle.site.specs.Making.{make_step}
use Rattle.site.specs.States.{state}
use Rattle.runs.specs.Runs.{steps_of}
use Rattle.runs.proofs.Guaranteed.{guaranteed}
use Rattle.runs.proofs.playing.run.Goals as goal

pub returns-clause-guarantee : goal.returns-clause-guarantee
returns-clause-guarantee g c _ =
    let s = state c.args.site.now (g.C.Cabinet.cells c.args.cab.now).list c.args.books.now c.args.pool.now in
    let taken : (make_step s c.args.n c.args.cap).result ≡ Ok tt = ap (λ d. d.result) c.in_ok-make.ensures in
    guaranteed g.E.Kind.says g.E.Kind.UNSETTLED s c.args.n c.args.cap (g.C.Cabinet.cells c.args.cab.now).seven tt taken (steps_of c.args.turns.now)

pub returns-clause-records : goal.returns-clause-records
returns-clause-records g c _ =
    let s = state c.args.site.now (g.C.Cabinet.cells c.args.cab.now).list c.args.books.now c.args.pool.now in
    let taken : (make_step s c.args.n c.args.cap).result ≡ Ok tt = ap (λ d. d.result) c.in_ok-make.ensures in
    c.resume.ensures.records s c.args.n c.args.cap (g.C.Cabinet.cells c.args.cab.now).seven taken [] (ap (λ d. d.state) c.in_ok-make.ensures)

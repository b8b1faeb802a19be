use Rattle.std.proofs.Common.{Ok, ap, ◌∙◌, sym}
use Rattle.std.proofs.lemmas.Result.{err_from_is_err_and}
use Rattle.controller.specs.declared.outcomes.Outcome.TheVariants.{Settled}
use Rattle.site.specs.States.{done, state}
use Rattle.runs.proofs.Settled.{settle_not_up, settle_up}
use Rattle.runs.proofs.playing.settle.Goals as goal

pub returns-in_err-slip : goal.returns-in_err-slip
returns-in_err-slip g c cs =
    let p = err_from_is_err_and c.from_residual.result c.from_residual.ensures.1 in
    rw (p.1, p.2) (settle_not_up (state c.args.site.now cs c.args.books.now c.args.pool.now) c.args.i c.args.stamp c.in_err-slip.field-0.0 c.in_err-slip.ensures)

pub returns-in-Ok : goal.returns-in-Ok
returns-in-Ok g c cs =
    let s = state c.args.site.now cs c.args.books.now c.args.pool.now in
    settle_up s c.args.i c.args.stamp c.in_ok-slip.slip _ c.in_ok-slip.ensures (c.in-Ok.ensures cs) ∙ ap (λ v. done (Ok (Settled v)) s) (sym c.verdict.ensures)

pub returns-in-Err : goal.returns-in-Err
returns-in-Err g c cs =
    settle_up (state c.args.site.now cs c.args.books.now c.args.pool.now) c.args.i c.args.stamp c.in_ok-slip.slip _ c.in_ok-slip.ensures (c.in-Err.ensures cs)

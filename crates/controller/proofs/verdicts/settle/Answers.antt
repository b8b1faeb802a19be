use Rattle.std.proofs.Common.{Ok, sym, ap, ◌∙◌}
use Rattle.numbers.specs.declared.views.Stamp.{Stamp}
use Rattle.controller.specs.Actions.{effect, own}
use Rattle.controller.specs.Verdicts.{settle, settled_by}
use Rattle.controller.proofs.verdicts.settle.Goals as goal

pub returns-in-Ok : goal.returns-in-Ok
returns-in-Ok g c room cs =
    let slip = c.args.slip in
    ap (λ (t : Stamp). settled_by slip (effect c.args.me.number room (own c.args.row.now c.args.book.now cs) (settle c.args.me.n t)).result) (sym c.stamp.ensures)
    ∙ ap (λ z. settled_by slip z.result) (c.in-Ok.ensures room cs)
    ∙ ap (λ s. Ok s) (sym c.spend.ensures)

pub returns-in-Err : goal.returns-in-Err
returns-in-Err g c room cs =
    let slip = c.args.slip in
    ap (λ (t : Stamp). settled_by slip (effect c.args.me.number room (own c.args.row.now c.args.book.now cs) (settle c.args.me.n t)).result) (sym c.stamp.ensures)
    ∙ ap (λ z. settled_by slip z.result) (c.in-Err.ensures room cs)

use Rattle.std.proofs.Common.{ap, ◌∙◌, rules, arith}
use Rattle.cabinet.specs.Cells.{put_cells}
use Rattle.cabinet.specs.Trays.{tray_cells}
use Rattle.cabinet.proofs.Rows.{kept_set, cells_put}
use Rattle.cabinet.proofs.tray.TrayCabinet.put.Goals as goal

pub invariant_of-self-clause-kept : goal.invariant_of-self-clause-kept
invariant_of-self-clause-kept c = kept_set c.args.self.now.rows c.args.cell _ c.args.self.now.kept (search rules)

pub returns-clause-after : goal.returns-clause-after
returns-clause-after c =
    let t = c.args.self.now in
    let put = cells_put t.rows t.left c.args.cell c.row.result c.left-left.result t.seven.0 t.seven.1 c.left-left.ensures (λ z. omega (arith, c.if-left-eq0.false)) in
    put ∙ ap (put_cells (tray_cells t) c.args.cell) c.row.ensures.value

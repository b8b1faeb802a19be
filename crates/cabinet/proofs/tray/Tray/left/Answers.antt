use Rattle.std.proofs.Common.{◌≡◌, get_or, sym, ap, ◌∙◌, arith}
use Rattle.std.proofs.lemmas.Grind.{common_steps}
use Rattle.cabinet.specs.Cells.{Cell}
use Rattle.cabinet.proofs.Rows.{cell_of}
use Rattle.cabinet.proofs.tray.Tray.left.Goals as goal

pub returns : goal.returns
returns c =
    let t = c.args.self.now in
    let read : c.unwrap_or.result ≡ get_or t.left c.args.cell 0 = grind (arith, common_steps) in
    read ∙ sym (ap (λ (x : Cell). x.left) (cell_of t.rows t.left c.args.cell t.seven.0 t.seven.1))

use Rattle.std.proofs.Common.{◌≡◌, get_or, sym, ap, ◌∙◌, arith}
use Rattle.std.proofs.lemmas.Grind.{common_steps}
use Rattle.numbers.specs.Records.{row_of}
use Rattle.numbers.specs.Rows.{zero_row}
use Rattle.cabinet.specs.Cells.{Cell}
use Rattle.cabinet.proofs.Rows.{cell_of}
use Rattle.cabinet.proofs.tray.TrayCabinet.held.Goals as goal

pub unwrap-requires : goal.unwrap-requires
unwrap-requires c = let kept = c.args.self.now.kept c.args.cell in grind (arith, common_steps)

pub returns : goal.returns
returns c =
    let t = c.args.self.now in
    let read : row_of c.unwrap.result ≡ get_or t.rows c.args.cell zero_row = grind (arith, common_steps) in
    read ∙ sym (ap (λ (x : Cell). x.row) (cell_of t.rows t.left c.args.cell t.seven.0 t.seven.1))

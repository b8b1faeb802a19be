use Rattle.std.proofs.Common.{sym, ap, ◌∙◌}
use Rattle.cabinet.specs.Slots.{part_cell}
use Rattle.cabinet.proofs.Strips.{cell_sound}
use Rattle.cabinet.proofs.strip.Strip.part.Goals as goal

pub returns-clause-cell : goal.returns-clause-cell
returns-clause-cell c =
    let s = c.args.self.now in
    cell_sound s.sound s.bytes.now c.args.cell c.if-not-self.false c.if-cell-ge7.false ∙ ap part_cell (sym c.part_of.ensures)

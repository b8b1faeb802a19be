use Rattle.std.proofs.Common.{Some, sym, ap, ◌∙◌, arith}
use Rattle.std.proofs.lemmas.Bool.{cond-false}
use Rattle.cabinet.specs.Cells.{cell_at}
use Rattle.cabinet.specs.Strips.{cells_in}
use Rattle.cabinet.proofs.Cuts.{slice_next, slice_within}
use Rattle.cabinet.proofs.Strips.{not_worn}
use Rattle.cabinet.proofs.strip.Strip.first_empty.Goals as goal

pub returns-clause-place : goal.returns-clause-place
returns-clause-place c =
    let s = c.args.self.now in
    let p = c.in_ok-part.part.now in
    let mine = c.in_ok-part.ensures in
    let place = slice_next s.bytes.now p c.args.cell mine.place.2 mine.place.1 c.filled-n.result c.filled-n.ensures.value in
    ap Some place ∙ sym (cond-false _ _ _ (not_worn (cell_at (cells_in s) c.args.cell) p mine.cell (omega arith)))

pub returns-clause-room : goal.returns-clause-room
returns-clause-room c =
    let mine = c.in_ok-part.ensures in
    let within = slice_within c.args.self.now.bytes.now c.in_ok-part.part.now c.args.cell mine.place.2 mine.place.1 in
    omega arith

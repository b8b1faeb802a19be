use Rattle.std.proofs.Common.{rules}
use Rattle.controller.proofs.deliveries.take.Goals as goal

pub returns-in-Manager-Answer : goal.returns-in-Manager-Answer
returns-in-Manager-Answer g c = let e = c.take_answer.ensures c.args.room c.args.book.now (g.C.Cabinet.cells c.args.cab.now).list in search rules

pub returns-in-Waiting-Form : goal.returns-in-Waiting-Form
returns-in-Waiting-Form g c = let e = c.take_form.ensures c.args.room c.args.book.now in search rules

pub returns-in-Primary-Acknowledgement : goal.returns-in-Primary-Acknowledgement
returns-in-Primary-Acknowledgement g c = let e = c.take_acknowledgement.ensures c.args.room c.args.book.now (g.C.Cabinet.cells c.args.cab.now).list in search rules

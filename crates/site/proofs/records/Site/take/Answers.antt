use Rattle.std.proofs.Common.{refl, rules}
use Rattle.controller.specs.Deliveries.{deliver}
use Rattle.site.proofs.Placing.{part_acts}
use Rattle.site.proofs.records.Site.take.Goals as goal

pub returns-in_err-reply-clause-taken : goal.returns-in_err-reply-clause-taken
returns-in_err-reply-clause-taken g c pool fits =
    let e = part_acts c.args.self.now (g.C.Cabinet.cells c.args.cab.now).list c.args.books.now pool c.args.me.number c.args.me.number _ _ (deliver c.args.me.n c.args.message) _ _ fits _ _ (record { who = refl; row = c.index.ensures.value; from = c.part-part.ensures.start; to = c.part-part.ensures.end }) _ _ _ c.in_err-reply.ensures in
    search rules

pub returns-clause-taken : goal.returns-clause-taken
returns-clause-taken g c pool fits = part_acts c.args.self.now (g.C.Cabinet.cells c.args.cab.now).list c.args.books.now pool c.args.me.number c.args.me.number _ _ (deliver c.args.me.n c.args.message) _ _ fits _ _ (record { who = refl; row = c.index.ensures.value; from = c.part-part.ensures.start; to = c.part-part.ensures.end }) _ _ _ c.in_ok-reply.ensures

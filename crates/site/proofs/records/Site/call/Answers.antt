use Rattle.std.proofs.Common.{refl, ◌∙◌, rules}
use Rattle.controller.specs.ViewChanges.{call}
use Rattle.site.specs.States.{has_room, state}
use Rattle.site.proofs.Placing.{at_go, row_acts}
use Rattle.site.proofs.records.Site.call.Goals as goal

pub returns : goal.returns
returns g c =
    let room = has_room (state c.args.self.now (g.C.Cabinet.cells c.args.cab.now).list c.args.books.now c.args.pool.now) in
    let e = at_go _ _ call c.in_ok-me.ensures ∙ row_acts _ _ _ _ _ _ _ _ call _ _ refl c.in_ok-me.ensures.number c.index.ensures.value _ _ (c.call.ensures room) in
    search rules

pub returns-in_err-call : goal.returns-in_err-call
returns-in_err-call g c =
    let room = has_room (state c.args.self.now (g.C.Cabinet.cells c.args.cab.now).list c.args.books.now c.args.pool.now) in
    let e = at_go _ _ call c.in_ok-me.ensures ∙ row_acts _ _ _ _ _ _ _ _ call _ _ refl c.in_ok-me.ensures.number c.index.ensures.value _ _ (c.call.ensures room) in
    search rules

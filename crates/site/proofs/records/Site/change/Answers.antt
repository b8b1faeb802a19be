use Rattle.std.proofs.Common.{refl, ◌∙◌, rules}
use Rattle.controller.specs.Primaries.{change}
use Rattle.site.specs.States.{has_room, state}
use Rattle.site.proofs.Placing.{at_go, part_acts}
use Rattle.site.proofs.records.Site.change.Goals as goal

pub returns : goal.returns
returns g c cs =
    let action = change c.args.x in
    let room = has_room (state c.args.self.now cs c.args.books.now c.args.pool.now) in
    let e = at_go _ _ action c.in_ok-me.ensures ∙ part_acts _ _ _ _ _ _ _ _ action _ _ refl _ _ (record { who = c.in_ok-me.ensures.number; row = c.index.ensures.value; from = c.part-part.ensures.start; to = c.part-part.ensures.end }) _ _ _ (c.change.ensures room cs) in
    search rules

pub returns-in_err-slip : goal.returns-in_err-slip
returns-in_err-slip g c cs =
    let action = change c.args.x in
    let room = has_room (state c.args.self.now cs c.args.books.now c.args.pool.now) in
    let e = at_go _ _ action c.in_ok-me.ensures ∙ part_acts _ _ _ _ _ _ _ _ action _ _ refl _ _ (record { who = c.in_ok-me.ensures.number; row = c.index.ensures.value; from = c.part-part.ensures.start; to = c.part-part.ensures.end }) _ _ _ (c.change.ensures room cs) in
    search rules

use Rattle.std.proofs.Common.{refl, ◌∙◌, rules}
use Rattle.controller.specs.Lookups.{lookup}
use Rattle.site.specs.States.{has_room, state}
use Rattle.site.proofs.Placing.{at_go, part_read}
use Rattle.site.proofs.records.Site.lookup.Goals as goal

pub returns : goal.returns
returns g c cs =
    let action = lookup g.E.Kind.says g.E.Kind.UNSETTLED c.args.question in
    let room = has_room (state c.args.self.now cs c.args.books.now c.args.pool.now) in
    let e = at_go _ _ action c.in_ok-me.ensures ∙ part_read _ _ _ _ _ _ _ _ action _ _ refl _ _ (record { who = c.in_ok-me.ensures.number; row = c.index.ensures.value; from = c.part.ensures.start; to = c.part.ensures.end }) (c.lookup.ensures room cs) in
    search rules

pub returns-in_err-answer : goal.returns-in_err-answer
returns-in_err-answer g c cs =
    let action = lookup g.E.Kind.says g.E.Kind.UNSETTLED c.args.question in
    let room = has_room (state c.args.self.now cs c.args.books.now c.args.pool.now) in
    let e = at_go _ _ action c.in_ok-me.ensures ∙ part_read _ _ _ _ _ _ _ _ action _ _ refl _ _ (record { who = c.in_ok-me.ensures.number; row = c.index.ensures.value; from = c.part.ensures.start; to = c.part.ensures.end }) (c.lookup.ensures room cs) in
    search rules

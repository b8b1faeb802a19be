use Rattle.std.proofs.Common.{refl, ◌∙◌, rules}
use Rattle.controller.specs.Power.{crash}
use Rattle.site.specs.States.{has_room, state}
use Rattle.site.proofs.Placing.{at_go, row_acts}
use Rattle.site.proofs.records.Site.crash.Goals as goal

pub returns : goal.returns
returns g c cs =
    let room = has_room (state c.args.self.now cs c.args.books.now c.args.pool.now) in
    let e = at_go _ _ crash c.in_ok-me.ensures ∙ row_acts _ _ _ _ _ _ _ _ crash _ _ refl c.in_ok-me.ensures.number c.index.ensures.value _ _ (λ b. c.crash.ensures room b cs) in
    search rules

pub returns-in_err-crash : goal.returns-in_err-crash
returns-in_err-crash g c cs =
    let room = has_room (state c.args.self.now cs c.args.books.now c.args.pool.now) in
    let e = at_go _ _ crash c.in_ok-me.ensures ∙ row_acts _ _ _ _ _ _ _ _ crash _ _ refl c.in_ok-me.ensures.number c.index.ensures.value _ _ (λ b. c.crash.ensures room b cs) in
    search rules

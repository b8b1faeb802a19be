use Rattle.std.proofs.Common.{◌<◌, length, Some, Ok, ltb-true, sym, ap, ◌∙◌, arith, rules}
use Rattle.std.proofs.lemmas.Result.{err_from_is_err_and}
use Rattle.site.specs.States.{state}
use Rattle.site.specs.Steps.{replied}
use Rattle.site.proofs.Delivering.{delivered, taken_as}
use Rattle.site.proofs.records.Site.deliver.Goals as goal
use Rattle.site.proofs.records.Site.deliver.Goals.{in-Some, in_default-reply}

pub returns-in_err-reply : goal.returns-in_err-reply
returns-in_err-reply g c =
    let cs = (g.C.Cabinet.cells c.args.cab.now).list in
    let s = state c.args.self.now cs c.args.books.now c.args.pool.now in
    let d = delivered s c.args.j c.index-pool-j.result _ c.take-taken.result c.map_err.result c.in_ok-in_pool.ensures c.index-pool-j.is c.in-Ok.ensures
    (c.take-taken.ensures.taken c.args.pool.now c.has_room-room.ensures) c.map_err.ensures.cases (λ f p. search rules) in
    let e = d ∙ ap (replied _ c.index-pool-j.result) c.in_err-reply.was in
    let end = err_from_is_err_and c.from_residual-in_err-reply.result c.from_residual-in_err-reply.ensures.1 in
    search rules

pub send-requires : goal.send-requires
send-requires g c =
    let cs = (g.C.Cabinet.cells c.args.cab.now).list in
    let s = state c.args.self.now cs c.args.books.now c.args.pool.now in
    let sent = taken_as s c.args.j c.index-pool-j.result c.take-taken.result c.map_err.result c.map_err.ensures.cases (λ f p. search rules) (Some c.in-Some.reply) (c.in_ok-reply.was ∙ ap (λ z. Ok z) c.in-Some.is) in
    let had = ltb-true c.args.self.now.count (length c.args.pool.now) (sym c.has_room-room.ensures ∙ c.take-taken.ensures.sent c.in-Some.reply sent) in
    let less : c.take-taken.new.self.count < length c.args.pool.now = omega (arith, had, c.take-taken.ensures.count) in
    (less, omega (arith, less, c.in_ok-in_pool.ensures.few))

pub returns : goal.returns
returns g c =
    let cs = (g.C.Cabinet.cells c.args.cab.now).list in
    let s = state c.args.self.now cs c.args.books.now c.args.pool.now in
    let d = delivered s c.args.j c.index-pool-j.result _ c.take-taken.result c.map_err.result c.in_ok-in_pool.ensures c.index-pool-j.is c.in-Ok.ensures
    (c.take-taken.ensures.taken c.args.pool.now c.has_room-room.ensures) c.map_err.ensures.cases (λ f p. search rules) in
    elim c.match-reply.branch [
      | in-Some w ↦ let e = d ∙ ap (replied _ c.index-pool-j.result) (c.in_ok-reply.was ∙ ap (λ z. Ok z) w.in-Some.is) in search rules
      | in_default-reply w ↦ let e = d ∙ ap (replied _ c.index-pool-j.result) (c.in_ok-reply.was ∙ ap (λ z. Ok z) w.in_default-reply.is) in search rules
    ]

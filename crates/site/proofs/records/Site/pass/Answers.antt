use Rattle.std.proofs.Common.{[], get_or, take, drop, ◌-◌, refl, sym, ap, ◌∙◌, arith, rules}
use Rattle.controller.specs.Actions.{effect, own}
use Rattle.controller.specs.Primaries.{pass}
use Rattle.controller.specs.Records.{down_record}
use Rattle.site.specs.States.{state}
use Rattle.site.proofs.Placing.{between_go, part_read, part_room}
use Rattle.site.proofs.records.Site.pass.Goals as goal

pub send-requires : goal.send-requires
send-requires g c =
    let o = own (get_or c.args.self.now.rows c.index.result down_record) (take (c.part.result.end - c.part.result.start) (drop c.part.result.start c.args.books.now)) [] in
    let to_is = sym (c.number.ensures ∙ c.in_ok-me.ensures.second.number) in
    let told = ap (λ z. effect c.in_ok-me.me.number c.has_room-room.result o (pass z c.args.place)) to_is ∙ c.in_ok-message.ensures [] in
    let less = part_room c.args.self.now [] c.args.books.now c.args.pool.now _ _ _ _ (pass c.args.to c.args.place) _ _ c.has_room-room.ensures _ _ (record { who = c.in_ok-me.ensures.first.number; row = c.index.ensures.value; from = c.part.ensures.start; to = c.part.ensures.end }) told refl in
    (less, omega (arith, less, c.in_ok-me.ensures.first.few))

pub returns : goal.returns
returns g c cs =
    let o = own (get_or c.args.self.now.rows c.index.result down_record) (take (c.part.result.end - c.part.result.start) (drop c.part.result.start c.args.books.now)) cs in
    let to_is = sym (c.number.ensures ∙ c.in_ok-me.ensures.second.number) in
    let told = ap (λ z. effect c.in_ok-me.me.number c.has_room-room.result o (pass z c.args.place)) to_is ∙ c.in_ok-message.ensures cs in
    let e = between_go (state c.args.self.now cs c.args.books.now c.args.pool.now) _ (pass c.args.to c.args.place) c.in_ok-me.ensures ∙ part_read c.args.self.now cs c.args.books.now c.args.pool.now _ _ _ _ (pass c.args.to c.args.place) _ _ c.has_room-room.ensures _ _ (record { who = c.in_ok-me.ensures.first.number; row = c.index.ensures.value; from = c.part.ensures.start; to = c.part.ensures.end }) told in
    search rules

use Rattle.std.proofs.Common.{List, [], get_or, refl, sym, ap, ◌∙◌, arith, rules}
use Rattle.entries.specs.declared.book.Entry.{Entry}
use Rattle.controller.specs.Actions.{effect, own}
use Rattle.controller.specs.ViewChanges.{invite}
use Rattle.controller.specs.Records.{down_record}
use Rattle.site.specs.States.{state}
use Rattle.site.proofs.Placing.{between_go, row_read, row_room}
use Rattle.site.proofs.records.Site.invite.Goals as goal

pub send-requires : goal.send-requires
send-requires g c =
    let to_is = sym (c.number.ensures ∙ c.in_ok-me.ensures.second.number) in
    let told = λ (b : List (Entry g.row.E.Denot)). ap (λ z. effect c.in_ok-me.me.number c.has_room-room.result (own (get_or c.args.self.now.rows c.index.result down_record) b []) (invite z)) to_is ∙ c.in_ok-message.ensures b [] in
    let less = row_room c.args.self.now [] c.args.books.now c.args.pool.now _ _ _ _ (invite c.args.to) _ _ c.has_room-room.ensures c.in_ok-me.ensures.first.number c.index.ensures.value _ _ told refl in
    (less, omega (arith, less, c.in_ok-me.ensures.first.few))

pub returns : goal.returns
returns g c cs =
    let to_is = sym (c.number.ensures ∙ c.in_ok-me.ensures.second.number) in
    let told = λ (b : List (Entry g.row.E.Denot)). ap (λ z. effect c.in_ok-me.me.number c.has_room-room.result (own (get_or c.args.self.now.rows c.index.result down_record) b cs) (invite z)) to_is ∙ c.in_ok-message.ensures b cs in
    let e = between_go (state c.args.self.now cs c.args.books.now c.args.pool.now) _ (invite c.args.to) c.in_ok-me.ensures ∙ row_read _ _ _ _ _ _ _ _ (invite c.args.to) _ _ c.has_room-room.ensures c.in_ok-me.ensures.first.number c.index.ensures.value told in
    search rules

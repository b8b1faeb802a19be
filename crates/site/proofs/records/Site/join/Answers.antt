use Rattle.std.proofs.Common.{Err, refl, ap, ◌∙◌, arith, rules}
use Rattle.std.proofs.lemmas.Result.{err_from_is_err_and}
use Rattle.site.proofs.Copied.{parts_lie_apart}
use Rattle.site.proofs.Joining.{books_copied, join_refused, join_room, joins}
use Rattle.site.proofs.Lent.{lent_to}
use Rattle.site.proofs.records.Site.join.Goals as goal

pub returns-in_err-message : goal.returns-in_err-message
returns-in_err-message g c =
    let m = c.in_ok-me.ensures in
    let mine = lent_to m.first.number c.index-2.ensures.value c.part-mine.ensures.start c.part-mine.ensures.end in
    let theirs = lent_to m.second.number c.index.ensures.value c.part-theirs.ensures.start c.part-theirs.ensures.end in
    let end = err_from_is_err_and c.from_residual-in_err-message.result c.from_residual-in_err-message.ensures.1 in
    join_refused (g.C.Cabinet.cells c.args.cab.now).list c.args.books.now c.args.pool.now c.has_room-room.result m mine theirs c.has_room-room.ensures c.in_err-message.ensures (end.1 ∙ ap (λ z. Err z) end.2)

pub copy_apart-requires-clause-apart : goal.copy_apart-requires-clause-apart
copy_apart-requires-clause-apart g c = parts_lie_apart c.in_ok-me.ensures c.part-mine.ensures.start c.part-theirs.ensures.start (omega (arith, c.used.ensures))

pub send-requires : goal.send-requires
send-requires g c =
    let m = c.in_ok-me.ensures in
    let mine = lent_to m.first.number c.index-2.ensures.value c.part-mine.ensures.start c.part-mine.ensures.end in
    let theirs = lent_to m.second.number c.index.ensures.value c.part-theirs.ensures.start c.part-theirs.ensures.end in
    let less = join_room (g.C.Cabinet.cells c.args.cab.now).list c.args.books.now c.args.pool.now c.has_room-room.result m mine theirs c.has_room-room.ensures c.in_ok-message.ensures refl in
    (less, omega (arith, less, m.first.few))

pub returns : goal.returns
returns g c =
    let m = c.in_ok-me.ensures in
    let mine = lent_to m.first.number c.index-2.ensures.value c.part-mine.ensures.start c.part-mine.ensures.end in
    let theirs = lent_to m.second.number c.index.ensures.value c.part-theirs.ensures.start c.part-theirs.ensures.end in
    let e = joins (g.C.Cabinet.cells c.args.cab.now).list c.args.books.now c.args.pool.now c.has_room-room.result m mine theirs c.has_room-room.ensures c.in_ok-message.ensures in
    let copy = books_copied (g.C.Cabinet.cells c.args.cab.now).list c.args.books.now c.args.pool.now c.has_room-room.result m mine theirs (search rules) c.used.ensures c.copy_apart.ensures in
    search rules

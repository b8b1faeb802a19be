use Rattle.std.proofs.Common.{List, [], Ok, get_or, take, subst, refl, sym, ap, ◌∙◌, arith, rules}
use Rattle.entries.specs.declared.book.Entry.{Entry}
use Rattle.controller.specs.Actions.{effect, own}
use Rattle.controller.specs.Forms.{FormsByRules}
use Rattle.controller.specs.ViewChanges.{form}
use Rattle.controller.specs.Records.{down_record}
use Rattle.site.specs.States.{state}
use Rattle.site.proofs.Placing.{at_go, row_acts, row_room}
use Rattle.site.proofs.records.Site.form.Goals as goal

pub returns-in_err-message-clause-step : goal.returns-in_err-message-clause-step
returns-in_err-message-clause-step g c cs =
    let told = λ (b : List (Entry g.row.E.Denot)). ap (λ z. effect c.in_ok-me.me.number c.has_room-room.result (own (get_or c.args.self.now.rows c.index.result down_record) b cs) (form z)) (sym c.in_ok-me.ensures.size) ∙ c.in_err-message.ensures.step b cs in
    let e = at_go (state c.args.self.now cs c.args.books.now c.args.pool.now) _ (form c.args.self.now.n) c.in_ok-me.ensures ∙ row_acts _ _ _ _ _ _ _ _ (form c.args.self.now.n) _ _ c.has_room-room.ensures c.in_ok-me.ensures.number c.index.ensures.value _ _ told in
    search rules

pub send-requires : goal.send-requires
send-requires g c =
    let told = λ (b : List (Entry g.row.E.Denot)). ap (λ z. effect c.in_ok-me.me.number c.has_room-room.result (own (get_or c.args.self.now.rows c.index.result down_record) b []) (form z)) (sym c.in_ok-me.ensures.size) ∙ c.in_ok-message.ensures.step b [] in
    let less = row_room c.args.self.now [] c.args.books.now c.args.pool.now _ _ _ _ (form c.args.self.now.n) _ _ c.has_room-room.ensures c.in_ok-me.ensures.number c.index.ensures.value _ _ told refl in
    (less, omega (arith, less, c.in_ok-me.ensures.few))

pub returns-clause-step : goal.returns-clause-step
returns-clause-step g c cs =
    let told = λ (b : List (Entry g.row.E.Denot)). ap (λ z. effect c.in_ok-me.me.number c.has_room-room.result (own (get_or c.args.self.now.rows c.index.result down_record) b cs) (form z)) (sym c.in_ok-me.ensures.size) ∙ c.in_ok-message.ensures.step b cs in
    let e = at_go (state c.args.self.now cs c.args.books.now c.args.pool.now) _ (form c.args.self.now.n) c.in_ok-me.ensures ∙ row_acts _ _ _ _ _ _ _ _ (form c.args.self.now.n) _ _ c.has_room-room.ensures c.in_ok-me.ensures.number c.index.ensures.value _ _ told in
    search rules

pub returns-clause-rules : goal.returns-clause-rules
returns-clause-rules g c cs answers manages =
    let at = c.index.ensures.value ∙ ap (λ k. k.number) c.in_ok-me.ensures.number in
    let status = ap (λ z. (get_or c.args.self.now.rows z down_record).status) at ∙ manages.status in
    subst (λ z. FormsByRules (take z answers) z (Ok c.in_ok-message.message.addressee)) c.in_ok-me.ensures.size (c.in_ok-message.ensures.rules answers status)

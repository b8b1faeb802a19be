use Rattle.std.proofs.Common.{[], Ok, rules}
use Rattle.entries.specs.declared.messages.Body.TheVariants.{Form}
use Rattle.controller.specs.declared.records.Status.TheVariants.{Waiting}
use Rattle.controller.specs.Actions.{own}
use Rattle.controller.specs.Messages.{message}
use Rattle.controller.proofs.Statuses.{with_status}
use Rattle.controller.proofs.Forms.{forms_by_rules}
use Rattle.controller.proofs.view_changes.form.Goals as goal

pub returns-in_err-addressee-clause-rules : goal.returns-in_err-addressee-clause-rules
returns-in_err-addressee-clause-rules g c answers e =
    let o = own {E = g.row.E.Denot} c.args.row.now [] [] in
    forms_by_rules c.args.me.n c.args.me.number o answers c.args.room c.from_residual-in_err-addressee.result o e (search rules)

pub returns-in_err-ask-3-clause-rules : goal.returns-in_err-ask-3-clause-rules
returns-in_err-ask-3-clause-rules g c answers e =
    let o = own {E = g.row.E.Denot} c.args.row.now [] [] in
    forms_by_rules c.args.me.n c.args.me.number o answers c.args.room c.from_residual-in_err-ask-3.result o e (search rules)

pub returns-clause-rules : goal.returns-clause-rules
returns-clause-rules g c answers e =
    let m = message {E = g.row.E.Denot} c.number.result c.in_ok-addressee.addressee c.args.row.now.views.promised Form in
    forms_by_rules c.args.me.n c.args.me.number (own c.args.row.now [] []) answers c.args.room (Ok m) (own (with_status c.args.row.now Waiting) [] []) e (search rules)

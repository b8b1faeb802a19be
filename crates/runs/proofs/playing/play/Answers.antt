use Rattle.std.proofs.Common.{rules}
use Rattle.runs.proofs.playing.play.Goals as goal

pub returns-in-Pass : goal.returns-in-Pass
returns-in-Pass g c = search (rules, c.pass.ensures (g.C.Cabinet.cells c.args.cab.now).list)

pub returns-in-Invite : goal.returns-in-Invite
returns-in-Invite g c = search (rules, c.invite.ensures (g.C.Cabinet.cells c.args.cab.now).list)

pub returns-in-Crash : goal.returns-in-Crash
returns-in-Crash g c = search (rules, c.crash.ensures (g.C.Cabinet.cells c.args.cab.now).list)

pub returns-in_ok-settle-in-Settle : goal.returns-in_ok-settle-in-Settle
returns-in_ok-settle-in-Settle g c = search (rules, c.in_ok-settle-in-Settle.ensures (g.C.Cabinet.cells c.args.cab.now).list)

pub returns-in_err-settle-in-Settle : goal.returns-in_err-settle-in-Settle
returns-in_err-settle-in-Settle g c = search (rules, c.in_err-settle-in-Settle.ensures (g.C.Cabinet.cells c.args.cab.now).list)

use Rattle.std.proofs.Common.{sym, ap, ◌∙◌, arith}
use Rattle.cabinet.specs.Slots.{filled}
use Rattle.cabinet.proofs.Search.{most}
use Rattle.cabinet.proofs.Strips.{form_size}
use Rattle.cabinet.proofs.strip.Strip.filled.Goals as goal

pub returns-clause-value : goal.returns-clause-value
returns-clause-value c = c.args.self.now.counted (form_size _ (c.args.self.now.tells.0 c.requires.0)) c.args.cell c.requires.1 ∙ sym (ap filled c.requires.2)

pub returns-clause-bound : goal.returns-clause-bound
returns-clause-bound c = omega (arith, returns-clause-value c, most c.args.slots.now)

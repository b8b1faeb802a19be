use Rattle.std.proofs.Common.{refl, ◌∙◌}
use Rattle.std.proofs.lemmas.Fn.{says_at}
use Rattle.std.proofs.lemmas.Iterator.{YieldsList-from_slice}
use Rattle.std.proofs.lemmas.Iterator.Adapters.{position_from-zero, serves_from_places}
use Rattle.std.proofs.lemmas.Iterator.Search.{position_from_yields_List}
use Rattle.numbers.proofs.counting.first.Goals as goal

pub position-requires-clause-callable : goal.position-requires-clause-callable
position-requires-clause-callable g c = serves_from_places (YieldsList-from_slice c.args.xs.now cc) (λ x q k. k.met.1) (λ x k lt e. c.requires.at (x, tt))

pub returns-clause-value : goal.returns-clause-value
returns-clause-value g c = λ passes answers. position_from_yields_List passes _ _ _ c.position.ensures.ran (YieldsList-from_slice c.args.xs.now cc) (λ x b q k. (k.met.1, answers x.now b (says_at g.F.Fn k.met.0 refl))) ∙ position_from-zero passes c.args.xs.now

use Rattle.std.proofs.Common.{refl}
use Rattle.std.proofs.lemmas.Fn.{says_at}
use Rattle.std.proofs.lemmas.Iterator.{YieldsList-from_slice}
use Rattle.std.proofs.lemmas.Iterator.Adapters.{serves_from_places}
use Rattle.std.proofs.lemmas.Iterator.Search.{any_from_yields_List}
use Rattle.numbers.proofs.counting.some.Goals as goal

pub any-requires-clause-callable : goal.any-requires-clause-callable
any-requires-clause-callable g c = serves_from_places (YieldsList-from_slice c.args.xs.now cc) (λ x q k. k.met.1) (λ x k lt e. c.requires.at (x, tt))

pub returns : goal.returns
returns g c = λ passes answers. any_from_yields_List passes _ _ _ c.any.ensures.ran (YieldsList-from_slice c.args.xs.now cc) (λ x b q k. (k.met.1, answers x.now b (says_at g.F.Fn k.met.0 refl)))

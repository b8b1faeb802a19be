use Rattle.std.proofs.Common.{sym, arith, rules}
use Rattle.cabinet.proofs.Search.{filled_only}
use Rattle.cabinet.proofs.parts.filled_slots.Goals as goal

pub returns-clause-value : goal.returns-clause-value
returns-clause-value c =
    let p = c.count.ensures.runs in
    let q = c.take_while.ensures.runs p.0 p.0.seen p.1 in
    let keep = q.2.2 (λ a r f e. search rules) in
    let r = c.chunks_exact.ensures.runs q.0 q.0.seen (search rules) in
    sym (filled_only c.args.part.now c.count.result (search rules)
    (λ k h. let here = r.2 k in let yes = keep.0 k in let is = p.0.reads k c.args.part (omega arith) in let same = q.2.1 k in grind arith)
    (λ h. let here = r.2 p.0.len in let no = keep.1 p.2 in grind arith))

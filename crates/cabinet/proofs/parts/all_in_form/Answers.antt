use Rattle.std.proofs.Common.{◌≡◌, arith, rules}
use Rattle.cabinet.proofs.Flags.{decides_by}
use Rattle.cabinet.specs.Slots.{slots_in}
use Rattle.cabinet.proofs.parts.all_in_form.Goals as goal

pub returns : goal.returns
returns c =
    let p = c.all.ensures.runs in
    let r = c.chunks_exact.ensures.runs p.0 p.0.seen (search rules) in
    decides_by c.all.result _
    (λ t k lt.
    let all = rw t at p.2 in
    let long : p.0.len ≡ slots_in c.args.slots.now = (let w = r.1 in grind arith) in
    let is = p.0.reads k c.args.slots (omega (arith, long)) in
    let here = r.2 k in
    let gave = all.1 (λ a b g e. search rules) k in
    grind arith)
    (λ f form. let any = rw f at p.2 in let some = any (λ a b g e. search rules) in
    let here = r.2 some.0 in
    let fits = form some.0 in
    grind arith)

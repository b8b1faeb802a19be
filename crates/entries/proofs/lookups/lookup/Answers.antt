use Rattle.std.proofs.Common.{arith, unwrap_or, sym, refl, ap, ◌∙◌}
use Rattle.std.proofs.lemmas.Grind.{common_steps}
use Rattle.entries.specs.Lookups.{or_else, settled}
use Rattle.entries.proofs.Settling.{settled_from, looked_rule}
use Rattle.entries.proofs.lookups.lookup.Goals as goal

pub loop-answer-init : goal.loop-answer-init
loop-answer-init g c = sym (settled_from g.E.Kind.says c.args.book.now c.in-Some.rest.now c.in-Some.last.now c.args.question _ c.in-Some.ensures.cases.0 refl)

pub loop-answer-preserved : goal.loop-answer-preserved
loop-answer-preserved g c =
    sym (settled_from g.E.Kind.says c.loop-answer.rest.now c.in-Some-split_last.before.now c.in-Some-split_last.next.now c.args.question _ c.in-Some-split_last.ensures.cases.0 refl)
    ∙ ap (λ o. or_else o (settled g.E.Kind.says c.loop-answer.rest.now c.args.question)) (sym (sym c.say.ensures ∙ c.in_default-say.is))
    ∙ c.loop-answer.invariant

pub returns-in-Some-say-clause-rule : goal.returns-in-Some-say-clause-rule
returns-in-Some-say-clause-rule g c =
    let said = ap (λ o. or_else o (settled g.E.Kind.says c.loop-answer.rest.now c.args.question)) (sym (sym c.say.ensures ∙ c.in-Some-say.is)) ∙ c.loop-answer.invariant in
    looked_rule g.E.Kind.says g.E.Kind.UNSETTLED c.args.book.now c.args.question _ (ap (λ o. unwrap_or o g.E.Kind.UNSETTLED) said)

pub returns-in_default-split_last-clause-rule : goal.returns-in_default-split_last-clause-rule
returns-in_default-split_last-clause-rule g c = looked_rule g.E.Kind.says g.E.Kind.UNSETTLED c.args.book.now c.args.question _ (grind (arith, common_steps))

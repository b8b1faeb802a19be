use Rattle.std.proofs.Common.{sym, ◌∙◌, arith}
use Rattle.std.proofs.lemmas.Bool.{true≢false}
use Rattle.cabinet.proofs.Halves.{halves_form, form_front, form_back}
use Rattle.cabinet.proofs.Search.{most}
use Rattle.cabinet.proofs.parts.is_in_form.Goals as goal

pub overflow_mul-n : goal.overflow_mul-n
overflow_mul-n c = omega (arith, c.requires, most c.args.part.now)

pub split_at-requires : goal.split_at-requires
split_at-requires c = omega (arith, c.requires, most c.args.part.now)

pub returns-then-all_in_form : goal.returns-then-all_in_form
returns-then-all_in_form c =
    let cut = c.split_at.ensures in
    let good = c.all_in_form.ensures.0 c.if-all_in_form.true in
    ((λ t. halves_form _ _ _ c.args.n c.requires cut.front cut.back good (c.all_empty.ensures.0 t)), (λ form. c.all_empty.ensures.1 (form_back _ _ _ c.args.n c.requires cut.front cut.back form)))

pub returns-else-all_in_form : goal.returns-else-all_in_form
returns-else-all_in_form c =
    let cut = c.split_at.ensures in
    ((λ t. absurd (true≢false (sym t ∙ c.if-all_in_form.false))), (λ form. c.all_in_form.ensures.1 (form_front _ _ c.split_at.result.1.now c.args.n c.requires cut.front cut.back form)))

use Rattle.std.proofs.Common.{◌≡◌, map, take, inr, sym, ap, ◌∙◌, rules}
use Rattle.std.proofs.lemmas.Iterator.{YieldsList-from_map_by, YieldsList-from_slice}
use Rattle.std.proofs.lemmas.Iterator.Consumers.{map_from_collect}
use Rattle.std.proofs.lemmas.List.{map-id}
use Rattle.std.proofs.lemmas.Result.{IfOk-at_ok}
use Rattle.entries.specs.Says.{hours_says}
use Rattle.entries.specs.declared.kinds.Answer.TheVariants.{Green}
use Rattle.numbers.specs.Counting.{count}
use Rattle.site_c.specs.Lookups.{answers_green, hours_entry}
use Rattle.site_c.proofs.lookups.site_c_lookup_hours.Goals as goal

pub returns-in-Ok : goal.returns-in-Ok
returns-in-Ok c =
    let collected : c.in-Ok.book.items ≡ map hours_entry c.args.rows.now = sym (map-id _) ∙ IfOk-at_ok _ c.in-Ok.is (map_from_collect {v = λ x. x} _ c.collect-book.ensures.ran (YieldsList-from_map_by _ _ _ (YieldsList-from_slice c.args.rows.now cc) c.map.ensures.closure (λ x r q k. search rules))) in
    inr (c.greens.ensures ∙ ap (λ es. count (answers_green hours_says Green (take 65535 es)) c.args.questions.now) (c.deref.ensures.value ∙ collected))

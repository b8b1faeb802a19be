use Rattle.std.proofs.Common.{take, ap, ◌∙◌, rules}
use Rattle.numbers.specs.Counting.{count}
use Rattle.site_c.specs.Lookups.{answers_green}
use Rattle.site_c.proofs.Cut.{cut_is}
use Rattle.site_c.proofs.lookups.greens.Goals as goal

pub returns : goal.returns
returns g c =
    let cut = cut_is c.args.book.now 65535 c.min.result (search rules) in
    c.count.ensures (answers_green g.E.Kind.says g.E.Kind.UNSETTLED (take c.min.result c.args.book.now)) (λ x r k. search rules)
    ∙ ap (λ es. count (answers_green g.E.Kind.says g.E.Kind.UNSETTLED es) c.args.questions.now) cut

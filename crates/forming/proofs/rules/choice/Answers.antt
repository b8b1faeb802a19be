use Rattle.std.proofs.Common.{◌≡◌, ◌≤◌, Some, None, sym, rules}
use Rattle.numbers.specs.Majorities.{majority_of}
use Rattle.numbers.specs.Counting.{count, first}
use Rattle.forming.specs.Rules.{answered, is_best, choice}
use Rattle.forming.proofs.rules.choice.Goals as goal
use Rattle.forming.proofs.ByRules.{by_rules_at}
use Rattle.forming.proofs.Choosing.{choice_made, choice_refused}

pub returns-in_err-chosen : goal.returns-in_err-chosen
returns-in_err-chosen c =
    let same : c.from_residual.result ≡ choice c.args.answers.now c.args.n = search rules in
    record { value = same; within = search rules; rule = by_rules_at c.args.answers.now c.args.n c.from_residual.result same }

pub returns-then-allowed : goal.returns-then-allowed
returns-then-allowed c =
    let most : majority_of c.args.n ≤ count answered c.args.answers.now = search rules in
    let best : first (is_best c.args.answers.now) c.args.answers.now ≡ Some c.in_ok-chosen.chosen = sym (c.in_ok-chosen.ensures.value (is_best c.args.answers.now) (λ x r k. search rules)) in
    let same : Some c.in_ok-chosen.chosen ≡ choice c.args.answers.now c.args.n = sym (choice_made c.args.answers.now c.args.n c.in_ok-chosen.chosen c.view_of.result most best c.view_of.ensures (sym c.if-allowed.ensures)) in
    record { value = same; within = c.in_ok-chosen.ensures.within; rule = by_rules_at c.args.answers.now c.args.n (Some c.in_ok-chosen.chosen) same }

pub returns-else-allowed : goal.returns-else-allowed
returns-else-allowed c =
    let most : majority_of c.args.n ≤ count answered c.args.answers.now = search rules in
    let best : first (is_best c.args.answers.now) c.args.answers.now ≡ Some c.in_ok-chosen.chosen = sym (c.in_ok-chosen.ensures.value (is_best c.args.answers.now) (λ x r k. search rules)) in
    let same : None ≡ choice c.args.answers.now c.args.n = sym (choice_refused c.args.answers.now c.args.n c.in_ok-chosen.chosen c.view_of.result most best c.view_of.ensures (sym c.if-allowed.ensures)) in
    record { value = same; within = tt; rule = by_rules_at c.args.answers.now c.args.n None same }

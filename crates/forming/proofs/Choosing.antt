-- What the choice comes to, step by step.
use Rattle.std.proofs.Common.{◌≡◌, ℕ, ◌≤◌, true, false, cond, leb, List, get_or, Some, None, Option, sym, ap, ◌∙◌, rules}
use Rattle.numbers.specs.declared.views.View.{View}
use Rattle.numbers.specs.Majorities.{majority_of}
use Rattle.entries.specs.declared.messages.Reply.{Reply}
use Rattle.numbers.specs.Counting.{count, first}
use Rattle.forming.specs.Rules.{answered, answer_view, is_best, some_rule, if_allowed, choice}

module _ (answers : List (Option Reply)) (n c : ℕ) (v : View) (most : majority_of n ≤ count answered answers) (best : first (is_best answers) answers ≡ Some c) (there : v ≡ answer_view (get_or answers c None)) where
  enough : leb (majority_of n) (count answered answers) ≡ true
  enough = search rules

  begun : choice answers n ≡ if_allowed answers n (Some c)
  begun = ap (λ b. cond b (if_allowed answers n (first (is_best answers) answers)) None) enough ∙ ap (if_allowed answers n) best

  pub choice_made : some_rule answers n v ≡ true → choice answers n ≡ Some c
  choice_made rule = begun ∙ ap (λ x. cond (some_rule answers n x) (Some c) None) (sym there) ∙ ap (λ b. cond b (Some c) None) rule

  pub choice_refused : some_rule answers n v ≡ false → choice answers n ≡ None
  choice_refused rule = begun ∙ ap (λ x. cond (some_rule answers n x) (Some c) None) (sym there) ∙ ap (λ b. cond b (Some c) None) rule

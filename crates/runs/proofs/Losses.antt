-- A message that is lost is still in the protocol's pool, which keeps every one.
use Rattle.std.proofs.Common.{◌≡◌, ℕ, ◌-◌, ◌<◌, ◌⊎◌, List, set, Some, None, Ok, Option, sym, refl, ap, ◌∙◌, subst, inl, inr, arith}
use Rattle.std.proofs.lemmas.List.{length-set}
use Rattle.std.proofs.lemmas.Bool.{cases_eq, ltb-true}
use Rattle.entries.specs.declared.messages.Message.{Message}
use Rattle.entries.specs.declared.kinds.Answer.{Answer as Light}
use Rattle.entries.specs.declared.kinds.Question.{Question}
use Rattle.controller.specs.Books.{item}
use Rattle.controller.specs.declared.outcomes.Outcome.{Outcome}
use Rattle.controller.specs.declared.outcomes.Outcome.TheVariants.{Done as Taken}
use Rattle.controller.proofs.Actions.{asks_split}
use Rattle.site.specs.States.{Done, State}
use Rattle.site.specs.Steps.{dropped, pool_asks, refuse_about}
use Rattle.protocol.specs.Members.{Member}
use Rattle.protocol.specs.Model as model
use Rattle.protocol.specs.Model.{Run, Site}
use Rattle.runs.specs.declared.steps.Step.TheVariants.{Lose}
use Rattle.runs.specs.History.{Event, told}
use Rattle.runs.specs.Runs.{step}
use Rattle.runs.proofs.Bond.{Bond, the_message}
use Rattle.runs.proofs.Frame.{frame_pool}
use Rattle.runs.proofs.Items.{item_set_other, item_set_same}
use Rattle.runs.proofs.Simulated.{Simulated, stays}

module _ {E : Type 0} (says : E → Question → Option Light) (unsettled : Light) (n : ℕ) (blank : ℕ → model.Entry E)
    (s : State E) (h : List (Event E)) (m : Site E) (run : Run n blank m) (bond : Bond says unsettled n s h m) where
  abbrev Sim : State E → Type 0
  Sim t = Simulated says unsettled n blank t h

  abbrev P : Done (Outcome E) E → Type 0
  P d = Sim d.state

  module _ (j : ℕ) (inside : j < s.site.count) where
    drops : (o : Option (Message E)) → item s.pool (s.site.count - 1) ≡ o → Bond says unsettled n (dropped s j o) h m
    drops None e = bond
    drops (Some x) e = frame_pool says unsettled n s h m bond (s.site.count - 1) (set s.pool j x) m.pool (length-set s.pool j x) (omega (arith, bond.memory.pool_long, bond.messages.holds)) kept
      where
        kept : (k : ℕ) (y : Message E) → k < s.site.count - 1 → item (set s.pool j x) k ≡ Some y → Member (the_message y) m.pool
        kept k y low at = by (cases_eq k j)
          where
            by : (k ≡ j) ⊎ (k ≡ j → ⊥) → Member (the_message y) m.pool
            by (inl z) =
                let long = bond.memory.pool_long in
                let full = bond.messages.holds in
                let read : Some y ≡ Some x = sym at ∙ ap (item (set s.pool j x)) z ∙ item_set_same s.pool j x (omega arith) in
                let is_last : x ≡ y = cc in
                subst (λ v. Member (the_message v) m.pool) is_last (bond.messages.known (s.site.count - 1) x (omega arith) e)
            by (inr z) = bond.messages.known k y (omega arith) (sym (item_set_other s.pool j k x z) ∙ at)

  pub sim_lose : (j : ℕ) → Simulated says unsettled n blank (step says unsettled s (Lose j)).state (told says unsettled h s (Lose j))
  sim_lose j =
      asks_split P (pool_asks s j) (refuse_about s j) (record { result = Ok Taken; state = dropped s j (item s.pool (s.site.count - 1)) }) (λ _. stays run bond)
      (λ ys. record { site = m; run = run; bond = drops j (ltb-true _ _ ys.1.0) (item s.pool (s.site.count - 1)) refl })

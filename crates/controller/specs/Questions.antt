-- Questions in their order, of which the first no ends a step.
use Rattle.std.specs.Prelude.{Bool, cond, List, [], ◌∷◌}
use Rattle.numbers.specs.declared.refusals.Refusal.{Refusal}

-- a question: whether its answer is yes, and the refusal that a no is
pub record Question : Type 0 where
  pub yes : Bool
  pub refusal : Refusal

abbrev pub ask : Bool → Refusal → Question
ask b k = record { yes = b; refusal = k }

-- `taken` if all answers are yes, else what `refused` makes of the first no
abbrev pub asks : {A : Type 0} → List Question → (Refusal → A) → A → A
asks [] refused taken = taken
asks (x ∷ xs) refused taken = cond x.yes (asks xs refused taken) (refused x.refusal)

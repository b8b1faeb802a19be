use Rattle.std.proofs.Common.{refl}
use Rattle.controller.specs.Verdicts.{lengths_in}
use Rattle.controller.specs.ViewChanges.{form_choice}
use Rattle.runs.proofs.example_runs.guarantee_is_not_empty.Goals as goal

pub returns : goal.returns
unfolding lengths_in form_choice
returns c = record { confirmed = refl; lost = refl; late = refl }

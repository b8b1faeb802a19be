use Rattle.std.proofs.Common.{refl}
use Rattle.controller.specs.ViewChanges.{form_choice}
use Rattle.trials.proofs.examples.stated.Goals as goal

pub returns : goal.returns
unfolding form_choice
returns c = record {
  majorities = (refl, refl, refl);
  order = (refl, refl);
  slot = refl;
  refused = (refl, refl);
  led = (refl, refl);
  later = (refl, refl);
  longer = (refl, refl);
  smaller = (refl, refl);
}

use Rattle.runs.proofs.Guaranteed.{guaranteed}
use Rattle.runs.proofs.guarantees.confirmed_changes_stand.Goals as goal

pub returns : goal.returns
returns g c says unsettled s n cap long taken steps = guaranteed says unsettled s n cap long tt taken steps

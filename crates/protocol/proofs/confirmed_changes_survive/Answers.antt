-- The contract is the theorem.
use Rattle.protocol.proofs.confirmed_changes_survive.Goals as goal
use Rattle.protocol.proofs.Theorem.{stands}

pub returns : goal.returns
returns g c = stands _

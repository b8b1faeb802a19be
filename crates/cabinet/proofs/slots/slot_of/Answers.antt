use Rattle.cabinet.proofs.OneToOne.{one_to_one}
use Rattle.cabinet.proofs.slots.slot_of.Goals as goal

pub returns-clause-matched : goal.returns-clause-matched
returns-clause-matched c = one_to_one

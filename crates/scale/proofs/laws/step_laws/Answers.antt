-- `using` finds no proof of these: their conclusions don't show all their variables, or have a statement for all numbers inside.
use Rattle.scale.proofs.Theorems.{steps_by_basis, note_alone}
use Rattle.scale.proofs.laws.step_laws.Goals as goal

pub returns-clause-steps : goal.returns-clause-steps
returns-clause-steps c = steps_by_basis

pub returns-clause-alone : goal.returns-clause-alone
returns-clause-alone c = note_alone

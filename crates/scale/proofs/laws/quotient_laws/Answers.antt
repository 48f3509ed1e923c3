-- `using` finds no proof of these: their conclusions don't show all their variables, or have a statement for all numbers inside.
use Rattle.scale.proofs.Theorems.{shortfall_least}
use Rattle.scale.proofs.laws.quotient_laws.Goals as goal

pub returns-clause-shortfall : goal.returns-clause-shortfall
returns-clause-shortfall c = shortfall_least

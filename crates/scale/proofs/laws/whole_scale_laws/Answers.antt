-- `using` finds no proof of these: their conclusions don't show all their variables, or have a statement for all numbers inside.
use Rattle.scale.proofs.Theorems.{first_whole}
use Rattle.scale.proofs.laws.whole_scale_laws.Goals as goal

pub returns-clause-first : goal.returns-clause-first
returns-clause-first c = first_whole

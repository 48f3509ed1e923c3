-- `using` finds no proof of these: their conclusions don't show all their variables, or have a statement for all numbers inside.
use Rattle.scale.proofs.Theorems.{no_note_nearer, basis_told, basis_grows, repeats_just_if}
use Rattle.scale.proofs.laws.basis_laws.Goals as goal

pub returns-clause-nearest : goal.returns-clause-nearest
returns-clause-nearest c = no_note_nearer

pub returns-clause-told : goal.returns-clause-told
returns-clause-told c = basis_told

pub returns-clause-grows : goal.returns-clause-grows
returns-clause-grows c = basis_grows

pub returns-clause-repeats : goal.returns-clause-repeats
returns-clause-repeats c = repeats_just_if

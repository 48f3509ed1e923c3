-- How many rounds are left. Assumes nothing: this is a definition.
use Rattle.std.specs.Prelude.{ℕ}
use Rattle.scale.specs.declared.rounds.Rounds.{Rounds}

abbrev pub left_of : Rounds → ℕ
left_of rounds = rounds.left

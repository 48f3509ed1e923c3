-- Which numbers make a tuning: an octave of 1 to 1,000,000,000 units, an interval below it, and 1 to as many notes as it has units.
-- Assumes nothing: these are definitions.
use Rattle.std.specs.Prelude.{ℕ, Bool, if◌then◌else◌, ◌&&◌, Ok, Err, Result, nat_le, nat_lt}
use Rattle.scale.specs.Notes.{Tuning}
use Rattle.scale.specs.declared.tuning.Tuning.{Tuning as Ranged}
use Rattle.scale.specs.declared.tuning.RangeError.{RangeError}
use Rattle.scale.specs.declared.tuning.RangeError.TheVariants.{Octave, Interval, Notes}

abbrev pub octave_fits : ℕ → Bool
octave_fits octave = nat_lt 0 octave && nat_le octave 1000000000

abbrev pub interval_fits : ℕ → ℕ → Bool
interval_fits octave interval = nat_lt interval octave

abbrev pub notes_fit : ℕ → ℕ → Bool
notes_fit octave notes = nat_lt 0 notes && nat_le notes octave

-- a check: what doesn't pass is told, and what passes goes on
abbrev unless : Bool → RangeError → Result Tuning RangeError → Result Tuning RangeError
unless passes error next = if passes then next else Err error

-- the tuning of three numbers, or which of them is the first out of range
abbrev pub tuning_from : ℕ → ℕ → ℕ → Result Tuning RangeError
tuning_from octave interval notes =
    unless (octave_fits octave) Octave
    (unless (interval_fits octave interval) Interval
    (unless (notes_fit octave notes) Notes
    (Ok (record { octave = octave; interval = interval; notes = notes }))))

-- the place of a number among the three
abbrev pub place_of : RangeError → ℕ
place_of Octave = 0
place_of Interval = 1
place_of Notes = 2

-- what a tuning in range stands for
abbrev pub as_tuning : Ranged → Tuning
as_tuning t = record { octave = t.octave; interval = t.interval; notes = t.notes }

-- what `Tuning::new` says
abbrev pub new_said : Result Ranged RangeError → Result Tuning RangeError
new_said (Ok t) = Ok (as_tuning t)
new_said (Err e) = Err e

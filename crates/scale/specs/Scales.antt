-- Scales written out: the notes in the order of their heights, and the sizes of steps with how many there are of each.
-- Assumes nothing: these are definitions.
use Rattle.std.specs.Prelude.{◌≡◌, ℕ, suc, ◌%◌, ◌<◌, List, [], ◌∷◌, length, slice_index}
use Rattle.scale.specs.Notes.{Tuning, place, next, so_large, sizes}
use Rattle.scale.specs.Promise.{Taken}

-- each pair is a size and how many steps have it
abbrev pub sizes_of : List (ℕ × ℕ) → List ℕ
sizes_of [] = []
sizes_of (x ∷ xs) = x.0 ∷ sizes_of xs

abbrev pub AsMany : Tuning → List (ℕ × ℕ) → Type 0
AsMany t [] = Unit {0}
AsMany t (x ∷ xs) = (so_large t x.0 t.notes ≡ x.1) × AsMany t xs

-- a taken tuning whose notes by height are this row, and whose steps are these
pub record WrittenOut (t : Tuning) (row : List ℕ) (steps : List (ℕ × ℕ)) : Type 0 where
  pub taken : Taken t
  pub row_length : length row ≡ t.notes
  pub row_notes : (i : ℕ) → i < t.notes → slice_index row i < t.notes
  pub places : (i : ℕ) → i < t.notes → place t (slice_index row i) ≡ i
  pub nexts : (i : ℕ) → i < t.notes → next t (slice_index row i) ≡ suc (slice_index row (suc i % t.notes))
  pub all_sizes : sizes t ≡ sizes_of steps
  pub as_many : AsMany t steps

abbrev tuning : ℕ → ℕ → ℕ → Tuning
tuning octave interval notes = record { octave = octave; interval = interval; notes = notes }

-- five fifths of 702 cents
abbrev pub FiveFifths : Type 0
FiveFifths = WrittenOut (tuning 1200 702 5) (0 ∷ (2 ∷ (4 ∷ (1 ∷ (3 ∷ []))))) ((204, 3) ∷ ((294, 2) ∷ []))

-- seven of them
abbrev pub SevenFifths : Type 0
SevenFifths = WrittenOut (tuning 1200 702 7) (0 ∷ (2 ∷ (4 ∷ (6 ∷ (1 ∷ (3 ∷ (5 ∷ []))))))) ((90, 2) ∷ ((204, 5) ∷ []))

-- seven fifths of 7 semitones
abbrev pub SevenInTwelve : Type 0
SevenInTwelve = WrittenOut (tuning 12 7 7) (0 ∷ (2 ∷ (4 ∷ (6 ∷ (1 ∷ (3 ∷ (5 ∷ []))))))) ((1, 2) ∷ ((2, 5) ∷ []))

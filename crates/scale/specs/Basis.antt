-- Two notes next to note 0, one above it and one below it, from which every step follows.
-- Assumes nothing: these are definitions.
use Rattle.std.specs.Prelude.{◌≡◌, ℕ, ◌+◌, ◌*◌, ◌%◌, ◌<◌, ◌≤◌, ◌≢◌}
use Rattle.scale.specs.Notes.{Tuning, note}

-- In an octave of N units, with an interval of g: note a is u above note 0, note b is d below it, and a times d and b times u together are the octave.
pub record Basis (N g : ℕ) : Type 0 where
  pub a : ℕ
  pub b : ℕ
  pub u : ℕ
  pub d : ℕ
  pub above : a * g % N ≡ u
  pub below : b * g % N + d ≡ N
  pub fills : a * d + b * u ≡ N
  pub some_a : 0 < a
  pub some_b : 0 < b
  pub some_u : 0 < u
  pub some_d : 0 < d

-- The basis of a tuning: both notes are there, and their numbers together are at least as many as there are notes.
pub record BasisOf (t : Tuning) : Type 0 where
  pub basis : Basis t.octave t.interval
  pub a_there : basis.a < t.notes
  pub b_there : basis.b < t.notes
  pub reach : t.notes ≤ basis.a + basis.b

-- The last part of what makes a tuning taken.
abbrev pub AllDifferent : Tuning → Type 0
AllDifferent t = (j k : ℕ) → j < k → k < t.notes → note t j ≢ note t k

-- What is promised of scales. Each promise is a statement, a type whose proof is owed: it is proved once the contract of a function names it.
-- Assumes nothing: these are definitions.
use Rattle.std.specs.Prelude.{◌≡◌, ℕ, zero, suc, ◌+◌, ◌-◌, ◌<◌, ◌≤◌, true, false, ◌≢◌, ◌⊎◌, List, length, slice_index}
use Rattle.scale.specs.Notes.{Tuning, note, place, step, next, so_large, sizes, before, is_whole}

-- tunings that are taken: all notes are different
unfoldable pub Taken : Tuning → Type 0
Taken t =
    (0 < t.octave) × (t.octave ≤ 1000000000) × (t.interval < t.octave) × (0 < t.notes) × (t.notes ≤ t.octave)
    × ((j k : ℕ) → j < k → k < t.notes → note t j ≢ note t k)

-- The main promise. A desk is what the contracts of its functions say: for every tuning, however many notes it has, it tells of each note where it
-- stands, which is next and how far that is; which note stands at a place; the sizes of steps, and how many there are of each; and which numbers of
-- notes make a whole scale
pub record Desk : Type 0 where
  pub places : Tuning → ℕ → ℕ
  pub nexts : Tuning → ℕ → ℕ
  pub steps : Tuning → ℕ → ℕ
  pub at : Tuning → ℕ → ℕ
  pub all_sizes : Tuning → List ℕ
  pub how_many : Tuning → ℕ → ℕ
  pub whole_from : Tuning → ℕ → ℕ  -- the first number of notes, not below some one, that makes a whole scale: 0 if there is none

unfoldable pub Right : Desk → Type 0
Right d =
    (t : Tuning) (k s : ℕ) → Taken t → k < t.notes →
    (d.places t k ≡ place t k) × (d.nexts t k ≡ next t k) × (d.steps t k ≡ step t k) × (d.places t (d.at t k) ≡ k) × (d.at t k < t.notes)
    × (d.all_sizes t ≡ sizes t) × (d.how_many t s ≡ so_large t s t.notes)

abbrev pub with_notes : Tuning → ℕ → Tuning
with_notes t n = record { octave = t.octave; interval = t.interval; notes = n }

unfoldable pub RightWhole : Desk → Type 0
RightWhole d =
    (t : Tuning) (n : ℕ) → Taken t → 0 < n → n ≤ t.notes →
    ((d.whole_from t n ≡ 0) × ((m : ℕ) → n ≤ m → m ≤ t.notes → is_whole (with_notes t m) ≡ false))
    ⊎ ((n ≤ d.whole_from t n) × (d.whole_from t n ≤ t.notes) × (is_whole (with_notes t (d.whole_from t n)) ≡ true)
    × ((m : ℕ) → n ≤ m → m < d.whole_from t n → is_whole (with_notes t m) ≡ false))

-- three sizes at most, and if there are three the largest is the other two together
unfoldable pub ThreeAtMost : Type 0
ThreeAtMost =
    (t : Tuning) → Taken t → (length (sizes t) ≤ 3) × (length (sizes t) ≡ 3 → slice_index (sizes t) 2 ≡ slice_index (sizes t) 0 + slice_index (sizes t) 1)

-- the steps go round: all of them together are an octave
unfoldable pub all_steps : Tuning → ℕ → ℕ
all_steps t zero = 0
all_steps t (suc n) = step t n + all_steps t n

unfoldable pub GoRound : Type 0
GoRound = (t : Tuning) → Taken t → all_steps t t.notes ≡ t.octave

-- which note is next goes by three rules, from the numbers of the note above the first and of the one below it
unfoldable pub ByRules : Type 0
ByRules =
    (t : Tuning) (k : ℕ) → Taken t → 1 < t.notes → k < t.notes →
    let a : ℕ = next t 0 - 1 in
    let b : ℕ = before t - 1 in
    (0 < a) × (0 < b) × (t.notes ≤ a + b) × (k + a < t.notes → next t k ≡ suc (k + a)) × (t.notes ≤ k + a → k < b → next t k ≡ suc (k + a - b)) × (t.notes ≤ k + a → b ≤ k → next t k ≡ suc (k - b))

-- one note more cuts one step in two, and no other
unfoldable pub OneMore : Type 0
OneMore =
    (t : Tuning) → Taken (with_notes t (suc t.notes)) → 0 < t.notes →
    (k : ℕ) × (k < t.notes) × (step (with_notes t (suc t.notes)) k + step (with_notes t (suc t.notes)) t.notes ≡ step t k)
    × ((j : ℕ) → j < t.notes → j ≢ k → step (with_notes t (suc t.notes)) j ≡ step t j)

-- the interval down instead of up: the same sizes, and as many of each
unfoldable pub Downwards : Type 0
Downwards =
    (t : Tuning) (s : ℕ) → Taken t →
    let u : Tuning = record { octave = t.octave; interval = t.octave - t.interval; notes = t.notes } in
    0 < t.interval → (sizes u ≡ sizes t) × (so_large u s t.notes ≡ so_large t s t.notes)

-- a whole scale of more than one note has steps of one size or of two, and every span of as many steps has one of two sizes, that differ by as much
unfoldable pub span : Tuning → ℕ → ℕ → ℕ
span t k zero = 0
span t k (suc n) = step t k + span t (next t k - 1) n

unfoldable pub Spans : Type 0
Spans =
    (t : Tuning) (j k n : ℕ) → Taken t → is_whole t ≡ true → 1 < t.notes → j < t.notes → k < t.notes → n ≤ t.notes →
    (length (sizes t) ≤ 2)
    × ((span t j n ≡ span t k n) ⊎ ((span t j n + (slice_index (sizes t) 1 - slice_index (sizes t) 0) ≡ span t k n) ⊎ (span t k n + (slice_index (sizes t) 1 - slice_index (sizes t) 0) ≡ span t j n)))

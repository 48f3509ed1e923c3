-- Laws of generated scales. Each is a statement, a type, and is proved since the contract of a function in src/laws.rt names it.
-- Assumes nothing: these are definitions.
use Rattle.std.specs.Prelude.{◌≡◌, ℕ, suc, ◌+◌, ◌-◌, ◌*◌, ◌/◌, ◌%◌, ◌<◌, ◌≤◌, Bool, true, false, ◌↔◌, List, [], ◌∷◌, ◌==◌, nat_lt}
use Rattle.scale.specs.Notes.{pick, Tuning, note, place, step, next, so_large, sizes, before, is_whole}
use Rattle.scale.specs.Promise.{Taken, with_notes}
use Rattle.scale.specs.Basis.{Basis, BasisOf, AllDifferent}
use Rattle.scale.specs.Quotients.{ceiling, shortfall}

-- the height of note j + k is that of note j and of note k together, without a whole octave
abbrev pub HeightsAdd : Type 0
HeightsAdd = (t : Tuning) (j k : ℕ) → note t (j + k) ≡ (note t j + note t k) % t.octave

-- for k at most j: the way up from note k to note j is the height of note j - k, and the way up from note j to note k an octave less that, or 0 if that
-- is 0
abbrev pub HeightsSubtract : Type 0
HeightsSubtract =
    (t : Tuning) (j k : ℕ) → 0 < t.octave → k ≤ j →
    ((note t j + t.octave - note t k) % t.octave ≡ note t (j - k))
    × ((note t k + t.octave - note t j) % t.octave ≡ (t.octave - note t (j - k)) % t.octave)

-- the same tuning with the interval down
abbrev pub down : Tuning → Tuning
down t = record { octave = t.octave; interval = t.octave - t.interval; notes = t.notes }

-- with the interval down each note is as far below note 0 as it was above it
abbrev pub HeightsDown : Type 0
HeightsDown = (t : Tuning) (k : ℕ) → 0 < t.octave → t.interval ≤ t.octave → note (down t) k ≡ (t.octave - note t k) % t.octave

-- k intervals have at most k whole octaves, if the interval is at most an octave
abbrev pub QuotientSmall : Type 0
QuotientSmall = (k g N : ℕ) → g ≤ N → k * g / N ≤ k

-- the quotient rounded up is the least number of intervals that come to m units or more
abbrev pub CeilingLeast : Type 0
CeilingLeast = (m g : ℕ) → 0 < g → (m ≤ ceiling m g * g) × ((x : ℕ) → m ≤ x * g → ceiling m g ≤ x)

-- m units and their shortfall are a whole number of intervals; it is the least number of units with which they are, and less than an interval
abbrev pub ShortfallLeast : Type 0
ShortfallLeast =
    (m g : ℕ) → 0 < g → (shortfall m g < g) × ((c : ℕ) × (m + shortfall m g ≡ c * g)) × ((x c : ℕ) → m + x ≡ c * g → shortfall m g ≤ x)

-- Turn w round the octave begins with the first note that is w octaves up or more. It is above them by w shortfalls, without whole intervals. So, for an
-- interval up to the octave, the heights at which turns begin are notes of a tuning whose octave is the interval and whose interval is the shortfall.
abbrev pub TurnsBegin : Type 0
TurnsBegin =
    (N g w : ℕ) → 0 < g →
    (ceiling (w * N) g * g ≡ w * N + w * shortfall N g % g) × (g ≤ N → ceiling (w * N) g * g % N ≡ w * shortfall N g % g)

-- of notes 1 to a + b - 1 none is less than u above note 0, and none less than d below it
abbrev pub NoNoteNearer : Type 0
NoNoteNearer = (N g : ℕ) (B : Basis N g) (j : ℕ) → 0 < j → j < B.a + B.b → (B.u ≤ j * g % N) × (j * g % N + B.d ≤ N)

-- every taken tuning of two notes or more has a basis
abbrev pub BasisExists : Type 0
BasisExists = (t : Tuning) → Taken t → 1 < t.notes → BasisOf t

-- the notes next to note 0 and how far they are tell a, b, u and d: two bases of a tuning have the same
abbrev pub BasisTold : Type 0
BasisTold =
    (t : Tuning) (B : BasisOf t) →
    (next t 0 ≡ suc B.basis.a) × (before t ≡ suc B.basis.b) × (step t 0 ≡ B.basis.u) × (step t B.basis.b ≡ B.basis.d)

-- the first basis has note 1 on both sides
abbrev pub BasisBegins : Type 0
BasisBegins = (N g : ℕ) → 0 < g → g < N → (B : Basis N g) × (B.a ≡ 1) × (B.b ≡ 1) × (B.u ≡ g) × (B.d ≡ N - g)

-- a basis grows by k linear steps at once, each of which brings one note nearer by the other's distance: v of its own distance is left
abbrev pub BasisGrows : Type 0
BasisGrows =
    (N g : ℕ) (B : Basis N g) (k v : ℕ) → 0 < v →
    (k * B.d + v ≡ B.u → (C : Basis N g) × (C.a ≡ B.a + k * B.b) × (C.b ≡ B.b) × (C.u ≡ v) × (C.d ≡ B.d))
    × (k * B.u + v ≡ B.d → (C : Basis N g) × (C.a ≡ B.a) × (C.b ≡ B.b + k * B.a) × (C.u ≡ B.u) × (C.d ≡ v))

-- two notes or more are all different only if the interval is not 0
abbrev pub IntervalNeeded : Type 0
IntervalNeeded = (t : Tuning) → 1 < t.notes → AllDifferent t → 0 < t.interval

-- with an interval above 0 the notes are not all different just if some basis has u = d and a + b below their number
abbrev pub RepeatsJustIf : Type 0
RepeatsJustIf =
    (t : Tuning) → 0 < t.interval → t.interval < t.octave → 1 < t.notes →
    (AllDifferent t → ⊥) ↔ ((B : Basis t.octave t.interval) × (B.u ≡ B.d) × (B.a + B.b < t.notes))

-- the step from every note and the next note, in a tuning of two notes or more
abbrev pub StepsByBasis : Type 0
StepsByBasis =
    (t : Tuning) (B : BasisOf t) (k : ℕ) → k < t.notes →
    let a : ℕ = B.basis.a in
    let b : ℕ = B.basis.b in
    let u : ℕ = B.basis.u in
    let d : ℕ = B.basis.d in
    (k + a < t.notes → (step t k ≡ u) × (next t k ≡ suc (k + a)))
    × (t.notes ≤ k + a → k < b → (step t k ≡ u + d) × (next t k ≡ suc (k + a - b)))
    × (b ≤ k → (step t k ≡ d) × (next t k ≡ suc (k - b)))

-- two sizes, and their sum if some step is that large: smallest first, and equal ones once
unfoldable pub in_order : ℕ → ℕ → Bool → List ℕ
in_order u d both =
    let rest : List ℕ = pick both ((u + d) ∷ []) [] in
    pick (nat_lt u d) (u ∷ (d ∷ rest)) (pick (u == d) (u ∷ rest) (d ∷ (u ∷ rest)))

-- the sizes of steps are u, d and, if there are fewer than a + b notes, u + d
abbrev pub SizesListed : Type 0
SizesListed = (t : Tuning) (B : BasisOf t) → sizes t ≡ in_order B.basis.u B.basis.d (nat_lt t.notes (B.basis.a + B.basis.b))

-- how many of n steps are so large: n - a of them are u, a + b - n are u + d, and n - b are d
abbrev pub so_many : ℕ → ℕ → ℕ → ℕ → ℕ → ℕ → ℕ
so_many n a b u d s = pick (u == s) (n - a) 0 + pick (u + d == s) (a + b - n) 0 + pick (d == s) (n - b) 0

abbrev pub StepsCounted : Type 0
StepsCounted =
    (t : Tuning) (B : BasisOf t) (s : ℕ) →
    so_large t s t.notes ≡ so_many t.notes B.basis.a B.basis.b B.basis.u B.basis.d s

-- of one note by itself: the step is the octave, the next note is the note itself, and there is one size, once
abbrev pub NoteAlone : Type 0
NoteAlone =
    (t : Tuning) → 0 < t.octave → t.notes ≡ 1 →
    (step t 0 ≡ t.octave) × (next t 0 ≡ 1) × (sizes t ≡ t.octave ∷ []) × ((s : ℕ) → so_large t s t.notes ≡ pick (t.octave == s) 1 0)

-- a scale of one note is whole, and a scale of two notes or more just if it has a + b
abbrev pub WholeJustIf : Type 0
WholeJustIf =
    ((t : Tuning) → t.notes ≡ 1 → is_whole t ≡ true) × ((t : Tuning) (B : BasisOf t) → (is_whole t ≡ true) ↔ (t.notes ≡ B.basis.a + B.basis.b))

-- from the tuning's number of notes on, the first that makes a whole scale is a + b
abbrev pub FirstWhole : Type 0
FirstWhole =
    (t : Tuning) (B : BasisOf t) →
    let c : ℕ = B.basis.a + B.basis.b in
    (t.notes ≤ c) × (is_whole (with_notes t c) ≡ true) × ((m : ℕ) → t.notes ≤ m → m < c → is_whole (with_notes t m) ≡ false)

-- the next note stands one place higher, and the one after the last place at place 0
abbrev pub NextPlace : Type 0
NextPlace =
    (t : Tuning) (k : ℕ) → Taken t → k < t.notes →
    (0 < next t k) × (next t k ≤ t.notes) × (place t (next t k - 1) ≡ suc (place t k) % t.notes)

-- places go by height
abbrev pub PlacesByHeight : Type 0
PlacesByHeight = (t : Tuning) (j k : ℕ) → j < t.notes → k < t.notes → (place t j < place t k) ↔ (note t j < note t k)

-- two notes have different places
abbrev pub PlacesDiffer : Type 0
PlacesDiffer = (t : Tuning) (j k : ℕ) → Taken t → j < t.notes → k < t.notes → place t j ≡ place t k → j ≡ k

-- places are 0 to n - 1, and at each of them stands a note
abbrev pub PlacesFilled : Type 0
PlacesFilled =
    (t : Tuning) → Taken t →
    ((k : ℕ) → k < t.notes → place t k < t.notes) × ((p : ℕ) → p < t.notes → (k : ℕ) × (k < t.notes) × (place t k ≡ p))

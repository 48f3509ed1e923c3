-- The heights of a sum and of a difference of notes, and those with the interval down.
use Rattle.std.proofs.Common.{◌≡◌, ℕ, suc, ◌+◌, ◌-◌, ◌*◌, ◌/◌, ◌%◌, ◌<◌, mod-lt, add-mul, arith}
use Rattle.std.proofs.Math.Nat.{add-mod}
use Rattle.scale.specs.Notes.{note}
use Rattle.scale.specs.Laws.{HeightsAdd, HeightsSubtract, HeightsDown}
use Rattle.scale.proofs.Octaves.{remainder_is}
use Rattle.scale.proofs.Ways.{WayIn, way_is, note_low}

pub heights_add : HeightsAdd
heights_add t j k = grind (arith, add-mul, add-mod)

pub heights_subtract : HeightsSubtract
heights_subtract t j k pos later =
    let N : ℕ = t.octave in
    let h : ℕ = note t (j - k) in
    let low = note_low t pos (j - k) in
    let j_intervals : k * t.interval + (j - k) * t.interval ≡ j * t.interval = grind arith in
    let up : WayIn t k j h = record { c = (j - k) * t.interval / N; e = 0; is = omega arith } in
    let back : WayIn t j k ((N - h) % N) = record { c = (N - h) / N; e = suc ((j - k) * t.interval / N); is = omega arith } in
    (way_is t pos k j h low up, way_is t pos j k ((N - h) % N) (mod-lt (N - h) pos) back)

-- an interval of g up is one of f down, where both together are an octave: what becomes of the height of note k
pub height_down : {N : ℕ} (g f k : ℕ) → 0 < N → g + f ≡ N → k * f % N ≡ (N - k * g % N) % N
height_down {N} g f k pos octave =
    let both : k * g + k * f ≡ k * N = grind arith in
    let h : ℕ = k * g % N in
    remainder_is N (k * f) ((N - h) % N) (suc (k * g / N)) (k + (N - h) / N) (mod-lt (N - h) pos) (omega arith)

pub heights_down : HeightsDown
heights_down t k pos small = height_down t.interval (t.octave - t.interval) k pos (omega arith)

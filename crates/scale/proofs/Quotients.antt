-- What quotients of products come to, rounded up too, and where the turns round the octave begin.
use Rattle.std.proofs.Common.{◌≡◌, ℕ, suc, ◌+◌, ◌-◌, ◌*◌, ◌/◌, ◌%◌, ◌<◌, ap, inl, inr, arith}
use Rattle.std.proofs.lemmas.Bool.{cases_lt}
use Rattle.scale.specs.Quotients.{ceiling, shortfall}
use Rattle.scale.specs.Laws.{QuotientSmall, CeilingLeast, ShortfallLeast, TurnsBegin}
use Rattle.scale.proofs.Octaves.{remainder_is}

pub quotient_small : QuotientSmall
quotient_small = grind arith

pub ceiling_least : CeilingLeast
ceiling_least = grind arith

shortfall_fills : (m g : ℕ) → 0 < g → (c : ℕ) × (m + shortfall m g ≡ c * g)
shortfall_fills m g some =
    elim (cases_lt 0 (m % g)) [
      | inl rest ↦ (suc (m / g), grind arith)
      | inr none ↦ (m / g, grind arith)
    ]

pub shortfall_least : ShortfallLeast
shortfall_least m g some = (grind arith, shortfall_fills m g some, grind arith)

pub turns_begin : TurnsBegin
turns_begin N g w some =
    let m : ℕ = ceiling (w * N) g * g in
    let filled = shortfall_fills N g some in
    let w_times = ap (λ x. w * x) filled.1 in
    let rest = remainder_is g (w * shortfall N g) (m - w * N) (ceiling (w * N) g) (w * filled.0) (omega arith) (omega arith) in
    let begins : m ≡ w * N + w * shortfall N g % g = omega arith in
    (begins, λ fits. remainder_is N m (w * shortfall N g % g) 0 w (omega arith) (omega arith))

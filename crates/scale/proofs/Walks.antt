-- After m steps from note k of a whole scale one stands at note k + m a - c n, and c of the steps are d. From two notes c differs by one at most, so
-- that the two spans are equal or differ by as much as u and d.
use Rattle.std.proofs.Common.{◌≡◌, ℕ, zero, suc, ◌+◌, ◌-◌, ◌*◌, ◌<◌, ◌≤◌, false, ◌⊎◌, List, length, slice_index, ap, inl, inr, lt_of_mul-lt-mul_right, arith}
use Rattle.std.proofs.lemmas.Bool.{cases_lt, cases_order, le-ltb}
use Rattle.scale.specs.Notes.{Tuning}
use Rattle.scale.specs.Promise.{span, Spans}
use Rattle.scale.specs.Basis.{BasisOf}
use Rattle.scale.specs.Laws.{in_order}
use Rattle.scale.proofs.Growth.{basis_exists}
use Rattle.scale.proofs.Steps.{steps_by_basis}
use Rattle.scale.proofs.Sizes.{sizes_listed}
use Rattle.scale.proofs.Whole.{whole_as_sum}

-- two spans are the same, or the one has a step of size d where the other has one of size u
abbrev Near : ℕ → ℕ → ℕ → ℕ → Type 0
Near u d v w = (v ≡ w) ⊎ ((v + d ≡ w + u) ⊎ (v + u ≡ w + d))

module _ {t : Tuning} (B : BasisOf t) where
  open B.basis use {a, b, u, d}

  -- m steps from note k: x of them are u and c are d
  record Walk (k m : ℕ) : Type 0 where
    c : ℕ
    x : ℕ
    r : ℕ
    r_there : r < t.notes
    ends : k + m * a ≡ r + c * t.notes
    all : x + c ≡ m
    sum : span t k m ≡ x * u + c * d

  module _ (whole : t.notes ≡ a + b) where
    walk : (m k : ℕ) → k < t.notes → Walk k m
    unfolding span
    walk zero k there = record { c = 0; x = 0; r = k; r_there = there; ends = omega arith; all = omega arith; sum = omega arith }
    walk (suc m) k there =
        let is = steps_by_basis t B k there in
        elim (cases_lt k b) [
          | inl near ↦
              let W = walk m (k + a) (omega arith) in
              record { c = W.c; x = suc W.x; r = W.r; r_there = W.r_there; ends = omega arith; all = omega arith; sum = grind arith }
          | inr far ↦
              let W = walk m (k - b) (omega arith) in
              record { c = suc W.c; x = W.x; r = W.r; r_there = W.r_there; ends = omega arith; all = omega arith; sum = grind arith }
        ]

    -- one more step of size d at most
    one_more_at_most : (m j k : ℕ) (V : Walk j m) (W : Walk k m) → j < t.notes → V.c < 2 + W.c
    one_more_at_most m j k V W there = lt_of_mul-lt-mul_right t.notes {m = V.c} {n = 2 + W.c} (omega arith)

    -- `grind` doesn't put one number of steps for the other in a product, so each product is given
    spans_near : (m j k : ℕ) → j < t.notes → k < t.notes → Near u d (span t j m) (span t k m)
    spans_near m j k j_there k_there =
        let V = walk m j j_there in
        let W = walk m k k_there in
        elim (cases_order V.c W.c) [
          | inl same ↦
              let x : V.x ≡ W.x = omega arith in
              inl (omega (arith, ap (λ v. v * d) same, ap (λ v. v * u) x))
          | inr (inl fewer) ↦
              let c : V.c + 1 ≡ W.c = omega (arith, one_more_at_most m k j W V k_there) in
              let x : V.x ≡ W.x + 1 = omega arith in
              inr (inl (omega (arith, ap (λ v. v * d) c, ap (λ v. v * u) x)))
          | inr (inr more) ↦
              let c : V.c ≡ W.c + 1 = omega (arith, one_more_at_most m j k V W j_there) in
              let x : V.x + 1 ≡ W.x = omega arith in
              inr (inr (omega (arith, ap (λ v. v * d) c, ap (λ v. v * u) x)))
        ]

-- two sizes at most, and two spans that are the same or differ by as much as the sizes
abbrev TwoSizes : List ℕ → ℕ → ℕ → Type 0
TwoSizes xs v w = (length xs ≤ 2) × ((v ≡ w) ⊎ ((v + (slice_index xs 1 - slice_index xs 0) ≡ w) ⊎ (w + (slice_index xs 1 - slice_index xs 0) ≡ v)))

near_two : (u d v w : ℕ) → Near u d v w → TwoSizes (in_order u d false) v w
unfolding in_order
near_two u d v w near = grind arith

pub spans : Spans
unfolding Spans
spans t j k n T whole many j_there k_there few =
    let B = basis_exists t T many in
    let all : t.notes ≡ B.basis.a + B.basis.b = (whole_as_sum B).0 whole in
    rw (sizes_listed t B, le-ltb t.notes (B.basis.a + B.basis.b) (omega arith))
    (near_two B.basis.u B.basis.d (span t j n) (span t k n) (spans_near B all n j k j_there k_there))

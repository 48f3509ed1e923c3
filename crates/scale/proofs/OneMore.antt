-- One note more cuts one step in two, and leaves every other as it was: the basis stays, or one of its notes comes nearer.
use Rattle.std.proofs.Common.{◌≡◌, ℕ, suc, ◌+◌, ◌-◌, ◌<◌, ◌≢◌, inl, inr, arith}
use Rattle.std.proofs.lemmas.Bool.{cases_lt}
use Rattle.scale.specs.Notes.{Tuning, step}
use Rattle.scale.specs.Promise.{Taken, with_notes, OneMore}
use Rattle.scale.specs.Basis.{BasisOf, AllDifferent}
use Rattle.scale.proofs.Growth.{stays, nears_above, nears_below, ends, grows, basis_at, basis_above, basis_below}
use Rattle.scale.proofs.Growth.{not_all_different, basis_of}
use Rattle.scale.proofs.Steps.{steps_by_basis, alone}

abbrev with_one_more : Tuning → Tuning
with_one_more t = with_notes t (suc t.notes)

-- one step is cut in two, and no other
abbrev Cut : Tuning → Type 0
Cut t =
    (k : ℕ) × (k < t.notes) × (step (with_one_more t) k + step (with_one_more t) t.notes ≡ step t k)
    × ((j : ℕ) → j < t.notes → j ≢ k → step (with_one_more t) j ≡ step t j)

module _ {t : Tuning} (B : BasisOf t) where
  open B.basis use {a, b, u, d}

  -- u + d is cut into u and d
  cut_stays : t.notes < a + b → Cut t
  cut_stays more =
      let C : BasisOf (with_one_more t) = basis_at B (suc t.notes) (omega arith) more in
      let was = steps_by_basis t B in
      let is = steps_by_basis (with_one_more t) C in
      let k : ℕ = t.notes - a in
      (k, omega arith, grind arith, λ j there other. grind arith)

  -- u is cut into what is left of it and d
  cut_above : t.notes ≡ a + b → (v : ℕ) → d + v ≡ u → 0 < v → Cut t
  cut_above all v left some =
      let C : BasisOf (with_one_more t) = basis_above B all v left some in
      let was = steps_by_basis t B in
      let is = steps_by_basis (with_one_more t) C in
      (0, omega arith, grind arith, λ j there other. grind arith)

  -- d is cut into u and what is left of it
  cut_below : t.notes ≡ a + b → (v : ℕ) → u + v ≡ d → 0 < v → Cut t
  cut_below all v left some =
      let C : BasisOf (with_one_more t) = basis_below B all v left some in
      let was = steps_by_basis t B in
      let is = steps_by_basis (with_one_more t) C in
      (b, omega arith, grind arith, λ j there other. grind arith)

  cut : AllDifferent (with_one_more t) → Cut t
  cut differ =
      elim (grows B) [
        | stays more ↦ cut_stays more
        | nears_above all v left some ↦ cut_above all v left some
        | nears_below all v left some ↦ cut_below all v left some
        | ends all same ↦ absurd (not_all_different B.basis same (suc t.notes) (omega arith) differ)
      ]

-- the octave is cut into u and d
cut_alone : (t : Tuning) → 0 < t.octave → t.notes ≡ 1 → BasisOf (with_one_more t) → Cut t
cut_alone t pos one C =
    let is = steps_by_basis (with_one_more t) C in
    (0, omega arith, grind (arith, (alone t pos one).step_is), λ j there other. absurd (omega arith))

pub one_more : OneMore
unfolding OneMore Taken
one_more t T some =
    elim (cases_lt 1 t.notes) [
      | inl many ↦ cut (basis_of t T.2 many (λ j k less there. T.5 j k less (omega arith))) T.5
      | inr few ↦ cut_alone t T.0 (omega arith) (basis_of (with_one_more t) T.2 (omega arith) T.5)
    ]

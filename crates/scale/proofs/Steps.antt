-- The step from every note and the note after it, from the basis of a tuning.
use Rattle.std.proofs.Common.{◌≡◌, ℕ, suc, ◌+◌, ◌-◌, ◌*◌, ◌%◌, ◌<◌, ◌≤◌, ◌⊎◌, sym, refl, ◌∙◌, inl, inr, arith}
use Rattle.std.proofs.Math.Nat.{add-mod_right, mod-mod}
use Rattle.std.proofs.lemmas.Bool.{cases_lt}
use Rattle.scale.specs.Notes.{Tuning, note, step, next, before}
use Rattle.scale.specs.Promise.{Taken, ByRules}
use Rattle.scale.specs.Basis.{BasisOf, AllDifferent}
use Rattle.scale.specs.Laws.{BasisTold, StepsByBasis}
use Rattle.scale.proofs.Basis.{octave_some, fits, fits_short, way_above, way_below, way_both}
use Rattle.scale.proofs.Growth.{different, basis_exists, one_note, has_basis, one_or_more}
use Rattle.scale.proofs.Ways.{WayIn, way, way_short, way_goes, way_is, way_lands}
use Rattle.scale.proofs.Rules.{rule_above, rule_below, rule_both}
use Rattle.scale.proofs.Loops.{way_up_is, next_in_is, before_in_is}

-- the step from note k is s, and leads to note j
pub record Goes (t : Tuning) (k s j : ℕ) : Type 0 where
  pub there : j < t.notes
  pub some : 0 < s
  pub short : s ≤ t.octave
  pub step_is : step t k ≡ s
  pub next_is : next t k ≡ suc j
  pub lands : (note t k + s) % t.octave ≡ note t j
  pub least : (i : ℕ) → i < t.notes → (way t k i ≡ 0) ⊎ (s ≤ way t k i)

-- notes at the same height are the same
pub same_note : (t : Tuning) → AllDifferent t → (i j : ℕ) → i < t.notes → j < t.notes → note t i ≡ note t j → i ≡ j
same_note t differ i j i_there j_there level = grind arith

-- a way that no other is shorter than is the step
goes : (t : Tuning) → AllDifferent t → (k s j : ℕ) → 0 < s → s ≤ t.octave → j < t.notes → (note t k + s) % t.octave ≡ note t j →
    (t.octave ≡ s) ⊎ ((i : ℕ) × (i < t.notes) × (way t k i ≡ s)) → ((i : ℕ) → i < t.notes → (way t k i ≡ 0) ⊎ (s ≤ way t k i)) → Goes t k s j
goes t differ k s j some short there lands is least =
    let step_is : step t k ≡ s = way_up_is t k s t.notes t.octave some short least is in
    let leads : (note t k + step t k) % t.octave ≡ note t j = rw step_is lands in
    let next_is : next t k ≡ suc j = next_in_is t k j t.notes there (sym leads) (λ i h e. same_note t differ i j h there (e ∙ leads)) in
    assumption

module _ {t : Tuning} (B : BasisOf t) where
  open B.basis use {a, b, u, d}

  goes_by : (k s j : ℕ) → 0 < s → s < t.octave → j < t.notes → WayIn t k j s →
      ((i w : ℕ) → i < t.notes → w < t.octave → WayIn t k i w → (w ≡ 0) ⊎ (s ≤ w)) → Goes t k s j
  goes_by k s j some short there W rule =
      let pos = octave_some B.basis in
      let least = λ (i : ℕ) (i_there : i < t.notes). rule i (way t k i) i_there (way_short t pos k i) (way_goes t pos k i) in
      goes t (different B) k s j some (omega arith) there (way_lands t pos k j s W) (inr (j, there, way_is t pos k j s short W)) least

  pub goes_above : (k : ℕ) → k + a < t.notes → Goes t k u (k + a)
  goes_above k there =
      let short : u < t.octave = omega arith in
      let W = way_above B.basis k in
      goes_by k u (k + a) B.basis.some_u short there W (λ i w i_there w_short W. rule_above B (omega arith) i_there w_short W there)

  pub goes_both : (k : ℕ) → t.notes ≤ k + a → k < b → Goes t k (u + d) (k + a - b)
  goes_both k far near =
      let some : 0 < u + d = omega arith in
      let short : u + d < t.octave = fits_short B.basis (omega arith) in
      let there : k + a - b < t.notes = omega arith in
      let W = way_both B.basis k (k + a - b) (omega arith) in
      goes_by k (u + d) (k + a - b) some short there W (λ i w i_there w_short W. rule_both B (omega arith) i_there w_short W far near)

  pub goes_below : (k : ℕ) → k < t.notes → b ≤ k → Goes t k d (k - b)
  goes_below k k_there far =
      let short : d < t.octave = omega (arith, fits B.basis) in
      let W = way_below B.basis k (k - b) (omega arith) in
      goes_by k d (k - b) B.basis.some_d short (omega arith) W (λ i w i_there w_short W. rule_below B k_there i_there w_short W far)

-- the three rules
pub steps_by_basis : StepsByBasis
steps_by_basis t B k there = (
  λ on. let G = goes_above B k on in (G.step_is, G.next_is),
  λ far near. let G = goes_both B k far near in (G.step_is, G.next_is),
  λ back. let G = goes_below B k there back in (G.step_is, G.next_is),
)

module _ {t : Tuning} (B : BasisOf t) where
  open B.basis use {a, b}

  pub next_zero : next t 0 ≡ suc a
  next_zero = grind (arith, steps_by_basis t B 0 (omega arith))

  pub before_is : before t ≡ suc b
  before_is =
      before_in_is t b t.notes B.b_there (grind (arith, steps_by_basis t B b B.b_there)) (λ i there is. grind (arith, steps_by_basis t B i there))

-- a note alone: the step is the octave, and leads back to it
pub alone : (t : Tuning) → 0 < t.octave → t.notes ≡ 1 → Goes t 0 t.octave 0
alone t pos one = goes t (λ j k less there. absurd (omega arith)) 0 t.octave 0 pos (omega arith) (omega arith) lands (inl refl) least
  where
    lands : (note t 0 + t.octave) % t.octave ≡ note t 0
    lands = add-mod_right (note t 0) t.octave ∙ mod-mod (0 * t.interval) t.octave

    least : (i : ℕ) → i < t.notes → (way t 0 i ≡ 0) ⊎ (t.octave ≤ way t 0 i)
    least i there = grind arith

-- every note of a taken tuning has a step and a next note
pub goes_on : (t : Tuning) → Taken t → (k : ℕ) → k < t.notes → (s : ℕ) × (j : ℕ) × Goes t k s j
goes_on t T k k_there =
    elim (one_or_more t T) [
      | one_note pos one ↦ (let first : 0 ≡ k = omega arith in (t.octave, k, rw first at (alone t pos one)))
      | has_basis B ↦ elim (cases_lt (k + B.basis.a) t.notes) [
        | inl there ↦ (_, _, goes_above B k there)
        | inr far ↦ elim (cases_lt k B.basis.b) [
          | inl near ↦ (_, _, goes_both B k far near)
          | inr there ↦ (_, _, goes_below B k k_there there)
        ]
      ]
    ]

pub basis_told : BasisTold
basis_told t B = grind (arith, before_is B, steps_by_basis t B 0 (omega arith), steps_by_basis t B B.basis.b B.b_there)

pub by_rules : ByRules
unfolding ByRules
by_rules t k T many there =
    let B = basis_exists t T many in
    grind (arith, next_zero B, before_is B, steps_by_basis t B k there)

-- Three rules: from note k no way to another note is shorter than u, if note k + a is there; than d, if k is at least b; and than u + d, if neither
-- holds. If one were, what is left of u, of d, or of that way, would be too short a way between two notes.
use Rattle.std.proofs.Common.{◌≡◌, ℕ, ◌+◌, ◌-◌, ◌<◌, ◌≤◌, ◌⊎◌, sym, inl, inr, arith}
use Rattle.std.proofs.lemmas.Bool.{cases_order}
use Rattle.scale.specs.Notes.{Tuning}
use Rattle.scale.specs.Basis.{BasisOf}
use Rattle.scale.proofs.Ways.{WayIn, way_rest, way_first, way_to_same}
use Rattle.scale.proofs.Basis.{way_above, way_below, far_later, far_earlier}

module _ {t : Tuning} (B : BasisOf t) {k j w : ℕ} (k_there : k < t.notes) (j_there : j < t.notes)
    (short : w < t.octave) (W : WayIn t k j w) where
  open B.basis use {a, b, u, d}

  -- it is note k itself, or the way is at least d to an earlier note and at least u to a later one
  far : (w ≡ 0) ⊎ (((j < k) × (d ≤ w)) ⊎ ((k < j) × (u ≤ w)))
  far =
      elim (cases_order j k) [
        | inl same ↦ inl (way_to_same W short (sym same))
        | inr (inl earlier) ↦ inr (inl (earlier, far_earlier B.basis W earlier (omega arith)))
        | inr (inr later) ↦ inr (inr (later, far_later B.basis W later (omega arith)))
      ]

  pub rule_above : k + a < t.notes → (w ≡ 0) ⊎ (u ≤ w)
  rule_above there =
      let V = way_above B.basis k in
      let rest = λ (earlier : j < k) (less : w < u). far_later B.basis (way_rest W (u - w) (omega arith) V) (omega arith) (omega arith) in
      grind (arith, far)

  pub rule_below : b ≤ k → (w ≡ 0) ⊎ (d ≤ w)
  rule_below there =
      let V = way_below B.basis k (k - b) (omega arith) in
      let rest = λ (later : k < j) (less : w < d). far_earlier B.basis (way_rest W (d - w) (omega arith) V) (omega arith) (omega arith) in
      grind (arith, far)

  pub rule_both : t.notes ≤ k + a → k < b → (w ≡ 0) ⊎ (u + d ≤ w)
  rule_both above near =
      let U = way_above B.basis k in
      let V = way_below B.basis (j + b) j (omega arith) in
      let u_more = λ (earlier : j < k) (d_far : d ≤ w). far_later B.basis (way_first V (w - d) (omega arith) W) (omega arith) (omega arith) in
      let d_more = λ (later : k < j) (u_far : u ≤ w). far_earlier B.basis (way_rest U (w - u) (omega arith) W) (omega arith) (omega arith) in
      grind (arith, far)

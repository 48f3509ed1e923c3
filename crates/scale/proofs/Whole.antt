-- A scale is whole just if it has one note or a + b notes. So the first whole scale of n notes or more has a + b.
use Rattle.std.proofs.Common.{◌≡◌, ℕ, ◌+◌, ◌<◌, true, false, ◌↔◌, arith}
use Rattle.scale.specs.Notes.{Tuning, is_whole}
use Rattle.scale.specs.Basis.{BasisOf}
use Rattle.scale.specs.Laws.{WholeJustIf, FirstWhole}
use Rattle.scale.proofs.Growth.{basis_at}
use Rattle.scale.proofs.Steps.{next_zero, before_is}

module _ {t : Tuning} (B : BasisOf t) where
  open B.basis use {a, b}

  pub whole_as_sum : (is_whole t ≡ true) ↔ (t.notes ≡ a + b)
  whole_as_sum = grind (arith, next_zero B, before_is B)

  not_whole : t.notes < a + b → is_whole t ≡ false
  not_whole less = grind (arith, next_zero B, before_is B)

pub whole_just_if : WholeJustIf
whole_just_if = (λ t one. grind arith, λ t B. whole_as_sum B)

pub first_whole : FirstWhole
first_whole t B =
    let c : ℕ = B.basis.a + B.basis.b in
    let whole = (whole_as_sum (basis_at B c B.reach (omega arith))).1 (omega arith) in
    (B.reach, whole, λ m from less. not_whole (basis_at B m from (omega arith)) less)

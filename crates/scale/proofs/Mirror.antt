-- The interval down in place of up: the two notes of the basis are exchanged, and so are u and d. The sizes of steps, and how many there are of each,
-- stay.
use Rattle.std.proofs.Common.{◌≡◌, ℕ, ◌+◌, ◌-◌, ◌<◌, Bool, sym, ◌∙◌, mod-eq_of_lt, arith}
use Rattle.scale.specs.Notes.{Tuning, so_large, sizes}
use Rattle.scale.specs.Promise.{Taken, Downwards}
use Rattle.scale.specs.Basis.{Basis, BasisOf}
use Rattle.scale.specs.Laws.{in_order, down}
use Rattle.scale.proofs.Heights.{height_down}
use Rattle.scale.proofs.Basis.{octave_some, fits}
use Rattle.scale.proofs.Growth.{one_note, has_basis, one_or_more}
use Rattle.scale.proofs.Sizes.{sizes_listed, steps_counted, note_alone}

mirrored : {N g : ℕ} (f : ℕ) → g + f ≡ N → Basis N g → Basis N f
mirrored {N} {g} f octave B =
    let small : d < N = omega (arith, fits B) in
    record {
      a = b;
      b = a;
      u = d;
      d = u;
      above = grind (arith, height_down g f b (octave_some B) octave, mod-eq_of_lt {n = d});
      below = grind (arith, height_down g f a (octave_some B) octave, mod-eq_of_lt {n = N - u});
      fills = omega arith;
      some_a = B.some_b;
      some_b = B.some_a;
      some_u = B.some_d;
      some_d = B.some_u;
    }
  where
    open B use {a, b, u, d}

mirrored_order : (u d : ℕ) (both : Bool) → in_order d u both ≡ in_order u d both
unfolding in_order
mirrored_order u d both = grind arith

module _ {t : Tuning} (small : t.interval < t.octave) (B : BasisOf t) where
  basis_down : BasisOf (down t)
  unfolding mirrored
  basis_down =
      record {
        basis = mirrored (t.octave - t.interval) (omega arith) B.basis;
        a_there = B.b_there;
        b_there = B.a_there;
        reach = omega arith;
      }

  sizes_down : sizes (down t) ≡ sizes t
  unfolding mirrored basis_down
  sizes_down = grind (arith, sizes_listed (down t) basis_down, sizes_listed t B, mirrored_order)

  steps_counted_down : (s : ℕ) → so_large (down t) s t.notes ≡ so_large t s t.notes
  unfolding mirrored basis_down
  steps_counted_down s = grind (arith, steps_counted t B s, steps_counted (down t) basis_down s)

pub downwards : Downwards
unfolding Downwards Taken
downwards t s T some =
    elim (one_or_more t T) [
      | one_note pos one ↦
          let from_up = note_alone t pos one in
          let from_down = note_alone (down t) pos one in
          (from_down.2 ∙ sym from_up.2, from_down.3 s ∙ sym (from_up.3 s))
      | has_basis B ↦ (sizes_down T.2 B, steps_counted_down T.2 B s)
    ]

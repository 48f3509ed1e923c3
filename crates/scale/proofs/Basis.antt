-- Of notes 1 to a + b - 1 none is less than u above note 0, and none less than d below it. So, of any two of the first a + b notes, it is at least u up
-- to the one with the larger number, and at least d up to the other.
use Rattle.std.proofs.Common.{◌≡◌, ℕ, suc, ◌+◌, ◌-◌, ◌*◌, ◌/◌, ◌%◌, ◌<◌, ◌≤◌, ◌≢◌, sym, ap, inl, inr, mul-le-mul_right, mul-le-mul_left, mul-pos, arith}
use Rattle.std.proofs.Math.Nat.{eq_of_mul-eq-mul_right}
use Rattle.std.proofs.lemmas.Bool.{cases_lt}
use Rattle.scale.specs.Basis.{Basis}
use Rattle.scale.specs.Laws.{NoNoteNearer}
use Rattle.scale.proofs.Octaves.{octaves_above, some_octaves}
use Rattle.scale.proofs.Ways.{Way, way_from_zero, way_to_zero}

-- What both gaps come to, in numbers alone: for the one above note 0, h is how far note i is above it, and for the one below it a and b, and u and d,
-- are exchanged. Either h is u times x and some more, or i is a times x and b times y, with x and y above 0.
nearest : (N a b u d i h c e m k : ℕ) → 0 < N → a * d + b * u ≡ N → 0 < i → 0 < d → i * d + h * b + c * N ≡ e * N →
    i * u + m * N ≡ a * h + k * N → i < a + b → u ≤ h
nearest N a b u d i h c e m k pos fills i_some d_some whole apart first =
    let x = octaves_above N (i * d + h * b) 0 c e pos (omega arith) (omega arith) in
    let some : 0 < x.0 = some_octaves N x.0 (i * d + h * b) (omega (arith, mul-pos i_some d_some)) (omega arith) in
    elim (cases_lt (a * h) (i * u)) [
      | inr few ↦
          let z = octaves_above N (a * h) (i * u) k m pos (sym apart) few in
          let h_fills = ap (λ v. h * v) fills in
          let h_is : h * N ≡ (u * x.0 + z.0 * d) * N = omega (arith, ap (λ v. v * d) z.1, ap (λ v. v * u) x.1) in
          omega (arith, eq_of_mul-eq-mul_right N pos h (u * x.0 + z.0 * d) h_is, mul-le-mul_left u some)
      | inl many ↦
          let y = octaves_above N (i * u) (a * h) m k pos apart (omega arith) in
          let more : 0 < y.0 = some_octaves N y.0 (i * u - a * h) (omega arith) (omega arith) in
          let i_fills = ap (λ v. i * v) fills in
          let i_is : i * N ≡ (a * x.0 + b * y.0) * N = omega (arith, ap (λ v. v * b) y.1, ap (λ v. v * a) x.1) in
          omega (arith, eq_of_mul-eq-mul_right N pos i (a * x.0 + b * y.0) i_is, mul-le-mul_left a some, mul-le-mul_left b more)
    ]

module _ {N g : ℕ} (B : Basis N g) where
  open B use {a, b, u, d}

  -- with whole octaves: a intervals are p octaves and u more, and b intervals are d short of q octaves
  pub p : ℕ
  p = a * g / N

  pub q : ℕ
  q = suc (b * g / N)

  pub a_intervals : a * g ≡ p * N + u
  unfolding p
  a_intervals = omega arith

  pub b_intervals : b * g + d ≡ q * N
  unfolding q
  b_intervals = omega arith

  pub octave_some : 0 < N
  octave_some = grind arith

  -- u and d together fit into the octave, and fill it for a = b = 1 alone
  pub fits : u + d ≤ N
  fits = grind arith

  pub fits_short : 2 < a + b → u + d < N
  fits_short more =
      elim (cases_lt 1 a) [
        | inl two ↦ omega (arith, mul-le-mul_right d two, mul-le-mul_right u B.some_b)
        | inr one ↦
            let two : 2 ≤ b = omega arith in
            omega (arith, mul-le-mul_right d B.some_a, mul-le-mul_right u two)
      ]

  -- the ways that it gives from every note
  pub way_above : (k : ℕ) → Way N g k (k + a) u
  way_above k = record { c = p; e = 0; is = omega (arith, a_intervals) }

  pub way_below : (k j : ℕ) → j + b ≡ k → Way N g k j d
  way_below k j back = record { c = 0; e = q; is = omega (arith, b_intervals, ap (λ x. x * g) back) }

  pub way_both : (k j : ℕ) → j + b ≡ k + a → Way N g k j (u + d)
  way_both k j back = record { c = p; e = q; is = omega (arith, a_intervals, b_intervals, ap (λ x. x * g) back) }

  -- note i of the first a + b is not in the gap above note 0, nor in the gap below it
  gap_above : (i h : ℕ) → 0 < i → i < a + b → Way N g 0 i h → u ≤ h
  gap_above i h some first W =
      let up = ap (λ v. a * v) W.is in
      let down = ap (λ v. b * v) W.is in
      let a_up = ap (λ v. i * v) a_intervals in
      let b_down = ap (λ v. i * v) b_intervals in
      nearest N a b u d i h (b * W.c) (i * q + b * W.e) (i * p + a * W.e) (a * W.c)
      octave_some B.fills some B.some_d (omega arith) (omega arith) first

  gap_below : (i h : ℕ) → 0 < i → i < a + b → Way N g i 0 h → d ≤ h
  gap_below i h some first W =
      let up = ap (λ v. a * v) W.is in
      let down = ap (λ v. b * v) W.is in
      let a_up = ap (λ v. i * v) a_intervals in
      let b_down = ap (λ v. i * v) b_intervals in
      let fills : b * u + a * d ≡ N = omega arith in
      nearest N b a d u i h (i * p + a * W.c) (a * W.e) (b * W.e) (i * q + b * W.c)
      octave_some fills some B.some_u (omega arith) (omega arith) (omega arith)

  -- so it is at least u up to a note with a larger number, if that is larger by less than a + b, and at least d up to one with a smaller number
  pub far_later : {k j w : ℕ} → Way N g k j w → k < j → j < k + (a + b) → u ≤ w
  far_later {k} {j} {w} W later near = gap_above (j - k) w (omega arith) (omega arith) (way_from_zero W (j - k) (omega arith))

  pub far_earlier : {k j w : ℕ} → Way N g k j w → j < k → k < j + (a + b) → d ≤ w
  far_earlier {k} {j} {w} W earlier near = gap_below (k - j) w (omega arith) (omega arith) (way_to_zero W (k - j) (omega arith))

  -- and no two of the first a + b are at the same height
  pub first_different : (i j : ℕ) → i < j → j < a + b → i * g % N ≢ j * g % N
  first_different i j less first level =
      let W : Way N g i j 0 = record { c = j * g / N; e = i * g / N; is = omega arith } in
      omega (arith, far_later W less (omega arith))

pub no_note_nearer : NoNoteNearer
no_note_nearer N g B j some first =
    let up : Way N g 0 j (j * g % N) = record { c = j * g / N; e = 0; is = omega arith } in
    let down : Way N g j 0 (N - j * g % N) = record { c = 0; e = suc (j * g / N); is = omega arith } in
    (far_later B up some (omega arith), omega (arith, far_earlier B down some (omega arith)))

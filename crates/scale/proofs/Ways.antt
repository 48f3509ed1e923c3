-- Ways up from one note to another: so many units, but for whole octaves.
use Rattle.std.proofs.Common.{◌≡◌, ℕ, suc, ◌+◌, ◌-◌, ◌*◌, ◌/◌, ◌%◌, ◌<◌, ◌≤◌, ap, inl, inr, mod-lt, mod-eq_of_lt, arith}
use Rattle.std.proofs.Math.Nat.{mod-add-mod, add-mul-mod_self_right}
use Rattle.std.proofs.lemmas.Bool.{cases_lt}
use Rattle.scale.specs.Notes.{Tuning, note}
use Rattle.scale.proofs.Octaves.{remainder_is, same_below}

-- w up from note k is note j, if c octaves are added to the one and e to the other
pub record Way (N g k j w : ℕ) : Type 0 where
  pub c : ℕ
  pub e : ℕ
  pub is : k * g + w + c * N ≡ j * g + e * N

module _ {N g k j w : ℕ} (W : Way N g k j w) where
  -- a way depends on the notes' numbers only by their difference
  pub way_from_zero : (i : ℕ) → k + i ≡ j → Way N g 0 i w
  way_from_zero i later = record { c = W.c; e = W.e; is = omega (arith, ap (λ x. x * g) later) }

  pub way_to_zero : (i : ℕ) → j + i ≡ k → Way N g i 0 w
  way_to_zero i earlier = record { c = W.c; e = W.e; is = omega (arith, ap (λ x. x * g) earlier) }

  -- what is left of a longer way
  pub way_rest : {i x : ℕ} (v : ℕ) → w + v ≡ x → Way N g k i x → Way N g j i v
  way_rest v left V = record { c = W.e + V.c; e = W.c + V.e; is = omega arith }

  -- and what came before its last part
  pub way_first : {i x : ℕ} (v : ℕ) → v + w ≡ x → Way N g i j x → Way N g i k v
  way_first v left V = record { c = W.e + V.c; e = W.c + V.e; is = omega arith }

  -- the way to the note itself is 0
  pub way_to_same : w < N → k ≡ j → w ≡ 0
  way_to_same short same = same_below N w 0 W.c W.e short (omega arith) (omega (arith, ap (λ x. x * g) same))

abbrev pub WayIn : Tuning → ℕ → ℕ → ℕ → Type 0
WayIn t = Way t.octave t.interval

-- the way as the definitions measure it
abbrev pub way : Tuning → ℕ → ℕ → ℕ
way t k j = (note t j + t.octave - note t k) % t.octave

module _ (t : Tuning) (pos : 0 < t.octave) where
  pub note_low : (k : ℕ) → note t k < t.octave
  note_low k = mod-lt (k * t.interval) pos

  pub way_short : (k j : ℕ) → way t k j < t.octave
  way_short k j = mod-lt (note t j + t.octave - note t k) pos

  -- to a higher note it stays within the octave, and to a lower one it goes over the octave's end
  pub way_to_higher : (k j : ℕ) → note t k ≤ note t j → note t k + way t k j ≡ note t j
  way_to_higher k j up =
      omega (arith, remainder_is t.octave (note t j + t.octave - note t k) (note t j - note t k) 0 1 (omega arith) (omega arith))

  pub way_to_lower : (k j : ℕ) → note t j < note t k → note t k + way t k j ≡ note t j + t.octave
  way_to_lower k j down = grind (arith, mod-eq_of_lt)

  pub way_goes : (k j : ℕ) → WayIn t k j (way t k j)
  way_goes k j =
      elim (cases_lt (note t j) (note t k)) [
        | inl down ↦
            let over = way_to_lower k j down in
            record { c = j * t.interval / t.octave; e = suc (k * t.interval / t.octave); is = omega arith }
        | inr up ↦
            let within = way_to_higher k j up in
            record { c = j * t.interval / t.octave; e = k * t.interval / t.octave; is = omega arith }
      ]

  -- every way shorter than an octave is so measured, and leads where it should
  pub way_is : (k j w : ℕ) → w < t.octave → WayIn t k j w → way t k j ≡ w
  way_is k j w short W =
      let V = way_goes k j in
      same_below t.octave (way t k j) w (V.c + W.e) (W.c + V.e) (way_short k j) short (omega arith)

  pub way_lands : (k j w : ℕ) → WayIn t k j w → (note t k + w) % t.octave ≡ note t j
  way_lands k j w W =
      let k_round = add-mul-mod_self_right (k * t.interval + w) W.c t.octave in
      let j_round = add-mul-mod_self_right (j * t.interval) W.e t.octave in
      cc (mod-add-mod (k * t.interval) t.octave w)

-- Numbers that differ by whole octaves. An equation between them has multiples of the octave on both sides, so that nothing is taken away.
use Rattle.std.proofs.Common.{◌≡◌, ℕ, ◌+◌, ◌-◌, ◌*◌, ◌%◌, ◌<◌, ◌≤◌, ap, mod-eq_of_lt, le_of_mul-le-mul_right, arith}
use Rattle.std.proofs.Math.Nat.{add-sub_of_le, add-mul-mod_self_right}

-- the larger is so many octaves above the other; `grind` doesn't cancel the octave, so the number is given
pub octaves_above : (N m k c e : ℕ) → 0 < N → m + c * N ≡ k + e * N → k ≤ m → (z : ℕ) × (m ≡ k + z * N)
octaves_above N m k c e pos apart above =
    let fewer : c ≤ e = le_of_mul-le-mul_right {k = N} (omega arith) pos in
    (e - c, omega (arith, ap (λ v. v * N) (add-sub_of_le fewer)))

-- the one below the octave is the remainder of the other, and two below it are the same
pub remainder_is : (N m h c e : ℕ) → h < N → m + c * N ≡ h + e * N → m % N ≡ h
remainder_is N m h c e low apart = cc (add-mul-mod_self_right m c N, add-mul-mod_self_right h e N, mod-eq_of_lt low)

pub same_below : (N v w c e : ℕ) → v < N → w < N → v + c * N ≡ w + e * N → v ≡ w
same_below N v w c e v_low w_low apart = cc (mod-eq_of_lt v_low, remainder_is N v w c e w_low apart)

-- a multiple of the octave that is not 0 is one octave at least
pub some_octaves : (N x m : ℕ) → 0 < m → m ≡ x * N → 0 < x
some_octaves N x m some e = grind arith

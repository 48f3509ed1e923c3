-- Something done with every step in turn, be it to add them up, to count some of them or to list their sizes, is done n - a times with u, then
-- a + b - n times with u + d, and then n - b times with d.
use Rattle.std.proofs.Common.{◌≡◌, ℕ, zero, suc, ◌+◌, ◌-◌, ◌*◌, ◌<◌, ◌≤◌, ◌==◌, [], refl, ap, ◌∙◌, add-zero, arith}
use Rattle.std.proofs.Math.Nat.{add-suc}
use Rattle.scale.specs.Notes.{pick, Tuning, step, so_large, put_in, sizes_in}
use Rattle.scale.specs.Promise.{all_steps, GoRound}
use Rattle.scale.specs.Basis.{BasisOf}
use Rattle.scale.proofs.Growth.{one_note, has_basis, one_or_more}
use Rattle.scale.proofs.Steps.{goes_above, goes_both, goes_below, alone}

-- how many steps are u, u + d and d
module _ {t : Tuning} (B : BasisOf t) where
  open B.basis use {a, b}

  abbrev pub many_u : ℕ
  many_u = t.notes - a

  abbrev pub many_both : ℕ
  many_both = a + b - t.notes

  abbrev pub many_d : ℕ
  many_d = t.notes - b

module _ {A : Type 0} where
  -- f done with each of the first m steps
  unfoldable pub over_steps : (ℕ → A → A) → A → Tuning → ℕ → A
  over_steps f z t zero = z
  over_steps f z t (suc m) = f (step t m) (over_steps f z t m)

  -- f done i times
  unfoldable pub times : ℕ → (A → A) → A → A
  times zero f z = z
  times (suc i) f z = f (times i f z)

  -- steps m to m + i - 1 are all s
  stretch : (f : ℕ → A → A) (z : A) (t : Tuning) (s m i : ℕ) → ((k : ℕ) → m ≤ k → k < m + i → step t k ≡ s) →
      over_steps f z t (m + i) ≡ times i (f s) (over_steps f z t m)
  unfolding over_steps times
  stretch f z t s m zero all = rw add-zero
  stretch f z t s m (suc i) all =
      rw (add-suc, all (m + i) (omega arith) (omega arith), stretch f z t s m i (λ k from below. all k from (omega arith)))

  module _ {t : Tuning} (B : BasisOf t) where
    open B.basis use {u, d}

    pub over_all : (f : ℕ → A → A) (z : A) →
        over_steps f z t t.notes ≡ times (many_d B) (f d) (times (many_both B) (f (u + d)) (times (many_u B) (f u) z))
    unfolding over_steps
    over_all f z =
        let x : ℕ = many_u B in
        let w : ℕ = many_both B in
        let y : ℕ = many_d B in
        let first : x ≡ 0 + x = omega arith in
        let all : t.notes ≡ x + w + y = omega arith in
        let ups = stretch f z t u 0 x (λ k from below. (goes_above B k (omega arith)).step_is) in
        let boths = stretch f z t (u + d) x w (λ k from below. (goes_both B k (omega arith) (omega arith)).step_is) in
        let downs = stretch f z t d (x + w) y (λ k from below. (goes_below B k (omega arith) (omega arith)).step_is) in
        cc

  -- with one note there is the octave alone
  pub over_one : (t : Tuning) → 0 < t.octave → t.notes ≡ 1 → (f : ℕ → A → A) (z : A) → over_steps f z t t.notes ≡ f t.octave z
  unfolding over_steps
  over_one t pos one f z = cc ((alone t pos one).step_is)

-- three things that are done with every step
all_steps_over : (t : Tuning) (m : ℕ) → all_steps t m ≡ over_steps (λ s l. s + l) 0 t m
unfolding all_steps over_steps
all_steps_over t zero = refl
all_steps_over t (suc m) = rw (all_steps_over t m)

pub so_large_over : (t : Tuning) (s m : ℕ) → so_large t s m ≡ over_steps (λ x l. pick (x == s) 1 0 + l) 0 t m
unfolding so_large over_steps
so_large_over t s zero = refl
so_large_over t s (suc m) = rw (so_large_over t s m)

pub sizes_over : (t : Tuning) (m : ℕ) → sizes_in t m ≡ over_steps put_in [] t m
unfolding sizes_in over_steps
sizes_over t zero = refl
sizes_over t (suc m) = rw (sizes_over t m)

-- a number added i times
added : (i s z : ℕ) → times i (λ l. s + l) z ≡ i * s + z
unfolding times
added zero s z = omega arith
added (suc i) s z = omega (arith, added i s z)

module _ {t : Tuning} (B : BasisOf t) where
  open B.basis use {u, d}

  -- the sum of what f makes of each step
  pub sum_all : (f : ℕ → ℕ) → over_steps (λ s l. f s + l) 0 t t.notes ≡ many_u B * f u + many_both B * f (u + d) + many_d B * f d
  sum_all f = over_all B (λ s l. f s + l) 0 ∙ simp added (omega arith)

  steps_together : all_steps t t.notes ≡ t.octave
  steps_together =
      let ups : (many_u B + many_both B) * u ≡ B.basis.b * u = ap (λ v. v * u) (omega arith) in
      let downs : (many_both B + many_d B) * d ≡ B.basis.a * d = ap (λ v. v * d) (omega arith) in
      omega (arith, all_steps_over t t.notes, sum_all (λ s. s))

pub go_round : GoRound
unfolding GoRound
go_round t T =
    elim (one_or_more t T) [
      | one_note pos one ↦ all_steps_over t t.notes ∙ over_one t pos one (λ s l. s + l) 0 ∙ add-zero t.octave
      | has_basis B ↦ steps_together B
    ]

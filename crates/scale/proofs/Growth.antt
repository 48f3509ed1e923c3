-- A basis grows: the farther of its two notes is exchanged for one that is nearer by the other's distance, or by k times that at once. The row of
-- bases that begins with note 1 on both sides reaches every number of notes, unless it ends at u = d: then note a + b is as high as note 0.
use Rattle.std.proofs.Common.{◌≡◌, ℕ, zero, suc, ◌+◌, ◌-◌, ◌*◌, ◌%◌, ◌<◌, ◌≤◌, ◌≢◌, refl, sym, ap, inl, inr, arith}
use Rattle.std.proofs.Math.Nat.{add-mul-mod_self_right}
use Rattle.std.proofs.lemmas.Bool.{cases_lt, cases_order}
use Rattle.scale.specs.Notes.{Tuning}
use Rattle.scale.specs.Promise.{Taken, with_notes}
use Rattle.scale.specs.Basis.{Basis, BasisOf, AllDifferent}
use Rattle.scale.specs.Laws.{BasisBegins, BasisGrows, BasisExists, IntervalNeeded, RepeatsJustIf}
use Rattle.scale.proofs.Octaves.{remainder_is}
use Rattle.scale.proofs.Basis.{p, q, a_intervals, b_intervals, first_different}

-- the row begins with note 1 on both sides
abbrev pub first_basis : {N g : ℕ} → 0 < g → g < N → Basis N g
first_basis {N} {g} some small =
    let height : 1 * g % N ≡ g = remainder_is N (1 * g) g 0 0 small (omega arith) in
    record {
      a = 1;
      b = 1;
      u = g;
      d = N - g;
      above = height;
      below = omega arith;
      fills = omega arith;
      some_a = omega arith;
      some_b = omega arith;
      some_u = some;
      some_d = omega arith;
    }

module _ {N g : ℕ} (B : Basis N g) (k v : ℕ) where
  open B use {a, b, u, d}

  -- k steps at once that bring the note above nearer: v of its distance is left
  abbrev pub nearer_above : k * d + v ≡ u → 0 < v → Basis N g
  nearer_above left some =
      let k_times = ap (λ x. k * x) (b_intervals B) in
      let apart : (a + k * b) * g + 0 * N ≡ v + (p B + k * q B) * N = omega (arith, a_intervals B) in
      record {
        a = a + k * b;
        b = b;
        u = v;
        d = d;
        above = remainder_is N ((a + k * b) * g) v 0 (p B + k * q B) (omega arith) apart;
        below = B.below;
        fills = omega (arith, ap (λ x. b * x) left);
        some_a = omega arith;
        some_b = B.some_b;
        some_u = some;
        some_d = B.some_d;
      }

  -- and the note below
  abbrev pub nearer_below : k * u + v ≡ d → 0 < v → Basis N g
  nearer_below left some =
      let k_times = ap (λ x. k * x) (a_intervals B) in
      let apart : (b + k * a) * g + 1 * N ≡ N - v + (q B + k * p B) * N = omega (arith, b_intervals B) in
      let height = remainder_is N ((b + k * a) * g) (N - v) 1 (q B + k * p B) (omega arith) apart in
      record {
        a = a;
        b = b + k * a;
        u = u;
        d = v;
        above = B.above;
        below = omega arith;
        fills = omega (arith, ap (λ x. a * x) left);
        some_a = B.some_a;
        some_b = omega arith;
        some_u = B.some_u;
        some_d = some;
      }

pub basis_begins : BasisBegins
basis_begins N g some small = (first_basis some small, refl, refl, refl, refl)

pub basis_grows : BasisGrows
basis_grows N g B k v some = (
  λ left. (nearer_above B k v left some, refl, refl, refl, refl),
  λ left. (nearer_below B k v left some, refl, refl, refl, refl),
)

module _ {N g : ℕ} (B : Basis N g) where
  open B use {a, b, u, d}

  -- at u = d the notes repeat after the first a + b
  pub note_again : u ≡ d → (k : ℕ) → (k + (a + b)) * g % N ≡ k * g % N
  note_again same k =
      let round : (k + (a + b)) * g ≡ k * g + (p B + q B) * N = omega (arith, a_intervals B, b_intervals B) in
      cc (add-mul-mod_self_right (k * g) (p B + q B) N)

  pub not_all_different : u ≡ d → (n : ℕ) → a + b < n → ((j k : ℕ) → j < k → k < n → j * g % N ≢ k * g % N) → ⊥
  not_all_different same n early differ = differ 0 (0 + (a + b)) (omega arith) (omega arith) (sym (note_again same 0))

-- what one note more does to the basis of a tuning
pub data Grows {t : Tuning} (B : BasisOf t) : Type 0 where
  stays : t.notes < B.basis.a + B.basis.b → Grows B
  nears_above : t.notes ≡ B.basis.a + B.basis.b → (v : ℕ) → B.basis.d + v ≡ B.basis.u → 0 < v → Grows B
  nears_below : t.notes ≡ B.basis.a + B.basis.b → (v : ℕ) → B.basis.u + v ≡ B.basis.d → 0 < v → Grows B
  ends : t.notes ≡ B.basis.a + B.basis.b → B.basis.u ≡ B.basis.d → Grows B

module _ {t : Tuning} (B : BasisOf t) where
  open B.basis use {a, b, u, d}

  pub grows : Grows B
  grows =
      elim (cases_lt t.notes (a + b)) [
        | inl more ↦ stays more
        | inr all ↦ elim (cases_order u d) [
          | inl same ↦ ends (omega arith) same
          | inr (inl less) ↦ nears_below (omega arith) (d - u) (omega arith) (omega arith)
          | inr (inr more) ↦ nears_above (omega arith) (u - d) (omega arith) (omega arith)
        ]
      ]

  -- up to a + b notes the basis is the same
  abbrev pub basis_at : (m : ℕ) → t.notes ≤ m → m ≤ a + b → BasisOf (with_notes t m)
  basis_at m from upto = record { basis = B.basis; a_there = omega arith; b_there = omega arith; reach = upto }

  -- for one note more it is the next of the row
  abbrev pub basis_above : t.notes ≡ a + b → (v : ℕ) → d + v ≡ u → 0 < v → BasisOf (with_notes t (suc t.notes))
  basis_above all v left some =
      record {
        basis = nearer_above B.basis 1 v (omega arith) some;
        a_there = omega arith;
        b_there = omega arith;
        reach = omega arith;
      }

  abbrev pub basis_below : t.notes ≡ a + b → (v : ℕ) → u + v ≡ d → 0 < v → BasisOf (with_notes t (suc t.notes))
  basis_below all v left some =
      record {
        basis = nearer_below B.basis 1 v (omega arith) some;
        a_there = omega arith;
        b_there = omega arith;
        reach = omega arith;
      }

-- how the row ends for a tuning of two notes or more
pub data RowEnd (t : Tuning) : Type 0 where
  reached : BasisOf t → RowEnd t
  repeats : (B : Basis t.octave t.interval) → B.u ≡ B.d → B.a + B.b < t.notes → RowEnd t

module _ (t : Tuning) (some : 0 < t.interval) (small : t.interval < t.octave) where
  row_of : (n : ℕ) → 1 < n → RowEnd (with_notes t n)
  row_of zero many = absurd (omega arith)
  row_of (suc zero) many = absurd (omega arith)
  row_of (suc (suc zero)) many = reached record { basis = first_basis some small; a_there = omega arith; b_there = omega arith; reach = omega arith }
  row_of (suc (suc (suc m))) many =
      elim (row_of (suc (suc m)) (omega arith)) [
        | repeats B same early ↦ repeats B same (omega arith)
        | reached B ↦ elim (grows B) [
          | stays more ↦ reached (basis_at B _ (omega arith) more)
          | nears_above all v left some ↦ reached (basis_above B all v left some)
          | nears_below all v left some ↦ reached (basis_below B all v left some)
          | ends all same ↦ repeats B.basis same (omega arith)
        ]
      ]

  pub row_end : 1 < t.notes → RowEnd t
  row_end many = row_of t.notes many

-- the notes of a tuning that has a basis are all different
pub different : {t : Tuning} → BasisOf t → AllDifferent t
different B j k less there = first_different B.basis j k less (omega arith)

-- so the notes are not all different just if the row ends at u = d before it reaches them
pub repeats_just_if : RepeatsJustIf
repeats_just_if t some small many = (
  λ repeat. elim (row_end t some small many) [
    | reached B ↦ absurd (repeat (different B))
    | repeats B same early ↦ (B, same, early)
  ],
  λ end. not_all_different end.0 end.1 t.notes end.2,
)

-- if the interval is 0, note 1 is as high as note 0
pub interval_needed : IntervalNeeded
interval_needed = grind arith

-- every tuning of two notes or more, all of them different, has a basis
pub basis_of : (t : Tuning) → t.interval < t.octave → 1 < t.notes → AllDifferent t → BasisOf t
basis_of t small many differ =
    elim (row_end t (interval_needed t many differ) small many) [
      | reached B ↦ B
      | repeats B same early ↦ absurd (not_all_different B same t.notes early differ)
    ]

pub basis_exists : BasisExists
unfolding Taken
basis_exists t T many = basis_of t T.2 many T.5

-- a taken tuning has one note, or it has a basis
pub data OneOrMore (t : Tuning) : Type 0 where
  one_note : 0 < t.octave → t.notes ≡ 1 → OneOrMore t
  has_basis : BasisOf t → OneOrMore t

pub one_or_more : (t : Tuning) → Taken t → OneOrMore t
unfolding Taken
one_or_more t T =
    elim (cases_lt 1 t.notes) [
      | inl many ↦ has_basis (basis_exists t T many)
      | inr few ↦ one_note T.0 (omega arith)
    ]

-- A row of notes that passes a test is the scale: every note of the tuning stands in it, and each is lower than the one after it. The first is then
-- note 0, and the second and the last are the two of the basis, which tell the sizes of steps.
use Rattle.std.proofs.Common.{◌≡◌, ℕ, suc, ◌+◌, ◌-◌, ◌%◌, ◌<◌, ◌≤◌, Bool, true, ◌&&◌, ◌==◌, nat_lt, nat_le, List, [], ◌∷◌, length, slice_index, sym, refl, ap, ◌∙◌, inl, inr, mod-lt, mod-eq_of_lt, arith}
use Rattle.std.specs.Str.{bytes_eq}
use Rattle.std.proofs.lemmas.Slice.Eq.{bytes_eq-Decides}
use Rattle.std.proofs.lemmas.Bool.Decides.{Decides-eqb, Decides-ltb}
use Rattle.std.proofs.lemmas.Bool.{and_parts, cases_lt, leb-true, eqb-true}
use Rattle.scale.specs.Notes.{Tuning, note, place, next, so_large, sizes}
use Rattle.scale.specs.Range.{octave_fits, interval_fits, notes_fit}
use Rattle.scale.specs.Promise.{Taken}
use Rattle.scale.specs.Basis.{BasisOf, AllDifferent}
use Rattle.scale.specs.Laws.{in_order, so_many}
use Rattle.scale.specs.Scales.{sizes_of, AsMany, WrittenOut, FiveFifths, SevenFifths, SevenInTwelve}
use Rattle.scale.proofs.Below.{all_below, some_below, all_below_is, some_below_is, grows_more}
use Rattle.scale.proofs.Basis.{octave_some}
use Rattle.scale.proofs.Growth.{basis_exists}
use Rattle.scale.proofs.Steps.{goes_below, goes_on, next_zero}
use Rattle.scale.proofs.Sizes.{sizes_listed, steps_counted}
use Rattle.scale.proofs.Places.{place_there, place_rises, same_place, place_zero, place_of_next}

module _ (t : Tuning) (row : List ℕ) where
  abbrev at : ℕ → ℕ
  at i = slice_index row i

  -- the test: the numbers are in range, as many notes stand in the row, each is one of the tuning's, each of the tuning's is there, and they rise
  abbrev in_range : Bool
  in_range = octave_fits t.octave && (interval_fits t.octave t.interval && notes_fit t.octave t.notes)

  abbrev is_note : ℕ → Bool
  is_note i = nat_lt (at i) t.notes

  abbrev is_there : ℕ → Bool
  is_there k = some_below (λ i. at i == k) t.notes

  abbrev is_lower : ℕ → Bool
  is_lower i = nat_lt (note t (at i)) (note t (at (suc i)))

  abbrev is_row : Bool
  is_row =
      in_range && (length row == t.notes && (all_below is_note t.notes && (all_below is_there t.notes && all_below is_lower (t.notes - 1))))

  -- what it says
  record Row : Type 0 where
    ranged : in_range ≡ true
    long : length row ≡ t.notes
    there : (i : ℕ) → i < t.notes → at i < t.notes
    all : (k : ℕ) → k < t.notes → (i : ℕ) × (i < t.notes) × (at i ≡ k)
    rises : (i : ℕ) → suc i < t.notes → note t (at i) < note t (at (suc i))

  row_tested : is_row ≡ true → Row
  row_tested passed =
      let (ranged, p) = and_parts _ _ passed in
      let (long, q) = and_parts _ _ p in
      let (there, r) = and_parts _ _ q in
      let (all, rises) = and_parts _ _ r in
      let is_at = λ (k : ℕ). some_below_is (λ i. at i == k) (λ i. at i ≡ k) (λ i. Decides-eqb (at i) k) t.notes in
      let lower = λ (i : ℕ). Decides-ltb (note t (at i)) (note t (at (suc i))) in
      record {
        ranged = ranged;
        long = eqb-true _ _ long;
        there = (all_below_is is_note (λ i. at i < t.notes) (λ i. Decides-ltb (at i) t.notes) t.notes).0 there;
        all = (all_below_is is_there (λ k. (i : ℕ) × (i < t.notes) × (at i ≡ k)) is_at t.notes).0 all;
        rises = λ i less. (all_below_is is_lower (λ i. note t (at i) < note t (at (suc i))) lower (t.notes - 1)).0 rises i (omega arith);
      }

module _ {t : Tuning} {row : List ℕ} (R : Row t row) where
  row_rises : (i j : ℕ) → i < j → j < t.notes → note t (at t row i) < note t (at t row j)
  row_rises i j less there =
      let more = grows_more (λ x. x) (λ x. note t (at t row x)) i j (omega arith) (λ x from below. omega arith) in
      omega arith

  row_differs : AllDifferent t
  row_differs j k less there level =
      let (x, x_there, x_is) = R.all j (omega arith) in
      let (y, y_there, y_is) = R.all k there in
      grind (arith, row_rises x y, row_rises y x)

  row_taken : Taken t
  unfolding Taken
  row_taken = grind (arith, row_differs)

  places_rise : (m n : ℕ) → m ≤ n → n < t.notes → n + place t (at t row m) ≤ place t (at t row n) + m
  places_rise m n up there = grows_more (λ x. x) (λ x. place t (at t row x)) m n up (λ x from below. grind (arith, place_rises))

  -- n places that rise, all below n, are 0 to n - 1
  row_places : (i : ℕ) → i < t.notes → place t (at t row i) ≡ i
  row_places i there =
      let last : ℕ = t.notes - 1 in
      let in_row = place_there t (at t row last) (R.there last (omega arith)) in
      omega (arith, places_rise 0 i (omega arith) there, places_rise i last (omega arith) (omega arith))

  row_nexts : (i : ℕ) → i < t.notes → next t (at t row i) ≡ suc (at t row (suc i % t.notes))
  row_nexts i there =
      let pos : 0 < t.octave = grind arith in
      let x : ℕ = suc i % t.notes in
      let x_there : x < t.notes = mod-lt (suc i) (omega arith) in
      let (s, j, G) = goes_on t row_taken (at t row i) (R.there i there) in
      let from = place_of_next t pos row_differs (at t row i) s j (R.there i there) G in
      let same = from ∙ ap (λ p. suc p % t.notes) (row_places i there) ∙ sym (row_places x x_there) in
      G.next_is ∙ ap suc (same_place t pos row_differs j (at t row x) G.there (R.there x x_there) same)

  module _ (B : BasisOf t) where
    open B.basis use {a, b, u, d}

    row_first : at t row 0 ≡ 0
    row_first =
        let pos = octave_some B.basis in
        let some : 0 < t.notes = omega arith in
        same_place t pos row_differs (at t row 0) 0 (R.there 0 some) some (row_places 0 some ∙ sym (place_zero t pos row_differs some))

    row_second : at t row 1 ≡ a
    row_second =
        let one : 1 % t.notes ≡ 1 = mod-eq_of_lt (omega arith) in
        omega (arith, row_nexts 0 (omega arith), ap (next t) row_first, ap (at t row) one, next_zero B)

    row_last : at t row (t.notes - 1) ≡ b
    row_last =
        let (i, there, is) = R.all b B.b_there in
        let x : ℕ = suc i % t.notes in
        let x_there : x < t.notes = mod-lt (suc i) (omega arith) in
        let back : at t row x ≡ 0 = omega (arith, (goes_below B b B.b_there (omega arith)).next_is, row_nexts i there, ap (next t) is) in
        let first : x ≡ 0 = sym (row_places x x_there) ∙ ap (place t) (back ∙ sym row_first) ∙ row_places 0 (omega arith) in
        elim (cases_lt (suc i) t.notes) [
          | inl less ↦ absurd (omega (arith, mod-eq_of_lt less))
          | inr end ↦ (let last : t.notes - 1 ≡ i = omega arith in ap (at t row) last ∙ is)
        ]

    row_up : note t (at t row 1) ≡ u
    row_up = ap (note t) row_second ∙ B.basis.above

    row_down : t.octave - note t (at t row (t.notes - 1)) ≡ d
    row_down = omega (arith, ap (note t) row_last)

-- the sizes and how many there are of each, told by the second note and the last
module _ (t : Tuning) (row : List ℕ) where
  abbrev sizes_told : List ℕ
  sizes_told =
      let a : ℕ = at t row 1 in
      let b : ℕ = at t row (t.notes - 1) in
      in_order (note t a) (t.octave - note t b) (nat_lt t.notes (a + b))

  abbrev many_told : ℕ → ℕ
  many_told s =
      let a : ℕ = at t row 1 in
      let b : ℕ = at t row (t.notes - 1) in
      so_many t.notes a b (note t a) (t.octave - note t b) s

  abbrev all_told : List (ℕ × ℕ) → Bool
  all_told [] = true
  all_told (x ∷ xs) = many_told x.0 == x.1 && all_told xs

  abbrev pub writes_out : List (ℕ × ℕ) → Bool
  writes_out steps = is_row t row && (nat_le 2 t.notes && (bytes_eq sizes_told (sizes_of steps) && all_told steps))

module _ {t : Tuning} {row : List ℕ} (R : Row t row) (B : BasisOf t) where
  sizes_so : sizes t ≡ sizes_told t row
  sizes_so = rw (row_up R B, row_down R B, row_second R B, row_last R B) (sizes_listed t B)

  many_so : (s : ℕ) → so_large t s t.notes ≡ many_told t row s
  many_so s = rw (row_up R B, row_down R B, row_second R B, row_last R B) (steps_counted t B s)

  all_so : (steps : List (ℕ × ℕ)) → all_told t row steps ≡ true → AsMany t steps
  all_so [] told = tt
  all_so (x ∷ xs) told =
      let (here, later) = and_parts _ _ told in
      (many_so x.0 ∙ eqb-true _ _ here, all_so xs later)

-- a row of two notes or more that passes the test is the scale
pub written_out : (t : Tuning) (row : List ℕ) (steps : List (ℕ × ℕ)) → writes_out t row steps ≡ true → WrittenOut t row steps
written_out t row steps passed =
    let (is_row, p) = and_parts _ _ passed in
    let (many, q) = and_parts _ _ p in
    let (listed, told) = and_parts _ _ q in
    let R = row_tested t row is_row in
    let B = basis_exists t (row_taken R) (leb-true _ _ many) in
    record {
      taken = row_taken R;
      row_length = R.long;
      row_notes = R.there;
      places = row_places R;
      nexts = row_nexts R;
      all_sizes = sizes_so R B ∙ (bytes_eq-Decides (sizes_told t row) (sizes_of steps)).0 listed;
      as_many = all_so R B steps told;
    }

pub five_fifths : FiveFifths
unfolding in_order
five_fifths = written_out _ _ _ refl

pub seven_fifths : SevenFifths
unfolding in_order
seven_fifths = written_out _ _ _ refl

pub seven_in_twelve : SevenInTwelve
unfolding in_order
seven_in_twelve = written_out _ _ _ refl

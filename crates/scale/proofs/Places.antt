-- Where notes stand: from one note to the next the place rises by one, and from the last place it goes to 0.
use Rattle.std.proofs.Common.{◌≡◌, ℕ, zero, suc, ◌+◌, ◌-◌, ◌%◌, ◌<◌, ◌≤◌, ◌≢◌, ◌⊎◌, sym, ap, ◌∙◌, mod-eq_of_lt, arith}
use Rattle.std.proofs.Math.Nat.{mod_self}
use Rattle.scale.specs.Notes.{Tuning, note, up_to, place, next}
use Rattle.scale.specs.Promise.{Taken}
use Rattle.scale.specs.Basis.{AllDifferent}
use Rattle.scale.specs.Laws.{NextPlace, PlacesByHeight, PlacesDiffer, PlacesFilled}
use Rattle.scale.proofs.Ways.{way_to_higher, way_to_lower}
use Rattle.scale.proofs.Steps.{Goes, goes_on}
use Rattle.scale.proofs.Counts.{at_most, all_counted, one_counted, counts_itself, rises_over, rises_by_one}

module _ (t : Tuning) where
  -- of the notes up to a note's height all but the note itself count for its place
  pub place_counts : (k : ℕ) → k < t.notes → up_to t (note t k) t.notes ≡ suc (place t k)
  place_counts k there = grind (arith, counts_itself)

  pub place_there : (k : ℕ) → k < t.notes → place t k < t.notes
  place_there k there = omega (arith, at_most t (note t k) t.notes)

  -- the higher note has the higher place
  pub place_rises : (j k : ℕ) → j < t.notes → k < t.notes → note t j < note t k → place t j < place t k
  place_rises j k j_there k_there less = grind (arith, place_counts, rises_over)

module _ (t : Tuning) (pos : 0 < t.octave) (differ : AllDifferent t) where
  pub same_place : (j k : ℕ) → j < t.notes → k < t.notes → place t j ≡ place t k → j ≡ k
  same_place j k j_there k_there same = grind (arith, place_rises)

  -- a step that stays within the octave
  step_within : (k s j : ℕ) → k < t.notes → Goes t k s j → note t k + s < t.octave → place t j ≡ suc (place t k)
  step_within k s j there G within =
      let higher : note t k < note t j = omega (arith, lands) in
      let one_more = rises_by_one t (note t k) (note t j) j t.notes G.there higher (omega arith) others in
      omega (arith, place_counts t k there)
    where
      lands : note t k + s ≡ note t j
      lands = sym (mod-eq_of_lt within) ∙ G.lands

      others : (i : ℕ) → i < t.notes → i ≢ j → (note t i ≤ note t k) ⊎ (note t j < note t i)
      others i i_there other = grind (arith, way_to_higher)

  pub place_zero : 0 < t.notes → place t 0 ≡ 0
  place_zero some = omega (arith, one_counted t (note t 0) 0 t.notes some (omega arith) others)
    where
      others : (i : ℕ) → i < t.notes → i ≢ 0 → note t 0 < note t i
      others i there other = grind arith

  -- a step over the octave's end
  step_over : (k s j : ℕ) → k < t.notes → Goes t k s j → t.octave ≤ note t k + s → (suc (place t k) ≡ t.notes) × (j ≡ 0)
  step_over k s j there G over = (omega (arith, all_counted t (note t k) t.notes none_higher), first)
    where
      none_higher : (i : ℕ) → i < t.notes → note t i ≤ note t k
      none_higher i i_there = grind (arith, way_to_higher t pos k i)

      -- note 0 is no farther than the octave's end
      end : note t k + s ≡ t.octave
      end = grind (arith, way_to_lower t pos k 0)

      first : j ≡ 0
      first = grind (arith, end, mod_self)

  pub place_of_next : (k s j : ℕ) → k < t.notes → Goes t k s j → place t j ≡ suc (place t k) % t.notes
  place_of_next k s j there G = grind (arith, step_within, mod-eq_of_lt, place_there, step_over, place_zero, mod_self)

-- at every place there is a note: go on from note 0 as many times
note_at_place : (t : Tuning) → Taken t → (p : ℕ) → p < t.notes → (k : ℕ) × (k < t.notes) × (place t k ≡ p)
unfolding Taken
note_at_place t T zero there = (0, there, place_zero t T.0 T.5 there)
note_at_place t T (suc p) there =
    let (k, k_there, at_p) = note_at_place t T p (omega arith) in
    let (s, j, G) = goes_on t T k k_there in
    (j, G.there, place_of_next t T.0 T.5 k s j k_there G ∙ ap (λ x. suc x % t.notes) at_p ∙ mod-eq_of_lt there)

pub next_place : NextPlace
unfolding Taken
next_place t k T there =
    let (s, j, G) = goes_on t T k there in
    let e : next t k - 1 ≡ j = omega arith in
    (omega arith, omega arith, ap (place t) e ∙ place_of_next t T.0 T.5 k s j there G)

pub places_by_height : PlacesByHeight
places_by_height t j k j_there k_there = grind (arith, place_rises)

pub places_differ : PlacesDiffer
unfolding Taken
places_differ t j k T = same_place t T.0 T.5 j k

pub places_filled : PlacesFilled
places_filled t T = (place_there t, note_at_place t T)

-- How many of the first n notes are up to a height. Only the first two lemmas look into the definition.
use Rattle.std.proofs.Common.{◌≡◌, ℕ, suc, ◌<◌, ◌≤◌, ◌≢◌, ◌⊎◌, refl, arith}
use Rattle.scale.specs.Notes.{Tuning, note, up_to}
use Rattle.scale.proofs.Below.{grows_more}

module _ (t : Tuning) where
  pub none_yet : (h : ℕ) → up_to t h 0 ≡ 0
  unfolding up_to
  none_yet h = refl

  -- note n counts or it does not
  pub counted : (h n : ℕ) → ((note t n ≤ h) × (up_to t h (suc n) ≡ suc (up_to t h n))) ⊎ ((h < note t n) × (up_to t h (suc n) ≡ up_to t h n))
  unfolding up_to
  counted h n = grind arith

  pub at_most : (h n : ℕ) → up_to t h n ≤ n
  at_most h n =
      let more = grows_more (up_to t h) (λ i. i) 0 n (omega arith) (λ i from there. omega (arith, counted h i)) in
      omega (arith, none_yet h)

  pub all_counted : (h n : ℕ) → ((i : ℕ) → i < n → note t i ≤ h) → up_to t h n ≡ n
  all_counted h n all =
      let more = grows_more (λ i. i) (up_to t h) 0 n (omega arith) (λ i from there. omega (arith, counted h i)) in
      omega (arith, at_most h n)

  -- some note counts if one is that low
  pub counts_itself : (h j n : ℕ) → j < n → note t j ≤ h → 0 < up_to t h n
  counts_itself h j n there low =
      let after = grows_more (λ i. 0) (up_to t h) (suc j) n there (λ i from there. omega (arith, counted h i)) in
      omega (arith, counted h j)

  -- it alone, if all others are higher
  pub one_counted : (h j n : ℕ) → j < n → note t j ≤ h → ((i : ℕ) → i < n → i ≢ j → h < note t i) → up_to t h n ≡ 1
  one_counted h j n there low others =
      let before = grows_more (up_to t h) (λ i. 0) 0 j (omega arith) (λ i from l. omega (arith, counted h i)) in
      let after = grows_more (up_to t h) (λ i. 0) (suc j) n there (λ i from l. omega (arith, counted h i)) in
      omega (arith, none_yet h, counted h j, counts_itself h j n there low)

  -- up to a larger height there are more, if a note lies between
  pub rises_over : (h x j n : ℕ) → j < n → h < note t j → note t j ≤ x → up_to t h n < up_to t x n
  rises_over h x j n there above upto =
      let before = grows_more (up_to t h) (up_to t x) 0 j (omega arith) (λ i from l. omega (arith, counted h i, counted x i)) in
      let after = grows_more (up_to t h) (up_to t x) (suc j) n there (λ i from l. omega (arith, counted h i, counted x i)) in
      omega (arith, none_yet h, counted h j, counted x j)

  -- one more, if note j does and no other
  pub rises_by_one : (h x j n : ℕ) → j < n → h < note t j → note t j ≤ x → ((i : ℕ) → i < n → i ≢ j → (note t i ≤ h) ⊎ (x < note t i)) →
      up_to t x n ≡ suc (up_to t h n)
  rises_by_one h x j n there above upto others =
      let before = grows_more (up_to t x) (up_to t h) 0 j (omega arith) (λ i from l. omega (arith, counted h i, counted x i)) in
      let after = grows_more (up_to t x) (up_to t h) (suc j) n there (λ i from l. omega (arith, counted h i, counted x i)) in
      omega (arith, none_yet x, counted h j, counted x j, rises_over h x j n there above upto)

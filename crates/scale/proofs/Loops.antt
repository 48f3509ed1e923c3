-- What the loops of the definitions come to: the least of all ways, and the one note at which a test holds.
use Rattle.std.proofs.Common.{◌≡◌, ℕ, zero, suc, ◌+◌, ◌%◌, ◌<◌, ◌≤◌, ◌&&◌, nat_lt, ◌⊎◌, inl, inr, arith}
use Rattle.scale.specs.Notes.{pick, Tuning, note, step, way_up, next_in, next, before_in}
use Rattle.scale.proofs.Ways.{way}

-- w if it is a way and shorter than l, else l
abbrev shorter : ℕ → ℕ → ℕ
shorter w l = pick (nat_lt 0 w && nat_lt w l) w l

-- no way to the first n notes is shorter than s, and one is s unless l is
pub way_up_is : (t : Tuning) (k s n l : ℕ) → 0 < s → s ≤ l → ((i : ℕ) → i < n → (way t k i ≡ 0) ⊎ (s ≤ way t k i))
    → (l ≡ s) ⊎ ((j : ℕ) × (j < n) × (way t k j ≡ s)) → way_up t k n l ≡ s
unfolding way_up
way_up_is t k s zero l some least all (inl is) = is
way_up_is t k s zero l some least all (inr (j, there, is)) = absurd (omega arith)
way_up_is t k s (suc n) l some least all is = grind (arith, way_up_is t k s n (shorter (way t k n) l))

-- the next note is the one to whose height the step leads
pub next_in_is : (t : Tuning) (k j n : ℕ) → j < n → note t j ≡ (note t k + step t k) % t.octave →
    ((i : ℕ) → i < n → note t i ≡ (note t k + step t k) % t.octave → i ≡ j) → next_in t k n ≡ suc j
unfolding next_in
next_in_is t k j zero there is one = absurd (omega arith)
next_in_is t k j (suc n) there is one = grind (arith, next_in_is t k j n)

-- the note before note 0 is the one whose next it is
pub before_in_is : (t : Tuning) (j n : ℕ) → j < n → next t j ≡ 1 → ((i : ℕ) → i < n → next t i ≡ 1 → i ≡ j) → before_in t n ≡ suc j
unfolding before_in
before_in_is t j zero there is one = absurd (omega arith)
before_in_is t j (suc n) there is one = grind (arith, before_in_is t j n)

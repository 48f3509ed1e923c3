-- Scales made of one interval over and over again, in an octave of so many units. Everything here is found by looking at all notes.
-- Assumes nothing: these are definitions.
use Rattle.std.specs.Prelude.{ℕ, zero, suc, ◌+◌, ◌-◌, ◌*◌, ◌%◌, Bool, true, false, ◌&&◌, ◌||◌, List, [], ◌∷◌, ◌==◌, nat_le, nat_lt}

abbrev pub pick : {A : Type 0} → Bool → A → A → A
pick true a b = a
pick false a b = b

-- a tuning: an octave of so many units, an interval of so many, and how many notes
pub record Tuning : Type 0 where
  pub octave : ℕ
  pub interval : ℕ
  pub notes : ℕ

-- the k-th note: k intervals up, without whole octaves
abbrev pub note : Tuning → ℕ → ℕ
note t k = k * t.interval % t.octave

-- how many of the first n notes are below some height, or as high
unfoldable pub up_to : Tuning → ℕ → ℕ → ℕ
up_to t h zero = 0
up_to t h (suc n) = pick (nat_le (note t n) h) 1 0 + up_to t h n

-- where the k-th note stands in the scale, from 0
abbrev pub place : Tuning → ℕ → ℕ
place t k = up_to t (note t k) t.notes - 1

-- from the k-th note up to the next: the smallest way up to another note, or an octave if there is no other
unfoldable pub way_up : Tuning → ℕ → ℕ → ℕ → ℕ
way_up t k zero least = least
way_up t k (suc n) least =
    let w : ℕ = (note t n + t.octave - note t k) % t.octave in
    way_up t k n (pick (nat_lt 0 w && nat_lt w least) w least)

abbrev pub step : Tuning → ℕ → ℕ
step t k = way_up t k t.notes t.octave

-- which note is next: one more than its number, or 0
unfoldable pub next_in : Tuning → ℕ → ℕ → ℕ
next_in t k zero = 0
next_in t k (suc n) = pick (note t n == (note t k + step t k) % t.octave) (suc n) (next_in t k n)

abbrev pub next : Tuning → ℕ → ℕ
next t k = next_in t k t.notes

-- how many of the steps are so large
unfoldable pub so_large : Tuning → ℕ → ℕ → ℕ
so_large t s zero = 0
so_large t s (suc n) = pick (step t n == s) 1 0 + so_large t s n

-- the different sizes of steps, smallest first
unfoldable pub put_in : ℕ → List ℕ → List ℕ
put_in s [] = s ∷ []
put_in s (x ∷ xs) = pick (nat_lt s x) (s ∷ (x ∷ xs)) (pick (s == x) (x ∷ xs) (x ∷ put_in s xs))

unfoldable pub sizes_in : Tuning → ℕ → List ℕ
sizes_in t zero = []
sizes_in t (suc n) = put_in (step t n) (sizes_in t n)

abbrev pub sizes : Tuning → List ℕ
sizes t = sizes_in t t.notes

-- the note after which the first one comes: one more than its number, or 0
unfoldable pub before_in : Tuning → ℕ → ℕ
before_in t zero = 0
before_in t (suc n) = pick (next t n == 1) (suc n) (before_in t n)

abbrev pub before : Tuning → ℕ
before t = before_in t t.notes

-- a whole scale: the note above the first and the one below it have numbers that add up to as many as there are notes; and one note by itself
abbrev pub is_whole : Tuning → Bool
is_whole t = nat_le t.notes 1 || next t 0 + before t == t.notes + 2

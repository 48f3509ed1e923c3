-- A number and its four bytes. Assumes nothing.
use Rattle.std.proofs.Common.{◌≡◌, ℕ, zero, suc, ◌+◌, ◌^◌, ◌<◌, ◌≤◌, List, [], ◌∷◌, length, get_or, take, drop, sym, refl, ap, ◌∙◌, not-suc-le-zero, add-zero, zero-add, arith}
use Rattle.std.proofs.lemmas.Nat.{from_le_bytes-to_le_bytes_4, le_bytes_4}
use Rattle.std.proofs.lemmas.List.{drop-drop, drop-take, ext_get_or, get_or-drop, get_or-take, length-take-le, take_all, take-take}
use Rattle.wire.specs.Bytes.{four, number_of, part}
use Rattle.wire.specs.Messages.{Bytes}

pub number_of_four : (n : ℕ) → n < 2 ^ 32 → number_of (four n) ≡ n
number_of_four = from_le_bytes-to_le_bytes_4

-- four bytes of a part
pub part_in : (bs : List ℕ) (i j m : ℕ) → 4 ≤ m → part j 4 (part i (j + m) bs) ≡ part (i + j) 4 bs
part_in bs i j m h = ap (take 4) (drop-take j m (drop i bs)) ∙ take-take 4 m (drop j (drop i bs)) h ∙ ap (take 4) (drop-drop j i bs)

part_at : (bs : List ℕ) (i j : ℕ) → j < 4 → get_or (part i 4 bs) j 0 ≡ get_or bs (i + j) 0
part_at bs i j h = rw (get_or-take, get_or-drop)

-- four bytes from a place on, 0 for those that are missing
abbrev pub four_from : ℕ → List ℕ → List ℕ
four_from i bs = get_or bs i 0 ∷ get_or bs (i + 1) 0 ∷ get_or bs (i + 2) 0 ∷ get_or bs (i + 3) 0 ∷ []

-- the number that stands at a place, by its bytes
pub number_from : (bs : List ℕ) (i : ℕ) → number_of (part i 4 bs) ≡ number_of (four_from i bs)
number_from bs i = rw (part_at bs i 0 (omega arith), part_at bs i 1 (omega arith), part_at bs i 2 (omega arith), part_at bs i 3 (omega arith), add-zero)

module _ (bs : List ℕ) (small : Bytes bs) where
  pub number_fits : (i : ℕ) {n : ℕ} → n ≡ number_of (part i 4 bs) → n < 2 ^ 32
  number_fits i e = rw (e, number_from bs i) (omega (arith, small i, small (i + 1), small (i + 2), small (i + 3)))

  small_from : (i : ℕ) → Bytes (four_from i bs)
  small_from i zero = small i
  small_from i (suc zero) = small (i + 1)
  small_from i (suc (suc zero)) = small (i + 2)
  small_from i (suc (suc (suc zero))) = small (i + 3)
  small_from i (suc (suc (suc (suc j)))) = omega arith

  -- a number that stands at a place has the bytes that stand there
  pub number_at : (i : ℕ) {n : ℕ} → n ≡ number_of (part i 4 bs) → four n ≡ four_from i bs
  number_at i {n} e = le_bytes_4 (four_from i bs) n refl (small_from i) (e ∙ number_from bs i)

-- n bytes from a place on, 0 for those that are missing
abbrev pub padded : ℕ → ℕ → List ℕ → List ℕ
padded i zero bs = []
padded i (suc n) bs = get_or bs i 0 ∷ padded (i + 1) n bs

length_padded : (i n : ℕ) (bs : List ℕ) → length (padded i n bs) ≡ n
length_padded i zero bs = refl
length_padded i (suc n) bs = ap suc (length_padded (i + 1) n bs)

get_or_padded : (i n j : ℕ) (bs : List ℕ) → j < n → get_or (padded i n bs) j 0 ≡ get_or bs (i + j) 0
get_or_padded i zero j bs h = absurd (not-suc-le-zero h)
get_or_padded i (suc n) zero bs h = rw add-zero
get_or_padded i (suc n) (suc j) bs h = get_or_padded (i + 1) n j bs (omega arith) ∙ ap (λ m. get_or bs m 0) (omega arith)

-- as far as two lists have the same bytes
pub take_padded : (bs cs : List ℕ) (n p : ℕ) → p ≤ n → p ≤ length bs → ((i : ℕ) → i < p → get_or cs i 0 ≡ get_or bs i 0) → take p (padded 0 n cs) ≡ take p bs
take_padded bs cs n p few within same =
    ext_get_or 0 (take p (padded 0 n cs)) (take p bs) (long ∙ sym (length-take-le p bs within)) (λ i h. at i (omega (arith, long)))
  where
    long : length (take p (padded 0 n cs)) ≡ p
    long = length-take-le p (padded 0 n cs) (omega (arith, length_padded 0 n cs))

    at : (i : ℕ) → i < p → get_or (take p (padded 0 n cs)) i 0 ≡ get_or (take p bs) i 0
    at i h =
        get_or-take p (padded 0 n cs) i 0 h ∙ get_or_padded 0 n i cs (omega arith)
        ∙ ap (λ m. get_or cs m 0) (zero-add i) ∙ same i h ∙ sym (get_or-take p bs i 0 h)

pub padded_all : (n : ℕ) (bs : List ℕ) → length bs ≡ n → padded 0 n bs ≡ bs
padded_all n bs long =
    sym (take_all n (padded 0 n bs) (omega (arith, length_padded 0 n bs)))
    ∙ take_padded bs bs n n (omega arith) (omega arith) (λ i h. refl)
    ∙ take_all n bs (omega arith)

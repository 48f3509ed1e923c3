-- Numbers as four bytes, low byte first, and parts of lists of bytes. Assumes nothing: these are definitions.
use Rattle.std.specs.Prelude.{ℕ, ◌+◌, ◌*◌, ◌/◌, ◌%◌, List, [], ◌∷◌, ◌++◌, length, take, drop, slice_index}

abbrev pub four : ℕ → List ℕ
four n = n % 256 ∷ n / 256 % 256 ∷ n / 65536 % 256 ∷ n / 16777216 % 256 ∷ []

-- the number that four bytes are
abbrev pub number_of : List ℕ → ℕ
number_of bs = slice_index bs 0 + slice_index bs 1 * 256 + slice_index bs 2 * 65536 + slice_index bs 3 * 16777216

-- n bytes from place i on
abbrev pub part : ℕ → ℕ → List ℕ → List ℕ
part i n bs = take n (drop i bs)

-- some bytes over the front of others
abbrev pub over : List ℕ → List ℕ → List ℕ
over bs out = bs ++ drop (length bs) out

-- What an answer's bytes are, and which answer bytes are. Assumes nothing: these are definitions.
use Rattle.std.specs.Prelude.{ℕ, Bool, if◌then◌else◌, ◌&&◌, List, [], ◌∷◌, ◌++◌, length, Some, None, Option, ◌==◌, nat_le, slice_index}
use Rattle.std.specs.Option.{option_map}
use Rattle.wire.specs.Bytes.{four, number_of, part}
use Rattle.wire.specs.declared.answer.Refusal.{Refusal}
use Rattle.wire.specs.declared.answer.Refusal.TheVariants.{Unreadable, OutOfRange, NoRoom, NotAllDifferent, NotThere}
use Rattle.wire.specs.declared.answer.Refused.{Refused as RefusedAt}
use Rattle.wire.specs.declared.answer.Pair.{Pair}
use Rattle.wire.specs.declared.answer.Pairs.{Pairs}
use Rattle.wire.specs.declared.answer.Pairs.TheVariants.{Zero, One, Two, Three}
use Rattle.wire.specs.declared.answer.Answer.{Answer}
use Rattle.wire.specs.declared.answer.Answer.TheVariants.{Refused, Number, Numbers, Listed}

abbrev pub refusal_number : Refusal → ℕ
refusal_number Unreadable = 1
refusal_number OutOfRange = 2
refusal_number NoRoom = 3
refusal_number NotAllDifferent = 4
refusal_number NotThere = 5

abbrev pub pair_bytes : Pair → List ℕ
pair_bytes p = four p.first ++ four p.second

abbrev pub count : Pairs → ℕ
count Zero = 0
count (One p) = 1
count (Two p q) = 2
count (Three p q r) = 3

abbrev pub pairs_bytes : Pairs → List ℕ
pairs_bytes Zero = []
pairs_bytes (One p) = pair_bytes p
pairs_bytes (Two p q) = pair_bytes p ++ pair_bytes q
pairs_bytes (Three p q r) = pair_bytes p ++ (pair_bytes q ++ pair_bytes r)

-- the number that is an answer's first byte
abbrev pub kind : Answer → ℕ
kind (Refused r) = 0
kind (Number n) = 1
kind (Numbers p) = 2
kind (Listed ps) = 3

abbrev pub answer_bytes : Answer → List ℕ
answer_bytes (Refused r) = 0 ∷ (four (refusal_number r.refusal) ++ four r.place)
answer_bytes (Number n) = 1 ∷ four n
answer_bytes (Numbers p) = 2 ∷ pair_bytes p
answer_bytes (Listed ps) = 3 ∷ (four (count ps) ++ pairs_bytes ps)

abbrev pub refusal_of : ℕ → Option Refusal
refusal_of n =
    if n == 1 then Some Unreadable
    else if n == 2 then Some OutOfRange
    else if n == 3 then Some NoRoom
    else if n == 4 then Some NotAllDifferent
    else if n == 5 then Some NotThere
    else None

-- the pair that eight bytes are
abbrev pub pair_of : List ℕ → Pair
pair_of bs = record { first = number_of (part 0 4 bs); second = number_of (part 4 4 bs) }

-- the refusal and its place after a kind
abbrev pub read_refused : List ℕ → Option RefusedAt
read_refused bs = option_map (λ r. record { refusal = r; place = number_of (part 5 4 bs) }) (refusal_of (number_of (part 1 4 bs)))

-- so many of three pairs, in an answer of so many bytes
abbrev pub pairs_of : ℕ → ℕ → Pair → Pair → Pair → Option Pairs
pairs_of c n p q r =
    if c == 0 && n == 5 then Some Zero
    else if c == 1 && n == 13 then Some (One p)
    else if c == 2 && n == 21 then Some (Two p q)
    else if c == 3 && n == 29 then Some (Three p q r)
    else None

abbrev pub read_pairs : List ℕ → Option Pairs
read_pairs bs = pairs_of (number_of (part 1 4 bs)) (length bs) (pair_of (part 5 8 bs)) (pair_of (part 13 8 bs)) (pair_of (part 21 8 bs))

-- the answer of a kind, with so many bytes, by what stands after the kind
abbrev pub answer_of : ℕ → ℕ → Option RefusedAt → ℕ → Pair → Option Pairs → Option Answer
answer_of k n r x p ps =
    if k == 0 && n == 9 then option_map Refused r
    else if k == 1 && n == 5 then Some (Number x)
    else if k == 2 && n == 9 then Some (Numbers p)
    else if k == 3 then option_map Listed ps
    else None

-- the answer that a list of bytes is, if it is one
abbrev pub read_answer : List ℕ → Option Answer
read_answer bs = answer_of (slice_index bs 0) (length bs) (read_refused bs) (number_of (part 1 4 bs)) (pair_of (part 1 8 bs)) (read_pairs bs)

-- an answer fits into so many bytes
abbrev pub has_room : Answer → List ℕ → Bool
has_room a out = nat_le (length (answer_bytes a)) (length out)

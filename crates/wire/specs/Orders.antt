-- What an order's bytes are, which order bytes are, and where they cease to be one. Assumes nothing: these are definitions.
use Rattle.std.specs.Prelude.{ℕ, min, if◌then◌else◌, ◌&&◌, List, ◌∷◌, ◌++◌, length, Some, None, Option, ◌==◌, nat_lt, slice_index}
use Rattle.wire.specs.Bytes.{four, number_of, part}
use Rattle.wire.specs.declared.order.RawTuning.{RawTuning}
use Rattle.wire.specs.declared.order.Order.{Order}
use Rattle.wire.specs.declared.order.Order.TheVariants.{Place, Next, At, Sizes, Whole}

module _ {T : Type 0} where
  -- what is known of the tuning
  abbrev pub tuning_of : Order T → T
  tuning_of (Place t k) = t
  tuning_of (Next t k) = t
  tuning_of (At t p) = t
  tuning_of (Sizes t) = t
  tuning_of (Whole t m) = t

  abbrev pub kind : Order T → ℕ
  kind (Place t k) = 0
  kind (Next t k) = 1
  kind (At t p) = 2
  kind (Sizes t) = 3
  kind (Whole t m) = 4

  -- an order's own number
  abbrev pub own : Order T → ℕ
  own (Place t k) = k
  own (Next t k) = k
  own (At t p) = p
  own (Sizes t) = 0
  own (Whole t m) = m

module _ {T U : Type 0} where
  -- the same question of another tuning
  abbrev pub asked_of : Order T → U → Order U
  asked_of (Place _ k) u = Place u k
  asked_of (Next _ k) u = Next u k
  asked_of (At _ p) u = At u p
  asked_of (Sizes _) u = Sizes u
  asked_of (Whole _ m) u = Whole u m

-- the 12 bytes of a tuning's numbers
abbrev pub tuning_bytes : RawTuning → List ℕ
tuning_bytes t = four t.octave ++ (four t.interval ++ four t.notes)

-- an order's 17 bytes: its kind, the numbers of its tuning, and its own
abbrev pub order_bytes : Order RawTuning → List ℕ
order_bytes o = kind o ∷ (tuning_bytes (tuning_of o) ++ four (own o))

-- the order of a kind, if there is one: the own number of sizes is 0
abbrev pub order_of : ℕ → RawTuning → ℕ → Option (Order RawTuning)
order_of k t x =
    if k == 0 then Some (Place t x)
    else if k == 1 then Some (Next t x)
    else if k == 2 then Some (At t x)
    else if k == 3 && x == 0 then Some (Sizes t)
    else if k == 4 then Some (Whole t x)
    else None

-- the numbers that 12 bytes are
abbrev pub tuning_in : List ℕ → RawTuning
tuning_in bs = record { octave = number_of (part 0 4 bs); interval = number_of (part 4 4 bs); notes = number_of (part 8 4 bs) }

-- the order that a list of bytes is, if it is one
abbrev pub read_order : List ℕ → Option (Order RawTuning)
read_order bs =
    if length bs == 17 then order_of (slice_index bs 0) (tuning_in (part 1 12 bs)) (number_of (part 13 4 bs))
    else None

-- the first place of an own number whose byte is not 0, or the place past it
abbrev pub own_misfit : List ℕ → ℕ
own_misfit bs =
    if nat_lt 0 (slice_index bs 13) then 13
    else if nat_lt 0 (slice_index bs 14) then 14
    else if nat_lt 0 (slice_index bs 15) then 15
    else if nat_lt 0 (slice_index bs 16) then 16
    else 17

-- the place of the first byte that doesn't fit: the kind if it is above 4, the end of too few bytes, the byte past 17, and the own number of sizes
-- where it is not 0; the least of these
abbrev pub misfit : List ℕ → ℕ
misfit bs =
    min (min (length bs) 17)
    (min (if nat_lt 4 (slice_index bs 0) then 0 else 17) (if slice_index bs 0 == 3 then own_misfit bs else 17))

-- An order's bytes are read as the order, no other bytes are, and no two orders have the same. Assumes nothing.
use Rattle.std.proofs.Common.{◌≡◌, ℕ, List, length, get_or, Some, sym, ap, ◌∙◌, arith}
use Rattle.std.proofs.lemmas.Bool.Decides.{nat_tests}
use Rattle.wire.specs.declared.order.RawTuning.{RawTuning}
use Rattle.wire.specs.declared.order.Order.{Order}
use Rattle.wire.specs.Bytes.{number_of, part}
use Rattle.wire.specs.Laws.{FitsOrder, OrdersReadBack, OnlyOrdersRead, OrdersApart}
use Rattle.wire.specs.Messages.{Bytes}
use Rattle.wire.specs.Orders.{kind, tuning_bytes, tuning_in, order_bytes, order_of, own, read_order, tuning_of}
use Rattle.wire.proofs.Apart.{apart}
use Rattle.wire.proofs.Numbers.{number_of_four, part_in, number_at, number_fits, padded, padded_all}

tuning_back : (o : Order RawTuning) → FitsOrder o → tuning_of o ≡ tuning_in (tuning_bytes (tuning_of o))
tuning_back o fits = rw (number_of_four (tuning_of o).octave fits.0, number_of_four (tuning_of o).interval fits.1, number_of_four (tuning_of o).notes fits.2)

pub orders_read_back : OrdersReadBack
orders_read_back o fits = grind (arith, tuning_back, number_of_four)

pub orders_apart : OrdersApart
orders_apart = apart order_bytes read_order FitsOrder orders_read_back

-- the order of a kind has that kind and these numbers
order_of_parts : (k x : ℕ) (t : RawTuning) (o : Order RawTuning) → order_of k t x ≡ Some o → (kind o ≡ k) × (tuning_of o ≡ t) × (own o ≡ x)
order_of_parts k x t o h = grind (arith, nat_tests)

-- the order's numbers stand in a list, each in its place
pub record Stands (bs : List ℕ) (o : Order RawTuning) : Type 0 where
  pub kind_is : kind o ≡ get_or bs 0 0
  pub octave_is : (tuning_of o).octave ≡ number_of (part 1 4 bs)
  pub interval_is : (tuning_of o).interval ≡ number_of (part 5 4 bs)
  pub notes_is : (tuning_of o).notes ≡ number_of (part 9 4 bs)
  pub own_is : own o ≡ number_of (part 13 4 bs)

pub order_stands : (bs : List ℕ) (o : Order RawTuning) → order_of (get_or bs 0 0) (tuning_in (part 1 12 bs)) (number_of (part 13 4 bs)) ≡ Some o → Stands bs o
order_stands bs o h =
    let parts = order_of_parts (get_or bs 0 0) (number_of (part 13 4 bs)) (tuning_in (part 1 12 bs)) o h in
    record {
      kind_is = parts.0;
      octave_is = ap (λ t. t.octave) parts.1 ∙ ap number_of (part_in bs 1 0 12 (omega arith));
      interval_is = ap (λ t. t.interval) parts.1 ∙ ap number_of (part_in bs 1 4 8 (omega arith));
      notes_is = ap (λ t. t.notes) parts.1 ∙ ap number_of (part_in bs 1 8 4 (omega arith));
      own_is = parts.2;
    }

module _ (bs : List ℕ) (small : Bytes bs) {o : Order RawTuning} (stands : Stands bs o) where
  pub stands_bytes : order_bytes o ≡ padded 0 17 bs
  stands_bytes =
      cc (
        stands.kind_is,
        number_at bs small 1 stands.octave_is,
        number_at bs small 5 stands.interval_is,
        number_at bs small 9 stands.notes_is,
        number_at bs small 13 stands.own_is,
      )

  pub stands_fits : FitsOrder o
  stands_fits = (
    number_fits bs small 1 stands.octave_is,
    number_fits bs small 5 stands.interval_is,
    number_fits bs small 9 stands.notes_is,
    number_fits bs small 13 stands.own_is,
  )

pub only_orders_read : OnlyOrdersRead
only_orders_read bs small o h =
    let long : length bs ≡ 17 = grind (arith, nat_tests) in
    sym (stands_bytes bs small (order_stands bs o (rw long at h)) ∙ padded_all 17 bs long)

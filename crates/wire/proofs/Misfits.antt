-- Where a list of bytes ceases to be an order's. Assumes nothing.
use Rattle.std.proofs.Common.{◌≡◌, ℕ, suc, ◌<◌, ◌≤◌, min, ◌⊎◌, List, length, get_or, take, Some, None, sym, refl, ap, ◌∙◌, inl, inr, ⊎_elim, arith}
use Rattle.std.proofs.lemmas.List.{get_or_past, get_or-take, length-take}
use Rattle.std.proofs.lemmas.Bool.{cases_eq, cases_lt}
use Rattle.std.proofs.lemmas.Bool.Decides.{nat_tests}
use Rattle.wire.specs.declared.order.RawTuning.{RawTuning}
use Rattle.wire.specs.declared.order.Order.{Order}
use Rattle.wire.specs.declared.order.Order.TheVariants.{Place, Next, At, Sizes, Whole}
use Rattle.wire.specs.Bytes.{number_of, part}
use Rattle.wire.specs.Laws.{Begins, OrdersCease}
use Rattle.wire.specs.Messages.{Bytes}
use Rattle.wire.specs.Orders.{kind, misfit, tuning_in, order_bytes, order_of, own_misfit, read_order}
use Rattle.wire.proofs.Numbers.{four_from, number_from, take_padded}
use Rattle.wire.proofs.OrderLaws.{order_stands, stands_bytes, stands_fits}

-- every kind up to 4 has an order, the one of sizes if its own number is 0
order_there : (k x : ℕ) (t : RawTuning) → k ≤ 4 → (k ≡ 3 → x ≡ 0) → (o : Order RawTuning) × (order_of k t x ≡ Some o)
order_there k x t h z = by (cases_eq k 0) (cases_eq k 1) (cases_eq k 2) (cases_eq k 3)
  where
    by : (k ≡ 0) ⊎ (k ≡ 0 → ⊥) → (k ≡ 1) ⊎ (k ≡ 1 → ⊥) → (k ≡ 2) ⊎ (k ≡ 2 → ⊥) → (k ≡ 3) ⊎ (k ≡ 3 → ⊥) → (o : Order RawTuning) × (order_of k t x ≡ Some o)
    by (inl e) b c d = (Place t x, grind (arith, nat_tests))
    by (inr a) (inl e) c d = (Next t x, grind (arith, nat_tests))
    by (inr a) (inr b) (inl e) d = (At t x, grind (arith, nat_tests))
    by (inr a) (inr b) (inr c) (inl e) = let zero = z e in (Sizes t, grind (arith, nat_tests))
    by (inr a) (inr b) (inr c) (inr d) = (Whole t x, grind (arith, nat_tests))

kind_small : (o : Order RawTuning) → kind o ≤ 4
kind_small o = grind arith

-- the own number of sizes is 0
own_zero : (o : Order RawTuning) → kind o ≡ 3 → (i : ℕ) → 13 ≤ i → i < 17 → get_or (order_bytes o) i 0 ≡ 0
own_zero o h i low high = grind (arith, nat_tests, cases_eq i 13, cases_eq i 14, cases_eq i 15, cases_eq i 16)

module _ (bs : List ℕ) where
  bounds : (misfit bs ≤ length bs) × (misfit bs ≤ 17) × (4 < get_or bs 0 0 → misfit bs ≡ 0) × (get_or bs 0 0 ≡ 3 → misfit bs ≤ own_misfit bs)
  bounds = grind (arith, nat_tests)

  zeros : (i : ℕ) → 13 ≤ i → i < own_misfit bs → get_or bs i 0 ≡ 0
  zeros i low high = grind (arith, nat_tests, cases_eq i 13, cases_eq i 14, cases_eq i 15, cases_eq i 16)

  own_few : own_misfit bs ≤ 17
  own_few = grind (arith, nat_tests)

  own_stops : own_misfit bs < 17 → (13 ≤ own_misfit bs) × (0 < get_or bs (own_misfit bs) 0)
  own_stops short = grind (arith, nat_tests)

  -- what stops before 17 bytes and before the end: a kind above 4, or an own number of sizes that isn't 0
  stops : misfit bs < 17 → misfit bs < length bs → get_or bs 0 0 ≤ 4 → (get_or bs 0 0 ≡ 3) × (own_misfit bs ≡ misfit bs)
  stops short inside low = grind (arith, nat_tests)

  own_none : own_misfit bs ≡ 17 → number_of (part 13 4 bs) ≡ 0
  own_none h =
      let none : (get_or bs 13 0 ≡ 0) × (get_or bs 14 0 ≡ 0) × (get_or bs 15 0 ≡ 0) × (get_or bs 16 0 ≡ 0) = grind (arith, nat_tests) in
      number_from bs 13 ∙ omega arith

module _ (bs cs : List ℕ) (small : Bytes cs) where
  -- the order whose numbers stand in cs begins as bs does, as far as cs does
  begins : (p : ℕ) → p ≤ 17 → p ≤ length bs → ((i : ℕ) → i < p → get_or cs i 0 ≡ get_or bs i 0) → get_or cs 0 0 ≤ 4 → (get_or cs 0 0 ≡ 3 → number_of (part 13 4 cs) ≡ 0) → Begins bs p
  begins p few within same low own =
      let there = order_there (get_or cs 0 0) (number_of (part 13 4 cs)) (tuning_in (part 1 12 cs)) low own in
      let stands = order_stands cs there.0 there.1 in
      (there.0, stands_fits cs small stands, ap (take p) (stands_bytes cs small stands) ∙ take_padded bs cs 17 p few within same)

-- the first 13 bytes, and no own number
module _ (bs : List ℕ) where
  without_own : (i : ℕ) → 13 ≤ i → get_or (take 13 bs) i 0 ≡ 0
  without_own i h = get_or_past (take 13 bs) i 0 (omega (arith, length-take 13 bs))

  same_front : (i : ℕ) → i < 13 → get_or (take 13 bs) i 0 ≡ get_or bs i 0
  same_front i h = get_or-take 13 bs i 0 h

module _ (bs : List ℕ) (small : Bytes bs) where
  sizes_begins : get_or bs 0 0 ≡ 3 → Begins bs (misfit bs)
  sizes_begins three =
      begins bs (take 13 bs) bytes (misfit bs) (bounds bs).1 (bounds bs).0 same (omega (arith, same_front bs 0 (omega arith))) (λ _. number_from (take 13 bs) 13 ∙ none)
    where
      bytes : Bytes (take 13 bs)
      bytes i = ⊎_elim (λ h. omega (arith, same_front bs i h, small i)) (λ h. omega (arith, without_own bs i h)) (cases_lt i 13)

      same : (i : ℕ) → i < misfit bs → get_or (take 13 bs) i 0 ≡ get_or bs i 0
      same i h = ⊎_elim (λ low. same_front bs i low) (λ high. without_own bs i high ∙ sym (zeros bs i high (omega (arith, (bounds bs).3 three)))) (cases_lt i 13)

      none : number_of (four_from 13 (take 13 bs)) ≡ 0
      none = omega (arith, without_own bs 13 (omega arith), without_own bs 14 (omega arith), without_own bs 15 (omega arith), without_own bs 16 (omega arith))

  before : Begins bs (misfit bs)
  before = by (cases_lt 4 (get_or bs 0 0)) (cases_eq (get_or bs 0 0) 3)
    where
      by : (4 < get_or bs 0 0) ⊎ (get_or bs 0 0 ≤ 4) → (get_or bs 0 0 ≡ 3) ⊎ (get_or bs 0 0 ≡ 3 → ⊥) → Begins bs (misfit bs)
      by (inl high) which = rw ((bounds bs).2 high) (Sizes (record { octave = 0; interval = 0; notes = 0 }), (omega arith, omega arith, omega arith, omega arith), refl)
      by (inr low) (inl three) = sizes_begins three
      by (inr low) (inr other) = begins bs bs small (misfit bs) (bounds bs).1 (bounds bs).0 (λ i h. refl) low (λ three. absurd (other three))

  module _ (o : Order RawTuning) (same : take (suc (misfit bs)) (order_bytes o) ≡ take (suc (misfit bs)) bs) where
    same_at : (i : ℕ) → i ≤ misfit bs → get_or (order_bytes o) i 0 ≡ get_or bs i 0
    same_at i h = sym (get_or-take (suc (misfit bs)) (order_bytes o) i 0 (omega arith)) ∙ ap (λ l. get_or l i 0) same ∙ get_or-take (suc (misfit bs)) bs i 0 (omega arith)

    same_kind : kind o ≡ get_or bs 0 0
    same_kind = same_at 0 (omega arith)

    same_length : min (suc (misfit bs)) 17 ≡ min (suc (misfit bs)) (length bs)
    same_length = sym (length-take (suc (misfit bs)) (order_bytes o)) ∙ ap length same ∙ length-take (suc (misfit bs)) bs

    -- an order that goes on as bs does, past 17 bytes or before
    whole_past : misfit bs ≡ 17 → read_order bs ≡ None → ⊥
    whole_past full none =
        let long : length bs ≡ 17 = omega (arith, same_length, (bounds bs).0) in
        let low : get_or bs 0 0 ≤ 4 = omega (arith, kind_small o, same_kind) in
        let there = order_there (get_or bs 0 0) (number_of (part 13 4 bs)) (tuning_in (part 1 12 bs)) low (λ three. own_none bs (omega (arith, (bounds bs).3 three, own_few bs))) in
        let not : order_of (get_or bs 0 0) (tuning_in (part 1 12 bs)) (number_of (part 13 4 bs)) ≡ None = rw long at none in
        cc (there.1, not)

    short_past : misfit bs < 17 → ⊥
    short_past short =
        let three = stops bs short (omega (arith, same_length)) (omega (arith, kind_small o, same_kind)) in
        let stop = own_stops bs (omega arith) in
        let none = own_zero o (same_kind ∙ three.0) (misfit bs) (omega arith) short in
        omega (arith, none, same_at (misfit bs) (omega arith), ap (λ i. get_or bs i 0) three.1)

  past : read_order bs ≡ None → (o : Order RawTuning) → take (suc (misfit bs)) (order_bytes o) ≡ take (suc (misfit bs)) bs → ⊥
  past none o same = ⊎_elim (λ h. short_past o same h) (λ h. whole_past o same (omega (arith, (bounds bs).1)) none) (cases_lt (misfit bs) 17)

pub orders_cease : OrdersCease
orders_cease bs small none = record { within = (bounds bs).0; before = before bs small; past = past bs small none }

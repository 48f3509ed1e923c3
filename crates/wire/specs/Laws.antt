-- What holds of every order and every answer. Each is a statement, a type whose proof is owed where the contract of a function names it.
-- Assumes nothing: these are definitions.
use Rattle.std.specs.Prelude.{◌≡◌, ℕ, suc, ◌^◌, ◌<◌, ◌≤◌, List, length, take, None, ◌≢◌}
use Rattle.wire.specs.declared.answer.Answer.{Answer}
use Rattle.wire.specs.declared.answer.Answer.TheVariants.{Refused, Number, Numbers, Listed}
use Rattle.wire.specs.declared.answer.Pair.{Pair}
use Rattle.wire.specs.declared.answer.Pairs.{Pairs}
use Rattle.wire.specs.declared.answer.Pairs.TheVariants.{Zero, One, Two, Three}
use Rattle.wire.specs.declared.order.RawTuning.{RawTuning}
use Rattle.wire.specs.declared.order.Order.{Order}
use Rattle.wire.specs.Answers.{answer_bytes, read_answer}
use Rattle.wire.specs.Messages.{TellsApart, Bytes, ReadsNoOther, ReadsBack}
use Rattle.wire.specs.Orders.{tuning_of, own, order_bytes, read_order, misfit}

-- an order whose numbers fit four bytes
abbrev pub FitsOrder : Order RawTuning → Type 0
FitsOrder o = ((tuning_of o).octave < 2 ^ 32) × ((tuning_of o).interval < 2 ^ 32) × ((tuning_of o).notes < 2 ^ 32) × (own o < 2 ^ 32)

-- the bytes of an order are read as that order
abbrev pub OrdersReadBack : Type 0
OrdersReadBack = ReadsBack order_bytes read_order FitsOrder

-- and no others are
abbrev pub OnlyOrdersRead : Type 0
OnlyOrdersRead = ReadsNoOther order_bytes read_order

-- two orders have different bytes
abbrev pub OrdersApart : Type 0
OrdersApart = TellsApart order_bytes FitsOrder

-- some order begins with the first p of these bytes
abbrev pub Begins : List ℕ → ℕ → Type 0
Begins bs p = (o : Order RawTuning) × FitsOrder o × (take p (order_bytes o) ≡ take p bs)

-- where bytes cease to be an order's: some order begins with those before this place, and none with one more
pub record Ceases (bs : List ℕ) (p : ℕ) : Type 0 where
  pub within : p ≤ length bs
  pub before : Begins bs p
  pub past : (o : Order RawTuning) → take (suc p) (order_bytes o) ≢ take (suc p) bs

-- what is no order ceases to be one at its misfit
abbrev pub OrdersCease : Type 0
OrdersCease = (bs : List ℕ) → Bytes bs → read_order bs ≡ None → Ceases bs (misfit bs)

abbrev pub FitsPair : Pair → Type 0
FitsPair p = (p.first < 2 ^ 32) × (p.second < 2 ^ 32)

abbrev pub FitsPairs : Pairs → Type 0
FitsPairs Zero = Unit {0}
FitsPairs (One p) = FitsPair p
FitsPairs (Two p q) = FitsPair p × FitsPair q
FitsPairs (Three p q r) = FitsPair p × FitsPair q × FitsPair r

-- an answer whose numbers fit four bytes
abbrev pub FitsAnswer : Answer → Type 0
FitsAnswer (Refused r) = r.place < 2 ^ 32
FitsAnswer (Number n) = n < 2 ^ 32
FitsAnswer (Numbers p) = FitsPair p
FitsAnswer (Listed ps) = FitsPairs ps

-- the bytes of an answer are read as that answer
abbrev pub AnswersReadBack : Type 0
AnswersReadBack = ReadsBack answer_bytes read_answer FitsAnswer

-- and no others are
abbrev pub OnlyAnswersRead : Type 0
OnlyAnswersRead = ReadsNoOther answer_bytes read_answer

-- two answers have different bytes
abbrev pub AnswersApart : Type 0
AnswersApart = TellsApart answer_bytes FitsAnswer

-- What is replied to an order, and what is written. Assumes nothing: these are definitions.
use Rattle.std.specs.Prelude.{ℕ, if◌then◌else◌, List, length, Some, None, Ok, Err, Option, Result, nat_le}
use Rattle.scale.specs.declared.tuning.Tuning.{Tuning as Ranged}
use Rattle.scale.specs.declared.tuning.RangeError.{RangeError}
use Rattle.scale.specs.Notes.{Tuning}
use Rattle.scale.specs.Range.{as_tuning, place_of, tuning_from}
use Rattle.wire.specs.declared.answer.Answer.TheVariants.{Refused}
use Rattle.wire.specs.declared.answer.Refusal.{Refusal}
use Rattle.wire.specs.declared.answer.Refusal.TheVariants.{Unreadable, OutOfRange, NoRoom}
use Rattle.wire.specs.declared.answer.Refused.{Refused as RefusedAt}
use Rattle.wire.specs.declared.order.RawTuning.{RawTuning}
use Rattle.wire.specs.declared.order.Order.{Order}
use Rattle.wire.specs.Answers.{answer_bytes}
use Rattle.wire.specs.Bytes.{over}
use Rattle.wire.specs.Orders.{tuning_of, asked_of, read_order, misfit}

-- refused, or taken: a question of a tuning in range
abbrev pub Reply : Type 0
Reply = Result (Order Tuning) RefusedAt

abbrev pub refused : Refusal → ℕ → Reply
refused r place = Err (record { refusal = r; place = place })

-- the last check, and before it the refusal of a tuning out of range
abbrev pub after_range : Order RawTuning → ℕ → Result Tuning RangeError → Reply
after_range o room (Err number) = refused OutOfRange (place_of number)
after_range o room (Ok tuning) = if nat_le 64 room then Ok (asked_of o tuning) else refused NoRoom 0

-- the checks of an order that can be read, with so much room for the answer
abbrev pub checked : Order RawTuning → RawTuning → ℕ → Reply
checked o t room = after_range o room (tuning_from t.octave t.interval t.notes)

-- the checks of what was read of these bytes
abbrev pub after_reading : List ℕ → ℕ → Option (Order RawTuning) → Reply
after_reading bs room None = refused Unreadable (misfit bs)
after_reading bs room (Some o) = checked o (tuning_of o) room

-- the reply to these bytes, with so much room for the answer
abbrev pub reply : List ℕ → ℕ → Reply
reply bs room = after_reading bs room (read_order bs)

-- what the room holds after the reply: a refusal's bytes at its front, if it has 64 bytes
abbrev pub written : Reply → List ℕ → List ℕ
written (Ok o) out = out
written (Err r) out = if nat_le 64 (length out) then over (answer_bytes (Refused r)) out else out

-- what the code's reply says
abbrev pub said : Result (Order Ranged) RefusedAt → Reply
said (Ok o) = Ok (asked_of o (as_tuning (tuning_of o)))
said (Err r) = Err r

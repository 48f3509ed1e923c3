-- The text of a line. Assumes nothing: these are definitions.
use Rattle.std.specs.Prelude.{ℕ, List, ◌++◌, Ok, Err, codes, decimal, Result}
use Rattle.scale.specs.declared.tuning.Tuning.{Tuning}
use Rattle.wire.specs.declared.answer.Refused.{Refused}
use Rattle.wire.specs.declared.order.Order.{Order}
use Rattle.wire.specs.Answers.{refusal_number}

abbrev pub line_text : Result (Order Tuning) Refused → List ℕ
line_text (Ok o) = codes "pending"
line_text (Err r) = codes "refused " ++ (decimal (refusal_number r.refusal) ++ (codes " at " ++ decimal r.place))

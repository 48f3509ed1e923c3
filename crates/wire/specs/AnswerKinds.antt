-- The numbers of the kinds of answers. Assumes nothing: these are definitions.
use Rattle.std.specs.Prelude.{ℕ, if◌then◌else◌, Some, None, Option, ◌==◌}
use Rattle.wire.specs.declared.answer.Kind.{Kind}
use Rattle.wire.specs.declared.answer.Kind.TheVariants.{Refused, Number, Numbers, Listed}

abbrev pub kind_number : Kind → ℕ
kind_number Refused = 0
kind_number Number = 1
kind_number Numbers = 2
kind_number Listed = 3

abbrev pub kind_of : ℕ → Option Kind
kind_of n =
    if n == 0 then Some Refused
    else if n == 1 then Some Number
    else if n == 2 then Some Numbers
    else if n == 3 then Some Listed
    else None

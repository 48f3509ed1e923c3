-- The numbers of the kinds of orders. Assumes nothing: these are definitions.
use Rattle.std.specs.Prelude.{ℕ, if◌then◌else◌, Some, None, Option, ◌==◌}
use Rattle.wire.specs.declared.order.Kind.{Kind}
use Rattle.wire.specs.declared.order.Kind.TheVariants.{Place, Next, At, Sizes, Whole}

abbrev pub kind_number : Kind → ℕ
kind_number Place = 0
kind_number Next = 1
kind_number At = 2
kind_number Sizes = 3
kind_number Whole = 4

abbrev pub kind_of : ℕ → Option Kind
kind_of n =
    if n == 0 then Some Place
    else if n == 1 then Some Next
    else if n == 2 then Some At
    else if n == 3 then Some Sizes
    else if n == 4 then Some Whole
    else None

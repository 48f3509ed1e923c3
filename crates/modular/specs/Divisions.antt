-- Products divided, with quotients of 32 bits. Assumes nothing: these are definitions.
use Rattle.std.specs.Prelude.{ℕ, ◌*◌, ◌/◌, ◌%◌, ◌^◌, if◌then◌else◌, Some, None, Option, nat_lt}
use Rattle.scale.specs.Quotients.{ceiling}
use Rattle.modular.specs.declared.Division.{Division}

-- nothing if the quotient doesn't fit
abbrev if_fits : {A : Type 0} → ℕ → A → Option A
if_fits quotient answer = if nat_lt quotient (2 ^ 32) then Some answer else None

-- a times b divided by a third number
abbrev pub product_divided : ℕ → ℕ → ℕ → Option Division
product_divided a b divisor = if_fits (a * b / divisor) (record { quotient = a * b / divisor; remainder = a * b % divisor })

-- the quotient of a times b by a third number, rounded up
abbrev pub product_divided_up : ℕ → ℕ → ℕ → Option ℕ
product_divided_up a b divisor = if_fits (ceiling (a * b) divisor) (ceiling (a * b) divisor)

-- The quotient rounded up, and the shortfall. Assumes nothing: these are definitions.
use Rattle.std.specs.Prelude.{ℕ, ◌+◌, ◌-◌, ◌/◌, ◌%◌, if◌then◌else◌, ◌==◌}

-- the quotient rounded up: for g above 0 the least number of intervals g that come to m units or more
abbrev pub ceiling : ℕ → ℕ → ℕ
ceiling m g = (m + (g - 1)) / g

-- what m units lack to a whole number of intervals g, for g above 0: -m modulo g
abbrev pub shortfall : ℕ → ℕ → ℕ
shortfall m g = if m % g == 0 then 0 else g - m % g

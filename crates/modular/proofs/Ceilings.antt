-- The quotient rounded up, as the library has it. Assumes nothing.
use Rattle.std.proofs.Common.{◌≡◌, ℕ, ◌+◌, ◌*◌, ◌<◌, ◌≤◌, arith}
use Rattle.std.proofs.Math.Nat.{div-eq_of_lt-le}
use Rattle.std.proofs.lemmas.Grind.{div_ceil_times}
use Rattle.std.specs.Int.{div_ceil}
use Rattle.scale.specs.Quotients.{ceiling}

between : (q m g : ℕ) → (m ≤ q * g) × (q * g < m + g) → ceiling m g ≡ q
between q m g least = div-eq_of_lt-le g (omega arith) (omega arith)

pub ceiling_is : (m g : ℕ) → 0 < g → ceiling m g ≡ div_ceil m g
ceiling_is m g some = between (div_ceil m g) m g (div_ceil_times m g some)

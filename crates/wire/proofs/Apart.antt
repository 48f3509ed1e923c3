-- What is read back is told apart by its bytes. Assumes nothing.
use Rattle.std.proofs.Common.{ℕ, List, Option, ap}
use Rattle.wire.specs.Messages.{TellsApart, ReadsBack}

pub apart : {A : Type 0} (bytes_of : A → List ℕ) (read : List ℕ → Option A) (Fits : A → Type 0) → ReadsBack bytes_of read Fits → TellsApart bytes_of Fits
apart bytes_of read Fits back a b fits_a fits_b same = cc (back a fits_a, back b fits_b, ap read same)

-- What is stated of orders and of answers alike: of what has bytes. Assumes nothing: these are definitions.
use Rattle.std.specs.Prelude.{◌≡◌, ℕ, ◌<◌, List, Some, Option, slice_index}

-- each is below 256
abbrev pub Bytes : List ℕ → Type 0
Bytes bs = (i : ℕ) → slice_index bs i < 256

module _ {A : Type 0} where
  -- the bytes of each value whose numbers fit are read as that value
  abbrev pub ReadsBack : (A → List ℕ) → (List ℕ → Option A) → (A → Type 0) → Type 0
  ReadsBack bytes_of read Fits = (a : A) → Fits a → read (bytes_of a) ≡ Some a

  -- and no others are
  abbrev pub ReadsNoOther : (A → List ℕ) → (List ℕ → Option A) → Type 0
  ReadsNoOther bytes_of read = (bs : List ℕ) → Bytes bs → (a : A) → read bs ≡ Some a → bs ≡ bytes_of a

  -- two values have different bytes
  abbrev pub TellsApart : (A → List ℕ) → (A → Type 0) → Type 0
  TellsApart bytes_of Fits = (a b : A) → Fits a → Fits b → bytes_of a ≡ bytes_of b → a ≡ b

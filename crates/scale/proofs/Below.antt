-- Numbers below n: tests of all and of some of them, and how two rows of numbers grow.
use Rattle.std.proofs.Common.{ℕ, zero, suc, ◌+◌, ◌<◌, ◌≤◌, Bool, true, false, ◌&&◌, ◌||◌, Decides, refl, arith}
use Rattle.std.proofs.lemmas.Bool.Decides.{Decides-below_and, Decides-below_or}

abbrev pub all_below : (ℕ → Bool) → ℕ → Bool
all_below test zero = true
all_below test (suc n) = test n && all_below test n

abbrev pub some_below : (ℕ → Bool) → ℕ → Bool
some_below test zero = false
some_below test (suc n) = test n || some_below test n

-- where the test decides P: all numbers below n pass it just if P holds of each of them, and some number does just if P holds of some
pub all_below_is : (test : ℕ → Bool) (P : ℕ → Type 0) → ((i : ℕ) → Decides (test i) (P i)) → (n : ℕ) →
    Decides (all_below test n) ((i : ℕ) → i < n → P i)
all_below_is test P each n = Decides-below_and test P (all_below test) each refl (λ _. refl) n

pub some_below_is : (test : ℕ → Bool) (P : ℕ → Type 0) → ((i : ℕ) → Decides (test i) (P i)) → (n : ℕ) →
    Decides (some_below test n) ((i : ℕ) × (i < n) × P i)
some_below_is test P each n = Decides-below_or test P (some_below test) each refl (λ _. refl) n

-- of two rows of numbers the second grows by as much as the first from number m to number n, or more, if it does so from each number to the next
pub grows_more : (f g : ℕ → ℕ) (m n : ℕ) → m ≤ n → ((i : ℕ) → m ≤ i → i < n → f (suc i) + g i ≤ g (suc i) + f i) → f n + g m ≤ g n + f m
grows_more f g m zero up step = grind arith
grows_more f g m (suc n) up step = grind (arith, grows_more f g m n)

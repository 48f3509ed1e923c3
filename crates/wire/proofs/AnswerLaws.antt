-- An answer's bytes are read as the answer, no other bytes are, and no two answers have the same. Assumes nothing.
use Rattle.std.proofs.Common.{◌≡◌, ℕ, ◌+◌, List, ◌++◌, length, get_or, Some, Option, sym, refl, ap, ◌∙◌, arith}
use Rattle.std.proofs.lemmas.Bool.Decides.{nat_tests}
use Rattle.wire.specs.declared.answer.Refusal.{Refusal}
use Rattle.wire.specs.declared.answer.Refused.{Refused as RefusedAt}
use Rattle.wire.specs.declared.answer.Pair.{Pair}
use Rattle.wire.specs.declared.answer.Pairs.{Pairs}
use Rattle.wire.specs.declared.answer.Pairs.TheVariants.{Zero, One, Two, Three}
use Rattle.wire.specs.declared.answer.Answer.{Answer}
use Rattle.wire.specs.declared.answer.Answer.TheVariants.{Refused, Number, Numbers, Listed}
use Rattle.std.specs.Option.{option_map}
use Rattle.wire.specs.Bytes.{four, number_of, part}
use Rattle.wire.specs.Answers.{answer_bytes, answer_of, pair_bytes, pair_of, pairs_of, read_answer, read_pairs, read_refused, refusal_number, refusal_of}
use Rattle.wire.specs.Laws.{FitsAnswer, FitsPair, AnswersReadBack, OnlyAnswersRead, AnswersApart}
use Rattle.wire.specs.Messages.{Bytes}
use Rattle.wire.proofs.Apart.{apart}
use Rattle.wire.proofs.Numbers.{number_of_four, part_in, four_from, number_at, padded_all}

pair_back : (p : Pair) → FitsPair p → p ≡ pair_of (pair_bytes p)
pair_back p fits = rw (number_of_four p.first fits.0, number_of_four p.second fits.1)

refusal_back : (r : Refusal) → refusal_of (number_of (four (refusal_number r))) ≡ Some r
refusal_back r = grind arith

-- one `grind` for all cases stops at its limit
pub answers_read_back : AnswersReadBack
answers_read_back (Refused r) fits = rw (refusal_back r.refusal, number_of_four r.place fits)
answers_read_back (Number n) fits = cc (number_of_four n fits)
answers_read_back (Numbers p) fits = cc (pair_back p fits)
answers_read_back (Listed Zero) fits = refl
answers_read_back (Listed (One p)) fits = cc (pair_back p fits)
answers_read_back (Listed (Two p q)) fits = cc (pair_back p fits.0, pair_back q fits.1)
answers_read_back (Listed (Three p q r)) fits = cc (pair_back p fits.0, pair_back q fits.1, pair_back r fits.2)

pub answers_apart : AnswersApart
answers_apart = apart answer_bytes read_answer FitsAnswer answers_read_back

refusal_is : (n : ℕ) (r : Refusal) → refusal_of n ≡ Some r → refusal_number r ≡ n
refusal_is n r h = grind (arith, nat_tests)

-- what an answer that is read says of what stands in it
module _ (k n : ℕ) (r : Option RefusedAt) (x : ℕ) (p : Pair) (ps : Option Pairs) where
  abbrev AnswerParts : Answer → Type 0
  AnswerParts (Refused s) = (0 ≡ k) × (n ≡ 9) × (r ≡ Some s)
  AnswerParts (Number y) = (1 ≡ k) × (n ≡ 5) × (y ≡ x)
  AnswerParts (Numbers q) = (2 ≡ k) × (n ≡ 9) × (q ≡ p)
  AnswerParts (Listed qs) = (3 ≡ k) × (ps ≡ Some qs)

  answer_parts : (a : Answer) → answer_of k n r x p ps ≡ Some a → AnswerParts a
  answer_parts a h = grind (arith, nat_tests)

module _ (c n : ℕ) (p q r : Pair) where
  abbrev PairsParts : Pairs → Type 0
  PairsParts Zero = (0 ≡ c) × (n ≡ 5)
  PairsParts (One a) = (1 ≡ c) × (n ≡ 13) × (a ≡ p)
  PairsParts (Two a b) = (2 ≡ c) × (n ≡ 21) × (a ≡ p) × (b ≡ q)
  PairsParts (Three a b d) = (3 ≡ c) × (n ≡ 29) × (a ≡ p) × (b ≡ q) × (d ≡ r)

  pairs_parts : (ps : Pairs) → pairs_of c n p q r ≡ Some ps → PairsParts ps
  pairs_parts ps h = grind (arith, nat_tests)

refused_parts : (r : Option Refusal) (place : ℕ) (s : RefusedAt) → option_map (λ r. record { refusal = r; place = place }) r ≡ Some s → (r ≡ Some s.refusal) × (s.place ≡ place)
refused_parts r place s h = grind (arith, nat_tests)

module _ (bs : List ℕ) (small : Bytes bs) where
  pair_at : (i : ℕ) {p : Pair} → p ≡ pair_of (part i 8 bs) → pair_bytes p ≡ four_from (i + 0) bs ++ four_from (i + 4) bs
  pair_at i e =
      cc (
        number_at bs small (i + 0) (ap (λ q. q.first) e ∙ ap number_of (part_in bs i 0 8 (omega arith))),
        number_at bs small (i + 4) (ap (λ q. q.second) e ∙ ap number_of (part_in bs i 4 4 (omega arith))),
      )

  listed_only : (ps : Pairs) → 3 ≡ get_or bs 0 0 → PairsParts (number_of (part 1 4 bs)) (length bs) (pair_of (part 5 8 bs)) (pair_of (part 13 8 bs)) (pair_of (part 21 8 bs)) ps → answer_bytes (Listed ps) ≡ bs
  listed_only Zero k parts = cc (k, number_at bs small 1 parts.0) ∙ padded_all 5 bs parts.1
  listed_only (One a) k parts = cc (k, number_at bs small 1 parts.0, pair_at 5 parts.2) ∙ padded_all 13 bs parts.1
  listed_only (Two a b) k parts = cc (k, number_at bs small 1 parts.0, pair_at 5 parts.2, pair_at 13 parts.3) ∙ padded_all 21 bs parts.1
  listed_only (Three a b c) k parts = cc (k, number_at bs small 1 parts.0, pair_at 5 parts.2, pair_at 13 parts.3, pair_at 21 parts.4) ∙ padded_all 29 bs parts.1

  refused_only : (s : RefusedAt) → 0 ≡ get_or bs 0 0 → length bs ≡ 9 → read_refused bs ≡ Some s → answer_bytes (Refused s) ≡ bs
  refused_only s k long h =
      let parts = refused_parts (refusal_of (number_of (part 1 4 bs))) (number_of (part 5 4 bs)) s h in
      let refusal = refusal_is (number_of (part 1 4 bs)) s.refusal parts.0 in
      cc (k, number_at bs small 1 refusal, number_at bs small 5 parts.1) ∙ padded_all 9 bs long

  only : (a : Answer) → AnswerParts (get_or bs 0 0) (length bs) (read_refused bs) (number_of (part 1 4 bs)) (pair_of (part 1 8 bs)) (read_pairs bs) a → answer_bytes a ≡ bs
  only (Refused s) parts = refused_only s parts.0 parts.1 parts.2
  only (Number y) parts = cc (parts.0, number_at bs small 1 parts.2) ∙ padded_all 5 bs parts.1
  only (Numbers q) parts = cc (parts.0, pair_at 1 parts.2) ∙ padded_all 9 bs parts.1
  only (Listed qs) parts = listed_only qs parts.0 (pairs_parts (number_of (part 1 4 bs)) (length bs) (pair_of (part 5 8 bs)) (pair_of (part 13 8 bs)) (pair_of (part 21 8 bs)) qs parts.1)

pub only_answers_read : OnlyAnswersRead
only_answers_read bs small a h =
    sym (only bs small a (answer_parts (get_or bs 0 0) (length bs) (read_refused bs) (number_of (part 1 4 bs)) (pair_of (part 1 8 bs)) (read_pairs bs) a h))

-- The sizes of steps: u, d, and u + d if there are fewer than a + b notes.
use Rattle.std.proofs.Common.{◌≡◌, ℕ, zero, suc, ◌+◌, ◌<◌, ◌≤◌, Bool, true, false, ◌==◌, nat_lt, List, [], ◌∷◌, length, slice_index, refl, ap, ◌∙◌, add-zero, arith}
use Rattle.std.proofs.lemmas.Bool.{cases_order, lt-ltb, le-ltb}
use Rattle.scale.specs.Notes.{pick, put_in}
use Rattle.scale.specs.Promise.{ThreeAtMost}
use Rattle.scale.specs.Laws.{in_order, SizesListed, StepsCounted, NoteAlone}
use Rattle.scale.proofs.Growth.{one_note, has_basis, one_or_more}
use Rattle.scale.proofs.Steps.{alone}
use Rattle.scale.proofs.Sums.{times, many_u, many_both, many_d, over_all, over_one, sizes_over, so_large_over, sum_all}

-- three at most, and the largest of three is the other two together
abbrev Three : List ℕ → Type 0
Three xs = (length xs ≤ 3) × (length xs ≡ 3 → slice_index xs 2 ≡ slice_index xs 0 + slice_index xs 1)

three_in_order : (u d : ℕ) (both : Bool) → Three (in_order u d both)
unfolding in_order
three_in_order u d both = grind arith

-- the loop of the definition: to put a size in again changes nothing
put_again : (s : ℕ) (xs : List ℕ) → put_in s (put_in s xs) ≡ put_in s xs
unfolding put_in
put_again s [] = grind arith
put_again s (x ∷ xs) = grind (arith, put_again s xs)

put_often : (i s : ℕ) (xs : List ℕ) → 0 < i → times i (put_in s) xs ≡ put_in s xs
unfolding times
put_often zero s xs some = absurd (omega arith)
put_often (suc zero) s xs some = refl
put_often (suc (suc i)) s xs some = ap (put_in s) (put_often (suc i) s xs (omega arith)) ∙ put_again s xs

put_three : (u d : ℕ) → 0 < u → 0 < d → put_in d (put_in (u + d) (put_in u [])) ≡ in_order u d true
unfolding put_in in_order
put_three u d u_some d_some = grind (arith, cases_order u d)

put_two : (u d : ℕ) → put_in d (put_in u []) ≡ in_order u d false
unfolding put_in in_order
put_two u d = grind arith

pub sizes_listed : SizesListed
unfolding times
sizes_listed t B =
    let ups : 0 < many_u B = omega arith in
    let downs : 0 < many_d B = omega arith in
    rw (sizes_over, over_all B put_in []) (simp put_often (go (many_both B) (omega arith)))
  where
    open B.basis use {a, b, u, d}

    go : (w : ℕ) → t.notes + w ≡ a + b → put_in d (times w (put_in (u + d)) (put_in u [])) ≡ in_order u d (nat_lt t.notes (a + b))
    go zero e = rw (le-ltb t.notes (a + b) (omega arith)) (put_two u d)
    go (suc w) e =
        let some : 0 < suc w = omega arith in
        rw (lt-ltb t.notes (a + b) (omega arith), put_often (suc w)) (put_three u d B.basis.some_u B.basis.some_d)

pub steps_counted : StepsCounted
steps_counted t B s = grind (arith, so_large_over t s t.notes, sum_all B (λ x. pick (x == s) 1 0))

pub note_alone : NoteAlone
unfolding put_in
note_alone t pos one =
    let G = alone t pos one in
    (G.step_is, G.next_is, sizes_over t t.notes ∙ over_one t pos one put_in [], λ s. so_large_over t s t.notes ∙ over_one t pos one _ 0 ∙ add-zero _)

pub three_at_most : ThreeAtMost
unfolding ThreeAtMost
three_at_most t T =
    elim (one_or_more t T) [
      | one_note pos one ↦ rw (note_alone t pos one).2 (omega arith, λ three. absurd (omega arith))
      | has_basis B ↦ rw (sizes_listed t B) (three_in_order B.basis.u B.basis.d (nat_lt t.notes (B.basis.a + B.basis.b)))
    ]

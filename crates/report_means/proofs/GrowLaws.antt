-- Laws of the four words, and of the figures of two tables of runs, where each run of the second goes on from that of
-- the first: what ended idle, with buzz or in conflict ends so again, and no run makes fewer moves.
use Prim.Native.Nat.{ℕ, zero, suc, ◌+◌, ◌≤◌}
use native.Mathlib.Omega.{arith}
use mathlib.Core.Path.{◌≡◌, refl, sym, ap, subst, ◌∙◌}
use mathlib.Core.Bool.{true, cond}
use mathlib.Core.List.{List, [], ◌∷◌}
use lib.ListN.{length, length-append}
use borrow.Author.Tests.{eqb-true, eq-eqb}
use Rattle.bits.proofs.BoolLaws.{by_test}
use Rattle.lists.specs.Tables.{table_from}
use Rattle.runs.specs.Runs.{Ending, idle, spent, conflict, buzz, Run}
use Rattle.runs_means.proofs.ExtendLaws.{Final, GoesOn}
use Rattle.report.specs.Figures.{moves_in, word_place, same_word, ended_with, total_moves, most_moves}

-- ---- the four words

-- a run ends with one of them
word-once : (e : Ending)
    → cond (same_word idle e) 1 0 + cond (same_word buzz e) 1 0 + cond (same_word conflict e) 1 0
    + cond (same_word spent e) 1 0
    ≡ 1
word-once idle = refl
word-once spent = refl
word-once conflict = refl
word-once buzz = refl

pub words_add : (xs : List Run)
    → ended_with idle xs + ended_with buzz xs + ended_with conflict xs + ended_with spent xs ≡ length xs
unfolding ended_with
words_add [] = refl
words_add (x ∷ xs) = omega (arith, word-once x.word, words_add xs)

word_at : ℕ → Ending
word_at zero = idle
word_at (suc zero) = buzz
word_at (suc (suc zero)) = conflict
word_at (suc (suc (suc n))) = spent

word_at_lem : (e : Ending) → word_at (word_place e) ≡ e
unfolding word_at
word_at_lem idle = refl
word_at_lem spent = refl
word_at_lem conflict = refl
word_at_lem buzz = refl

same_word_lem : (e f : Ending) → same_word e f ≡ true → f ≡ e
same_word_lem e f same =
    sym (word_at_lem f) ∙ ap word_at (sym (eqb-true (word_place e) (word_place f) same)) ∙ word_at_lem e

-- ---- runs that go on

module _ (f g : ℕ → Run) (on : (k : ℕ) → GoesOn (f k) (g k)) where
  -- what ended with a word that stands does so again
  counts_again : (e : Ending) → Final e → (k : ℕ) → same_word e (f k).word ≡ true → same_word e (g k).word ≡ true
  counts_again e stands k ended =
      let here = same_word_lem e (f k).word ended in
      let again = (on k).stands (subst Final (sym here) stands) in
      eq-eqb (word_place e) (word_place (g k).word) (ap word_place (sym (ap (λ (x : Run). x.word) again ∙ here)))

  pub ended_grows : (e : Ending) → Final e → (k n : ℕ)
      → ended_with e (table_from f k n) ≤ ended_with e (table_from g k n)
  unfolding table_from ended_with
  ended_grows e stands zero n = omega arith
  ended_grows e stands (suc k) n =
      by_test (same_word e (f n).word)
      (λ is. rw (is, counts_again e stands n is) (omega (arith, ended_grows e stands k (suc n))))
      (λ is. rw is (omega (arith, ended_grows e stands k (suc n))))

  moves_grow : (k : ℕ) → moves_in (f k) ≤ moves_in (g k)
  moves_grow k =
      let start = (on k).starts in
      omega (arith, ap length start.whole, length-append (f k).bytes start.rest)

  pub total_grows : (k n : ℕ) → total_moves (table_from f k n) ≤ total_moves (table_from g k n)
  unfolding table_from total_moves
  total_grows zero n = omega arith
  total_grows (suc k) n = omega (arith, moves_grow n, total_grows k (suc n))

  pub most_grows : (k n : ℕ) → most_moves (table_from f k n) ≤ most_moves (table_from g k n)
  unfolding table_from most_moves
  most_grows zero n = omega arith
  most_grows (suc k) n = omega (arith, moves_grow n, most_grows k (suc n))

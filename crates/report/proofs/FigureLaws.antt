-- Laws of figures: those of one run, those of some runs with others after them, and how large they are.
use Prim.Native.Nat.{ℕ, suc, ◌+◌, ◌*◌, ◌^◌, ◌<◌, ◌≤◌, max}
use native.Mathlib.Omega.{arith}
use native.Mathlib.Nat.{suc-mul}
use mathlib.Core.Path.{◌≡◌, refl, sym, ap, subst}
use mathlib.Core.Bool.{cond}
use mathlib.Core.List.{List, [], ◌∷◌, ◌++◌}
use lib.Dec.{ltb, eqb}
use lib.ListN.{length, length-append}
use borrow.Author.Tests.{lt-ltb, le-ltb, eqb-false, eq-eqb, ne_eqb}
use Rattle.bits.proofs.BoolLaws.{by_test, by_less}
use Rattle.refusals.specs.Outcomes.{given}
use Rattle.lists.specs.Members.{All}
use Rattle.runs.specs.Runs.{Ending, idle, buzz, conflict, spent, Run}
use Rattle.runs.specs.Running.{longest_log}
use Rattle.report.specs.declared.Figures.{Figures}
use Rattle.report.specs.Figures.{moves_in, same_word, ended_with, total_moves, most_moves, first_with}
use Rattle.report.specs.Figures.{figures_of}
use Rattle.report.specs.Settings.{most_reported}
use Rattle.report.specs.BothWays.{one_run, added, followed, Within, Followed}

-- ---- some runs with others after them

ended-append : (e : Ending) (xs ys : List Run) → ended_with e (xs ++ ys) ≡ ended_with e xs + ended_with e ys
unfolding ended_with
ended-append e [] ys = omega arith
ended-append e (x ∷ xs) ys = omega (arith, ended-append e xs ys)

total-append : (xs ys : List Run) → total_moves (xs ++ ys) ≡ total_moves xs + total_moves ys
unfolding total_moves
total-append [] ys = omega arith
total-append (x ∷ xs) ys = omega (arith, total-append xs ys)

most-append : (xs ys : List Run) → most_moves (xs ++ ys) ≡ max (most_moves xs) (most_moves ys)
unfolding most_moves
most-append [] ys = omega arith
most-append (x ∷ xs) ys = omega (arith, most-append xs ys)

-- no run has more than the most moves, so what has more is not among them
first_later : (m : ℕ) (xs ys : List Run) → most_moves xs < m → first_with m (xs ++ ys) ≡ length xs + first_with m ys
unfolding most_moves first_with
first_later m [] ys more = omega arith
first_later m (x ∷ xs) ys more =
    rw (ne_eqb (moves_in x) m (λ is. omega (arith, is, more))) (omega (arith, first_later m xs ys (omega arith)))

-- the first with no moves, where none has any, is the first of all
first_still : (ys : List Run) → most_moves ys ≤ 0 → first_with 0 ys ≡ 0
unfolding most_moves first_with
first_still [] none = refl
first_still (y ∷ ys) none = rw (eq-eqb (moves_in y) 0 (omega arith))

-- where those after them have no more, the first with the most is among the ones before
first_sooner : (xs ys : List Run) → most_moves ys ≤ most_moves xs
    → first_with (most_moves xs) (xs ++ ys) ≡ first_with (most_moves xs) xs
unfolding most_moves first_with
first_sooner [] ys least = first_still ys least
first_sooner (x ∷ xs) ys least = by_test (eqb (moves_in x) (max (moves_in x) (most_moves xs)))
    (λ is. rw is)
    (λ is.
    let other = eqb-false (moves_in x) (max (moves_in x) (most_moves xs)) is in
    let rest : max (moves_in x) (most_moves xs) ≡ most_moves xs = omega (arith, other) in
    rw is
    (ap suc
    (subst (λ (m : ℕ). first_with m (xs ++ ys) ≡ first_with m xs) (sym rest)
    (first_sooner xs ys (omega (arith, rest, least))))))

first-append : (xs ys : List Run) → first_with (most_moves (xs ++ ys)) (xs ++ ys)
    ≡ cond (ltb (most_moves xs) (most_moves ys)) (length xs + first_with (most_moves ys) ys)
    (first_with (most_moves xs) xs)
first-append xs ys =
    by_less (most_moves xs) (most_moves ys)
    (λ less.
    let most : most_moves (xs ++ ys) ≡ most_moves ys = omega (arith, most-append xs ys) in
    rw (most, lt-ltb (most_moves xs) (most_moves ys) less) (first_later (most_moves ys) xs ys less))
    (λ least.
    let most : most_moves (xs ++ ys) ≡ most_moves xs = omega (arith, most-append xs ys) in
    rw (most, le-ltb (most_moves xs) (most_moves ys) least) (first_sooner xs ys least))

pub figures-followed : (xs ys : List Run) → followed (figures_of xs) (figures_of ys) ≡ figures_of (xs ++ ys)
unfolding followed figures_of
figures-followed xs ys =
    λ i. record {
      settings = sym (length-append xs ys) i;
      idle = sym (ended-append idle xs ys) i;
      buzz = sym (ended-append buzz xs ys) i;
      conflict = sym (ended-append conflict xs ys) i;
      spent = sym (ended-append spent xs ys) i;
      moves = sym (total-append xs ys) i;
      most = sym (most-append xs ys) i;
      first = sym (first-append xs ys) i;
    }

-- what the code makes of the most moves and their first setting
module _ (f g : Figures) where
  pub followed_more : f.most < g.most → added f g g.most (f.settings + g.first) ≡ followed f g
  unfolding followed
  followed_more less =
      let most : g.most ≡ max f.most g.most = omega arith in
      rw (lt-ltb f.most g.most less) (ap (λ (m : ℕ). added f g m (f.settings + g.first)) most)

  pub followed_rest : g.most ≤ f.most → added f g f.most f.first ≡ followed f g
  unfolding followed
  followed_rest least =
      let most : f.most ≡ max f.most g.most = omega arith in
      rw (le-ltb f.most g.most least) (ap (λ (m : ℕ). added f g m f.first) most)

-- where no figure is above 2 to the 32, none is capped
pub followed_whole : (f g r : Figures) → Within (2 ^ 32) f → Within (2 ^ 32) g → Followed f g r → r ≡ followed f g
unfolding followed
followed_whole f g r some others is =
    by_test (ltb f.most g.most) (λ t. rw (is, t) (search arith)) (λ t. rw (is, t) (search arith))

-- ---- one run

pub one_run-figures : (x : Run) → one_run (given x.word) (moves_in x) ≡ figures_of (x ∷ [])
unfolding one_run figures_of ended_with total_moves most_moves first_with
one_run-figures x = λ i. record {
  settings = 1;
  idle = count idle i;
  buzz = count buzz i;
  conflict = count conflict i;
  spent = count spent i;
  moves = total i;
  most = most i;
  first = first i;
}
  where
    count : (e : Ending) → cond (same_word e x.word) 1 0 ≡ cond (same_word e x.word) 1 0 + 0
    count e = omega arith

    total : moves_in x ≡ moves_in x + 0
    total = omega arith

    most : moves_in x ≡ max (moves_in x) 0
    most = omega arith

    first : ◌≡◌ {A = ℕ} 0 (cond (eqb (moves_in x) (max (moves_in x) 0)) 0 1)
    first = rw (eq-eqb (moves_in x) (max (moves_in x) 0) most)

-- ---- how large the figures are

ended_most : (e : Ending) (xs : List Run) → ended_with e xs ≤ length xs
unfolding ended_with
ended_most e [] = omega arith
ended_most e (x ∷ xs) =
    by_test (same_word e x.word) (λ is. rw is (omega (arith, ended_most e xs)))
    (λ is. rw is (omega (arith, ended_most e xs)))

total_most : (n : ℕ) (xs : List Run) → All (λ (x : Run). moves_in x ≤ n) xs → total_moves xs ≤ length xs * n
unfolding total_moves
total_most n [] all = omega arith
total_most n (x ∷ xs) (one, all) = omega (arith, one, total_most n xs all, suc-mul (length xs) n)

first_most : (m : ℕ) (xs : List Run) → first_with m xs ≤ length xs
unfolding first_with
first_most m [] = omega arith
first_most m (x ∷ xs) =
    by_test (eqb (moves_in x) m) (λ is. rw is (omega arith)) (λ is. rw is (omega (arith, first_most m xs)))

pub figures-within : (xs : List Run) → length xs ≤ 2 ^ most_reported → All (λ (x : Run). moves_in x ≤ longest_log) xs
    → Within (2 ^ 32) (figures_of xs)
unfolding figures_of
figures-within xs many all = record {
  settings = omega arith;
  idle = omega (arith, ended_most idle xs);
  buzz = omega (arith, ended_most buzz xs);
  conflict = omega (arith, ended_most conflict xs);
  spent = omega (arith, ended_most spent xs);
  moves = omega (arith, total_most longest_log xs all);
  first = omega (arith, first_most (most_moves xs) xs);
}

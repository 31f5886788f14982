-- Laws of kept sets: when they belong to a board and a state, and when a call can use them. The crates above cite
-- these, and nothing of the definitions' text. The last two sections are for the proofs of `belong` and `usable`.
use Prim.Native.Nat.{ℕ}
use mathlib.Core.Path.{◌≡◌, refl, sym, ap, ap₂, ◌∙◌}
use mathlib.Core.Bool.{Bool, true, false, ◌&&◌, false≢true}
use mathlib.Core.List.{List, [], ◌∷◌, ◌++◌}
use Rattle.std.specs.Cmp.Lexicographic.{pointwise}
use lib.Dec.{eqb}
use borrow.Author.Tests.{eqb-true, eq-eqb}
use Rattle.bits.proofs.BoolLaws.{both_true, true_both}
use Rattle.refusals.specs.Outcomes.{Outcome, given, refused, ◌>>◌}
use Rattle.refusals.specs.Refusals.{broken_board, state_beyond_board, foreign_sets}
use Rattle.refusals.specs.Order.{Order, first_no}
use Rattle.refusals.proofs.OrderLaws.{asks_append, first_holds}
use Rattle.refusals.proofs.Tabled.{Tabled, TabledLines, tabled_lines}
use Rattle.refusals.specs.declared.No.TheVariants as No
use Rattle.board.specs.declared.Board.{Board}
use Rattle.board.specs.Rules.{board_fine}
use Rattle.state.specs.declared.State.{State}
use Rattle.state.specs.States.{state_fine}
use Rattle.neighbours.specs.declared.Sets.{Sets}
use Rattle.neighbours.specs.Neighbours.{neighbours, bare_neighbours, sets_of}
use Rattle.kept.specs.declared.Kept.{Kept}
use Rattle.kept.specs.Kept.{kept_at, same_row, belongs, usable_lines, usable, CanUse, left}

-- ---- rows that are the same are one

same_row_itself : (xs : List ℕ) → same_row xs xs ≡ true
unfolding same_row
same_row_itself [] = refl
same_row_itself (x ∷ xs) = true_both (eq-eqb x x refl) (same_row_itself xs)

same_row_one : (xs ys : List ℕ) → same_row xs ys ≡ true → xs ≡ ys
unfolding same_row
same_row_one [] [] same = refl
same_row_one [] (y ∷ ys) same = absurd (false≢true same)
same_row_one (x ∷ xs) [] same = absurd (false≢true same)
same_row_one (x ∷ xs) (y ∷ ys) same =
    let both = both_true (eqb x y) (same_row xs ys) same in
    ap₂ {A = ℕ} {B = List ℕ} (λ u us. u ∷ us) (eqb-true x y both.0) (same_row_one xs ys both.1)

-- ---- sets that belong to a board and a state are those of that board in that state

module _ (b : Board) where
  pub kept-belongs : (s : State) → belongs b (kept_at b s) ≡ true
  unfolding belongs
  kept-belongs s = true_both (same_row_itself (neighbours b s)) (same_row_itself (bare_neighbours b s))

  pub belongs-kept : (h : Kept) → belongs b h ≡ true → h ≡ kept_at b h.state
  unfolding belongs
  belongs-kept h own =
      let both = both_true (same_row h.sets.near (neighbours b h.state)) _ own in
      ap₂ (λ (k l : List ℕ). record { state = h.state; sets = record { near = k; bare = l } })
      (same_row_one h.sets.near (neighbours b h.state) both.0)
      (same_row_one h.sets.bare (bare_neighbours b h.state) both.1)

  pub kept_sets : (h : Kept) → h ≡ kept_at b h.state → h.sets ≡ sets_of b h.state
  kept_sets h own = ap (λ (k : Kept). k.sets) own

  pub foreign_not : (h : Kept) → belongs b h ≡ false → ¬ (h ≡ kept_at b h.state)
  foreign_not h foreign own =
      false≢true (sym foreign ∙ ap (belongs b) own ∙ kept-belongs h.state)

-- ---- a board, a state and kept sets that a call can use

module _ (b : Board) where
  pub usable_fine : (s : State) → board_fine b ≡ true → state_fine b.counts s ≡ true → usable b (kept_at b s) ≡ given tt
  unfolding usable first_no
  usable_fine s fine fits = rw (fine, fits, kept-belongs b s) refl

  pub usable_can : (h : Kept) → usable b h ≡ given tt → CanUse b h
  unfolding usable
  usable_can h taken =
      let board = first_holds (board_fine b) broken_board _ taken in
      let state = first_holds (state_fine b.counts h.state) state_beyond_board _ board.1 in
      (board.0, state.0, (first_holds (belongs b h) foreign_sets _ state.1).0)

  pub can-usable : (h : Kept) → CanUse b h → usable b h ≡ given tt
  unfolding usable first_no
  can-usable h (fine, fits, own) = rw (fine, fits, own) refl

  pub usable_given : (h : Kept) → usable b h ≡ given tt
      → (board_fine b ≡ true) × (state_fine b.counts h.state ≡ true) × (h ≡ kept_at b h.state)
  usable_given h taken = let can = usable_can h taken in (can.0, can.1, belongs-kept b h can.2)

  -- a call's own lines come after these
  pub usable_lines_lem : (h : Kept) (ls : Order) → first_no (usable_lines b h ++ ls) ≡ (usable b h >> first_no ls)
  unfolding usable
  usable_lines_lem h ls = asks_append (usable_lines b h) ls

  -- what is refused, and neither by 15 nor by 14 nor by 18, is refused by what is asked next
  pub usable_next : (h : Kept) {A : Type 0} (o : Outcome A) (k p : ℕ) → ¬ (broken_board ≡ k)
      → ¬ (state_beyond_board ≡ k)
      → ¬ (foreign_sets ≡ k) → (usable b h >> o) ≡ refused k p
      → (usable b h ≡ given tt) × (o ≡ refused k p)
  unfolding usable first_no
  usable_next h {A} o k p not-broken not_beyond not-foreign is =
      by_tests (board_fine b) (state_fine b.counts h.state) (belongs b h) is
    where
      asked : Bool → Bool → Bool → Outcome (Unit {0})
      asked t u v = first_no ((t, broken_board) ∷ (u, state_beyond_board) ∷ (v, foreign_sets) ∷ [])

      by_tests : (t u v : Bool) → (asked t u v >> o) ≡ refused k p → (asked t u v ≡ given tt) × (o ≡ refused k p)
      by_tests false u v e = absurd (not-broken cc)
      by_tests true false v e = absurd (not_beyond cc)
      by_tests true true false e = absurd (not-foreign cc)
      by_tests true true true e = (refl, e)

-- what holds of h, and of what is left where something is given, holds of what a call leaves
pub left_either : {A : Type 0} (P : Kept → Type 0) (h : Kept) (f : A → Kept) (o : Outcome A) → P h
    → ((a : A) → o ≡ given a → P (f a)) → P (left h f o).0
unfolding left
left_either P h f (given a) here there = there a refl
left_either P h f (refused n p) here there = here

-- ---- the rows by `==`, for the proof of `belong`

pub rows_pointwise : (xs ys : List ℕ) → pointwise eqb xs ys ≡ same_row xs ys
unfolding same_row
rows_pointwise [] [] = refl
rows_pointwise [] (y ∷ ys) = refl
rows_pointwise (x ∷ xs) [] = refl
rows_pointwise (x ∷ xs) (y ∷ ys) = ap (λ (t : Bool). eqb x y && t) (rows_pointwise xs ys)

pub belongs_by : (b : Board) (h : Kept) (own : Sets) → own ≡ sets_of b h.state
    → (pointwise eqb h.sets.near own.near && pointwise eqb h.sets.bare own.bare) ≡ belongs b h
unfolding belongs
belongs_by b h own is =
    ap (λ (k : Sets). pointwise eqb h.sets.near k.near && pointwise eqb h.sets.bare k.bare) is
    ∙ ap₂ (λ (t u : Bool). t && u) (rows_pointwise h.sets.near (neighbours b h.state))
    (rows_pointwise h.sets.bare (bare_neighbours b h.state))

-- ---- the three lines one after the other, for the proof of `usable`

module _ (b : Board) (h : Kept) where
  pub usable_broken : board_fine b ≡ false → refused broken_board 0 ≡ usable b h
  unfolding usable first_no
  usable_broken broken = rw broken refl

  pub usable_beyond : board_fine b ≡ true → state_fine b.counts h.state ≡ false
      → refused state_beyond_board 0 ≡ usable b h
  unfolding usable first_no
  usable_beyond fine beyond = rw (fine, beyond) refl

  pub usable_foreign : board_fine b ≡ true → state_fine b.counts h.state ≡ true → belongs b h ≡ false
      → refused foreign_sets 0 ≡ usable b h
  unfolding usable first_no
  usable_foreign fine fits foreign = rw (fine, fits, foreign) refl

pub usable_tabled : (b : Board) (h : Kept) → Tabled (usable b h)
unfolding usable TabledLines
usable_tabled b h =
    tabled_lines (usable_lines b h)
    ((No.BrokenBoard, refl), ((No.StateBeyondBoard, refl), ((No.ForeignSets, refl), tt)))

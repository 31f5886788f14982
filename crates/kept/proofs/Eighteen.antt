-- When 18 is given: kept sets are those of the board in its state exactly if they join what conducting parts join.
use Prim.Native.Nat.{ℕ}
use native.Mathlib.Omega.{arith}
use mathlib.Core.Path.{◌≡◌, refl, sym, ap, ap₂, subst, ◌∙◌}
use mathlib.Core.Bool.{Bool, true, false}
use mathlib.Core.List.{List, [], ◌∷◌}
use lib.ListN.{length, get_or}
use lib.Seq.{ext_get_or}
use Rattle.bits.proofs.BoolLaws.{by_test, both_ways}
use Rattle.bits.proofs.SetLaws.{members_equal}
use Rattle.refusals.specs.Outcomes.{Outcome, refused}
use Rattle.refusals.specs.Refusals.{broken_board, state_beyond_board, foreign_sets}
use Rattle.refusals.specs.Order.{first_no}
use Rattle.refusals.proofs.OutcomeLaws.{refused_never}
use Rattle.board.specs.declared.Board.{Board}
use Rattle.board.specs.Rules.{most_terminals, board_fine}
use Rattle.board.specs.BreaksNoRule.{BoardFits}
use Rattle.board.proofs.BreaksNoRule.{fine_fits}
use Rattle.state.specs.declared.State.{State}
use Rattle.state.specs.States.{state_fine}
use Rattle.neighbours.specs.Neighbours.{joined, neighbours, bare_neighbours}
use Rattle.neighbours.proofs.SetAtLaws.{sets-length, neighbours_sets, bare_sets}
use Rattle.neighbours.proofs.JoinedLaws.{joined-part, part-joined, bare-part, part_bare}
use Rattle.kept.specs.declared.Kept.{Kept}
use Rattle.kept.specs.Kept.{kept_at, belongs, usable}
use Rattle.kept.specs.Eighteen.{KeptJoin, EighteenExactly}
use Rattle.kept.proofs.KeptLaws.{belongs-kept, foreign_not}

-- ---- rows of 64 sets that join the same are one

rows_one : (k l : List ℕ) → length k ≡ most_terminals → length l ≡ most_terminals
    → ((x y : ℕ) → joined k x y ≡ true → joined l x y ≡ true) → ((x y : ℕ) → joined l x y ≡ true → joined k x y ≡ true)
    → k ≡ l
rows_one k l long also on back =
    ext_get_or 0 k l (long ∙ sym also)
    (λ x inside. members_equal (get_or k x 0) (get_or l x 0) (λ y. both_ways _ _ (on x y) (back x y)))

-- ---- the sets of a board in a state join exactly what conducting parts join

module _ (b : Board) (s : State) where
  near_long : length (neighbours b s) ≡ most_terminals
  near_long = ap length (neighbours_sets b s) ∙ sets-length _ _

  bare_long : length (bare_neighbours b s) ≡ most_terminals
  bare_long = ap length (bare_sets b s) ∙ sets-length _ _

module _ (b : Board) (fits : BoardFits b) where
  pub kept_join : (s : State) → KeptJoin b (kept_at b s)
  kept_join s =
      record {
        many = (near_long b s, bare_long b s);
        near = λ x y. (joined-part b s x y, part-joined b s x y fits);
        bare = λ x y. (bare-part b s x y, part_bare b s x y fits);
      }

  join_kept : (h : Kept) → KeptJoin b h → h ≡ kept_at b h.state
  join_kept h join =
      ap₂ (λ (k l : List ℕ). record { state = h.state; sets = record { near = k; bare = l } })
      (rows_one h.sets.near (neighbours b h.state) join.many.0 (near_long b h.state)
      (λ x y is. part-joined b h.state x y fits ((join.near x y).0 is))
      (λ x y is. (join.near x y).1 (joined-part b h.state x y is)))
      (rows_one h.sets.bare (bare_neighbours b h.state) join.many.1 (bare_long b h.state)
      (λ x y is. part_bare b h.state x y fits ((join.bare x y).0 is))
      (λ x y is. (join.bare x y).1 (bare-part b h.state x y is)))

-- ---- 18

-- a call that is refused by another number, or not at all, is not refused by 18
other_number : (n p : ℕ) → ¬ (n ≡ foreign_sets)
    → ¬ (◌≡◌ {A = Outcome (Unit {0})} (refused n p) (refused foreign_sets 0))
other_number n p differs is = differs cc

module _ (b : Board) (h : Kept) where
  foreign_given : board_fine b ≡ true → state_fine b.counts h.state ≡ true → ¬ (KeptJoin b h)
      → usable b h ≡ refused foreign_sets 0
  unfolding usable first_no
  foreign_given fine state apart =
      let off : belongs b h ≡ false =
      by_test (belongs b h)
      (λ own. absurd (apart
      (subst (KeptJoin b) (sym (belongs-kept b h own)) (kept_join b (fine_fits b fine) h.state))))
      (λ is. is) in
      rw (fine, state, off) refl

  given_foreign : usable b h ≡ refused foreign_sets 0
      → (board_fine b ≡ true) × (state_fine b.counts h.state ≡ true) × ¬ (KeptJoin b h)
  unfolding usable first_no
  given_foreign is = by_tests (board_fine b) (state_fine b.counts h.state) (belongs b h) refl refl refl is
    where
      by_tests : (t u v : Bool) → board_fine b ≡ t → state_fine b.counts h.state ≡ u → belongs b h ≡ v
          → first_no ((t, broken_board) ∷ (u, state_beyond_board) ∷ (v, foreign_sets) ∷ []) ≡ refused foreign_sets 0
          → (t ≡ true) × (u ≡ true) × ¬ (KeptJoin b h)
      by_tests false u v x y z e = absurd (other_number broken_board 0 (λ same. omega (arith, same)) e)
      by_tests true false v x y z e = absurd (other_number state_beyond_board 0 (λ same. omega (arith, same)) e)
      by_tests true true true x y z e = absurd (refused_never foreign_sets 0 tt (sym e))
      by_tests true true false x y z e =
          (refl, refl, λ join. foreign_not b h z (join_kept b (fine_fits b x) h join))

pub eighteen_exactly : EighteenExactly
eighteen_exactly b h a tells =
    (λ is. given_foreign b h (sym tells ∙ is), λ (fine, state, apart). tells ∙ foreign_given b h fine state apart)

-- Laws of boards that break no rule: what being fine says of the counts, of each part and of each relay, and how the
-- tests of `check` come to it.
use Prim.Native.Nat.{ℕ, ◌<◌}
use native.Mathlib.Omega.{arith}
use mathlib.Core.Path.{◌≡◌, refl, sym, ap, subst}
use mathlib.Core.Logic.{◌↔◌}
use mathlib.Core.Bool.{true, false}
use Rattle.std.specs.Prelude.{Some, None}
use lib.Dec.{eqb}
use borrow.Author.Tests.{eqb-true, eq-eqb}
use Rattle.bits.specs.Sets.{member}
use Rattle.kinds.specs.Kinds.{mark_kind}
use Rattle.windings.specs.declared.WoundSoFar.{WoundSoFar}
use Rattle.windings.specs.Windings.{none_wound, complete}
use Rattle.board.specs.declared.Board.{Board}
use Rattle.board.specs.Parts.{parts_of}
use Rattle.board.specs.Rules.{counts_fine, gained_all, parts_fine, row_after, start_of, board_fine}
use Rattle.bits.proofs.BoolLaws.{both_true, true_both, by_less}
use Rattle.board.specs.Sorts.{Wound, MarkedOnce, IsMarked}
use Rattle.board.specs.BreaksNoRule.{StartsMarked}
use Rattle.board.proofs.RuleLaws.{InRange, counts-in_range, row_fine, row_broken}
use Rattle.board.proofs.WindingLaws.{parts_fit, fine_fit, fine-wound, fine-marked_once, start-marked, past_none}

-- the tests of 15 one by one: 3, then 5 to 8 and 17, then 9, then the start
pub record FineBoard (b : Board) : Type 0 where
  pub counts : counts_fine b.counts ≡ true
  pub parts : parts_fine b.counts none_wound (parts_of b) ≡ true
  pub whole : complete b.counts.relays (gained_all none_wound (parts_of b)) ≡ true
  pub start : b.start ≡ start_of (parts_of b)

pub fine_splits : (b : Board) → board_fine b ≡ true → FineBoard b
unfolding board_fine
fine_splits b fine =
    let last = both_true _ _ fine in
    let third = both_true _ _ last.0 in
    let first = both_true _ _ third.0 in
    record { counts = first.0; parts = first.1; whole = third.1; start = eqb-true _ _ last.1 }

pub splits_fine : (b : Board) → FineBoard b → board_fine b ≡ true
unfolding board_fine
splits_fine b all =
    true_both (true_both (true_both all.counts all.parts) all.whole)
    (eq-eqb b.start (start_of (parts_of b)) all.start)

-- what the tests of `check` come to, in their order; w are the windings and marks that it begins with
module _ (b : Board) where
  pub check_counts : counts_fine b.counts ≡ false → false ≡ board_fine b
  unfolding board_fine
  check_counts off = simp off

  module _ (fine : counts_fine b.counts ≡ true) {w : WoundSoFar} (begins : w ≡ none_wound) where
    pub check_row : None ≡ row_after b.counts w (parts_of b) → false ≡ board_fine b
    unfolding board_fine
    check_row broken =
        simp (fine, row_broken b.counts none_wound (parts_of b) (rw begins at broken))

    module _ {v : WoundSoFar} (row : Some v ≡ row_after b.counts w (parts_of b)) where
      row_after_lem : (parts_fine b.counts none_wound (parts_of b) ≡ true) × (v ≡ gained_all none_wound (parts_of b))
      row_after_lem = row_fine b.counts none_wound v (parts_of b) (rw begins at row)

      pub check_lacking : complete b.counts.relays v ≡ false → false ≡ board_fine b
      unfolding board_fine
      check_lacking off = simp (fine, row_after_lem.0, ← row_after_lem.1, off)

      pub check_start : complete b.counts.relays v ≡ true → eqb b.start v.marked ≡ board_fine b
      unfolding board_fine
      check_start on =
          simp (fine, row_after_lem.0, ← row_after_lem.1, on)
          (ap (λ (u : WoundSoFar). eqb b.start u.marked) row_after_lem.1)

pub fine_range : (b : Board) → board_fine b ≡ true → InRange b.counts
fine_range b fine = counts-in_range b.counts (fine_splits b fine).counts

pub fine_parts_fit : (b : Board) → board_fine b ≡ true → parts_fit b.counts (parts_of b) ≡ true
fine_parts_fit b fine = fine_fit b.counts none_wound (parts_of b) (fine_splits b fine).parts

pub fine_relays_wound : (b : Board) → board_fine b ≡ true → Wound b.counts.relays (parts_of b)
fine_relays_wound b fine =
    let all = fine_splits b fine in
    fine-wound b.counts (parts_of b) (fine_range b fine).relays_few all.parts all.whole

pub fine_relays_marked_once : (b : Board) → board_fine b ≡ true → MarkedOnce b.counts.relays (parts_of b)
fine_relays_marked_once b fine =
    fine-marked_once b.counts (parts_of b) (fine_range b fine).relays_few (fine_splits b fine).parts

-- the start has exactly the relays that are marked
pub fine-starts_marked : (b : Board) → board_fine b ≡ true → StartsMarked b
fine-starts_marked b fine r =
    let all = fine_splits b fine in
    subst (λ (s : ℕ). member s r ≡ true ↔ IsMarked r (parts_of b)) (sym all.start)
    (start-marked b.counts (parts_of b) (fine_range b fine).relays_few all.parts r)

-- and every one of them is a relay of the board
pub fine_start_below : (b : Board) → board_fine b ≡ true → (r : ℕ) → member b.start r ≡ true → r < b.counts.relays
fine_start_below b fine r on =
    by_less r b.counts.relays (λ below. below)
    (λ past. absurd (omega (
      arith,
      past_none b.counts r mark_kind refl refl (parts_of b) (fine_parts_fit b fine) past,
      (fine-starts_marked b fine r).0 on,
    )))

-- Rules 8 and 17 by the windings and marks counted over the parts so far: a part's winding is barred by them exactly if
-- its relay already has it or is of the other sort, and a mark exactly if its relay is marked already. Both directions
-- of the refusals of a file go by these.
use Prim.Native.Nat.{ℕ, zero, suc, ◌+◌, ◌<◌, ◌≤◌}
use native.Mathlib.Omega.{arith}
use mathlib.Core.Path.{◌≡◌, refl, sym, ◌∙◌}
use mathlib.Core.Bool.{true, false, false≢true}
use mathlib.Core.List.{List}
use lib.Dec.{eqb}
use borrow.Author.Tests.{eqb-false, ne_eqb}
use Rattle.bits.proofs.BoolLaws.{by_test, by_less}
use Rattle.kinds.specs.Kinds.{regular_kind, drawing_kind, dropping_kind, last_kind, kind_of}
use Rattle.windings.specs.declared.WoundSoFar.{WoundSoFar}
use Rattle.windings.specs.Windings.{winding_free, unmarked}
use Rattle.board.specs.declared.Part.{Part}
use Rattle.board.specs.Sorts.{count_of}
use Rattle.board.proofs.TallyLaws.{Tallied, regular_tallied, drawing_tallied, dropping_tallied, mark_tallied}
use Rattle.file_means.specs.FileRefusals.{Taken, has_it, is_steel, is_regular, TakenMark}

-- only a winding can be taken
pub taken_winding : (r : ℕ) (ps : List Part) (k : ℕ) → Taken r ps k → regular_kind ≤ k
taken_winding r ps k (has_it winding last some) = winding
taken_winding r ps k (is_steel some) = omega arith
taken_winding r ps k (is_regular steel last some) = omega arith

some_not_none : (n : ℕ) → 0 < n → eqb n 0 ≡ false
some_not_none n some = ne_eqb n 0 (λ e. omega (arith, some, e))

not_none_some : (n : ℕ) → eqb n 0 ≡ false → 0 < n
not_none_some n off = let apart = eqb-false n 0 off in omega (arith, apart)

module _ (w : WoundSoFar) (ps : List Part) (r : ℕ) (so_far : Tallied w ps r) where
  abbrev regulars : ℕ
  regulars = count_of regular_kind r ps

  abbrev drawings : ℕ
  drawings = count_of drawing_kind r ps

  abbrev droppings : ℕ
  droppings = count_of dropping_kind r ps

  regular_barred : 0 < regulars + (drawings + droppings)
      → winding_free w (kind_of regular_kind r) ≡ false
  unfolding kind_of
  regular_barred some = regular_tallied w ps r so_far ∙ some_not_none _ some

  drawing_barred : 0 < regulars + drawings
      → winding_free w (kind_of drawing_kind r) ≡ false
  unfolding kind_of
  drawing_barred some = drawing_tallied w ps r so_far ∙ some_not_none _ some

  dropping_barred : 0 < regulars + droppings
      → winding_free w (kind_of dropping_kind r) ≡ false
  unfolding kind_of
  dropping_barred some = dropping_tallied w ps r so_far ∙ some_not_none _ some

  again_barred : (k : ℕ) → k ≤ dropping_kind → regular_kind ≤ k → 0 < count_of k r ps
      → winding_free w (kind_of k r) ≡ false
  again_barred zero most winding some = absurd (omega arith)
  again_barred (suc zero) most winding some = absurd (omega arith)
  again_barred (suc (suc zero)) most winding some = absurd (omega arith)
  again_barred (suc (suc (suc zero))) most winding some = absurd (omega arith)
  again_barred (suc (suc (suc (suc zero)))) most winding some = regular_barred (omega arith)
  again_barred (suc (suc (suc (suc (suc zero))))) most winding some = drawing_barred (omega arith)
  again_barred (suc (suc (suc (suc (suc (suc zero)))))) most winding some = dropping_barred (omega arith)
  again_barred (suc (suc (suc (suc (suc (suc (suc k))))))) most winding some = absurd (omega arith)

  steel_barred : (k : ℕ) → k ≤ dropping_kind → regular_kind < k → 0 < regulars
      → winding_free w (kind_of k r) ≡ false
  steel_barred zero most steel some = absurd (omega arith)
  steel_barred (suc zero) most steel some = absurd (omega arith)
  steel_barred (suc (suc zero)) most steel some = absurd (omega arith)
  steel_barred (suc (suc (suc zero))) most steel some = absurd (omega arith)
  steel_barred (suc (suc (suc (suc zero)))) most steel some = absurd (omega arith)
  steel_barred (suc (suc (suc (suc (suc zero))))) most steel some = drawing_barred (omega arith)
  steel_barred (suc (suc (suc (suc (suc (suc zero)))))) most steel some = dropping_barred (omega arith)
  steel_barred (suc (suc (suc (suc (suc (suc (suc k))))))) most steel some = absurd (omega arith)

  pub taken_barred : (k : ℕ) → Taken r ps k → winding_free w (kind_of k r) ≡ false
  taken_barred k (has_it winding last some) = again_barred k last winding some
  taken_barred k (is_steel some) = regular_barred (omega arith)
  taken_barred k (is_regular steel last some) = steel_barred k last steel some

  pub barred_taken : (k : ℕ) → k ≤ last_kind → winding_free w (kind_of k r) ≡ false → Taken r ps k
  unfolding kind_of
  barred_taken zero most off = absurd (false≢true (sym off))
  barred_taken (suc zero) most off = absurd (false≢true (sym off))
  barred_taken (suc (suc zero)) most off = absurd (false≢true (sym off))
  barred_taken (suc (suc (suc zero))) most off = absurd (false≢true (sym off))
  barred_taken (suc (suc (suc (suc zero)))) most off =
      let some : 0 < regulars + (drawings + droppings) =
      not_none_some _ (sym (regular_tallied w ps r so_far) ∙ off) in
      by_less 0 (regulars) (has_it (omega arith) (omega arith)) (λ none. is_steel (omega arith))
  barred_taken (suc (suc (suc (suc (suc zero))))) most off =
      let some : 0 < regulars + drawings =
      not_none_some _ (sym (drawing_tallied w ps r so_far) ∙ off) in
      by_less 0 (regulars) (is_regular (omega arith) (omega arith))
      (λ none. has_it (omega arith) (omega arith) (omega arith))
  barred_taken (suc (suc (suc (suc (suc (suc zero)))))) most off =
      let some : 0 < regulars + droppings =
      not_none_some _ (sym (dropping_tallied w ps r so_far) ∙ off) in
      by_less 0 (regulars) (is_regular (omega arith) (omega arith))
      (λ none. has_it (omega arith) (omega arith) (omega arith))
  barred_taken (suc (suc (suc (suc (suc (suc (suc zero))))))) most off = absurd (false≢true (sym off))
  barred_taken (suc (suc (suc (suc (suc (suc (suc (suc k)))))))) most off = absurd (omega arith)

  pub untaken_free : (k : ℕ) → k ≤ last_kind → ¬ Taken r ps k → winding_free w (kind_of k r) ≡ true
  untaken_free k most untaken =
      by_test (winding_free w (kind_of k r)) (λ on. on) (λ off. absurd (untaken (barred_taken k most off)))

  -- 17
  pub marked_barred : (k : ℕ) → TakenMark r ps k → unmarked w (kind_of k r) ≡ false
  unfolding kind_of
  marked_barred k (mark, some) = rw mark (mark_tallied w ps r so_far ∙ some_not_none _ some)

  pub barred-marked : (k : ℕ) → k ≤ last_kind → unmarked w (kind_of k r) ≡ false → TakenMark r ps k
  unfolding kind_of
  barred-marked zero most off = absurd (false≢true (sym off))
  barred-marked (suc zero) most off = absurd (false≢true (sym off))
  barred-marked (suc (suc zero)) most off = absurd (false≢true (sym off))
  barred-marked (suc (suc (suc zero))) most off = absurd (false≢true (sym off))
  barred-marked (suc (suc (suc (suc zero)))) most off = absurd (false≢true (sym off))
  barred-marked (suc (suc (suc (suc (suc zero))))) most off = absurd (false≢true (sym off))
  barred-marked (suc (suc (suc (suc (suc (suc zero)))))) most off = absurd (false≢true (sym off))
  barred-marked (suc (suc (suc (suc (suc (suc (suc zero))))))) most off =
      (refl, not_none_some _ (sym (mark_tallied w ps r so_far) ∙ off))
  barred-marked (suc (suc (suc (suc (suc (suc (suc (suc k)))))))) most off = absurd (omega arith)

  pub untaken-unmarked : (k : ℕ) → k ≤ last_kind → ¬ TakenMark r ps k → unmarked w (kind_of k r) ≡ true
  untaken-unmarked k most once =
      by_test (unmarked w (kind_of k r)) (λ on. on) (λ off. absurd (once (barred-marked k most off)))

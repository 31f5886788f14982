-- Laws of the rules behind refusals 3 to 9 and 17: what `counts_fine` says as bounds, and a walk along a row of parts
-- with the windings and marks so far.
use Prim.Native.Nat.{ℕ, suc, ◌+◌, ◌≤◌, ◌<◌}
use mathlib.Core.Path.{◌≡◌, refl, sym, ap, ◌∙◌}
use mathlib.Core.List.{List, [], ◌∷◌, ◌++◌}
use mathlib.Core.Bool.{Bool, true, false, cond}
use Rattle.std.specs.Prelude.{Option, Some, None}
use native.Mathlib.Numerals.{add-one}
use lib.Dec.{leb}
use lib.ListN.{length, get_or, drop, drop_of_length-le}
use lib.Seq.{drop-cons}
use borrow.Author.Tests.{leb-true}
use Rattle.windings.specs.declared.WoundSoFar.{WoundSoFar}
use Rattle.windings.specs.Windings.{gained}
use Rattle.board.specs.declared.Counts.{Counts}
use Rattle.board.specs.declared.Part.{Part}
use Rattle.board.specs.Parts.{most_parts, blank}
use Rattle.board.specs.Rules.{least_terminals, most_terminals, most_relays, most_buttons, counts_fine, in_range}
use Rattle.board.specs.Rules.{gained_all, part_fine, parts_fine, row_after}
pub use Rattle.board.specs.BreaksNoRule.{InRange}
use Rattle.bits.proofs.BoolLaws.{both_true}

-- what `counts_fine` says, as bounds
pub counts-in_range : (c : Counts) → counts_fine c ≡ true → InRange c
unfolding counts_fine in_range
counts-in_range c fine =
    let parts = both_true _ _ fine in
    let buttons = both_true _ _ parts.0 in
    let relays = both_true _ _ buttons.0 in
    let terminals = both_true _ _ relays.0 in
    record {
      terminals_enough = leb-true least_terminals c.terminals terminals.0;
      terminals_few = leb-true c.terminals most_terminals terminals.1;
      relays_few = leb-true c.relays most_relays (both_true (leb 0 c.relays) _ relays.1).1;
      buttons_few = leb-true c.buttons most_buttons (both_true (leb 0 c.buttons) _ buttons.1).1;
      parts_few = leb-true c.parts most_parts (both_true (leb 0 c.parts) _ parts.1).1;
    }

-- a row of parts after the windings and marks so far, part by part
module _ (c : Counts) (w : WoundSoFar) (p : Part) where
  row_off : (ps : List Part) → part_fine c w p ≡ false → row_after c w (p ∷ ps) ≡ None
  unfolding parts_fine row_after
  row_off ps off = simp off

  row_on : (ps : List Part) → part_fine c w p ≡ true → row_after c w (p ∷ ps) ≡ row_after c (gained w p.kind) ps
  unfolding gained_all parts_fine row_after
  row_on ps fine = simp fine

row_end : (c : Counts) (w : WoundSoFar) → row_after c w [] ≡ Some w
unfolding gained_all parts_fine row_after
row_end c w = refl

-- the windings and marks once one more part has come
pub gained_more : (w : WoundSoFar) (ps : List Part) (p : Part)
    → gained_all w (ps ++ (p ∷ [])) ≡ gained (gained_all w ps) p.kind
unfolding gained_all
gained_more w [] p = refl
gained_more w (q ∷ ps) p = gained_more (gained w q.kind) ps p

-- a row that is fine has its windings and marks, and one that is not has none
pub row_fine : (c : Counts) (w v : WoundSoFar) (ps : List Part) → Some v ≡ row_after c w ps
    → (parts_fine c w ps ≡ true) × (v ≡ gained_all w ps)
unfolding row_after
row_fine c w v ps h = by (parts_fine c w ps) h
  where
    by : (t : Bool) → Some v ≡ cond t (Some (gained_all w ps)) None → (t ≡ true) × (v ≡ gained_all w ps)
    by true e = (refl, cc)
    by false e = absurd cc

pub row_broken : (c : Counts) (w : WoundSoFar) (ps : List Part) → None ≡ row_after c w ps → parts_fine c w ps ≡ false
unfolding row_after
row_broken c w ps h = by (parts_fine c w ps) h
  where
    by : (t : Bool) → None ≡ cond t (Some (gained_all w ps)) None → t ≡ false
    by true e = absurd cc
    by false e = refl

-- a walk along the parts l: at place i, `all` is what the parts from there on come to after w
module _ (c : Counts) (w : WoundSoFar) (l : List Part) (i : ℕ) (all : Option WoundSoFar)
    (here : all ≡ row_after c w (drop i l)) where
  pub row_walk_off : i < length l → part_fine c w (get_or l i blank) ≡ false → None ≡ all
  row_walk_off below off =
      sym (here ∙ ap (row_after c w) (drop-cons l i blank below)
      ∙ row_off c w (get_or l i blank) (drop (suc i) l) off)

  pub row_walk_on : (w' : WoundSoFar) → i < length l → part_fine c w (get_or l i blank) ≡ true
      → w' ≡ gained w (get_or l i blank).kind → all ≡ row_after c w' (drop (i + 1) l)
  row_walk_on w' below fine more =
      here ∙ ap (row_after c w) (drop-cons l i blank below)
      ∙ row_on c w (get_or l i blank) (drop (suc i) l) fine
      ∙ ap (λ v. row_after c v (drop (suc i) l)) (sym more)
      ∙ ap (λ (j : ℕ). row_after c w' (drop j l)) (sym (add-one i))

  pub row_walk_end : length l ≤ i → Some w ≡ all
  row_walk_end past = sym (here ∙ ap (row_after c w) (drop_of_length-le l past) ∙ row_end c w)

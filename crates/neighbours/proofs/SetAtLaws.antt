-- Laws of the set at a terminal, what a part does to it; and of the sets as their table.
use Prim.Native.Nat.{ℕ, ◌≤◌, ◌<◌}
use mathlib.Core.Path.{◌≡◌, refl}
use mathlib.Core.Bool.{Bool, true, false}
use mathlib.Core.List.{List, [], ◌∷◌}
use lib.ListN.{length, get_or}
use borrow.Author.Tests.{eq-eqb, ne_eqb}
use Rattle.bits.specs.Sets.{including}
use Rattle.lists.proofs.TableLaws.{table-length, table_at, table-beyond}
use Rattle.kinds.specs.declared.Kind.{Kind}
use Rattle.board.specs.declared.Part.{Part}
use Rattle.board.specs.declared.Board.{Board}
use Rattle.board.specs.Parts.{parts_of}
use Rattle.board.specs.Rules.{most_terminals}
use Rattle.state.specs.declared.State.{State}
use Rattle.neighbours.specs.Conduction.{conducts, conducts_bare}
use Rattle.neighbours.specs.Neighbours.{with_other, with_part, set_from, set_at, sets_at, neighbours}
use Rattle.neighbours.specs.Neighbours.{bare_neighbours}

-- ---- the set at one terminal

pub with_other_here : (u v x k : ℕ) → x ≡ u → with_other u v x k ≡ including k v
with_other_here u v x k same = rw (eq-eqb x u same) refl

pub with_other_else : (u v x k : ℕ) → ¬ (x ≡ u) → with_other u v x k ≡ k
with_other_else u v x k other = rw (ne_eqb x u other) refl

module _ (t : Bool) (p : Part) (x k : ℕ) where
  pub with_part_joining : t ≡ true → with_part t p x k ≡ with_other p.b p.a x (with_other p.a p.b x k)
  with_part_joining on = rw on refl

  pub with_part_open : t ≡ false → with_part t p x k ≡ k
  with_part_open off = rw off refl

pub from_none : (g : Part → Bool) (x k : ℕ) → set_from g x k [] ≡ k
unfolding set_from
from_none g x k = refl

pub from_next : (g : Part → Bool) (x k : ℕ) (p : Part) (ps : List Part)
    → set_from g x k (p ∷ ps) ≡ with_part (g p) p x (set_from g x k ps)
unfolding set_from
from_next g x k p ps = refl

pub set_at_from : (f : Kind → Bool) (x : ℕ) (ps : List Part)
    → set_at f x ps ≡ set_from (λ (p : Part). f p.kind) x 0 ps
unfolding set_at
set_at_from f x ps = refl

-- ---- the sets as a table

module _ (f : Kind → Bool) (ps : List Part) where
  pub sets-length : length (sets_at f ps) ≡ most_terminals
  unfolding sets_at
  sets-length = table-length (λ (x : ℕ). set_at f x ps) most_terminals 0

  pub sets_at_lem : (x : ℕ) → x < most_terminals → get_or (sets_at f ps) x 0 ≡ set_at f x ps
  unfolding sets_at
  sets_at_lem x below = table_at (λ (y : ℕ). set_at f y ps) most_terminals x 0 below

  pub sets-beyond : (x : ℕ) → most_terminals ≤ x → get_or (sets_at f ps) x 0 ≡ 0
  unfolding sets_at
  sets-beyond x past = table-beyond (λ (y : ℕ). set_at f y ps) most_terminals 0 x 0 past

pub neighbours_sets : (b : Board) (s : State) → neighbours b s ≡ sets_at (conducts s) (parts_of b)
unfolding neighbours
neighbours_sets b s = refl

pub bare_sets : (b : Board) (s : State) → bare_neighbours b s ≡ sets_at (conducts_bare s) (parts_of b)
unfolding bare_neighbours
bare_sets b s = refl

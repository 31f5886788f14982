-- Laws of the places of a shown chain: the first as they are, the others made 0. What `walk::shown` needs.
use Prim.Native.Nat.{ℕ, ◌-◌, ◌≤◌}
use native.Mathlib.Omega.{arith}
use mathlib.Core.Path.{◌≡◌, sym, ap, ap₂, ◌∙◌}
use mathlib.Core.List.{List, [], ◌++◌, append-nil}
use lib.ListN.{length, take, drop, replicate, length-drop}
use lib.Seq.{length-take-le}
use Rattle.std.proofs.lemmas.List.{drop_all}
use borrow.Rule.Slice.PartMut.{mid_of, put_mid}
use Rattle.board.specs.Rules.{most_terminals}
use Rattle.search.specs.Verdicts.{places}

-- the places of ps from k on are made 0
module _ (ps ys : List ℕ) (k : ℕ) (long : length ps ≡ most_terminals) (few : k ≤ most_terminals) where
  part_long : length (mid_of k (most_terminals - k) ps) ≡ most_terminals - length (take k ps)
  part_long =
      length-take-le (most_terminals - k) (drop k ps) (omega (arith, long, few, length-drop k ps))
      ∙ ap (λ (n : ℕ). most_terminals - n) (sym (length-take-le k ps (omega (arith, long, few))))

  rest_none : drop (most_terminals - k) (drop k ps) ≡ []
  rest_none = drop_all (most_terminals - k) (drop k ps) (omega (arith, long, length-drop k ps))

  pub shown_cleared : ys ≡ replicate (length (mid_of k (most_terminals - k) ps)) 0
      → put_mid k (most_terminals - k) ps ys ≡ places (take k ps)
  unfolding places
  shown_cleared cleared =
      ap (λ (l : List ℕ). take k ps ++ l)
      (ap₂ ◌++◌ (cleared ∙ ap (λ (n : ℕ). replicate n 0) part_long) rest_none ∙ append-nil _)

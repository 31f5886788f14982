-- Laws of the windings of all relays of a board, for the array that `find_all_windings` fills.
use Prim.Native.Nat.{ℕ, min, ◌≤◌, ◌<◌}
use Rattle.std.specs.Prelude as code
use native.Mathlib.Omega.{arith}
use mathlib.Core.Path.{◌≡◌, refl, sym, ap, ◌∙◌}
use mathlib.Core.List.{List, map}
use lib.ListN.{length, get_or, length-map, get_or-map}
use lib.Seq.{ext_get_or}
use borrow.Author.Tests.{lt-ltb, le-ltb}
use Rattle.lists.specs.Tables.{table_from}
use Rattle.lists.proofs.TableLaws.{table-length, table_at, FilledTo, filled_each}
use Rattle.board.specs.declared.Board.{Board}
use Rattle.board.specs.Parts.{parts_of}
use Rattle.board.specs.Rules.{most_relays}
use Rattle.search.specs.declared.Winding.{Winding}
use Rattle.judge.specs.declared.Windings.{Windings}
use Rattle.judge.specs.RelayWindings.{OfRelay, absent, windings_at, windings_if, told_windings, FindsAllWindings}

module _ (b : Board) where
  pub windings_there : (r q : ℕ) (x : OfRelay Winding) → r < b.counts.relays → q ≡ r → x ≡ windings_at q (parts_of b)
      → x ≡ windings_if b r
  unfolding windings_if
  windings_there r q x below at is = is ∙ rw (at, lt-ltb r b.counts.relays below) refl

  windings_lacking : (r : ℕ) → b.counts.relays ≤ r → windings_if b r ≡ absent
  unfolding windings_if
  windings_lacking r past = rw (le-ltb r b.counts.relays past) refl

  -- each relay's windings stand at its place, whatever d would stand beyond
  pub windings-place : (all : List (code.Option Windings)) (r : ℕ) (d : code.Option Windings)
      → FindsAllWindings b all → r < most_relays
      → r < b.counts.relays → told_windings (get_or all r d) ≡ windings_at r (parts_of b)
  windings-place all r d finds inside below =
      sym (get_or-map told_windings all r d)
      ∙ ap (λ (l : List (OfRelay Winding)). get_or l r (told_windings d)) finds
      ∙ table_at (windings_if b) most_relays r (told_windings d) inside
      ∙ sym (windings_there r r (windings_at r (parts_of b)) below refl refl)

  pub windings_filled : (r end : ℕ) (all : List (code.Option Windings))
      → FilledTo told_windings (windings_if b) code.None most_relays r all
      → end ≡ min b.counts.relays most_relays → end ≤ r → FindsAllWindings b all
  windings_filled r end all so many past =
      ext_get_or absent (map told_windings all) (table_from (windings_if b) most_relays 0)
      (long ∙ sym (table-length (windings_if b) most_relays 0))
      (λ q inside.
      let below : q < most_relays = omega (arith, long, inside) in
      get_or-map told_windings all q code.None
      ∙ filled_each told_windings (windings_if b) code.None most_relays r all so
      (λ z under from. windings_lacking z (omega (arith, many, past, under, from)))
      q below
      ∙ sym (table_at (windings_if b) most_relays q absent below))
    where
      long : length (map told_windings all) ≡ most_relays
      long = length-map all told_windings ∙ so.many

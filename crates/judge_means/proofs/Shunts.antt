-- The theorem of specs/Shunts.antt: the flood over the sets without windings, from one end of a winding, holds exactly
-- the terminals at the end of some row. And a winding that is judged is one on the board, as it conducts.
use Prim.Native.Nat.{ℕ}
use native.Mathlib.Omega.{arith}
use mathlib.Core.Path.{◌≡◌, refl, sym, subst, ◌∙◌}
use mathlib.Core.Logic.{inl}
use mathlib.Core.Bool.{true, false≢true}
use mathlib.Core.Option.{some, some-injective}
use Rattle.bits.specs.Sets.{member, including}
use Rattle.bits.proofs.SetLaws.{member_none, member-alone, member-including-same}
use Rattle.kinds.specs.declared.Kind.{Kind}
use Rattle.kinds.specs.declared.Kind.TheVariants.{Wire, Upper, Lower, Button, Regular, Drawing, Dropping, Mark}
use Rattle.board.specs.declared.Board.{Board}
use Rattle.board.specs.Parts.{parts_of}
use Rattle.board.specs.Sorts.{carries}
use Rattle.board.specs.BreaksNoRule.{BoardFits}
use Rattle.state.specs.declared.State.{State}
use Rattle.state.specs.States.{empty_state}
use Rattle.neighbours.specs.Conduction.{conducts}
use Rattle.neighbours.specs.Neighbours.{JoinedBare, bare_neighbours, sets_of}
use Rattle.neighbours.proofs.JoinedLaws.{joined_terminals, bare-part, part_bare}
use Rattle.reach.specs.Links.{Link}
use Rattle.reach.specs.Floods.{flooded}
use Rattle.reach.proofs.FloodLaws.{flood-begins, flood_on_lem, flood_least}
use Rattle.reach.proofs.ReachedLaws.{row-alone, row_on, row_within}
use Rattle.search.specs.declared.Winding.{Winding}
use Rattle.judge.specs.declared.Which.{Which}
use Rattle.judge.specs.declared.Which.TheVariants.{First, Second}
use Rattle.judge.specs.RelayWindings.{is_winding, winding_of}
use Rattle.judge.specs.Judging.{shunted}
use Rattle.judge.proofs.WoundLaws.{some-found}
use Rattle.judge_means.specs.Shunts.{Shunted, OnBoard, ShuntedExactly}

-- ---- a winding of a relay is on the board

pub winding-conducts : (s : State) (n : Which) (r : ℕ) (k : Kind) → is_winding n r k ≡ true → conducts s k ≡ true
unfolding carries
winding-conducts s n r Wire is = refl
winding-conducts s First r (Upper m) is = absurd (false≢true is)
winding-conducts s Second r (Upper m) is = absurd (false≢true is)
winding-conducts s First r (Lower m) is = absurd (false≢true is)
winding-conducts s Second r (Lower m) is = absurd (false≢true is)
winding-conducts s First r (Button m) is = absurd (false≢true is)
winding-conducts s Second r (Button m) is = absurd (false≢true is)
winding-conducts s n r (Regular m) is = refl
winding-conducts s n r (Drawing m) is = refl
winding-conducts s n r (Dropping m) is = refl
winding-conducts s First r (Mark m) is = absurd (false≢true is)
winding-conducts s Second r (Mark m) is = absurd (false≢true is)

pub found-on_board : (b : Board) (r : ℕ) (n : Which) (e : Winding) → BoardFits b
    → winding_of n r (parts_of b) ≡ some e → OnBoard b e
found-on_board b r n e fits is =
    let found = some-found n r (parts_of b) e is in
    subst (OnBoard b) (some-injective _ e (sym found.found ∙ is))
    (joined_terminals b empty_state found.part.a found.part.b fits record {
      part = found.part;
      on_board = found.among;
      conducting = winding-conducts empty_state n r found.part.kind found.is_its_winding;
      ends = inl (refl, refl);
    })

-- ---- the flood and the rows

module _ (b : Board) (s : State) (e : Winding) (fits : BoardFits b) (inside : OnBoard b e) where
  abbrev RowTo : ℕ → Type 0
  RowTo y = Link (JoinedBare b s) b.counts.terminals e.a y

  abbrev InFlood : ℕ → Type 0
  InFlood y = member (flooded (bare_neighbours b s) (including 0 e.a) 0) y ≡ true

  flood_row : shunted (sets_of b s) e ≡ true → Shunted b s e
  unfolding shunted
  flood_row =
      flood_least (bare_neighbours b s) (including 0 e.a) 0 RowTo
      (λ y begun apart. subst RowTo (member-alone e.a y begun) (row-alone _ _ e.a inside.0))
      (λ x y below row join apart.
      let part = bare-part b s x y join in
      row_on _ _ e.a x y row part (joined_terminals b s x y fits part.joined).1)
      e.b

  row_flood : Shunted b s e → shunted (sets_of b s) e ≡ true
  unfolding shunted
  row_flood =
      let most = fits.counts.terminals_few in
      row_within (JoinedBare b s) b.counts.terminals e.a e.b InFlood
      (λ x y x_below y-below is part.
      flood_on_lem (bare_neighbours b s) (including 0 e.a) 0 x y (omega (arith, most, x_below)) is
      (part_bare b s x y fits part) (member_none y))
      (flood-begins (bare_neighbours b s) (including 0 e.a) 0 e.a
      (member-including-same 0 e.a (omega (arith, most, inside.0))) (member_none e.a))

pub shunted_exactly : ShuntedExactly
shunted_exactly b s e fits inside = (flood_row b s e fits inside, row_flood b s e fits inside)

-- What a step takes a winding for says, in the words of the published model: live, that there is current through it;
-- dead, that there is none. And which windings of a relay it takes so.
--     CurrentIf b s r n l    there is current through winding n of relay r exactly if l
--     Taken b s r n          the relay has that winding, what a step takes it for, and what that says is so
use Prim.Native.Nat.{ℕ}
use mathlib.Core.Path.{◌≡◌, refl, sym, ◌∙◌}
use mathlib.Core.Logic.{◌↔◌}
use mathlib.Core.Bool.{Bool, true, false, false≢true}
use Rattle.board.specs.declared.Board.{Board}
use Rattle.board.specs.Parts.{parts_of}
use Rattle.board.specs.Sorts.{IsRegular, IsSteel}
use Rattle.board.specs.BreaksNoRule.{BoardFits}
use Rattle.state.specs.declared.State.{State}
use Rattle.neighbours.specs.Neighbours.{sets_of}
use Rattle.search.specs.declared.Winding.{Winding}
use Rattle.judge.specs.declared.Which.{Which}
use Rattle.judge.specs.declared.Which.TheVariants.{First, Second}
use Rattle.judge.specs.RelayWindings as wound
use Rattle.judge.specs.RelayWindings.{windings_at}
use Rattle.judge.proofs.WoundLaws.{regular_second, counted_missing}
use Rattle.judge_means.specs.Exactness.{IsLive}
use Rattle.judge_means.specs.Eleven.{ItsWinding}
use Rattle.judge_means.proofs.Eleven.{its-found, regular-wound, steel-wound}
use Rattle.judge_means.proofs.Dividing.{its_live}
use Rattle.moves.specs.Steps.{taken_live}
use Rattle.moves_means.specs.Guards.{CurrentThrough}
use Rattle.moves_means.proofs.CurrentLaws.{live_current}

abbrev pub CurrentIf : Board → State → ℕ → Which → Bool → Type 0
CurrentIf b s r n true = CurrentThrough b s r n
CurrentIf b s r n false = ¬ (CurrentThrough b s r n)

pub record Taken (b : Board) (s : State) (r : ℕ) (n : Which) : Type 0 where
  pub winding : Winding
  pub its : ItsWinding b r n winding
  pub says : CurrentIf b s r n (taken_live (sets_of b s) b.counts.terminals winding)

-- a winding of a relay is taken for live exactly if it is
pub taken_exactly : (b : Board) (s : State) (r : ℕ) (n : Which) (e : Winding) → BoardFits b → ItsWinding b r n e
    → taken_live (sets_of b s) b.counts.terminals e ≡ true ↔ IsLive b s e
unfolding taken_live
taken_exactly b s r n e fits its = its_live b s fits r n e its

module _ (b : Board) (s : State) (r : ℕ) (fits : BoardFits b) where
  its_taken : (n : Which) (e : Winding) → ItsWinding b r n e → Taken b s r n
  its_taken n e its = record {
    winding = e;
    its = its;
    says = by (taken_live (sets_of b s) b.counts.terminals e) refl;
  }
    where
      by : (l : Bool) → taken_live (sets_of b s) b.counts.terminals e ≡ l → CurrentIf b s r n l
      by true is = (live_current b s r n e its fits).0 ((taken_exactly b s r n e fits its).0 is)
      by false off =
          λ current. false≢true
          (sym off ∙ (taken_exactly b s r n e fits its).1 ((live_current b s r n e its fits).1 current))

  -- ---- the windings of a relay of one sort

  pub regular_taken : IsRegular r (parts_of b) → Taken b s r First
  regular_taken regular = let its = regular-wound b r regular in its_taken First its.winding its.first

  pub drawing_taken : IsSteel r (parts_of b) → Taken b s r First
  drawing_taken steel = let its = steel-wound b r steel in its_taken First its.drawing its.first

  pub dropping_taken : IsSteel r (parts_of b) → Taken b s r Second
  dropping_taken steel = let its = steel-wound b r steel in its_taken Second its.dropping its.second

-- the windings that a relay of one sort has
module _ (b : Board) (r : ℕ) where
  pub regular_windings : IsRegular r (parts_of b) → (e : Winding) → ItsWinding b r First e
      → windings_at r (parts_of b) ≡ wound.regular e
  unfolding windings_at
  regular_windings regular e first =
      rw (
        its-found b r First e first,
        counted_missing Second r (parts_of b) (regular_second r (parts_of b) Second (refl, regular)),
      ) refl

  pub steel_windings : (e f : Winding) → ItsWinding b r First e → ItsWinding b r Second f
      → windings_at r (parts_of b) ≡ wound.steel e f
  unfolding windings_at
  steel_windings e f first second = rw (its-found b r First e first, its-found b r Second f second) refl

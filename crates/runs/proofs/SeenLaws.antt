-- What the scan sees of a relay is its step: for the proof of `course::follow`, the one place where a run meets the
-- definition of a step, by its laws.
use Prim.Native.Nat.{ℕ, ◌<◌, ◌≤◌}
use native.Mathlib.Omega.{arith}
use mathlib.Core.Path.{◌≡◌, refl, sym, subst}
use mathlib.Core.Bool.{Bool}
use mathlib.Core.List.{List}
use Rattle.std.specs.Prelude.{Option, None}
use lib.ListN.{get_or}
use mathlib.Core.Logic.{◌⊎◌, inl, inr}
use Rattle.board.specs.declared.Board.{Board}
use Rattle.board.specs.Rules.{most_relays}
use Rattle.state.specs.States.{is_drawn}
use Rattle.kept.specs.declared.Kept.{Kept}
use Rattle.kept.specs.Kept.{kept_at}
use Rattle.kept.proofs.KeptLaws.{kept_sets}
use Rattle.feed.specs.declared.Feed.{Feed}
use Rattle.feed.specs.Feeds.{feed_of, live_by}
use Rattle.judge.specs.declared.Windings.{Windings}
use Rattle.judge.specs.RelayWindings.{told_windings, FindsAllWindings}
use Rattle.judge.proofs.AllLaws.{windings-place}
use Rattle.moves.specs.declared.Move as code-move
use Rattle.moves.specs.declared.Move.TheVariants.{Drew, Dropped}
use Rattle.moves.specs.Steps as step
use Rattle.moves.specs.Steps.{move_by, step_of, told_move}
use Rattle.moves.proofs.StepLaws.{step_by_lem, step_worked}
use Rattle.runs.proofs.BackLaws.{Moving}

-- what the prover has for a place beyond an array of windings
abbrev beyond : Option Windings
beyond = None

-- what is seen of relay q, drawn if d, by what was found for the run and worked out for the look
abbrev pub seeing : Feed → List (Option Windings) → ℕ → Bool → step.Move
seeing f all q d = move_by (live_by f.served f.linked) d (told_windings (get_or all q beyond))

-- it is the relay's step, where the sets belong to the state
pub step_seen : (b : Board) (h : Kept) (f : Feed) (all : List (Option Windings)) → h ≡ kept_at b h.state
    → f ≡ feed_of h.sets b.counts.terminals → FindsAllWindings b all → b.counts.relays ≤ most_relays
    → (q : ℕ) → q < b.counts.relays → seeing f all q (is_drawn h.state q) ≡ step_of b h.state q
step_seen b h f all own worked found most q below =
    step_by_lem b h.state q h.sets _ (kept_sets b h own)
    (step_worked h.sets b h.state q f (told_windings (get_or all q beyond)) _ _ worked
    (windings-place b all q beyond found (omega (arith, most, below)) below) refl refl)

-- the arm of `match` for the relays that move
pub told-moving : (m : code-move.Move) → (m ≡ Drew) ⊎ (m ≡ Dropped) → Moving (told_move m)
told-moving m (inl e) = subst (λ (x : code-move.Move). Moving (told_move x)) (sym e) tt
told-moving m (inr e) = subst (λ (x : code-move.Move). Moving (told_move x)) (sym e) tt

-- What a look at the relays says of them, in the words of the published model: all rest, or the first that does not
-- rest decides.
use Prim.Native.Nat.{ℕ, zero, suc, ◌+◌, ◌-◌, ◌<◌, ◌≤◌}
use native.Mathlib.Omega.{arith}
use mathlib.Core.Path.{◌≡◌, refl, sym, subst}
use mathlib.Core.Logic.{◌⊎◌, inl, inr}
use mathlib.Core.Bool.{true}
use lib.Dec.{ltb}
use borrow.Author.Tests.{ltb-true, ltb-false}
use Rattle.bits.proofs.BoolLaws.{by_test}
use Rattle.board.specs.declared.Board.{Board}
use Rattle.board.specs.Rules.{board_fine}
use Rattle.state.specs.declared.State.{State}
use Rattle.moves.specs.Steps as step
use Rattle.moves_means.specs.SingleMoves.{Comes}
use Rattle.moves_means.proofs.SingleMoves.{step_means}
use Rattle.runs.specs.Looks.{Look, quiet, halts, makes, decides, look_from}
use Rattle.runs.proofs.LookLaws.{look_quiet, look-decides}
use Rattle.runs_means.specs.Courses.{Resting, StoppedBy}

abbrev pub LookMeans : Board → State → Look → Type 0
LookMeans b s quiet = Resting b s b.counts.relays
LookMeans b s (halts r) = StoppedBy b s r step.conflict
LookMeans b s (makes m r) =
    ((m ≡ step.drew) × StoppedBy b s r step.drew) ⊎ ((m ≡ step.dropped) × StoppedBy b s r step.dropped)

module _ (b : Board) (s : State) where
  resting_none : Resting b s 0
  resting_none q below = absurd (omega arith)

  resting_more : (r : ℕ) → Resting b s r → Comes b s r step.rests → Resting b s (r + 1)
  resting_more r rest here q below =
      by_test (ltb q r)
      (λ less. rest q (ltb-true q r less))
      (λ not-less. subst (λ (k : ℕ). Comes b s k step.rests) (same (ltb-false q r not-less)) here)
    where
      same : r ≤ q → r ≡ q
      same least = omega arith

  resting_all : (r : ℕ) → b.counts.relays ≤ r → Resting b s r → Resting b s b.counts.relays
  resting_all r past rest q below = rest q (omega arith)

  -- relay r comes to m, all below it rest, and the relays after it mean what they say
  decides_means : (m : step.Move) (r : ℕ) (next : Look) → r < b.counts.relays → Resting b s r → Comes b s r m
      → (Resting b s (r + 1) → LookMeans b s next) → LookMeans b s (decides m r next)
  decides_means step.drew r next below rest here later = inl (refl, (below, rest, here))
  decides_means step.dropped r next below rest here later = inr (refl, (below, rest, here))
  decides_means step.rests r next below rest here later = later (resting_more r rest here)
  decides_means step.conflict r next below rest here later = (below, rest, here)

  module _ (fine : board_fine b ≡ true) where
    -- n relays are left to look at
    look_from_means : (n r : ℕ) → b.counts.relays - r ≡ n → Resting b s r
        → LookMeans b s (look_from (step.step_of b) s (b.counts.relays - r) r)
    look_from_means zero r left rest =
        subst (LookMeans b s) (sym (look_quiet (step.step_of b) s b.counts.relays r (omega arith)))
        (resting_all r (omega arith) rest)
    look_from_means (suc n) r left rest =
        let below : r < b.counts.relays = omega arith in
        subst (LookMeans b s)
        (sym (look-decides (step.step_of b) s b.counts.relays r (step.step_of b s r) below refl))
        (decides_means (step.step_of b s r) r _ below rest (step_means b s r fine below)
        (look_from_means n (r + 1) (omega arith)))

    look_means : LookMeans b s (look_from (step.step_of b) s b.counts.relays 0)
    look_means =
        let whole : b.counts.relays - 0 ≡ b.counts.relays = omega arith in
        subst (λ (n : ℕ). LookMeans b s (look_from (step.step_of b) s n 0)) whole
        (look_from_means b.counts.relays 0 whole resting_none)

    pub look_means_so : (l : Look) → look_from (step.step_of b) s b.counts.relays 0 ≡ l → LookMeans b s l
    look_means_so l e = subst (LookMeans b s) e look_means

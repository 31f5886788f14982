-- A look at the relays. Rule book: "A run looks at the relays from 0 up; the first that doesn't rest decides. None: the
-- run is idle. .. conflict: it stops with that word. A move: .."; none is undecided (request A7).
--     Stepper             what each relay comes to in each state. A run goes by this alone, whatever is below it
--     Look                what a look comes to: quiet, every relay rests; halts r, relay r is in conflict; makes m r,
--                         relay r makes the move m
--     draw_mark           128
--     byte_of r m         "Each log byte is the relay number, plus 128 for a draw"
--     decides m r next    relay r came to m; where it rests, the next relays decide
--     look_from f s k r   the look at k relays from r up, in state s
use Rattle.std.specs.Prelude.{ℕ, zero, suc, ◌+◌}
use Rattle.state.specs.declared.State.{State}
use Rattle.moves.specs.Steps as step

abbrev pub Stepper : Type 0
Stepper = State → ℕ → step.Move

pub data Look : Type 0 where
  quiet : Look
  halts : ℕ → Look
  makes : step.Move → ℕ → Look

abbrev pub draw_mark : ℕ
draw_mark = 128

abbrev pub byte_of : ℕ → step.Move → ℕ
byte_of r step.drew = r + draw_mark
byte_of r step.dropped = r
byte_of r step.rests = r
byte_of r step.conflict = r

abbrev pub decides : step.Move → ℕ → Look → Look
decides step.rests r next = next
decides step.conflict r next = halts r
decides step.drew r next = makes step.drew r
decides step.dropped r next = makes step.dropped r

unfoldable pub look_from : Stepper → State → ℕ → ℕ → Look
look_from f s zero r = quiet
look_from f s (suc k) r = decides (f s r) r (look_from f s k (suc r))

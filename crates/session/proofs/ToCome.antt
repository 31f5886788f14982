-- How many lines can come at most. A program that asks for line after line, or for buffer after buffer, ends by this
-- number.
--     to_come_at k n      how many at the stage k, where n bytes of the input are left
--     to_come a s         how many with a ahead on the input s
--     left_of z s         how many of the code's session z
--     Advances z s n r    where the answer r to a call on z hands out lines, they fit a buffer of n bytes, and less is
--                         to come after them
use Prim.Native.Nat.{ℕ, suc, ◌-◌, ◌<◌, ◌≤◌}
use mathlib.Core.Path.{◌≡◌}
use mathlib.Core.List.{List}
use lib.ListN.{length}
use Rattle.std.specs.Prelude.{Result, Some}
use Rattle.session.specs.declared.Session as code-session
use Rattle.session.specs.declared.Handed as code-handed
use Rattle.session.specs.Carried.{Stage, first, events, over, refusing, Ahead, told_ahead}

unfoldable pub to_come_at : Stage → ℕ → ℕ
to_come_at first n = suc n
to_come_at events n = n
to_come_at over n = 0
to_come_at (refusing m p) n = 1

unfoldable pub to_come : Ahead → List ℕ → ℕ
to_come a s = to_come_at a.stage (length s - a.place)

abbrev pub left_of : code-session.Session → List ℕ → ℕ
left_of z s = to_come (told_ahead z.ahead) s

abbrev pub Advances : code-session.Session → List ℕ → ℕ → code-handed.Handed → Type 0
Advances z s n r = (k : ℕ) → r.answer ≡ Result.Ok (Some k) → (k ≤ n) × (left_of r.session s < left_of z s)

-- Laws of the number of a session's next event.
use Prim.Native.Nat.{ℕ, suc, ◌+◌, ◌<◌, ◌≤◌}
use mathlib.Core.Path.{◌≡◌}
use borrow.Author.Tests.{le-leb, lt-leb}
use native.Mathlib.Omega.{arith}
use mathlib.Core.Bool.{Bool, true, false, cond}
use lib.Dec.{leb}
use Rattle.board_reader.specs.Reading.{longest_input}
use Rattle.session.specs.Carried.{following}

pub following_on : (e : ℕ) → e ≤ longest_input → e + 1 ≡ following e
unfolding following
following_on e short = rw (le-leb e longest_input short) (omega arith)

pub following-stands : (e : ℕ) → longest_input < e → e ≡ following e
unfolding following
following-stands e long = rw (lt-leb e longest_input long)

pub following_most : (e : ℕ) → following e ≤ suc e
unfolding following
following_most e = most (leb e longest_input)
  where
    most : (t : Bool) → cond t (suc e) e ≤ suc e
    most true = omega arith
    most false = omega arith

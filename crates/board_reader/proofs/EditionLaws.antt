-- Laws of editions: that one has only kinds that there are, which is asked where a part was read.
--     Known e    the kinds of the edition e are in the table of kinds
use Prim.Native.Nat.{◌≤◌}
use native.Mathlib.Omega.{arith}
use Rattle.kinds.specs.Kinds.{last_kind}
use Rattle.board_reader.specs.Editions.{Edition, first_edition, current_edition}

abbrev pub Known : Edition → Type 0
Known e = e.last_kind ≤ last_kind

pub first_known : Known first_edition
first_known = omega arith

pub current_known : Known current_edition
current_known = omega arith

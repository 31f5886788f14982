-- The proof of the cycle of calls {write_groups}. The measure is `left`, the groups that may be left.
use native.Mathlib.Omega.{arith}
use lib.ListN.{length-set}
use Rattle.number.proofs.FormSteps.{encode_one, encode_further, encode-room, encode_rest}
use Rattle.std.proofs.Common.{rules}
use Rattle.number.proofs.+write_groups.Goals as goal

pub bounds-out-at : goal.bounds-out-at
bounds-out-at t c = encode-room _ _ _ _ c.requires.0 c.requires.2

pub bounds-out-at-else-value-lt128 : goal.bounds-out-at-else-value-lt128
bounds-out-at-else-value-lt128 t c = encode-room _ _ _ _ c.requires.0 c.requires.2

pub write_groups-requires : goal.write_groups-requires
write_groups-requires t c =
    (omega arith, rw length-set (encode_rest _ _ _ _ c.requires.1 c.requires.2 c.if-value-lt128.false))

pub returns-then-value-lt128 : goal.returns-then-value-lt128
returns-then-value-lt128 t c = encode_one _ _ _ _ c.requires.0 c.if-value-lt128.true

pub returns-else-value-lt128 : goal.returns-else-value-lt128
returns-else-value-lt128 t c = search (rules, encode_further)

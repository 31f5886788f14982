-- `write_number` asks for room, and where there is some, it writes the groups.
use mathlib.Core.Path.{sym, ◌∙◌}
use Prim.Native.Nat.{◌+◌, ◌≤◌}
use native.Mathlib.Omega.{arith}
use borrow.Author.Tests.{leb-true}
use lib.ListN.{length}
use Rattle.refusals.proofs.LineLaws.{line_holds, line_refuses}
use Rattle.number.proofs.NumberLaws.{number_unwritten, number-groups, number_stored}
use Rattle.number.proofs.write_number.Goals as goal

pub returns-in_err-unless : goal.returns-in_err-unless
returns-in_err-unless c =
    let refuses = line_refuses _ _ _ _ c.in_err-unless.ensures c.from_residual.ensures in
    rw refuses.1 (number_unwritten _ _ _ _ c.number_length-bytes.ensures (sym c.has_room.ensures ∙ refuses.0))

pub write_groups-requires : goal.write_groups-requires
write_groups-requires c =
    let fits : c.args.at + c.number_length-bytes.result ≤ length c.args.out.now =
    leb-true _ _ (sym c.has_room.ensures ∙ line_holds _ _ _ c.in_ok-unless.ensures) in
    number-groups _ c.args.out.now _ _ c.number_length-bytes.ensures fits
    (omega arith)

pub returns : goal.returns
returns c =
    let fits : c.args.at + c.number_length-bytes.result ≤ length c.args.out.now =
    leb-true _ _ (sym c.has_room.ensures ∙ line_holds _ _ _ c.in_ok-unless.ensures) in
    number_stored _ c.args.out.now _ _ c.number_length-bytes.ensures fits _ c.write_groups.ensures

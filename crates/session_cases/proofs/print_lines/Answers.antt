-- `session_cases::print_lines` meets its contract and ends: a line that is handed out fits its buffer, leaves less to
-- come and is written, and where none is handed out all that the session prints was written.
use Rattle.std.proofs.Common.{◌≤◌, arith, length, rules}
use Rattle.session.proofs.CallLaws.{call_advances}
use Rattle.session.specs.HandingOut.{NextLine}
use Rattle.session_means.proofs.Printed.{none_printed, more_printed, all_lines_printed}
use Rattle.session_cases.proofs.print_lines.Goals as goal

pub slice_bounds-line-end : goal.slice_bounds-line-end
slice_bounds-line-end g c =
    let advances =
    call_advances c.loop-length.session _ c.loop-length.line _ c.next_line-handed.result
    c.next_line-handed.ensures c.in-Ok-Some.length (search rules) in
    omega (arith, advances.0, c.loop-length.array_long, c.type_inv.line)

pub slice_bounds-write_all-end : goal.slice_bounds-write_all-end
slice_bounds-write_all-end g c =
    let advances =
    call_advances c.loop-length.session _ c.loop-length.line _ c.next_line-handed.result
    c.next_line-handed.ensures c.in-Ok-Some.length (search rules) in
    let fits : c.in-Ok-Some.length ≤ length c.next_line-handed.new.out =
    omega (arith, advances.0, c.next_line-handed.auto.out) in
    search rules

pub loop-length-smaller : goal.loop-length-smaller
loop-length-smaller g c =
    (call_advances c.loop-length.session _ c.loop-length.line _ c.next_line-handed.result
    c.next_line-handed.ensures c.in-Ok-Some.length (search rules)).1

pub loop-length-init : goal.loop-length-init
loop-length-init g c = none_printed NextLine _ _ _

pub loop-length-preserved : goal.loop-length-preserved
loop-length-preserved g c =
    more_printed NextLine _ _ c.loop-length.session _ _ _ c.loop-length.line _ c.next_line-handed.result _
    c.loop-length.invariant c.next_line-handed.ensures (search rules) c.in_ok-write_all.ensures.bytes

pub returns-in_default : goal.returns-in_default
returns-in_default g c = record {
  all_written =
      all_lines_printed _ _ c.loop-length.session _ _ c.loop-length.line _ c.next_line-handed.result
      c.begin-session.ensures c.loop-length.invariant (omega (arith, c.loop-length.array_long))
      c.next_line-handed.ensures (λ n e. search rules);
}

pub returns-in_default-2 : goal.returns-in_default-2
returns-in_default-2 g c = record {
  all_written =
      all_lines_printed _ _ c.loop-length.session _ _ c.loop-length.line _ c.next_line-handed.result
      c.begin-session.ensures c.loop-length.invariant (omega (arith, c.loop-length.array_long))
      c.next_line-handed.ensures (λ n e. search rules);
}

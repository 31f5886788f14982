-- `herdspiral::print_lines` meets its contract and ends: each buffer leaves less to come, and where no lines fill it
-- none is left, and all that the session prints was written.
use Rattle.std.proofs.Common.{◌≤◌, length, arith, rules}
use Rattle.session.proofs.FilledCalls.{filled_advances, filled-ends}
use Rattle.session.specs.Filling.{NextLines}
use Rattle.session_means.proofs.Printed.{none_printed, more_printed, all_buffers_printed}
use Rattle.herdspiral.proofs.print_lines.Goals as goal

pub returns-in_default-clause-nothing_left : goal.returns-in_default-clause-nothing_left
returns-in_default-clause-nothing_left g c =
    filled-ends c.loop-used.session _ c.loop-used.lines _ c.next_lines-handed.result c.next_lines-handed.ensures
    (omega (arith, c.requires, c.loop-used.auto.lines)) (λ n e. search rules)

pub slice_bounds-write_out-end : goal.slice_bounds-write_out-end
slice_bounds-write_out-end g c =
    let advances =
    filled_advances c.loop-used.session _ c.loop-used.lines _ c.next_lines-handed.result
    c.next_lines-handed.ensures c.in-Ok-Some.used (search rules) in
    omega (arith, advances.0, c.next_lines-handed.auto.out)

pub slice_bounds-write_out-end-in-loop-used : goal.slice_bounds-write_out-end-in-loop-used
slice_bounds-write_out-end-in-loop-used g c =
    let advances =
    filled_advances c.loop-used.session _ c.loop-used.lines _ c.next_lines-handed.result
    c.next_lines-handed.ensures c.in-Ok-Some.used (search rules) in
    let fits : c.in-Ok-Some.used ≤ length c.next_lines-handed.new.out =
    omega (arith, advances.0, c.next_lines-handed.auto.out) in
    search rules

pub loop-used-smaller : goal.loop-used-smaller
loop-used-smaller g c =
    (filled_advances c.loop-used.session _ c.loop-used.lines _ c.next_lines-handed.result
    c.next_lines-handed.ensures c.in-Ok-Some.used (search rules)).1

pub loop-used-init : goal.loop-used-init
loop-used-init g c = none_printed NextLines _ _ _

pub loop-used-preserved : goal.loop-used-preserved
loop-used-preserved g c =
    more_printed NextLines _ _ c.loop-used.session _ _ _ c.loop-used.lines _ c.next_lines-handed.result _
    c.loop-used.invariant c.next_lines-handed.ensures (search rules) c.in_ok-write_out.ensures

pub returns-in_default-clause-all_written : goal.returns-in_default-clause-all_written
returns-in_default-clause-all_written g c =
    all_buffers_printed _ _ c.loop-used.session _ _ c.loop-used.lines _ c.next_lines-handed.result
    c.begin-session.ensures c.loop-used.invariant (omega (arith, c.requires, c.loop-used.auto.lines))
    c.next_lines-handed.ensures (λ n e. search rules)

pub returns-in_default-2-clause-nothing_left : goal.returns-in_default-2-clause-nothing_left
returns-in_default-2-clause-nothing_left g c =
    filled-ends c.loop-used.session _ c.loop-used.lines _ c.next_lines-handed.result c.next_lines-handed.ensures
    (omega (arith, c.requires, c.loop-used.auto.lines)) (λ n e. search rules)

pub returns-in_default-2-clause-all_written : goal.returns-in_default-2-clause-all_written
returns-in_default-2-clause-all_written g c =
    all_buffers_printed _ _ c.loop-used.session _ _ c.loop-used.lines _ c.next_lines-handed.result
    c.begin-session.ensures c.loop-used.invariant (omega (arith, c.requires, c.loop-used.auto.lines))
    c.next_lines-handed.ensures (λ n e. search rules)

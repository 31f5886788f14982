-- `report::report_over` meets its contract: both ways of every button, from the start state, are all settings.
use borrow.Author.Rules.{rules}
use Rattle.report.proofs.ReportLaws.{reportable_can, log_cut, all_reported}
use Rattle.report.proofs.report_over.Goals as goal

pub slice_bounds-report_from-end : goal.slice_bounds-report_from-end
slice_bounds-report_from-end c = (log_cut _ _ c.requires.accepted c.args.log.now c.requires.log_long).0

pub slice_bounds-report_from-end-2 : goal.slice_bounds-report_from-end-2
slice_bounds-report_from-end-2 c = search (rules, log_cut)

pub report_from-requires : goal.report_from-requires
report_from-requires c = search (rules, reportable_can, log_cut)

pub returns : goal.returns
returns c = search (rules, log_cut, all_reported)

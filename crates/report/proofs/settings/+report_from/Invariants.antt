-- `report::settings::report_from`, which calls itself for a button off and on, meets its contract. What falls is the
-- number of buttons left.
use Rattle.report.proofs.settings.+report_from.Given as goal

abbrev pub decreases-report_from : goal.decreases-report_from
decreases-report_from l =
    l.left

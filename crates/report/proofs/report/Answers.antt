-- `report::report` meets its contract: the figures of all settings where nothing stands against it, else all zeros.
use borrow.Author.Rules.{rules}
use Rattle.report.proofs.ReportLaws.{reported_all, reported_none}
use Rattle.report.proofs.report.Goals as goal

pub returns-in-Ok : goal.returns-in-Ok
returns-in-Ok c = search (rules, reported_all)

pub returns-in-Err : goal.returns-in-Err
returns-in-Err c = search (rules, reported_none)

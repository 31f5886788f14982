-- `report::settings::report_one` meets its contract: the run is not refused, and its figures are those of its word and
-- its moves.
use mathlib.Core.Path.{◌∙◌}
use Rattle.report.proofs.ReportLaws.{one_run-told}
use Rattle.report.proofs.settings.report_one.Goals as goal

pub returns : goal.returns
returns c =
    c.one_run.ensures
    ∙ one_run-told _ c.args.state _ _ c.run-ran.result _ c.requires
    c.of.ensures c.run-ran.ensures

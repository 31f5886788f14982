-- `report::settings::report_from`, which calls itself for a button off and on, meets its contract. What falls is the
-- number of buttons left.
use borrow.Author.Rules.{rules}
use native.Mathlib.Omega.{arith}
use Rattle.report.proofs.ReportLaws.{can_set_fewer, can_set_on}
use Rattle.report.proofs.ReportLaws.{both_ways_one, both_ways-followed, both_ways-within}
use Rattle.report.proofs.settings.+report_from.Goals as goal

pub returns-then-left-eq0 : goal.returns-then-left-eq0
returns-then-left-eq0 t c = search (rules, both_ways_one)

pub report_from-on-requires : goal.report_from-on-requires
report_from-on-requires t c = search (rules, can_set_on)

pub followed_within-requires : goal.followed_within-requires
followed_within-requires t c =
    record {
      some_within = both_ways-within _ _ _ _ ((can_set_fewer _ _ _ _ c.requires _ (omega arith))) _
          c.report_from-off.ensures;
      others_within =
          both_ways-within _ _ _ _ ((can_set_on _ _ _ _ c.requires c.if-left-eq0.false _ _ _ c.from.ensures
          c.push.ensures c.report_from-off.auto.log)) _
          c.report_from-on.ensures;
    }

pub returns : goal.returns
returns t c = search (rules, both_ways-followed)

-- Demand 3, in the user's own words, and what states each sentence:
--     "A larger allowance never changes live or dead."
--         `larger`, of `judge`; and "an invented effort" is shut out, "as the verdict turns at that number": `turns`,
--         `effort`
--     "Number the chains from plus in the order of our rule book."
--         `chains`; `numbers`: the effort of a winding is such a number
--     "A winding is called live exactly when the first chain that shows it lies within the allowance, dead exactly when
--     there is none and all chains lie within it, otherwise undecided."
--         `live`, `dead`, `undecided`, and what is shown and reported with each: `shown`, `counted`, `reported`.
--         Request A4: "live" means live and not shunted, and "a shunted winding is called dead at every allowance,
--         however many chains there are": `shunted`. Rule book: "a judge that says undecided always, or dead always",
--         is shut out "by the "exactly" in demand 3": `always`. Request A5: judgements by kept sets "are the old ones,
--         efforts included": `afresh`. Request A6: wherever an allowance settles a winding, the judge that knows none
--         says the same: `agree`
--     "So of two accepted runs from one board and state, the one with no shorter log and no less allowance per winding
--     starts with every move of the other, and where the other ended idle or in conflict it ends with that word in that
--     same state."
--         `runs`: request A7, "for runs demand 3 now speaks of the log alone"; request A8 "lists buzz with idle and
--         conflict as endings that stand". A session's allowance "is still read, then ignored": `sessions`
-- The words:
--     JudgedExactly J       what the demand asks of a judge J
--     AlwaysSays f          the judge that answers f, whatever it is asked
--     NoWordAlways          a judge that answers always the same meets neither `LiveExactly` nor `DeadExactly`
--     LargerNeverChanges    the demand, of the promise of `judge::judge` and of that of `runs::run`, and of a session's
--                           lines
use Rattle.std.specs.Prelude.{◌≡◌, Result}
use Rattle.refusals.specs.declared.Refusal.{Refusal}
use Rattle.search.specs.declared.Finding.{Finding}
use Rattle.judge.specs.Judging.{Judges}
use Rattle.judge_means.specs.Exactness.{Judge, TheChains, EffortNumbers, AsAfresh, LiveExactly, DeadExactly}
use Rattle.judge_means.specs.Exactness.{UndecidedExactly, LiveShows, ShuntedDead, DeadCounts, UndecidedReports}
use Rattle.judge_means.specs.Allowances.{LargerAllowance, TurnsAtEffort, EffortSome}
use Rattle.judge_means.specs.Dividing.{AgreeWhereSettled}
use Rattle.runs_means.specs.LongerRuns.{LongerRun}
use Rattle.session_means.specs.AnyAllowance.{AnyAllowance}

pub record JudgedExactly (J : Judge) : Type 0 where
  -- by kept sets as by sets worked out from board and state
  pub afresh : AsAfresh J
  -- live, dead and undecided exactly if the winding is so within the allowance
  pub live : LiveExactly J
  pub dead : DeadExactly J
  pub undecided : UndecidedExactly J
  -- a shunted winding is dead, with effort 0, at every allowance
  pub shunted : ShuntedDead J
  -- and what is shown and reported with each
  pub shown : LiveShows J
  pub counted : DeadCounts J
  pub reported : UndecidedReports J
  -- a larger allowance never changes live or dead
  pub larger : LargerAllowance J
  pub turns : TurnsAtEffort J
  pub effort : EffortSome J

abbrev pub AlwaysSays : Result Finding Refusal → Judge
AlwaysSays f b h r n w v = v.finding ≡ f

abbrev pub NoWordAlways : Type 0
NoWordAlways = (f : Result Finding Refusal) → ¬ (LiveExactly (AlwaysSays f)) × ¬ (DeadExactly (AlwaysSays f))

pub record LargerNeverChanges : Type 0 where
  -- the chains, in the rule book's order, and the effort as a number of theirs
  pub chains : TheChains
  pub numbers : EffortNumbers
  -- what `judge` answers, and that no judge of one word answers so
  pub judge : JudgedExactly Judges
  pub always : NoWordAlways
  -- the judge that knows no allowance says the same wherever this one settles
  pub agree : AgreeWhereSettled
  -- of two accepted runs, by the log alone; two sessions that differ in W alone print the same lines, places apart
  pub runs : LongerRun
  pub sessions : AnyAllowance

-- Request A10, in the user's own words, and what states each sentence:
--     "Planners ask how a hut behaves whatever is pushed."
--         `adds`: the four counts add up to the settings
--     "For boards of up to 12 buttons, set both positions of each button in every combination, from the start state,
--     and run each with a log length given as a number."
--         `settings`: there are 2 to the B, of a board without buttons one, each pushes the buttons whose sum it is,
--         and every combination of the board's buttons is one; `figures`, of their runs from the start state; `runs`:
--         these are what the call for a run answers; `larger`: with a larger log idle, buzz and conflict are no fewer,
--         and spent is no more
--     "Report exactly: settings, how many ended idle, buzz, conflict and spent, total moves, the most moves, and the
--     first setting that has it (settings counted as the sum of 2 to the button number)."
--         `figures`; `most`: no setting has more moves than the most, the first has so many, and none before it has
--     "Each figure is that of the definition over all settings."
--         `figures`
--     "Refusals: 20, more than 12 buttons, after 13; a refused report is all zeros."
--         `twenty`, `zeros`
-- Each field is put into words in the file that defines it; all are over the call.
--     WhateverIsPushed    the request
use Rattle.report_means.specs.AllSettings.{EachFigure, EachRun, TwentyExactly, RefusedZeros, SettingsCounted, AddUp}
use Rattle.report_means.specs.AllSettings.{MostMoves, LargerLog}

pub record WhateverIsPushed : Type 0 where
  -- each figure is that of the runs of all settings, in order; and these are what `run` answers
  pub figures : EachFigure
  pub runs : EachRun
  -- which settings there are; that the four counts add up to them; and what the most moves and their first setting say
  pub settings : SettingsCounted
  pub adds : AddUp
  pub most : MostMoves
  -- what a larger log changes
  pub larger : LargerLog
  -- 20, and what a refused report is
  pub twenty : TwentyExactly
  pub zeros : RefusedZeros

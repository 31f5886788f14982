-- Request A10: the theorems of `report_means`.
use Rattle.report_means.proofs.AllSettings.{each_figure, each_run, settings_counted, add_up, most_moves_lem, larger_log}
use Rattle.report_means.proofs.AllSettings.{twenty_exactly, refused_zeros}
use Rattle.demands.specs.WhateverIsPushed.{WhateverIsPushed}

pub whatever-is_pushed : WhateverIsPushed
whatever-is_pushed = record {
  figures = each_figure;
  runs = each_run;
  settings = settings_counted;
  adds = add_up;
  most = most_moves_lem;
  larger = larger_log;
  twenty = twenty_exactly;
  zeros = refused_zeros;
}

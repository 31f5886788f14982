-- `kept::belong` meets its contract: both rows are compared with those worked out.
use mathlib.Core.Path.{◌∙◌}
use Rattle.kept.proofs.KeptLaws.{belongs_by}
use Rattle.kept.proofs.belong.Goals as goal

pub returns : goal.returns
returns c = c.eq.ensures ∙ belongs_by c.args.board c.args.kept c.neighbours-own.result c.neighbours-own.ensures

-- `kept::changed_ends` meets its contract. The invariant: the ends of all the parts are those so far with those of the
-- parts that are left besides.
use mathlib.Core.Path.{◌≡◌}
use Rattle.kept.specs.Upkeep.{changed_ends}
use Rattle.kept.proofs.UpkeepLaws.{ends_from}
use Rattle.kept.proofs.changed_ends.Given as goal

abbrev pub invariant-loop-part : goal.invariant-loop-part
invariant-loop-part l = changed_ends l.change l.parts ≡ ends_from l.change l.part-iterator.iter.rest.now l.ends

-- `judge::find_windings` meets its contract. The invariant, of the first winding and of the second: what is seen of
-- it is the one among the parts so far.
use mathlib.Core.Path.{◌≡◌}
use lib.ListN.{take}
use Rattle.judge.specs.declared.Which.TheVariants.{First, Second}
use Rattle.judge.specs.RelayWindings.{winding_of, told_seen}
use Rattle.judge.proofs.find_windings.Given as goal

abbrev pub invariant-loop-part : goal.invariant-loop-part
invariant-loop-part l = record {
  first : told_seen l.first ≡ winding_of First l.relay (take l.part-index l.part-items);
  second : told_seen l.second ≡ winding_of Second l.relay (take l.part-index l.part-items);
}

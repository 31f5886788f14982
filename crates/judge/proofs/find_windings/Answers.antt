-- `judge::find_windings` meets its contract. The invariant, of the first winding and of the second: what is seen of
-- it is the one among the parts so far.
use borrow.Author.Rules.{rules}
use Rattle.judge.specs.declared.Which.TheVariants.{First, Second}
use mathlib.Core.Path.{◌∙◌}
use mathlib.Core.List.{[]}
use Rattle.judge.proofs.ScannedLaws.{seen_starts, seen_next, seen_past, seen_windings}
use Rattle.judge.proofs.find_windings.Goals as goal

pub loop-part-init : goal.loop-part-init
loop-part-init c = record {
  first = seen_starts First _ [];
  second = seen_starts Second _ [];
}

pub loop-part-preserved-then-from-relay : goal.loop-part-preserved-then-from-relay
loop-part-preserved-then-from-relay c =
    let so = c.loop-part.invariant in
    let name = c.from.ensures ∙ c.name.ensures in
    record {
      first = seen_past First _ _ _ _ _ _ c.loop-part-test.true so.first name c.if-from-relay.true;
      second = seen_past Second _ _ _ _ _ _ c.loop-part-test.true so.second name c.if-from-relay.true;
    }

pub loop-part-preserved : goal.loop-part-preserved
loop-part-preserved c = record {
  first = search (rules, seen_next);
  second = search (rules, seen_next);
}

pub returns : goal.returns
returns c = search (rules, seen_windings)

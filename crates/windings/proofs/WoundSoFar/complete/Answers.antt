-- `windings::WoundSoFar::complete` meets its contract: `all` asks of each relay below the number of relays.
use Rattle.std.proofs.Common.{◌≡◌, true, false, rules, refl, arith, tests}
use Rattle.std.proofs.lemmas.Iterator.{cases_from_all, YieldsList-from_range}
use Rattle.windings.specs.Windings.{wound, complete}
use Rattle.windings.proofs.EveryLaws.{every-from_all}
use Rattle.windings.proofs.WoundSoFar.complete.Goals as goal

pub returns : goal.returns
unfolding complete
returns c =
    every-from_all (wound c.args.self) c.args.relays _
    (cases_from_all _ _ _ (λ x. wound c.args.self x ≡ true) (λ x. wound c.args.self x ≡ false) c.all.ensures.ran
    (YieldsList-from_range 0 c.args.relays c.args.relays (rw c.from.ensures refl) (omega arith))
    (λ x q k. search (rules, tests))
    (λ x q k. search (rules, tests)))

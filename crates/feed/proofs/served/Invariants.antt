-- `feed::served` meets its contract. The invariant: those are served so far that are not lost without one below x.
use mathlib.Core.Path.{◌≡◌}
use Rattle.feed.proofs.FeedLaws.{served_below}
use Rattle.feed.proofs.served.Given as goal

abbrev pub invariant-loop-x : goal.invariant-loop-x
invariant-loop-x l =
    l.served ≡ served_below l.near l.x

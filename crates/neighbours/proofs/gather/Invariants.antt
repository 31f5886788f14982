-- `neighbours::gather` meets its contract. The invariant: in both rows, by all parts that conduct and by those of them
-- that are no winding, what all the parts join comes to what the parts that are left join to the sets so far.
use mathlib.Core.Path.{◌≡◌}
use Rattle.neighbours.specs.Conduction.{conducts, conducts_bare}
use Rattle.neighbours.specs.Rows.{among_by, gathered}
use Rattle.neighbours.proofs.gather.Given as goal

abbrev pub invariant-loop-part : goal.invariant-loop-part
invariant-loop-part l =
    (gathered (among_by l.at (conducts l.state)) l.parts l.fn.near.sets
    ≡ gathered (among_by l.at (conducts l.state)) l.part-iterator.iter.rest.now l.near.sets)
    × (gathered (among_by l.at (conducts_bare l.state)) l.parts l.fn.bare.sets
    ≡ gathered (among_by l.at (conducts_bare l.state)) l.part-iterator.iter.rest.now l.bare.sets)

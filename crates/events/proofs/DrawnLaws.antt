-- The last number of an event's line is the rule book's sum: a state that fits a board has no relays beyond it.
use Rattle.bits.proofs.SetLaws.{below-member}
use Rattle.bits.proofs.SumLaws.{set_is_sum}
use Rattle.state.proofs.StateLaws.{state_fits_members}
use Rattle.events.specs.Drawn.{DrawnIsSum}

pub drawn_is_sum : DrawnIsSum
drawn_is_sum c s fine =
    set_is_sum c.relays s.drawn
    (below-member s.drawn c.relays (state_fits_members c s fine).drawn_below)

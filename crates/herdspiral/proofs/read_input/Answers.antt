-- `herdspiral::read_input` meets its contract: what a read gave stands behind what was read before.
use Rattle.std.proofs.Common.{arith}
use Rattle.herdspiral.proofs.Readings.{more_read}
use Rattle.herdspiral.proofs.read_input.Goals as goal

pub loop-length-preserved : goal.loop-length-preserved
loop-length-preserved g c = (
  omega (arith, c.in_ok-more.ensures.length_fits, c.read_on.auto.buffer),
  more_read _ _ _ c.loop-length.length c.in_ok-more.more c.loop-length.buffer c.read_on.new.buffer
      c.loop-length.invariant.1 c.in_ok-more.ensures.kept c.in_ok-more.ensures.bytes,
)

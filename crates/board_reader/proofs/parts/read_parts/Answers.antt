-- `board_reader::parts::read_parts` meets its contract: a part that is refused leaves at once, and when all are read
-- they are those of the definition.
use Rattle.std.proofs.Common.{◌∙◌, sym, ap, refl, length-set}
use Rattle.refusals.specs.Outcomes.{told}
use Rattle.board_reader.proofs.PartsLaws.{walk_start, walk_on, walk_refused, walk_end}
use Rattle.board_reader.proofs.parts.read_parts.Goals as goal

pub loop-i-init : goal.loop-i-init
loop-i-init c = record { few = c.requires; long = refl; walk = walk_start _ _ _ _ _ _ c.blank.ensures }

pub loop-i-preserved : goal.loop-i-preserved
loop-i-preserved c =
    let so_far = c.loop-i.invariant in
    record {
      few = so_far.few;
      long = length-set _ _ _ ∙ so_far.long;
      walk = walk_on _ _ _ _ _ _ _ _ _ so_far.walk _ _ _ c.loop-i-test.true so_far.few
          (sym c.in-Ok.ensures) c.with-row.ensures;
    }

pub returns-in_default : goal.returns-in_default
returns-in_default c =
    walk_refused _ _ _ _ _ _ _ _ _ c.loop-i.invariant.walk _ _ c.loop-i-test.true
    (sym c.read_part-read.ensures ∙ ap told c.unwrap_err.ensures)

pub returns : goal.returns
returns c = walk_end _ _ _ _ _ _ _ _ _ c.loop-i.invariant.walk c.loop-i-test.false

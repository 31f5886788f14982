-- `presses::set` meets its contract: done, the state is the next; refused, it is the state as given.
use Rattle.presses.proofs.PressLaws.{set_done, set_refused}
use Rattle.presses.proofs.set.Goals as goal

pub returns-in-Ok : goal.returns-in-Ok
returns-in-Ok c = set_done _ _ _ _ c.pressable-answer.ensures _ _ c.in-Ok.is c.changed.ensures

pub returns-in-Err : goal.returns-in-Err
returns-in-Err c = set_refused _ _ _ _ c.pressable-answer.ensures _ c.in-Err.is

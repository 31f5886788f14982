-- What the loop that reads the parts answers.
--     row_from w o    the parts that were read, in their places, and the windings and marks after them, where the parts
--                     before them gave w
use Rattle.std.specs.Prelude.{List}
use Rattle.refusals.specs.declared.Found.{Found}
use Rattle.refusals.specs.Outcomes.{Outcome, found, ◌>>=◌}
use Rattle.windings.specs.declared.WoundSoFar.{WoundSoFar}
use Rattle.board.specs.declared.Part.{Part}
use Rattle.board.specs.Parts.{padded}
use Rattle.board.specs.Rules.{gained_all}
use Rattle.board_reader.specs.declared.parts.Row.{Row}

unfoldable pub row_from : WoundSoFar → Outcome (Found (List Part)) → Outcome (Found Row)
row_from w o = do
  ps ← o
  found (record { parts = padded ps.value; windings = gained_all w ps.value }) ps.next

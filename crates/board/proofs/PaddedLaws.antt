-- Laws of parts as an array of 256 places: that its first places hold the parts, and what the next part does to it.
-- What the reader and the writer of board files need.
use Prim.Native.Nat.{ℕ, ◌<◌}
use mathlib.Core.Path.{◌≡◌, ap, ◌∙◌}
use mathlib.Core.List.{List, [], ◌∷◌, ◌++◌}
use lib.ListN.{length, take, set}
use Rattle.lists.proofs.FilledLaws.{filled_first, filled_set}
use Rattle.board.specs.declared.Part.{Part}
use Rattle.board.specs.declared.Counts.{Counts}
use Rattle.board.specs.Parts.{parts_of, most_parts, blank, padded}

padded_first : (ps : List Part) → take (length ps) (padded ps) ≡ ps
unfolding padded
padded_first ps = filled_first most_parts blank ps

-- a board whose count is right has these parts
pub padded_parts : (c : Counts) (ps : List Part) (s : ℕ) → c.parts ≡ length ps
    → parts_of (record { counts = c; parts = padded ps; start = s }) ≡ ps
padded_parts c ps s count = ap (λ (n : ℕ). take n (padded ps)) count ∙ padded_first ps

pub padded_set : (ps : List Part) (p : Part) → length ps < most_parts
    → set (padded ps) (length ps) p ≡ padded (ps ++ (p ∷ []))
unfolding padded
padded_set ps p room = filled_set most_parts blank ps p room

-- Request A1, "Every file accepted so far keeps its meaning", and request A2, "First-edition files read as before",
-- said of sessions. Stated over the definition of a session's lines, read with numbers of at most three bytes as before
-- A1, by the first edition as A1 left it, and by the rule book as it stands; what relays do goes by the rule book as it
-- stands in all three (request A4 changed what a shunted relay does, in an old file too).
--     Unclosed l           the line l tells of an event; it does not end the session
--     SessionsKept         a session that was not refused before A1 prints the same lines
--     FirstSessionsKept    nor is any line changed of a session that the first edition did not refuse
--     LinesKept n ls ms    what became of the lines ls, which are the lines ms in the next edition:
--       same               they are the same
--       ended              the session was ended by n, and the lines before that stand
--     LinesStand           so it is of every session, refused or not: by 2 from A1 on, and by 4 from A2 on
use Rattle.std.specs.Prelude.{ℕ, ◌≡◌, List, [], ◌∷◌, ◌++◌}
use Rattle.lists.specs.Members.{All}
use Rattle.refusals.specs.Refusals.{bad_form, no_such_kind}
use Rattle.board_reader.specs.Editions.{three_byte_edition, first_edition, current_edition}
use Rattle.lines.specs.Lines.{Line, event, closing}
use Rattle.session.specs.Sessions.{session_lines, session_text}

abbrev pub Unclosed : Line → Type 0
Unclosed (event e o m d) = Unit {0}
Unclosed (closing n p) = ⊥

abbrev pub SessionsKept : Type 0
SessionsKept =
    (s : List ℕ)
    → All Unclosed (session_lines three_byte_edition s)
    → session_text current_edition s ≡ session_text three_byte_edition s

abbrev pub FirstSessionsKept : Type 0
FirstSessionsKept =
    (s : List ℕ)
    → All Unclosed (session_lines first_edition s)
    → session_text current_edition s ≡ session_text first_edition s

pub data LinesKept (n : ℕ) (ls ms : List Line) : Type 0 where
  same : ms ≡ ls → LinesKept n ls ms
  ended : (before rest : List Line) (p : ℕ) → ls ≡ before ++ (closing n p ∷ []) → ms ≡ before ++ rest
      → LinesKept n ls ms

abbrev pub LinesStand : Type 0
LinesStand =
    (s : List ℕ)
    → LinesKept bad_form (session_lines three_byte_edition s) (session_lines first_edition s)
    × LinesKept no_such_kind (session_lines first_edition s) (session_lines current_edition s)

-- Request A8: "Spent then means no state has come twice." A session's log has room for 4,096 moves, which is 2 to the
-- 12, so in a session with up to 12 relays the word cannot occur.
--     few_relays         12
--     Unspent l          the line l does not tell of a run that ended spent
--     SessionsUnspent    no line of a session with at most so many relays does
use Rattle.std.specs.Prelude.{ℕ, ◌≤◌, ◌≡◌, List}
use Rattle.lists.specs.Members.{All}
use Rattle.refusals.specs.declared.Found.{Found}
use Rattle.refusals.specs.Outcomes.{given, refused}
use Rattle.board.specs.declared.Board.{Board}
use Rattle.board_reader.specs.Editions.{current_edition}
use Rattle.runs.specs.Runs.{idle, spent, conflict, buzz}
use Rattle.lines.specs.Lines.{Line, event, closing}
use Rattle.session.specs.Sessions.{head_at, session_lines}

abbrev pub few_relays : ℕ
few_relays = 12

abbrev pub Unspent : Line → Type 0
Unspent (event e (given spent) m d) = ⊥
Unspent (event e (given idle) m d) = Unit {0}
Unspent (event e (given conflict) m d) = Unit {0}
Unspent (event e (given buzz) m d) = Unit {0}
Unspent (event e (refused n p) m d) = Unit {0}
Unspent (closing n p) = Unit {0}

abbrev pub SessionsUnspent : Type 0
SessionsUnspent =
    (s : List ℕ) (h : Found Board)
    → head_at current_edition s ≡ given h
    → h.value.counts.relays ≤ few_relays
    → All Unspent (session_lines current_edition s)

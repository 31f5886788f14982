-- The theorems: of every line of every session that tells of a refused event, the number is 12; and where an event ends
-- a session, it is 1, 2 or 7.
use Prim.Native.Nat.{ℕ}
use mathlib.Core.Path.{subst}
use mathlib.Core.List.{List, ◌∷◌}
use Rattle.lists.specs.Members.{All}
use Rattle.refusals.specs.declared.Found.{Found}
use Rattle.refusals.specs.Outcomes.{Outcome, given, refused}
use Rattle.board.specs.declared.Board.{Board}
use Rattle.board_reader.specs.Editions.{current_edition}
use Rattle.file_means.proofs.GivesLaws.{Gives}
use Rattle.session.specs.Sessions.{head_at, head_lines, session_lines}
use Rattle.lines.specs.Lines.{Line, event, closing}
use Rattle.events.specs.Events.{Shown}
use Rattle.session_means.specs.EventRefusals.{OnlyTwelve, EventsRefused, ClosedByEvent, EventsClosed}
use Rattle.session_means.proofs.EventFits.{ShownFits}
use Rattle.session_means.proofs.LinesWalk.{Along, HeadFine, head_fine, head_walk}

along_twelve : (b : Board) → Along b (λ e t ls. All OnlyTwelve ls)
along_twelve b =
    record { none = λ e t. tt; closes = λ e t n p by. (tt, tt); shown = λ e t x ls shows so on. (so.twelve, on) }

head_lines_twelve : (o : Outcome (Found Board)) (s : List ℕ) → Gives HeadFine o
    → All OnlyTwelve (head_lines current_edition o s)
unfolding head_lines
head_lines_twelve (refused n p) s fine = (tt, tt)
head_lines_twelve (given h) s fine = head_walk h s fine (λ e t ls. All OnlyTwelve ls) (along_twelve h.value)

pub events_refused : EventsRefused
unfolding session_lines
events_refused s = head_lines_twelve (head_at current_edition s) s (head_fine s)

shown-closes_none : (b : Board) (x : Shown) (ls : List Line) → ShownFits b x → All ClosedByEvent ls
    → All ClosedByEvent (x.0 ∷ ls)
shown-closes_none b (event n o m d, u) ls so on = (tt, on)
shown-closes_none b (closing n p, u) ls so on = absurd so.drawn

along_closed : (b : Board) → Along b (λ e t ls. All ClosedByEvent ls)
along_closed b =
    record {
      none = λ e t. tt;
      closes = λ e t n p by. (by, tt);
      shown = λ e t x ls shows so on. shown-closes_none b x ls so on;
    }

pub events_closed : EventsClosed
unfolding session_lines
events_closed s h read =
    rw read (head_walk h s (subst (Gives HeadFine) read (head_fine s)) (λ e t ls. All ClosedByEvent ls)
    (along_closed h.value))

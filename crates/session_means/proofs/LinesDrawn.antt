-- The theorem: in every session the last number of an event's line is the sum over the relays drawn in the state that
-- it leaves. That state fits the board, so its word of drawn relays is the sum.
use Prim.Native.Nat.{ℕ, suc}
use mathlib.Core.Path.{refl, subst, ◌∙◌}
use mathlib.Core.List.{List, ◌∷◌}
use Rattle.board.specs.declared.Board.{Board}
use Rattle.kept.specs.declared.Kept.{Kept}
use Rattle.kept.proofs.KeptLaws.{usable_given}
use Rattle.file_means.proofs.GivesLaws.{Gives}
use Rattle.lines.specs.Lines.{Line, event, closing}
use Rattle.events.specs.Events.{Shown}
use Rattle.events.proofs.DrawnLaws.{drawn_is_sum}
use Rattle.session.specs.Sessions.{session_lines}
use Rattle.session_means.specs.LinesDrawn.{EventShows, SumsFrom, LinesDrawn}
use Rattle.session_means.proofs.EventFits.{ShownFits}
use Rattle.session_means.proofs.LinesWalk.{Along, HeadFine, head_fine, head_walk}

shown_sum : (b : Board) (e : ℕ) (t : Kept) (x : Shown) (ls : List Line) → EventShows b e t x
    → ShownFits b x → SumsFrom b (suc e) x.1 ls → SumsFrom b e t (x.0 ∷ ls)
shown_sum b e t (event n o m d, u) ls shows so on =
    let fits = (usable_given b u so.fits).1 in (
      u,
      (
        record { shows = shows; fits = fits; sum = so.drawn ∙ drawn_is_sum b.counts u.state fits },
        on,
      ),
    )
shown_sum b e t (closing n p, u) ls shows so on = absurd so.drawn

along_drawn : (b : Board) → Along b (SumsFrom b)
along_drawn b = record { none = λ e t. tt; closes = λ e t n p by. refl; shown = shown_sum b }

pub lines_drawn : LinesDrawn
unfolding session_lines
lines_drawn s h read =
    rw read (head_walk h s (subst (Gives HeadFine) read (head_fine s)) (SumsFrom h.value)
    (along_drawn h.value))

-- The theorem of specs/UnspentSessions.antt: each event's line tells of a run over the session's log, or of a refusal.
use Prim.Native.Nat.{ℕ, zero, suc, ◌^◌, ◌≤◌}
use native.Mathlib.Omega.{arith}
use native.Mathlib.Nat.{pow-le-pow_right}
use mathlib.Core.Path.{◌≡◌, refl, sym, subst}
use lib.ListN.{length, length-replicate}
use Rattle.lists.specs.Members.{All}
use Rattle.refusals.specs.Outcomes.{Outcome, given, refused}
use Rattle.board.specs.declared.Board.{Board}
use Rattle.kept.specs.declared.Kept.{Kept}
use Rattle.file_means.proofs.GivesLaws.{Gives}
use Rattle.runs.specs.Runs.{Ending, idle, spent, conflict, buzz}
use Rattle.runs.specs.Running.{running}
use Rattle.runs_means.proofs.SpentLaws.{running-unspent}
use Rattle.lines.specs.Lines.{event}
use Rattle.events.specs.Events.{Shown, session_log, pressing, ran_line, pressed_line, event_line}
use Rattle.session.specs.Sessions.{session_lines}
use Rattle.session_means.specs.LinesDrawn.{EventShows}
use Rattle.session_means.specs.UnspentSessions.{few_relays, Unspent, SessionsUnspent}
use Rattle.session_means.proofs.LinesWalk.{Along, HeadFine, head_fine, head_walk}

module _ (b : Board) (short : b.counts.relays ≤ few_relays) where
  room : 2 ^ b.counts.relays ≤ length session_log
  room = simp length-replicate (pow-le-pow_right (omega arith) short)

  unspent_word : (e m d : ℕ) (o : Outcome Ending) → (o ≡ given spent → ⊥) → Unspent (event e o m d)
  unspent_word e m d (given idle) other = tt
  unspent_word e m d (given spent) other = other refl
  unspent_word e m d (given conflict) other = tt
  unspent_word e m d (given buzz) other = tt
  unspent_word e m d (refused n p) other = tt

  ran-unspent : (e : ℕ) (t : Kept) → Unspent (ran_line b e t).0
  unfolding ran_line
  ran-unspent e t =
      let x = running b t session_log in
      unspent_word e x.moves x.kept.state.drawn x.word (running-unspent b t session_log room)

  pressed-unspent : (e : ℕ) (x : Kept × Outcome (Unit {0})) → Unspent (pressed_line b e x).0
  unfolding pressed_line
  pressed-unspent e (t, given u) = ran-unspent e t
  pressed-unspent e (t, refused n p) = tt

  shows-unspent : (e : ℕ) (t : Kept) (x : Shown) → EventShows b e t x → Unspent x.0
  unfolding event_line
  shows-unspent zero t x is = subst (λ (y : Shown). Unspent y.0) (sym is) (ran-unspent 0 t)
  shows-unspent (suc e) t x (v, is) =
      subst (λ (y : Shown). Unspent y.0) (sym is) (pressed-unspent (suc e) (pressing b t v))

  along-unspent : Along b (λ e t ls. All Unspent ls)
  along-unspent =
      record {
        none = λ e t. tt;
        closes = λ e t n p by. (tt, tt);
        shown = λ e t x ls shows so on. (shows-unspent e t x shows, on);
      }

pub sessions_unspent : SessionsUnspent
unfolding session_lines
sessions_unspent s h read short =
    rw read (head_walk h s (subst (Gives HeadFine) read (head_fine s)) (λ e t ls. All Unspent ls)
    (along-unspent h.value short))

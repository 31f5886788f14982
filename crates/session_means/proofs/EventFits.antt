-- One event on a board that breaks no rule, from a state that fits it with the sets of both: where its line tells of a
-- refusal, it is 12; the line has the word of drawn relays of the state after it; and that state fits again, with its
-- sets.
use Prim.Native.Nat.{ℕ, ◌≤◌}
use native.Mathlib.Omega.{arith}
use mathlib.Core.Path.{◌≡◌, refl, subst}
use mathlib.Core.Bool.{Bool, true, false, not, cond}
use lib.Dec.{ltb}
use lib.ListN.{length, length-replicate}
use borrow.Author.Tests.{ltb-true}
use Rattle.refusals.specs.Outcomes.{Outcome, given, refused, unless}
use Rattle.refusals.specs.Refusals.{already_so}
use Rattle.board.specs.declared.Board.{Board}
use Rattle.board.specs.Rules.{board_fine}
use Rattle.state.specs.States.{state_fine, is_pushed, with_pushed, with_released}
use Rattle.state.proofs.StateLaws.{state_fits_push, state_fits_release}
use Rattle.kept.specs.declared.Kept.{Kept}
use Rattle.kept.specs.Kept.{kept_at, usable, left}
use Rattle.kept.proofs.KeptLaws.{usable_fine, usable_given}
use Rattle.moves.specs.Steps.{step_of}
use Rattle.presses.specs.Presses.{pushing, releasing}
use Rattle.presses.proofs.PressLaws.{press_twelve}
use Rattle.runs.specs.Running.{longest_log, ran}
use Rattle.runs.proofs.RunningLaws.{runnable_log, running_by}
use Rattle.lines.specs.Lines.{event, closing}
use Rattle.events.specs.declared.Event.{Event}
use Rattle.events.specs.declared.Event.TheVariants.{Push, Release}
use Rattle.events.specs.Events.{named_button, pressing, session_log, Shown, tells, ran_line, pressed_line, event_line}
use Rattle.session_means.specs.EventRefusals.{OnlyTwelve}
use Rattle.runs.proofs.RunFits.{run_fits}

-- an event's line has the drawn relays of the state after it
abbrev pub HasDrawn : Shown → Type 0
HasDrawn (event e o m d, t) = d ≡ t.state.drawn
HasDrawn (closing n p, t) = ⊥

-- what a line tells, and that what it leaves is not refused by 15, 14 or 18
pub record ShownFits (b : Board) (x : Shown) : Type 0 where
  pub twelve : OnlyTwelve x.0
  pub drawn : HasDrawn x
  pub fits : usable b x.1 ≡ given tt

-- what a push or release came to, and the same of what it left
abbrev ByTwelve : Outcome (Unit {0}) → Type 0
ByTwelve (given u) = Unit {0}
ByTwelve (refused n p) = n ≡ already_so

record PressFits (b : Board) (x : Kept × Outcome (Unit {0})) : Type 0 where
  twelve : ByTwelve x.1
  fits : usable b x.0 ≡ given tt

log_short : length session_log ≤ longest_log
log_short = simp length-replicate (omega arith)

module _ (b : Board) where
  -- ---- a run

  pub ran_fits : (e : ℕ) (t : Kept) → usable b t ≡ given tt → ShownFits b (ran_line b e t)
  unfolding ran_line ran
  ran_fits e t fits =
      let goes = runnable_log b t session_log fits log_short in
      let was = usable_given b t fits in
      let after = run_fits b.counts (step_of b) (length session_log) t.state was.1 in
      subst (λ r. ShownFits b (tells e r)) (running_by b t session_log (given tt) goes)
      (record { twelve = tt; drawn = refl; fits = usable_fine b _ was.0 after })

  -- ---- a push or a release

  left_fits : (t u : Kept) (settable : Bool) → usable b t ≡ given tt → usable b u ≡ given tt
      → PressFits b (left t (λ _. u) (unless settable already_so 0))
  unfolding left
  left_fits t u true before after = record { twelve = tt; fits = after }
  left_fits t u false before after = record { twelve = refl; fits = before }

  module _ (t : Kept) (n : ℕ) (fits : usable b t ≡ given tt) (below : ltb n b.counts.buttons ≡ true) where
    fine : board_fine b ≡ true
    fine = (usable_given b t fits).0

    before : state_fine b.counts t.state ≡ true
    before = (usable_given b t fits).1

    push_fits : PressFits b (pushing b t n)
    unfolding pushing
    push_fits =
        rw (press_twelve b t n (not (is_pushed t.state n)) fits below)
        (left_fits t (kept_at b (with_pushed t.state n)) (not (is_pushed t.state n)) fits
        (usable_fine b (with_pushed t.state n) fine
        (state_fits_push b.counts t.state n before (ltb-true n b.counts.buttons below))))

    release_fits : PressFits b (releasing b t n)
    unfolding releasing
    release_fits =
        rw (press_twelve b t n (is_pushed t.state n) fits below)
        (left_fits t (kept_at b (with_released t.state n)) (is_pushed t.state n) fits
        (usable_fine b (with_released t.state n) fine (state_fits_release b.counts t.state n before)))

  press_fits : (t : Kept) (v : Event) → usable b t ≡ given tt → ltb (named_button v) b.counts.buttons ≡ true
      → PressFits b (pressing b t v)
  unfolding pressing
  press_fits t (Push n) fits below = push_fits t n fits below
  press_fits t (Release n) fits below = release_fits t n fits below

  -- ---- the event

  pressed_fits : (e : ℕ) (x : Kept × Outcome (Unit {0})) → PressFits b x → ShownFits b (pressed_line b e x)
  unfolding pressed_line
  pressed_fits e (t, given u) so = ran_fits e t so.fits
  pressed_fits e (t, refused n p) so = record { twelve = so.twelve; drawn = refl; fits = so.fits }

  pub event_fits : (e : ℕ) (t : Kept) (v : Event) → usable b t ≡ given tt
      → ltb (named_button v) b.counts.buttons ≡ true → ShownFits b (event_line b e t v)
  unfolding event_line
  event_fits e t v fits below = pressed_fits e (pressing b t v) (press_fits t v fits below)

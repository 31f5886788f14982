-- What stands against the calls that tell of a run and of an event, and what they leave where that is a refusal: a told
-- run has a log that is never too long, and a push or release leaves a state and sets that the run after it can use.
use Prim.Native.Nat.{ℕ, ◌≤◌}
use native.Mathlib.Omega.{arith}
use mathlib.Core.Path.{◌≡◌, refl, sym, ap, ◌∙◌}
use mathlib.Core.Bool.{Bool, true, false, not, cond}
use mathlib.Core.List.{List}
use lib.Dec.{ltb}
use lib.ListN.{length, length-replicate}
use borrow.Author.Tests.{le-leb, ltb-true}
use Rattle.refusals.specs.Outcomes.{Outcome, given, refused}
use Rattle.refusals.specs.Order.{first_no, against}
use Rattle.refusals.proofs.OutcomeLaws.{refused_never}
use Rattle.refusals.proofs.OrderLaws.{StandsAgainst}
use Rattle.board.specs.declared.Board.{Board}
use Rattle.state.specs.declared.State.{State}
use Rattle.state.specs.States.{is_pushed, with_pushed, with_released, state_fine}
use Rattle.state.proofs.StateLaws.{state_fits_push, state_fits_release}
use Rattle.kept.specs.declared.Kept.{Kept}
use Rattle.kept.specs.Kept.{kept_at, usable_lines, usable, left}
use Rattle.kept.proofs.KeptLaws.{usable_fine, usable_given}
use Rattle.presses.specs.Presses.{press_lines, push_lines, release_lines, pushing, releasing}
use Rattle.presses.proofs.PressLaws.{press-usable}
use Rattle.runs.specs.Running.{Ran, longest_log, run_lines, running}
use Rattle.lines.specs.Lines.{event}
use Rattle.events.specs.declared.Event.{Event}
use Rattle.events.specs.declared.Event.TheVariants.{Push, Release}
use Rattle.events.specs.Events.{made_lines, session_log, Shown, tells, pressing, ran_line, pressed_line, event_line}
use Rattle.demands.specs.EveryCallComesBack.{word_of}
use Rattle.demands.proofs.StandsLaws.{LeftStands, push-stands, release-stands, NotRun, run-stands}

-- where x tells of event e by a refusal, it has no moves, the drawn relays of h, and h
abbrev pub Untouched : ℕ → Kept → Shown → Type 0
Untouched e h x = x ≡ (event e (word_of x.0) 0 h.state.drawn, h)

abbrev pub LineStands : ℕ → Kept → Outcome (Unit {0}) → Shown → Type 0
LineStands e h = StandsAgainst (λ (x : Shown). word_of x.0) (Untouched e h)

-- ---- a run that is told

log_short : length session_log ≤ longest_log
log_short = simp length-replicate (omega arith)

-- the line of 13 falls away where the log is not too long
runs_short : (b : Board) (h : Kept) (log : List ℕ) → length log ≤ longest_log
    → first_no (run_lines b h log) ≡ first_no (usable_lines b h)
unfolding first_no
runs_short b h log short = rw (le-leb (length log) longest_log short)

module _ (b : Board) (e : ℕ) (h : Kept) where
  not_run_untouched : (x : Ran) → NotRun h session_log x → Untouched e h (tells e x)
  not_run_untouched x not-run i =
      (event e x.word (not-run.1.0 i) (not-run.0 i).state.drawn, not-run.0 i)

  pub ran_line-stands : LineStands e h (first_no (usable_lines b h)) (ran_line b e h)
  unfolding ran_line
  ran_line-stands =
      let stands = run-stands b h session_log in
      record {
        first = stands.first ∙ runs_short b h session_log log_short;
        left = λ n p is. not_run_untouched (running b h session_log) (stands.left n p is);
      }

-- ---- the push or release of an event

-- o stands against the push or release x from h, and where nothing does a run can use what is left
record PressStands (b : Board) (h : Kept) (o : Outcome (Unit {0})) (x : Kept × Outcome (Unit {0})) : Type 0 where
  stands : LeftStands h o x
  goes : x.1 ≡ given tt → usable b x.0 ≡ given tt

left_given : (h k : Kept) (o : Outcome (Unit {0})) → (left h (λ u. k) o).1 ≡ given tt
    → (o ≡ given tt) × ((left h (λ u. k) o).0 ≡ k)
unfolding left
left_given h k (given u) is = (refl, refl)
left_given h k (refused n p) is = absurd (refused_never n p tt is)

module _ (b : Board) (h : Kept) where
  left_goes : (t : State) (n : ℕ) (settable : Bool)
      → (state_fine b.counts h.state ≡ true → ltb n b.counts.buttons ≡ true → state_fine b.counts t ≡ true)
      → (left h (λ u. kept_at b t) (first_no (press_lines b h n settable))).1 ≡ given tt
      → usable b (left h (λ u. kept_at b t) (first_no (press_lines b h n settable))).0 ≡ given tt
  left_goes t n settable fits is =
      let done = left_given h (kept_at b t) (first_no (press_lines b h n settable)) is in
      let asked = press-usable b h n settable done.0 in
      let fine = usable_given b h asked.0 in
      ap (usable b) done.1 ∙ usable_fine b t fine.0 (fits fine.1 asked.1)

  press_push : (n : ℕ) → PressStands b h (first_no (push_lines b h n)) (pushing b h n)
  unfolding pushing
  press_push n = record {
    stands = push-stands b h n;
    goes =
        left_goes (with_pushed h.state n) n (not (is_pushed h.state n))
        (λ fine below. state_fits_push b.counts h.state n fine (ltb-true n b.counts.buttons below));
  }

  press_release : (n : ℕ) → PressStands b h (first_no (release_lines b h n)) (releasing b h n)
  unfolding releasing
  press_release n = record {
    stands = release-stands b h n;
    goes =
        left_goes (with_released h.state n) n (is_pushed h.state n)
        (λ fine below. state_fits_release b.counts h.state n fine);
  }

  pressing-stands : (v : Event) → PressStands b h (first_no (made_lines b h v)) (pressing b h v)
  unfolding pressing
  pressing-stands (Push n) = press_push n
  pressing-stands (Release n) = press_release n

  -- ---- an event that is told

  module _ (e : ℕ) where
    -- nothing stands against a run from what a call can use
    ran_line_given : (t : Kept) → usable b t ≡ given tt → against (word_of (ran_line b e t).0) ≡ given tt
    unfolding usable
    ran_line_given t goes = (ran_line-stands b e t).first ∙ goes

    pressed_line-stands : (o : Outcome (Unit {0})) (x : Kept × Outcome (Unit {0})) → PressStands b h o x
        → LineStands e h o (pressed_line b e x)
    unfolding pressed_line
    pressed_line-stands o (t, given u) press =
        let ran = ran_line_given t (press.goes refl) in
        record {
          first = ran ∙ press.stands.first;
          left = λ n p is. absurd (refused_never n p tt (sym (ap against is) ∙ ran));
        }
    pressed_line-stands o (t, refused n p) press = record {
      first = press.stands.first;
      left = λ k q is. ap {B = Shown} (λ (u : Kept). (event e (refused n p) 0 u.state.drawn, u))
          (press.stands.left n p refl);
    }

    pub event_line-stands : (v : Event) → LineStands e h (first_no (made_lines b h v)) (event_line b e h v)
    unfolding event_line
    event_line-stands v = pressed_line-stands (first_no (made_lines b h v)) (pressing b h v) (pressing-stands v)

-- ---- what a call shows by a refusal

pub shown_untouched : (e : ℕ) (h : Kept) (x : Shown) (n p : ℕ) → Untouched e h x → word_of x.0 ≡ refused n p
    → (x.0 ≡ event e (refused n p) 0 h.state.drawn) × (x.1 ≡ h)
shown_untouched e h x n p kept word = (
  ap (λ (z : Shown). z.0) kept ∙ ap (λ o. event e o 0 h.state.drawn) word,
  ap (λ (z : Shown). z.1) kept,
)

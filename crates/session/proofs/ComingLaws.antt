-- What a session's next line can be, case by case, and that each line leaves less to come. For the theorem on the lines
-- handed out, and for a program that asks for line after line.
use Prim.Native.Nat.{ℕ, ◌<◌, ◌≤◌}
use native.Mathlib.Omega.{arith}
use mathlib.Core.Path.{◌≡◌, refl, sym, ap, ◌∙◌}
use mathlib.Core.Bool.{Bool, true, false}
use mathlib.Core.List.{List}
use lib.Dec.{leb}
use lib.ListN.{length}
use borrow.Author.Tests.{leb-true, leb-false}
use Rattle.refusals.specs.declared.Found.{Found}
use Rattle.refusals.specs.Outcomes.{Outcome, given, refused, found}
use Rattle.refusals.specs.Refusals.{no_such_name}
use Rattle.refusals.proofs.OutcomeLaws.{handed, given_injective}
use Rattle.number.proofs.NumberLaws.{number_next_within}
use Rattle.board.specs.declared.Board.{Board}
use Rattle.board_reader.specs.Editions.{Edition}
use Rattle.board_reader.specs.Reading.{wanted}
use Rattle.board_reader.proofs.FieldLaws.{wanted-found}
use Rattle.lines.specs.Lines.{Line}
use Rattle.events.specs.declared.Event.{Event}
use Rattle.events.specs.Events.{event_of, event_at, ran_line, event_line}
use Rattle.session.proofs.ToCome.{to_come_at, to_come}
use Rattle.session.specs.Carried.{Stage, first, events, over, refusing, Ahead, Coming, line, no_line, goes_on}
use Rattle.session.specs.Carried.{closes, event_comes, next_event, next_at, next_of}

pub data Comes (ed : Edition) (b : Board) (a : Ahead) (s : List ℕ) : Type 0 where
  runs_first : a.stage ≡ first
      → next_of ed b a s
      ≡ goes_on a.event (ran_line b a.event a.kept) a.place → Comes ed b a s
  makes_event : (v : Found Event) → a.stage ≡ events → a.place < length s
      → event_at ed b.counts.buttons s a.place ≡ given v
      → next_of ed b a s
      ≡ goes_on a.event (event_line b a.event a.kept v.value) v.next
      → Comes ed b a s
  bad_event : (n p : ℕ) → a.stage ≡ events → a.place < length s
      → event_at ed b.counts.buttons s a.place ≡ refused n p → next_of ed b a s ≡ closes a n p
      → Comes ed b a s
  tells_refusal : (n p : ℕ) → a.stage ≡ refusing n p → next_of ed b a s ≡ closes a n p → Comes ed b a s
  at_end : a.stage ≡ events → length s ≤ a.place → next_of ed b a s ≡ (a, no_line) → Comes ed b a s
  is_over : a.stage ≡ over → next_of ed b a s ≡ (a, no_line) → Comes ed b a s

module _ (ed : Edition) (b : Board) (a : Ahead) (s : List ℕ) where
  module _ (is : a.stage ≡ events) where
    next_is_event : next_of ed b a s ≡ next_event ed b a s
    unfolding next_of next_at
    next_is_event = ap (λ (k : Stage). next_at ed k b a s) is

    event_by : (o : Outcome (Found Event)) → event_at ed b.counts.buttons s a.place ≡ o
        → leb (length s) a.place ≡ false → Comes ed b a s
    unfolding next_event event_comes
    event_by (given v) e there =
        makes_event v is (leb-false (length s) a.place there) e (next_is_event ∙ rw (there, e) refl)
    event_by (refused n p) e there =
        bad_event n p is (leb-false (length s) a.place there) e (next_is_event ∙ rw (there, e) refl)

    end_by : (t : Bool) → leb (length s) a.place ≡ t → Comes ed b a s
    unfolding next_event
    end_by true e = at_end is (leb-true (length s) a.place e) (next_is_event ∙ rw e refl)
    end_by false e = event_by (event_at ed b.counts.buttons s a.place) refl e

  stage_by : (k : Stage) → a.stage ≡ k → Comes ed b a s
  unfolding next_of next_at
  stage_by first is = runs_first is (ap (λ (k : Stage). next_at ed k b a s) is)
  stage_by events is = end_by is (leb (length s) a.place) refl
  stage_by over is = is_over is (ap (λ (k : Stage). next_at ed k b a s) is)
  stage_by (refusing n p) is = tells_refusal n p is (ap (λ (k : Stage). next_at ed k b a s) is)

  pub comes : Comes ed b a s
  comes = stage_by a.stage refl

-- an event's number stands at its place and takes at least a byte
pub event_next : (ed : Edition) (n : ℕ) (s : List ℕ) (at : ℕ) (v : Found Event) → event_at ed n s at ≡ given v
    → at < v.next
unfolding event_at
event_next ed n s at v e =
    let read =
    handed (wanted ed _ no_such_name s at) (λ (w : Found ℕ). found (event_of w.value) w.next) v e in
    let w = read.value in
    let same : w.next ≡ v.next = ap (λ (x : Found Event). x.next) (given_injective _ _ read.then) in
    let number = (wanted-found ed _ no_such_name s at w.value w.next read.first).1 in
    omega (arith, (number_next_within ed.width s at w.value w.next number).1, same)

pub line_never : (l : Line) → no_line ≡ line l → ⊥
line_never l e = let z : ◌≡◌ {A = ℕ} 0 1 = cc in omega arith

-- where nothing comes, what is ahead stays as it is
module _ (ed : Edition) (b : Board) (a y : Ahead) (s : List ℕ) (is : next_of ed b a s ≡ (y, no_line)) where
  never_line : (x : Ahead) (l : Line) → next_of ed b a s ≡ (x, line l) → ⊥
  never_line x l e = line_never l (ap (λ (p : Ahead × Coming). p.1) (sym is ∙ e))

  same_by : Comes ed b a s → y ≡ a
  same_by (runs_first at e) = absurd (never_line _ _ e)
  same_by (makes_event v at there found e) = absurd (never_line _ _ e)
  same_by (bad_event n p at there bad e) = absurd (never_line _ _ e)
  same_by (tells_refusal n p at e) = absurd (never_line _ _ e)
  same_by (at_end at past e) = ap (λ (p : Ahead × Coming). p.0) (sym is ∙ e)
  same_by (is_over at e) = ap (λ (p : Ahead × Coming). p.0) (sym is ∙ e)

  pub none-same : y ≡ a
  none-same = same_by (comes ed b a s)

-- after a line there is less to come
module _ (ed : Edition) (b : Board) (a y : Ahead) (s : List ℕ) (l : Line) (is : next_of ed b a s ≡ (y, line l)) where
  left_by : (x : Ahead) (c : Coming) → next_of ed b a s ≡ (x, c) → to_come y s ≡ to_come x s
  left_by x c e = ap (λ (p : Ahead × Coming). to_come p.0 s) (sym is ∙ e)

  never_none : next_of ed b a s ≡ (a, no_line) → ⊥
  never_none e = line_never l (ap (λ (p : Ahead × Coming). p.1) (sym e ∙ is))

  less_by : Comes ed b a s → to_come y s < to_come a s
  unfolding to_come to_come_at
  less_by (runs_first at e) = rw (left_by _ _ e, at) (omega arith)
  less_by (makes_event v at there found e) =
      rw (left_by _ _ e, at) (omega (arith, event_next ed b.counts.buttons s a.place v found))
  less_by (bad_event n p at there bad e) = rw (left_by _ _ e, at) (omega arith)
  less_by (tells_refusal n p at e) = rw (left_by _ _ e, at) (omega arith)
  less_by (at_end at past e) = absurd (never_none e)
  less_by (is_over at e) = absurd (never_none e)

  pub next_less : to_come y s < to_come a s
  next_less = less_by (comes ed b a s)

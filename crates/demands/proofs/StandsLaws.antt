-- What stands against each call is the first of its lines whose test fails, and what it leaves where that is a refusal:
-- each call is defined by its lines, so one law of `refusals` has it for most of them.
use Prim.Native.Nat.{ℕ}
use mathlib.Core.Path.{◌≡◌, refl, sym, ap, subst, ◌∙◌}
use mathlib.Core.Bool.{Bool, true, false, cond}
use mathlib.Core.List.{List, [], ◌∷◌}
use mathlib.Core.Option.{Option, none, some}
use lib.Dec.{leb, ltb}
use Rattle.std.specs.Prelude.{Result}
use Rattle.refusals.specs.declared.Refusal.{Refusal}
use Rattle.refusals.specs.Outcomes.{Outcome, given, refused, ◌>>◌, ◌>>=◌, told}
use Rattle.refusals.specs.Refusals.{terminal_beyond}
use Rattle.refusals.specs.Order.{Order, first_no, answering, against}
use Rattle.refusals.proofs.OutcomeLaws.{refused_never}
use Rattle.refusals.proofs.OrderLaws.{StandsAgainst, answering-stands, against_itself, asks_append}
use Rattle.number.specs.Numbers.{number_lines, number_writing}
use Rattle.board.specs.declared.Board.{Board}
use Rattle.state.specs.declared.State.{State}
use Rattle.state.specs.States.{with_pushed, with_released}
use Rattle.kept.specs.declared.Kept.{Kept}
use Rattle.kept.specs.Kept.{kept_at, left}
use Rattle.presses.specs.Presses.{push_lines, release_lines, pushing, releasing}
use Rattle.board_writer.specs.Writing.{write_lines, writing, bytes_written}
use Rattle.neighbours.specs.Neighbours.{neighbours, sets_of}
use Rattle.search.specs.declared.Winding.{Winding}
use Rattle.search.specs.Verdicts.{Verdict, settled, unsettled, first_shown, effort, weighed, places}
use Rattle.judge.specs.declared.Which.{Which}
use Rattle.judge.specs.Judging.{judge_lines, winding_for, verdict_on, judging}
use Rattle.judge.proofs.JudgeLaws.{judged-weighed, winding_for_lines}
use Rattle.divide.specs.AtOnce.{divides, judging_at_once, check_lines, checking}
use Rattle.moves.specs.Steps.{made, step_of}
use Rattle.moves.specs.Moving.{move_lines, movable, moving}
use Rattle.runs.specs.Runs.{no_relay}
use Rattle.runs.specs.Running.{Ran, run_lines, runnable, ran, running}
use Rattle.lines.specs.Lines.{Line, line_lines, line_writing}
use Rattle.session.specs.Carried.{Ahead, Session, Coming, line, no_line}
use Rattle.session.specs.HandingOut.{HandedAhead, Handed, carrying, handed_by, line_handed, next_line}
use Rattle.session.specs.Filling.{filled_by, lines_handed, next_lines}

-- ---- writing into a buffer, which stays as lent where it is refused

abbrev pub WriteStands : List ℕ → Order → Outcome ℕ × List ℕ → Type 0
WriteStands out ls = StandsAgainst (λ x. x.0) (λ x. x.1 ≡ out) (first_no ls)

-- k bytes are written and the buffer becomes l, unless a line stands against it
write-stands : (out l : List ℕ) (k : ℕ) (ls : Order)
    → WriteStands out ls (answering (first_no ls) (λ n p. (refused n p, out)) (λ u. (given k, l)))
write-stands out l k ls = answering-stands _ _ _ _ (λ n p. (refl, refl)) refl (first_no ls)

pub writing-stands : (b : Board) (out : List ℕ) → WriteStands out (write_lines b out) (writing b out)
unfolding writing
writing-stands b out = write-stands out _ _ (write_lines b out)

pub number_writing-stands : (v : ℕ) (out : List ℕ) (at : ℕ) → WriteStands out (number_lines v out at)
    (number_writing v out at)
unfolding number_writing
number_writing-stands v out at = write-stands out _ _ (number_lines v out at)

pub line_writing-stands : (l : Line) (out : List ℕ) → WriteStands out (line_lines out) (line_writing l out)
unfolding line_writing
line_writing-stands l out = write-stands out _ _ (line_lines out)

pub nothing_written : (w : Result ℕ Refusal) (n p : ℕ) → told w ≡ refused n p → bytes_written w ≡ 0
nothing_written (Result.Ok k) n p e = absurd (refused_never n p k (sym e))
nothing_written (Result.Err r) n p e = refl

-- ---- a button, and a single move: what is left beside what the call came to

abbrev pub LeftStands : {A : Type 0} → Kept → Outcome (Unit {0}) → Kept × Outcome A → Type 0
LeftStands h = StandsAgainst (λ x. x.1) (λ x. x.0 ≡ h)

left-stands : {A : Type 0} (h : Kept) (f : A → Kept) (o : Outcome A) → LeftStands h (against o) (left h f o)
unfolding left
left-stands h f (given a) = record { first = refl; left = λ n p e. absurd (refused_never n p a (sym e)) }
left-stands h f (refused n p) = record { first = refl; left = λ m q e. refl }

against_then : {A : Type 0} (o : Outcome (Unit {0})) (a : A) → against (o >> given a) ≡ o
against_then (given u) a = refl
against_then (refused n p) a = refl

pub push-stands : (b : Board) (h : Kept) (n : ℕ) → LeftStands h (first_no (push_lines b h n)) (pushing b h n)
unfolding pushing
push-stands b h n =
    subst (λ o. LeftStands h o (pushing b h n)) (against_itself (first_no (push_lines b h n)))
    (left-stands h (λ u. kept_at b (with_pushed h.state n)) (first_no (push_lines b h n)))

pub release-stands : (b : Board) (h : Kept) (n : ℕ) → LeftStands h (first_no (release_lines b h n)) (releasing b h n)
unfolding releasing
release-stands b h n =
    subst (λ o. LeftStands h o (releasing b h n)) (against_itself (first_no (release_lines b h n)))
    (left-stands h (λ u. kept_at b (with_released h.state n)) (first_no (release_lines b h n)))

pub move-stands : (b : Board) (h : Kept) (r : ℕ) → LeftStands h (first_no (move_lines b h r)) (moving b h r)
unfolding moving movable
move-stands b h r =
    subst (λ o. LeftStands h o (moving b h r))
    (against_then (first_no (move_lines b h r)) (step_of b h.state r))
    (left-stands h (λ m. kept_at b (made h.state r m))
    (first_no (move_lines b h r) >> given (step_of b h.state r)))

-- ---- judging

settled_given : (e : ℕ) (c : Option (List ℕ)) → against (settled e c).finding ≡ given tt
settled_given e (some c) = refl
settled_given e none = refl

weighed_given : (t : List ℕ → Bool) (cs : List (List ℕ)) (w : ℕ) → against (weighed t cs w).finding ≡ given tt
unfolding weighed
weighed_given t cs w = by (leb (effort t cs) w)
  where
    by : (within : Bool)
        → against (cond within (settled (effort t cs) (first_shown t cs)) (unsettled w)).finding ≡ given tt
    by true = settled_given (effort t cs) (first_shown t cs)
    by false = refl

-- a refused judgement has no verdict, effort 0 and length 0
abbrev pub NoVerdict : Verdict → Type 0
NoVerdict v = (v.effort ≡ 0) × ((v.length ≡ 0) × (v.places ≡ places []))

verdict-stands : (b : Board) (s : State) (w : ℕ) (o : Outcome Winding)
    → StandsAgainst (λ (v : Verdict). v.finding) NoVerdict (against o) (verdict_on b s o w)
verdict-stands b s w (given v) =
    let gives =
    ap (λ (j : Verdict). against j.finding) (judged-weighed (sets_of b s) b.counts.terminals v w)
    ∙ weighed_given _ _ w in
    record { first = gives; left = λ n p e. absurd (refused_never n p tt (sym (ap against e) ∙ gives)) }
verdict-stands b s w (refused n p) = record { first = refl; left = λ m q e. (refl, (refl, refl)) }

pub judge-stands : (b : Board) (h : Kept) (r : ℕ) (k : Which) (w : ℕ)
    → StandsAgainst (λ (v : Verdict). v.finding) NoVerdict (first_no (judge_lines b h r k)) (judging b h r k w)
unfolding judging
judge-stands b h r k w =
    subst (λ o. StandsAgainst (λ (v : Verdict). v.finding) NoVerdict o (judging b h r k w)) (winding_for_lines b h r k)
    (verdict-stands b h.state w (winding_for b h r k))

-- judging without listing chains, and the check of a terminal: 19 is asked as the last line
against_on : {A B : Type 0} (o : Outcome A) (f : A → B) → against (o >>= λ a. given (f a)) ≡ against o
against_on (given a) f = refl
against_on (refused n p) f = refl

pub judge-at_once-stands : (b : Board) (h : Kept) (r : ℕ) (k : Which)
    → against (judging_at_once b h r k) ≡ first_no (judge_lines b h r k)
unfolding judging_at_once
judge-at_once-stands b h r k = against_on (winding_for b h r k) _ ∙ winding_for_lines b h r k

asked_after : {A B : Type 0} (o : Outcome A) (q : Outcome (Unit {0})) (f : A → B)
    → against (against o >> q >> o >>= λ a. given (f a)) ≡ (against o >> q)
asked_after (given a) (given u) f = refl
asked_after (given a) (refused n p) f = refl
asked_after (refused n p) q f = refl

pub check-stands : (b : Board) (h : Kept) (r : ℕ) (k : Which) (x : ℕ)
    → against (checking b h r k x) ≡ first_no (check_lines b h r k x)
unfolding checking
check-stands b h r k x =
    ap
    (λ (o : Outcome (Unit {0})).
    against (o >> winding_for b h r k >>= λ v. given (divides (neighbours b h.state) v x))) lines
    ∙ asked_after (winding_for b h r k) (first_no last) (λ v. divides (neighbours b h.state) v x) ∙ sym lines
  where
    last : Order
    last = (ltb x b.counts.terminals, terminal_beyond) ∷ []

    lines : first_no (check_lines b h r k x) ≡ (against (winding_for b h r k) >> first_no last)
    lines =
        asks_append (judge_lines b h r k) last
        ∙ ap (λ (o : Outcome (Unit {0})). o >> first_no last) (sym (winding_for_lines b h r k))

-- ---- running

-- a refused run leaves the state, the sets and the log as they were, with no moves, no relay and no meeting
abbrev pub NotRun : Kept → List ℕ → Ran → Type 0
NotRun h log x =
    (x.kept ≡ h)
    × ((x.moves ≡ 0) × ((x.relay ≡ no_relay) × ((x.earlier ≡ 0) × ((x.between ≡ 0) × (x.log ≡ log)))))

pub run-stands : (b : Board) (h : Kept) (log : List ℕ)
    → StandsAgainst (λ (x : Ran). x.word) (NotRun h log) (first_no (run_lines b h log)) (running b h log)
unfolding running runnable ran
run-stands b h log =
    answering-stands _ _ _ _ (λ n p. (refl, (refl, (refl, (refl, (refl, (refl, refl))))))) refl
    (first_no (run_lines b h log))

-- ---- the next line, and the next lines

handed_given : (out : List ℕ) (x : Ahead × Coming) → against (handed_by x out).answer ≡ given tt
unfolding handed_by
handed_given out (a, line l) = refl
handed_given out (a, no_line) = refl

filled_given : (out : List ℕ) (x : Ahead × List Line) → against (filled_by x out).answer ≡ given tt
unfolding filled_by
filled_given out (a, []) = refl
filled_given out (a, l ∷ ls) = refl

-- x is handed out where the longest line has room; else the session z and the buffer stay
abbrev pub HandStands : Session → List ℕ → Handed → Type 0
HandStands z out =
    StandsAgainst (λ (h : Handed). h.answer) (λ h. (h.session ≡ z) × (h.out ≡ out)) (first_no (line_lines out))

hand-stands : (z : Session) (out : List ℕ) (x : HandedAhead) → against x.answer ≡ given tt
    → HandStands z out
    (carrying z
    (answering (first_no (line_lines out)) (λ n p. record { ahead = z.ahead; answer = refused n p; out = out })
    (λ u. x)))
hand-stands z out x gives = by (first_no (line_lines out))
  where
    by : (o : Outcome (Unit {0}))
        → StandsAgainst (λ (h : Handed). h.answer) (λ h. (h.session ≡ z) × (h.out ≡ out)) o
        (carrying z (answering o (λ n p. record { ahead = z.ahead; answer = refused n p; out = out }) (λ u. x)))
    by (given u) = record { first = gives; left = λ n p e. absurd (refused_never n p tt (sym (ap against e) ∙ gives)) }
    by (refused n p) = record { first = refl; left = λ m q e. (refl, refl) }

pub next_line-stands : (z : Session) (s out : List ℕ) → HandStands z out (next_line z s out)
unfolding next_line line_handed
next_line-stands z s out = hand-stands z out _ (handed_given out _)

pub next_lines_stand : (z : Session) (s out : List ℕ) → HandStands z out (next_lines z s out)
unfolding next_lines lines_handed
next_lines_stand z s out = hand-stands z out _ (filled_given out _)

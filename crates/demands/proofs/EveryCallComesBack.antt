-- Demand 1: what stands against each call, and what a refused call leaves.
use Prim.Native.Nat.{ℕ}
use mathlib.Core.Path.{◌≡◌, sym, ap, subst, ◌∙◌}
use mathlib.Core.List.{List}
use Rattle.refusals.specs.Outcomes.{Outcome, refused}
use Rattle.refusals.specs.Order.{against}
use Rattle.refusals.proofs.OrderLaws.{StandsAgainst, against_itself}
use Rattle.refusals.proofs.Told.{told_injective}
use Rattle.number.proofs.FormExactly.{form_exactly}
use Rattle.board.specs.declared.Board.{Board}
use Rattle.board.proofs.BreaksNoRule.{fifteen_exactly}
use Rattle.state.proofs.Fourteen.{fourteen_exactly}
use Rattle.kept.specs.declared.Kept.{Kept}
use Rattle.kept.proofs.Eighteen.{eighteen_exactly}
use Rattle.board_reader.proofs.ReadLaws.{reading_refused}
use Rattle.search.specs.Verdicts.{Finding, Verdict}
use Rattle.moves.specs.Steps.{Move}
use Rattle.runs.specs.Runs.{Ending}
use Rattle.runs.specs.Running.{Ran}
use Rattle.file_means.proofs.FileRefusals.{file_refused}
use Rattle.judge_means.proofs.Eleven.{eleven_exactly}
use Rattle.judge_means.proofs.Dividing.{nineteen_exactly}
use Rattle.moves_means.proofs.SingleMoves.{move_eleven_exactly}
use Rattle.report_means.proofs.AllSettings.{stands-against, twenty_exactly, refused_zeros}
use Rattle.lines.specs.Lines.{told_line}
use Rattle.events.specs.Events.{Shown}
use Rattle.session.specs.Carried.{told_session}
use Rattle.session.specs.HandingOut.{HandOut, Handed}
use Rattle.session.specs.declared.Session as code-session
use Rattle.session.specs.declared.Handed as code-handed
use Rattle.session.proofs.ToldLaws.{session-told}
use Rattle.demands.specs.EveryCallComesBack.{InOrder, AsLent, EveryCallComesBack, word_of}
use Rattle.demands.proofs.StandsLaws.{writing-stands, number_writing-stands, line_writing-stands}
use Rattle.demands.proofs.StandsLaws.{nothing_written}
use Rattle.demands.proofs.StandsLaws.{push-stands, release-stands, move-stands, judge-stands}
use Rattle.demands.proofs.StandsLaws.{judge-at_once-stands, check-stands, run-stands, next_line-stands}
use Rattle.demands.proofs.StandsLaws.{next_lines_stand}
use Rattle.demands.proofs.EventLineLaws.{ran_line-stands, event_line-stands, shown_untouched}
use Rattle.demands.proofs.OneAnswer.{one_answer}

-- what is told of an answer is x, and x is what stands against the call: so is it of the answer
module _ {A R : Type 0} (word : R → Outcome A) {So : R → Type 0} {o : Outcome (Unit {0})} {x y : R} (told : y ≡ x)
    (stands : StandsAgainst word So o x) where
  told_first : against (word y) ≡ o
  told_first = ap (λ (z : R). against (word z)) told ∙ stands.first

  told-left : (n p : ℕ) → word y ≡ refused n p → So y
  told-left n p is = subst So (sym told) (stands.left n p (sym (ap word told) ∙ is))

-- ---- what a call came to, in what it tells

abbrev written : Outcome ℕ × List ℕ → Outcome ℕ
written x = x.0

abbrev pressed : Kept × Outcome (Unit {0}) → Outcome (Unit {0})
pressed x = x.1

abbrev moved : Kept × Outcome Move → Outcome Move
moved x = x.1

abbrev judged : Verdict → Outcome Finding
judged v = v.finding

abbrev ran : Ran → Outcome Ending
ran x = x.word

abbrev shown : Shown → Outcome Ending
shown x = word_of x.0

abbrev handed : Handed → Outcome HandOut
handed x = x.answer

pub in_order : InOrder
in_order = record {
  reads = file_refused;
  forms = form_exactly;
  eleven = eleven_exactly;
  eleven_moved = move_eleven_exactly;
  nineteen = nineteen_exactly;
  fourteen = fourteen_exactly;
  eighteen = eighteen_exactly;
  fifteen = fifteen_exactly;
  twenty = twenty_exactly;
  writes_number = λ v out out' at x wrote. told_first written wrote (number_writing-stands v out at);
  writes_line = λ l out out' x wrote. told_first written wrote (line_writing-stands (told_line l) out);
  writes = λ b out out' w wrote. told_first written wrote (writing-stands b out);
  pushes = λ b h n x press. sym (against_itself _) ∙ told_first pressed press (push-stands b h n);
  releases = λ b h n x press. sym (against_itself _) ∙ told_first pressed press (release-stands b h n);
  judges = λ b h r k w v told. told_first judged told (judge-stands b h r k w);
  judges_at_once = λ b h r k a told. ap against told ∙ judge-at_once-stands b h r k;
  checks = λ b h r k x a told. ap against told ∙ check-stands b h r k x;
  moves = λ b h r a told. told_first moved told (move-stands b h r);
  runs = λ b h log log' a told. told_first ran told (run-stands b h log);
  reports = stands-against;
  tells_run = λ b e h x told. told_first shown told (ran_line-stands b e h);
  tells_event = λ b e h v x told. told_first shown told (event_line-stands b h e v);
  hands = λ z s out out' r told. told_first handed told (next_line-stands (told_session z) s out);
  hands_lines = λ z s out out' r told. told_first handed told (next_lines_stand (told_session z) s out);
}

-- a session that is told as z is z
kept : (z : code-session.Session) (r : code-handed.Handed) (out out' : List ℕ)
    → (told_session r.session ≡ told_session z) × (out' ≡ out) → (r.session ≡ z) × (out' ≡ out)
kept z r out out' left = (told_injective told_session session-told r.session z left.0, left.1)

pub as_lent : AsLent
as_lent = record {
  reads =
      λ s r n p read told. reading_refused _ s r.board n p
      (sym read ∙ ap {B = Board × Outcome ℕ} (λ o. (r.board, o)) told);
  writes_number = λ v out out' at x n p wrote is. told-left written wrote (number_writing-stands v out at) n p is;
  writes_line = λ l out out' x n p wrote is. told-left written wrote (line_writing-stands (told_line l) out) n p is;
  writes = λ b out out' w n p wrote is. (
    told-left written wrote (writing-stands b out) n p is,
    nothing_written w n p is,
  );
  pushes = λ b h k x n p press is. told-left pressed press (push-stands b h k) n p is;
  releases = λ b h k x n p press is. told-left pressed press (release-stands b h k) n p is;
  judges = λ b h r k w v n p told is. told-left judged told (judge-stands b h r k w) n p is;
  moves = λ b h r a n p told is. told-left moved told (move-stands b h r) n p is;
  runs = λ b h log log' a n p told is. told-left ran told (run-stands b h log) n p is;
  reports = refused_zeros;
  tells_run = λ b e h x n p told is.
      shown_untouched e h _ n p (told-left shown told (ran_line-stands b e h) n p is) is;
  tells_event = λ b e h v x n p told is.
      shown_untouched e h _ n p (told-left shown told (event_line-stands b h e v) n p is) is;
  hands = λ z s out out' r n p told is.
      kept z r out out' (told-left handed told (next_line-stands (told_session z) s out) n p is);
  hands_lines = λ z s out out' r n p told is.
      kept z r out out' (told-left handed told (next_lines_stand (told_session z) s out) n p is);
}

pub every-call-comes_back : EveryCallComesBack
every-call-comes_back = record { comes_back = one_answer; in_order = in_order; as_lent = as_lent }

-- The theorems of specs/AsTold.antt: a winding is taken for live exactly if it is live, and the judge says so exactly
-- then; a relay moves by what its windings are taken for.
use Prim.Native.Nat.{ℕ}
use mathlib.Core.Path.{◌≡◌, refl, ap, ◌∙◌}
use mathlib.Core.Bool.{true, false≢true}
use Rattle.std.specs.Prelude.{Result}
use Rattle.bits.proofs.BoolLaws.{both_ways}
use Rattle.refusals.specs.declared.Refusal.{Refusal}
use Rattle.refusals.specs.Outcomes.{Outcome, given, refused, told_as}
use Rattle.board.specs.declared.Board.{Board}
use Rattle.board.proofs.BreaksNoRule.{fine_fits}
use Rattle.state.specs.States.{is_drawn}
use Rattle.neighbours.specs.Neighbours.{sets_of}
use Rattle.kept.specs.declared.Kept.{Kept}
use Rattle.kept.proofs.KeptLaws.{usable_can}
use Rattle.search.specs.declared.Winding.{Winding}
use Rattle.judge.specs.declared.Which.{Which}
use Rattle.judge.specs.declared.Which.TheVariants.{First, Second}
use Rattle.judge.specs.RelayWindings.{regular, steel}
use Rattle.feed.specs.declared.Feed.{Feed}
use Rattle.feed.specs.Feeds.{live_by}
use Rattle.divide.specs.declared.Judgement as code-judgement
use Rattle.divide.specs.AtOnce.{Judgement, live, shunted, dead, told_judgement, JudgesAtOnce}
use Rattle.judge_means.specs.Exactness.{AcceptedWinding}
use Rattle.judge_means.specs.Eleven.{ItsWinding}
use Rattle.judge_means.proofs.Eleven.{the_winding, regular-wound, steel-wound}
use Rattle.judge_means.proofs.Dividing.{told_exactly}
use Rattle.moves.specs.declared.Moved.{Moved}
use Rattle.moves.specs.Steps.{regular_move, taken_live, step_of}
use Rattle.moves.specs.Moving.{movable, told_move_answer, Moves}
use Rattle.moves.proofs.StepLaws.{step_windings}
use Rattle.moves.proofs.MovingLaws.{movable_given}
use Rattle.moves_means.specs.AsTold.{says_live, TakenAsTold, RegularAsTold, SteelAsTold}
use Rattle.moves_means.proofs.TakenLaws.{taken_exactly, regular_windings, steel_windings}
use Rattle.moves_means.proofs.SingleMoves.{call_moved}

says_live_lem : (o : Outcome Judgement) → says_live o ≡ true → o ≡ given live
says_live_lem (given live) is = refl
says_live_lem (given shunted) is = absurd (false≢true is)
says_live_lem (given (dead x)) is = absurd (false≢true is)
says_live_lem (refused n p) is = absurd (false≢true is)

-- what the step's definition takes a winding for
takes_told : (b : Board) (h : Kept) (r : ℕ) (n : Which) (e : Winding) (j : Result code-judgement.Judgement Refusal)
    → JudgesAtOnce b h r n j → AcceptedWinding b h r n e
    → taken_live (sets_of b h.state) b.counts.terminals e ≡ says_live (told_as told_judgement j)
takes_told b h r n e j told taken =
    let accepted = (the_winding b h r n e).0 taken in
    let says = (told_exactly b h r n e j told taken).0 in
    let takes = taken_exactly b h.state r n e (fine_fits b accepted.0.0) accepted.1 in
    both_ways _ _ (λ is. ap says_live (says.1 (takes.0 is))) (λ is. takes.1 (says.0 (says_live_lem _ is)))

pub taken_as_told : TakenAsTold
unfolding taken_live
taken_as_told b h r n e f t j feeds lives told taken =
    lives ∙ ap (λ (g : Feed). live_by g.served g.linked e) feeds ∙ takes_told b h r n e j told taken

-- ---- over the call

module _ (b : Board) (h : Kept) (r : ℕ) (a : Moved) (moves : Moves b h r a) (taken : movable b h r ≡ given tt) where
  accepts : (n : Which) (e : Winding) → ItsWinding b r n e → AcceptedWinding b h r n e
  accepts n e its = (the_winding b h r n e).1 (usable_can b h (movable_given b h r taken).0, its)

  answers : told_move_answer a.answer ≡ given (step_of b h.state r)
  answers = λ i. (call_moved b h r a moves taken i).1

pub regular_as_told : RegularAsTold
regular_as_told b h r a j moves taken sort told =
    let its = regular-wound b r sort in
    let takes =
    takes_told b h r First its.winding j told (accepts b h r a moves taken First its.winding its.first) in
    answers b h r a moves taken
    ∙ ap given (step_windings b h.state r (regular its.winding)
    (regular_windings b r sort its.winding its.first)
    ∙ ap (regular_move (is_drawn h.state r)) takes)

pub steel_as_told : SteelAsTold
steel_as_told b h r a j k moves taken sort told also =
    let its = steel-wound b r sort in
    let accept = accepts b h r a moves taken in
    let draws = takes_told b h r First its.drawing j told (accept First its.drawing its.first) in
    let drops = takes_told b h r Second its.dropping k also (accept Second its.dropping its.second) in
    answers b h r a moves taken
    ∙ ap given (step_windings b h.state r (steel its.drawing its.dropping)
    (steel_windings b r its.drawing its.dropping its.first its.second) ∙ rw (draws, drops) refl)

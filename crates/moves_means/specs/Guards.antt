-- The guards for drawing and dropping a relay, in the words of documents 000 and 002, over a board in a state. Document
-- 000 has regular relays only; document 002 has both sorts. 002's current is a conducting path through components; here
-- it is 000's current (`judge_means/specs/Circuits.antt`): through the first winding for 002's regular and drawing
-- current, through the second for its dropping current. That a steel relay is two windings is the rule book's; 002's
-- "no current can propagate from input to input through the relay" is not a rule of our boards. Neither paper's guards
-- go by an allowance. Neither has shunts: that a shunted winding has no current of its own is request A4's, "here our
-- rule decides".
--     CurrentThrough b s r k    "∃ cn : Connection • cn ∈ actual_connections(r) ∧ currentCarrying(cn, n)", of winding k
--                               of relay r, its first winding, regular or drawing, or its second, the dropping one;
--                               and that winding is not shunted
--     CanDrawRegular b s r      000: can_draw, "~ drawn(r) ∧ (∃ cn : Connection • …)"; 002: canDrawRegularRelay,
--                               "T.neg(T.literal(id)), currentThroughRegularRelay(id, d)"
--     CanDropRegular b s r      000: can_drop, "drawn(r) ∧ ~ (∃ cn : Connection • …)"; 002: canDropRegularRelay,
--                               "T.literal(id), noCurrentThroughRegularRelay(id, d)"
--     CanDrawSteel b s r        002: canDrawSteelRelay, "T.neg(T.literal(id)), drawingCurrentThroughSteelRelay(id, d)"
--     CanDropSteel b s r        002: canDropSteelRelay, "T.literal(id), droppingCurrentThroughSteelRelay(id, d)"
--     CanDraw, CanDrop b s r    relay r can be drawn, dropped: "rid ∈ dom relays(n)", and the guard of its sort holds
--     Stable b s                000: is_stable, "∀ rid : RelayId • rid ∈ dom relays(n) ⇒ (~ can_draw(rid, n))
--                               ∧ (~ can_drop(rid, n))", with the guards of both sorts
--     BothCurrents b s r        what must not be of a steel relay: 002, "there should never be a dropping and a drawing
--                               current through a steel core relay at the same time"
use Rattle.std.specs.Prelude.{ℕ, ◌<◌, ◌≡◌, ◌⊎◌, true, false}
use Rattle.lists.specs.Members.{◌∈◌}
use Rattle.board.specs.declared.Part.{Part}
use Rattle.board.specs.declared.Board.{Board}
use Rattle.board.specs.Parts.{parts_of}
use Rattle.board.specs.Sorts.{IsRegular, IsSteel}
use Rattle.state.specs.declared.State.{State}
use Rattle.state.specs.States.{is_drawn}
use Rattle.judge.specs.declared.Which.{Which}
use Rattle.judge.specs.declared.Which.TheVariants.{First, Second}
use Rattle.judge.specs.RelayWindings.{is_winding, ends_of}
use Rattle.judge_means.specs.Circuits.{actual_connections, CurrentCarrying}
use Rattle.judge_means.specs.Shunts.{Shunted}

pub record CurrentThrough (b : Board) (s : State) (r : ℕ) (k : Which) : Type 0 where
  pub winding : Part
  pub on_board : winding ∈ parts_of b
  pub of_relay : is_winding k r winding.kind ≡ true
  pub from : ℕ
  pub to : ℕ
  pub actual : (from, to) ∈ actual_connections s winding
  pub carrying : CurrentCarrying b s from to
  pub unshunted : ¬ (Shunted b s (ends_of winding))

abbrev pub CanDrawRegular : Board → State → ℕ → Type 0
CanDrawRegular b s r = (is_drawn s r ≡ false) × CurrentThrough b s r First

abbrev pub CanDropRegular : Board → State → ℕ → Type 0
CanDropRegular b s r = (is_drawn s r ≡ true) × ¬ (CurrentThrough b s r First)

abbrev pub CanDrawSteel : Board → State → ℕ → Type 0
CanDrawSteel b s r = (is_drawn s r ≡ false) × CurrentThrough b s r First

abbrev pub CanDropSteel : Board → State → ℕ → Type 0
CanDropSteel b s r = (is_drawn s r ≡ true) × CurrentThrough b s r Second

abbrev pub CanDraw : Board → State → ℕ → Type 0
CanDraw b s r =
    (r < b.counts.relays)
    × ((IsRegular r (parts_of b) × CanDrawRegular b s r) ⊎ (IsSteel r (parts_of b) × CanDrawSteel b s r))

abbrev pub CanDrop : Board → State → ℕ → Type 0
CanDrop b s r =
    (r < b.counts.relays)
    × ((IsRegular r (parts_of b) × CanDropRegular b s r) ⊎ (IsSteel r (parts_of b) × CanDropSteel b s r))

abbrev pub Stable : Board → State → Type 0
Stable b s = (r : ℕ) → r < b.counts.relays → ¬ (CanDraw b s r) × ¬ (CanDrop b s r)

abbrev pub BothCurrents : Board → State → ℕ → Type 0
BothCurrents b s r =
    (r < b.counts.relays) × IsSteel r (parts_of b) × CurrentThrough b s r First × CurrentThrough b s r Second

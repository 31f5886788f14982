-- Rule book: "A move changes that relay and nothing else. A single move of a named relay answers drew, dropped, rests,
-- .. or conflict, and changes the state only for the first two." Over the call `moves::move_relay`, whatever it answers
-- under its promise, by what is drawn and what is pushed before it and after it.
--     ElseAsBefore s r t    in state t every relay but r, and every button, is as in state s
--     Changes s r o t       what a call that came to o on relay r leaves of state s: where it drew, r was dropped and
--                           is drawn; where it dropped, r was drawn and is dropped; and all else is as before. Where it
--                           came to another word, or was refused, the state is as given
--     ChangesOneRelay       so it is of every call
use Rattle.std.specs.Prelude.{ℕ, ◌≡◌, true, false}
use Rattle.refusals.specs.Outcomes.{Outcome, given, refused}
use Rattle.board.specs.declared.Board.{Board}
use Rattle.state.specs.declared.State.{State}
use Rattle.state.specs.States.{is_drawn, is_pushed}
use Rattle.kept.specs.declared.Kept.{Kept}
use Rattle.moves.specs.declared.Moved.{Moved}
use Rattle.moves.specs.Steps.{Move, drew, dropped, rests, conflict}
use Rattle.moves.specs.Moving.{told_move_answer, Moves}

pub record ElseAsBefore (s : State) (r : ℕ) (t : State) : Type 0 where
  pub relays : (q : ℕ) → ¬ (q ≡ r) → is_drawn t q ≡ is_drawn s q
  pub buttons : (n : ℕ) → is_pushed t n ≡ is_pushed s n

abbrev pub Changes : State → ℕ → Outcome Move → State → Type 0
Changes s r (given drew) t = (is_drawn s r ≡ false) × (is_drawn t r ≡ true) × ElseAsBefore s r t
Changes s r (given dropped) t = (is_drawn s r ≡ true) × (is_drawn t r ≡ false) × ElseAsBefore s r t
Changes s r (given rests) t = t ≡ s
Changes s r (given conflict) t = t ≡ s
Changes s r (refused n p) t = t ≡ s

abbrev pub ChangesOneRelay : Type 0
ChangesOneRelay =
    (b : Board) (h : Kept) (r : ℕ) (a : Moved)
    → Moves b h r a
    → Changes h.state r (told_move_answer a.answer) a.kept.state

-- Pushing and releasing a button. "A refused call returns the number, place 0 and the state it was given", and the kept
-- sets.
--     press_lines b h n t         the lines of setting button n of board b from h, where the test t says that it is not
--                                 so already: 15, 14, 18, 7, 12
--     push_lines, release_lines   those of a push and of a release
--     pushing, releasing b h n    the two calls: one that is not refused leaves the state with that button set, and the
--                                 sets of the board in that state
--     told_pressed                the answer's cases in the rule book's numbers
--     Pushes b h n r              promise: `push` of button n of board b from h answers r
--     Releases b h n r            promise: `release`, likewise
use Rattle.std.specs.Prelude.{ℕ, ◌≡◌, Bool, not, [], ◌∷◌, ◌++◌, ltb}
use Rattle.refusals.specs.Outcomes.{Outcome, told}
use Rattle.refusals.specs.Refusals.{no_such_name, already_so}
use Rattle.refusals.specs.Order.{Order, first_no}
use Rattle.board.specs.declared.Board.{Board}
use Rattle.state.specs.States.{is_pushed, with_pushed, with_released}
use Rattle.kept.specs.declared.Kept.{Kept}
use Rattle.kept.specs.Kept.{kept_at, usable_lines, left}
use Rattle.presses.specs.declared.Pressed.{Pressed}

abbrev pub press_lines : Board → Kept → ℕ → Bool → Order
press_lines b h n t = usable_lines b h ++ ((ltb n b.counts.buttons, no_such_name) ∷ (t, already_so) ∷ [])

abbrev pub push_lines : Board → Kept → ℕ → Order
push_lines b h n = press_lines b h n (not (is_pushed h.state n))

abbrev pub release_lines : Board → Kept → ℕ → Order
release_lines b h n = press_lines b h n (is_pushed h.state n)

unfoldable pub pushing : Board → Kept → ℕ → Kept × Outcome (Unit {0})
pushing b h n = left h (λ u. kept_at b (with_pushed h.state n)) (first_no (push_lines b h n))

unfoldable pub releasing : Board → Kept → ℕ → Kept × Outcome (Unit {0})
releasing b h n = left h (λ u. kept_at b (with_released h.state n)) (first_no (release_lines b h n))

abbrev pub told_pressed : Pressed → Kept × Outcome (Unit {0})
told_pressed r = (r.kept, told r.answer)

abbrev pub Pushes : Board → Kept → ℕ → Pressed → Type 0
Pushes b h n r = told_pressed r ≡ pushing b h n

abbrev pub Releases : Board → Kept → ℕ → Pressed → Type 0
Releases b h n r = told_pressed r ≡ releasing b h n

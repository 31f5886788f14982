-- What the answer to a call of `next_lines` says of the session. For a program that asks for buffer after buffer, and
-- for the theorem on all the buffers.
use Prim.Native.Nat.{ℕ, ◌<◌, ◌≤◌}
use native.Mathlib.Omega.{arith}
use mathlib.Core.Path.{◌≡◌, refl, sym, ap, ap₂, subst, ◌∙◌}
use mathlib.Core.List.{List, [], ◌∷◌}
use mathlib.Core.Logic.{inl, inr, ◌⊎◌}
use lib.Dec.{leb}
use lib.ListN.{length, take, drop}
use lib.Seq.{take_at, drop_at}
use borrow.Author.Tests.{leb-true, leb-false}
use Rattle.std.specs.Prelude.{Result, Some, None}
use Rattle.bits.proofs.BoolLaws.{by_test}
use Rattle.refusals.specs.Outcomes.{given}
use Rattle.refusals.proofs.OutcomeLaws.{refused_never}
use Rattle.board.specs.declared.Board.{Board}
use Rattle.board_reader.specs.Editions.{current_edition}
use Rattle.lines.specs.Lines.{Line, longest_line}
use Rattle.session.specs.declared.Session as code-session
use Rattle.session.specs.declared.Handed as code-handed
use Rattle.session.specs.Carried.{Ahead, Coming, line, no_line, next_of, next_in, told_ahead, told_session}
use Rattle.session.specs.HandingOut.{HandOut, written, nothing, HandedAhead, Handed, carrying, told_hand_out}
use Rattle.session.specs.HandingOut.{told_handed}
use Rattle.session.specs.Filling.{fitting, filled_by, lines_handed, next_lines, NextLines}
use Rattle.session.proofs.ToCome.{Advances}
use Rattle.session.proofs.ComingLaws.{line_never, none-same}
use Rattle.refusals.proofs.Tabled.{tells_injective}
use Rattle.session.proofs.ToldLaws.{hand_out_tells}
use Rattle.session.proofs.FitLaws.{bytes_of, Full, fitting_next, fitting-within, fitting_full}
use Rattle.session.proofs.FillLaws.{line_is, line_not_nothing, lines_short, lines-room}

module _ (z : code-session.Session) (s out out' : List ℕ) (r : code-handed.Handed)
    (called : NextLines z s out r out') where
  -- the lines that fit, and what is ahead after them
  abbrev fits_in : Ahead × List Line
  fits_in = fitting (length out) z.board (told_ahead z.ahead) s (length out)

  -- what is handed on
  filled_hands : {x : HandedAhead} → lines_handed z.board (told_ahead z.ahead) s out ≡ x
      → told_handed r out' ≡ carrying (told_session z) x
  unfolding next_lines
  filled_hands is = called ∙ ap (carrying (told_session z)) is

  told_answer : (h : Handed) → told_handed r out' ≡ h → told_hand_out r.answer ≡ h.answer
  told_answer h is = ap (λ (x : Handed). x.answer) is

  -- a call that is not refused has room
  filled-room : (a : HandOut) → told_hand_out r.answer ≡ given a → longest_line ≤ length out
  filled-room a is =
      by_test (leb longest_line (length out)) (leb-true longest_line (length out))
      (λ short.
      let refusing =
      filled_hands (sym (lines_short _ (told_ahead z.ahead) s out (leb-false longest_line (length out) short))) in
      absurd (refused_never _ _ a (sym (told_answer _ refusing) ∙ is)))

  -- the answer is that of the lines x that fit
  room_by : longest_line ≤ length out → (x : Ahead × List Line)
      → fits_in ≡ x → told_handed r out' ≡ carrying (told_session z) (filled_by x out)
  room_by room x fits =
      filled_hands (
      sym (lines-room _ (told_ahead z.ahead) s out room)
      ∙ ap (λ (y : Ahead × List Line). filled_by y out) fits)

  filled_by_lem : (a : HandOut) → told_hand_out r.answer ≡ given a → (x : Ahead × List Line)
      → fits_in ≡ x → told_handed r out' ≡ carrying (told_session z) (filled_by x out)
  filled_by_lem a is = room_by (filled-room a is)

  -- where there is room, lines come or nothing does
  answers_by : longest_line ≤ length out → (x : Ahead × List Line)
      → fits_in ≡ x
      → (r.answer ≡ Result.Ok None) ⊎ ((n : ℕ) × (r.answer ≡ Result.Ok (Some n)))
  unfolding filled_by
  answers_by room (y, []) fits =
      inl (tells_injective told_hand_out hand_out_tells r.answer (Result.Ok None) (told_answer _ (room_by room _ fits)))
  answers_by room (y, l ∷ ls) fits =
      inr (
        _,
        tells_injective told_hand_out hand_out_tells r.answer (Result.Ok (Some _)) (told_answer _
            (room_by room _ fits)),
      )

  pub filled_answers : longest_line ≤ length out → (r.answer ≡ Result.Ok None) ⊎ ((n : ℕ) × (r.answer
      ≡ Result.Ok (Some n)))
  filled_answers room = answers_by room (fits_in) refl

  -- ---- lines are handed out

  pub record CameLines (n : ℕ) : Type 0 where
    pub lines_told : List Line
    pub lines_some : 0 < length lines_told
    pub lines_fit : fits_in ≡ (told_ahead r.session.ahead, lines_told)
    pub lines_bytes : n ≡ length (bytes_of lines_told)
    pub lines_text : take n out' ≡ bytes_of lines_told
    pub lines_stay : drop n out' ≡ drop n out

  came_lines_by : (n : ℕ) → r.answer ≡ Result.Ok (Some n) → (x : Ahead × List Line)
      → fits_in ≡ x → CameLines n
  unfolding filled_by
  came_lines_by n is (y, []) fits =
      let told = filled_by_lem (written n) (ap told_hand_out is) _ fits in
      absurd (line_not_nothing (ap told_hand_out (sym is) ∙ told_answer _ told))
  came_lines_by n is (y, l ∷ ls) fits =
      let told = filled_by_lem (written n) (ap told_hand_out is) _ fits in
      let long = line_is (ap told_hand_out (sym is) ∙ told_answer _ told) in
      record {
        lines_told = l ∷ ls;
        lines_some = omega arith;
        lines_fit =
            fits
            ∙ ap {B = Ahead × List Line} (λ (x : Ahead). (x, l ∷ ls))
            (ap (λ (h : Handed). h.session.ahead) (sym told));
        lines_bytes = long;
        lines_text =
            ap (λ (h : Handed). take n h.out) told
            ∙ take_at (bytes_of (l ∷ ls)) (drop (length (bytes_of (l ∷ ls))) out) n (sym long);
        lines_stay =
            ap (λ (h : Handed). drop n h.out) told
            ∙ drop_at (bytes_of (l ∷ ls)) (drop (length (bytes_of (l ∷ ls))) out) n (sym long)
            ∙ ap (λ (k : ℕ). drop k out) (sym long);
      }

  pub came_lines : (n : ℕ) → r.answer ≡ Result.Ok (Some n) → CameLines n
  came_lines n is = came_lines_by n is (fits_in) refl

  -- the board stays
  pub filled-board : r.session.board ≡ z.board
  unfolding next_lines
  filled-board = ap (λ (h : Handed). h.session.board) called

  -- they are as many as fit
  pub came_full : (n : ℕ) (is : r.answer ≡ Result.Ok (Some n))
      → Full r.session.board s (length out)
      (told_ahead r.session.ahead, (came_lines n is).lines_told)
  came_full n is =
      subst (λ (b : Board). Full b s (length out) (told_ahead r.session.ahead, (came_lines n is).lines_told))
      (sym filled-board)
      (rw (came_lines n is).lines_fit at
      (fitting_full z.board s (length out) (told_ahead z.ahead) (length out) (omega arith)))

  -- lines that were handed out fit the buffer, and leave less to come
  pub filled_advances : Advances z s (length out) r
  filled_advances n is =
      let c = came_lines n is in
      let within =
      rw c.lines_fit at
      (fitting-within z.board s (length out) (told_ahead z.ahead) (length out) (omega arith)) in
      (omega (arith, within.0, c.lines_bytes), omega (arith, within.1, c.lines_some))

  -- ---- nothing comes

  over_by : r.answer ≡ Result.Ok None → (x : Ahead × List Line)
      → fits_in ≡ x → (c : Ahead × Coming) → next_in z s ≡ c
      → c.1 ≡ no_line
  unfolding filled_by
  over_by is x fits (y, no_line) next = refl
  over_by is (y, []) fits (w, line l) next =
      let room = filled-room nothing (ap told_hand_out is) in
      let goes =
      fitting_next _ (told_ahead z.ahead) s (length out) (length out) room (omega arith) (w, line l) next in
      absurd (omega (arith, ap (λ (x : Ahead × List Line). length x.1) (sym fits ∙ goes)))
  over_by is (y, m ∷ ls) fits (w, line l) next =
      absurd (line_not_nothing (sym (told_answer _ (filled_by_lem nothing (ap told_hand_out is) _ fits))
      ∙ ap told_hand_out is))

  pub filled_over : r.answer ≡ Result.Ok None → (c : Ahead × Coming) → next_in z s ≡ c → c.1 ≡ no_line
  filled_over is = over_by is (fits_in) refl

  -- the buffer is as lent
  lent_by : r.answer ≡ Result.Ok None → (x : Ahead × List Line)
      → fits_in ≡ x → out' ≡ out
  unfolding filled_by
  lent_by is (y, []) fits = ap (λ (h : Handed). h.out) (filled_by_lem nothing (ap told_hand_out is) _ fits)
  lent_by is (y, m ∷ ls) fits =
      absurd (line_not_nothing (sym (told_answer _ (filled_by_lem nothing (ap told_hand_out is) _ fits))
      ∙ ap told_hand_out is))

  pub filled-lent : r.answer ≡ Result.Ok None → out' ≡ out
  filled-lent is = lent_by is (fits_in) refl

  -- where there is room and no lines come, none is left in the session to carry on
  stays_by : r.answer ≡ Result.Ok None → (x : Ahead × List Line)
      → fits_in ≡ x → (c : Ahead × Coming) → next_in z s ≡ c
      → told_ahead r.session.ahead ≡ told_ahead z.ahead
  unfolding filled_by
  stays_by is x fits (w, line l) next = absurd (line_never l (sym (filled_over is (w, line l) next)))
  stays_by is (y, m ∷ ls) fits (w, no_line) next =
      absurd (line_not_nothing (sym (told_answer _ (filled_by_lem nothing (ap told_hand_out is) _ fits))
      ∙ ap told_hand_out is))
  stays_by is (y, []) fits (w, no_line) next =
      let room = filled-room nothing (ap told_hand_out is) in
      let goes =
      fitting_next _ (told_ahead z.ahead) s (length out) (length out) room (omega arith) (w, no_line) next in
      ap (λ (h : Handed). h.session.ahead) (filled_by_lem nothing (ap told_hand_out is) _ fits)
      ∙ ap (λ (x : Ahead × List Line). x.0) (sym fits ∙ goes)
      ∙ none-same current_edition _ (told_ahead z.ahead) w s next

  none_left : r.answer ≡ Result.Ok None → (next_in r.session s).1 ≡ no_line
  none_left is =
      let stays = stays_by is fits_in refl (next_in z s) refl in
      ap₂ (λ (b : Board) (a : Ahead). (next_of current_edition b a s).1) filled-board stays
      ∙ filled_over is (next_in z s) refl

  pub filled-ends : longest_line ≤ length out → ((n : ℕ) → r.answer ≡ Result.Ok (Some n) → ⊥)
      → (next_in r.session s).1 ≡ no_line
  filled-ends room never = by (filled_answers room)
    where
      by : (r.answer ≡ Result.Ok None) ⊎ ((n : ℕ) × (r.answer ≡ Result.Ok (Some n))) → (next_in r.session s).1 ≡ no_line
      by (inl over) = none_left over
      by (inr (n, is)) = absurd (never n is)

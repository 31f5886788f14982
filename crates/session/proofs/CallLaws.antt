-- What a call of `next_line` hands out, by what comes next in the session; and what a line that was handed out says of
-- the session. For programs that ask for line after line, and for the theorem on all the lines.
use Prim.Native.Nat.{ℕ, ◌≤◌}
use native.Mathlib.Omega.{arith}
use mathlib.Core.Path.{◌≡◌, refl, sym, ap, ◌∙◌}
use mathlib.Core.List.{List}
use lib.Dec.{leb}
use lib.ListN.{length, take, drop}
use lib.Seq.{take-append_seam, drop-append_seam}
use borrow.Author.Tests.{leb-true, leb-false}
use Rattle.std.specs.Prelude.{Result, Option, Some, None}
use Rattle.bits.proofs.BoolLaws.{by_test}
use Rattle.refusals.specs.declared.Refusal.{Refusal}
use Rattle.refusals.specs.Outcomes.{given}
use Rattle.refusals.specs.Refusals.{buffer_too_short}
use Rattle.refusals.proofs.OutcomeLaws.{refused_never}
use Rattle.board_reader.specs.Editions.{current_edition}
use Rattle.lines.specs.Lines.{Line, line_text, longest_line}
use Rattle.lines.proofs.LineLaws.{line-length_most}
use Rattle.session.specs.declared.Session as code-session
use Rattle.session.specs.declared.Handed as code-handed
use Rattle.session.specs.Carried.{Ahead, Coming, line, no_line, next_in, told_ahead, told_session}
use Rattle.session.specs.HandingOut.{HandOut, written, HandedAhead, Handed, carrying, handed_by, line_handed}
use Rattle.session.specs.HandingOut.{next_line, told_hand_out, told_handed, NextLine}
use Rattle.session.proofs.ToCome.{Advances}
use Rattle.session.proofs.ComingLaws.{next_less}
use Rattle.session.proofs.NextLineLaws.{line_handed_short, line_handed-room}
use Rattle.refusals.proofs.Tabled.{tells_injective}
use Rattle.session.proofs.ToldLaws.{hand_out_tells}

pub over_never : (n : ℕ) → ◌≡◌ {A = Result (Option ℕ) Refusal} (Result.Ok None) (Result.Ok (Some n)) → ⊥
over_never n e = let z : ◌≡◌ {A = ℕ} 0 1 = cc in omega arith

line-bytes : {m n : ℕ} → ◌≡◌ {A = Result (Option ℕ) Refusal} (Result.Ok (Some m)) (Result.Ok (Some n)) → m ≡ n
line-bytes e = cc

module _ (z : code-session.Session) (s out out' : List ℕ) (r : code-handed.Handed)
    (called : NextLine z s out r out') where
  -- what is handed on
  call_hands : {x : HandedAhead} → line_handed z.board (told_ahead z.ahead) s out ≡ x
      → told_handed r out' ≡ carrying (told_session z) x
  unfolding next_line
  call_hands is = called ∙ ap (carrying (told_session z)) is

  -- a call that is not refused has room
  pub call-room : (a : HandOut) → told_hand_out r.answer ≡ given a → longest_line ≤ length out
  call-room a is =
      by_test (leb longest_line (length out)) (leb-true longest_line (length out))
      (λ short.
      let refusing =
      call_hands (sym (line_handed_short _ (told_ahead z.ahead) s out (leb-false longest_line (length out) short))) in
      absurd (refused_never buffer_too_short 0 a (sym (ap (λ (h : Handed). h.answer) refusing) ∙ is)))

  module _ (room : longest_line ≤ length out) (y : Ahead) where
    -- the answer is what comes next
    next_by : (c : Coming) → next_in z s ≡ (y, c)
        → told_handed r out' ≡ carrying (told_session z) (handed_by (y, c) out)
    next_by c is =
        call_hands (
        sym (line_handed-room _ (told_ahead z.ahead) s out room)
        ∙ ap (λ (x : Ahead × Coming). handed_by x out) is)

    pub call_over : next_in z s ≡ (y, no_line) → r.answer ≡ Result.Ok None
    unfolding handed_by
    call_over is =
        tells_injective told_hand_out hand_out_tells r.answer (Result.Ok None)
        (ap (λ (h : Handed). h.answer) (next_by no_line is))

    pub call-lent : next_in z s ≡ (y, no_line) → out' ≡ out
    unfolding handed_by
    call-lent is = ap (λ (h : Handed). h.out) (next_by no_line is)

    pub call_line : (l : Line) → next_in z s ≡ (y, line l)
        → (r.answer ≡ Result.Ok (Some (length (line_text l)))) × (take (length (line_text l)) out' ≡ line_text l)
    unfolding handed_by
    call_line l is =
        let told = next_by (line l) is in (
          tells_injective told_hand_out hand_out_tells r.answer (Result.Ok (Some (length (line_text l))))
              (ap (λ (h : Handed). h.answer) told),
          ap (λ (h : Handed). take (length (line_text l)) h.out) told ∙ take-append_seam (line_text l)
              (drop (length (line_text l)) out),
        )

    -- the buffer stays behind the line
    pub call_stays : (l : Line) → next_in z s ≡ (y, line l)
        → drop (length (line_text l)) out' ≡ drop (length (line_text l)) out
    unfolding handed_by
    call_stays l is =
        ap (λ (h : Handed). drop (length (line_text l)) h.out) (next_by (line l) is)
        ∙ drop-append_seam (line_text l) (drop (length (line_text l)) out)

  -- what a call that hands out a line says of the session
  pub record Came (n : ℕ) : Type 0 where
    pub its_line : Line
    pub next : next_in z s ≡ (told_ahead r.session.ahead, line its_line)
    pub text : take n out' ≡ line_text its_line
    pub fits : n ≤ length out

  came_by : (n : ℕ) → r.answer ≡ Result.Ok (Some n) → (x : Ahead × Coming) → next_in z s ≡ x → Came n
  unfolding handed_by
  came_by n said-line (y, no_line) is =
      let room = call-room (written n) (ap told_hand_out said-line) in
      absurd (over_never n (sym (call_over room y is) ∙ said-line))
  came_by n said-line (y, line l) is =
      let room = call-room (written n) (ap told_hand_out said-line) in
      let handed = call_line room y l is in
      let long = line-bytes (sym handed.0 ∙ said-line) in
      let after = ap (λ (h : Handed). h.session.ahead) (next_by room y (line l) is) in
      record {
        its_line = l;
        next = is ∙ ap {B = Ahead × Coming} (λ x. (x, line l)) (sym after);
        text = ap (λ (k : ℕ). take k out') (sym long) ∙ handed.1;
        fits = omega (arith, long, line-length_most l, room);
      }

  pub came : (n : ℕ) → r.answer ≡ Result.Ok (Some n) → Came n
  came n is = came_by n is (next_in z s) refl

  -- the board stays
  pub call-board : r.session.board ≡ z.board
  unfolding next_line
  call-board = ap (λ (h : Handed). h.session.board) called

  -- a line that was handed out fits the buffer, and leaves less to come
  pub call_advances : Advances z s (length out) r
  call_advances n is =
      let c = came n is in (
        c.fits,
        next_less current_edition _ (told_ahead z.ahead) (told_ahead r.session.ahead) s c.its_line c.next,
      )

-- The theorems: what has filled the buffers so far are the first of the session's lines, the next buffer takes the
-- next, and once nothing comes they are all.
use Prim.Native.Nat.{ℕ, ◌+◌, ◌<◌, ◌≤◌}
use native.Mathlib.Omega.{arith}
use mathlib.Core.Path.{◌≡◌, refl, sym, ap, ap₂, subst, ◌∙◌}
use mathlib.Core.List.{List, [], ◌∷◌, ◌++◌, append-nil, append_assoc}
use mathlib.Core.Logic.{inl, inr, ◌⊎◌}
use lib.ListN.{length}
use Rattle.board.specs.declared.Board.{Board}
use Rattle.board_reader.specs.Editions.{current_edition}
use Rattle.lines.specs.Lines.{Line, longest_line}
use Rattle.session.specs.declared.Session as code-session
use Rattle.session.specs.declared.Handed as code-handed
use Rattle.std.specs.Prelude.{Result, Option, Some, None}
use Rattle.refusals.specs.declared.Refusal.{Refusal}
use Rattle.session.specs.Sessions.{session_lines, session_text, line_texts, printed}
use Rattle.session.specs.Carried.{Ahead, Coming, line, no_line, next_of, told_ahead, Begins}
use Rattle.session.specs.Filling.{fitting, NextLines}
use Rattle.session.proofs.ComingLaws.{line_never}
use Rattle.session.proofs.FitLaws.{bytes_of, Full, bytes-append, fitting_holds}
use Rattle.session.proofs.FilledCalls.{came_lines, came_full, filled_answers, filled_over, filled-lent}
use Rattle.session.proofs.FilledCalls.{filled-board}
use Rattle.session_means.specs.HandedLines.{Hands, HandsOut, PutsText}
use Rattle.session_means.specs.FilledBuffers.{HandsSome, BuffersFilled, AllFilled}
use Rattle.session_means.proofs.StillLaws.{still, still_in, Numbered, NumberedIn, still_next, numbered_next}
use Rattle.session_means.proofs.BeginningLaws.{beginning_still, beginning_numbered}

-- of the lines that are left, none fits behind the lines ls in n bytes
abbrev Filled : ℕ → List Line → List Line → Type 0
Filled n ls left = (left ≡ []) ⊎ (n < length (bytes_of ls) + longest_line)

-- the lines ls are the first that are still to tell where a is ahead, and the rest where y is
abbrev FirstLines : Board → List ℕ → Ahead → List Line → Ahead → Type 0
FirstLines b s a ls y = (still current_edition b a s ≡ ls ++ still current_edition b y s) × Numbered y s

-- likewise of the code's sessions
abbrev FirstIn : List ℕ → code-session.Session → List Line → code-session.Session → Type 0
FirstIn s z ls y = (still_in z s ≡ ls ++ still_in y s) × NumberedIn y s

module _ (s : List ℕ) where
  first_line : (b : Board) (a y x : Ahead) (l : Line) (ls : List Line) → Numbered a s
      → next_of current_edition b a s ≡ (y, line l) → (Numbered y s → FirstLines b s y ls x)
      → FirstLines b s a (l ∷ ls) x
  first_line b a y x l ls numbered is rest =
      let so = rest (numbered_next current_edition b a s numbered y l is) in
      (still_next current_edition b a s numbered (y, line l) is ∙ ap {B = List Line} (λ ms. l ∷ ms) so.0, so.1)

  -- the lines that fit are the first
  fitting_first : (b : Board) (k : ℕ) (a : Ahead) (n : ℕ) → n ≤ k → Numbered a s
      → FirstLines b s a (fitting k b a s n).1 (fitting k b a s n).0
  fitting_first b =
      fitting_holds b s (λ a n x. Numbered a s → FirstLines b s a x.1 x.0) (λ a n why numbered. (refl, numbered))
      (λ a y l n x is room rest numbered. first_line b a y x.0 l x.1 numbered is rest)

  came_first : (z : code-session.Session) (out out' : List ℕ) (r : code-handed.Handed)
      (called : NextLines z s out r out') (n : ℕ) (is : r.answer ≡ Result.Ok (Some n)) → NumberedIn z s
      → FirstIn s z (came_lines z s out out' r called n is).lines_told r.session
  came_first z out out' r called n is numbered =
      let ls = (came_lines z s out out' r called n is).lines_told in
      let after : Ahead = told_ahead r.session.ahead in
      let first : FirstLines z.board s (told_ahead z.ahead) ls after =
      rw (came_lines z s out out' r called n is).lines_fit at
      (fitting_first z.board (length out) (told_ahead z.ahead) (length out) (omega arith) numbered) in (
        first.0 ∙ ap (λ (b : Board). ls ++ still current_edition b after s) (sym (filled-board z s out out' r called)),
        first.1,
      )

  -- from z to y these lines are told, and t are their bytes
  record LinesTold (z : code-session.Session) (t : List ℕ) (y : code-session.Session) : Type 0 where
    lines : List Line
    first : FirstIn s z lines y
    text : t ≡ bytes_of lines

  hands-told : (z y : code-session.Session) (t : List ℕ) → NumberedIn z s → Hands NextLines s z t y
      → LinesTold z t y
  hands-told z y t numbered h =
      let c = came_lines z s h.out h.out' h.answer h.called h.bytes h.wrote in
      record {
        lines = c.lines_told;
        first =
            subst (λ (x : code-session.Session). FirstIn s z c.lines_told x) h.after
            (came_first z h.out h.out' h.answer h.called h.bytes h.wrote numbered);
        text = sym h.text ∙ c.lines_text;
      }

  told_on : (ts : List (List ℕ)) (z z' : code-session.Session) → NumberedIn z s
      → HandsOut NextLines s z ts z' → LinesTold z (printed ts) z'
  unfolding line_texts printed
  told_on [] z z' numbered same =
      record {
        lines = [];
        first = (
          ap (λ (x : code-session.Session). still_in x s) same,
          subst (λ (x : code-session.Session). NumberedIn x s) same numbered,
        );
        text = refl;
      }
  told_on (t ∷ ts) z z' numbered (y, (h, after)) =
      let one = hands-told z y t numbered h in
      let rest = told_on ts y z' one.first.1 after in
      record {
        lines = one.lines ++ rest.lines;
        first = (
          one.first.0 ∙ ap (λ (ls : List Line). one.lines ++ ls) rest.first.0
              ∙ sym (append_assoc one.lines rest.lines (still_in z' s)),
          rest.first.1,
        );
        text = ap₂ (λ (x y : List ℕ). x ++ y) one.text rest.text ∙ sym (bytes-append one.lines rest.lines);
      }

  -- ---- the next buffer

  -- where nothing comes, nothing is left
  none_by : (b : Board) (a : Ahead) → Numbered a s → (c : Ahead × Coming) → c.1 ≡ no_line
      → next_of current_edition b a s ≡ c → still current_edition b a s ≡ []
  none_by b a numbered (y, no_line) is next = still_next current_edition b a s numbered _ next
  none_by b a numbered (y, line l) is next = absurd (line_never l (sym is))

  none_left : (b : Board) (a : Ahead) → Numbered a s → (next_of current_edition b a s).1 ≡ no_line
      → still current_edition b a s ≡ []
  none_left b a numbered is = none_by b a numbered (next_of current_edition b a s) is refl

  full_still : (b : Board) (n : ℕ) (a : Ahead) (ls : List Line) → Numbered a s → Full b s n (a, ls)
      → Filled n ls (still current_edition b a s)
  full_still b n a ls numbered (inl none) = inl (none_left b a numbered none)
  full_still b n a ls numbered (inr less) = inr less

  module _ (z : code-session.Session) (out out' : List ℕ) (r : code-handed.Handed) (called : NextLines z s out r out')
      (numbered : NumberedIn z s) where
    over_none : r.answer ≡ Result.Ok None → still_in z s ≡ []
    over_none is = none_left _ (told_ahead z.ahead) numbered (filled_over z s out out' r called is _ refl)

    puts : (n : ℕ) (is : r.answer ≡ Result.Ok (Some n))
        → PutsText (bytes_of (came_lines z s out out' r called n is).lines_told) out r out'
    puts n is =
        let c = came_lines z s out out' r called n is in
        record {
          answer = is ∙ ap {B = Result (Option ℕ) Refusal} (λ (k : ℕ). Result.Ok (Some k)) c.lines_bytes;
          begins = rw (← c.lines_bytes) c.lines_text;
          stays = rw (← c.lines_bytes) c.lines_stay;
        }

    some_by : (ls rest all : List Line) → 0 < length ls → all ≡ ls ++ rest → PutsText (bytes_of ls) out r out'
        → Filled (length out) ls rest → HandsSome all out r out'
    some_by [] rest all some split text full = absurd (omega arith)
    some_by (l ∷ ls) rest all some split text full =
        rw split (record { more = ls; left = rest; next = refl; text = text; full = full })

    next_by : (r.answer ≡ Result.Ok None) ⊎ ((n : ℕ) × (r.answer ≡ Result.Ok (Some n)))
        → HandsSome (still_in z s) out r out'
    next_by (inl over) = rw (over_none over) (over, filled-lent z s out out' r called over)
    next_by (inr (n, is)) =
        let c = came_lines z s out out' r called n is in
        let first = came_first z out out' r called n is numbered in
        some_by c.lines_told (still_in r.session s) (still_in z s) c.lines_some first.0 (puts n is)
        (full_still _ (length out) (told_ahead r.session.ahead) c.lines_told first.1
        (came_full z s out out' r called n is))

-- ---- from the beginning on

module _ (s : List ℕ) (z z' : code-session.Session) (ts : List (List ℕ)) (begun : Begins s z)
    (handed : HandsOut NextLines s z ts z') where
  from_begin : LinesTold s z (printed ts) z'
  from_begin =
      told_on s ts z z' (beginning_numbered s z begun) handed

  all_told : session_lines current_edition s ≡ from_begin.lines ++ still_in z' s
  all_told =
      sym (beginning_still s z begun) ∙ from_begin.first.0

pub buffers_filled : BuffersFilled
buffers_filled s z z' ts begun handed =
    let so = from_begin s z z' ts begun handed in
    record {
      told = so.lines;
      rest = still_in z' s;
      all = all_told s z z' ts begun handed;
      text = so.text;
      next =
          λ out out' r room called. next_by s z' out out' r called so.first.1
          (filled_answers z' s out out' r called room);
    }

pub all_filled : AllFilled
unfolding session_text
all_filled s z z' ts out out' r begun handed called over =
    let so = from_begin s z z' ts begun handed in
    let none = over_none s z' out out' r called so.first.1 over in
    so.text
    ∙ sym (ap (λ (ls : List Line). bytes_of ls)
    (all_told s z z' ts begun handed ∙ ap (λ (ls : List Line). so.lines ++ ls) none ∙ append-nil so.lines))

-- Laws of filling a buffer: the loop of `next_lines` has handed out the first of the lines that fit, and each call of
-- `hand_line` on what is left of the buffer hands out the next of them, or ends it.
use Prim.Native.Nat.{ℕ, zero, suc, ◌+◌, ◌-◌, ◌<◌, ◌≤◌}
use native.Mathlib.Omega.{arith}
use mathlib.Core.Path.{◌≡◌, refl, sym, ap, subst, ◌∙◌}
use mathlib.Core.Logic.{inl, inr, ◌⊎◌}
use mathlib.Core.List.{List, [], ◌∷◌, ◌++◌, append-nil, append_assoc}
use lib.Dec.{leb}
use lib.ListN.{length, take, drop, length-append, length-drop, take-append-drop}
use lib.Seq.{take_all, drop-length, drop-drop, take_at, drop_at}
use borrow.Author.Tests.{leb-true, leb-false}
use borrow.Rule.Slice.PartMut.{mid_of, put_mid}
use Rattle.bits.proofs.BoolLaws.{by_test}
use Rattle.refusals.specs.Outcomes.{Outcome, given, refused}
use Rattle.refusals.specs.Refusals.{buffer_too_short, number_of}
use Rattle.board.specs.declared.Board.{Board}
use Rattle.board_reader.specs.Editions.{current_edition}
use Rattle.lines.specs.Lines.{Line, line_text, longest_line}
use Rattle.lines.proofs.LineLaws.{line-length_some, line-length_most, line-room, line_short}
use Rattle.std.specs.Prelude.{Result, Option, Some, None}
use Rattle.refusals.specs.declared.Refusal.{Refusal}
use Rattle.session.specs.declared.fill.HandedLine.{HandedLine}
use Rattle.session.specs.Sessions.{line_texts, printed}
use Rattle.session.specs.Carried.{Ahead, Session, onward, Coming, line, no_line, next_of, told_ahead}
use Rattle.session.specs.HandingOut.{HandOut, written, nothing, HandedAhead, carrying, handed_by, line_handed}
use Rattle.session.specs.HandingOut.{told_line_handed}
use Rattle.session.specs.Filling.{fits_on, fitting, filled_by, lines_handed, summed}
use Rattle.session.proofs.NextLineLaws.{line_handed_short, line_handed-room}
use Rattle.session.proofs.FitLaws.{bytes_of, bytes-append, bytes_one, fitting_short, fitting_next}

-- what is handed on behind the bytes x
abbrev pub behind : List ℕ → HandedAhead → HandedAhead
behind x y = record { ahead = y.ahead; answer = y.answer; out = x ++ y.out }

told_behind : (a : Ahead) (r : Result (Option HandedLine) Refusal) (x o : List ℕ)
    → told_line_handed a r (x ++ o) ≡ behind x (told_line_handed a r o)
told_behind a (Result.Ok (Some l)) x o = refl
told_behind a (Result.Ok None) x o = refl
told_behind a (Result.Err e) x o = refl

-- ---- a part of the buffer that was lent, and is back

module _ (out : List ℕ) (at : ℕ) where
  part_rest : length (drop at out) ≡ length out - at
  part_rest = length-drop at out

  pub part-lent : mid_of at (length out - at) out ≡ drop at out
  part-lent = take_all (length out - at) (drop at out) (omega (arith, part_rest))

  pub part_back : (o : List ℕ) → put_mid at (length out - at) out o ≡ take at out ++ o
  part_back o =
      let none : drop (length out - at) (drop at out) ≡ [] =
      ap (λ (n : ℕ). drop n (drop at out)) (sym part_rest) ∙ drop-length (drop at out) in
      ap (λ (x : List ℕ). take at out ++ (o ++ x)) none ∙ ap (λ (x : List ℕ). take at out ++ x) (append-nil o)

  -- the answer r to a call on what is left behind `at` bytes, which left the bytes o there
  pub call_behind : (b : Board) (a : Ahead) (s o : List ℕ) (r : Result (Option HandedLine) Refusal)
      → told_line_handed a r o ≡ line_handed b a s (mid_of at (length out - at) out)
      → told_line_handed a r (put_mid at (length out - at) out o)
      ≡ behind (take at out) (line_handed b a s (drop at out))
  call_behind b a s o r called =
      ap (told_line_handed a r) (part_back o)
      ∙ told_behind a r (take at out) o
      ∙ ap (behind (take at out)) (called ∙ ap (line_handed b a s) part-lent)

-- ---- the answer

pub summed_some : (n : ℕ) (o : Outcome HandOut) → (n ≡ 0 → ⊥) → given (written n) ≡ summed n o
summed_some zero o some = absurd (some refl)
summed_some (suc n) o some = refl

-- ---- the lines handed out so far

-- `used` bytes of the buffer hold lines, and a is ahead after them; the rest of the buffer is as lent
pub record FilledTo (b : Board) (a₀ : Ahead) (s out₀ : List ℕ) (a : Ahead) (out : List ℕ) (used : ℕ) : Type 0 where
  pub lines : List Line
  pub rest : Ahead × List Line
  pub most : ℕ
  pub enough : length out₀ - used ≤ most
  pub left : fitting most b a s (length out₀ - used) ≡ rest
  pub all : fitting (length out₀) b a₀ s (length out₀) ≡ (rest.0, lines ++ rest.1)
  pub bytes : used ≡ length (bytes_of lines)
  pub text : out ≡ bytes_of lines ++ drop used out₀
  pub within : used ≤ length out₀

pub filled_none : (b : Board) (a : Ahead) (s out : List ℕ) → FilledTo b a s out a out 0
unfolding line_texts printed
filled_none b a s out =
    record {
      lines = [];
      rest = fitting (length out) b a s (length out);
      most = length out;
      enough = omega arith;
      left = ap (fitting (length out) b a s) (omega arith);
      all = refl;
      bytes = refl;
      text = refl;
      within = omega arith;
    }

-- what a call of `hand_line` on the buffer p does
data Ways (b : Board) (a : Ahead) (s p : List ℕ) : Type 0 where
  no_room : length p < longest_line
      → line_handed b a s p ≡ record { ahead = a; answer = refused buffer_too_short 0; out = p } → Ways b a s p
  no_more : (y : Ahead) → longest_line ≤ length p → next_of current_edition b a s ≡ (y, no_line)
      → line_handed b a s p ≡ record { ahead = y; answer = given nothing; out = p } → Ways b a s p
  one_line : (y : Ahead) (l : Line) → longest_line ≤ length p → next_of current_edition b a s ≡ (y, line l)
      → line_handed b a s p
      ≡ record {
        ahead = y;
        answer = given (written (length (line_text l)));
        out = line_text l ++ drop (length (line_text l)) p;
      }
      → Ways b a s p

module _ (b : Board) (a : Ahead) (s p : List ℕ) where
  handed_by_lem : longest_line ≤ length p → (x : Ahead × Coming) → next_of current_edition b a s ≡ x
      → line_handed b a s p ≡ handed_by x p
  handed_by_lem room x is = sym (line_handed-room b a s p room) ∙ ap (λ (y : Ahead × Coming). handed_by y p) is

  room_ways : longest_line ≤ length p → (x : Ahead × Coming) → next_of current_edition b a s ≡ x → Ways b a s p
  unfolding handed_by
  room_ways room (y, no_line) is = no_more y room is (handed_by_lem room _ is)
  room_ways room (y, line l) is = one_line y l room is (handed_by_lem room _ is)

  ways : Ways b a s p
  ways =
      by_test (leb longest_line (length p))
      (λ room. room_ways (leb-true longest_line (length p) room) (next_of current_edition b a s) refl)
      (λ short.
      let less = leb-false longest_line (length p) short in
      no_room less (sym (line_handed_short b a s p less)))

pub line_is : {m n : ℕ} → ◌≡◌ {A = Outcome HandOut} (given (written m)) (given (written n)) → m ≡ n
line_is e = cc

line_not_refused : {m n p : ℕ} → ◌≡◌ {A = Outcome HandOut} (given (written m)) (refused n p) → ⊥
line_not_refused e = let z : ◌≡◌ {A = ℕ} 0 1 = cc in omega arith

pub line_not_nothing : {m : ℕ} → ◌≡◌ {A = Outcome HandOut} (given (written m)) (given nothing) → ⊥
line_not_nothing e = let z : ◌≡◌ {A = ℕ} 0 1 = cc in omega arith

-- ---- the whole call

-- why no line comes where n bytes are left: there is none, or no room
abbrev Why : ℕ → Outcome HandOut → Type 0
Why n o = ((longest_line ≤ n) × (o ≡ given nothing)) ⊎ ((n < longest_line) × (o ≡ refused buffer_too_short 0))

module _ (b : Board) (a₀ : Ahead) (s out₀ : List ℕ) where
  pub lines-room : longest_line ≤ length out₀
      → filled_by (fitting (length out₀) b a₀ s (length out₀)) out₀ ≡ lines_handed b a₀ s out₀
  unfolding lines_handed
  lines-room room = rw (line-room out₀ room)

  pub lines_short : length out₀ < longest_line
      → record { ahead = a₀; answer = refused buffer_too_short 0; out = out₀ } ≡ lines_handed b a₀ s out₀
  unfolding lines_handed
  lines_short short = rw (line_short out₀ short)

  module _ (y : Ahead) (o : Outcome HandOut) where
    -- where a line fits, the buffer has room
    some-room : (l : Line) (ls : List Line) → fitting (length out₀) b a₀ s (length out₀) ≡ (y, l ∷ ls)
        → longest_line ≤ length out₀
    some-room l ls fits =
        by_test (leb longest_line (length out₀)) (leb-true longest_line (length out₀))
        (λ short.
        let none = fitting_short b a₀ s (length out₀) (length out₀) (leb-false longest_line (length out₀) short) in
        absurd (omega (arith, ap (λ (x : Ahead × List Line). length x.1) (sym none ∙ fits))))

    -- the lines ls are those that fit, and o says why no more came
    lines_end : (ls : List Line) → fitting (length out₀) b a₀ s (length out₀) ≡ (y, ls)
        → Why (length out₀ - length (bytes_of ls)) o
        → record {
          ahead = y;
          answer = summed (length (bytes_of ls)) o;
          out = bytes_of ls ++ drop (length (bytes_of ls)) out₀;
        } ≡ lines_handed b a₀ s out₀
    unfolding line_texts printed filled_by
    lines_end [] fits (inl (room, is)) =
        rw is (ap (λ (x : Ahead × List Line). filled_by x out₀) (sym fits) ∙ lines-room (omega (arith, room)))
    lines_end [] fits (inr (short, is)) =
        let less : length out₀ < longest_line = omega (arith, short) in
        let same : y ≡ a₀ =
        ap (λ (x : Ahead × List Line). x.0) (sym fits ∙ fitting_short b a₀ s (length out₀) (length out₀) less) in
        rw (is, same) (lines_short less)
    lines_end (l ∷ ls) fits why =
        let some : length (line_text l ++ bytes_of ls) ≡ 0 → ⊥ =
        λ none. omega (arith, length-append (line_text l) (bytes_of ls), line-length_some l, none) in
        rw (← summed_some (length (line_text l ++ bytes_of ls)) o some)
        (ap (λ (x : Ahead × List Line). filled_by x out₀) (sym fits) ∙ lines-room (some-room l ls fits))

module _ (b : Board) (a₀ : Ahead) (s out₀ : List ℕ) (a : Ahead) (out : List ℕ) (used : ℕ)
    (f : FilledTo b a₀ s out₀ a out used) where
  -- the first bytes are the lines, and those behind them as lent
  lines_first : take used out ≡ bytes_of f.lines
  lines_first =
      ap (take used) f.text ∙ take_at (bytes_of f.lines) (drop used out₀) used (sym f.bytes)

  rest-lent : drop used out ≡ drop used out₀
  rest-lent = ap (drop used) f.text ∙ drop_at (bytes_of f.lines) (drop used out₀) used (sym f.bytes)

  room-left : length (drop used out) ≡ length out₀ - used
  room-left = ap length rest-lent ∙ length-drop used out₀

  -- the lines that fit in what is left, where x comes next
  left_next : longest_line ≤ length (drop used out) → (x : Ahead × Coming) → next_of current_edition b a s ≡ x
      → f.rest ≡ fits_on x (λ y l. fitting (f.most - 1) b y s (length out₀ - used - length (line_text l)))
  left_next room x is =
      sym f.left
      ∙ fitting_next b a s (length out₀ - used) f.most (omega (arith, room, room-left)) f.enough x is

  -- ---- a line is added

  module _ (y : Ahead) (l : Line) (room : longest_line ≤ length (drop used out))
      (is : next_of current_edition b a s ≡ (y, line l)) where
    bytes_on : bytes_of (f.lines ++ (l ∷ [])) ≡ bytes_of f.lines ++ line_text l
    bytes_on = bytes-append f.lines (l ∷ []) ∙ ap (λ (x : List ℕ). bytes_of f.lines ++ x) (bytes_one l)

    text_on : take used out ++ (line_text l ++ drop (length (line_text l)) (drop used out))
        ≡ bytes_of (f.lines ++ (l ∷ [])) ++ drop (used + length (line_text l)) out₀
    text_on =
        rw (lines_first, rest-lent, drop-drop (length (line_text l)) used out₀, bytes_on)
        (sym (append_assoc (bytes_of f.lines) (line_text l) (drop (used + length (line_text l)) out₀)))

    filled_line : FilledTo b a₀ s out₀ y (take used out ++ (line_text l ++ drop (length (line_text l)) (drop used out)))
        (used + length (line_text l))
    filled_line =
        let less : length out₀ - used - length (line_text l) ≡ length out₀ - (used + length (line_text l)) =
        omega arith in
        let x = fitting (f.most - 1) b y s (length out₀ - used - length (line_text l)) in
        record {
          lines = f.lines ++ (l ∷ []);
          rest = x;
          most = f.most - 1;
          enough = omega (arith, f.enough, line-length_some l);
          left = ap (fitting (f.most - 1) b y s) (sym less);
          all =
              f.all
              ∙ ap {B = Ahead × List Line} (λ (w : Ahead × List Line). (w.0, f.lines ++ w.1))
              (left_next room (y, line l) is)
              ∙ ap {B = Ahead × List Line} (λ (ls : List Line). (x.0, ls))
              (sym (append_assoc f.lines (l ∷ []) x.1));
          bytes =
              omega (arith, f.bytes, ap length bytes_on, length-append (bytes_of f.lines) (line_text l));
          text = text_on;
          within = omega (arith, room, room-left, line-length_most l);
        }

  -- ---- what a call of `hand_line` on the rest comes to

  module _ (x : HandedAhead) (called : x ≡ behind (take used out) (line_handed b a s (drop used out))) where
    came_to_lem : (y : HandedAhead) → line_handed b a s (drop used out) ≡ y → x ≡ behind (take used out) y
    came_to_lem y is = called ∙ ap (behind (take used out)) is

    pub record Goes (n : ℕ) : Type 0 where
      pub grows : 0 < n
      pub filled_on : FilledTo b a₀ s out₀ x.ahead x.out (used + n)

    goes_by : (n : ℕ) → x.answer ≡ given (written n) → Ways b a s (drop used out) → Goes n
    goes_by n is (no_room short e) =
        absurd (line_not_refused (sym is ∙ ap (λ (y : HandedAhead). y.answer) (came_to_lem _ e)))
    goes_by n is (no_more y room none e) =
        absurd (line_not_nothing (sym is ∙ ap (λ (y : HandedAhead). y.answer) (came_to_lem _ e)))
    goes_by n is (one_line y l room next e) =
        let told = came_to_lem _ e in
        let long : n ≡ length (line_text l) = line_is (sym is ∙ ap (λ (y : HandedAhead). y.answer) told) in
        record {
          grows = omega (arith, long, line-length_some l);
          filled_on =
              rw (ap (λ (y : HandedAhead). y.ahead) told, ap (λ (y : HandedAhead). y.out) told, long)
              (filled_line y l room next);
        }

    pub line_goes : (n : ℕ) → x.answer ≡ given (written n) → Goes n
    line_goes n is = goes_by n is (ways b a s (drop used out))

    -- ---- the end: no line, or no room for one

    -- no further line fits, and the buffer is as it was before the call
    record Ends : Type 0 where
      none : f.rest ≡ (x.ahead, [])
      buffer : x.out ≡ out
      why : Why (length out₀ - used) x.answer

    ends_with : (y : Ahead) (o : Outcome HandOut) → f.rest ≡ (y, []) → Why (length out₀ - used) o
        → x ≡ behind (take used out) (record { ahead = y; answer = o; out = drop used out })
        → Ends
    ends_with y o none why told =
        record {
          none =
              none
              ∙ ap {B = Ahead × List Line} (λ (z : Ahead). (z, [])) (ap (λ (z : HandedAhead). z.ahead) (sym told));
          buffer = ap (λ (z : HandedAhead). z.out) told ∙ take-append-drop used out;
          why = subst (Why (length out₀ - used)) (ap (λ (z : HandedAhead). z.answer) (sym told)) why;
        }

    ends_by : ((n : ℕ) → x.answer ≡ given (written n) → ⊥) → Ways b a s (drop used out) → Ends
    ends_by never (no_room short e) =
        let less : length out₀ - used < longest_line = omega (arith, short, room-left) in
        ends_with a (refused buffer_too_short 0)
        (sym f.left ∙ fitting_short b a s (length out₀ - used) f.most less) (inr (less, refl)) (came_to_lem _ e)
    ends_by never (no_more y room none e) =
        ends_with y (given nothing) (left_next room (y, no_line) none) (inl (omega (arith, room, room-left), refl))
        (came_to_lem _ e)
    ends_by never (one_line y l room next e) =
        absurd (never (length (line_text l)) (ap (λ (z : HandedAhead). z.answer) (came_to_lem _ e)))

    pub line-ends : ((n : ℕ) → x.answer ≡ given (written n) → ⊥) → (o : Outcome HandOut)
        → o ≡ summed used x.answer → record { ahead = x.ahead; answer = o; out = x.out } ≡ lines_handed b a₀ s out₀
    line-ends never o told =
        let end = ends_by never (ways b a s (drop used out)) in
        let fits =
        f.all
        ∙ ap {B = Ahead × List Line} (λ (w : Ahead × List Line). (w.0, f.lines ++ w.1)) end.none
        ∙ ap {B = Ahead × List Line} (λ (ls : List Line). (x.ahead, ls)) (append-nil f.lines) in
        rw (told, end.buffer, f.text, f.bytes)
        (lines_end b a₀ s out₀ x.ahead x.answer f.lines fits
        (subst (λ (n : ℕ). Why (length out₀ - n) x.answer) f.bytes end.why))

-- ---- one call of the loop, on what is left behind `used` bytes

module _ (z : Session) (a : Ahead) (s out₀ out : List ℕ) (used : ℕ) (f : FilledTo z.board z.ahead s out₀ a out used)
    (r : Result (Option HandedLine) Refusal) (o : List ℕ)
    (called : told_line_handed a r o ≡ line_handed z.board a s (mid_of used (length out - used) out)) where
  -- the buffer after the call
  abbrev pub after : List ℕ
  after = put_mid used (length out - used) out o

  told_by : (q : Result (Option HandedLine) Refusal) → r ≡ q
      → told_line_handed a q after ≡ behind (take used out) (line_handed z.board a s (drop used out))
  told_by q is =
      ap (λ (p : Result (Option HandedLine) Refusal). told_line_handed a p after) (sym is)
      ∙ call_behind out used z.board a s o r called

  pub step_goes : (l : HandedLine) → r ≡ Result.Ok (Some l)
      → (0 < l.length) × FilledTo z.board z.ahead s out₀ (told_ahead l.ahead) after (used + l.length)
  step_goes l is =
      let goes = line_goes z.board z.ahead s out₀ a out used f _ (told_by (Result.Ok (Some l)) is) l.length refl in
      (goes.grows, goes.filled_on)

  pub step_over : r ≡ Result.Ok None → (q : Outcome HandOut) → q ≡ summed used (given nothing)
      → record { session = onward z a; answer = q; out = after } ≡ carrying z (lines_handed z.board z.ahead s out₀)
  step_over is q told =
      ap (carrying z) (line-ends z.board z.ahead s out₀ a out used f _ (told_by (Result.Ok None) is)
      (λ n e. line_not_nothing (sym e)) q told)

  pub step_refused : (e : Refusal) → r ≡ Result.Err e → (q : Outcome HandOut)
      → q ≡ summed used (refused (number_of e.no) e.place)
      → record { session = onward z a; answer = q; out = after } ≡ carrying z (lines_handed z.board z.ahead s out₀)
  step_refused e is q told =
      ap (carrying z) (line-ends z.board z.ahead s out₀ a out used f _ (told_by (Result.Err e) is)
      (λ n w. line_not_refused (sym w)) q told)

-- The theorem of specs/AnyAllowance.antt: behind its W each session goes on with the same bytes, so each event's number
-- is read alike in both, and what is read past it too.
use Prim.Native.Nat.{ℕ, zero, suc, ◌+◌, ◌/◌, ◌≤◌}
use native.Mathlib.Omega.{arith}
use mathlib.Core.Path.{◌≡◌, refl, sym, ap, subst, ◌∙◌}
use mathlib.Core.Bool.{Bool, true, false, cond}
use mathlib.Core.List.{List, [], ◌∷◌, ◌++◌}
use lib.Dec.{ltb, leb}
use lib.ListN.{length, drop, length-append}
use lib.Seq.{drop-drop, drop-append_seam, take-append-le}
use borrow.Author.Tests.{le-leb, lt-leb, leb-true, leb-false}
use Rattle.lists.specs.Members.{All}
use Rattle.refusals.specs.declared.Found.{Found}
use Rattle.refusals.specs.Outcomes.{Outcome, given, refused, found, ◌>>=◌, ◌>>◌, unless}
use Rattle.refusals.specs.Refusals.{input_ends, bad_form, no_such_name}
use Rattle.number.specs.Numbers.{Width, current_width, number_at, number_bytes}
use Rattle.number.proofs.NumberLaws.{number-alike, number_written_read, number_bytes-length}
use Rattle.board.specs.declared.Board.{Board}
use Rattle.kept.specs.declared.Kept.{Kept}
use Rattle.std.specs.Prelude.{Result}
use Rattle.board_reader.specs.Editions.{Edition, current_edition}
use Rattle.board_reader.specs.Reading.{wanted, longest_input, reading}
use Rattle.board_reader.proofs.TabledLaws.{reading_tabled}
use Rattle.board_reader.proofs.ToldLaws.{board_read_tells}
use Rattle.file_means.proofs.BytesAfter.{bytes_after}
use Rattle.lines.specs.Lines.{Line}
use Rattle.events.specs.declared.Event.{Event}
use Rattle.events.specs.Events.{Shown, event_of, event_at}
use Rattle.session.specs.Sessions.{past_allowance, head_at, event_lines, lines_from, head_lines, session_lines}
use Rattle.session.specs.Sessions.{line_texts}
use Rattle.session.specs.Sessions.{printed, session_text}
use Rattle.session_means.specs.SessionsKept.{Unclosed}
use Rattle.session_means.specs.AnyAllowance.{session_of, SameLines, none, both, closed, AnyAllowance}
use Rattle.session_means.proofs.FromLaws.{from_enough}

module _ (s t : List ℕ) where
  -- the places i of s and j of t, from which both go on with the same bytes
  abbrev Alike : ℕ → ℕ → Type 0
  Alike i j = (drop i s ≡ drop j t) × (i + length t ≡ j + length s)

  -- what is read at such places: the same, up to such places, or refused by the same number
  data ReadAlike {A : Type 0} : Outcome (Found A) → Outcome (Found A) → Type 0 where
    both_found : (a : A) (i j : ℕ) → Alike i j → ReadAlike (found a i) (found a j)
    both_refused : (n p q : ℕ) → p + length t ≡ q + length s → ReadAlike (refused n p) (refused n q)

  alike_then : {A B : Type 0} {o o' : Outcome (Found A)} (f f' : Found A → Outcome (Found B)) → ReadAlike o o'
      → ((a : A) (i j : ℕ) → Alike i j
      → ReadAlike (f (record { value = a; next = i })) (f' (record { value = a; next = j })))
      → ReadAlike (o >>= f) (o' >>= f')
  alike_then f f' (both_found a i j alike) on = on a i j alike
  alike_then f f' (both_refused n p q far) on = both_refused n p q far

  module _ (i j : ℕ) (alike : Alike i j) where
    alike_on : (n : ℕ) → Alike (i + n) (j + n)
    alike_on n = (sym (drop-drop n i s) ∙ ap (drop n) alike.0 ∙ drop-drop n j t, omega (arith, alike.1))

    places-alike : (w : Width) → ReadAlike (number_at w s i) (number_at w t j)
    places-alike w =
        number-alike w s t i j ReadAlike (λ v n. both_found v (i + n) (j + n) (alike_on n))
        (both_refused input_ends (length s) (length t) (omega arith)) (both_refused bad_form i j alike.1) alike.0

    event-alike : (ed : Edition) (n : ℕ) → ReadAlike (event_at ed n s i) (event_at ed n t j)
    unfolding event_at wanted
    event-alike ed n =
        alike_then _ _ (alike_then _ _ (places-alike ed.width) (λ v. named (ltb (v / 2) n) v))
        (λ v. both_found (event_of v))
      where
        named : (known : Bool) (v k l : ℕ) → Alike k l
            → ReadAlike (unless known no_such_name i >> found v k) (unless known no_such_name j >> found v l)
        named true v k l on = both_found v k l on
        named false v k l on = both_refused no_such_name i j alike.1

    end-alike : leb (length s) i ≡ leb (length t) j
    end-alike = by (leb (length s) i) refl
      where
        by : (past : Bool) → leb (length s) i ≡ past → past ≡ leb (length t) j
        by true past = sym (le-leb (length t) j (omega (arith, alike.1, leb-true (length s) i past)))
        by false there = sym (lt-leb (length t) j (omega (arith, alike.1, leb-false (length s) i there)))

  -- ---- the lines

  unless_done : (done : Bool) {ls ms : List Line} → SameLines s t ls ms
      → SameLines s t (cond done [] ls) (cond done [] ms)
  unless_done true same = none
  unless_done false same = same

  event_lines-alike : {o o' : Outcome (Found Event)} (tell : Event → Shown) (go go' : Kept → ℕ → List Line)
      → ReadAlike o o' → ((u : Kept) (i j : ℕ) → Alike i j → SameLines s t (go u i) (go' u j))
      → SameLines s t (event_lines o tell go) (event_lines o' tell go')
  event_lines-alike tell go go' (both_found v i j alike) on = both (tell v).0 (on (tell v).1 i j alike)
  event_lines-alike tell go go' (both_refused n p q far) on = closed n p q far

  lines-alike : (ed : Edition) (b : Board) (k : ℕ) (u : Kept) (e i j : ℕ) → Alike i j
      → SameLines s t (lines_from ed k b s u e i) (lines_from ed k b t u e j)
  unfolding lines_from
  lines-alike ed b zero u e i j alike = none
  lines-alike ed b (suc k) u e i j alike =
      rw (sym (end-alike i j alike))
      (unless_done (leb (length s) i)
      (event_lines-alike _ _ _ (event-alike i j alike ed b.counts.buttons)
      (λ u. lines-alike ed b k u (suc e))))

  -- the sessions whose boards are b, and whose events begin at such places
  head_lines-alike : (ed : Edition) (b : Board) (i j : ℕ) → Alike i j
      → SameLines s t (head_lines ed (found b i) s) (head_lines ed (found b j) t)
  unfolding head_lines
  head_lines-alike ed b i j alike =
      both _ (subst (SameLines s t _)
      (from_enough ed b t (length s) (length t) _ 1 j (omega (arith, alike.1)) (omega arith))
      (lines-alike ed b (length s) _ 1 i j alike))

-- ---- the head of such a session

module _ (f es : List ℕ) (b : Board) (w : ℕ) (file : reading current_edition f ≡ (b, given (length f)))
    (most : w ≤ current_width.largest) (short : length (session_of f w es) ≤ longest_input) where
  -- its board is that of the file
  board-before : reading current_edition (session_of f w es) ≡ (b, given (length f))
  board-before =
      let s = session_of f w es in
      let read = board_read_tells.onto (reading current_edition s) (reading_tabled current_edition s) in
      let same =
      (bytes_after f s (record { board = b; answer = Result.Ok (length f) })
      (board_read_tells.untold (reading current_edition s)) (length f) (sym file) refl).1 short
      (take-append-le (length f) f (number_bytes w ++ es) (omega arith)) read in
      sym read ∙ λ i. (same.0 i, same.1 i)

  head_past : head_at current_edition (session_of f w es) ≡ found b (length f + length (number_bytes w))
  unfolding head_at past_allowance
  head_past =
      rw (
        board-before,
        number_written_read (session_of f w es) (length f) w es most (drop-append_seam f (number_bytes w ++ es)),
      ) refl

-- behind W are the events
events-behind : (f es : List ℕ) (w : ℕ) → drop (length f + length (number_bytes w)) (session_of f w es) ≡ es
events-behind f es w =
    sym (drop-drop (length (number_bytes w)) (length f) (session_of f w es))
    ∙ ap (drop (length (number_bytes w))) (drop-append_seam f (number_bytes w ++ es))
    ∙ drop-append_seam (number_bytes w) es

pub any_allowance : AnyAllowance
unfolding session_lines
any_allowance f es b w x file most also short within =
    let s = session_of f w es in
    let t = session_of f x es in
    rw (head_past f es b w file most short, head_past f es b x file also within)
    (head_lines-alike s t current_edition b _ _
    (events-behind f es w ∙ sym (events-behind f es x), far))
  where
    far : length f + length (number_bytes w) + length (session_of f x es)
        ≡ length f + length (number_bytes x) + length (session_of f w es)
    far = simp length-append (omega arith)

-- ---- what a session prints that nothing ends

unclosed-same : {s t : List ℕ} {ls ms : List Line} → SameLines s t ls ms → All Unclosed ms → ls ≡ ms
unclosed-same none unclosed = refl
unclosed-same (both l same) unclosed = ap (λ (x : List Line). l ∷ x) (unclosed-same same unclosed.1)
unclosed-same (closed n p q far) unclosed = absurd unclosed.0

-- it is what the session prints with W 0
pub any_text : (f es : List ℕ) (b : Board) (w : ℕ) → reading current_edition f ≡ (b, given (length f))
    → w ≤ current_width.largest → length f + length es + current_width.longest ≤ longest_input
    → All Unclosed (session_lines current_edition (session_of f 0 es))
    → session_text current_edition (session_of f w es) ≡ session_text current_edition (session_of f 0 es)
unfolding session_text
any_text f es b w file most room unclosed =
    ap (λ (ls : List Line). printed (line_texts ls))
    (unclosed-same (any_allowance f es b w 0 file most (omega arith) (short w) (short 0)) unclosed)
  where
    short : (v : ℕ) → length (session_of f v es) ≤ longest_input
    short v = simp length-append (omega (arith, room, (number_bytes-length v).1))

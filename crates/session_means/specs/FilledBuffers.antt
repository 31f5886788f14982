-- What fills the lent buffers, one after the other, is all that the session prints, for every input.
--     SomeLines l ls out r out'    r hands out the line l, and after it the first of the lines ls, as many as fit: no
--                                  line is left, or what is handed out leaves less room than the longest line
--     HandsSome ls out r out'      r hands out at least the first of the lines ls; where there is none, it says so, and
--                                  the buffer stays as lent
--     FilledSoFar s z t            the bytes t are the first of the session's lines, one after the other, cut at a
--                                  line's end; and whatever buffer with room is lent next, what comes are the next of
--                                  them
--     BuffersFilled                whatever buffers were filled from the beginning on, it is so of all their bytes
--     AllFilled                    and once a call says that there is none, these are all that the session prints
use Rattle.std.specs.Prelude.{ℕ, ◌+◌, ◌<◌, ◌≤◌, ◌≡◌, List, [], ◌∷◌, ◌++◌, ◌⊎◌, length, Result, None}
use Rattle.board_reader.specs.Editions.{current_edition}
use Rattle.lines.specs.Lines.{Line, longest_line}
use Rattle.session.specs.declared.Session.{Session}
use Rattle.session.specs.declared.Handed.{Handed}
use Rattle.session.specs.Sessions.{session_lines, line_texts, printed, session_text}
use Rattle.session.specs.Carried.{Begins}
use Rattle.session.specs.Filling.{NextLines}
use Rattle.session_means.specs.HandedLines.{HandsOut, PutsText}

pub record SomeLines (l : Line) (ls : List Line) (out : List ℕ) (r : Handed) (out' : List ℕ) : Type 0 where
  pub more : List Line
  pub left : List Line
  pub next : ls ≡ more ++ left
  pub text : PutsText (printed (line_texts (l ∷ more))) out r out'
  pub full : (left ≡ []) ⊎ (length out < length (printed (line_texts (l ∷ more))) + longest_line)

abbrev pub HandsSome : List Line → List ℕ → Handed → List ℕ → Type 0
HandsSome [] out r out' = (r.answer ≡ Result.Ok None) × (out' ≡ out)
HandsSome (l ∷ ls) out r out' = SomeLines l ls out r out'

pub record FilledSoFar (s : List ℕ) (z : Session) (t : List ℕ) : Type 0 where
  pub told : List Line
  pub rest : List Line
  pub all : session_lines current_edition s ≡ told ++ rest
  pub text : t ≡ printed (line_texts told)
  pub next : (out out' : List ℕ) (r : Handed) → longest_line ≤ length out → NextLines z s out r out'
      → HandsSome rest out r out'

abbrev pub BuffersFilled : Type 0
BuffersFilled =
    (s : List ℕ) (z z' : Session) (ts : List (List ℕ))
    → Begins s z
    → HandsOut NextLines s z ts z'
    → FilledSoFar s z' (printed ts)

abbrev pub AllFilled : Type 0
AllFilled =
    (s : List ℕ) (z z' : Session) (ts : List (List ℕ)) (out out' : List ℕ) (r : Handed)
    → Begins s z
    → HandsOut NextLines s z ts z'
    → NextLines z' s out r out'
    → r.answer ≡ Result.Ok None
    → printed ts ≡ session_text current_edition s

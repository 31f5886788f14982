-- The lines that are handed out one after the other are the session's lines, for every input.
--     Call                     what a call on a session, an input and a lent buffer promises of its answer and of the
--                              buffer afterwards
--     Hands C s z t y          a call that promises C hands out the text t on z, and leaves the session y to carry on
--     HandsOut C s z ts z'     such calls from z on hand out the texts ts, one after the other, and leave the session
--                              z'
--     PutsText t out r out'    r says how many bytes the text t has; they begin the buffer, and the rest of it stays:
--                              "Written bytes begin the buffer; the rest stays."
--     Tells ts out r out'      r hands out the first of the texts ts; where there is none, it says so, and the buffer
--                              stays as lent
--     SoFar s z ts             the texts ts are the first of the session's lines, and whatever buffer with room is lent
--                              next, what comes is the next of them
--     LinesHandedOut           whatever calls have handed out from the beginning on, it is so
--     AllHandedOut             and once a call says that there is none, they are all of the session's lines
use Rattle.std.specs.Prelude.{ℕ, ◌≤◌, ◌≡◌, List, [], ◌∷◌, ◌++◌, length, take, drop, Result, Some, None}
use Rattle.board_reader.specs.Editions.{current_edition}
use Rattle.lines.specs.Lines.{longest_line}
use Rattle.session.specs.declared.Session.{Session}
use Rattle.session.specs.declared.Handed.{Handed}
use Rattle.session.specs.Sessions.{session_lines, line_texts}
use Rattle.session.specs.Carried.{Begins}
use Rattle.session.specs.HandingOut.{NextLine}

abbrev pub Call : Type 1
Call = Session → List ℕ → List ℕ → Handed → List ℕ → Type 0

pub record Hands (C : Call) (s : List ℕ) (z : Session) (t : List ℕ) (y : Session) : Type 0 where
  pub out : List ℕ
  pub out' : List ℕ
  pub answer : Handed
  pub bytes : ℕ
  pub called : C z s out answer out'
  pub wrote : answer.answer ≡ Result.Ok (Some bytes)
  pub text : take bytes out' ≡ t
  pub after : answer.session ≡ y

abbrev pub HandsOut : Call → List ℕ → Session → List (List ℕ) → Session → Type 0
HandsOut C s z [] z' = z ≡ z'
HandsOut C s z (t ∷ ts) z' = (y : Session) × (Hands C s z t y × HandsOut C s y ts z')

pub record PutsText (t out : List ℕ) (r : Handed) (out' : List ℕ) : Type 0 where
  pub answer : r.answer ≡ Result.Ok (Some (length t))
  pub begins : take (length t) out' ≡ t
  pub stays : drop (length t) out' ≡ drop (length t) out

abbrev pub Tells : List (List ℕ) → List ℕ → Handed → List ℕ → Type 0
Tells [] out r out' = (r.answer ≡ Result.Ok None) × (out' ≡ out)
Tells (t ∷ ts) out r out' = PutsText t out r out'

pub record SoFar (s : List ℕ) (z : Session) (ts : List (List ℕ)) : Type 0 where
  pub rest : List (List ℕ)
  pub all : line_texts (session_lines current_edition s) ≡ ts ++ rest
  pub next : (out out' : List ℕ) (r : Handed) → longest_line ≤ length out → NextLine z s out r out'
      → Tells rest out r out'

abbrev pub LinesHandedOut : Type 0
LinesHandedOut =
    (s : List ℕ) (z z' : Session) (ts : List (List ℕ)) → Begins s z → HandsOut NextLine s z ts z' → SoFar s z' ts

abbrev pub AllHandedOut : Type 0
AllHandedOut =
    (s : List ℕ) (z z' : Session) (ts : List (List ℕ)) (out out' : List ℕ) (r : Handed)
    → Begins s z
    → HandsOut NextLine s z ts z'
    → NextLine z' s out r out'
    → r.answer ≡ Result.Ok None
    → ts ≡ line_texts (session_lines current_edition s)

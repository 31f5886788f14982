-- A call for the next line or lines is refused by the table alone: the front page's `OneAnswer` goes by it.
use Prim.Native.Nat.{ℕ}
use mathlib.Core.Path.{◌≡◌, refl, ap, ◌∙◌}
use mathlib.Core.List.{List, [], ◌∷◌}
use Rattle.refusals.specs.declared.No.TheVariants.{BufferTooShort}
use Rattle.refusals.specs.Outcomes.{Outcome, given, refused, ◌>>◌}
use Rattle.refusals.specs.Order.{first_no, answering}
use Rattle.refusals.proofs.OutcomeLaws.{refused_never}
use Rattle.refusals.proofs.Tabled.{Tabled, gives, refuses, tabled_given, TabledLines, tabled_lines}
use Rattle.board.specs.declared.Board.{Board}
use Rattle.lines.specs.Lines.{Line, line_lines}
use Rattle.session.specs.Carried.{Ahead, Session, Coming, line, no_line}
use Rattle.session.specs.HandingOut.{HandOut, nothing, HandedAhead, handed_by, line_handed, next_line}
use Rattle.session.specs.Filling.{filled_by, lines_handed, next_lines}

-- what is handed out where the longest line has room, and else the refusal
module _ (out : List ℕ) (refuse : ℕ → ℕ → HandedAhead) (go : Unit {0} → HandedAhead)
    (refuses_so : (n p : ℕ) → (refuse n p).answer ≡ refused n p) (goes : Tabled (go tt).answer) where
  handing_tabled : Tabled (answering (first_no (line_lines out)) refuse go).answer
  unfolding TabledLines
  handing_tabled = by (first_no (line_lines out)) lines
    where
      lines : Tabled (first_no (line_lines out))
      lines = tabled_lines (line_lines out) ((BufferTooShort, refl), tt)

      by : (o : Outcome (Unit {0})) → Tabled o → Tabled (answering o refuse go).answer
      by (given u) tabled = goes
      by (refused n p) (gives u is) = absurd (refused_never n p u is)
      by (refused n p) (refuses k q is) =
          refuses k q (refuses_so n p ∙ ap (λ (o : Outcome (Unit {0})). o >> given nothing) is)

handed_tabled : (x : Ahead × Coming) (out : List ℕ) → Tabled (handed_by x out).answer
unfolding handed_by
handed_tabled (a, line l) out = tabled_given _
handed_tabled (a, no_line) out = tabled_given _

filled_tabled : (x : Ahead × List Line) (out : List ℕ) → Tabled (filled_by x out).answer
unfolding filled_by
filled_tabled (a, []) out = tabled_given _
filled_tabled (a, l ∷ ls) out = tabled_given _

pub next_line_tabled : (z : Session) (s out : List ℕ) → Tabled (next_line z s out).answer
unfolding next_line line_handed
next_line_tabled z s out = handing_tabled out _ _ (λ n p. refl) (handed_tabled _ out)

pub next_lines_tabled : (z : Session) (s out : List ℕ) → Tabled (next_lines z s out).answer
unfolding next_lines lines_handed
next_lines_tabled z s out = handing_tabled out _ _ (λ n p. refl) (filled_tabled _ out)

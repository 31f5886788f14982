-- The laws of lines: how long they are, and what writing one answers and leaves. Later crates cite these, and nothing
-- of the definitions' text.
use mathlib.Core.Path.{◌≡◌, sym, ap, ◌∙◌}
use mathlib.Core.List.{List, ◌++◌}
use Rattle.std.specs.Prelude.{Result, Ok}
use Prim.Native.Nat.{ℕ, ◌≤◌, ◌<◌}
use native.Mathlib.Omega.{arith}
use borrow.Author.Tests.{le-leb, lt-leb}
use lib.ListN.{length, drop, length-append}
use Rattle.refusals.specs.declared.Refusal.{Refusal}
use Rattle.refusals.specs.Outcomes.{Outcome, given, refused, told}
use Rattle.refusals.specs.Refusals.{buffer_too_short}
use Rattle.refusals.specs.Order.{first_no}
use Rattle.refusals.proofs.OutcomeLaws.{given_injective}
use Rattle.runs.specs.Runs.{Ending, idle, spent, conflict, buzz}
use Rattle.lines.specs.Texts.{word_text}
use Rattle.lines.specs.declared.Line as code
use Rattle.lines.specs.Lines.{Line, event, closing, line_text, longest_line, line_lines, line_writing}
use Rattle.lines.specs.Lines.{told_line, WritesLine}
use Rattle.lines.proofs.DecimalLaws.{decimal_few}

-- ---- how long a line is

word_few : (w : Outcome Ending) → length (word_text w) ≤ 8
word_few (given idle) = omega arith
word_few (given spent) = omega arith
word_few (given conflict) = omega arith
word_few (given buzz) = omega arith
word_few (refused n p) = omega arith

pub line-length_most : (l : Line) → length (line_text l) ≤ longest_line
unfolding line_text
line-length_most (event e (given w) m d) =
    simp length-append (omega (arith, decimal_few e, word_few (given w), decimal_few m, decimal_few d))
line-length_most (event e (refused n p) m d) = simp length-append (omega (arith, decimal_few e, decimal_few n))
line-length_most (closing n p) = simp length-append (omega (arith, decimal_few n, decimal_few p))

pub line-length_some : (l : Line) → 0 < length (line_text l)
unfolding line_text
line-length_some (event e (given w) m d) = simp length-append (omega arith)
line-length_some (event e (refused n p) m d) = simp length-append (omega arith)
line-length_some (closing n p) = simp length-append (omega arith)

-- ---- room for a line

pub line-room : (out : List ℕ) → longest_line ≤ length out → first_no (line_lines out) ≡ given tt
unfolding first_no
line-room out room = rw (le-leb longest_line (length out) room)

pub line_short : (out : List ℕ) → length out < longest_line → first_no (line_lines out) ≡ refused buffer_too_short 0
unfolding first_no
line_short out short = rw (lt-leb longest_line (length out) short)

-- ---- writing a line

pub line_written : (l : Line) (out : List ℕ) → longest_line ≤ length out
    → ◌≡◌ {A = Outcome ℕ × List ℕ} (line_writing l out)
    (given (length (line_text l)), line_text l ++ drop (length (line_text l)) out)
unfolding line_writing
line_written l out room = rw (line-room out room)

-- a line that a call wrote lies within its buffer
pub line_inside : (l : code.Line) (out : List ℕ) (r : Result ℕ Refusal) (out' : List ℕ) → WritesLine l out r out'
    → longest_line ≤ length out → (n : ℕ) → r ≡ Ok n → n ≤ length out'
line_inside l out r out' wrote room n is =
    let text = line_text (told_line l) in
    let is_told = wrote ∙ line_written (told_line l) out room in
    let same = given_injective n (length text) (sym (ap told is) ∙ (λ i. (is_told i).0)) in
    omega (arith, same, ap length (λ i. (is_told i).1), length-append text (drop (length text) out))

pub line_refused : (l : Line) (out : List ℕ) → length out < longest_line
    → ◌≡◌ {A = Outcome ℕ × List ℕ} (line_writing l out) (refused buffer_too_short 0, out)
unfolding line_writing
line_refused l out short = rw (line_short out short)

-- the text copied to the start of a buffer with room for it is a line written
pub line_copied : (l : Line) (out : List ℕ) → longest_line ≤ length out
    → ◌≡◌ {A = Outcome ℕ × List ℕ}
    (given (length (line_text l)), line_text l ++ drop (length (line_text l)) out) (line_writing l out)
line_copied l out room = sym (line_written l out room)

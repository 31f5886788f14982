-- The lines of a session. Rule book, "The session program": "One line for the first run (event 0), then one for each
-- event: event number, word, moves, and the sum of 2 to the relay number over drawn relays. An event refused by 12
-- prints its number, `refused` and 12"; "A bad file (10 counts the whole session) or event (1, 2 or 7) prints
-- `refused`, number, place, and ends".
--     Line                         a line:
--       event e w m d              the line of event e: the word w of its run or what refused it, m moves, and the
--                                  drawn relays as the word d of bits, which is that sum
--       closing n p                the line that ends a session: refused by n at place p
--     line_text l                  the line l as text, with its line end
--     longest_line                 the room that a line's buffer must have
--     line_lines out               the lines of a call that writes a line, or lines, into the buffer `out`: 16
--     line_writing l out           what writing the line l into the buffer `out` answers, and the buffer afterwards:
--                                  "Written bytes begin the buffer; the rest stays"
--     told_came, told_line         a run's word or what refused it, and a line, in the rule book's words and numbers
--     WritesLine l out r out'      promise: `write_line` of the line l into the buffer `out` answers r, and leaves the
--                                  buffer out'
use Rattle.std.specs.Prelude.{ℕ, ◌≡◌, Result, Ok, Err, List, [], ◌∷◌, ◌++◌, leb, length, drop}
use Rattle.refusals.specs.declared.Refusal.{Refusal}
use Rattle.refusals.specs.Outcomes.{Outcome, given, refused, told}
use Rattle.refusals.specs.Refusals.{buffer_too_short}
use Rattle.refusals.specs.Order.{Order, first_no, answering}
use Rattle.runs.specs.declared.Ending as code-ending
use Rattle.runs.specs.Runs.{Ending}
use Rattle.runs.specs.Running.{told_word}
use Rattle.lines.specs.declared.Line as code
use Rattle.lines.specs.declared.Line.TheVariants.{Event, Closing}
use Rattle.lines.specs.declared.Refused.{Refused}
use Rattle.lines.specs.Texts.{decimal, spaced, ended, refused_text, word_text}

pub data Line : Type 0 where
  event : ℕ → Outcome Ending → ℕ → ℕ → Line
  closing : ℕ → ℕ → Line

unfoldable pub line_text : Line → List ℕ
line_text (event e (given w) m d) =
    spaced (decimal e) ++ spaced (word_text (given w)) ++ spaced (decimal m) ++ ended (decimal d)
line_text (event e (refused n p) m d) = spaced (decimal e) ++ spaced (word_text (refused n p)) ++ ended (decimal n)
line_text (closing n p) = spaced refused_text ++ spaced (decimal n) ++ ended (decimal p)

abbrev pub longest_line : ℕ
longest_line = 72

abbrev pub line_lines : List ℕ → Order
line_lines out = (leb longest_line (length out), buffer_too_short) ∷ []

unfoldable pub line_writing : Line → List ℕ → Outcome ℕ × List ℕ
line_writing l out =
    answering (first_no (line_lines out))
    (λ n p. (refused n p, out))
    (λ u. (given (length (line_text l)), line_text l ++ drop (length (line_text l)) out))

abbrev pub told_came : Result code-ending.Ending Refused → Outcome Ending
told_came (Ok e) = given (told_word e)
told_came (Err r) = refused r.number r.place

abbrev pub told_line : code.Line → Line
told_line (Event e w m d) = event e (told_came w) m d
told_line (Closing r) = closing r.number r.place

abbrev pub WritesLine : code.Line → List ℕ → Result ℕ Refusal → List ℕ → Type 0
WritesLine l out r out' = ◌≡◌ {A = Outcome ℕ × List ℕ} (told r, out') (line_writing (told_line l) out)

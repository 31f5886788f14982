-- Reading a board. Rule book: "Order: 10 first; then left to right, each number's form (1, 2) before its meaning, and
-- for a part 4, 5, 5, 6, 7, 8 as its fields come; then 9"; request A2: 17 "in 8's place". So for a mark, which has no
-- ends, 4, 7, 17. Each line of a `do` block that has a refusal leaves with it.
-- What reads takes first the edition e that it reads by.
--     wanted e ok n s at               the number at a place, which must pass the test ok, else n at that place
--     counts_at e s                    T, R, B and C at the start of the input
--     name_at e c k s at               the relay or button of a part of kind number k; a wire has none
--     no_ends                          what a mark that was read has for ends: a filler, which means nothing
--     ends_at e c k s at               the ends of a part of kind number k; a mark has none
--     part_at e c w s at               a part, after parts that gave the windings and marks w
--     parts_at e c n w s at            n parts one after the other, after parts that gave the windings and marks w
--     board_of c ps                    the board of counts c and parts ps, with the start that its marks give
--     board_from c o                   the board of counts c with the parts that were read, and after them 9
--     board_at e s                     the board at the start of the input, and the place just after it
--     longest_input                    the longest input that is read
--     answered o                       the answer, by what was read: "A refused read returns number, place and the
--                                      empty board (T 2, else 0)"
--     reading e s                      what reading answers
--     told_board_read r                what the code's answer r comes to
--     Reads s r                        promise: `read` of the bytes s answers r, by the current edition
--     AnswersTo P n at o r             promise: where the reading of a number comes to o, and P says what a test may
--                                      say of the value, r is that number, or n at its place where the test fails
use Rattle.std.specs.Prelude.{ℕ, zero, suc, ◌≡◌, Bool, cond, List, [], ◌∷◌, ltb, leb, eqb, length}
use Rattle.refusals.specs.declared.Found.{Found}
use Rattle.refusals.specs.Outcomes.{Outcome, given, refused, found, ◌>>=◌, ◌>>◌, unless, told}
use Rattle.refusals.specs.Refusals.{out_of_range, no_such_kind, no_such_terminal, ends_equal, no_such_name}
use Rattle.refusals.specs.Refusals.{winding_taken}
use Rattle.refusals.specs.Refusals.{winding_lacking, input_too_long, marked_twice}
use Rattle.number.specs.Numbers.{number_at}
use Rattle.windings.specs.declared.WoundSoFar.{WoundSoFar}
use Rattle.kinds.specs.Kinds.{wire_kind, mark_kind, kind_of}
use Rattle.windings.specs.Windings.{none_wound, winding_free, unmarked, gained}
use Rattle.board.specs.declared.Part.{Part}
use Rattle.board.specs.declared.Counts.{Counts}
use Rattle.board.specs.declared.Board.{Board}
use Rattle.board.specs.Parts.{padded, empty_board, most_parts}
use Rattle.board.specs.Rules.{least_terminals, most_terminals, most_relays, most_buttons, in_range, terminal_fine}
use Rattle.board.specs.Rules.{ends_fine}
use Rattle.board.specs.Rules.{limit_of, start_of, all_wound}
use Rattle.board_reader.specs.Editions.{Edition, current_edition}
use Rattle.board_reader.specs.declared.BoardRead.{BoardRead}

unfoldable pub wanted : Edition → (ℕ → Bool) → ℕ → List ℕ → ℕ → Outcome (Found ℕ)
wanted e ok n s at = do
  v ← number_at e.width s at
  unless (ok v.value) n at
  given v

unfoldable pub counts_at : Edition → List ℕ → Outcome (Found Counts)
counts_at e s = do
  t ← wanted e (in_range least_terminals most_terminals) out_of_range s 0
  r ← wanted e (in_range 0 most_relays) out_of_range s t.next
  b ← wanted e (in_range 0 most_buttons) out_of_range s r.next
  c ← wanted e (in_range 0 most_parts) out_of_range s b.next
  found (record { terminals = t.value; relays = r.value; buttons = b.value; parts = c.value }) c.next

unfoldable pub name_at : Edition → Counts → ℕ → List ℕ → ℕ → Outcome (Found ℕ)
name_at e c k s at = cond (eqb k wire_kind) (found 0 at) (wanted e (λ n. ltb n (limit_of c k)) no_such_name s at)

abbrev pub no_ends : ℕ × ℕ
no_ends = (0, 0)

unfoldable pub ends_at : Edition → Counts → ℕ → List ℕ → ℕ → Outcome (Found (ℕ × ℕ))
ends_at e c k s at = cond (eqb k mark_kind) (found no_ends at) (do
  a ← wanted e (terminal_fine c) no_such_terminal s at
  b ← wanted e (terminal_fine c) no_such_terminal s a.next
  unless (ends_fine a.value b.value) ends_equal a.next
  found (a.value, b.value) b.next)

unfoldable pub part_at : Edition → Counts → WoundSoFar → List ℕ → ℕ → Outcome (Found Part)
part_at e c w s at = do
  k ← wanted e (in_range 0 e.last_kind) no_such_kind s at
  ends ← ends_at e c k.value s k.next
  n ← name_at e c k.value s ends.next
  unless (winding_free w (kind_of k.value n.value)) winding_taken ends.next
  unless (unmarked w (kind_of k.value n.value)) marked_twice ends.next
  found (record { a = ends.value.0; b = ends.value.1; kind = kind_of k.value n.value }) n.next

unfoldable pub parts_at : Edition → Counts → ℕ → WoundSoFar → List ℕ → ℕ → Outcome (Found (List Part))
parts_at e c zero w s at = found [] at
parts_at e c (suc n) w s at = do
  p ← part_at e c w s at
  ps ← parts_at e c n (gained w p.value.kind) s p.next
  found (p.value ∷ ps.value) ps.next

abbrev pub board_of : Counts → List Part → Board
board_of c ps = record { counts = c; parts = padded ps; start = start_of ps }

unfoldable pub board_from : Counts → Outcome (Found (List Part)) → Outcome (Found Board)
board_from c o = do
  ps ← o
  unless (all_wound c ps.value) winding_lacking ps.next
  found (board_of c ps.value) ps.next

unfoldable pub board_at : Edition → List ℕ → Outcome (Found Board)
board_at e s = do
  c ← counts_at e s
  board_from c.value (parts_at e c.value c.value.parts none_wound s c.next)

abbrev pub longest_input : ℕ
longest_input = 65_536

unfoldable pub answered : Outcome (Found Board) → Board × Outcome ℕ
answered (given f) = (f.value, given f.next)
answered (refused n p) = (empty_board, refused n p)

unfoldable pub reading : Edition → List ℕ → Board × Outcome ℕ
reading e s = answered (do
  unless (leb (length s) longest_input) input_too_long 0
  board_at e s)

abbrev pub told_board_read : BoardRead → Board × Outcome ℕ
told_board_read r = (r.board, told r.answer)

abbrev pub Reads : List ℕ → BoardRead → Type 0
Reads s r = told_board_read r ≡ reading current_edition s

abbrev pub AnswersTo : (ℕ → Bool → Type 0) → ℕ → ℕ → Outcome (Found ℕ) → Outcome (Found ℕ) → Type 0
AnswersTo P n at (given v) r = (ok : Bool) × P v.value ok × (r ≡ (unless ok n at >> given v))
AnswersTo P n at (refused m p) r = r ≡ refused m p

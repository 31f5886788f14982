-- The numbers for no of a board file, line by line. Rule book: the table "Numbers for no", lines 1 to 10, and "A number
-- is given exactly when its line holds and none before it in the order does. [..] Order: 10 first; then left to right,
-- each number's form (1, 2) before its meaning, and for a part 4, 5, 5, 6, 7, 8 as its fields come; then 9." Request
-- A2: kind 7 has "one field, a relay number", and 17, "relay marked twice", stands "in 8's place". Nothing here goes by
-- how the reader is put together; a number's form is `number_at`'s to say, and `FormExactly`
-- (`crates/number/specs/FormExactly.antt`) says what that is, byte by byte. A stage of the file is reached by the
-- numbers that stand there one after the other and by how they compare, so that no line holds of those before it; and
-- windings and marks are counted over the parts so far, by `crates/board/specs/Sorts.antt`. The table is that of an
-- edition e, which says what stands as a number and which kind is the last; the call reads by the current one.
--     StandsAt e s p v next     the number v stands at place p, and `next` is the place just after it
--     Taken r ps k              by the parts ps relay r already has the winding of kind number k, or is of the other
--                               sort
--     TakenMark r ps k          a part of kind number k is a mark, and relay r is marked already by the parts ps
--     FileStage                 what comes next in the file, after what was read:
--       at_T                    T
--       at_R t                  R, after T is t
--       at_B t r                B, after R is r
--       at_C t r b              C, after B is b
--       at_part c ps            one more part or the board's end, after the counts c and the parts ps
--       at_first c ps k         the first end of a part of kind number k
--       at_second c ps k a      its second end, after the first end a
--       at_name c ps k a b      its relay or button, after the second end b; a wire has none. That of a mark, which has
--                               no ends, comes right after its kind, and a and b are 0
--     NumberWanted f            a number is wanted at stage f: for a part while the parts are fewer than C, for a name
--                               unless the part is a wire
--     Reached e s f p           stage f is reached at place p: every number before it is fine
--     NumberStands e s f p v    stage f is reached at place p, a number is wanted, and v stands there
--     LineHolds e s n p         line n of the table holds at place p, and none before it
--     FileRefused               over the call `board_reader::read`: it is refused by n at p exactly if line n holds
--                               there, and none before it
--     FileAccepted              over the same call: it is accepted up to place n, and the board has the counts c, the
--                               parts ps and the start that their marks give, exactly if these are the numbers that
--                               stand before n, the parts are C, and every relay is regular or steel-core
use Rattle.std.specs.Prelude.{ℕ, ◌+◌, ◌<◌, ◌≤◌, ◌≡◌, ◌⊎◌, ◌↔◌, List, [], ◌∷◌, ◌++◌, length}
use Rattle.refusals.specs.Outcomes.{refused, given, found, told}
use Rattle.refusals.specs.Refusals.{input_ends, bad_form, out_of_range, no_such_kind, no_such_terminal, ends_equal}
use Rattle.refusals.specs.Refusals.{no_such_name}
use Rattle.refusals.specs.Refusals.{winding_taken, winding_lacking, input_too_long, marked_twice}
use Rattle.number.specs.Numbers.{number_at}
use Rattle.kinds.specs.Kinds.{wire_kind, button_kind, regular_kind, drawing_kind, dropping_kind, mark_kind, kind_of}
use Rattle.kinds.specs.declared.Kind.TheVariants.{Wire, Button}
use Rattle.board.specs.declared.Counts.{Counts}
use Rattle.board.specs.declared.Part.{Part}
use Rattle.board.specs.Parts.{parts_of, most_parts}
use Rattle.board.specs.Rules.{least_terminals, most_terminals, most_relays, most_buttons, start_of}
use Rattle.board.specs.Sorts.{count_of, IsRegular, IsSteel, Wound, IsMarked}
use Rattle.board_reader.specs.declared.BoardRead.{BoardRead}
use Rattle.board_reader.specs.Editions.{Edition, current_edition}
use Rattle.board_reader.specs.Reading.{longest_input, Reads}

abbrev pub StandsAt : Edition → List ℕ → ℕ → ℕ → ℕ → Type 0
StandsAt e s p v next = number_at e.width s p ≡ found v next

pub data Taken (r : ℕ) (ps : List Part) : ℕ → Type 0 where
  has_it : {k : ℕ} → regular_kind ≤ k → k ≤ dropping_kind → 0 < count_of k r ps → Taken r ps k
  is_steel : 0 < count_of drawing_kind r ps + count_of dropping_kind r ps → Taken r ps regular_kind
  is_regular : {k : ℕ} → regular_kind < k → k ≤ dropping_kind → 0 < count_of regular_kind r ps → Taken r ps k

abbrev pub TakenMark : ℕ → List Part → ℕ → Type 0
TakenMark r ps k = (k ≡ mark_kind) × IsMarked r ps

pub data FileStage : Type 0 where
  at_T : FileStage
  at_R : ℕ → FileStage
  at_B : ℕ → ℕ → FileStage
  at_C : ℕ → ℕ → ℕ → FileStage
  at_part : Counts → List Part → FileStage
  at_first : Counts → List Part → ℕ → FileStage
  at_second : Counts → List Part → ℕ → ℕ → FileStage
  at_name : Counts → List Part → ℕ → ℕ → ℕ → FileStage

abbrev pub NumberWanted : FileStage → Type 0
NumberWanted at_T = Unit {0}
NumberWanted (at_R t) = Unit {0}
NumberWanted (at_B t r) = Unit {0}
NumberWanted (at_C t r b) = Unit {0}
NumberWanted (at_part c ps) = length ps < c.parts
NumberWanted (at_first c ps k) = Unit {0}
NumberWanted (at_second c ps k a) = Unit {0}
NumberWanted (at_name c ps k a b) = ¬ (k ≡ wire_kind)

pub data Reached (e : Edition) (s : List ℕ) : FileStage → ℕ → Type 0 where
  start : Reached e s at_T 0
  T_fine : {t p next : ℕ} → Reached e s at_T p → StandsAt e s p t next → least_terminals ≤ t → t ≤ most_terminals
      → Reached e s (at_R t) next
  R_fine : {t r p next : ℕ} → Reached e s (at_R t) p → StandsAt e s p r next → r ≤ most_relays
      → Reached e s (at_B t r) next
  B_fine : {t r b p next : ℕ} → Reached e s (at_B t r) p → StandsAt e s p b next → b ≤ most_buttons
      → Reached e s (at_C t r b) next
  C_fine : {t r b c p next : ℕ} → Reached e s (at_C t r b) p → StandsAt e s p c next → c ≤ most_parts
      → Reached e s (at_part (record { terminals = t; relays = r; buttons = b; parts = c }) []) next
  kind_fine : {c : Counts} {ps : List Part} {k p next : ℕ} → Reached e s (at_part c ps) p → length ps < c.parts
      → StandsAt e s p k next → k ≤ e.last_kind → ¬ (k ≡ mark_kind) → Reached e s (at_first c ps k) next
  mark_fine : {c : Counts} {ps : List Part} {p next : ℕ} → Reached e s (at_part c ps) p → length ps < c.parts
      → StandsAt e s p mark_kind next → mark_kind ≤ e.last_kind → Reached e s (at_name c ps mark_kind 0 0) next
  first_fine : {c : Counts} {ps : List Part} {k a p next : ℕ} → Reached e s (at_first c ps k) p → StandsAt e s p a next
      → a < c.terminals → Reached e s (at_second c ps k a) next
  second_fine : {c : Counts} {ps : List Part} {k a b p next : ℕ} → Reached e s (at_second c ps k a) p
      → StandsAt e s p b next → b < c.terminals → ¬ (a ≡ b) → Reached e s (at_name c ps k a b) next
  wire_fine : {c : Counts} {ps : List Part} {a b p : ℕ} → Reached e s (at_name c ps wire_kind a b) p
      → Reached e s (at_part c (ps ++ (record { a = a; b = b; kind = Wire } ∷ []))) p
  button_fine : {c : Counts} {ps : List Part} {a b v p next : ℕ} → Reached e s (at_name c ps button_kind a b) p
      → StandsAt e s p v next → v < c.buttons
      → Reached e s (at_part c (ps ++ (record { a = a; b = b; kind = Button v } ∷ []))) next
  relay_fine : {c : Counts} {ps : List Part} {k a b v p next : ℕ} → Reached e s (at_name c ps k a b) p
      → ¬ (k ≡ wire_kind) → ¬ (k ≡ button_kind) → StandsAt e s p v next → v < c.relays → ¬ Taken v ps k
      → ¬ TakenMark v ps k
      → Reached e s (at_part c (ps ++ (record { a = a; b = b; kind = kind_of k v } ∷ []))) next

abbrev pub NumberStands : Edition → List ℕ → FileStage → ℕ → ℕ → Type 0
NumberStands e s f p v = Reached e s f p × NumberWanted f × (next : ℕ) × StandsAt e s p v next

pub data LineHolds (e : Edition) (s : List ℕ) : ℕ → ℕ → Type 0 where
  line1 : {f : FileStage} {at : ℕ} → Reached e s f at → NumberWanted f
      → number_at e.width s at ≡ refused input_ends (length s)
      → LineHolds e s input_ends (length s)
  line2 : {f : FileStage} {p : ℕ} → Reached e s f p → NumberWanted f → number_at e.width s p ≡ refused bad_form p
      → LineHolds e s bad_form p
  line3_T : {v p : ℕ} → NumberStands e s at_T p v → (v < least_terminals) ⊎ (most_terminals < v)
      → LineHolds e s out_of_range p
  line3_R : {t v p : ℕ} → NumberStands e s (at_R t) p v → most_relays < v → LineHolds e s out_of_range p
  line3_B : {t r v p : ℕ} → NumberStands e s (at_B t r) p v → most_buttons < v → LineHolds e s out_of_range p
  line3_C : {t r b v p : ℕ} → NumberStands e s (at_C t r b) p v → most_parts < v → LineHolds e s out_of_range p
  line4 : {c : Counts} {ps : List Part} {v p : ℕ} → NumberStands e s (at_part c ps) p v → e.last_kind < v
      → LineHolds e s no_such_kind p
  line5_first : {c : Counts} {ps : List Part} {k v p : ℕ} → NumberStands e s (at_first c ps k) p v → c.terminals ≤ v
      → LineHolds e s no_such_terminal p
  line5_second : {c : Counts} {ps : List Part} {k a v p : ℕ} → NumberStands e s (at_second c ps k a) p v
      → c.terminals ≤ v → LineHolds e s no_such_terminal p
  line6 : {c : Counts} {ps : List Part} {k a p : ℕ} → NumberStands e s (at_second c ps k a) p a
      → LineHolds e s ends_equal p
  line7_button : {c : Counts} {ps : List Part} {a b v p : ℕ} → NumberStands e s (at_name c ps button_kind a b) p v
      → c.buttons ≤ v → LineHolds e s no_such_name p
  line7_relay : {c : Counts} {ps : List Part} {k a b v p : ℕ} → NumberStands e s (at_name c ps k a b) p v
      → ¬ (k ≡ button_kind) → c.relays ≤ v → LineHolds e s no_such_name p
  line8 : {c : Counts} {ps : List Part} {k a b v p : ℕ} → NumberStands e s (at_name c ps k a b) p v → v < c.relays
      → Taken v ps k → LineHolds e s winding_taken p
  line17 : {c : Counts} {ps : List Part} {k a b v p : ℕ} → NumberStands e s (at_name c ps k a b) p v → v < c.relays
      → TakenMark v ps k → LineHolds e s marked_twice p
  line9 : {c : Counts} {ps : List Part} {r p : ℕ} → Reached e s (at_part c ps) p → length ps ≡ c.parts → r < c.relays
      → ¬ IsRegular r ps → ¬ IsSteel r ps → LineHolds e s winding_lacking p

abbrev pub FileRefused : Type 0
FileRefused =
    (s : List ℕ) (r : BoardRead) (n p : ℕ)
    → Reads s r
    → told r.answer ≡ refused n p
    ↔ ((longest_input < length s) × (n ≡ input_too_long) × (p ≡ 0))
    ⊎ ((length s ≤ longest_input) × LineHolds current_edition s n p)

abbrev pub FileAccepted : Type 0
FileAccepted =
    (s : List ℕ) (r : BoardRead) (c : Counts) (ps : List Part) (n : ℕ)
    → Reads s r
    → ((told r.answer ≡ given n) × (r.board.counts ≡ c) × (parts_of r.board ≡ ps)
    × (r.board.start ≡ start_of ps))
    ↔ ((length s ≤ longest_input) × Reached current_edition s (at_part c ps) n × (length ps ≡ c.parts)
    × Wound c.relays ps)

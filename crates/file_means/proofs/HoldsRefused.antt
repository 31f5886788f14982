-- A line to its refusal: where a line of the table holds at a place and none before it, reading a board is refused by
-- it there. What a line says of the numbers before it is that their stage is reached, so that the reader comes to it.
use Prim.Native.Nat.{ℕ, suc, ◌-◌, ◌<◌}
use native.Mathlib.Omega.{arith}
use mathlib.Core.Path.{◌≡◌, refl, sym, ◌∙◌}
use mathlib.Core.Logic.{inl, inr, ⊎_elim}
use mathlib.Core.Bool.{Bool, true, false}
use mathlib.Core.List.{List}
use lib.Dec.{ltb}
use lib.ListN.{length}
use borrow.Author.Tests.{le-ltb}
use Rattle.bits.proofs.BoolLaws.{by_test}
use Rattle.refusals.specs.Outcomes.{refused, found}
use Rattle.refusals.specs.Refusals.{out_of_range, no_such_kind, no_such_terminal, ends_equal, no_such_name}
use Rattle.refusals.specs.Refusals.{winding_taken}
use Rattle.refusals.specs.Refusals.{winding_lacking, marked_twice}
use Rattle.number.specs.Numbers.{number_at}
use Rattle.kinds.specs.Kinds.{button_kind, mark_kind, kind_of}
use Rattle.windings.specs.declared.WoundSoFar.{WoundSoFar}
use Rattle.windings.specs.Windings.{winding_free, wound, complete}
use Rattle.windings.proofs.EveryLaws.{every_fails}
use Rattle.board.specs.declared.Counts.{Counts}
use Rattle.board.specs.declared.Part.{Part}
use Rattle.board.specs.Parts.{most_parts}
use Rattle.board.specs.Rules.{least_terminals, most_terminals, most_relays, most_buttons, in_range, terminal_fine}
use Rattle.board.specs.Rules.{limit_of}
use Rattle.board.specs.Sorts.{IsRegular, IsSteel}
use Rattle.board.proofs.TallyLaws.{tallied-wound}
use Rattle.board_reader.specs.Editions.{Edition}
use Rattle.board_reader.specs.Reading.{wanted, counts_at, name_at, ends_at, part_at, parts_at, board_at}
use Rattle.board_reader.proofs.EditionLaws.{Known}
use Rattle.board_reader.proofs.FieldLaws.{wanted_refused, wanted_fails, wanted_passes, wanted-found, range-below}
use Rattle.board_reader.proofs.FieldLaws.{range_above, name-carried}
use Rattle.board_reader.proofs.CountsLaws.{terminals_refused, relays_refused, buttons_refused, parts_refused}
use Rattle.board_reader.proofs.PartLaws.{kind_refused, a_refused, b_refused, ends_equal_lem, ends_refused}
use Rattle.board_reader.proofs.PartLaws.{name_refused, winding_taken_refused, marked_twice_refused}
use Rattle.file_means.specs.FileRefusals.{Taken, TakenMark, FileStage, Reached, NumberStands, at_T, at_R, at_B}
use Rattle.file_means.specs.FileRefusals.{at_C, at_part, at_first, at_second, at_name, NumberWanted, LineHolds}
use Rattle.file_means.specs.FileRefusals.{line1, line2, line3_T, line3_R, line3_B, line3_C, line4, line5_first}
use Rattle.file_means.specs.FileRefusals.{line5_second, line6, line7_button, line7_relay, line8, line9}
use Rattle.file_means.specs.FileRefusals.{line17}
use Rattle.file_means.proofs.TakenLaws.{taken_winding, taken_barred, marked_barred}
use Rattle.file_means.proofs.ReachedRead.{PartsSoFar, KindRead, EndsFound, StageRead, relay_limit}
use Rattle.file_means.proofs.ReachedRead.{name-found, reached_read, rest_refused, last-part}

-- the reader's test of the number that is wanted at a stage, and the number for no of it
abbrev test_of : Edition → FileStage → ℕ → Bool
test_of e at_T = in_range least_terminals most_terminals
test_of e (at_R t) = in_range 0 most_relays
test_of e (at_B t r) = in_range 0 most_buttons
test_of e (at_C t r b) = in_range 0 most_parts
test_of e (at_part c ps) = in_range 0 e.last_kind
test_of e (at_first c ps k) = terminal_fine c
test_of e (at_second c ps k a) = terminal_fine c
test_of e (at_name c ps k a b) = λ v. ltb v (limit_of c k)

abbrev line_of : FileStage → ℕ
line_of at_T = out_of_range
line_of (at_R t) = out_of_range
line_of (at_B t r) = out_of_range
line_of (at_C t r b) = out_of_range
line_of (at_part c ps) = no_such_kind
line_of (at_first c ps k) = no_such_terminal
line_of (at_second c ps k a) = no_such_terminal
line_of (at_name c ps k a b) = no_such_name

-- a mark takes no winding
mark_free : (w : WoundSoFar) (k v : ℕ) → k ≡ mark_kind → winding_free w (kind_of k v) ≡ true
unfolding kind_of
mark_free w k v mark = rw mark refl

module _ (e : Edition) (known : Known e) (s : List ℕ) where
  -- ---- a number that is refused, or that fails its test

  module _ (n p : ℕ) where
    board_counts : refused n p ≡ counts_at e s → board_at e s ≡ refused n p
    unfolding board_at
    board_counts stops = rw (← stops)

    board-part : (c : Counts) (ps : List Part) (w : WoundSoFar) (at : ℕ) → PartsSoFar e s c ps w at
        → length ps < c.parts → refused n p ≡ part_at e c w s at → board_at e s ≡ refused n p
    unfolding parts_at
    board-part c ps w at x more stops =
        rest_refused e known s c ps w at (suc (c.parts - length ps - 1)) n p x (omega (arith, more)) (rw (← stops))

    board-ends_refused : (c : Counts) (ps : List Part) (w : WoundSoFar) (k at : ℕ) → KindRead e s c ps w k at
        → refused n p ≡ ends_at e c k s at → board_at e s ≡ refused n p
    board-ends_refused c ps w k at x stops =
        board-part c ps w x.part_place x.before x.one_more
        (ends_refused e c w s x.part_place k at x.kind_read n p (sym stops))

    board_stage : (f : FileStage) (at : ℕ) → StageRead e s f at → NumberWanted f
        → wanted e (test_of e f) (line_of f) s at ≡ refused n p → board_at e s ≡ refused n p
    board_stage at_T at here asked stops = board_counts (terminals_refused e s n p (rw here at stops))
    board_stage (at_R t) at here asked stops = board_counts (relays_refused e s n p t at here stops)
    board_stage (at_B t r) at (r-at, t-read, r-read) asked stops =
        board_counts (buttons_refused e s n p t r-at t-read r at r-read stops)
    board_stage (at_C t r b) at (r-at, b_at, t-read, r-read, b-read) asked stops =
        board_counts (parts_refused e s n p t r-at t-read r b_at r-read b at b-read stops)
    board_stage (at_part c ps) at (w, x) asked stops = board-part c ps w at x asked (kind_refused e c w s at n p stops)
    board_stage (at_first c ps k) at (w, x, joins) asked stops =
        board-ends_refused c ps w k at x (a_refused e c k s at joins n p stops)
    board_stage (at_second c ps k a) at (w, x) asked stops =
        board-ends_refused c ps w k x.a_at x.before
        (b_refused e c k s x.a_at x.joins a at x.a_read n p stops)
    board_stage (at_name c ps k a b) at (w, x) asked stops =
        let z = x.before in
        board-part c ps w z.part_place z.before z.one_more
        (name_refused e c w s z.part_place k x.ends_place z.kind_read (a, b) at x.ends_come n p
        (sym (name-carried e c k s at asked) ∙ stops))

  board-form : (n p : ℕ) (f : FileStage) (at : ℕ) → Reached e s f at → NumberWanted f
      → number_at e.width s at ≡ refused n p
      → board_at e s ≡ refused n p
  board-form n p f at here asked stops =
      board_stage n p f at (reached_read e known s f at here) asked
      (wanted_refused e (test_of e f) (line_of f) s at n p stops)

  board_test : (f : FileStage) (at v : ℕ) → NumberStands e s f at v → test_of e f v ≡ false
      → board_at e s ≡ refused (line_of f) at
  board_test f at v (here, asked, next, stands) off =
      board_stage (line_of f) at f at (reached_read e known s f at here) asked
      (wanted_fails e (test_of e f) (line_of f) s at v next stands off)

  -- ---- 6, 8, 17 and 9, which are no test of one number alone

  board-ends : (c : Counts) (ps : List Part) (k a at : ℕ) → NumberStands e s (at_second c ps k a) at a
      → board_at e s ≡ refused ends_equal at
  board-ends c ps k a at (here, asked, next, stands) =
      let read = reached_read e known s (at_second c ps k a) at here in
      let x = read.1 in
      let fine = (wanted-found e (terminal_fine c) no_such_terminal s x.a_at a at x.a_read).0 in
      board-ends_refused ends_equal at c ps read.0 k x.a_at x.before
      (ends_equal_lem e c k s x.a_at x.joins a at x.a_read a next
      (wanted_passes e (terminal_fine c) no_such_terminal s at a next stands fine) refl)

  -- the relay of a winding or a mark is there, and is barred
  module _ (c : Counts) (ps : List Part) (k a b v at : ℕ) (stands : NumberStands e s (at_name c ps k a b) at v)
      (relay : ¬ (k ≡ button_kind)) (below : v < c.relays) where
    abbrev w : WoundSoFar
    w = (reached_read e known s (at_name c ps k a b) at stands.0).0

    abbrev ends : EndsFound e s c ps w k a b at
    ends = (reached_read e known s (at_name c ps k a b) at stands.0).1

    abbrev kind : KindRead e s c ps w k ends.ends_place
    kind = ends.before

    barred : (n : ℕ) → refused n at ≡ part_at e c w s kind.part_place → board_at e s ≡ refused n at
    barred n = board-part n at c ps w kind.part_place kind.before kind.one_more

    relay-found : name_at e c k s at ≡ found v stands.2
    relay-found =
        name-found e known s c k at c.relays v stands.2 stands.1 (relay_limit c k relay) stands.3 below

    board_winding : Taken v ps k → board_at e s ≡ refused winding_taken at
    board_winding taken =
        barred winding_taken
        (winding_taken_refused e c w s kind.part_place k ends.ends_place kind.kind_read (a, b) at ends.ends_come
        v stands.2 relay-found (taken_barred w ps v (kind.before.so_far v) k taken))

    board-mark : TakenMark v ps k → board_at e s ≡ refused marked_twice at
    board-mark twice =
        barred marked_twice
        (marked_twice_refused e c w s kind.part_place k ends.ends_place kind.kind_read (a, b) at ends.ends_come
        v stands.2 relay-found (mark_free w k v twice.0) (marked_barred w ps v (kind.before.so_far v) k twice))

  board_lacking : (c : Counts) (ps : List Part) (r at : ℕ) → Reached e s (at_part c ps) at → length ps ≡ c.parts
      → r < c.relays → ¬ IsRegular r ps → ¬ IsSteel r ps → board_at e s ≡ refused winding_lacking at
  unfolding complete
  board_lacking c ps r at here all below irregular no-steel =
      let read = reached_read e known s (at_part c ps) at here in
      let w = read.0 in
      let x = read.1 in
      let unwound : wound w r ≡ false =
      by_test (wound w r)
      (λ on. absurd (⊎_elim irregular no-steel (tallied-wound w ps r (x.so_far r) on))) (λ off. off) in
      last-part e known s c ps w at x all ∙ rw (every_fails (wound w) c.relays r below unwound)

-- ---- every line

pub holds-board : (e : Edition) → Known e → (s : List ℕ) (n p : ℕ) → LineHolds e s n p → board_at e s ≡ refused n p
holds-board e known s n p (line1 {f} {at} here asked ends) = board-form e known s n p f at here asked ends
holds-board e known s n p (line2 {f} here asked bad) = board-form e known s n p f p here asked bad
holds-board e known s n p (line3_T {v} x (inl under)) =
    board_test e known s at_T p v x (range-below least_terminals most_terminals v under)
holds-board e known s n p (line3_T {v} x (inr over)) =
    board_test e known s at_T p v x (range_above least_terminals most_terminals v (omega arith) over)
holds-board e known s n p (line3_R {t} {v} x over) =
    board_test e known s (at_R t) p v x (range_above 0 most_relays v (omega arith) over)
holds-board e known s n p (line3_B {t} {r} {v} x over) =
    board_test e known s (at_B t r) p v x (range_above 0 most_buttons v (omega arith) over)
holds-board e known s n p (line3_C {t} {r} {b} {v} x over) =
    board_test e known s (at_C t r b) p v x (range_above 0 most_parts v (omega arith) over)
holds-board e known s n p (line4 {c} {ps} {v} x over) =
    board_test e known s (at_part c ps) p v x (range_above 0 e.last_kind v (omega arith) over)
holds-board e known s n p (line5_first {c} {ps} {k} {v} x over) =
    board_test e known s (at_first c ps k) p v x (le-ltb v c.terminals over)
holds-board e known s n p (line5_second {c} {ps} {k} {a} {v} x over) =
    board_test e known s (at_second c ps k a) p v x (le-ltb v c.terminals over)
holds-board e known s n p (line6 {c} {ps} {k} {a} x) = board-ends e known s c ps k a p x
holds-board e known s n p (line7_button {c} {ps} {a} {b} {v} x over) =
    board_test e known s (at_name c ps button_kind a b) p v x (le-ltb v c.buttons over)
holds-board e known s n p (line7_relay {c} {ps} {k} {a} {b} {v} x relay over) =
    board_test e known s (at_name c ps k a b) p v x (rw (relay_limit c k relay) (le-ltb v c.relays over))
holds-board e known s n p (line8 {c} {ps} {k} {a} {b} {v} x below taken) =
    let relay : ¬ (k ≡ button_kind) = λ e. (let winding = taken_winding v ps k taken in omega (arith, e, winding)) in
    board_winding e known s c ps k a b v p x relay below taken
holds-board e known s n p (line17 {c} {ps} {k} {a} {b} {v} x below twice) =
    board-mark e known s c ps k a b v p x (λ e. omega (arith, e, twice.0)) below twice
holds-board e known s n p (line9 {c} {ps} {r} x all below irregular no-steel) =
    board_lacking e known s c ps r p x all below irregular no-steel

-- The theorems of specs/SecondEdition.antt: a part that today's reading gives was read before, or it is a mark and its
-- kind was refused by 4. So it is of parts one after the other, up to the first mark.
use Prim.Native.Nat.{ℕ, zero, suc, ◌+◌, ◌≤◌}
use native.Mathlib.Omega.{arith}
use mathlib.Core.Path.{◌≡◌, refl, sym, ap, subst, ◌∙◌}
use mathlib.Core.Logic.{⊎_map}
use mathlib.Core.Bool.{true, false, false≢true}
use mathlib.Core.List.{List, [], ◌∷◌, ◌++◌}
use lib.Dec.{leb, eqb}
use lib.ListN.{length, length-append}
use borrow.Author.Tests.{eqb-true, eqb-false}
use Rattle.bits.proofs.BoolLaws.{by_test}
use Rattle.refusals.specs.declared.Found.{Found}
use Rattle.refusals.specs.Outcomes.{Outcome, given, refused, found}
use Rattle.refusals.specs.Refusals.{no_such_kind, winding_taken, winding_lacking, marked_twice}
use Rattle.refusals.proofs.OutcomeLaws.{refused_never, passed}
use Rattle.number.specs.Numbers.{number_at}
use Rattle.kinds.specs.declared.Kind.{Kind}
use Rattle.kinds.specs.declared.Kind.TheVariants.{Wire, Upper, Lower, Button, Regular, Drawing, Dropping, Mark}
use Rattle.kinds.specs.Kinds.{kind_number, mark_kind, kind_of}
use Rattle.kinds.proofs.KindLaws.{kind_number_of}
use Rattle.windings.specs.declared.WoundSoFar.{WoundSoFar}
use Rattle.windings.specs.Windings.{none_wound, winding_free, unmarked, gained}
use Rattle.board.specs.declared.Part.{Part}
use Rattle.board.specs.declared.Counts.{Counts}
use Rattle.board.specs.declared.Board.{Board}
use Rattle.board.specs.Parts.{is_mark, parts_of, empty_board}
use Rattle.board.specs.Rules.{in_range, gained_all, start_of, all_wound}
use Rattle.board.proofs.PaddedLaws.{padded_parts}
use Rattle.board_reader.specs.Editions.{Edition, first_edition, current_edition}
use Rattle.board_reader.specs.Reading.{wanted, counts_at, name_at, ends_at, part_at, parts_at, board_of, board_from}
use Rattle.board_reader.specs.Reading.{board_at, longest_input, answered, reading}
use Rattle.board_reader.proofs.EditionLaws.{Known, first_known, current_known}
use Rattle.board_reader.proofs.FieldLaws.{wanted_fails, range_above, range-within, range_bounds}
use Rattle.board_reader.proofs.CountsLaws.{counts-found}
use Rattle.board_reader.proofs.PartLaws.{kind_refused}
use Rattle.board_reader.proofs.ReadLaws.{board_within, reading_answers, answered_given, answered_refused}
use Rattle.board_writer.specs.File.{row_bytes, counts_bytes, part_bytes, parts_bytes}
use Rattle.file_means.specs.SecondEdition.{has_mark, before_mark, FirstFilesKept, OnlyByFour}
use Rattle.file_means.specs.SecondEdition.{MarklessAsBefore, MarkTurnedAway}
use Rattle.file_means.specs.FileRefusals.{StandsAt, FileStage, Reached, start, T_fine, R_fine, B_fine, C_fine}
use Rattle.file_means.specs.FileRefusals.{kind_fine, mark_fine, first_fine, second_fine, wire_fine, button_fine}
use Rattle.file_means.specs.FileRefusals.{relay_fine, LineHolds, line4}
use Rattle.file_means.proofs.StandLaws.{AsWritten, bytes_as_written}
use Rattle.file_means.proofs.GivesLaws.{Gives, gives_then, gives_after, gives-unless, wanted_then}
use Rattle.file_means.proofs.PartTrip.{PartIsFine, part_read}
use Rattle.file_means.proofs.BoardTrip.{counts_stand, PartsRead, parts_read}
use Rattle.file_means.proofs.KeptLaws.{second_changed, only_by}
use Rattle.file_means.proofs.FileRefusals.{table_refused}

-- what is accepted is not refused
pub accepted_never : (m : ℕ) (x : Board × Outcome ℕ) (b : Board) (n : ℕ) → x ≡ (b, given n) → (p : ℕ)
    → ¬ (x.1 ≡ refused m p)
accepted_never m x b n read p is = refused_never m p n (sym is ∙ ap (λ (y : Board × Outcome ℕ). y.1) read)

-- ---- one part

-- the number of a part's kind stands where the part was read
record KindStands (e : Edition) (s : List ℕ) (at : ℕ) (p : Found Part) : Type 0 where
  kind : Found ℕ
  read : number_at e.width s at ≡ given kind
  is : kind_number p.value.kind ≡ kind.value
  most : kind.value ≤ e.last_kind

kind-stands : (e : Edition) → Known e → (c : Counts) (w : WoundSoFar) (s : List ℕ) (at : ℕ)
    → Gives (KindStands e s at) (part_at e c w s at)
unfolding part_at
kind-stands e known c w s at =
    let Q = KindStands e s at in
    wanted_then Q e (in_range 0 e.last_kind) no_such_kind s at _ (λ k k-read fine.
    gives_after Q (ends_at e c k.value s k.next) _ (λ ab _.
    gives_after Q (name_at e c k.value s ab.next) _ (λ n _.
    gives-unless Q (winding_free w (kind_of k.value n.value)) winding_taken ab.next _ (λ free.
    gives-unless Q (unmarked w (kind_of k.value n.value)) marked_twice ab.next _ (λ once.
    let most = (range_bounds 0 e.last_kind k.value fine).1 in
    record {
      kind = k;
      read = k-read;
      is = kind_number_of k.value n.value (omega (arith, most, known));
      most = most;
    })))))

module _ (c : Counts) (w : WoundSoFar) (s : List ℕ) (at : ℕ) (p : Found Part)
    (today : part_at current_edition c w s at ≡ given p) where
  stands_there : KindStands current_edition s at p
  stands_there =
      subst (λ (o : Outcome (Found Part)). Gives (KindStands current_edition s at) o) today
      (kind-stands current_edition current_known c w s at)

  mark_refused : is_mark p.value ≡ true → part_at first_edition c w s at ≡ refused no_such_kind at
  mark_refused mark =
      let x = stands_there in
      let seven : x.kind.value ≡ mark_kind = sym x.is ∙ eqb-true (kind_number p.value.kind) mark_kind mark in
      sym (kind_refused first_edition c w s at no_such_kind at
      (wanted_fails first_edition (in_range 0 first_edition.last_kind) no_such_kind s at x.kind.value x.kind.next
      x.read (range_above 0 first_edition.last_kind x.kind.value (omega arith) (omega (arith, seven)))))

  other-kept : is_mark p.value ≡ false → part_at first_edition c w s at ≡ given p
  unfolding part_at ends_at name_at wanted
  other-kept other =
      let x = stands_there in
      let few : x.kind.value ≤ first_edition.last_kind =
      (let apart = eqb-false (kind_number p.value.kind) mark_kind other in
      omega (arith, apart, x.is, x.most)) in
      let before : in_range 0 first_edition.last_kind x.kind.value ≡ true =
      range-within 0 first_edition.last_kind x.kind.value (omega arith) few in
      let now : in_range 0 current_edition.last_kind x.kind.value ≡ true =
      range-within 0 current_edition.last_kind x.kind.value (omega arith) x.most in
      rw (x.read, before) (rw (x.read, now) at today)

-- ---- parts one after the other

-- the place of the first mark among parts, where they begin at a place
abbrev mark_at : ℕ → List Part → ℕ
mark_at at ps = at + length (parts_bytes (before_mark ps))

mark_here : (at : ℕ) (p : Part) (ps : List Part) → is_mark p ≡ true → mark_at at (p ∷ ps) ≡ at
unfolding before_mark row_bytes
mark_here at p ps mark = rw mark (omega arith)

mark_later : (at next : ℕ) (p : Part) (ps : List Part) → is_mark p ≡ false → next ≡ at + length (part_bytes p)
    → mark_at at (p ∷ ps) ≡ mark_at next ps
unfolding before_mark row_bytes
mark_later at next p ps other ends =
    rw other (omega (arith, ends, length-append (part_bytes p) (parts_bytes (before_mark ps))))

-- what the first edition came to, o, where today's reading gives a, whose parts are ps, and whose first mark is at p
record FirstCameTo {A : Type 0} (written : Type 0) (o : Outcome A) (a : A) (ps : List Part) (p : ℕ) : Type 0 where
  without : has_mark ps ≡ false → o ≡ given a
  with_mark : has_mark ps ≡ true → (q : ℕ) × (o ≡ refused no_such_kind q) × (written → q ≡ p)

module _ (c : Counts) (s : List ℕ) where
  abbrev PartsBefore : ℕ → WoundSoFar → ℕ → Found (List Part) → Type 0
  PartsBefore n w at ps =
      FirstCameTo (AsWritten current_edition s) (parts_at first_edition c n w s at) ps ps.value (mark_at at ps.value)

  part-ends : (w : WoundSoFar) (at : ℕ) (p : Found Part) → part_at current_edition c w s at ≡ given p
      → AsWritten current_edition s → p.next ≡ at + length (part_bytes p.value)
  part-ends w at p today written =
      let fine : PartIsFine current_edition c w s at p =
      subst (λ (o : Outcome (Found Part)). Gives (PartIsFine current_edition c w s at) o) today
      (part_read current_edition current_known c w s at) in
      (fine.stands written).ends

  parts-before : (n : ℕ) (w : WoundSoFar) (at : ℕ) → Gives (PartsBefore n w at) (parts_at current_edition c n w s at)
  unfolding parts_at has_mark
  parts-before zero w at = record { without = λ none. refl; with_mark = λ on. absurd (false≢true on) }
  parts-before (suc n) w at =
      gives_after (PartsBefore (suc n) w at) (part_at current_edition c w s at) _ (λ p today.
      let w' = gained w p.value.kind in
      gives_then (PartsBefore n w' p.next) (PartsBefore (suc n) w at) (parts_at current_edition c n w' s p.next) _
      (parts-before n w' p.next) (λ ps rest.
      by_test (is_mark p.value)
      (λ mark. record {
        without = λ none. absurd (false≢true (sym none ∙ rw mark refl));
        with_mark = λ on.
            (at, rw (mark_refused c w s at p today mark), λ written. sym (mark_here at p.value ps.value mark));
      })
      (λ other. record {
        without = λ none. rw (other-kept c w s at p today other, rest.without (rw other at none));
        with_mark = λ on.
            (let later = rest.with_mark (rw other at on) in (
              later.0,
              rw (other-kept c w s at p today other, later.1),
              λ written. later.2 written
                  ∙ sym (mark_later at p.next p.value ps.value other (part-ends w at p today written)),
            ));
      })))

-- ---- a board

-- parts without a mark draw nothing at the start
gained-unmarked : (w : WoundSoFar) (k : Kind) → eqb (kind_number k) mark_kind ≡ false → (gained w k).marked ≡ w.marked
gained-unmarked w Wire other = refl
gained-unmarked w (Upper r) other = refl
gained-unmarked w (Lower r) other = refl
gained-unmarked w (Button n) other = refl
gained-unmarked w (Regular r) other = refl
gained-unmarked w (Drawing r) other = refl
gained-unmarked w (Dropping r) other = refl
gained-unmarked w (Mark r) other = absurd (false≢true (sym other))

nothing-marked : (w : WoundSoFar) (ps : List Part) → has_mark ps ≡ false → (gained_all w ps).marked ≡ w.marked
unfolding gained_all has_mark
nothing-marked w [] none = refl
nothing-marked w (p ∷ ps) none =
    by_test (is_mark p)
    (λ mark. absurd (false≢true (sym none ∙ rw mark refl)))
    (λ other. nothing-marked (gained w p.kind) ps (rw other at none) ∙ gained-unmarked w p.kind other)

record BoardMade (s : List ℕ) (b : Found Board) (ps : List Part) : Type 0 where
  was : FirstCameTo (AsWritten current_edition s) (board_at first_edition s) b ps
      (length (counts_bytes b.value.counts ++ parts_bytes (before_mark ps)))
  start : has_mark ps ≡ false → b.value.start ≡ 0

abbrev BoardBefore : List ℕ → Found Board → Type 0
BoardBefore s b = BoardMade s b (parts_of b.value)

module _ (s : List ℕ) (c : Found Counts) (counts : counts_at current_edition s ≡ given c) (ps : Found (List Part))
    (long : length ps.value ≡ c.value.parts) (full : all_wound c.value ps.value ≡ true)
    (was : PartsBefore c.value s c.value.parts none_wound c.next ps) where
  -- the first edition reads the same counts
  board-follows : board_at first_edition s
      ≡ board_from c.value (parts_at first_edition c.value c.value.parts none_wound s c.next)
  unfolding board_at counts_at wanted
  board-follows = rw counts

  board-made-before : BoardBefore s (record { value = board_of c.value ps.value; next = ps.next })
  unfolding board_from
  board-made-before =
      let same = padded_parts c.value ps.value (start_of ps.value) (sym long) in
      let counts_end : AsWritten current_edition s → c.next ≡ length (counts_bytes c.value) =
      (λ written. omega (
        arith,
        (counts_stand current_edition c.value s c.next written
            (counts-found current_edition s c.value c.next counts)).ends,
      )) in
      subst (BoardMade s _) (sym same) (record {
        was = record {
          without = λ none. board-follows ∙ rw (was.without none, full);
          with_mark = λ on.
              (let stops = was.with_mark on in (
                stops.0,
                board-follows ∙ rw stops.1,
                λ written. stops.2 written
                    ∙ omega (
                      arith,
                      counts_end written,
                      length-append (counts_bytes c.value) (parts_bytes (before_mark ps.value)),
                    ),
              ));
        };
        start = nothing-marked none_wound ps.value;
      })

board-before : (s : List ℕ) → Gives (BoardBefore s) (board_at current_edition s)
unfolding board_at board_from
board-before s =
    gives_after (BoardBefore s) (counts_at current_edition s) _ (λ c counts.
    gives_after (BoardBefore s) (parts_at current_edition c.value c.value.parts none_wound s c.next) _
    (λ ps parts.
    gives-unless (BoardBefore s) (all_wound c.value ps.value) winding_lacking ps.next _ (λ full.
    board-made-before s c counts ps
    (subst (λ o. Gives (PartsRead current_edition c.value c.value.parts none_wound s c.next) o) parts
    (parts_read current_edition current_known c.value c.value.parts none_wound s c.next)).counted full
    (subst (λ o. Gives (PartsBefore c.value s c.value.parts none_wound c.next) o) parts
    (parts-before c.value s c.value.parts none_wound c.next)))))

-- ---- the theorems

module _ (s : List ℕ) (b : Board) (n : ℕ) (read : reading current_edition s ≡ (b, given n)) where
  short_and_read : (leb (length s) longest_input ≡ true) × (board_at current_edition s ≡ found b n)
  unfolding reading
  short_and_read = passed _ _ _ _ _ (answered_given (board_within current_edition s) b n read)

  today : BoardBefore s (record { value = b; next = n })
  today = subst (λ (o : Outcome (Found Board)). Gives (BoardBefore s) o) short_and_read.1 (board-before s)

  reading_first : {o : Outcome (Found Board)} → board_at first_edition s ≡ o → reading first_edition s ≡ answered o
  unfolding reading
  reading_first is = rw (short_and_read.0, is)

pub markless_as_before : MarklessAsBefore
unfolding answered
markless_as_before s b n read none = reading_first s b n read ((today s b n read).was.without none)

pub mark_turned_away : MarkTurnedAway
unfolding answered
mark_turned_away s b n bytes read mark =
    let stops = (today s b n read).was.with_mark mark in
    reading_first s b n read stops.1
    ∙ ap (λ (p : ℕ). (empty_board, refused no_such_kind p)) (stops.2 (bytes_as_written s bytes))

pub first_files_kept : FirstFilesKept
unfolding answered
first_files_kept s b n read =
    let now =
    only_by first_edition current_edition second_changed s (accepted_never no_such_kind (reading first_edition s) b n
    read)
    ∙ read in
    let none =
    by_test (has_mark (parts_of b))
    (λ mark.
    let stops = (today s b n now).was.with_mark mark in
    absurd (accepted_never no_such_kind (reading first_edition s) b n read stops.0
    (ap (λ (x : Board × Outcome ℕ). x.1) (reading_first s b n now stops.1))))
    (λ none. none) in
    (now, none, (today s b n now).start none)

-- ---- what the first edition refused

-- a stage that the first edition reaches is reached today
reached_today : (s : List ℕ) (f : FileStage) (at : ℕ) → Reached first_edition s f at → Reached current_edition s f at
reached_today s f at start = start
reached_today s f at (T_fine x stands least most) = T_fine (reached_today s _ _ x) stands least most
reached_today s f at (R_fine x stands most) = R_fine (reached_today s _ _ x) stands most
reached_today s f at (B_fine x stands most) = B_fine (reached_today s _ _ x) stands most
reached_today s f at (C_fine x stands most) = C_fine (reached_today s _ _ x) stands most
reached_today s f at (kind_fine x more stands most joins) =
    kind_fine (reached_today s _ _ x) more stands (omega (arith, most)) joins
reached_today s f at (mark_fine x more stands known) = absurd (omega (arith, known))
reached_today s f at (first_fine x stands below) = first_fine (reached_today s _ _ x) stands below
reached_today s f at (second_fine x stands below apart) = second_fine (reached_today s _ _ x) stands below apart
reached_today s f at (wire_fine x) = wire_fine (reached_today s _ _ x)
reached_today s f at (button_fine x stands below) = button_fine (reached_today s _ _ x) stands below
reached_today s f at (relay_fine x carries relay stands below untaken once) =
    relay_fine (reached_today s _ _ x) carries relay stands below untaken once

-- a kind that was refused by 4 and is no mark's is refused so today
kind_refused_today : (s : List ℕ) (p : ℕ) → ((next : ℕ) → ¬ (StandsAt first_edition s p mark_kind next))
    → LineHolds first_edition s no_such_kind p → LineHolds current_edition s no_such_kind p
kind_refused_today s p other (line4 {v = v} (here, more, next, stands) over) =
    line4 (reached_today s _ _ here, more, next, stands)
    (let apart : ¬ (v ≡ mark_kind) = λ mark. other next (rw mark at stands) in omega (arith, apart, over))

refused_whole : (e : Edition) (s : List ℕ) (k p : ℕ) → (reading e s).1 ≡ refused k p
    → reading e s ≡ (empty_board, refused k p)
unfolding reading answered
refused_whole e s k p is = reading_answers e s (answered_refused (board_within e s) k p is)

refused_today : (s : List ℕ) (p : ℕ) → ((next : ℕ) → ¬ (StandsAt first_edition s p mark_kind next))
    → (reading first_edition s).1 ≡ refused no_such_kind p → (reading current_edition s).1 ≡ refused no_such_kind p
refused_today s p other was =
    (table_refused current_edition current_known s no_such_kind p).1
    (⊎_map (λ ten. ten) (λ (short, holds). (short, kind_refused_today s p other holds))
    ((table_refused first_edition first_known s no_such_kind p).0 was))

pub only_by_four : OnlyByFour
only_by_four s other = by (reading first_edition s).1 refl
  where
    by : (o : Outcome ℕ) → (reading first_edition s).1 ≡ o → reading current_edition s ≡ reading first_edition s
    by (given n) is =
        only_by first_edition current_edition second_changed s (λ p no. refused_never no_such_kind p n (sym no ∙ is))
    by (refused k p) is =
        by_test (eqb k no_such_kind)
        (λ four.
        let was = is ∙ ap (λ (m : ℕ). refused m p) (eqb-true k no_such_kind four) in
        refused_whole current_edition s no_such_kind p (refused_today s p (λ next. other p next was) was)
        ∙ sym (refused_whole first_edition s no_such_kind p was))
        (λ else.
        only_by first_edition current_edition second_changed s (λ q no.
        let same : k ≡ no_such_kind = cc (is, no) in eqb-false k no_such_kind else same))

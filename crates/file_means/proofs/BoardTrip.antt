-- The round trip of counts, of parts one after the other, and of a whole board, on the definitions: bytes that stand at
-- a place read back, and what was read breaks no rule and stands there by its bytes.
use Prim.Native.Nat.{ℕ, zero, suc, ◌+◌, ◌≤◌}
use native.Mathlib.Omega.{arith}
use mathlib.Core.Path.{◌≡◌, refl, sym, ap, ◌∙◌}
use mathlib.Core.Bool.{true}
use mathlib.Core.List.{List, [], ◌∷◌, ◌++◌, map, append-nil}
use lib.ListN.{length}
use lib.Seq.{length-take-le}
use Rattle.refusals.specs.declared.Found.{Found}
use Rattle.refusals.specs.Outcomes.{found}
use Rattle.refusals.specs.Refusals.{out_of_range, winding_lacking}
use Rattle.number.specs.Numbers.{number_bytes}
use Rattle.windings.specs.declared.WoundSoFar.{WoundSoFar}
use Rattle.windings.specs.Windings.{none_wound, gained, complete}
use Rattle.board.specs.declared.Part.{Part}
use Rattle.board.specs.declared.Counts.{Counts}
use Rattle.board.specs.declared.Board.{Board}
use Rattle.board.specs.Parts.{most_parts, parts_of}
use Rattle.board.specs.Rules.{least_terminals, most_terminals, most_relays, most_buttons, in_range}
use Rattle.board.specs.Rules.{part_fine, gained_all, parts_fine, start_of, board_fine}
use Rattle.bits.proofs.BoolLaws.{both_true, true_both}
use Rattle.board.proofs.PaddedLaws.{padded_parts}
use Rattle.board.proofs.RuleLaws.{InRange}
use Rattle.board.proofs.FineLaws.{fine_splits, splits_fine, fine_range}
use Rattle.board_reader.specs.Editions.{Edition, current_edition}
use Rattle.board_reader.specs.Reading.{wanted, counts_at, part_at, parts_at, board_of, board_from, board_at}
use Rattle.board_reader.proofs.EditionLaws.{Known}
use Rattle.board_reader.proofs.FieldLaws.{range-within}
use Rattle.board_reader.proofs.CountsLaws.{CountsFound, counts-found, counts-found_fine, counts_read}
use Rattle.board_writer.specs.File.{row_bytes, counts_bytes, part_bytes, parts_bytes, board_bytes}
use Rattle.file_means.proofs.StandLaws.{StandsTo, stands_none, stands-append, stands_first, stands_second}
use Rattle.file_means.proofs.StandLaws.{AsWritten, wanted-reads, wanted-stands}
use Rattle.file_means.proofs.PartTrip.{as_read, part-reads, PartIsFine, part_read}
use Rattle.file_means.proofs.GivesLaws.{Gives, gives_then, gives_after, gives-unless}

-- counts
count-reads : (low high : ℕ) (s : List ℕ) (at next v : ℕ) → high ≤ most_parts → low ≤ v → v ≤ high
    → StandsTo s at next (number_bytes v) → wanted current_edition (in_range low high) out_of_range s at ≡ found v next
count-reads low high s at next v few least most here =
    wanted-reads (in_range low high) out_of_range s at next v (omega arith) (range-within low high v least most) here

counts-reads : (c : Counts) (s : List ℕ) (next : ℕ) → InRange c → StandsTo s 0 next (counts_bytes c)
    → counts_at current_edition s ≡ found c next
unfolding counts_bytes row_bytes
counts-reads c s next range here =
    let t = number_bytes c.terminals in
    let r = number_bytes c.relays in
    let b = number_bytes c.buttons in
    let p = number_bytes c.parts in
    let r-at = 0 + length t in
    let b_at = r-at + length r in
    let p-at = b_at + length b in
    let from-r = stands_second s 0 next t (r ++ (b ++ (p ++ []))) here in
    let from-b = stands_second s r-at next r (b ++ (p ++ [])) from-r in
    sym (counts_read current_edition s _ _ _ _ _ _ _ next
    (count-reads least_terminals most_terminals s 0 r-at c.terminals (omega arith) range.terminals_enough
    range.terminals_few (stands_first s 0 next t (r ++ (b ++ (p ++ []))) here))
    (count-reads 0 most_relays s r-at b_at c.relays (omega arith) (omega arith) range.relays_few
    (stands_first s r-at next r (b ++ (p ++ [])) from-r))
    (count-reads 0 most_buttons s b_at p-at c.buttons (omega arith) (omega arith) range.buttons_few
    (stands_first s b_at next b (p ++ []) from-b))
    (count-reads 0 most_parts s p-at next c.parts (omega arith) (omega arith) range.parts_few
    (rw (append-nil p) at (stands_second s b_at next b (p ++ []) from-b))))

pub counts_stand : (e : Edition) (c : Counts) (s : List ℕ) (next : ℕ) → AsWritten e s → CountsFound e s c next
    → StandsTo s 0 next (counts_bytes c)
unfolding counts_bytes row_bytes
counts_stand e c s next written read =
    stands-append s 0 read.relays_at next _ _ (wanted-stands e _ _ s _ _ _ written read.terminals)
    (stands-append s read.relays_at read.buttons_at next _ _ (wanted-stands e _ _ s _ _ _ written read.relays)
    (stands-append s read.buttons_at read.parts_place next _ _ (wanted-stands e _ _ s _ _ _ written read.buttons)
    (rw (append-nil (number_bytes c.parts)) (wanted-stands e _ _ s _ _ _ written read.parts))))

-- parts one after the other
parts-reads : (c : Counts) (ps : List Part) (w : WoundSoFar) (s : List ℕ) (at next : ℕ) → InRange c
    → parts_fine c w ps ≡ true → StandsTo s at next (parts_bytes ps)
    → parts_at current_edition c (length ps) w s at ≡ found (map as_read ps) next
unfolding parts_fine row_bytes parts_at
parts-reads c [] w s at next range fine here =
    let same : at ≡ next = omega (arith, here.ends) in
    ap (found []) same
parts-reads c (p ∷ ps) w s at next range fine here =
    let both = both_true (part_fine c w p) (parts_fine c (gained w p.kind) ps) fine in
    let mid = at + length (part_bytes p) in
    let first = part-reads c w p s at mid range both.0 (stands_first s at next (part_bytes p) (parts_bytes ps) here) in
    let rest =
    parts-reads c ps (gained w p.kind) s mid next range both.1
    (stands_second s at next (part_bytes p) (parts_bytes ps) here) in
    rw (first, rest)

-- parts give the same windings and marks as they are read back
pub gained_as_read : (w : WoundSoFar) (ps : List Part) → gained_all w (map as_read ps) ≡ gained_all w ps
unfolding gained_all
gained_as_read w [] = refl
gained_as_read w (p ∷ ps) = gained_as_read (gained w p.kind) ps

pub record PartsRead (e : Edition) (c : Counts) (n : ℕ) (w : WoundSoFar) (s : List ℕ) (at : ℕ)
    (ps : Found (List Part)) : Type 0 where
  pub counted : length ps.value ≡ n
  pub fine : parts_fine c w ps.value ≡ true
  pub stands : AsWritten e s → StandsTo s at ps.next (parts_bytes ps.value)

pub parts_read : (e : Edition) → Known e → (c : Counts) (n : ℕ) (w : WoundSoFar) (s : List ℕ) (at : ℕ)
    → Gives (PartsRead e c n w s at) (parts_at e c n w s at)
unfolding parts_at parts_fine row_bytes
parts_read e known c zero w s at =
    record { counted = refl; fine = refl; stands = λ written. stands_none s at }
parts_read e known c (suc n) w s at =
    gives_then (PartIsFine e c w s at) _ (part_at e c w s at) _ (part_read e known c w s at) (λ p first.
    let w' = gained w p.value.kind in
    gives_then (PartsRead e c n w' s p.next) _ (parts_at e c n w' s p.next) _
    (parts_read e known c n w' s p.next)
    (λ ps rest.
    record {
      counted = ap suc rest.counted;
      fine = true_both first.fine rest.fine;
      stands = λ written. stands-append s at p.next ps.next _ _ (first.stands written) (rest.stands written);
    }))

-- a board. An array of parts has 256 places, which a list does not say by itself
pub board-reads : (b : Board) (s : List ℕ) (next : ℕ) → length b.parts ≡ most_parts → board_fine b ≡ true
    → StandsTo s 0 next (board_bytes b)
    → board_at current_edition s ≡ found (board_of b.counts (map as_read (parts_of b))) next
unfolding board_bytes board_at board_from
board-reads b s next places fine here =
    let tests = fine_splits b fine in
    let range = fine_range b fine in
    let mid = 0 + length (counts_bytes b.counts) in
    let counts =
    counts-reads b.counts s mid range (stands_first s 0 next (counts_bytes b.counts)
    (parts_bytes (parts_of b)) here) in
    let counted : length (parts_of b) ≡ b.counts.parts =
    length-take-le b.counts.parts b.parts (omega (arith, range.parts_few)) in
    let parts =
    parts-reads b.counts (parts_of b) none_wound s mid next range tests.parts
    (stands_second s 0 next (counts_bytes b.counts) (parts_bytes (parts_of b)) here) in
    let all : parts_at current_edition b.counts b.counts.parts none_wound s mid
    ≡ found (map as_read (parts_of b)) next =
    ap (λ (n : ℕ). parts_at current_edition b.counts n none_wound s mid) (sym counted) ∙ parts in
    let whole : complete b.counts.relays (gained_all none_wound (map as_read (parts_of b))) ≡ true =
    ap (complete b.counts.relays) (gained_as_read none_wound (parts_of b)) ∙ tests.whole in
    rw (counts, all, whole)

pub record BoardIsFine (e : Edition) (s : List ℕ) (b : Board) (next : ℕ) : Type 0 where
  pub fine : board_fine b ≡ true
  pub stands : AsWritten e s → StandsTo s 0 next (board_bytes b)

board-made : (e : Edition) (c : Counts) (s : List ℕ) (mid : ℕ) (ps : Found (List Part)) → CountsFound e s c mid
    → PartsRead e c c.parts none_wound s mid ps → complete c.relays (gained_all none_wound ps.value) ≡ true
    → BoardIsFine e s (board_of c ps.value) ps.next
unfolding board_bytes
board-made e c s mid ps first rest full =
    let same = padded_parts c ps.value (start_of ps.value) (sym rest.counted) in
    record {
      fine =
          splits_fine (board_of c ps.value)
          (record {
            counts = counts-found_fine e s c mid first;
            parts = rw same rest.fine;
            whole = rw same full;
            start = rw same refl;
          });
      stands =
          λ written. rw same (stands-append s 0 mid ps.next _ _ (counts_stand e c s mid written first)
          (rest.stands written));
    }

pub board_read : (e : Edition) → Known e → (s : List ℕ)
    → Gives (λ (b : Found Board). BoardIsFine e s b.value b.next) (board_at e s)
unfolding board_at board_from
board_read e known s =
    gives_after _ (counts_at e s) _ (λ c counts.
    let parts = parts_read e known c.value c.value.parts none_wound s c.next in
    gives_then (PartsRead e c.value c.value.parts none_wound s c.next) _
    (parts_at e c.value c.value.parts none_wound s c.next) _ parts (λ ps rest.
    gives-unless _ (complete c.value.relays (gained_all none_wound ps.value)) winding_lacking ps.next _
    (board-made e c.value s c.next ps (counts-found e s c.value c.next counts) rest)))

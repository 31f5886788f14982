-- The theorems of specs/RoundTrip.antt over the calls, from the round trip of a board on the definitions.
use Prim.Native.Nat.{ℕ, ◌≤◌}
use native.Mathlib.Omega.{arith}
use mathlib.Core.Path.{◌≡◌, refl, sym, ap, ap₂, subst, ◌∙◌}
use mathlib.Core.Bool.{true}
use mathlib.Core.List.{List, [], ◌∷◌, ◌++◌, map}
use lib.ListN.{length, take, drop, length-append, length-map}
use lib.Seq.{take_at, drop_at, length-take-le}
use borrow.Author.Tests.{le-leb}
use Rattle.refusals.specs.Outcomes.{Outcome, given}
use Rattle.windings.specs.declared.WoundSoFar.{WoundSoFar}
use Rattle.windings.specs.Windings.{none_wound}
use Rattle.board.specs.declared.Part.{Part}
use Rattle.board.specs.declared.Board.{Board}
use Rattle.board.specs.Parts.{most_parts, parts_of}
use Rattle.board.specs.Rules.{board_fine}
use Rattle.board.specs.SameExactly.{compared, Same}
use Rattle.board.proofs.PaddedLaws.{padded_parts}
use Rattle.board.proofs.FineLaws.{fine_range, fine_splits}
use Rattle.board_reader.specs.Editions.{current_edition}
use Rattle.board_reader.specs.Reading.{board_of, longest_input, answered, reading}
use Rattle.board_reader.proofs.EditionLaws.{current_known}
use Rattle.board_writer.specs.File.{board_bytes}
use Rattle.board_writer.specs.Writing.{writing, bytes_written}
use Rattle.board_writer.proofs.WriteLaws.{writing_with_room}
use Rattle.board_writer.proofs.FileLaws.{board_file_bound, WasWritten, writing_given, write_bytes}
use Rattle.file_means.specs.RoundTrip.{WriteThenRead, RestStays, ReadThenWrite}
use Rattle.file_means.proofs.StandLaws.{StandsTo, bytes_as_written}
use Rattle.file_means.proofs.GivesLaws.{Gives}
use Rattle.file_means.proofs.BoardTrip.{gained_as_read, board-reads, BoardIsFine}
use Rattle.file_means.proofs.PartTrip.{as_read, compared_as_read}
use Rattle.file_means.proofs.ReadFine.{read_fine}

-- bytes stand at the start of an input that begins with them
begins : (bytes rest : List ℕ) (n : ℕ) → n ≡ length bytes → StandsTo (bytes ++ rest) 0 n bytes
begins bytes rest n long =
    record { there = ap (λ (l : List ℕ). bytes ++ l) (sym (drop_at bytes rest n (sym long))); ends = omega arith }

-- what a board is read back as
abbrev read_back : Board → Board
read_back b = board_of b.counts (map as_read (parts_of b))

-- a board's bytes, whatever stands after them, are read back
module _ (b : Board) (rest : List ℕ) (n : ℕ) (places : length b.parts ≡ most_parts) (fine : board_fine b ≡ true)
    (long : n ≡ length (board_bytes b)) (short : length (board_bytes b ++ rest) ≤ longest_input) where
  reads_back : reading current_edition (board_bytes b ++ rest) ≡ (read_back b, given n)
  unfolding reading answered
  reads_back =
      rw (
        le-leb (length (board_bytes b ++ rest)) longest_input short,
        board-reads b (board_bytes b ++ rest) n places fine (begins (board_bytes b) rest n long),
      )

-- the board that is read is the one that was written, as boards are compared, and has its start
all-compared : (ps : List Part) → map compared ps ≡ map compared (map as_read ps)
all-compared [] = refl
all-compared (p ∷ ps) = ap₂ ◌∷◌ (sym (compared_as_read p)) (all-compared ps)

same_again : (b : Board) → length b.parts ≡ most_parts → board_fine b ≡ true → Same b (read_back b)
same_again b places fine =
    let range = fine_range b fine in
    let counted : length (map as_read (parts_of b)) ≡ b.counts.parts =
    length-map (parts_of b) as_read ∙ length-take-le b.counts.parts b.parts (omega (arith, range.parts_few)) in
    let again = padded_parts b.counts (map as_read (parts_of b)) (read_back b).start (sym counted) in
    (refl, all-compared (parts_of b) ∙ ap (map compared) (sym again))

start_again : (b : Board) → board_fine b ≡ true → b.start ≡ (read_back b).start
start_again b fine =
    (fine_splits b fine).start ∙ ap (λ (w : WoundSoFar). w.marked) (sym (gained_as_read none_wound (parts_of b)))

pub write_then_read : WriteThenRead
write_then_read b out out' more n w r places wrote told =
    let written : WasWritten b out n out' =
    writing_given b out n out' (sym wrote ∙ ap (λ (o : Outcome ℕ). (o, out')) told) in
    let begins : take n out' ≡ board_bytes b =
    ap (take n) written.begins ∙ take_at (board_bytes b) (drop n out) n (sym written.count) in (
      omega (arith, written.count, board_file_bound b written.fine),
      λ short read.
          (let few : length (board_bytes b ++ more) ≤ longest_input =
          omega (arith, written.count, length-append (board_bytes b) more) in
          let back =
          read ∙ ap (λ (l : List ℕ). reading current_edition (l ++ more)) begins
          ∙ reads_back b more n places written.fine written.count few in (
            ap (λ (a : Board × Outcome ℕ). a.1) back,
            subst (Same b) (sym (ap (λ (a : Board × Outcome ℕ). a.0) back)) (same_again b places written.fine),
            start_again b written.fine ∙ sym (ap (λ (a : Board × Outcome ℕ). a.0.start) back),
          )),
    )

pub rest_stays : RestStays
rest_stays b out out' w wrote =
    let was = write_bytes b out out' w wrote in
    let n = bytes_written w in
    ap (drop n) was.1
    ∙ drop_at (take n (board_bytes b)) (drop n out) n (length-take-le n (board_bytes b) was.0)

-- a fine board is written where it has room
writes : (b : Board) (out : List ℕ) (n : ℕ) → board_fine b ≡ true → n ≡ length (board_bytes b) → n ≤ length out
    → writing b out ≡ (given n, board_bytes b ++ drop n out)
writes b out n fine long room =
    writing_with_room b out fine (omega arith) ∙ ap (λ (m : ℕ). (given m, board_bytes b ++ drop m out)) (sym long)

pub read_then_write : ReadThenWrite
read_then_write s out out' n r w bytes read told wrote =
    let b = r.board in
    let was : BoardIsFine current_edition s b n =
    subst (λ (a : Board × Outcome ℕ). Gives (BoardIsFine current_edition s a.0) a.1)
    (sym read ∙ ap (λ (o : Outcome ℕ). (b, o)) told) (read_fine current_edition current_known s) in
    let long : n ≡ length (board_bytes b) = omega (arith, (was.stands (bytes_as_written s bytes)).ends) in (
      was.fine,
      λ room.
          (let answer = wrote ∙ writes b out n was.fine long room in (
            ap (λ (a : Outcome ℕ × List ℕ). a.0) answer,
            ap (λ (a : Outcome ℕ × List ℕ). take n a.1) answer
                ∙ take_at (board_bytes b) (drop n out) n (sym long)
                ∙ sym (take_at (board_bytes b) (drop n s) n (sym long))
                ∙ ap (take n) (sym (was.stands (bytes_as_written s bytes)).there),
          )),
    )

-- Laws of a board's file for those who write one and read it back: how long it is, and what a write answers.
use mathlib.Core.Path.{◌≡◌, refl, sym, ap, ◌∙◌}
use mathlib.Core.Bool.{Bool, true, false, cond}
use mathlib.Core.List.{List, [], ◌∷◌, ◌++◌}
use Prim.Native.Nat.{ℕ, ◌+◌, ◌*◌, ◌≤◌, ◌<◌}
use native.Mathlib.Omega.{arith}
use borrow.Author.Tests.{leb-true, leb-false}
use lib.Dec.{eqb, leb}
use lib.ListN.{length, take, drop, length-append, length-take}
use lib.Seq.{take_all}
use Rattle.std.specs.Prelude.{Result}
use Rattle.refusals.proofs.OutcomeLaws.{given_injective, refused_never}
use Rattle.refusals.proofs.Tabled.{Tabled, tabled_given, tabled_refused}
use Rattle.refusals.specs.declared.Refusal.{Refusal}
use Rattle.refusals.specs.declared.No.TheVariants.{BrokenBoard, BufferTooShort}
use Rattle.refusals.specs.Outcomes.{Outcome, given, refused, told}
use Rattle.refusals.specs.Order.{first_no}
use Rattle.refusals.specs.Refusals.{broken_board, buffer_too_short, number_of}
use Rattle.number.specs.Numbers.{number_bytes}
use Rattle.number.proofs.NumberLaws.{number_bytes_one, number_bytes-length_two}
use Rattle.kinds.specs.declared.Kind.{Kind}
use Rattle.kinds.specs.declared.Kind.TheVariants.{Wire, Upper, Lower, Button, Regular, Drawing, Dropping, Mark}
use Rattle.kinds.specs.Kinds.{kind_number, button_kind, mark_kind, fields, most_fields}
use Rattle.board.specs.declared.Part.{Part}
use Rattle.board.specs.declared.Counts.{Counts}
use Rattle.board.specs.declared.Board.{Board}
use Rattle.board.specs.Parts.{fields_of, parts_of}
use Rattle.board.specs.Rules.{most_relays, limit_of, board_fine}
use Rattle.board.specs.BreaksNoRule.{InRange, Names, Fits}
use Rattle.lists.specs.Members.{All}
use Rattle.bits.proofs.BoolLaws.{by_test}
use Rattle.kinds.proofs.KindLaws.{kind_number_most, fields_few}
use Rattle.board.proofs.BreaksNoRule.{fine_fits}
use Rattle.board_writer.specs.File.{row_bytes, numbers_bytes, part_bytes, parts_bytes, counts_bytes, board_bytes}
use Rattle.board_writer.specs.File.{longest_file}
use Rattle.board_writer.specs.Writing.{writing, bytes_written, Writes}
use Rattle.board_writer.proofs.LengthLaws.{counts_bytes_sum, part_bytes_sum}
use Rattle.board_writer.proofs.WriteLaws.{board_bytes_sum, writing_broken}
use Rattle.board_writer.proofs.WriteLaws.{writing_short, writing_with_room}

-- ---- how long a file is

-- a number below 128 takes one byte
one_byte : (v : ℕ) → v < 128 → length (number_bytes v) ≡ 1
one_byte v small = ap length (number_bytes_one v small)

counts_bytes_few : (c : Counts) → InRange c → length (counts_bytes c) ≤ 5
counts_bytes_few c fit =
    omega (
      arith,
      counts_bytes_sum c,
      one_byte c.terminals (omega (arith, fit)),
      one_byte c.relays (omega (arith, fit)),
      one_byte c.buttons (omega (arith, fit)),
      number_bytes-length_two c.parts (omega (arith, fit)),
    )

-- a name's limit is R or B, so what is below it is small
pub limit_most : (c : Counts) (k : ℕ) → InRange c → limit_of c k ≤ most_relays
limit_most c k fit = by (eqb k button_kind)
  where
    by : (t : Bool) → cond t c.buttons c.relays ≤ most_relays
    by true = fit.buttons_few
    by false = fit.relays_few

-- small numbers take a byte each
numbers_few : (vs : List ℕ) → All (λ v. v < 128) vs → length (numbers_bytes vs) ≡ length vs
unfolding row_bytes
numbers_few [] small = refl
numbers_few (v ∷ vs) small =
    omega (
      arith,
      length-append (number_bytes v) (numbers_bytes vs),
      one_byte v small.0,
      numbers_few vs small.1,
    )

-- a part that fits takes a byte for its kind and one for each field
module _ (c : Counts) (fit : InRange c) where
  end : {n : ℕ} → n < c.terminals → n < 128
  end below = omega (arith, below, fit)

  relay : {n : ℕ} → n < c.relays → n < 128
  relay below = omega (arith, below, fit)

  button : {n : ℕ} → n < c.buttons → n < 128
  button below = omega (arith, below, fit)

  fields_small : (k : Kind) (a b : ℕ) → (¬ (kind_number k ≡ mark_kind) → (a < 128) × (b < 128)) → Names c k
      → All (λ v. v < 128) (fields k a b)
  fields_small Wire a b ends named = let small = ends (λ e. omega (arith, e)) in (small.0, (small.1, tt))
  fields_small (Upper r) a b ends named =
      let small = ends (λ e. omega (arith, e)) in (small.0, (small.1, (relay named, tt)))
  fields_small (Lower r) a b ends named =
      let small = ends (λ e. omega (arith, e)) in (small.0, (small.1, (relay named, tt)))
  fields_small (Button n) a b ends named =
      let small = ends (λ e. omega (arith, e)) in (small.0, (small.1, (button named, tt)))
  fields_small (Regular r) a b ends named =
      let small = ends (λ e. omega (arith, e)) in (small.0, (small.1, (relay named, tt)))
  fields_small (Drawing r) a b ends named =
      let small = ends (λ e. omega (arith, e)) in (small.0, (small.1, (relay named, tt)))
  fields_small (Dropping r) a b ends named =
      let small = ends (λ e. omega (arith, e)) in (small.0, (small.1, (relay named, tt)))
  fields_small (Mark r) a b ends named = (relay named, tt)

  part_bytes_few : (p : Part) → Fits c p → length (part_bytes p) ≤ 1 + most_fields
  part_bytes_few p fits =
      omega (
        arith,
        part_bytes_sum p,
        one_byte (kind_number p.kind) (omega (arith, kind_number_most p.kind)),
        numbers_few (fields_of p) (fields_small p.kind p.a p.b (λ joins.
            let ends = fits.ends joins in (end ends.a_below, end ends.b_below)) fits.named),
        fields_few p.kind p.a p.b,
      )

  parts_bytes_few : (ps : List Part) → All (Fits c) ps → length (parts_bytes ps) ≤ (1 + most_fields) * length ps
  unfolding row_bytes
  parts_bytes_few [] fits = omega arith
  parts_bytes_few (p ∷ ps) fits =
      omega (
        arith,
        length-append (part_bytes p) (parts_bytes ps),
        part_bytes_few p fits.0,
        parts_bytes_few ps fits.1,
      )

pub board_file_bound : (b : Board) → board_fine b ≡ true → length (board_bytes b) ≤ longest_file
board_file_bound b fine =
    let fits = fine_fits b fine in
    omega (
      arith,
      board_bytes_sum b,
      fits.counts.parts_few,
      counts_bytes_few b.counts fits.counts,
      parts_bytes_few b.counts fits.counts (parts_of b) fits.parts,
      length-take b.counts.parts b.parts,
    )

-- ---- what a write answers

-- a buffer of LONGEST_FILE bytes is never refused
pub write_fits : (b : Board) (out : List ℕ) → board_fine b ≡ true → longest_file ≤ length out
    → ◌≡◌ {A = Outcome ℕ × List ℕ} (writing b out)
    (given (length (board_bytes b)), board_bytes b ++ drop (length (board_bytes b)) out)
write_fits b out fine room = writing_with_room b out fine (omega (arith, board_file_bound b fine))

abbrev Answered : Type 0
Answered = Outcome ℕ × List ℕ

abbrev answer : Answered → Outcome ℕ
answer x = x.0

abbrev buffer : Answered → List ℕ
buffer x = x.1

given_never_refused : (m n p : ℕ) (l l' : List ℕ) → ◌≡◌ {A = Answered} (given m, l) (refused n p, l') → ⊥
given_never_refused m n p l l' is = refused_never n p m (sym (ap answer is))

given-alike : (m n : ℕ) (l l' : List ℕ) → ◌≡◌ {A = Answered} (given m, l) (given n, l') → (n ≡ m) × (l' ≡ l)
given-alike m n l l' is = (sym (given_injective m n (ap answer is)), sym (ap buffer is))

refused-alike : (m n p : ℕ) (l l' : List ℕ) → ◌≡◌ {A = Answered} (refused m 0, l) (refused n p, l') → (l' ≡ l) × (p ≡ 0)
refused-alike m n p l l' is =
    let same : answer (refused m 0, l) ≡ answer (refused n p, l') = ap answer is in
    (sym (ap buffer is), cc)

-- a write ends in one of three ways
module _ (b : Board) (out : List ℕ) {A : Type 0} where
  by_end :
      (◌≡◌ {A = Answered} (refused broken_board 0, out) (writing b out) → A)
      → (◌≡◌ {A = Answered} (refused buffer_too_short 0, out) (writing b out) → A)
      → (board_fine b ≡ true → length (board_bytes b) ≤ length out → A)
      → A
  by_end broken short whole =
      by_test (board_fine b)
      (λ fine. by_test (leb (length (board_bytes b)) (length out))
      (λ fits. whole fine (leb-true (length (board_bytes b)) (length out) fits))
      (λ off. short
      (writing_short b out fine refl (leb-false (length (board_bytes b)) (length out) off) refl)))
      (λ off. broken (writing_broken b out off refl))

-- `write` never refuses a buffer of LONGEST_FILE bytes by 16
pub write_never_short : (b : Board) (out out' : List ℕ) (w : Result ℕ Refusal) → longest_file ≤ length out
    → Writes b out w out' → ¬ (told w ≡ refused buffer_too_short 0)
write_never_short b out out' w room wrote short =
    by_test (board_fine b)
    (λ fine. refused_never buffer_too_short 0 (length (board_bytes b))
    (sym short ∙ ap answer (wrote ∙ write_fits b out fine room)))
    (λ off.
    let other : ◌≡◌ {A = Outcome ℕ} (refused broken_board 0) (refused buffer_too_short 0) =
    ap answer (writing_broken b out off refl ∙ sym wrote) ∙ short in
    let same : broken_board ≡ buffer_too_short = cc in
    omega (arith, same))

-- a refused write leaves the buffer as it was, and its place is 0
pub writing_refused : (b : Board) (out : List ℕ) (n p : ℕ) (out' : List ℕ)
    → ◌≡◌ {A = Outcome ℕ × List ℕ} (writing b out) (refused n p, out') → (out' ≡ out) × (p ≡ 0)
writing_refused b out n p out' is =
    by_end b out
    (λ broken. refused-alike broken_board n p out out' (broken ∙ is))
    (λ short. refused-alike buffer_too_short n p out out' (short ∙ is))
    (λ fine room. absurd (given_never_refused (length (board_bytes b)) n p
    (board_bytes b ++ drop (length (board_bytes b)) out) out' (sym (writing_with_room b out fine room) ∙ is)))

-- what is known of a write that gave the count n
pub record WasWritten (b : Board) (out : List ℕ) (n : ℕ) (out' : List ℕ) : Type 0 where
  pub fine : board_fine b ≡ true
  pub count : n ≡ length (board_bytes b)
  pub room : n ≤ length out
  pub begins : out' ≡ board_bytes b ++ drop n out

pub writing_given : (b : Board) (out : List ℕ) (n : ℕ) (out' : List ℕ)
    → ◌≡◌ {A = Outcome ℕ × List ℕ} (writing b out) (given n, out') → WasWritten b out n out'
writing_given b out n out' is =
    by_end b out
    (λ broken. absurd (given_never_refused n broken_board 0 out' out (sym (broken ∙ is))))
    (λ short. absurd (given_never_refused n buffer_too_short 0 out' out (sym (short ∙ is))))
    (λ fine room. written fine room
    (given-alike (length (board_bytes b)) n (board_bytes b ++ drop (length (board_bytes b)) out) out'
    (sym (writing_with_room b out fine room) ∙ is)))
  where
    written : board_fine b ≡ true → length (board_bytes b) ≤ length out → (n ≡ length (board_bytes b))
        × (out' ≡ board_bytes b ++ drop (length (board_bytes b)) out) → WasWritten b out n out'
    written fine room same = record {
      fine = fine;
      count = same.0;
      room = omega arith;
      begins = same.1 ∙ ap (λ (k : ℕ). board_bytes b ++ drop k out) (sym same.0);
    }

-- whatever `write` answers, the bytes that it says were written are the file's first, they begin the buffer, and the
-- rest stays
pub write_bytes : (b : Board) (out out' : List ℕ) (w : Result ℕ Refusal) → Writes b out w out'
    → (bytes_written w ≤ length (board_bytes b))
    × (out' ≡ take (bytes_written w) (board_bytes b) ++ drop (bytes_written w) out)
write_bytes b out out' (Result.Ok n) wrote =
    let was = writing_given b out n out' (sym wrote) in (
      omega (arith, was.count),
      was.begins ∙ ap (λ (l : List ℕ). l ++ drop n out)
          (sym (take_all n (board_bytes b) (omega (arith, was.count)))),
    )
write_bytes b out out' (Result.Err r) wrote =
    (omega arith, (writing_refused b out (number_of r.no) r.place out' (sym wrote)).0)

-- a write is refused by numbers of the table alone
pub writing_tabled : (b : Board) (out : List ℕ) → Tabled (writing b out).0
unfolding writing first_no
writing_tabled b out =
    by_test (board_fine b)
    (λ fine. by_test (leb (length (board_bytes b)) (length out))
    (λ fits. rw (fine, fits) (tabled_given _))
    (λ lacks. rw (fine, lacks) (tabled_refused BufferTooShort 0)))
    (λ off. rw off (tabled_refused BrokenBoard 0))

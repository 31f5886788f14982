-- Laws of a board's file and of what writing it comes to.
use mathlib.Core.Path.{◌≡◌, refl, sym, ap, ◌∙◌}
use mathlib.Core.Bool.{true, false}
use mathlib.Core.List.{List, [], ◌∷◌, ◌++◌}
use Prim.Native.Nat.{ℕ, ◌+◌, ◌-◌, ◌/◌, ◌≤◌, ◌<◌}
use native.Mathlib.Omega.{arith}
use lib.ListN.{length, take, drop, length-append}
use lib.Seq.{sets, take_at}
use Rattle.std.specs.Prelude.{Result}
use Rattle.std.specs.Result.{IsOk}
use borrow.Author.Tests.{le-leb, lt-leb}
use Rattle.refusals.specs.declared.Refusal.{Refusal}
use Rattle.refusals.specs.Outcomes.{Outcome, given, refused, told}
use Rattle.refusals.proofs.OutcomeLaws.{given_injective, refused_never}
use Rattle.number.specs.Numbers.{current_width, number_bytes, WritesNumber}
use Rattle.number.proofs.Buffers.{sets_at_zero}
use Rattle.bits.proofs.BoolLaws.{by_less}
use Rattle.number.proofs.FormLaws.{encode_more, encode_some}
use Rattle.number.proofs.NumberLaws.{number_bytes-length, number_bytes_one, number_written}
use Rattle.refusals.specs.Refusals.{broken_board, buffer_too_short}
use Rattle.refusals.specs.Order.{first_no}
use Rattle.board.specs.declared.Board.{Board}
use Rattle.board.specs.Parts.{parts_of}
use Rattle.board.specs.Rules.{board_fine}
use Rattle.board_writer.specs.File.{parts_bytes, counts_bytes, board_bytes}
use Rattle.board_writer.specs.Writing.{writing}

-- ---- a number of one byte is that byte

longer_than_one : (v : ℕ) → 128 ≤ v → 1 < length (number_bytes v)
unfolding number_bytes
longer_than_one v more =
    let left : ℕ = current_width.longest - 1 in
    omega (arith, ap length (encode_more left v more), encode_some left (v / 128) (omega arith))

pub number_one : (v : ℕ) → length (number_bytes v) ≡ 1 → (v < 128) × (number_bytes v ≡ v ∷ [])
number_one v one =
    by_less v 128
    (λ small. (small, number_bytes_one v small))
    (λ more. absurd (omega (arith, one, longer_than_one v more)))

-- ---- a number, at the start of bytes that have room for the longest

module _ (v : ℕ) (out out' : List ℕ) (long : length out ≡ current_width.longest) (r : Result ℕ Refusal)
    (wrote : WritesNumber v out 0 r out') where
  number_put : ◌≡◌ {A = Outcome ℕ × List ℕ} (told r, out')
      (given (0 + length (number_bytes v)), sets out 0 (number_bytes v))
  number_put = wrote ∙ number_written v out 0 (omega (arith, number_bytes-length v, long))

  number_stands : out' ≡ number_bytes v ++ drop (length (number_bytes v)) out
  number_stands =
      ap (λ (x : Outcome ℕ × List ℕ). x.1) number_put
      ∙ sets_at_zero out (number_bytes v) (omega (arith, number_bytes-length v, long))

  pub number_long : (n : ℕ) → r ≡ Result.Ok n → n ≡ length (number_bytes v)
  number_long n is =
      let same : given n ≡ given (0 + length (number_bytes v)) =
      ap told (sym is) ∙ ap (λ (x : Outcome ℕ × List ℕ). x.0) number_put in
      omega (arith, given_injective n (0 + length (number_bytes v)) same)

  pub number_first : (n : ℕ) → r ≡ Result.Ok n → take n out' ≡ number_bytes v
  number_first n is =
      ap (take n) number_stands
      ∙ take_at (number_bytes v) (drop (length (number_bytes v)) out) n (sym (number_long n is))

  pub number_within : (n : ℕ) → r ≡ Result.Ok n → n ≤ length out'
  number_within n is =
      omega (
        arith,
        number_long n is,
        ap length number_stands,
        length-append (number_bytes v) (drop (length (number_bytes v)) out),
      )

  pub number_some : IsOk r
  number_some = by r refl
    where
      by : (x : Result ℕ Refusal) → r ≡ x → IsOk x
      by (Result.Ok n) is = refl
      by (Result.Err q) is =
          absurd (refused_never _ _ _ (ap told (sym is) ∙ ap (λ (x : Outcome ℕ × List ℕ). x.0) number_put))

-- ---- a board's file

pub board_bytes_sum : (b : Board) → length (board_bytes b) ≡ length (counts_bytes b.counts) + length
    (parts_bytes (parts_of b))
unfolding board_bytes
board_bytes_sum b = length-append (counts_bytes b.counts) (parts_bytes (parts_of b))

pub board_bytes_are : (b : Board) → board_bytes b ≡ counts_bytes b.counts ++ parts_bytes (parts_of b)
unfolding board_bytes
board_bytes_are b = refl

pub writing_with_room : (b : Board) (out : List ℕ) → board_fine b ≡ true → length (board_bytes b) ≤ length out
    → ◌≡◌ {A = Outcome ℕ × List ℕ} (writing b out)
    (given (length (board_bytes b)), board_bytes b ++ drop (length (board_bytes b)) out)
unfolding writing first_no
writing_with_room b out fine room = simp (fine, le-leb (length (board_bytes b)) (length out) room)

pub writing_broken : (b : Board) (out : List ℕ) {o : Outcome ℕ} → board_fine b ≡ false
    → o ≡ refused broken_board 0 → ◌≡◌ {A = Outcome ℕ × List ℕ} (o, out) (writing b out)
unfolding writing first_no
writing_broken b out off is = simp (off, is)

-- `bytes` is the file of a fine board
module _ (b : Board) (out : List ℕ) {bytes : List ℕ} (fine : board_fine b ≡ true) (is : bytes ≡ board_bytes b) where
  pub writing_short : {o : Outcome ℕ} → length out < length bytes → o ≡ refused buffer_too_short 0
      → ◌≡◌ {A = Outcome ℕ × List ℕ} (o, out) (writing b out)
  unfolding writing first_no
  writing_short short said =
      simp (fine, lt-leb (length (board_bytes b)) (length out) (omega (arith, ap length is)), said)

  pub writing_whole : length bytes ≤ length out
      → ◌≡◌ {A = Outcome ℕ × List ℕ} (given (length bytes), bytes ++ drop (length bytes) out) (writing b out)
  writing_whole room = rw is (sym (writing_with_room b out fine (omega (arith, ap length is))))

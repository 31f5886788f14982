-- Bytes that stand at a place of an input, up to another place, and numbers read there. One after the other: if xs
-- stand up to a place and ys from there on, xs ++ ys stand, and the other way round. Both directions of the round trip
-- go by these.
use Prim.Native.Nat.{ℕ, ◌+◌, ◌≤◌}
use native.Mathlib.Omega.{arith}
use mathlib.Core.Path.{◌≡◌, refl, sym, ap, ◌∙◌}
use mathlib.Core.Bool.{Bool, true}
use mathlib.Core.List.{List, [], ◌++◌, append_assoc}
use lib.ListN.{length, drop, length-append}
use Rattle.refusals.specs.declared.Found.{Found}
use Rattle.refusals.specs.Outcomes.{given, found}
use Rattle.number.specs.Numbers.{current_width, number_at, number_bytes, Bytes}
use Rattle.number.proofs.Buffers.{drop_past}
use Rattle.number.proofs.NumberLaws.{number_written_read, number_read_written}
use Rattle.board_reader.specs.Editions.{Edition, current_edition}
use Rattle.board_reader.specs.Reading.{wanted}
use Rattle.board_reader.proofs.FieldLaws.{wanted_passes, wanted-found}

pub record StandsTo (s : List ℕ) (at next : ℕ) (bytes : List ℕ) : Type 0 where
  pub there : drop at s ≡ bytes ++ drop next s
  pub ends : next ≡ at + length bytes

pub stands_none : (s : List ℕ) (at : ℕ) → StandsTo s at at []
stands_none s at = record { there = refl; ends = omega arith }

pub stands-append : (s : List ℕ) (at mid next : ℕ) (xs ys : List ℕ) → StandsTo s at mid xs → StandsTo s mid next ys
    → StandsTo s at next (xs ++ ys)
stands-append s at mid next xs ys first second =
    record {
      there = first.there ∙ ap (λ (l : List ℕ). xs ++ l) second.there ∙ sym (append_assoc xs ys (drop next s));
      ends = omega (arith, first.ends, second.ends, length-append xs ys);
    }

module _ (s : List ℕ) (at next : ℕ) (xs ys : List ℕ) (both : StandsTo s at next (xs ++ ys)) where
  past : drop (at + length xs) s ≡ ys ++ drop next s
  past = drop_past s at xs (ys ++ drop next s) (both.there ∙ append_assoc xs ys (drop next s))

  pub stands_first : StandsTo s at (at + length xs) xs
  stands_first =
      record {
        there = both.there ∙ append_assoc xs ys (drop next s) ∙ ap (λ (l : List ℕ). xs ++ l) (sym past);
        ends = refl;
      }

  pub stands_second : StandsTo s (at + length xs) next ys
  stands_second = record { there = past; ends = omega (arith, both.ends, length-append xs ys) }

-- a number's bytes read back to the number, and a number that was read stands there by its bytes
number-reads : (s : List ℕ) (at next v : ℕ) → v ≤ current_width.largest → StandsTo s at next (number_bytes v)
    → number_at current_width s at ≡ found v next
number-reads s at next v small here =
    number_written_read s at v (drop next s) small here.there ∙ ap (found v) (sym here.ends)

-- the numbers that are read in s by the edition e stand there by the bytes that they are written as
abbrev pub AsWritten : Edition → List ℕ → Type 0
AsWritten e s =
    (at : ℕ) (v : Found ℕ) → number_at e.width s at ≡ given v → StandsTo s at v.next (number_bytes v.value)

pub bytes_as_written : (s : List ℕ) → Bytes s → AsWritten current_edition s
bytes_as_written s bytes at v h =
    let read = number_read_written s at v.value v.next bytes h in
    record { there = read.bytes; ends = read.next }

pub wanted-reads : (ok : ℕ → Bool) (n : ℕ) (s : List ℕ) (at next v : ℕ) → v ≤ current_width.largest → ok v ≡ true
    → StandsTo s at next (number_bytes v) → wanted current_edition ok n s at ≡ found v next
wanted-reads ok n s at next v small fine here =
    wanted_passes current_edition ok n s at v next (number-reads s at next v small here) fine

pub wanted-stands : (e : Edition) (ok : ℕ → Bool) (n : ℕ) (s : List ℕ) (at next v : ℕ) → AsWritten e s
    → wanted e ok n s at ≡ found v next → StandsTo s at next (number_bytes v)
wanted-stands e ok n s at next v written h =
    written at (record { value = v; next = next }) (wanted-found e ok n s at v next h).1

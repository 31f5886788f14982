-- A number's form by its bytes, stated over the call `number::read_number`. Rule book, "The board file": "A number is
-- in groups of seven bits, lowest group first, one byte a group; the top bit is set on every byte but the last. [..]
-- Only the shortest form is allowed: the last byte is 0 only if it is the only byte." Request A1: "Numbers go to
-- 4,294,967,295: up to five bytes, the fifth at most 15"; "2 now means more than five bytes, a value too large, or not
-- shortest".
--     TopBit b             the top bit of the byte b is set
--     groups bs            what the bytes bs are worth: groups of seven bits, lowest group first, one byte a group
--     NumberForm w s at o  what the bytes of s from place `at` on come to as a number of the width w:
--       whole              bytes with the top bit set, fewer than the longest form has, then a last one without it,
--                          which is 0 only if it is the only byte: what they are worth, which is not above the largest
--                          value, and the place just after them
--       cut                1, "input ends inside or before a wanted number", at the "input length": the bytes up to
--                          the input's end, none or fewer than the longest form has, all have the top bit set
--       too_long           2, "more than five bytes", at "its first byte": the top bit is set on as many bytes as the
--                          longest form has, even where the input ends there
--       too_large          2, "a value too large": bytes as for `whole`, but worth more than the largest value
--       not_shortest       2, "or not shortest": the last byte is 0, and not the only byte
--     FormExactly          over the call: it answers o exactly if the bytes come to o, at the current width
-- A slice's bytes are below 256 (`Bytes`); lists do not say so by themselves.
use Rattle.std.specs.Prelude.{ℕ, Result, ◌+◌, ◌*◌, ◌%◌, ◌<◌, ◌≤◌, ◌≡◌, ◌↔◌, List, [], ◌∷◌, ◌++◌, length, drop}
use Rattle.lists.specs.Members.{All}
use Rattle.refusals.specs.declared.Found.{Found}
use Rattle.refusals.specs.declared.Refusal.{Refusal}
use Rattle.refusals.specs.Outcomes.{Outcome, refused, found, told}
use Rattle.refusals.specs.Refusals.{input_ends, bad_form}
use Rattle.number.specs.Numbers.{Width, current_width, Bytes, ReadsNumber}

abbrev pub TopBit : ℕ → Type 0
TopBit b = 128 ≤ b

unfoldable pub groups : List ℕ → ℕ
groups [] = 0
groups (b ∷ bs) = b % 128 + 128 * groups bs

pub data NumberForm (w : Width) (s : List ℕ) (at : ℕ) : Outcome (Found ℕ) → Type 0 where
  whole : (bs rest : List ℕ) (b : ℕ) → drop at s ≡ bs ++ (b ∷ rest) → All TopBit bs → length bs < w.longest → b < 128
      → (b ≡ 0 → bs ≡ []) → groups (bs ++ (b ∷ [])) ≤ w.largest
      → NumberForm w s at (found (groups (bs ++ (b ∷ []))) (at + length (bs ++ (b ∷ []))))
  cut : All TopBit (drop at s) → length (drop at s) < w.longest → NumberForm w s at (refused input_ends (length s))
  too_long : (bs rest : List ℕ) → drop at s ≡ bs ++ rest → All TopBit bs → length bs ≡ w.longest
      → NumberForm w s at (refused bad_form at)
  too_large : (bs rest : List ℕ) (b : ℕ) → drop at s ≡ bs ++ (b ∷ rest) → All TopBit bs → length bs < w.longest
      → b < 128 → (b ≡ 0 → bs ≡ []) → w.largest < groups (bs ++ (b ∷ [])) → NumberForm w s at (refused bad_form at)
  not_shortest : (bs rest : List ℕ) → drop at s ≡ bs ++ (0 ∷ rest) → All TopBit bs → 0 < length bs
      → length bs < w.longest → NumberForm w s at (refused bad_form at)

abbrev pub FormExactly : Type 0
FormExactly =
    (s : List ℕ) (at : ℕ) (r : Result (Found ℕ) Refusal) (o : Outcome (Found ℕ))
    → Bytes s
    → ReadsNumber s at r
    → told r ≡ o ↔ NumberForm current_width s at o

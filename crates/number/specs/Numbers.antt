-- The file's numbers. Rule book, "The board file": "A number is in groups of seven bits, lowest group first, one byte a
-- group; the top bit is set on every byte but the last. [..] Only the shortest form is allowed: the last byte is 0 only
-- if it is the only byte." There, "At most three bytes (2,097,151)"; since request A1, "Numbers go to 4,294,967,295: up
-- to five bytes, the fifth at most 15".
--     Width                           how wide a file's numbers are: `longest`, the longest form, in bytes, and
--                                     `largest`, the largest value
--     three_bytes                     the width before request A1
--     current_width                   the width of the rule book as it stands
--     Bytes s                         every element of s is a byte
--     Form                            what some bytes are as a number:
--       Got v n                       one worth v, of n bytes
--       Ends                          cut
--       Bad                           none, or none in its shortest form
--     below g f                       the group g below the rest of a number, whose form is f
--     form k s                        the number of at most k bytes that the bytes s begin with: got its value and
--                                     length; ends, if s ends inside or before it; bad, if it is longer or not shortest
--     placed w len at f               the form f at place `at` of an input of len bytes, as the rule book answers it
--                                     where numbers have the width w: by 2 too where its value is too large
--     number_at w s at                the number of the width w at place `at` of the input s: its value and the next
--                                     place, or 1 or 2
--     encode k v                      the shortest form of v, where it has at most k bytes; else the k lowest groups of
--                                     v, each with its top bit set
--     number_bytes v                  the bytes that v is written as: its shortest form. Every word of 32 bits has one
--     number_lines v out at           the line of writing v into the buffer `out` at a place: 16 where its bytes have
--                                     no room there
--     number_writing v out at         what that answers, and the buffer afterwards: its bytes stand at the place and
--                                     the rest stays
--     told_form r                     what `read_form` answers, as a form
--     ReadsNumber s at r              promise: `read_number` at place `at` of the bytes s answers r
--     NumberLength v r                promise: `number_length` of v answers r
--     WritesNumber v out at r out'    promise: `write_number` of v into the buffer `out` at a place answers r, and
--                                     leaves the buffer out'
use Rattle.std.specs.Prelude.{ℕ, zero, suc, ◌+◌, ◌-◌, ◌*◌, ◌/◌, ◌%◌, ◌<◌, ◌≡◌, cond, List, [], ◌∷◌, ltb, leb, length}
use Rattle.std.specs.Prelude.{get_or, drop}
use Rattle.std.proofs.lemmas.List.Edits.{sets}
use Rattle.std.specs.Prelude.{Result}
use Rattle.number.specs.declared.Groups.{Groups}
use Rattle.number.specs.declared.Flaw.{Flaw}
use Rattle.number.specs.declared.Flaw.TheVariants.{Cut, NoNumber}
use Rattle.refusals.specs.declared.Found.{Found}
use Rattle.refusals.specs.declared.Refusal.{Refusal}
use Rattle.refusals.specs.Outcomes.{Outcome, refused, given, found, told}
use Rattle.refusals.specs.Refusals.{input_ends, bad_form, buffer_too_short}
use Rattle.refusals.specs.Order.{Order, first_no, answering}

pub record Width : Type 0 where
  pub longest : ℕ
  pub largest : ℕ

abbrev pub three_bytes : Width
three_bytes = record { longest = 3; largest = 2_097_151 }

abbrev pub current_width : Width
current_width = record { longest = 5; largest = 4_294_967_295 }

abbrev pub Bytes : List ℕ → Type 0
Bytes s = (i : ℕ) → get_or s i 0 < 256

pub data Form : Type 0 where
  Got : ℕ → ℕ → Form
  Ends : Form
  Bad : Form

-- a rest of 0 would be a last byte 0 that is not the only byte
unfoldable pub below : ℕ → Form → Form
below g (Got zero n) = Bad
below g (Got (suc v) n) = Got (g + 128 * suc v) (suc n)
below g Ends = Ends
below g Bad = Bad

-- a byte too many is bad at once, even where the input ends there
unfoldable pub form : ℕ → List ℕ → Form
form zero s = Bad
form (suc k) [] = Ends
form (suc k) (b ∷ s) = cond (ltb b 128) (Got b 1) (below (b - 128) (form k s))

unfoldable pub placed : Width → ℕ → ℕ → Form → Outcome (Found ℕ)
placed w len at (Got v n) = cond (leb v w.largest) (found v (at + n)) (refused bad_form at)
placed w len at Ends = refused input_ends len
placed w len at Bad = refused bad_form at

unfoldable pub number_at : Width → List ℕ → ℕ → Outcome (Found ℕ)
number_at w s at = placed w (length s) at (form w.longest (drop at s))

unfoldable pub encode : ℕ → ℕ → List ℕ
encode zero v = []
encode (suc k) v = cond (ltb v 128) (v ∷ []) ((128 + v % 128) ∷ encode k (v / 128))

unfoldable pub number_bytes : ℕ → List ℕ
number_bytes v = encode current_width.longest v

abbrev pub number_lines : ℕ → List ℕ → ℕ → Order
number_lines v out at = (leb (at + length (number_bytes v)) (length out), buffer_too_short) ∷ []

unfoldable pub number_writing : ℕ → List ℕ → ℕ → Outcome ℕ × List ℕ
number_writing v out at =
    answering (first_no (number_lines v out at)) (λ n p. (refused n p, out))
    (λ _. (given (at + length (number_bytes v)), sets out at (number_bytes v)))

abbrev pub told_form : Result Groups Flaw → Form
told_form (Result.Ok g) = Got g.value g.bytes
told_form (Result.Err Cut) = Ends
told_form (Result.Err NoNumber) = Bad

abbrev pub ReadsNumber : List ℕ → ℕ → Result (Found ℕ) Refusal → Type 0
ReadsNumber s at r = told r ≡ number_at current_width s at

abbrev pub NumberLength : ℕ → ℕ → Type 0
NumberLength v r = r ≡ length (number_bytes v)

abbrev pub WritesNumber : ℕ → List ℕ → ℕ → Result ℕ Refusal → List ℕ → Type 0
WritesNumber v out at r out' = ◌≡◌ {A = Outcome ℕ × List ℕ} (told r, out') (number_writing v out at)

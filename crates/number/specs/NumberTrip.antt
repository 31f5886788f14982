-- The round trip of a number, stated over the calls `number::write_number` and `number::read_number`: whatever they
-- answer under their promises. Request A1: "demand 2's round trip covers the new range". A board holds no number so
-- large; a session's allowance may be one.
--     NumberWrittenRead    a value up to the largest number, once written, is read back from its place, and reading
--                          stops where writing stopped
--     NumberReadWritten    a number that was read and is written, at any place of any buffer where as many bytes have
--                          room, is not refused, and has there the bytes that were read
-- A slice's bytes are below 256 (`Bytes`); lists do not say so by themselves.
use Rattle.std.specs.Prelude.{ℕ, Result, ◌+◌, ◌-◌, ◌≤◌, ◌≡◌, List, length, take, drop}
use Rattle.refusals.specs.declared.Found.{Found}
use Rattle.refusals.specs.declared.Refusal.{Refusal}
use Rattle.refusals.specs.Outcomes.{given, found, told}
use Rattle.number.specs.Numbers.{current_width, Bytes, ReadsNumber, WritesNumber}

abbrev pub NumberWrittenRead : Type 0
NumberWrittenRead =
    (v at n : ℕ) (out out' : List ℕ) (w : Result ℕ Refusal) (r : Result (Found ℕ) Refusal)
    → v ≤ current_width.largest
    → WritesNumber v out at w out'
    → told w ≡ given n
    → ReadsNumber out' at r
    → told r ≡ found v n

abbrev pub NumberReadWritten : Type 0
NumberReadWritten =
    (s out out' : List ℕ) (at v n i : ℕ) (r : Result (Found ℕ) Refusal) (w : Result ℕ Refusal)
    → Bytes s
    → ReadsNumber s at r
    → told r ≡ found v n
    → WritesNumber v out i w out'
    → let m = i + (n - at) in
    m ≤ length out
    → (told w ≡ given m) × (drop i (take m out') ≡ drop at (take n s))

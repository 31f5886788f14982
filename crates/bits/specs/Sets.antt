-- Sets of small numbers, each set a number: n is a member exactly if bit n, the one worth 2 ^ n, is set.
--     member s n             n is a member of s
--     room                   how many numbers a word has room for: 0 to 63
--     including s n          s with n as a member besides, where a word has room for n
--     excluding s n          s without n
--     flipped s n            s without n if it is a member, and else with it, where a word has room for n
--     remaining s t          the members of s that are not in t: those of s and not of both
--     together s t           the members of either set
--     first_from ok k n      the first of n, n + 1, … (k numbers) that passes the test `ok`; else the number after them
--     lowest_from s n        the lowest member of s from n up; where there is none, the larger of n and the room of a
--                            word
--     member_from s n        the lowest member of s from n up, if there is one
--     within s n             every member of s is below n
--     sum_below k s          the sum of 2 ^ n over those members n of s that are below k
--     SetHas s n r           promise: `has` of s and n answers r
--     SetWith s n r          promise: `with` of s and n answers r
--     SetWithout s n r       promise: `without` of s and n answers r
--     SetFlipped s n r       promise: `flip` of s and n answers r
--     SetRemaining s t r     promise: `remaining` of s and t answers r
--     SetTogether s t r      promise: `together` of s and t answers r
--     SetLowestFrom s n r    promise: `lowest_from` of s and n answers r
--     SetAllBelow s n r      promise: `all_below` of s and n answers r
--     WideByte x r           promise: the byte x, taken as the number that the functions above take, is r, which is
--                            below 256
-- The rule book's sets are the drawn relays, the pushed buttons, the windings that each relay has, and the marked
-- relays, which are a board's start; its "sum of 2 to the relay number over drawn relays" is such a set as a number.
use Rattle.std.specs.Prelude.{ℕ, zero, suc, ◌+◌, ◌-◌, ◌/◌, ◌%◌, ◌^◌, ◌<◌, ◌≡◌, Bool, cond, ltb, eqb, Option, Some, None}
use Rattle.std.specs.Int.Bits.{bit_and, bit_or, bit_xor}

unfoldable pub member : ℕ → ℕ → Bool
member s n = eqb (s / 2 ^ n % 2) 1

abbrev pub room : ℕ
room = 64

unfoldable pub including : ℕ → ℕ → ℕ
including s n = cond (ltb n room) (cond (member s n) s (s + 2 ^ n)) s

unfoldable pub excluding : ℕ → ℕ → ℕ
excluding s n = cond (member s n) (s - 2 ^ n) s

unfoldable pub flipped : ℕ → ℕ → ℕ
flipped s n = cond (member s n) (excluding s n) (including s n)

unfoldable pub remaining : ℕ → ℕ → ℕ
remaining s t = bit_xor s (bit_and s t)

unfoldable pub together : ℕ → ℕ → ℕ
together s t = bit_or s t

unfoldable pub first_from : (ℕ → Bool) → ℕ → ℕ → ℕ
first_from ok zero n = n
first_from ok (suc k) n = cond (ok n) n (first_from ok k (suc n))

unfoldable pub lowest_from : ℕ → ℕ → ℕ
lowest_from s n = first_from (member s) (room - n) n

unfoldable pub member_from : ℕ → ℕ → Option ℕ
member_from s n = cond (ltb (lowest_from s n) room) (Some (lowest_from s n)) None

unfoldable pub within : ℕ → ℕ → Bool
within s n = ltb s (2 ^ n)

unfoldable pub sum_below : ℕ → ℕ → ℕ
sum_below zero s = 0
sum_below (suc k) s = sum_below k s + cond (member s k) (2 ^ k) 0

abbrev pub SetHas : ℕ → ℕ → Bool → Type 0
SetHas s n r = r ≡ member s n

abbrev pub SetWith : ℕ → ℕ → ℕ → Type 0
SetWith s n r = r ≡ including s n

abbrev pub SetWithout : ℕ → ℕ → ℕ → Type 0
SetWithout s n r = r ≡ excluding s n

abbrev pub SetFlipped : ℕ → ℕ → ℕ → Type 0
SetFlipped s n r = r ≡ flipped s n

abbrev pub SetRemaining : ℕ → ℕ → ℕ → Type 0
SetRemaining s t r = r ≡ remaining s t

abbrev pub SetTogether : ℕ → ℕ → ℕ → Type 0
SetTogether s t r = r ≡ together s t

abbrev pub SetLowestFrom : ℕ → ℕ → Option ℕ → Type 0
SetLowestFrom s n r = r ≡ member_from s n

abbrev pub SetAllBelow : ℕ → ℕ → Bool → Type 0
SetAllBelow s n r = r ≡ within s n

abbrev pub WideByte : ℕ → ℕ → Type 0
WideByte x r = (r ≡ x) × (r < 256)

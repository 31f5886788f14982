-- The laws of sets of small numbers: what `including`, `excluding`, `remaining` and `together` do to each member, and
-- what the first two do to the width. Every proof that speaks of drawn relays, pushed buttons or windings cites these.
-- The last section is for the proofs of `has`, `with`, `without` and `all_below`.
use Prim.Native.Nat.{ℕ, zero, suc, ◌+◌, ◌-◌, ◌*◌, ◌/◌, ◌%◌, ◌^◌, ◌≤◌, ◌<◌}
use mathlib.Core.Path.{◌≡◌, refl, sym, ap, ap₂, ◌∙◌}
use mathlib.Core.Bool.{true, false, not, ◌&&◌, ◌||◌, or-true, or-false, false≢true}
use native.Mathlib.Omega.{arith}
use native.Mathlib.Nat.{mod-lt, div-eq_of_lt, div-one, pow-suc, lt_of_lt_of_le, add-div_right, one-mul, zero-mul}
use native.Mathlib.Nat.{add-zero, zero-div, sub-add_cancel}
use native.Mathlib.Numerals.{one-add}
use borrow.Author.Tests.{ltb-true, ltb-false, eqb-true, eqb-false, lt-ltb, le-ltb, eq-eqb, ne_eqb}
use lib.Dec.{ltb, eqb}
use lib.Arith.{bin_ind}
use lib.Pow.{pow_pos, pow_mono, split, shr-shr, shl_exact}
use lib.Bits.{bit_and, bit_or, bit_xor, and_block, and_mask, and_zero_r, and_zero_l, or_add_and, xor_add_and, and_shr}
use lib.Bits.{or_shr, xor_shr, and_mod, or_mod, xor_mod}
use Rattle.bits.proofs.BoolLaws.{by_test, by_less}
use Rattle.bits.specs.Sets.{room, member, including, excluding, flipped, remaining, together, within}

-- ---- a member by its bit, lowest first

member_lowest : (s : ℕ) → member s 0 ≡ eqb (s % 2) 1
unfolding member
member_lowest s = ap (λ (x : ℕ). eqb (x % 2) 1) (div-one s)

member_next : (s n : ℕ) → member s (suc n) ≡ member (s / 2) n
unfolding member
member_next s n =
    ap (λ (k : ℕ). eqb (s / 2 ^ k % 2) 1) (sym (one-add n)) ∙ ap (λ (x : ℕ). eqb (x % 2) 1) (sym (shr-shr s 1 n))

member_set : (s n : ℕ) → member s n ≡ true → s / 2 ^ n % 2 ≡ 1
unfolding member
member_set s n h = eqb-true (s / 2 ^ n % 2) 1 h

member_clear : (s n : ℕ) → member s n ≡ false → s / 2 ^ n % 2 ≡ 0
unfolding member
member_clear s n h = omega (arith, eqb-false (s / 2 ^ n % 2) 1 h)

set-member : (s n : ℕ) → s / 2 ^ n % 2 ≡ 1 → member s n ≡ true
unfolding member
set-member s n h = eq-eqb (s / 2 ^ n % 2) 1 h

clear-member : (s n : ℕ) → s / 2 ^ n % 2 ≡ 0 → member s n ≡ false
unfolding member
clear-member s n h = ne_eqb (s / 2 ^ n % 2) 1 (λ e. omega arith)

-- ---- the bit's worth, 2 ^ n, added where the bit is clear and taken where it is set

added-same : (s n : ℕ) → member s n ≡ false → member (s + 2 ^ n) n ≡ true
added-same s n clear = set-member (s + 2 ^ n) n (omega (arith, member_clear s n clear, add-div_right s (pow_pos n)))

even_half : (s : ℕ) → member s 0 ≡ false → (s + 1) / 2 ≡ s / 2
even_half s clear = omega (arith, member_clear s 0 clear)

worth_odd : (s n : ℕ) → (s + 2 ^ suc n) % 2 ≡ s % 2
worth_odd s n = omega (arith, pow-suc 2 n)

worth_half : (s n : ℕ) → (s + 2 ^ suc n) / 2 ≡ s / 2 + 2 ^ n
worth_half s n = omega (arith, pow-suc 2 n)

added_other : (s n m : ℕ) → member s n ≡ false → (m ≡ n → ⊥) → member (s + 2 ^ n) m ≡ member s m
added_other s zero zero clear other = absurd (other refl)
added_other s zero (suc m) clear other =
    member_next (s + 1) m
    ∙ ap (λ (x : ℕ). member x m) (even_half s clear)
    ∙ sym (member_next s m)
added_other s (suc n) zero clear other =
    member_lowest (s + 2 ^ suc n)
    ∙ ap (λ (x : ℕ). eqb x 1) (worth_odd s n)
    ∙ sym (member_lowest s)
added_other s (suc n) (suc m) clear other =
    member_next (s + 2 ^ suc n) m
    ∙ ap (λ (x : ℕ). member x m) (worth_half s n)
    ∙ added_other (s / 2) n m (sym (member_next s n) ∙ clear) (λ e. other (ap suc e))
    ∙ sym (member_next s m)

member_worth : (s n : ℕ) → member s n ≡ true → 2 ^ n ≤ s
member_worth s n set =
    by_less s (2 ^ n)
    (λ less. omega (arith, member_set s n set, div-eq_of_lt less))
    (λ enough. enough)

taken-same : (s n : ℕ) → member s n ≡ true → member (s - 2 ^ n) n ≡ false
taken-same s n set =
    clear-member (s - 2 ^ n) n
    (omega (
      arith,
      member_set s n set,
      add-div_right (s - 2 ^ n) (pow_pos n),
      ap (λ (x : ℕ). x / 2 ^ n) (sub-add_cancel (member_worth s n set)),
    ))

taken_other : (s n m : ℕ) → member s n ≡ true → (m ≡ n → ⊥) → member (s - 2 ^ n) m ≡ member s m
taken_other s n m set other =
    sym (added_other (s - 2 ^ n) n m (taken-same s n set) other)
    ∙ ap (λ (x : ℕ). member x m) (sub-add_cancel (member_worth s n set))

-- ---- `including` and `excluding` by their cases

including-member : (s n : ℕ) → member s n ≡ true → including s n ≡ s
unfolding including
including-member s n set = by_test (ltb n room) (λ e. rw (e, set)) (λ e. rw e)

pub including_new : (s n : ℕ) → n < room → member s n ≡ false → including s n ≡ s + 2 ^ n
unfolding including
including_new s n fits clear = rw (lt-ltb n room fits, clear)

pub including-beyond : (s n : ℕ) → room ≤ n → including s n ≡ s
unfolding including
including-beyond s n beyond = rw (le-ltb n room beyond)

excluding-member : (s n : ℕ) → member s n ≡ true → excluding s n ≡ s - 2 ^ n
unfolding excluding
excluding-member s n set = rw set

pub excluding_absent : (s n : ℕ) → member s n ≡ false → excluding s n ≡ s
unfolding excluding
excluding_absent s n clear = rw clear

-- ---- the members after a change

pub member-including-same : (s n : ℕ) → n < room → member (including s n) n ≡ true
member-including-same s n fits =
    by_test (member s n)
    (λ set. ap (λ (x : ℕ). member x n) (including-member s n set) ∙ set)
    (λ clear. ap (λ (x : ℕ). member x n) (including_new s n fits clear) ∙ added-same s n clear)

pub member-including_other : (s n m : ℕ) → (m ≡ n → ⊥) → member (including s n) m ≡ member s m
member-including_other s n m other =
    by_test (member s n)
    (λ set. ap (λ (x : ℕ). member x m) (including-member s n set))
    (λ clear. by_less n room
    (λ fits. ap (λ (x : ℕ). member x m) (including_new s n fits clear) ∙ added_other s n m clear other)
    (λ beyond. ap (λ (x : ℕ). member x m) (including-beyond s n beyond)))

-- what is a member stays one
pub including-kept : (s n m : ℕ) → member s m ≡ true → member (including s n) m ≡ true
including-kept s n m is =
    by_test (ltb n room)
    (λ fits. by_test (eqb m n)
    (λ same. rw (eqb-true m n same) (member-including-same s n (ltb-true n room fits)))
    (λ differ. member-including_other s n m (eqb-false m n differ) ∙ is))
    (λ beyond. ap (λ (k : ℕ). member k m) (including-beyond s n (ltb-false n room beyond)) ∙ is)

pub member-including : (s n m : ℕ) → m < room → member (including s n) m ≡ (member s m || eqb m n)
member-including s n m fits =
    by_test (eqb m n)
    (λ same. ap (λ (k : ℕ). member (including s k) m) (sym (eqb-true m n same)) ∙ member-including-same s m fits
    ∙ rw same (sym (or-true (member s m))))
    (λ other. member-including_other s n m (eqb-false m n other) ∙ rw other (sym (or-false (member s m))))

pub member-excluding-same : (s n : ℕ) → member (excluding s n) n ≡ false
member-excluding-same s n =
    by_test (member s n)
    (λ set. ap (λ (x : ℕ). member x n) (excluding-member s n set) ∙ taken-same s n set)
    (λ clear. ap (λ (x : ℕ). member x n) (excluding_absent s n clear) ∙ clear)

pub member-excluding_other : (s n m : ℕ) → (m ≡ n → ⊥) → member (excluding s n) m ≡ member s m
member-excluding_other s n m other =
    by_test (member s n)
    (λ set. ap (λ (x : ℕ). member x m) (excluding-member s n set) ∙ taken_other s n m set other)
    (λ clear. ap (λ (x : ℕ). member x m) (excluding_absent s n clear))

-- to flip a member takes back that it was included, and the other way round
pub flipped_included : (s n : ℕ) → n < room → member s n ≡ false → flipped (including s n) n ≡ s
unfolding flipped
flipped_included s n fits clear =
    rw (member-including-same s n fits)
    (excluding-member (including s n) n (member-including-same s n fits) ∙ omega (arith, including_new s n fits clear))

pub flipped_excluded : (s n : ℕ) → n < room → member s n ≡ true → flipped (excluding s n) n ≡ s
unfolding flipped
flipped_excluded s n fits set =
    rw (member-excluding-same s n)
    (including_new (excluding s n) n fits (member-excluding-same s n)
    ∙ omega (arith, excluding-member s n set, member_worth s n set))

-- ---- the set without members

pub member_none : (n : ℕ) → member 0 n ≡ false
member_none n = clear-member 0 n (omega (arith, zero-div (2 ^ n)))

no_members : (s : ℕ) → ((n : ℕ) → member s n ≡ false) → s ≡ 0
no_members =
    bin_ind (λ (s : ℕ). ((n : ℕ) → member s n ≡ false) → s ≡ 0)
    (λ none. refl)
    (λ s half none. omega (arith, half (λ n. sym (member_next s n) ∙ none (suc n)), member_clear s 0 (none 0)))

-- what is a member of the set of one number is that number
pub member-alone : (n m : ℕ) → member (including 0 n) m ≡ true → n ≡ m
member-alone n m is =
    by_test (eqb m n)
    (λ same. sym (eqb-true m n same))
    (λ differ. absurd (false≢true (sym (member-including_other 0 n m (eqb-false m n differ) ∙ member_none m) ∙ is)))

-- sets with the same members are one number
pub members_equal : (s t : ℕ) → ((n : ℕ) → member s n ≡ member t n) → s ≡ t
members_equal =
    bin_ind (λ (s : ℕ). (t : ℕ) → ((n : ℕ) → member s n ≡ member t n) → s ≡ t)
    (λ t same. sym (no_members t (λ n. sym (same n) ∙ member_none n)))
    (λ s half t same.
    let halves = half (t / 2) (λ n. sym (member_next s n) ∙ same (suc n) ∙ member_next t n) in
    by_test (member s 0)
    (λ set. omega (arith, halves, member_set s 0 set, member_set t 0 (sym (same 0) ∙ set)))
    (λ clear. omega (arith, halves, member_clear s 0 clear, member_clear t 0 (sym (same 0) ∙ clear))))

-- ---- the width: every member is below k exactly if the number is below 2 ^ k

pub member-beyond : (s k n : ℕ) → s < 2 ^ k → k ≤ n → member s n ≡ false
member-beyond s k n small beyond =
    clear-member s n (omega (arith, div-eq_of_lt (lt_of_lt_of_le small (pow_mono beyond))))

pub member_below : (s k n : ℕ) → s < 2 ^ k → member s n ≡ true → n < k
member_below s k n small set =
    by_less n k (λ below. below)
    (λ beyond. absurd (false≢true (sym (member-beyond s k n small beyond) ∙ set)))

pub below-member : (s k : ℕ) → ((n : ℕ) → member s n ≡ true → n < k) → s < 2 ^ k
below-member s zero low =
    omega (arith, no_members s (λ n. by_test (member s n) (λ set. absurd (omega (arith, low n set))) (λ clear. clear)))
below-member s (suc k) low =
    omega (arith, pow-suc 2 k, below-member (s / 2) k (λ n set. omega (arith, low (suc n) (member_next s n ∙ set))))

pub within-member : (s k n : ℕ) → within s k ≡ true → member s n ≡ true → n < k
unfolding within
within-member s k n all set = member_below s k n (ltb-true s (2 ^ k) all) set

pub member-within : (s k : ℕ) → ((n : ℕ) → member s n ≡ true → n < k) → within s k ≡ true
unfolding within
member-within s k low = lt-ltb s (2 ^ k) (below-member s k low)

pub within_none : (k : ℕ) → within 0 k ≡ true
unfolding within
within_none k = lt-ltb 0 (2 ^ k) (pow_pos k)

pub within-including : (s k n : ℕ) → within s k ≡ true → n < k → within (including s n) k ≡ true
within-including s k n all fits =
    member-within (including s n) k
    (λ m set. by_test (eqb m n)
    (λ same. omega (arith, eqb-true m n same))
    (λ other. within-member s k m all (sym (member-including_other s n m (eqb-false m n other)) ∙ set)))

-- a word with all its bits set has every number as a member
pub member-every : (n : ℕ) → n < room → member 18446744073709551615 n ≡ true
unfolding within
member-every n below =
    by_test (member 18446744073709551615 n) (λ set. set)
    (λ clear.
    let more =
    ltb-true (including 18446744073709551615 n) (2 ^ room)
    (within-including 18446744073709551615 room n refl below) in
    absurd (omega (arith, more, including_new 18446744073709551615 n below clear, pow_pos n)))

pub within-excluding : (s k n : ℕ) → within s k ≡ true → within (excluding s n) k ≡ true
unfolding within
within-excluding s k n all =
    let small = ltb-true s (2 ^ k) all in
    by_test (member s n)
    (λ set. lt-ltb _ (2 ^ k) (omega (arith, excluding-member s n set, small)))
    (λ clear. rw (excluding_absent s n clear) all)

-- ---- the members of a set that are not in another

-- bit by bit
remaining_bit : (s t n : ℕ) → remaining s t / 2 ^ n % 2 ≡ bit_xor (s / 2 ^ n % 2)
    (bit_and (s / 2 ^ n % 2) (t / 2 ^ n % 2))
unfolding remaining
remaining_bit s t n =
    ap (λ (x : ℕ). x % 2 ^ 1) (xor_shr s (bit_and s t) n ∙ ap (bit_xor (s / 2 ^ n)) (and_shr s t n))
    ∙ xor_mod (s / 2 ^ n) (bit_and (s / 2 ^ n) (t / 2 ^ n)) 1
    ∙ ap (bit_xor (s / 2 ^ n % 2)) (and_mod (s / 2 ^ n) (t / 2 ^ n) 1)

pub member-remaining : (s t n : ℕ) → member (remaining s t) n ≡ (member s n && not (member t n))
member-remaining s t n =
    by_test (member s n)
    (λ set.
    by_test (member t n)
    (λ taken. rw (set, taken)
    (clear-member (remaining s t) n (remaining_bit s t n ∙ ap₂ (λ (x y : ℕ). bit_xor x (bit_and x y))
    (member_set s n set) (member_set t n taken))))
    (λ left. rw (set, left)
    (set-member (remaining s t) n (remaining_bit s t n ∙ ap₂ (λ (x y : ℕ). bit_xor x (bit_and x y))
    (member_set s n set) (member_clear t n left)))))
    (λ clear. rw clear
    (clear-member (remaining s t) n (remaining_bit s t n ∙ ap (λ (x : ℕ). bit_xor x (bit_and x (t / 2 ^ n % 2)))
    (member_clear s n clear) ∙ ap (bit_xor 0) (and_zero_l (t / 2 ^ n % 2)))))

-- ---- the members of either set

-- bit by bit
together_bit : (s t n : ℕ) → together s t / 2 ^ n % 2 ≡ bit_or (s / 2 ^ n % 2) (t / 2 ^ n % 2)
unfolding together
together_bit s t n = ap (λ (x : ℕ). x % 2 ^ 1) (or_shr s t n) ∙ or_mod (s / 2 ^ n) (t / 2 ^ n) 1

pub member-together : (s t n : ℕ) → member (together s t) n ≡ (member s n || member t n)
unfolding member
member-together s t n =
    by_test (member s n)
    (λ set. rw set (set-member (together s t) n (by_test (member t n)
    (λ other. together_bit s t n ∙ ap₂ bit_or (member_set s n set) (member_set t n other))
    (λ off. together_bit s t n ∙ ap₂ bit_or (member_set s n set) (member_clear t n off)))))
    (λ clear. rw clear
    (ap (λ (x : ℕ). eqb x 1)
    (together_bit s t n ∙ ap (λ (x : ℕ). bit_or x (t / 2 ^ n % 2)) (member_clear s n clear))))

-- ---- what the code's shifts and masks are, for the proofs of `has`, `with`, `without` and `all_below`

-- `1 << n` is the worth of bit n
shifted_one : (n : ℕ) → n < room → 1 * 2 ^ n % 2 ^ room ≡ 2 ^ n
shifted_one n fits = shl_exact 1 n room (omega arith) (omega arith) ∙ one-mul (2 ^ n)

and_worth : (s n : ℕ) → bit_and s (2 ^ n) ≡ s / 2 ^ n % 2 * 2 ^ n
and_worth s n =
    ap₂ bit_and (sym (split s n)) (sym (add-zero (1 * 2 ^ n) ∙ one-mul (2 ^ n)))
    ∙ and_block n (s / 2 ^ n) 1 (s % 2 ^ n) 0 (mod-lt s (pow_pos n)) (pow_pos n)
    ∙ ap₂ (λ (x y : ℕ). x * 2 ^ n + y) (and_mask (s / 2 ^ n) 1) (and_zero_r (s % 2 ^ n))
    ∙ add-zero (s / 2 ^ n % 2 * 2 ^ n)

and-member : (s n : ℕ) → member s n ≡ true → bit_and s (2 ^ n) ≡ 2 ^ n
and-member s n set = and_worth s n ∙ ap (λ (x : ℕ). x * 2 ^ n) (member_set s n set) ∙ one-mul (2 ^ n)

and_absent : (s n : ℕ) → member s n ≡ false → bit_and s (2 ^ n) ≡ 0
and_absent s n clear = and_worth s n ∙ ap (λ (x : ℕ). x * 2 ^ n) (member_clear s n clear) ∙ zero-mul (2 ^ n)

or-including : (s n : ℕ) → n < room → bit_or s (2 ^ n) ≡ including s n
or-including s n fits =
    by_test (member s n)
    (λ set. omega (arith, or_add_and s (2 ^ n), and-member s n set, including-member s n set))
    (λ clear. omega (arith, or_add_and s (2 ^ n), and_absent s n clear, including_new s n fits clear))

xor-excluding : (s n : ℕ) → member s n ≡ true → bit_xor s (2 ^ n) ≡ excluding s n
xor-excluding s n set =
    omega (arith, xor_add_and s (2 ^ n), and-member s n set, excluding-member s n set, member_worth s n set)

xor-including : (s n : ℕ) → n < room → member s n ≡ false → bit_xor s (2 ^ n) ≡ including s n
xor-including s n fits clear =
    omega (arith, xor_add_and s (2 ^ n), and_absent s n clear, including_new s n fits clear)

pub flip_shifted : (s n : ℕ) → n < room → bit_xor s (1 * 2 ^ n % 2 ^ room) ≡ flipped s n
unfolding flipped
flip_shifted s n fits =
    ap (bit_xor s) (shifted_one n fits)
    ∙ by_test (member s n)
    (λ set. xor-excluding s n set ∙ rw set refl) (λ clear. xor-including s n fits clear ∙ rw clear refl)

pub flipped-beyond : (s n : ℕ) → s < 2 ^ room → room ≤ n → flipped s n ≡ s
unfolding flipped
flipped-beyond s n small beyond =
    rw (member-beyond s room n small beyond) (including-beyond s n beyond)

pub with_shifted : (s n : ℕ) → n < room → bit_or s (1 * 2 ^ n % 2 ^ room) ≡ including s n
with_shifted s n fits = ap (bit_or s) (shifted_one n fits) ∙ or-including s n fits

pub without_shifted : (s n : ℕ) → s < 2 ^ room → member s n ≡ true → bit_xor s (1 * 2 ^ n % 2 ^ room) ≡ excluding s n
without_shifted s n small set = ap (bit_xor s) (shifted_one n (member_below s room n small set)) ∙ xor-excluding s n set

pub within_shifted : (s k : ℕ) → eqb (s / 2 ^ k) 0 ≡ within s k
unfolding within
within_shifted s k =
    by_less s (2 ^ k)
    (λ small. eq-eqb (s / 2 ^ k) 0 (div-eq_of_lt small) ∙ sym (lt-ltb s (2 ^ k) small))
    (λ large. ne_eqb (s / 2 ^ k) 0
    (λ none. omega (arith, split s k, mod-lt s (pow_pos k), large, ap (λ (x : ℕ). x * 2 ^ k) none))
    ∙ sym (le-ltb s (2 ^ k) large))

pub within-room : (s k : ℕ) → s < 2 ^ room → room ≤ k → within s k ≡ true
unfolding within
within-room s k small past = lt-ltb s (2 ^ k) (lt_of_lt_of_le small (pow_mono past))

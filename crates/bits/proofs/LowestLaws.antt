-- Laws of the first number from n up that passes a test, and of the lowest member of a set from n up: what
-- `lowest_from` needs, by the trailing zeros that it counts, and what a search among a set's members needs.
use Prim.Native.Nat.{ℕ, zero, suc, ◌+◌, ◌-◌, ◌/◌, ◌%◌, ◌^◌, ◌<◌, ◌≤◌}
use native.Mathlib.Omega.{arith}
use native.Mathlib.Nat.{mod-lt, zero-lt-suc}
use native.Mathlib.Numerals.{add-one}
use mathlib.Core.Path.{◌≡◌, refl, ap, sym, ◌∙◌, subst}
use mathlib.Core.Bool.{Bool, true, false, cond}
use Rattle.std.specs.Prelude.{Some, None}
use lib.Count.{count_trailing_zeros, under}
use lib.Dec.{eqb, ltb}
use borrow.Author.Tests.{ltb-true, ltb-false, lt-ltb, le-ltb}
use lib.Pow.{shr-shr}
use Rattle.bits.specs.Sets.{room, member, first_from, lowest_from, member_from}
use Rattle.bits.proofs.BoolLaws.{by_test, by_less}

-- ---- the first number that passes

pub first_end : (ok : ℕ → Bool) (t n : ℕ) → t ≤ n → n ≡ first_from ok (t - n) n
unfolding first_from
first_end ok t n h = let none : t - n ≡ 0 = omega arith in rw none refl

first_least : (ok : ℕ → Bool) (k n : ℕ) → n ≤ first_from ok k n
unfolding first_from
first_least ok zero n = omega arith
first_least ok (suc k) n =
    by_test (ok n)
    (λ here. rw here (omega arith))
    (λ past. rw past (omega (arith, first_least ok k (suc n))))

pub first_after : (ok : ℕ → Bool) (k n m : ℕ) → m ≡ first_from ok k n → n ≤ m
first_after ok k n m e = omega (arith, e, first_least ok k n)

-- tests that agree on the numbers tried find the same one
pub first-same : (ok fine : ℕ → Bool) (k n : ℕ) → ((m : ℕ) → m < n + k → ok m ≡ fine m)
    → first_from ok k n ≡ first_from fine k n
unfolding first_from
first-same ok fine zero n agree = refl
first-same ok fine (suc k) n agree =
    rw (agree n (omega arith), first-same ok fine k (suc n) (λ m below. agree m (omega (arith, below)))) refl

-- fewer numbers are tried: the first is the same, or there is none among them
first_fewer : (ok : ℕ → Bool) (k l n : ℕ) → k ≤ l
    → (first_from ok l n < n + k → first_from ok k n ≡ first_from ok l n)
    × (n + k ≤ first_from ok l n → first_from ok k n ≡ n + k)
unfolding first_from
first_fewer ok zero l n few = (λ below. absurd (omega (arith, below, first_least ok l n)), λ past. omega arith)
first_fewer ok (suc k) zero n few = absurd (omega (arith, few))
first_fewer ok (suc k) (suc l) n few =
    by_test (ok n)
    (λ here. rw here (λ below. refl, λ past. absurd (omega (arith, past))))
    (λ off.
    let rest = first_fewer ok k l (suc n) (omega (arith, few)) in
    rw off (λ below. rest.0 (omega (arith, below)), λ past. rest.1 (omega (arith, past)) ∙ omega arith))

-- of l numbers, those below t alone are tried: the first is the same, or t where none of them passes
pub first_below : (ok : ℕ → Bool) (t l n m : ℕ) → n ≤ t → t ≤ n + l → m ≡ first_from ok l n
    → (m < t → m ≡ first_from ok (t - n) n) × (t ≤ m → t ≡ first_from ok (t - n) n)
first_below ok t l n m start most e =
    let fewer = first_fewer ok (t - n) l n (omega arith) in
    let end : t ≡ n + (t - n) = omega (arith, start) in
    (λ below. e ∙ sym (fewer.0 (omega (arith, e, below))), λ past. end ∙ sym (fewer.1 (omega (arith, e, past, end))))

-- the first passes, where there is one; where there is none, no number tried does
pub first_found : (ok : ℕ → Bool) (k n : ℕ) → first_from ok k n < n + k → ok (first_from ok k n) ≡ true
unfolding first_from
first_found ok zero n some = absurd (omega (arith, some))
first_found ok (suc k) n some =
    by_test (ok n)
    (λ here. rw here here)
    (λ past. rw past (first_found ok k (suc n) (omega (arith, rw past at some))))

pub first_absent : (ok : ℕ → Bool) (k n m : ℕ) → n + k ≤ first_from ok k n → n ≤ m → m < n + k → ok m ≡ false
unfolding first_from
first_absent ok zero n m none from below = absurd (omega arith)
first_absent ok (suc k) n m none from below =
    by_test (ok n)
    (λ here. absurd (omega (arith, rw here at none)))
    (λ past. by_less n m
    (λ later. first_absent ok k (suc n) m (omega (arith, rw past at none)) later (omega arith))
    (λ here. let at_n : m ≡ n = omega arith in rw at_n past))

-- no number before the first passes
pub first-before : (ok : ℕ → Bool) (k n m : ℕ) → n ≤ m → m < first_from ok k n → ok m ≡ false
unfolding first_from
first-before ok zero n m from before = absurd (omega (arith, from, before))
first-before ok (suc k) n m from before =
    by_test (ok n)
    (λ here. absurd (omega (arith, from, rw here at before)))
    (λ past. by_less n m
    (λ later. first-before ok k (suc n) m later (rw past at before))
    (λ here. let at_n : m ≡ n = omega arith in rw at_n past))

-- ---- the lowest member: it is a member, where there is one; where there is none, no number of a word from n up is

pub lowest-found : (s n : ℕ) → lowest_from s n < room → member s (lowest_from s n) ≡ true
unfolding lowest_from
lowest-found s n some = first_found (member s) (room - n) n (omega arith)

pub lowest_after : (s n : ℕ) → n ≤ lowest_from s n
unfolding lowest_from
lowest_after s n = first_least (member s) (room - n) n

pub lowest_between : (s n m : ℕ) → n ≤ m → m < lowest_from s n → member s m ≡ false
unfolding lowest_from
lowest_between s n m from before = first-before (member s) (room - n) n m from before

pub lowest_absent : (s n m : ℕ) → room ≤ lowest_from s n → n ≤ m → m < room → member s m ≡ false
unfolding lowest_from
lowest_absent s n m none from below = first_absent (member s) (room - n) n m (omega arith) from (omega arith)

-- ---- the lowest member by trailing zeros: those of the set without its bits below n are the numbers passed over

-- the lowest bit d: a member is found at n, or n is passed over and t more numbers lead to m
trailing_bit : (d n t m : ℕ) → d < 2 → suc n + t ≡ m → n + under d t ≡ cond (eqb d 1) n m
trailing_bit zero n t m bit e = omega (arith, e)
trailing_bit (suc zero) n t m bit e = omega arith
trailing_bit (suc (suc d)) n t m bit e = absurd (omega (arith, bit))

first_trailing : (s k n : ℕ) → n + count_trailing_zeros k (s / 2 ^ n) ≡ first_from (member s) k n
unfolding count_trailing_zeros first_from member
first_trailing s zero n = omega arith
first_trailing s (suc k) n =
    let next : s / 2 ^ n / 2 ≡ s / 2 ^ suc n = shr-shr s n 1 ∙ ap (λ (j : ℕ). s / 2 ^ j) (add-one n) in
    trailing_bit (s / 2 ^ n % 2) n (count_trailing_zeros k (s / 2 ^ n / 2)) (first_from (member s) k (suc n))
    (mod-lt (s / 2 ^ n) (zero-lt-suc 1))
    (ap (λ (x : ℕ). suc n + count_trailing_zeros k x) next ∙ first_trailing s k (suc n))

-- the zeros that the shift brings in can lead past a word's room: then there is no member
pub lowest_trailing : (s n m : ℕ) → n ≤ room → m ≡ n + count_trailing_zeros room (s / 2 ^ n)
    → (m < room → m ≡ lowest_from s n) × (room ≤ m → room ≡ lowest_from s n)
unfolding lowest_from
lowest_trailing s n m start e =
    first_below (member s) room room n m start (omega arith) (e ∙ first_trailing s room n)

pub lowest-beyond : (s n : ℕ) → room ≤ n → n ≡ lowest_from s n
unfolding lowest_from
lowest-beyond s n past = first_end (member s) room n past

-- ---- the lowest member, if there is one

member_from-some : (s n m : ℕ) → m < room → m ≡ lowest_from s n → Some m ≡ member_from s n
unfolding member_from
member_from-some s n m low e =
    subst (λ (k : ℕ). Some m ≡ cond (ltb k room) (Some k) None) e (rw (lt-ltb m room low) refl)

member_from-none : (s n : ℕ) → room ≤ lowest_from s n → None ≡ member_from s n
unfolding member_from
member_from-none s n past = rw (le-ltb (lowest_from s n) room past) refl

pub trailing-some : (s n m : ℕ) → n ≤ room → m ≡ n + count_trailing_zeros room (s / 2 ^ n) → m < room
    → Some m ≡ member_from s n
trailing-some s n m start e low = member_from-some s n m low ((lowest_trailing s n m start e).0 low)

pub trailing-none : (s n m : ℕ) → n ≤ room → m ≡ n + count_trailing_zeros room (s / 2 ^ n) → room ≤ m
    → None ≡ member_from s n
trailing-none s n m start e past =
    member_from-none s n (omega (arith, (lowest_trailing s n m start e).1 past))

pub member_from-beyond : (s n : ℕ) → room ≤ n → None ≡ member_from s n
member_from-beyond s n past = member_from-none s n (omega (arith, past, lowest-beyond s n past))

-- where there is one it is the lowest member and a number of a word; where there is none, the lowest is past a word
pub member_from_found : (s n m : ℕ) → Some m ≡ member_from s n → (m < room) × (m ≡ lowest_from s n)
unfolding member_from
member_from_found s n m e =
    by_test (ltb (lowest_from s n) room)
    (λ low.
    let found : Some m ≡ Some (lowest_from s n) = rw low at e in
    let same : m ≡ lowest_from s n = cc in
    (omega (arith, same, ltb-true (lowest_from s n) room low), same))
    (λ past. let found : Some m ≡ None = rw past at e in absurd cc)

pub member_from_lacks : (s n : ℕ) → None ≡ member_from s n → room ≤ lowest_from s n
unfolding member_from
member_from_lacks s n e =
    by_test (ltb (lowest_from s n) room)
    (λ low. let found : None ≡ Some (lowest_from s n) = rw low at e in absurd cc)
    (λ past. ltb-false (lowest_from s n) room past)

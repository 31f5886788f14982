-- A set is the sum of 2 to each of its members: the members below k give the k low bits of the word.
use Prim.Native.Nat.{ℕ, zero, suc, ◌+◌, ◌*◌, ◌/◌, ◌%◌, ◌^◌, ◌<◌}
use mathlib.Core.Path.{◌≡◌, sym, ap, ap₂, ◌∙◌}
use mathlib.Core.Bool.{cond}
use native.Mathlib.Omega.{arith}
use native.Mathlib.Nat.{mod-one, mod-eq_of_lt, one-mul, zero-mul, add_comm}
use native.Mathlib.Numerals.{one-add}
use lib.Dec.{eqb}
use lib.Pow.{mod-pow-add}
use Rattle.bits.specs.Sets.{member, sum_below}

-- a bit's worth, by the test for it
bit_worth : (b w : ℕ) → b < 2 → cond (eqb b 1) w 0 ≡ b * w
bit_worth zero w bit = sym (zero-mul w)
bit_worth (suc zero) w bit = sym (one-mul w)
bit_worth (suc (suc b)) w bit = absurd (omega (arith, bit))

bit_worth_member : (n k : ℕ) → cond (member n k) (2 ^ k) 0 ≡ n / 2 ^ k % 2 * 2 ^ k
unfolding member
bit_worth_member n k = bit_worth (n / 2 ^ k % 2) (2 ^ k) (omega arith)

-- one bit more of the low bits
low_next : (n k : ℕ) → n % 2 ^ suc k ≡ n % 2 ^ k + n / 2 ^ k % 2 * 2 ^ k
low_next n k =
    ap (λ (j : ℕ). n % 2 ^ j) (sym (one-add k))
    ∙ mod-pow-add n 1 k
    ∙ add_comm (n / 2 ^ k % 2 * 2 ^ k) (n % 2 ^ k)

sum_low : (k s : ℕ) → sum_below k s ≡ s % 2 ^ k
unfolding sum_below
sum_low zero s = sym (mod-one s)
sum_low (suc k) s = ap₂ (λ (x y : ℕ). x + y) (sum_low k s) (bit_worth_member s k) ∙ sym (low_next s k)

pub set_is_sum : (k s : ℕ) → s < 2 ^ k → s ≡ sum_below k s
set_is_sum k s below = sym (mod-eq_of_lt below) ∙ sym (sum_low k s)

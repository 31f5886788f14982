-- The laws of a number in decimal: its digits one by one, how many they are, and that they stand for it.
-- What the library writes of a number is that; every line's length rests on `decimal_few`.
use mathlib.Core.Path.{◌≡◌, refl, sym, ap, ◌∙◌}
use mathlib.Core.List.{List, [], ◌∷◌, ◌++◌}
use Prim.Native.Nat.{ℕ, zero, suc, ◌+◌, ◌-◌, ◌*◌, ◌/◌, ◌%◌, ◌^◌, ◌≤◌, ◌<◌}
use native.Mathlib.Omega.{arith}
use borrow.Author.Tests.{lt-ltb, le-ltb}
use lib.ListN.{length, get_or, length-append, get_or-append}
use Rattle.std.proofs.Common.{append_assoc}
use Rattle.std.specs.Fmt as fmt
use Rattle.std.proofs.lemmas.Fmt.{decimal_by_steps}
use Rattle.bits.proofs.BoolLaws.{by_less}
use Rattle.lines.specs.Texts.{digit, most_digits, digits_of, decimal, value_of}

-- ---- one step of the definition

digits_one : (k n : ℕ) → n < 10 → digits_of (suc k) n ≡ digit n ∷ []
unfolding digits_of
digits_one k n h = rw (lt-ltb n 10 h)

digits_more : (k n : ℕ) → 10 ≤ n → digits_of (suc k) n ≡ digits_of k (n / 10) ++ (digit (n % 10) ∷ [])
unfolding digits_of
digits_more k n h = rw (le-ltb n 10 h)

-- ---- how many digits there are

digits_few : (k n : ℕ) → length (digits_of k n) ≤ k
unfolding digits_of
digits_few zero n = omega arith
digits_few (suc k) n =
    by_less n 10
    (λ l. rw digits_one (omega arith))
    (λ m. rw (digits_more, length-append) (omega (arith, digits_few k (n / 10))))

digits_some : (k n : ℕ) → 0 < length (digits_of (suc k) n)
digits_some k n =
    by_less n 10
    (λ l. rw digits_one (omega arith))
    (λ m. rw (digits_more, length-append) (omega arith))

pub decimal_few : (n : ℕ) → length (decimal n) ≤ most_digits
unfolding decimal
decimal_few n = digits_few most_digits n

-- ---- a number's digits by those of its tenth

-- room for more digits changes nothing
digits_enough : (k n : ℕ) → n < 10 ^ suc k → digits_of (suc (suc k)) n ≡ digits_of (suc k) n
digits_enough zero n h = rw (digits_one 1 n, digits_one 0 n)
digits_enough (suc k) n h =
    by_less n 10
    (λ l. digits_one (suc (suc k)) n l ∙ sym (digits_one (suc k) n l))
    (λ m. digits_more (suc (suc k)) n m ∙ ap (λ (s : List ℕ). s ++ (digit (n % 10) ∷ []))
    (digits_enough k (n / 10) (omega arith)) ∙ sym (digits_more (suc k) n m))

pub decimal_one : (n : ℕ) → n < 10 → decimal n ≡ digit n ∷ []
unfolding decimal
decimal_one n h = digits_one 19 n h

pub decimal_more : (n : ℕ) → 10 ≤ n → n < 10 ^ most_digits → decimal n ≡ decimal (n / 10) ++ (digit (n % 10) ∷ [])
unfolding decimal
decimal_more n m h =
    digits_more 19 n m ∙ ap (λ (s : List ℕ). s ++ (digit (n % 10) ∷ []))
    (sym (digits_enough 18 (n / 10) (omega arith)))

-- ---- what the digits stand for

value_next : (v c : ℕ) (s : List ℕ) → value_of v (s ++ (c ∷ [])) ≡ 10 * value_of v s + (c - digit 0)
unfolding value_of
value_next v c [] = refl
value_next v c (d ∷ s) = value_next (10 * v + (d - digit 0)) c s

value_one : (n : ℕ) → value_of 0 (digit n ∷ []) ≡ n
unfolding value_of
value_one n = omega arith

digits_value : (k n : ℕ) → n < 10 ^ suc k → value_of 0 (digits_of (suc k) n) ≡ n
digits_value zero n h = rw digits_one (value_one n)
digits_value (suc k) n h =
    by_less n 10
    (λ l. rw digits_one (value_one n))
    (λ m. rw (digits_more, value_next)
    (omega (arith, digits_value k (n / 10) (omega arith))))

pub decimal_value : (n : ℕ) → n < 10 ^ most_digits → value_of 0 (decimal n) ≡ n
unfolding decimal
decimal_value n h = digits_value 19 n h

-- ---- no zero in front

digits_front : (k n : ℕ) → 0 < n → n < 10 ^ suc k → digit 0 < get_or (digits_of (suc k) n) 0 0
digits_front zero n some h = rw digits_one (omega arith)
digits_front (suc k) n some h =
    by_less n 10
    (λ l. rw digits_one (omega arith))
    (λ m. rw (
      digits_more,
      get_or-append (digits_of (suc k) (n / 10)) (digit (n % 10) ∷ []) 0 0
          (digits_some k (n / 10)),
    ) (digits_front k (n / 10) (omega arith) (omega arith)))

-- only the number 0 begins with the character of 0
pub decimal_front : (n : ℕ) → 0 < n → n < 10 ^ most_digits → digit 0 < get_or (decimal n) 0 0
unfolding decimal
decimal_front n some h = digits_front 19 n some h

-- ---- it is what the library writes of a number that fits a word

library_steps : (m : ℕ) (ds : List ℕ) → 10 ≤ m → (m / 10 < 10 ^ most_digits → ds ≡ decimal (m / 10))
    → m < 10 ^ most_digits → ds ++ ((48 + m % 10) ∷ []) ≡ decimal m
library_steps m ds large is fits =
    ap (λ (s : List ℕ). s ++ ((48 + m % 10) ∷ [])) (is (omega arith)) ∙ sym (decimal_more m large fits)

library_decimal : (n : ℕ) → n < 2 ^ 64 → fmt.decimal n ≡ decimal n
library_decimal n small =
    decimal_by_steps (λ (m : ℕ) (ds : List ℕ). m < 10 ^ most_digits → ds ≡ decimal m)
    (λ m one fits. sym (decimal_one m one)) library_steps n small (omega arith)

-- a number pushed to a text, and then what stands after it
pub number_pushed : (n : ℕ) (t u s then : List ℕ) → n < 2 ^ 64 → u ≡ t ++ fmt.decimal n → s ≡ u ++ then
    → s ≡ t ++ (decimal n ++ then)
number_pushed n t u s then small first second =
    second
    ∙ ap (λ (x : List ℕ). x ++ then) (first ∙ ap (λ (ds : List ℕ). t ++ ds) (library_decimal n small))
    ∙ append_assoc t (decimal n) then

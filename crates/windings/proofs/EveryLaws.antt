-- Laws of `every`, a test of each number below a limit: what the loop of `WoundSoFar::complete` and the laws of
-- windings in `board` need.
use Prim.Native.Nat.{ℕ, zero, suc, ◌+◌, ◌<◌}
use native.Mathlib.Nat.{eq-or-lt_of_le}
use native.Mathlib.Omega.{arith}
use mathlib.Core.Path.{◌≡◌, refl, sym, ap, subst, ◌∙◌}
use mathlib.Core.Bool.{Bool, true, false, and-false, false≢true}
use mathlib.Core.Logic.{⊎_elim}
use Rattle.std.specs.Bool.{MatchBool}
use Rattle.std.specs.List.{AllWithin, HoldsAt, range_with_len}
use Rattle.std.proofs.lemmas.List.FromFn.{length-range_with_len, get_or-range_with_len}
use lib.ListN.{length}
use Rattle.windings.specs.Windings.{every}
use Rattle.bits.proofs.BoolLaws.{both_true, true_both, by_test}

pub every_fails : (f : ℕ → Bool) (n i : ℕ) → i < n → f i ≡ false → every n f ≡ false
unfolding every
every_fails f zero i below off = absurd (omega arith)
every_fails f (suc n) i below off =
    ⊎_elim (λ (same : i ≡ n). let here : f n ≡ false = cc in rw here (and-false (every n f)))
    (λ (less : i < n). rw (every_fails f n i less off))
    (eq-or-lt_of_le {n = i} {m = n} (omega arith))

pub every-below : (f : ℕ → Bool) (n i : ℕ) → every n f ≡ true → i < n → f i ≡ true
unfolding every
every-below f zero i all below = absurd (omega arith)
every-below f (suc n) i all below =
    let both = both_true (every n f) (f n) all in
    ⊎_elim (λ (same : i ≡ n). ap f same ∙ both.1)
    (λ (less : i < n). every-below f n i both.0 less)
    (eq-or-lt_of_le {n = i} {m = n} (omega arith))

pub below-every : (f : ℕ → Bool) (n : ℕ) → ((i : ℕ) → i < n → f i ≡ true) → every n f ≡ true
unfolding every
below-every f zero all = refl
below-every f (suc n) all = true_both (below-every f n (λ i below. all i (omega arith))) (all n (omega arith))

-- a test that fails below a limit fails of some number
pub every_lacks : (f : ℕ → Bool) (n : ℕ) → every n f ≡ false → (i : ℕ) × (i < n) × (f i ≡ false)
unfolding every
every_lacks f zero off = absurd (false≢true (sym off))
every_lacks f (suc n) off =
    by_test (every n f)
    (λ before. (n, omega arith, rw before at off))
    (λ lacks. let less = every_lacks f n lacks in (less.0, omega (arith, less.1), less.2))

-- what `all` answers over the numbers below a limit
pub every-from_all : (f : ℕ → Bool) (n : ℕ) (r : Bool)
    → MatchBool r (AllWithin (λ x. f x ≡ true) (range_with_len 0 n) 0 (length (range_with_len 0 n)))
    ((k : ℕ) × (k < length (range_with_len 0 n)) × HoldsAt (λ x. f x ≡ false) (range_with_len 0 n) k)
    → r ≡ every n f
every-from_all f n true all =
    sym (below-every f n (λ i below.
    let is : f i ≡ f (0 + i) = ap f (omega arith) in
    is ∙ subst (λ (x : ℕ). f x ≡ true) (get_or-range_with_len 0 n i 0 below)
    (all i 0 (omega arith) (omega (arith, below, length-range_with_len 0 n)))))
every-from_all f n false (k, within, off) =
    let below : k < n = omega (arith, within, length-range_with_len 0 n) in
    let is : f k ≡ f (0 + k) = ap f (omega arith) in
    sym (every_fails f n k below
    (is ∙ subst (λ (x : ℕ). f x ≡ false) (get_or-range_with_len 0 n k 0 below) (off 0)))

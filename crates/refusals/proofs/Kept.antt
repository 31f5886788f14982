-- Outcomes of two editions of the rule book: what the one comes to the other comes to as well, unless the first was
-- refused by a number n. So a `do` block of the definitions is followed line by line.
--     Kept n o o'    o came to be o': it stands, or it was refused by n
use Prim.Native.Nat.{ℕ}
use mathlib.Core.Path.{◌≡◌, refl, sym}
use mathlib.Core.Bool.{Bool, true, false}
use Rattle.refusals.specs.Outcomes.{Outcome, given, refused, ◌>>=◌, ◌>>◌, unless}
use Rattle.refusals.proofs.OutcomeLaws.{refused_never}

pub data Kept {A : Type 0} (n : ℕ) (o o' : Outcome A) : Type 0 where
  stands : o' ≡ o → Kept n o o'
  was_refused : (p : ℕ) → o ≡ refused n p → Kept n o o'

pub kept_then : {A B : Type 0} {n : ℕ} (o o' : Outcome A) {f g : A → Outcome B} → Kept n o o'
    → ((a : A) → Kept n (f a) (g a)) → Kept n (o >>= f) (o' >>= g)
kept_then (given a) o' (stands same) later = rw same (later a)
kept_then (refused m q) o' (stands same) later = rw same (stands refl)
kept_then (given a) o' (was_refused p is) later = absurd (refused_never _ p a (sym is))
kept_then (refused m q) o' (was_refused p is) later = was_refused p cc

pub kept-unless : {A : Type 0} {n : ℕ} (t : Bool) (m p : ℕ) {o o' : Outcome A} → Kept n o o'
    → Kept n (unless t m p >> o) (unless t m p >> o')
kept-unless true m p kept = kept
kept-unless false m p kept = stands refl

-- a test that n is given by, and that more pass
pub kept_looser : {A : Type 0} {n : ℕ} (t t' : Bool) (p : ℕ) (o : Outcome A) → (t ≡ true → t' ≡ true)
    → Kept n (unless t n p >> o) (unless t' n p >> o)
kept_looser true t' p o looser = rw (looser refl) (stands refl)
kept_looser false t' p o looser = was_refused p refl

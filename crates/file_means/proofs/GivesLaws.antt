-- What holds of whatever an outcome gives: it is handed on through a row of outcomes, and a test that lets the row go
-- on holds from there. So a `do` block of the definitions is followed line by line.
--     Gives P o    where o gives a, P holds of a
use Prim.Native.Nat.{ℕ}
use mathlib.Core.Path.{◌≡◌, refl}
use mathlib.Core.Bool.{Bool, true, false}
use mathlib.Core.List.{List}
use Rattle.refusals.specs.declared.Found.{Found}
use Rattle.refusals.specs.Outcomes.{Outcome, given, refused, ◌>>=◌, ◌>>◌, unless}
use Rattle.number.specs.Numbers.{number_at}
use Rattle.board_reader.specs.Editions.{Edition}
use Rattle.board_reader.specs.Reading.{wanted}

abbrev pub Gives : {A : Type 0} → (A → Type 0) → Outcome A → Type 0
Gives P (given a) = P a
Gives P (refused n p) = Unit {0}

pub gives_then : {A B : Type 0} (P : A → Type 0) (Q : B → Type 0) (o : Outcome A) (f : A → Outcome B) → Gives P o
    → ((a : A) → P a → Gives Q (f a)) → Gives Q (o >>= f)
gives_then P Q (given a) f here later = later a here
gives_then P Q (refused n p) f here later = tt

-- of what is handed on, that it was given
pub gives_after : {A B : Type 0} (Q : B → Type 0) (o : Outcome A) (f : A → Outcome B)
    → ((a : A) → o ≡ given a → Gives Q (f a)) → Gives Q (o >>= f)
gives_after Q (given a) f later = later a refl
gives_after Q (refused n p) f later = tt

pub gives-unless : {B : Type 0} (Q : B → Type 0) (t : Bool) (n p : ℕ) (o : Outcome B) → (t ≡ true → Gives Q o)
    → Gives Q (unless t n p >> o)
gives-unless Q true n p o later = later refl
gives-unless Q false n p o later = tt

-- a number that was wanted was read and passed its test
pub wanted_gives : (Q : Found ℕ → Type 0) (e : Edition) (ok : ℕ → Bool) (n : ℕ) (s : List ℕ) (at : ℕ)
    → ((v : Found ℕ) → number_at e.width s at ≡ given v → ok v.value ≡ true → Q v) → Gives Q (wanted e ok n s at)
unfolding wanted
wanted_gives Q e ok n s at so =
    gives_after Q (number_at e.width s at) _ (λ v read. gives-unless Q (ok v.value) n at (given v) (so v read))

pub wanted_then : {B : Type 0} (Q : B → Type 0) (e : Edition) (ok : ℕ → Bool) (n : ℕ) (s : List ℕ) (at : ℕ)
    (f : Found ℕ → Outcome B)
    → ((v : Found ℕ) → number_at e.width s at ≡ given v → ok v.value ≡ true → Gives Q (f v))
    → Gives Q (wanted e ok n s at >>= f)
wanted_then Q e ok n s at f later =
    let passes : Found ℕ → Type 0 = λ v. (number_at e.width s at ≡ given v) × (ok v.value ≡ true) in
    gives_then passes Q (wanted e ok n s at) f (wanted_gives passes e ok n s at (λ v read passed. (read, passed)))
    (λ v so. later v so.0 so.1)

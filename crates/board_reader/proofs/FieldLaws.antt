-- Laws of `wanted`, a number with its range: how each way out of reading one number of the file is an outcome of the
-- definition.
use Prim.Native.Nat.{ℕ, ◌<◌, ◌≤◌}
use mathlib.Core.Path.{◌≡◌, sym, ap, ◌∙◌}
use mathlib.Core.Bool.{Bool, true, false}
use mathlib.Core.List.{List}
use lib.Dec.{leb, ltb}
use borrow.Author.Tests.{le-leb, lt-leb, leb-true, eq-eqb, ne_eqb}
use Rattle.refusals.specs.declared.Found.{Found}
use Rattle.refusals.specs.Outcomes.{given, refused, found, ◌>>◌, unless}
use Rattle.refusals.specs.Refusals.{no_such_name}
use Rattle.number.specs.Numbers.{number_at}
use Rattle.kinds.specs.Kinds.{wire_kind}
use Rattle.board.specs.declared.Counts.{Counts}
use Rattle.bits.proofs.BoolLaws.{both_true}
use Rattle.board.specs.Rules.{in_range, limit_of}
use Rattle.board_reader.specs.Editions.{Edition}
use Rattle.board_reader.specs.Reading.{wanted, name_at}
use Rattle.refusals.proofs.OutcomeLaws.{given_injective, handed, passed}

module _ (e : Edition) (ok : ℕ → Bool) (n : ℕ) (s : List ℕ) (at : ℕ) where
  pub wanted_refused : (k p : ℕ) → number_at e.width s at ≡ refused k p → wanted e ok n s at ≡ refused k p
  unfolding wanted
  wanted_refused k p h = rw h

  pub wanted_fails : (v next : ℕ) → number_at e.width s at ≡ found v next → ok v ≡ false
      → wanted e ok n s at ≡ refused n at
  unfolding wanted
  wanted_fails v next h off = rw (h, off)

  pub wanted_passes : (v next : ℕ) → number_at e.width s at ≡ found v next → ok v ≡ true
      → wanted e ok n s at ≡ found v next
  unfolding wanted
  wanted_passes v next h fine = rw (h, fine)

-- a number that was found passed its test
pub wanted-found : (e : Edition) (ok : ℕ → Bool) (n : ℕ) (s : List ℕ) (at v next : ℕ)
    → wanted e ok n s at ≡ found v next → (ok v ≡ true) × (number_at e.width s at ≡ found v next)
unfolding wanted
wanted-found e ok n s at v next h =
    let number =
    handed (number_at e.width s at) (λ f. unless (ok f.value) n at >> given f)
    (record { value = v; next = next }) h in
    let fine =
    passed (ok number.value.value) n at (given number.value) (record { value = v; next = next })
    number.then in
    let same : number.value ≡ record { value = v; next = next } = given_injective _ _ fine.1 in
    (ap (λ (f : Found ℕ). ok f.value) (sym same) ∙ fine.0, number.first ∙ fine.1)

module _ (low high v : ℕ) where
  pub range-below : v < low → in_range low high v ≡ false
  unfolding in_range
  range-below h = rw (lt-leb low v h)

  pub range_above : low ≤ v → high < v → in_range low high v ≡ false
  unfolding in_range
  range_above h k = rw (le-leb low v h, lt-leb v high k)

  pub range-within : low ≤ v → v ≤ high → in_range low high v ≡ true
  unfolding in_range
  range-within h k = rw (le-leb low v h, le-leb v high k)

  pub range_bounds : in_range low high v ≡ true → (low ≤ v) × (v ≤ high)
  unfolding in_range
  range_bounds h =
      let both = both_true (leb low v) (leb v high) h in
      (leb-true low v both.0, leb-true v high both.1)

-- a limit that is the same is the same test
pub wanted-below : (e : Edition) (n : ℕ) (s : List ℕ) (at l m : ℕ) → l ≡ m
    → wanted e (λ v. ltb v l) n s at ≡ wanted e (λ v. ltb v m) n s at
wanted-below e n s at l m same = ap (λ (k : ℕ). wanted e (λ v. ltb v k) n s at) same

module _ (e : Edition) (c : Counts) (k : ℕ) (s : List ℕ) (at : ℕ) where
  pub name_wire : k ≡ wire_kind → found 0 at ≡ name_at e c k s at
  unfolding name_at
  name_wire wire = rw (eq-eqb k wire_kind wire)

  pub name-carried : (k ≡ wire_kind → ⊥) → wanted e (λ v. ltb v (limit_of c k)) no_such_name s at ≡ name_at e c k s at
  unfolding name_at
  name-carried carried = rw (ne_eqb k wire_kind carried)

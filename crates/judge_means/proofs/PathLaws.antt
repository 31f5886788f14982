-- Laws that relate the places of a list, which the published model counts, to our words: its steps, its ending, its
-- beginning and that nothing stands twice. For Circuits.
use Prim.Native.Nat.{ℕ, zero, suc, ◌+◌, ◌-◌, ◌<◌, ◌≤◌}
use native.Mathlib.Numerals.{add-one}
use native.Mathlib.Omega.{arith}
use mathlib.Core.Path.{◌≡◌, refl, sym, ap, subst, ◌∙◌}
use mathlib.Core.Logic.{inl, inr}
use mathlib.Core.List.{List, [], ◌∷◌}
use lib.ListN.{length}
use Rattle.lists.specs.Members.{◌∈◌, All, Once}
use Rattle.lists.proofs.MemberLaws.{all-member, member_all}
use Rattle.chains.specs.Chains.{plus, minus, steps, ending, ending_from, BeginsAtPlus}
use Rattle.judge_means.specs.Circuits.{place, PathContainsConnection}

-- ---- members and their places

record PlaceOf (x : ℕ) (p : List ℕ) : Type 0 where
  at : ℕ
  inside : at < length p
  same : place p at ≡ x

member-placed : (x : ℕ) (p : List ℕ) → x ∈ p → PlaceOf x p
member-placed x [] m = absurd m
member-placed x (y ∷ p) (inl e) = record { at = 0; inside = omega arith; same = sym e }
member-placed x (y ∷ p) (inr m) =
    let later = member-placed x p m in
    record { at = suc later.at; inside = omega (arith, later.inside); same = later.same }

place-member : (p : List ℕ) (i : ℕ) → i < length p → place p i ∈ p
place-member [] i h = absurd (omega arith)
place-member (x ∷ p) zero h = inl refl
place-member (x ∷ p) (suc i) h = inr (place-member p i (omega arith))

-- what stands once stands at one place only
pub once-places : (p : List ℕ) → Once p → (i j : ℕ) → i < length p → j < length p → ¬ (i ≡ j)
    → ¬ (place p i ≡ place p j)
once-places [] once i j hi hj apart e = omega arith
once-places (x ∷ p) once zero zero hi hj apart e = apart refl
once-places (x ∷ p) once zero (suc j) hi hj apart e =
    once.0 (subst (λ (z : ℕ). z ∈ p) (sym e) (place-member p j (omega arith)))
once-places (x ∷ p) once (suc i) zero hi hj apart e =
    once.0 (subst (λ (z : ℕ). z ∈ p) e (place-member p i (omega arith)))
once-places (x ∷ p) once (suc i) (suc j) hi hj apart e =
    once-places p once.1 i j (omega arith) (omega arith) (λ s. apart (ap suc s)) e

pub places-once : (p : List ℕ) → ((i j : ℕ) → i < length p → j < length p → ¬ (i ≡ j) → ¬ (place p i ≡ place p j))
    → Once p
places-once [] differ = tt
places-once (x ∷ p) differ =
    (new, places-once p (λ i j hi hj apart. differ (suc i) (suc j) (omega arith) (omega arith) (omega arith)))
  where
    new : ¬ (x ∈ p)
    new m =
        let later = member-placed x p m in
        differ 0 (suc later.at) (omega arith) (omega (arith, later.inside)) (omega arith) (sym later.same)

-- ---- steps and their places

place_later : (x : ℕ) (p : List ℕ) (i : ℕ) → place (x ∷ p) (suc i + 1) ≡ place p (i + 1)
place_later x p i = rw (add-one, add-one) refl

place_step : (p : List ℕ) (i : ℕ) → i < length p - 1 → (place p i, place p (i + 1)) ∈ steps p
place_step [] i h = absurd (omega arith)
place_step (x ∷ []) i h = absurd (omega arith)
place_step (x ∷ y ∷ p) zero h = inl refl
place_step (x ∷ y ∷ p) (suc i) h =
    inr
    (subst (λ (m : ℕ). (place (y ∷ p) i, m) ∈ steps (y ∷ p)) (sym (place_later x (y ∷ p) i))
    (place_step (y ∷ p) i (omega arith)))

-- the connections that a path contains are its steps
pub contains_step : (p : List ℕ) (x y : ℕ) → PathContainsConnection p x y → (x, y) ∈ steps p
contains_step p x y c = subst (λ (s : ℕ × ℕ). s ∈ steps p) (cc (c.first, c.second)) (place_step p c.at c.inside)

pub step_contains : (p : List ℕ) (x y : ℕ) → (x, y) ∈ steps p → PathContainsConnection p x y
step_contains [] x y m = absurd m
step_contains (u ∷ []) x y m = absurd m
step_contains (u ∷ v ∷ p) x y (inl e) =
    record {
      at = 0;
      inside = omega arith;
      first = ap (λ (s : ℕ × ℕ). s.0) (sym e);
      second =
          ap (λ (s : ℕ × ℕ). s.1) (sym e);
    }
step_contains (u ∷ v ∷ p) x y (inr m) =
    let later = step_contains (v ∷ p) x y m in
    record {
      at = suc later.at;
      inside = omega (arith, later.inside);
      first = later.first;
      second =
          place_later u (v ∷ p) later.at ∙ later.second;
    }

-- what holds of the steps, place by place, holds of them all, and back
pub steps-placed : (J : ℕ → ℕ → Type 0) (p : List ℕ) → All (λ (s : ℕ × ℕ). J s.0 s.1) (steps p) → (i : ℕ)
    → i < length p - 1 → J (place p i) (place p (i + 1))
steps-placed J p all i h =
    all-member (λ (s : ℕ × ℕ). J s.0 s.1) (steps p) (place p i, place p (i + 1)) all (place_step p i h)

pub placed-steps : (J : ℕ → ℕ → Type 0) (p : List ℕ)
    → ((i : ℕ) → i < length p - 1 → J (place p i) (place p (i + 1))) → All (λ (s : ℕ × ℕ). J s.0 s.1)
    (steps p)
placed-steps J p each =
    member_all (λ (s : ℕ × ℕ). J s.0 s.1) (steps p) (λ s m. at_place s (step_contains p s.0 s.1 m))
  where
    at_place : (s : ℕ × ℕ) → PathContainsConnection p s.0 s.1 → J s.0 s.1
    at_place s c =
        subst (λ (z : ℕ). J z s.1) c.first
        (subst (J (place p c.at)) c.second (each c.at c.inside))

-- of a list of two or more, each member has a step
pub steps_members : (P : ℕ → Type 0) (p : List ℕ) → 2 ≤ length p → All (λ (s : ℕ × ℕ). P s.0 × P s.1)
    (steps p) → All P p
steps_members P [] long h = tt
steps_members P (x ∷ []) long h = absurd (omega arith)
steps_members P (x ∷ y ∷ []) long h = (h.0.0, (h.0.1, tt))
steps_members P (x ∷ y ∷ z ∷ p) long h = (h.0.0, steps_members P (y ∷ z ∷ p) (omega arith) h.1)

-- ---- the first place and the last

pub begins-place : (p : List ℕ) → BeginsAtPlus p → place p 0 ≡ plus
begins-place [] h = refl
begins-place (x ∷ p) h = h

pub place-begins : (p : List ℕ) → 2 ≤ length p → place p 0 ≡ plus → BeginsAtPlus p
place-begins [] long h = omega arith
place-begins (x ∷ p) long h = h

ending_from-place : (x : ℕ) (p : List ℕ) → ending_from x p ≡ place (x ∷ p) (length p)
ending_from-place x [] = refl
ending_from-place x (y ∷ p) = ending_from-place y p

pub ending-place : (p : List ℕ) → ending p ≡ place p (length p - 1)
ending-place [] = refl
ending-place (x ∷ p) =
    let last : suc (length p) - 1 ≡ length p = omega arith in
    rw last (ending_from-place x p)

-- from plus to minus there is at least one step
pub apart_long : (p : List ℕ) → BeginsAtPlus p → ending p ≡ minus → 2 ≤ length p
apart_long [] begins ends = absurd begins
apart_long (x ∷ []) begins ends = absurd (omega arith)
apart_long (x ∷ y ∷ p) begins ends = omega arith

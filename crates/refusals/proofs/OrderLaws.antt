-- Laws of a call's lines: asked one after the other they are the first whose test fails, and what stands against a call
-- and what a refused call leaves are the same for every call that is defined by its lines.
use Prim.Native.Nat.{ℕ}
use mathlib.Core.Path.{◌≡◌, refl, sym, ap, ◌∙◌}
use mathlib.Core.Bool.{Bool, true, false}
use mathlib.Core.List.{[], ◌∷◌, ◌++◌}
use Rattle.refusals.specs.Outcomes.{Outcome, given, refused, ◌>>◌, unless}
use Rattle.refusals.specs.Order.{Order, first_no, answering, against}
use Rattle.refusals.proofs.OutcomeLaws.{refused_never}

-- one line more
pub asks_first : (t : Bool) (n : ℕ) → first_no ((t, n) ∷ []) ≡ unless t n 0
unfolding first_no
asks_first true n = refl
asks_first false n = refl

pub asks_append : (ls ms : Order) → first_no (ls ++ ms) ≡ (first_no ls >> first_no ms)
unfolding first_no
asks_append [] ms = refl
asks_append ((true, n) ∷ ls) ms = asks_append ls ms
asks_append ((false, n) ∷ ls) ms = refl

-- where nothing stands against a call, each of its tests holds
pub first_holds : (t : Bool) (n : ℕ) (ls : Order) → first_no ((t, n) ∷ ls) ≡ given tt
    → (t ≡ true) × (first_no ls ≡ given tt)
unfolding first_no
first_holds true n ls h = (refl, h)
first_holds false n ls h = absurd (refused_never n 0 tt h)

pub all_hold : (ls ms : Order) → first_no (ls ++ ms) ≡ given tt → (first_no ls ≡ given tt) × (first_no ms ≡ given tt)
all_hold ls ms h = by (first_no ls) (sym (asks_append ls ms) ∙ h)
  where
    by : (o : Outcome (Unit {0})) → (o >> first_no ms) ≡ given tt → (o ≡ given tt) × (first_no ms ≡ given tt)
    by (given u) e = (refl, e)
    by (refused n p) e = absurd (refused_never n p tt e)

-- a call that gives nothing came to what stands against it
pub against_itself : (o : Outcome (Unit {0})) → against o ≡ o
against_itself (given u) = refl
against_itself (refused n p) = refl

-- what stands against a call that answers x, and so came to `word x`: o; and where it is refused, x is So
pub record StandsAgainst {A R : Type 0} (word : R → Outcome A) (So : R → Type 0) (o : Outcome (Unit {0}))
    (x : R) : Type 0 where
  pub first : against (word x) ≡ o
  pub left : (n p : ℕ) → word x ≡ refused n p → So x

pub answering-stands : {A R : Type 0} (word : R → Outcome A) (So : R → Type 0) (refuse : ℕ → ℕ → R) (go : Unit {0} → R)
    → ((n p : ℕ) → (word (refuse n p) ≡ refused n p) × So (refuse n p))
    → against (word (go tt)) ≡ given tt
    → (o : Outcome (Unit {0}))
    → StandsAgainst word So o (answering o refuse go)
answering-stands word So refuse go refuses gives (given u) =
    record { first = gives; left = λ n p e. absurd (refused_never n p tt (sym (ap against e) ∙ gives)) }
answering-stands word So refuse go refuses gives (refused n p) =
    record { first = ap against (refuses n p).0; left = λ m q e. (refuses n p).1 }

-- A move turns one relay and leaves all else as it was; so one relay's turn leads to one state, and the turns of two
-- relays lead to the same state in either order. For the order of moves (`OrderLaws`).
use Prim.Native.Nat.{ℕ}
use mathlib.Core.Path.{◌≡◌, refl, sym, ap, subst, ◌∙◌}
use mathlib.Core.Bool.{Bool, true, false, not}
use lib.Dec.{eqb}
use borrow.Author.Tests.{eqb-true, eqb-false}
use Rattle.bits.proofs.SetLaws.{members_equal}
use Rattle.state.specs.declared.State.{State}
use Rattle.state.specs.States.{is_drawn, is_pushed}
use Rattle.moves_means.specs.OneRelay.{ElseAsBefore}

pub record RelayTurned (s : State) (r : ℕ) (t : State) : Type 0 where
  pub turns : is_drawn t r ≡ not (is_drawn s r)
  pub else_as_before : ElseAsBefore s r t

states_equal : (s t : State) → ((q : ℕ) → is_drawn s q ≡ is_drawn t q) → ((n : ℕ) → is_pushed s n ≡ is_pushed t n)
    → s ≡ t
states_equal s t drawn pushed =
    λ i. record {
      drawn = members_equal s.drawn t.drawn drawn i;
      pushed = members_equal s.pushed t.pushed pushed i;
    }

-- d turned if x
abbrev turned_if : Bool → Bool → Bool
turned_if true d = not d
turned_if false d = d

turned_if_commutes : (x y d : Bool) → turned_if x (turned_if y d) ≡ turned_if y (turned_if x d)
turned_if_commutes true true d = refl
turned_if_commutes true false d = refl
turned_if_commutes false true d = refl
turned_if_commutes false false d = refl

turned_drawn : {s : State} {r : ℕ} {t : State} → RelayTurned s r t → (q : ℕ)
    → is_drawn t q ≡ turned_if (eqb q r) (is_drawn s q)
turned_drawn {s} {r} {t} x q = by (eqb q r) refl
  where
    by : (same : Bool) → eqb q r ≡ same → is_drawn t q ≡ turned_if same (is_drawn s q)
    by true is = subst (λ (p : ℕ). is_drawn t p ≡ not (is_drawn s p)) (sym (eqb-true q r is)) x.turns
    by false is = x.else_as_before.relays q (eqb-false q r is)

pub turned_unique : {s : State} {r : ℕ} {t u : State} → RelayTurned s r t → RelayTurned s r u → t ≡ u
turned_unique {t = t} {u = u} x y =
    states_equal t u (λ q. turned_drawn x q ∙ sym (turned_drawn y q))
    (λ n. x.else_as_before.buttons n ∙ sym (y.else_as_before.buttons n))

pub turned_commutes : {s t u v w : State} {q r : ℕ} → RelayTurned s q t → RelayTurned t r v → RelayTurned s r u
    → RelayTurned u q w → v ≡ w
turned_commutes {s} {t} {u} {v} {w} {q} {r} x y z a =
    states_equal v w
    (λ p.
    turned_drawn y p ∙ ap (turned_if (eqb p r)) (turned_drawn x p)
    ∙ turned_if_commutes (eqb p r) (eqb p q) (is_drawn s p)
    ∙ sym (turned_drawn a p ∙ ap (turned_if (eqb p q)) (turned_drawn z p)))
    (λ n.
    y.else_as_before.buttons n ∙ x.else_as_before.buttons n
    ∙ sym (a.else_as_before.buttons n ∙ z.else_as_before.buttons n))

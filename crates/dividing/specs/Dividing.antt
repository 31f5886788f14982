-- What it is to divide a winding. Request A6: "there is a terminal x (a pole may be x) such that, with x taken out, no
-- remaining end of the winding reaches a remaining pole over conducting parts (an end that is a pole reaches it)". In
-- these, J x y says that x and y are joined, and there are t terminals.
--     Pole p                  p is plus or minus
--     WindingEnd a b e        e is an end of the winding between a and b
--     Is x z                  z is x: what is taken out
--     Divides J t a b x       with x taken out, no remaining end of the winding between a and b reaches a remaining
--                             pole
--     Served J t u            whichever other terminal is taken out, some remaining pole reaches u
--     WoundBetween J t a b    a and b are two of the terminals, joined, as the ends of a winding are; and who is joined
--                             to whom is so from either side
--     Divided J t a b         some terminal divides the winding
--     CanTell J               it can be told of any two whether they are joined
--     ShownOrDivided          where there are two terminals or more, and it can be told who is joined: a chain shows
--                             the winding, or some terminal divides it
--     NeverBoth               not both: no terminal divides a winding that a chain shows
--     ShownByServed           under the same suppositions: a chain shows it exactly if both its ends are served
use Rattle.std.specs.Prelude.{ℕ, ◌<◌, ◌≡◌, ◌⊎◌, ◌↔◌}
use Rattle.chains.specs.Chains.{plus, minus, Live}
use Rattle.reach.specs.Links.{Reachable}

abbrev pub Pole : ℕ → Type 0
Pole p = (p ≡ plus) ⊎ (p ≡ minus)

abbrev pub WindingEnd : ℕ → ℕ → ℕ → Type 0
WindingEnd a b e = (e ≡ a) ⊎ (e ≡ b)

abbrev pub Is : ℕ → ℕ → Type 0
Is x z = z ≡ x

abbrev pub Divides : (ℕ → ℕ → Type 0) → ℕ → ℕ → ℕ → ℕ → Type 0
Divides J t a b x = (p : ℕ) → Pole p → ¬ (Reachable J t (WindingEnd a b) (Is x) p)

abbrev pub Served : (ℕ → ℕ → Type 0) → ℕ → ℕ → Type 0
Served J t u = (x : ℕ) → x < t → ¬ (x ≡ u) → Reachable J t Pole (Is x) u

pub record WoundBetween (J : ℕ → ℕ → Type 0) (t a b : ℕ) : Type 0 where
  pub a_inside : a < t
  pub b_inside : b < t
  pub two_ends : ¬ (a ≡ b)
  pub ends_joined : J a b
  pub either_side : (x y : ℕ) → J x y → J y x

pub record Divided (J : ℕ → ℕ → Type 0) (t a b : ℕ) : Type 0 where
  pub by : ℕ
  pub inside : by < t
  pub divides : Divides J t a b by

abbrev pub CanTell : (ℕ → ℕ → Type 0) → Type 0
CanTell J = (x y : ℕ) → Dec (J x y)

abbrev pub ShownOrDivided : Type 1
ShownOrDivided =
    (J : ℕ → ℕ → Type 0) (t a b : ℕ)
    → CanTell J
    → 1 < t
    → WoundBetween J t a b
    → Live J t a b ⊎ Divided J t a b

abbrev pub NeverBoth : Type 1
NeverBoth =
    (J : ℕ → ℕ → Type 0) (t a b : ℕ)
    → WoundBetween J t a b
    → Live J t a b
    → ¬ (Divided J t a b)

abbrev pub ShownByServed : Type 1
ShownByServed =
    (J : ℕ → ℕ → Type 0) (t a b : ℕ)
    → CanTell J
    → 1 < t
    → WoundBetween J t a b
    → Live J t a b ↔ Served J t a × Served J t b

-- Laws of rows inside a board: a row that has not z goes around z, and what goes around z is reached with z taken out.
--     Inner J t    who is joined to whom among the t terminals
use Prim.Native.Nat.{ℕ, ◌<◌}
use mathlib.Core.Path.{◌≡◌, refl, sym, subst}
use mathlib.Core.List.{List, [], ◌∷◌}
use Rattle.lists.specs.Members.{All}
use Rattle.chains.specs.Chains.{Linked}
use Rattle.reach.specs.Links.{Link, Reachable}
use Rattle.dividing.specs.Dividing.{Is}
use Rattle.dividing.proofs.AroundLaws.{Around, stays, goes, around_turned}
use Rattle.dividing.proofs.WayLaws.{around_clear}

abbrev pub Inner : (ℕ → ℕ → Type 0) → ℕ → ℕ → ℕ → Type 0
Inner J t u v = (u < t) × (v < t) × J u v

module _ (J : ℕ → ℕ → Type 0) (t : ℕ) where
  pub inner-linked : (x : ℕ) (l : List ℕ) → All (λ (u : ℕ). u < t) (x ∷ l) → Linked J (x ∷ l)
      → Linked (Inner J t) (x ∷ l)
  inner-linked x [] inside linked = tt
  inner-linked x (y ∷ l) inside linked =
      ((inside.0, inside.1.0, linked.0), inner-linked y l inside.1 linked.1)

  pub inner_inside : (x : ℕ) (l : List ℕ) → x < t → Linked (Inner J t) (x ∷ l) → All (λ (u : ℕ). u < t) (x ∷ l)
  inner_inside x [] below linked = (below, tt)
  inner_inside x (y ∷ l) below linked = (below, inner_inside y l linked.0.1 linked.1)

  module _ (z : ℕ) where
    pub row_around : {x y : ℕ} (row : Link J t x y) → All (λ (u : ℕ). ¬ (u ≡ z)) (x ∷ row.later)
        → Around (Inner J t) z x y
    row_around {x} row clear =
        subst (Around (Inner J t) z x) row.ends
        (around_clear (Inner J t) z x row.later (inner-linked x row.later row.inside row.linked) clear)

    pub around_reached : {x y : ℕ} → Around (Inner J t) z x y → x < t → (From : ℕ → Type 0) → From x
        → Reachable J t From (Is z) y
    around_reached (stays {x} out) below From begins =
        record {
          from = x;
          begins = begins;
          row = record { later = []; inside = (below, tt); linked = tt; ends = refl };
          none_out = (out, tt);
        }
    around_reached (goes {x} {y = v} {z = w} out r g) below From begins = on (around_reached g r.1 (Is v) refl)
      where
        on : Reachable J t (Is v) (Is z) w → Reachable J t From (Is z) w
        on so = record {
          from = x;
          begins = begins;
          row = record {
            later = so.from ∷ so.row.later;
            inside = (below, so.row.inside);
            linked = (subst (J x) (sym so.begins) r.2, so.row.linked);
            ends = so.row.ends;
          };
          none_out = (out, so.none_out);
        }

-- what is reached from others reaches them, where who is joined to whom is so from either side
pub reached_turned : (J : ℕ → ℕ → Type 0) (t z y : ℕ) (From To : ℕ → Type 0) → ((u v : ℕ) → J u v → J v u)
    → (r : Reachable J t From (Is z) y) → y < t → To y → Reachable J t To (Is z) r.from
reached_turned J t z y From To back r below begins =
    around_reached J t z
    (around_turned (λ u v h. (h.1, h.0, back u v h.2)) (row_around J t z r.row r.none_out)) below To begins

-- A chain shows a winding exactly if no terminal divides it, and exactly if both its ends are served. From the two ends
-- to the two poles there are two ways apart, and one of them turned round, the winding, and the other are a chain; or
-- one terminal bars them all, and it divides the winding.
--     Escape J t a b z    with z taken out, an end of the winding between a and b comes to a pole
use Prim.Native.Nat.{ℕ, ◌<◌}
use native.Mathlib.Decide.{ℕ_discrete, dec_lt}
use native.Mathlib.Omega.{arith}
use mathlib.Core.Path.{◌≡◌, refl, sym, subst, ◌∙◌}
use mathlib.Core.Logic.{◌⊎◌, inl, inr, ⊎_elim, ⊎_map, ⊎_swap}
use mathlib.Core.List.{List, [], ◌∷◌}
use Rattle.lists.specs.Members.{◌∈◌, All}
use Rattle.lists.proofs.MemberLaws.{all_map}
use Rattle.chains.specs.Chains.{plus, minus, steps, ending, ending_from, IsChain, Live}
use Rattle.reach.specs.Links.{Reachable}
use Rattle.dividing.specs.Dividing.{Pole, WindingEnd, Is, Divides, Served, WoundBetween, Divided, CanTell}
use Rattle.dividing.specs.Dividing.{ShownOrDivided}
use Rattle.dividing.specs.Dividing.{NeverBoth, ShownByServed}
use Rattle.dividing.proofs.AroundLaws.{Around, goes, around_turned}
use Rattle.dividing.proofs.WayLaws.{Way, step_between, once_stops, around_halves, way_on, linked_wider}
use Rattle.dividing.proofs.WayLaws.{way_turned}
use Rattle.dividing.proofs.TwoWays.{Pair, Two, Barred, pair_swapped}
use Rattle.dividing.proofs.FiniteArcs.{decided-below}
use Rattle.dividing.proofs.InnerRows.{Inner, inner-linked, inner_inside, row_around, around_reached}

record Escape (J : ℕ → ℕ → Type 0) (t a b z : ℕ) : Type 0 where
  pole : ℕ
  is_pole : Pole pole
  way : Around (Inner J t) z a pole ⊎ Around (Inner J t) z b pole

escape_turned : (J : ℕ → ℕ → Type 0) (t a b z : ℕ) → Escape J t a b z → Escape J t b a z
escape_turned J t a b z out = record { pole = out.pole; is_pole = out.is_pole; way = ⊎_swap out.way }

module _ (J : ℕ → ℕ → Type 0) (t a b : ℕ) (wound : WoundBetween J t a b) where
  inner_back : (u v : ℕ) → Inner J t u v → Inner J t v u
  inner_back u v (below, also, join) = (also, below, wound.either_side u v join)

  inner-ends : Inner J t a b
  inner-ends = (wound.a_inside, wound.b_inside, wound.ends_joined)

  -- ---- escapes: a chain's, that of ends which are served, and that no terminal divides where there is one

  chain_escape : (z : ℕ) (c : List ℕ) → IsChain J t c → ending c ≡ minus → (u v : ℕ) → (u, v) ∈ steps c
      → Escape J t u v z
  chain_escape z [] chain ends u v m = absurd m
  chain_escape z (x ∷ l) chain ends u v m =
      ⊎_elim (λ g. record { pole = x; is_pole = inl chain.begins; way = inl (around_turned inner_back g) })
      (λ g. record { pole = ending_from x l; is_pole = inr ends; way = inr g })
      (around_halves (Inner J t) z u v x l (inner-linked J t x l chain.inside chain.linked) chain.once m)

  live_escape : Live J t a b → (z : ℕ) → Escape J t a b z
  live_escape live z = ⊎_elim (along a b) (λ m. escape_turned J t b a z (along b a m)) live.showing.1
    where
      along : (u v : ℕ) → (u, v) ∈ steps live.chain → Escape J t u v z
      along = chain_escape z live.chain live.is_chain live.showing.0

  served_escape : (z : ℕ) → z < t → Served J t a → Served J t b → Escape J t a b z
  served_escape z below of-a of-b = at (ℕ_discrete z a)
    where
      around : {u : ℕ} (r : Reachable J t Pole (Is z) u) → Around (Inner J t) z u r.from
      around r = around_turned inner_back (row_around J t z r.row r.none_out)

      at : Dec (z ≡ a) → Escape J t a b z
      at (no other) =
          let r = of-a z below other in
          record { pole = r.from; is_pole = r.begins; way = inl (around r) }
      at (yes e) =
          let r = of-b z below (λ s. wound.two_ends (sym e ∙ s)) in
          record { pole = r.from; is_pole = r.begins; way = inr (around r) }

  escape_undivided : (z : ℕ) → Escape J t a b z → ¬ (Divides J t a b z)
  escape_undivided z out divides =
      divides out.pole out.is_pole
      (⊎_elim (λ g. around_reached J t z g wound.a_inside (WindingEnd a b) (inl refl))
      (λ g. around_reached J t z g wound.b_inside (WindingEnd a b) (inr refl)) out.way)

  module _ (some : 1 < t) where
    -- an end u is served where there is always an escape, because it is joined to the other end v
    escape_serves : (u v z : ℕ) → Inner J t u v → ¬ (z ≡ u) → Escape J t u v z → Reachable J t Pole (Is z) u
    escape_serves u v z join other out =
        around_reached J t z
        (around_turned inner_back (⊎_elim (λ g. g) (goes (λ e. other (sym e)) join) out.way))
        (⊎_elim (λ e. omega arith) (λ e. omega arith) out.is_pole) Pole out.is_pole

    live_serves : Live J t a b → Served J t a × Served J t b
    live_serves live = (
      λ z below other. escape_serves a b z inner-ends other (live_escape live z),
      λ z below other.
          escape_serves b a z (inner_back a b inner-ends) other (escape_turned J t a b z (live_escape live z)),
    )

    -- ---- two ways apart are a chain

    way_chain : (w : Way (Inner J t) plus minus) → IsChain J t (plus ∷ w.later)
    way_chain w = record {
      begins = refl;
      inside = inner_inside J t plus w.later (omega arith) w.linked;
      once = w.once;
      linked = linked_wider (Inner J t) J (λ u v h. h.2) (plus ∷ w.later) w.linked;
      stops = subst (λ (e : ℕ). All (λ (k : ℕ × ℕ). ¬ (k.0 ≡ e)) (steps (plus ∷ w.later))) w.ends
          (once_stops plus w.later w.once);
    }

    -- two ways apart, from u to plus and from v to minus, and the step from u to v
    pair-shown : (u v : ℕ) → Inner J t u v
        → ((c : List ℕ) → (u, v) ∈ steps c → ((a, b) ∈ steps c) ⊎ ((b, a) ∈ steps c))
        → Pair (Inner J t) u v plus minus → Live J t a b
    pair-shown u v join side p =
        let back = way_turned (Inner J t) inner_back p.first in
        let w =
        way_on back.way (v ∷ p.second.later) minus (join, p.second.linked) p.second.ends p.second.once
        (λ k m. p.apart k (back.among k m)) in
        let step =
        subst (λ (k : ℕ). (k, v) ∈ steps (plus ∷ w.later)) back.way.ends
        (step_between plus back.way.later v p.second.later) in
        record {
          chain = plus ∷ w.later;
          is_chain = way_chain w;
          showing = (w.ends, side (plus ∷ w.later) step);
        }

    two-shown : Two (Inner J t) a b plus minus → Live J t a b
    two-shown (inl p) = pair-shown a b inner-ends (λ c. inl) p
    two-shown (inr p) = pair-shown b a (inner_back a b inner-ends) (λ c. inr) (pair_swapped p)

    -- ---- a bar divides; one outside the board leaves no way at all

    barred-divided : Barred (Inner J t) a b plus minus → Divided J t a b
    barred-divided bar = at (dec_lt bar.by t)
      where
        at : Dec (bar.by < t) → Divided J t a b
        at (yes below) = record {
          by = bar.by;
          inside = below;
          divides = λ p pole r.
              bar.bars r.from p r.begins pole (row_around J t bar.by r.row r.none_out);
        }
        at (no outside) = record {
          by = plus;
          inside = omega arith;
          divides = λ p pole r. bar.bars r.from p r.begins pole
              (row_around J t bar.by r.row
              (all_map (λ (u : ℕ). u < t) (λ (u : ℕ). ¬ (u ≡ bar.by))
              (λ u below e. outside (subst (λ (k : ℕ). k < t) e below)) (r.from ∷ r.row.later) r.row.inside));
        }

-- ---- the theorems

inner-told : (J : ℕ → ℕ → Type 0) → CanTell J → (t u v : ℕ) → Dec (Inner J t u v)
inner-told J told t u v = all_three (dec_lt u t) (dec_lt v t) (told u v)
  where
    all_three : Dec (u < t) → Dec (v < t) → Dec (J u v) → Dec ((u < t) × (v < t) × J u v)
    all_three (yes p) (yes q) (yes r) = yes (p, q, r)
    all_three (yes p) (yes q) (no r) = no (λ h. r h.2)
    all_three (yes p) (no q) r = no (λ h. q h.1)
    all_three (no p) q r = no (λ h. p h.0)

pub shown_or_divided : ShownOrDivided
shown_or_divided J t a b told some wound =
    ⊎_map (two-shown J t a b wound some) (barred-divided J t a b wound some)
    (decided-below (Inner J t) (inner-told J told t) t (λ u v h. (h.0, h.1)) a b plus minus wound.two_ends)

pub never_both : NeverBoth
never_both J t a b wound live divided =
    escape_undivided J t a b wound divided.by (live_escape J t a b wound live divided.by) divided.divides

pub shown_by_served : ShownByServed
shown_by_served J t a b told some wound = (live_serves J t a b wound some, shown)
  where
    shown : Served J t a × Served J t b → Live J t a b
    shown (of-a, of-b) =
        ⊎_elim (λ live. live)
        (λ d. absurd (escape_undivided J t a b wound d.by
        (served_escape J t a b wound d.by d.inside of-a of-b) d.divides))
        (shown_or_divided J t a b told some wound)

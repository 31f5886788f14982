-- The laws of rows and of what is reached: the terminals reached are the least set that holds those begun with and
-- those joined to each that it holds, those taken out apart. So is the flood, and the two are one.
use Prim.Native.Nat.{ℕ, ◌<◌}
use mathlib.Core.Path.{◌≡◌, refl, sym, subst, ◌∙◌}
use mathlib.Core.Bool.{false, false≢true}
use mathlib.Core.List.{List, [], ◌∷◌, ◌++◌}
use Rattle.bits.specs.Sets.{room, member}
use Rattle.bits.proofs.BoolLaws.{by_test}
use Rattle.lists.specs.Members.{All}
use Rattle.lists.proofs.MemberLaws.{all_append}
use Rattle.neighbours.specs.Neighbours.{joined}
use Rattle.chains.specs.Chains.{steps, ending, ending_from, Linked}
use Rattle.chains.specs.ChainList.{Tested}
use Rattle.chains.proofs.StepLaws.{steps_next, ending_next}
use Rattle.reach.specs.Links.{Link, Reachable}
use Rattle.reach.specs.Floods.{In, flooded, FloodReaches}
use Rattle.reach.proofs.FloodLaws.{flood-begins, flood_on_lem, flood_least}

module _ (J : ℕ → ℕ → Type 0) (t : ℕ) where
  -- what each terminal of a row that is Q gets from the one before it, its end has if its beginning has it
  along : (P Q : ℕ → Type 0) → ((u v : ℕ) → u < t → v < t → P u → J u v → Q v → P v) → (x : ℕ) (l : List ℕ)
      → P x → All (λ (z : ℕ). z < t) (x ∷ l) → Linked J (x ∷ l) → All Q l → P (ending_from x l)
  along P Q on x [] has inside linked all = has
  along P Q on x (y ∷ l) has inside linked all =
      along P Q on y l (on x y inside.0 inside.1.0 has linked.0 all.0) inside.1 linked.1 all.1

  -- ---- rows

  unfoldable pub row-alone : (x : ℕ) → x < t → Link J t x x
  row-alone x below = record { later = []; inside = (below, tt); linked = tt; ends = refl }

  unfoldable pub row_on : (x y z : ℕ) → Link J t x y → J y z → z < t → Link J t x z
  row_on x y z row join below = record {
    later = row.later ++ (z ∷ []);
    inside = all_append (λ (u : ℕ). u < t) (x ∷ row.later) (z ∷ []) row.inside (below, tt);
    linked = rw (steps_next x row.later z)
        (all_append (λ (s : ℕ × ℕ). J s.0 s.1) (steps (x ∷ row.later)) ((ending (x ∷ row.later), z) ∷ [])
        row.linked (subst (λ (u : ℕ). J u z) (sym row.ends) join, tt));
    ends = ending_next (x ∷ row.later) z;
  }

  -- a set of terminals that with each holds those joined to it has a row's end if it has its beginning
  pub row_within : (x y : ℕ) (P : ℕ → Type 0) → ((u v : ℕ) → u < t → v < t → P u → J u v → P v)
      → P x → Link J t x y → P y
  row_within x y P on has row =
      subst P row.ends
      (along P (λ (v : ℕ). v < t) (λ u v inside below is join also. on u v inside below is join) x row.later
      has row.inside row.linked row.inside.1)

  -- ---- what is reached

  module _ (From Out : ℕ → Type 0) where
    pub reached-begins : (x : ℕ) → x < t → From x → ¬ (Out x) → Reachable J t From Out x
    unfolding row-alone
    reached-begins x below begins apart =
        record { from = x; begins = begins; row = row-alone x below; none_out = (apart, tt) }

    pub reached_on : (y z : ℕ) → Reachable J t From Out y → J y z → z < t → ¬ (Out z) → Reachable J t From Out z
    unfolding row_on
    reached_on y z r join below apart = record {
      from = r.from;
      begins = r.begins;
      row = row_on r.from y z r.row join below;
      none_out = all_append (λ (u : ℕ). ¬ (Out u)) (r.from ∷ r.row.later) (z ∷ []) r.none_out (apart, tt);
    }

    pub reached-within : (P : ℕ → Type 0) → ((u : ℕ) → u < t → From u → ¬ (Out u) → P u)
        → ((u v : ℕ) → u < t → v < t → P u → J u v → ¬ (Out v) → P v) → (y : ℕ) → Reachable J t From Out y → P y
    reached-within P start on y r =
        subst P r.row.ends
        (along P (λ (v : ℕ). ¬ (Out v)) on r.from r.row.later
        (start r.from r.row.inside.0 r.begins r.none_out.0)
        r.row.inside r.row.linked r.none_out.1)

-- ---- the flood is what is reached

absent_apart : (s n : ℕ) → member s n ≡ false → ¬ (In s n)
absent_apart s n off on = false≢true (sym off ∙ on)

apart_absent : (s n : ℕ) → ¬ (In s n) → member s n ≡ false
apart_absent s n apart = by_test (member s n) (λ on. absurd (apart on)) (λ off. off)

module _ (near : List ℕ) (from out : ℕ) where
  abbrev ReachedHere : ℕ → Type 0
  ReachedHere y = Reachable (Tested (joined near)) room (In from) (In out) y

  flooded_reached : (y : ℕ) → In (flooded near from out) y → y < room → ReachedHere y
  flooded_reached =
      flood_least near from out (λ (x : ℕ). x < room → ReachedHere x)
      (λ x begins left below. reached-begins _ room _ _ x below begins (absent_apart out x left))
      (λ x y below reached join left inside.
      reached_on _ room _ _ x y (reached below) join inside (absent_apart out y left))

  reached-flooded : (y : ℕ) → ReachedHere y → In (flooded near from out) y
  reached-flooded =
      reached-within _ room _ _ (In (flooded near from out))
      (λ x below begins apart. flood-begins near from out x begins (apart_absent out x apart))
      (λ x y below inside is join apart. flood_on_lem near from out x y below is join (apart_absent out y apart))

pub flood_reaches : FloodReaches
flood_reaches near from out r y told below =
    rw told (λ is. flooded_reached near from out y is below, λ reached. reached-flooded near from out y reached)

-- The dichotomy that the theorems of dividing rest on, of arcs of one direction (Menger's theorem for two, after
-- Göring): from two terminals to two there are two ways apart, or one terminal bars every way.
--     Pair R a b c d      a way from a to c and a way from b to d that share no terminal
--     Two R a b c d       two ways apart from a and b to c and d, whichever comes to which
--     Bars R a b c d s    nothing goes from a or b to c or d around s
--     Barred R a b c d    some terminal bars so
--     Decided R           from two to two, there are two ways or there is a bar
use Prim.Native.Nat.{ℕ}
use native.Mathlib.Decide.{ℕ_discrete}
use mathlib.Core.Path.{◌≡◌, refl, sym, subst, ◌∙◌}
use mathlib.Core.Logic.{◌⊎◌, inl, inr, ⊎_elim, ⊎_map, ⊎_swap}
use mathlib.Core.List.{◌∷◌}
use Rattle.lists.specs.Members.{◌∈◌}
use Rattle.lists.proofs.MemberLaws.{append-member}
use Rattle.dividing.specs.Dividing.{WindingEnd}
use Rattle.dividing.proofs.AroundLaws.{Around, stays, goes, around_starts, around_on, around_wider}
use Rattle.dividing.proofs.AroundLaws.{around_passing, around_taking}
use Rattle.dividing.proofs.WayLaws.{Way, On, end_on, way-before, way_after, way_on, linked_wider, way_wider}
use Rattle.dividing.proofs.WayLaws.{way-alone}

pub record Pair (R : ℕ → ℕ → Type 0) (a b c d : ℕ) : Type 0 where
  pub first : Way R a c
  pub second : Way R b d
  pub apart : (v : ℕ) → On first v → ¬ (On second v)

abbrev pub Two : (ℕ → ℕ → Type 0) → ℕ → ℕ → ℕ → ℕ → Type 0
Two R a b c d = Pair R a b c d ⊎ Pair R a b d c

abbrev pub Bars : (ℕ → ℕ → Type 0) → ℕ → ℕ → ℕ → ℕ → ℕ → Type 0
Bars R a b c d s = (u v : ℕ) → WindingEnd a b u → WindingEnd c d v → ¬ (Around R s u v)

pub record Barred (R : ℕ → ℕ → Type 0) (a b c d : ℕ) : Type 0 where
  pub by : ℕ
  pub bars : Bars R a b c d by

abbrev pub Decided : (ℕ → ℕ → Type 0) → Type 0
Decided R = (a b c d : ℕ) → ¬ (a ≡ b) → Two R a b c d ⊎ Barred R a b c d

pub pair_swapped : {R : ℕ → ℕ → Type 0} {a b c d : ℕ} → Pair R a b c d → Pair R b a d c
pair_swapped p = record { first = p.second; second = p.first; apart = λ v m n. p.apart v n m }

pair_wider : (R S : ℕ → ℕ → Type 0) → ((u v : ℕ) → R u v → S u v) → {a b c d : ℕ} → Pair R a b c d → Pair S a b c d
pair_wider R S wider p =
    record { first = way_wider R S wider p.first; second = way_wider R S wider p.second; apart = p.apart }

two_wider : (R S : ℕ → ℕ → Type 0) → ((u v : ℕ) → R u v → S u v) → {a b c d : ℕ} → Two R a b c d → Two S a b c d
two_wider R S wider = ⊎_map (pair_wider R S wider) (pair_wider R S wider)

-- the same arcs, said in another way
pub decided-same : (R S : ℕ → ℕ → Type 0) → ((u v : ℕ) → R u v → S u v) → ((u v : ℕ) → S u v → R u v) → Decided R
    → Decided S
decided-same R S there back known a b c d two =
    ⊎_map (two_wider R S there)
    (λ (bar : Barred R a b c d). record { by = bar.by; bars = λ u v e f g. bar.bars u v e f (around_wider back g) })
    (known a b c d two)

-- ---- without arcs

module _ (R : ℕ → ℕ → Type 0) (none : (u v : ℕ) → ¬ (R u v)) (a b c d : ℕ) where
  sole_bars : (s o : ℕ) → ((u : ℕ) → WindingEnd a b u → WindingEnd s o u) → ¬ (WindingEnd c d o) → Bars R a b c d s
  sole_bars s o ends out u v e f (stays other) = ⊎_elim other (λ k. out (subst (WindingEnd c d) k f)) (ends u e)
  sole_bars s o ends out u v e f (goes {y = w} other r g) = none u w r

  first_bars : ¬ (WindingEnd c d b) → Barred R a b c d
  first_bars out = record { by = a; bars = sole_bars a b (λ u e. e) out }

  second_bars : ¬ (WindingEnd c d a) → Barred R a b c d
  second_bars out = record { by = b; bars = sole_bars b a (λ u. ⊎_swap) out }

  module _ (two : ¬ (a ≡ b)) where
    alone : (y z : ℕ) → a ≡ y → b ≡ z → Pair R a b y z
    alone y z e f =
        record {
          first = way-alone R e;
          second = way-alone R f;
          apart = λ v. ⊎_elim (λ e. ⊎_elim (λ f. two (sym e ∙ f)) absurd) absurd;
        }

    by-ends : Dec (a ≡ c) → Dec (a ≡ d) → Dec (b ≡ c) → Dec (b ≡ d) → Two R a b c d ⊎ Barred R a b c d
    by-ends (yes p) ad bc (yes q) = inl (inl (alone c d p q))
    by-ends (yes p) ad bc (no q) = inr (first_bars (⊎_elim (λ e. two (p ∙ sym e)) q))
    by-ends (no o) (yes p) (yes q) bd = inl (inr (alone d c p q))
    by-ends (no o) (yes p) (no q) bd = inr (first_bars (⊎_elim q (λ e. two (p ∙ sym e))))
    by-ends (no o) (no p) bc bd = inr (second_bars (⊎_elim o p))

pub decided_none : (R : ℕ → ℕ → Type 0) → ((u v : ℕ) → ¬ (R u v)) → Decided R
decided_none R none a b c d two =
    by-ends R none a b c d two (ℕ_discrete a c) (ℕ_discrete a d) (ℕ_discrete b c) (ℕ_discrete b d)

-- ---- one arc more: S is R and the arc from x to y besides

module _ (R S : ℕ → ℕ → Type 0) (x y : ℕ) (wider : (u v : ℕ) → R u v → S u v) (arc : S x y) where
  -- two ways to a bar s and to x, and two from s and from y, meet nowhere but at s
  joined : {a b c d s : ℕ} → Bars R a b c d s → Pair R a b s x → Pair R s y c d → Pair S a b c d
  joined {a} {b} {c} {d} {s} bars p q =
      record {
        first = way_on (way_wider R S wider p.first) q.first.later c
            (linked_wider R S wider (s ∷ q.first.later) q.first.linked)
            q.first.ends q.first.once.1 first_first;
        second = way_on (way_wider R S wider p.second) (y ∷ q.second.later) d
            (arc, linked_wider R S wider (y ∷ q.second.later) q.second.linked)
            q.second.ends q.second.once second_second;
        apart = λ v m n. by_parts v (append-member v (a ∷ p.first.later) q.first.later m)
            (append-member v (b ∷ p.second.later) (y ∷ q.second.later) n);
      }
    where
      to_first : (v : ℕ) → On p.first v → ¬ (v ≡ s) → Around R s a v
      to_first = way-before p.first s (λ m. refl)

      to_second : (v : ℕ) → On p.second v → ¬ (v ≡ s) → Around R s b v
      to_second = way-before p.second s (λ m. absurd (p.apart s (end_on p.first) m))

      from_first : (v : ℕ) → On q.first v → ¬ (v ≡ s) → Around R s v c
      from_first = way_after q.first s (λ m. refl)

      from_second : (v : ℕ) → On q.second v → ¬ (v ≡ s) → Around R s v d
      from_second = way_after q.second s (λ m. absurd (q.apart s (inl refl) m))

      -- s is not on the ways that come to x and from y
      not_to : (v : ℕ) → On p.second v → ¬ (v ≡ s)
      not_to v m e = p.apart s (end_on p.first) (subst (On p.second) e m)

      not_from : (v : ℕ) → On q.second v → ¬ (v ≡ s)
      not_from v m e = q.apart v (inl e) m

      first_first : (v : ℕ) → On p.first v → ¬ (v ∈ q.first.later)
      first_first v m n =
          let other : ¬ (v ≡ s) = λ e. q.first.once.0 (subst (λ (u : ℕ). u ∈ q.first.later) e n) in
          bars a c (inl refl) (inl refl) (around_on (to_first v m other) (from_first v (inr n) other))

      second_second : (v : ℕ) → On p.second v → ¬ (On q.second v)
      second_second v m n =
          bars b d (inr refl) (inr refl) (around_on (to_second v m (not_to v m)) (from_second v n (not_to v m)))

      by_parts : (v : ℕ) → On p.first v ⊎ (v ∈ q.first.later) → On p.second v ⊎ On q.second v → ⊥
      by_parts v (inl m) (inl n) = p.apart v m n
      by_parts v (inl m) (inr n) =
          bars a d (inl refl) (inr refl) (around_on (to_first v m (not_from v n)) (from_second v n (not_from v n)))
      by_parts v (inr m) (inl n) =
          bars b c (inr refl) (inl refl) (around_on (to_second v n (not_to v n)) (from_first v (inr m) (not_to v n)))
      by_parts v (inr m) (inr n) = q.apart v (inr m) n

  joined_two : {a b c d s : ℕ} → Bars R a b c d s → Two R a b s x → Two R s y c d → Two S a b c d
  joined_two bars (inl p) (inl q) = inl (joined bars p q)
  joined_two bars (inl p) (inr q) = inr (joined (λ u v e f. bars u v e (⊎_swap f)) p q)
  joined_two bars (inr p) (inl q) =
      inr (pair_swapped (joined (λ u v e f. bars u v (⊎_swap e) f) (pair_swapped p) q))
  joined_two bars (inr p) (inr q) =
      inl (pair_swapped (joined (λ u v e f. bars u v (⊎_swap e) (⊎_swap f)) (pair_swapped p) q))

  module _ (either : (u v : ℕ) → S u v → R u v ⊎ ((u ≡ x) × (v ≡ y))) (known : Decided R) (a b c d : ℕ) where
    module _ (s : ℕ) (bars : Bars R a b c d s) where
      -- what goes along S from an end to another passes s, or the arc
      barred : (z : ℕ) → ((u v : ℕ) → WindingEnd a b u → WindingEnd c d v → Around R z u s → ¬ (Around R z s v))
          → ((u v : ℕ) → WindingEnd a b u → WindingEnd c d v → Around R z u x → ¬ (Around R z y v))
          → Two S a b c d ⊎ Barred S a b c d
      barred z at_bar at-arc =
          inr (record {
            by = z;
            bars = λ u v e f g. ⊎_elim
                (λ h. ⊎_elim (bars u v e f) (λ (to, on). at_bar u v e f to on) (around_passing s h))
                (λ (to, on). at-arc u v e f to on) (around_taking x y either g);
          })

      from_bar : Two R a b s x → Two R s y c d ⊎ Barred R s y c d → Two S a b c d ⊎ Barred S a b c d
      from_bar p (inl q) = inl (joined_two bars p q)
      from_bar p (inr bar) =
          barred bar.by (λ u v e f to. bar.bars s v (inl refl) f) (λ u v e f to. bar.bars y v (inr refl) f)

      to_bar : ¬ (s ≡ y) → Two R a b s x ⊎ Barred R a b s x → Two S a b c d ⊎ Barred S a b c d
      to_bar other (inl p) = from_bar p (known s y c d other)
      to_bar other (inr bar) =
          barred bar.by (λ u v e f to on. bar.bars u s e (inl refl) to)
          (λ u v e f to on. bar.bars u x e (inr refl) to)

      at_bar : ¬ (a ≡ b) → Dec (s ≡ y) → Two S a b c d ⊎ Barred S a b c d
      at_bar two (yes same) =
          barred s (λ u v e f to on. around_starts on refl) (λ u v e f to on. around_starts on (sym same))
      at_bar two (no other) = to_bar other (known a b s x two)

    pub one_more : ¬ (a ≡ b) → Two S a b c d ⊎ Barred S a b c d
    one_more two =
        ⊎_elim (λ ways. inl (two_wider R S wider ways))
        (λ bar. at_bar bar.by bar.bars two (ℕ_discrete bar.by y)) (known a b c d two)

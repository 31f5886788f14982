-- Laws of ways: rows of terminals that hold none twice. What a way has before and behind a terminal and a step, a way
-- that goes on, and a way turned round.
--     Way R x y         a row of terminals from x to y, each R to the next, none twice
--     Turned R x y l    a way from x to y over terminals of l
use Prim.Native.Nat.{ℕ}
use native.Mathlib.Decide.{ℕ_discrete}
use mathlib.Core.Path.{◌≡◌, refl, sym, ap, subst, ◌∙◌}
use mathlib.Core.Logic.{◌⊎◌, inl, inr, ⊎_elim, ⊎_map}
use mathlib.Core.List.{List, [], ◌∷◌, ◌++◌}
use Rattle.lists.specs.Members.{◌∈◌, All, Once}
use Rattle.lists.proofs.MemberLaws.{append-member, member_all, all_map}
use Rattle.chains.specs.Chains.{steps, steps_from, ending, ending_from, Linked}
use Rattle.dividing.proofs.AroundLaws.{Around, stays, goes}

pub record Way (R : ℕ → ℕ → Type 0) (x y : ℕ) : Type 0 where
  pub later : List ℕ
  pub linked : Linked R (x ∷ later)
  pub ends : ending (x ∷ later) ≡ y
  pub once : Once (x ∷ later)

-- ---- rows

ending-member : (x : ℕ) (l : List ℕ) → ending_from x l ∈ (x ∷ l)
ending-member x [] = inl refl
ending-member x (y ∷ l) = inr (ending-member y l)

pub ending-append : (x : ℕ) (k l : List ℕ) → ending_from x (k ++ l) ≡ ending_from (ending_from x k) l
ending-append x [] l = refl
ending-append x (y ∷ k) l = ending-append y k l

pub linked-append : (R : ℕ → ℕ → Type 0) (x : ℕ) (k l : List ℕ) → Linked R (x ∷ k) → Linked R (ending_from x k ∷ l)
    → Linked R (x ∷ (k ++ l))
linked-append R x [] l linked more = more
linked-append R x (y ∷ k) l linked more = (linked.0, linked-append R y k l linked.1 more)

pub once-append : (k l : List ℕ) → Once k → Once l → ((v : ℕ) → v ∈ k → ¬ (v ∈ l)) → Once (k ++ l)
once-append [] l once also apart = also
once-append (x ∷ k) l once also apart = (
  λ m. ⊎_elim once.0 (apart x (inl refl)) (append-member x k l m),
  once-append k l once.1 also (λ v m. apart v (inr m)),
)

pub step_between : (x : ℕ) (k : List ℕ) (y : ℕ) (l : List ℕ) → (ending_from x k, y) ∈ steps_from x (k ++ (y ∷ l))
step_between x [] y l = inl refl
step_between x (z ∷ k) y l = inr (step_between z k y l)

step-member : (x : ℕ) (l : List ℕ) (a b : ℕ) → (a, b) ∈ steps_from x l → b ∈ l
step-member x [] a b m = m
step-member x (y ∷ l) a b m = ⊎_map (λ e. ap (λ (k : ℕ × ℕ). k.1) e) (step-member y l a b) m

-- no step leaves the end of a row that holds nothing twice
pub once_stops : (x : ℕ) (l : List ℕ) → Once (x ∷ l) → All (λ (k : ℕ × ℕ). ¬ (k.0 ≡ ending_from x l)) (steps (x ∷ l))
once_stops x [] once = tt
once_stops x (y ∷ l) once =
    (λ e. once.0 (subst (λ (u : ℕ). u ∈ (y ∷ l)) (sym e) (ending-member y l)), once_stops y l once.1)

-- ---- a terminal that a row does not pass, or at its end only, or at its beginning only

module _ (R : ℕ → ℕ → Type 0) (s : ℕ) where
  pub around_clear : (x : ℕ) (l : List ℕ) → Linked R (x ∷ l) → All (λ (u : ℕ). ¬ (u ≡ s)) (x ∷ l)
      → Around R s x (ending_from x l)
  around_clear x [] linked clear = stays clear.0
  around_clear x (y ∷ l) linked clear = goes clear.0 linked.0 (around_clear y l linked.1 clear.1)

  around-before : (x : ℕ) (l : List ℕ) → Linked R (x ∷ l) → Once (x ∷ l) → (s ∈ (x ∷ l) → ending_from x l ≡ s)
      → (v : ℕ) → v ∈ (x ∷ l) → ¬ (v ≡ s) → Around R s x v
  around-before x [] linked once last v (inl e) other = subst (λ (u : ℕ). Around R s u v) e (stays other)
  around-before x [] linked once last v (inr m) other = absurd m
  around-before x (y ∷ l) linked once last v (inl e) other = subst (λ (u : ℕ). Around R s u v) e (stays other)
  around-before x (y ∷ l) linked once last v (inr m) other =
      goes (λ e. once.0 (subst (λ (u : ℕ). u ∈ (y ∷ l)) (last (inl (sym e)) ∙ sym e) (ending-member y l)))
      linked.0 (around-before y l linked.1 once.1 (λ n. last (inr n)) v m other)

  around_from : (x : ℕ) (l : List ℕ) → Linked R (x ∷ l) → (s ∈ (x ∷ l) → x ≡ s) → (v : ℕ) → v ≡ x → ¬ (v ≡ s)
      → Around R s v (ending_from x l)
  around_from x l linked first v e other =
      subst (λ (u : ℕ). Around R s u (ending_from x l)) (sym e)
      (around_clear x l linked (member_all (λ (u : ℕ). ¬ (u ≡ s)) (x ∷ l)
      (λ u m k. other (e ∙ first (subst (λ (i : ℕ). i ∈ (x ∷ l)) k m)))))

  around_after : (x : ℕ) (l : List ℕ) → Linked R (x ∷ l) → Once (x ∷ l) → (s ∈ (x ∷ l) → x ≡ s)
      → (v : ℕ) → v ∈ (x ∷ l) → ¬ (v ≡ s) → Around R s v (ending_from x l)
  around_after x [] linked once first v (inl e) other = around_from x [] linked first v e other
  around_after x [] linked once first v (inr m) other = absurd m
  around_after x (y ∷ l) linked once first v (inl e) other = around_from x (y ∷ l) linked first v e other
  around_after x (y ∷ l) linked once first v (inr m) other =
      around_after y l linked.1 once.1
      (λ n. absurd (once.0 (subst (λ (u : ℕ). u ∈ (y ∷ l)) (sym (first (inr n))) n))) v m other

-- a terminal is missing before a step of a row that holds nothing twice, or behind it
module _ (R : ℕ → ℕ → Type 0) (z a b : ℕ) where
  pub around_halves : (x : ℕ) (l : List ℕ) → Linked R (x ∷ l) → Once (x ∷ l) → (a, b) ∈ steps_from x l
      → Around R z x a ⊎ Around R z b (ending_from x l)
  around_halves x [] linked once m = absurd m
  around_halves x (y ∷ l) linked once m = at (ℕ_discrete x z) m (around_halves y l linked.1 once.1)
    where
      at : Dec (x ≡ z) → (a, b) ∈ steps_from x (y ∷ l)
          → ((a, b) ∈ steps_from y l → Around R z y a ⊎ Around R z b (ending_from y l))
          → Around R z x a ⊎ Around R z b (ending_from y l)
      at (yes e) m rest =
          let there = step-member x (y ∷ l) a b m in
          inr (around_after R z x (y ∷ l) linked once (λ n. e) b (inr there)
          (λ s. once.0 (subst (λ (u : ℕ). u ∈ (y ∷ l)) (s ∙ sym e) there)))
      at (no other) (inl e) rest = inl (subst (Around R z x) (sym (ap (λ (k : ℕ × ℕ). k.0) e)) (stays other))
      at (no other) (inr m) rest = ⊎_map (goes other linked.0) (λ g. g) (rest m)

-- ---- ways

module _ {R : ℕ → ℕ → Type 0} {x y : ℕ} (w : Way R x y) where
  abbrev pub On : ℕ → Type 0
  On v = v ∈ (x ∷ w.later)

  pub end_on : On y
  end_on = subst On w.ends (ending-member x w.later)

  pub way-before : (s : ℕ) → (On s → y ≡ s) → (v : ℕ) → On v → ¬ (v ≡ s) → Around R s x v
  way-before s last = around-before R s x w.later w.linked w.once (λ m. w.ends ∙ last m)

  pub way_after : (s : ℕ) → (On s → x ≡ s) → (v : ℕ) → On v → ¬ (v ≡ s) → Around R s v y
  way_after s first v m other =
      subst (Around R s v) w.ends (around_after R s x w.later w.linked w.once first v m other)

  -- a way goes on over terminals that it has not passed
  abbrev pub way_on : (l : List ℕ) (z : ℕ) → Linked R (y ∷ l) → ending_from y l ≡ z → Once l
      → ((v : ℕ) → On v → ¬ (v ∈ l)) → Way R x z
  way_on l z linked ends once apart = record {
    later = w.later ++ l;
    linked = linked-append R x w.later l w.linked (subst (λ (u : ℕ). Linked R (u ∷ l)) (sym w.ends) linked);
    ends = ending-append x w.later l ∙ ap (λ (u : ℕ). ending_from u l) w.ends ∙ ends;
    once = once-append (x ∷ w.later) l w.once once apart;
  }

pub linked_wider : (R S : ℕ → ℕ → Type 0) → ((u v : ℕ) → R u v → S u v) → (l : List ℕ) → Linked R l → Linked S l
linked_wider R S wider l =
    all_map (λ (k : ℕ × ℕ). R k.0 k.1) (λ (k : ℕ × ℕ). S k.0 k.1) (λ k. wider k.0 k.1) (steps l)

abbrev pub way_wider : (R S : ℕ → ℕ → Type 0) → ((u v : ℕ) → R u v → S u v) → {x y : ℕ} → Way R x y → Way S x y
way_wider R S wider {x} w =
    record {
      later = w.later;
      linked = linked_wider R S wider (x ∷ w.later) w.linked;
      ends = w.ends;
      once = w.once;
    }

abbrev pub way-alone : (R : ℕ → ℕ → Type 0) {x y : ℕ} → x ≡ y → Way R x y
way-alone R e = record { later = []; linked = tt; ends = e; once = (λ m. m, tt) }

-- ---- turned round

pub record Turned (R : ℕ → ℕ → Type 0) (x y : ℕ) (l : List ℕ) : Type 0 where
  pub way : Way R x y
  pub among : (v : ℕ) → On way v → v ∈ l

module _ (R : ℕ → ℕ → Type 0) (back : (u v : ℕ) → R u v → R v u) where
  row_turned : (x : ℕ) (l : List ℕ) → Linked R (x ∷ l) → Once (x ∷ l) → Turned R (ending_from x l) x (x ∷ l)
  row_turned x [] linked once = record { way = way-alone R refl; among = λ v m. m }
  row_turned x (y ∷ l) linked once = on (row_turned y l linked.1 once.1)
    where
      on : Turned R (ending_from y l) y (y ∷ l) → Turned R (ending_from y l) x (x ∷ y ∷ l)
      on t = record {
        way = way_on t.way (x ∷ []) x (back x y linked.0, tt) refl (λ m. m, tt)
            (λ v m. ⊎_elim (λ e. once.0 (subst (λ (u : ℕ). u ∈ (y ∷ l)) e (t.among v m))) (λ n. n));
        among = λ v m. ⊎_elim (λ n. inr (t.among v n)) (⊎_elim inl absurd)
            (append-member v (ending_from y l ∷ t.way.later) (x ∷ []) m);
      }

  pub way_turned : {x y : ℕ} (w : Way R x y) → Turned R y x (x ∷ w.later)
  way_turned {x} w =
      subst (λ (u : ℕ). Turned R u x (x ∷ w.later)) w.ends (row_turned x w.later w.linked w.once)

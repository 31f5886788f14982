-- Laws of upkeep: the ends of the parts that go by what changed, that every other pair of terminals is joined as it
-- was, and that sets which belong to a state belong to the next one after a change of one relay or one button, which
-- the crates above cite. One section is for the proof of `changed_ends`.
use Prim.Native.Nat.{ℕ, ◌<◌}
use mathlib.Core.Path.{◌≡◌, refl, sym, ap, ap₂, subst, ◌∙◌}
use mathlib.Core.Logic.{◌⊎◌, inl, inr, ⊎_elim}
use mathlib.Core.Bool.{Bool, true, false, not, ◌&&◌, false≢true}
use mathlib.Core.List.{List, [], ◌∷◌, ◌++◌}
use lib.Dec.{eqb}
use borrow.Author.Tests.{eqb-true, eqb-false}
use Rattle.lists.specs.Members.{◌∈◌}
use Rattle.bits.specs.Sets.{member, including}
use Rattle.bits.proofs.BoolLaws.{by_test, by_less, both_ways}
use Rattle.bits.proofs.SetLaws.{member_none, including-kept, member-including-same, member-including_other}
use Rattle.kinds.specs.declared.Kind.{Kind}
use Rattle.kinds.specs.declared.Kind.TheVariants.{Wire, Upper, Lower, Button, Regular, Drawing, Dropping, Mark}
use Rattle.board.specs.declared.Part.{Part}
use Rattle.board.specs.declared.Board.{Board}
use Rattle.board.specs.Parts.{parts_of}
use Rattle.board.specs.Rules.{most_terminals}
use Rattle.state.specs.declared.State.{State}
use Rattle.state.specs.States.{is_drawn, is_pushed}
use Rattle.neighbours.specs.Conduction.{conducts, winds, conducts_bare}
use Rattle.neighbours.specs.Neighbours.{EndsAt, set_at, sets_at, renewed_at}
use Rattle.neighbours.proofs.SetAtLaws.{sets_at_lem, neighbours_sets, bare_sets}
use Rattle.neighbours.proofs.JoinedLaws.{set_at_adds, set_at_by, set_at-beyond}
use Rattle.neighbours.proofs.RenewLaws.{renewed_all}
use Rattle.kept.specs.declared.Change.{Change}
use Rattle.kept.specs.declared.Change.TheVariants as of
use Rattle.kept.specs.Kept.{kept_at}
use Rattle.kept.specs.Upkeep.{follows, with_ends, changed_ends, changed_to}

-- ---- the ends of the parts that go by what changed

module _ (c : Change) (p : Part) (k : ℕ) where
  with_ends_on : follows c p.kind ≡ true → with_ends c p k ≡ including (including k p.a) p.b
  with_ends_on on = rw on refl

  with_ends_off : follows c p.kind ≡ false → with_ends c p k ≡ k
  with_ends_off off = rw off refl

  with_ends-kept : (x : ℕ) → member k x ≡ true → member (with_ends c p k) x ≡ true
  with_ends-kept x is =
      by_test (follows c p.kind)
      (λ on. ap (λ (j : ℕ). member j x) (with_ends_on on)
      ∙ including-kept (including k p.a) p.b x (including-kept k p.a x is))
      (λ off. ap (λ (j : ℕ). member j x) (with_ends_off off) ∙ is)

  with_ends_new : (x : ℕ) → follows c p.kind ≡ true → (x ≡ p.a) ⊎ (x ≡ p.b) → x < most_terminals
      → member (with_ends c p k) x ≡ true
  with_ends_new x on (inl is) below =
      ap (λ (j : ℕ). member j x) (with_ends_on on)
      ∙ including-kept (including k p.a) p.b x
      (subst (λ (y : ℕ). member (including k y) x ≡ true) is (member-including-same k x below))
  with_ends_new x on (inr is) below =
      ap (λ (j : ℕ). member j x) (with_ends_on on)
      ∙ subst (λ (y : ℕ). member (including (including k p.a) y) x ≡ true) is
      (member-including-same (including k p.a) x below)

  -- what holds if x is such an end, and if it was a member before, holds if it is one now
  with_ends_by : (x : ℕ) {C : Type 0} → (follows c p.kind ≡ true → (x ≡ p.a) ⊎ (x ≡ p.b) → C)
      → (member k x ≡ true → C) → member (with_ends c p k) x ≡ true → C
  with_ends_by x new old is =
      by_test (follows c p.kind)
      (λ on. by_test (eqb x p.b)
      (λ here. new on (inr (eqb-true x p.b here)))
      (λ not-b. by_test (eqb x p.a)
      (λ here. new on (inl (eqb-true x p.a here)))
      (λ not_a. old (sym (ap (λ (j : ℕ). member j x) (with_ends_on on)
      ∙ member-including_other (including k p.a) p.b x (eqb-false x p.b not-b)
      ∙ member-including_other k p.a x (eqb-false x p.a not_a)) ∙ is))))
      (λ off. old (sym (ap (λ (j : ℕ). member j x) (with_ends_off off)) ∙ is))

pub changed_ends_none : (c : Change) → changed_ends c [] ≡ 0
unfolding changed_ends
changed_ends_none c = refl

pub changed_ends_next : (c : Change) (p : Part) (ps : List Part)
    → changed_ends c (p ∷ ps) ≡ with_ends c p (changed_ends c ps)
unfolding changed_ends
changed_ends_next c p ps = refl

-- the ends of the parts with those of k besides, part by part from the last
pub ends_from : Change → List Part → ℕ → ℕ
ends_from c [] k = k
ends_from c (p ∷ ps) k = with_ends c p (ends_from c ps k)

pub ends_from_none : (c : Change) (k : ℕ) → ends_from c [] k ≡ k
unfolding ends_from
ends_from_none c k = refl

pub ends_from_last : (c : Change) (ps : List Part) (p : Part) (k : ℕ)
    → ends_from c (ps ++ (p ∷ [])) k ≡ ends_from c ps (with_ends c p k)
unfolding ends_from
ends_from_last c [] p k = refl
ends_from_last c (q ∷ ps) p k = ap (with_ends c q) (ends_from_last c ps p k)

pub changed_ends_from : (c : Change) (ps : List Part) → changed_ends c ps ≡ ends_from c ps 0
unfolding changed_ends ends_from
changed_ends_from c [] = refl
changed_ends_from c (p ∷ ps) = ap (with_ends c p) (changed_ends_from c ps)

-- either end of a part is one of its two
end_first : (p : Part) (x y : ℕ) → EndsAt p x y → (x ≡ p.a) ⊎ (x ≡ p.b)
end_first p x y (inl (a, b)) = inl (sym a)
end_first p x y (inr (a, b)) = inr (sym b)

end_second : (p : Part) (x y : ℕ) → EndsAt p x y → (y ≡ p.a) ⊎ (y ≡ p.b)
end_second p x y (inl (a, b)) = inr (sym b)
end_second p x y (inr (a, b)) = inl (sym a)

module _ (c : Change) (x : ℕ) where
  ends_step : (p : Part) (ps : List Part)
      → member (changed_ends c (p ∷ ps)) x ≡ member (with_ends c p (changed_ends c ps)) x
  ends_step p ps = ap (λ (j : ℕ). member j x) (changed_ends_next c p ps)

  part-ends : (ps : List Part) (p : Part) → p ∈ ps → follows c p.kind ≡ true → (x ≡ p.a) ⊎ (x ≡ p.b)
      → x < most_terminals → member (changed_ends c ps) x ≡ true
  part-ends [] p among on ends below = absurd among
  part-ends (q ∷ ps) p (inl same) on ends below =
      ends_step q ps ∙ subst (λ (r : Part). member (with_ends c r (changed_ends c ps)) x ≡ true) same
      (with_ends_new c p (changed_ends c ps) x on ends below)
  part-ends (q ∷ ps) p (inr among) on ends below =
      ends_step q ps ∙ with_ends-kept c q (changed_ends c ps) x (part-ends ps p among on ends below)

  -- x is such an end: what follows from the part holds
  pub ends-part : {C : Type 0} (ps : List Part)
      → ((p : Part) → p ∈ ps → follows c p.kind ≡ true → (x ≡ p.a) ⊎ (x ≡ p.b) → C)
      → member (changed_ends c ps) x ≡ true → C
  ends-part [] use-part is =
      absurd (false≢true (sym (ap (λ (j : ℕ). member j x) (changed_ends_none c) ∙ member_none x) ∙ is))
  ends-part (p ∷ ps) use-part is =
      with_ends_by c p (changed_ends c ps) x (λ on ends. use-part p (inl refl) on ends)
      (ends-part ps (λ q among on ends. use-part q (inr among) on ends)) (sym (ends_step p ps) ∙ is)

-- two tests that agree on what does not go by the change join every pair alike that is not one of these ends
pair_else : (c : Change) (f g : Kind → Bool) (ps : List Part) → ((k : Kind) → follows c k ≡ false → f k ≡ g k)
    → (x y : ℕ) → x < most_terminals
    → (member (changed_ends c ps) x ≡ false) ⊎ (member (changed_ends c ps) y ≡ false)
    → member (set_at f x ps) y ≡ member (set_at g x ps) y
pair_else c f g ps agree x y below apart =
    by_less y most_terminals
    (λ inside. both_ways _ _ (on f g agree inside) (on g f (λ k off. sym (agree k off)) inside))
    (λ past. set_at-beyond f x y ps past ∙ sym (set_at-beyond g x y ps past))
  where
    -- a part that goes by the change has both its ends among them
    stays : (p : Part) → p ∈ ps → EndsAt p x y → y < most_terminals → follows c p.kind ≡ false
    stays p among ends inside =
        by_test (follows c p.kind)
        (λ goes. absurd (⊎_elim
        (λ off. false≢true (sym off ∙ part-ends c x ps p among goes (end_first p x y ends) below))
        (λ off. false≢true (sym off ∙ part-ends c y ps p among goes (end_second p x y ends) inside)) apart))
        (λ is. is)

    on : (t u : Kind → Bool) → ((k : Kind) → follows c k ≡ false → t k ≡ u k) → y < most_terminals
        → member (set_at t x ps) y ≡ true → member (set_at u x ps) y ≡ true
    on t u same inside =
        set_at_by t x y ps
        (λ p among is ends. set_at_adds u x y ps p among
        (sym (same p.kind (stays p among ends inside)) ∙ is) ends inside)

-- ---- the state after a change of one relay or one button

-- what does not go by the change conducts in state t as in state s
abbrev Elsewhere : Change → State → State → Type 0
Elsewhere c s t = (k : Kind) → follows c k ≡ false → conducts s k ≡ conducts t k

module _ (s t : State) where
  relay_elsewhere : (r : ℕ) → ((q : ℕ) → ¬ (q ≡ r) → is_drawn t q ≡ is_drawn s q)
      → ((n : ℕ) → is_pushed t n ≡ is_pushed s n) → Elsewhere (of.Relay r) s t
  relay_elsewhere r drawn pushed Wire off = refl
  relay_elsewhere r drawn pushed (Upper q) off = sym (drawn q (eqb-false q r off))
  relay_elsewhere r drawn pushed (Lower q) off = ap not (sym (drawn q (eqb-false q r off)))
  relay_elsewhere r drawn pushed (Button n) off = sym (pushed n)
  relay_elsewhere r drawn pushed (Regular _) off = refl
  relay_elsewhere r drawn pushed (Drawing _) off = refl
  relay_elsewhere r drawn pushed (Dropping _) off = refl
  relay_elsewhere r drawn pushed (Mark _) off = refl

  button_elsewhere : (n : ℕ) → ((m : ℕ) → ¬ (m ≡ n) → is_pushed t m ≡ is_pushed s m)
      → ((r : ℕ) → is_drawn t r ≡ is_drawn s r) → Elsewhere (of.Button n) s t
  button_elsewhere n pushed drawn Wire off = refl
  button_elsewhere n pushed drawn (Upper r) off = sym (drawn r)
  button_elsewhere n pushed drawn (Lower r) off = ap not (sym (drawn r))
  button_elsewhere n pushed drawn (Button m) off = sym (pushed m (eqb-false m n off))
  button_elsewhere n pushed drawn (Regular _) off = refl
  button_elsewhere n pushed drawn (Drawing _) off = refl
  button_elsewhere n pushed drawn (Dropping _) off = refl
  button_elsewhere n pushed drawn (Mark _) off = refl

-- a row of sets by the one test, kept up, is the row by the other
row_kept : (c : Change) (f g : Kind → Bool) (ps : List Part) → ((k : Kind) → follows c k ≡ false → f k ≡ g k)
    → renewed_at g ps (changed_ends c ps) (sets_at f ps) ≡ sets_at g ps
row_kept c f g ps agree =
    renewed_all g ps (changed_ends c ps) (sets_at f ps)
    (λ x y below apart. ap (λ (k : ℕ). member k y) (sets_at_lem f ps x below)
    ∙ pair_else c f g ps agree x y below apart)

-- so sets that belong to state s, kept up, belong to state t
module _ (b : Board) (s t : State) (c : Change) (same : Elsewhere c s t) where
  bare_elsewhere : (k : Kind) → follows c k ≡ false → conducts_bare s k ≡ conducts_bare t k
  bare_elsewhere k off = ap (λ (u : Bool). not (winds k) && u) (same k off)

  changed-kept : changed_to (kept_at b s) b c t ≡ kept_at b t
  changed-kept =
      ap₂ (λ (k l : List ℕ). record { state = t; sets = record { near = k; bare = l } })
      (ap (renewed_at (conducts t) (parts_of b) (changed_ends c (parts_of b))) (neighbours_sets b s)
      ∙ row_kept c (conducts s) (conducts t) (parts_of b) same ∙ sym (neighbours_sets b t))
      (ap (renewed_at (conducts_bare t) (parts_of b) (changed_ends c (parts_of b))) (bare_sets b s)
      ∙ row_kept c (conducts_bare s) (conducts_bare t) (parts_of b) bare_elsewhere ∙ sym (bare_sets b t))

module _ (b : Board) (s t : State) where
  pub relay-kept : (r : ℕ) → ((q : ℕ) → ¬ (q ≡ r) → is_drawn t q ≡ is_drawn s q)
      → ((n : ℕ) → is_pushed t n ≡ is_pushed s n)
      → changed_to (kept_at b s) b (of.Relay r) t ≡ kept_at b t
  relay-kept r drawn pushed = changed-kept b s t (of.Relay r) (relay_elsewhere s t r drawn pushed)

  pub button-kept : (n : ℕ) → ((m : ℕ) → ¬ (m ≡ n) → is_pushed t m ≡ is_pushed s m)
      → ((r : ℕ) → is_drawn t r ≡ is_drawn s r) → changed_to (kept_at b s) b (of.Button n) t ≡ kept_at b t
  button-kept n pushed drawn = changed-kept b s t (of.Button n) (button_elsewhere s t n pushed drawn)

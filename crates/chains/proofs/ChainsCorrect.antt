-- Every member of the list of chains is a chain.
use Prim.Native.Nat.{ℕ, zero, suc, ◌<◌}
use native.Mathlib.Omega.{arith}
use mathlib.Core.Path.{◌≡◌, sym, subst, ◌∙◌}
use mathlib.Core.Bool.{Bool, true, not, false≢true}
use mathlib.Core.List.{List, [], ◌∷◌, ◌++◌}
use lib.Dec.{eqb}
use borrow.Author.Tests.{eqb-false, not-true}
use Rattle.bits.proofs.BoolLaws.{both_true}
use Rattle.lists.specs.Members.{◌∈◌, All}
use Rattle.lists.proofs.MemberLaws.{all_append, all-member, once_next}
use Rattle.chains.specs.Chains.{plus, minus, steps, ending, BeginsAtPlus, IsChain}
use Rattle.chains.specs.ChainList.{Tested, is_in, can_follow, beyond, chains}
use Rattle.chains.proofs.StepLaws.{ending_next, steps_next, member-is_in}
use Rattle.chains.proofs.TriesLaws.{cond_all, tries_all}
use Rattle.chains.proofs.ChainMaps.{chain_of-plus}

begins_next : (p : List ℕ) (n : ℕ) → BeginsAtPlus p → BeginsAtPlus (p ++ (n ∷ []))
begins_next [] n h = absurd h
begins_next (x ∷ p) n h = h

-- what holds of all steps of a chain and of the step to n holds of all steps of the chain that goes on to n
steps_all_next : (P : ℕ × ℕ → Type 0) (p : List ℕ) (n : ℕ) → BeginsAtPlus p → All P (steps p) → P (ending p, n)
    → All P (steps (p ++ (n ∷ [])))
steps_all_next P [] n begins all last = absurd begins
steps_all_next P (x ∷ p) n begins all last =
    subst (All P) (sym (steps_next x p n)) (all_append P (steps (x ∷ p)) ((ending (x ∷ p), n) ∷ []) all (last, tt))

-- a chain that does not end at minus goes on to any terminal that is joined to its ending and not yet in it
chain_next : (J : ℕ → ℕ → Type 0) (t : ℕ) (p : List ℕ) (n : ℕ) → IsChain J t p → ¬ (ending p ≡ minus) → n < t
    → J (ending p) n → ¬ (n ∈ p) → IsChain J t (p ++ (n ∷ []))
chain_next J t p n chain short below joined new = record {
  begins = begins_next p n chain.begins;
  inside = all_append (λ (x : ℕ). x < t) p (n ∷ []) chain.inside (below, tt);
  once = once_next p n chain.once new;
  linked = steps_all_next (λ (s : ℕ × ℕ). J s.0 s.1) p n chain.begins chain.linked joined;
  stops = steps_all_next (λ (s : ℕ × ℕ). ¬ (s.0 ≡ minus)) p n chain.begins chain.stops short;
}

module _ (j : ℕ → ℕ → Bool) (t : ℕ) where
  free-joined : (p : List ℕ) (x n : ℕ) → can_follow j p x n ≡ true → Tested j x n
  unfolding can_follow
  free-joined p x n h = (both_true (j x n) (not (is_in n p)) h).0

  free_new : (p : List ℕ) (x n : ℕ) → can_follow j p x n ≡ true → ¬ (n ∈ p)
  unfolding can_follow
  free_new p x n h m =
      let out = not-true (is_in n p) (both_true (j x n) (not (is_in n p)) h).1 in
      false≢true (sym out ∙ member-is_in n p m)

  beyond_correct : (f : ℕ) (p : List ℕ) → IsChain (Tested j) t p
      → All (IsChain (Tested j) t) (beyond j t f p (ending p))
  unfolding beyond
  beyond_correct zero p chain = tt
  beyond_correct (suc f) p chain =
      cond_all (IsChain (Tested j) t) (eqb (ending p) minus) [] _ (λ on. tt) (λ off.
      tries_all _ (can_follow j p (ending p)) (IsChain (Tested j) t) t 0 (λ n from upto fits.
      let next =
      chain_next (Tested j) t p n chain (eqb-false (ending p) minus off) (omega arith)
      (free-joined p (ending p) n fits) (free_new p (ending p) n fits) in
      (next, rw (ending_next p n) at (beyond_correct f (p ++ (n ∷ [])) next))))

  pub chains_correct : (c : List ℕ) → 0 < t → c ∈ chains j t → IsChain (Tested j) t c
  unfolding chains
  chains_correct c some m =
      let first = chain_of-plus (Tested j) t some in
      all-member (IsChain (Tested j) t) (chains j t) c (first, beyond_correct _ (plus ∷ []) first) m

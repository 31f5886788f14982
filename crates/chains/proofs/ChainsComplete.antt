-- Every chain is a member of the list of chains: going on one terminal at a time comes to it before the terminals run
-- out.
use Prim.Native.Nat.{ℕ, zero, suc, ◌<◌}
use native.Mathlib.Omega.{arith}
use mathlib.Core.Path.{◌≡◌, refl, sym, ap}
use mathlib.Core.Logic.{inl, inr}
use mathlib.Core.Bool.{Bool, true, false, not}
use mathlib.Core.List.{List, [], ◌∷◌, ◌++◌, append_assoc}
use lib.Dec.{eqb}
use lib.ListN.{length}
use borrow.Author.Tests.{ne_eqb}
use Rattle.bits.proofs.BoolLaws.{true_both, by_test}
use Rattle.lists.specs.Members.{◌∈◌, All}
use Rattle.lists.proofs.MemberLaws.{all-member, member-append_right, once_apart}
use Rattle.chains.specs.Chains.{minus, steps, ending, IsChain}
use Rattle.chains.specs.ChainList.{Tested, is_in, can_follow, beyond, chains}
use Rattle.chains.proofs.StepLaws.{ending_next, is_in-member}
use Rattle.chains.proofs.TriesLaws.{tries-member}
use Rattle.chains.proofs.ChainMaps.{chain_short}

-- where a list goes on to n, what holds of all its steps holds of the step to n
step_across : (P : ℕ × ℕ → Type 0) (x : ℕ) (p : List ℕ) (n : ℕ) (q : List ℕ) → All P (steps ((x ∷ p) ++ (n ∷ q)))
    → P (ending (x ∷ p), n)
step_across P x [] n q all = all.0
step_across P x (y ∷ p) n q all = step_across P y p n q all.1

member_out : (n : ℕ) (p : List ℕ) → ¬ (n ∈ p) → is_in n p ≡ false
member_out n p out = by_test (is_in n p) (λ h. absurd (out (is_in-member n p h))) (λ h. h)

module _ (j : ℕ → ℕ → Bool) (t : ℕ) where
  module _ (x : ℕ) (p : List ℕ) (n : ℕ) (q : List ℕ) (chain : IsChain (Tested j) t ((x ∷ p) ++ (n ∷ q))) where
    -- what goes on does not end at minus
    across-goes_on : eqb (ending (x ∷ p)) minus ≡ false
    across-goes_on =
        ne_eqb (ending (x ∷ p)) minus (step_across (λ (s : ℕ × ℕ). ¬ (s.0 ≡ minus)) x p n q chain.stops)

    across_free : can_follow j (x ∷ p) (ending (x ∷ p)) n ≡ true
    unfolding can_follow
    across_free =
        let joined = step_across (λ (s : ℕ × ℕ). Tested j s.0 s.1) x p n q chain.linked in
        let new = once_apart (x ∷ p) n q chain.once in
        true_both joined (ap not (member_out n (x ∷ p) new))

    across-below : n < t
    across-below =
        all-member (λ (y : ℕ). y < t) ((x ∷ p) ++ (n ∷ q)) n chain.inside
        (member-append_right n (x ∷ p) (n ∷ q) (inl refl))

    -- what is among the chains that go on from n is among those that go on from p
    across-member : (f : ℕ) (c : List ℕ) → c ∈ (((x ∷ p) ++ (n ∷ [])) ∷ beyond j t f ((x ∷ p) ++ (n ∷ [])) n)
        → c ∈ beyond j t (suc f) (x ∷ p) (ending (x ∷ p))
    unfolding beyond
    across-member f c m =
        rw across-goes_on (tries-member _ (can_follow j (x ∷ p) (ending (x ∷ p))) c t 0 n (omega arith)
        (omega (arith, across-below)) across_free m)

  beyond-complete : (f x : ℕ) (p : List ℕ) (n : ℕ) (q : List ℕ) → length q < f
      → IsChain (Tested j) t ((x ∷ p) ++ (n ∷ q)) → ((x ∷ p) ++ (n ∷ q)) ∈ beyond j t f (x ∷ p) (ending (x ∷ p))
  beyond-complete zero x p n q enough chain = absurd (omega arith)
  beyond-complete (suc f) x p n [] enough chain = across-member x p n [] chain f (x ∷ (p ++ (n ∷ []))) (inl refl)
  beyond-complete (suc f) x p n (m ∷ q) enough chain =
      let one : (x ∷ p) ++ (n ∷ []) ++ (m ∷ q) ≡ (x ∷ p) ++ (n ∷ m ∷ q) = append_assoc (x ∷ p) (n ∷ []) (m ∷ q) in
      let onward =
      rw (ending_next (x ∷ p) n, one) at (beyond-complete f x (p ++ (n ∷ [])) m q (omega arith)
      (rw (sym one) at chain)) in
      across-member x p n (m ∷ q) chain f (x ∷ (p ++ (n ∷ m ∷ q))) (inr onward)

  pub chains-complete : (c : List ℕ) → IsChain (Tested j) t c → c ∈ chains j t
  unfolding chains
  chains-complete [] chain = absurd chain.begins
  chains-complete (x ∷ []) chain = inl (ap {B = List ℕ} (λ y. y ∷ []) chain.begins)
  chains-complete (x ∷ n ∷ q) chain =
      let short = chain_short (Tested j) t (x ∷ n ∷ q) chain in
      inr (rw (← chain.begins) (beyond-complete _ x [] n q (omega (arith, short)) chain))

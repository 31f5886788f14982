-- The list of chains is in dictionary order, and so no chain stands in it twice.
use Prim.Native.Nat.{ℕ, zero, suc, ◌<◌}
use mathlib.Core.Path.{◌≡◌, refl, ◌∙◌}
use mathlib.Core.Bool.{Bool, true, false, cond}
use mathlib.Core.List.{List, [], ◌∷◌, ◌++◌, append_assoc}
use lib.Dec.{eqb}
use Rattle.lists.specs.Members.{All, Once}
use Rattle.lists.proofs.MemberLaws.{all_map}
use Rattle.chains.specs.Chains.{plus, minus, Before, Sorted}
use Rattle.chains.specs.ChainList.{can_follow, tries, beyond, chains}
use Rattle.chains.proofs.OrderLaws.{before_longer, before_higher, sorted-append, sorted-once}
use Rattle.chains.proofs.TriesLaws.{cond_all, tries_all}

-- c goes on from p to n
record Onto (p : List ℕ) (n : ℕ) (c : List ℕ) : Type 0 where
  rest : List ℕ
  same : c ≡ p ++ (n ∷ rest)

-- c goes on from p
record Longer (p c : List ℕ) : Type 0 where
  next : ℕ
  onto : Onto p next c

longer_onto : (p : List ℕ) (n : ℕ) (c : List ℕ) → Longer (p ++ (n ∷ [])) c → Onto p n c
longer_onto p n c h =
    record {
      rest = h.next ∷ h.onto.rest;
      same = h.onto.same
          ∙ append_assoc p (n ∷ []) (h.next ∷ h.onto.rest);
    }

longer-before : (p c : List ℕ) → Longer p c → Before p c
longer-before p c h = rw h.onto.same (before_longer p h.next h.onto.rest)

onto-before : (p : List ℕ) (n m : ℕ) (c d : List ℕ) → n < m → Onto p n c → Onto p m d → Before c d
onto-before p n m c d lower h k = rw (h.same, k.same) (before_higher p n m h.rest k.rest lower)

cond-sorted : (b : Bool) (k l : List (List ℕ)) → Sorted k → Sorted l → Sorted (cond b k l)
cond-sorted true k l hk hl = hk
cond-sorted false k l hk hl = hl

module _ (p : List ℕ) (go : ℕ → List (List ℕ)) (ok : ℕ → Bool) (goes : (m : ℕ) → All (Onto p m) (go m)) where
  -- what goes on to n comes before all that is made of higher numbers
  tries_later : (k n : ℕ) (c : List ℕ) → Onto p n c → All (Before c) (tries go ok k (suc n))
  tries_later k n c here =
      tries_all go ok (Before c) k (suc n) (λ m later upto fits. all_map (Onto p m) (Before c)
      (λ d there. onto-before p n m c d later here there) (go m) (goes m))

  tries-sorted : ((m : ℕ) → Sorted (go m)) → (k n : ℕ) → Sorted (tries go ok k n)
  unfolding tries
  tries-sorted sorted zero n = tt
  tries-sorted sorted (suc k) n =
      let later =
      all_map (Onto p n) (λ (c : List ℕ). All (Before c) (tries go ok k (suc n))) (tries_later k n) (go n)
      (goes n) in
      sorted-append (cond (ok n) (go n) []) (tries go ok k (suc n))
      (cond-sorted (ok n) (go n) [] (sorted n) tt)
      (tries-sorted sorted k (suc n))
      (cond_all (λ (c : List ℕ). All (Before c) (tries go ok k (suc n))) (ok n) (go n) [] (λ on. later) (λ off. tt))

module _ (j : ℕ → ℕ → Bool) (t : ℕ) where
  -- the chains that begin with p and go on to n
  abbrev across : ℕ → List ℕ → ℕ → List (List ℕ)
  across f p n = (p ++ (n ∷ [])) ∷ beyond j t f (p ++ (n ∷ [])) n

  across_onto : (f : ℕ) (p : List ℕ) (n : ℕ) → All (Longer (p ++ (n ∷ []))) (beyond j t f (p ++ (n ∷ [])) n)
      → All (Onto p n) (across f p n)
  across_onto f p n longer = (
    record { rest = []; same = refl },
    all_map (Longer (p ++ (n ∷ []))) (Onto p n) (longer_onto p n)
        (beyond j t f (p ++ (n ∷ [])) n) longer,
  )

  beyond_longer : (f : ℕ) (p : List ℕ) (x : ℕ) → All (Longer p) (beyond j t f p x)
  unfolding beyond
  beyond_longer zero p x = tt
  beyond_longer (suc f) p x =
      cond_all (Longer p) (eqb x minus) [] (tries (across f p) (can_follow j p x) t 0) (λ on. tt) (λ off.
      tries_all (across f p) (can_follow j p x) (Longer p) t 0 (λ n from upto fits.
      all_map (Onto p n) (Longer p) (λ c h. record { next = n; onto = h }) (across f p n)
      (across_onto f p n (beyond_longer f (p ++ (n ∷ [])) n))))

  beyond_later : (f : ℕ) (p : List ℕ) (x : ℕ) → All (Before p) (beyond j t f p x)
  beyond_later f p x = all_map (Longer p) (Before p) (longer-before p) (beyond j t f p x) (beyond_longer f p x)

  beyond-sorted : (f : ℕ) (p : List ℕ) (x : ℕ) → Sorted (beyond j t f p x)
  unfolding beyond
  beyond-sorted zero p x = tt
  beyond-sorted (suc f) p x =
      cond-sorted (eqb x minus) [] (tries (across f p) (can_follow j p x) t 0) tt
      (tries-sorted p (across f p) (can_follow j p x)
      (λ n. across_onto f p n (beyond_longer f (p ++ (n ∷ [])) n))
      (λ n. (beyond_later f (p ++ (n ∷ [])) n, beyond-sorted f (p ++ (n ∷ [])) n)) t 0)

  pub chains-sorted : Sorted (chains j t)
  unfolding chains
  chains-sorted = (beyond_later _ (plus ∷ []) plus, beyond-sorted _ (plus ∷ []) plus)

  pub chains-once : Once (chains j t)
  chains-once = sorted-once (chains j t) chains-sorted

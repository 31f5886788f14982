-- Laws of chains as they are: what joins more keeps every chain, a chain is no longer than its board has terminals, and
-- the shortest chain is plus alone.
use Prim.Native.Nat.{ℕ, ◌<◌, ◌≤◌}
use mathlib.Core.Path.{refl}
use mathlib.Core.List.{List, [], ◌∷◌}
use lib.ListN.{length}
use Rattle.lists.proofs.MemberLaws.{all_map, once-below-length}
use Rattle.chains.specs.Chains.{plus, steps, IsChain}

module _ (J K : ℕ → ℕ → Type 0) (wider : (x y : ℕ) → J x y → K x y) (t : ℕ) where
  pub chain_related : (c : List ℕ) → IsChain J t c → IsChain K t c
  chain_related c chain = record {
    begins = chain.begins;
    inside = chain.inside;
    once = chain.once;
    linked =
        all_map (λ (s : ℕ × ℕ). J s.0 s.1) (λ (s : ℕ × ℕ). K s.0 s.1) (λ s. wider s.0 s.1)
        (steps c) chain.linked;
    stops = chain.stops;
  }

module _ (J : ℕ → ℕ → Type 0) (t : ℕ) where
  pub chain_short : (c : List ℕ) → IsChain J t c → length c ≤ t
  chain_short c chain = once-below-length t c chain.once chain.inside

  pub chain_of-plus : 0 < t → IsChain J t (plus ∷ [])
  chain_of-plus some = record { begins = refl; inside = (some, tt); once = (λ m. m, tt); linked = tt; stops = tt }

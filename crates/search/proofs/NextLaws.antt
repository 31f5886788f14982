-- Laws of the next neighbour to which a chain can go on: what `Walk::next_member` needs, and that the numbers passed
-- over add no chain.
use Prim.Native.Nat.{ℕ, zero, suc, ◌+◌, ◌-◌, ◌<◌, ◌≤◌}
use native.Mathlib.Omega.{arith}
use mathlib.Core.Path.{◌≡◌, refl, sym, ap, subst, ◌∙◌}
use mathlib.Core.Bool.{Bool, cond}
use mathlib.Core.List.{List, [], ◌++◌}
use Rattle.std.specs.Prelude.{Some, None}
use Rattle.bits.specs.Sets.{member, first_from, lowest_from, member_from}
use Rattle.bits.proofs.BoolLaws.{by_test}
use Rattle.bits.proofs.LowestLaws.{first_below, member_from_found, member_from_lacks}
use Rattle.board.specs.Rules.{most_terminals}
use Rattle.chains.specs.ChainList.{tries}

-- ---- the lowest member from x, which is n, up, if there is one; y is the number of terminals t

module _ (s t n x y : ℕ) (start : n ≤ t) (most : t ≤ most_terminals) (from : x ≡ n) (up : y ≡ t) where
  below_terminals : (m : ℕ) → m ≡ lowest_from s x
      → (m < t → m ≡ first_from (member s) (t - n) n) × (t ≤ m → t ≡ first_from (member s) (t - n) n)
  unfolding lowest_from
  below_terminals m lowest =
      first_below (member s) t (64 - n) n m start (omega (arith, most))
      (lowest ∙ ap (λ (k : ℕ). first_from (member s) (64 - k) k) from)

  pub next_some : (m : ℕ) → Some m ≡ member_from s x → m < y → m ≡ first_from (member s) (t - n) n
  next_some m found below =
      (below_terminals m (member_from_found s x m found).1).0 (omega (arith, below, up))

  pub next_past : (m : ℕ) → Some m ≡ member_from s x → y ≤ m → t ≡ first_from (member s) (t - n) n
  next_past m found past =
      (below_terminals m (member_from_found s x m found).1).1 (omega (arith, past, up))

  pub next_none : None ≡ member_from s x → t ≡ first_from (member s) (t - n) n
  next_none none =
      (below_terminals (lowest_from s x) refl).1 (omega (arith, most, member_from_lacks s x none))

-- ---- the numbers passed over add no chain

pub tries_none : (go : ℕ → List (List ℕ)) (ok : ℕ → Bool) (k n t : ℕ) → t ≡ n + k → t ≤ first_from ok k n
    → tries go ok k n ≡ []
unfolding tries first_from
tries_none go ok zero n t e none = refl
tries_none go ok (suc k) n t e none =
    by_test (ok n)
    (λ here. let at_n : t ≤ n = subst (λ (b : Bool). t ≤ cond b n (first_from ok k (suc n))) here none in
    absurd (omega (arith, e, at_n)))
    (λ past. rw past (tries_none go ok k (suc n) t (omega (arith, e))
    (subst (λ (b : Bool). t ≤ cond b n (first_from ok k (suc n))) past none)))

pub tries_some : (go : ℕ → List (List ℕ)) (ok : ℕ → Bool) (k n t m : ℕ) → t ≡ n + k → m ≡ first_from ok k n → m < t
    → tries go ok k n ≡ go m ++ tries go ok (t - (m + 1)) (m + 1)
unfolding tries first_from
tries_some go ok zero n t m e first some = absurd (omega (arith, e, first, some))
tries_some go ok (suc k) n t m e first some =
    by_test (ok n)
    (λ here.
    let at_n : m ≡ n = first ∙ rw here refl in
    let left : k ≡ t - (m + 1) = omega (arith, e, at_n) in
    let next : suc n ≡ m + 1 = omega (arith, at_n) in
    rw here (ap (λ (x : ℕ). go x ++ tries go ok k (suc n)) (sym at_n)
    ∙ ap (λ (x : ℕ). go m ++ tries go ok x (suc n)) left ∙ ap (λ (x : ℕ). go m ++ tries go ok (t - (m + 1)) x)
    next))
    (λ past. rw past (tries_some go ok k (suc n) t m (omega (arith, e)) (first ∙ rw past refl) some))

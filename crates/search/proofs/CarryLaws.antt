-- Laws of a chain on its way: what the walk carries for its terminals, and that it carries that still once the chain
-- has gone on. What `chain.rt` needs.
use Prim.Native.Nat.{ℕ, ◌<◌}
use native.Mathlib.Omega.{arith}
use mathlib.Core.Path.{◌≡◌, refl, sym, ap, ◌∙◌}
use mathlib.Core.Bool.{Bool, true, false, ◌&&◌, ◌||◌, or-false, or_assoc}
use mathlib.Core.List.{List, [], ◌∷◌, ◌++◌}
use lib.Dec.{eqb}
use lib.ListN.{length, length-append}
use Rattle.bits.specs.Sets.{member, including}
use Rattle.bits.proofs.SetLaws.{member-including, member_none}
use Rattle.chains.specs.Chains.{plus}
use Rattle.chains.specs.ChainList.{is_in, crosses, some_crosses, beside}
use Rattle.chains.proofs.StepLaws.{ending_next, beside_next}
use Rattle.search.specs.declared.Winding.{Winding}
use Rattle.search.specs.declared.chain.Chain.{Chain}
use Rattle.search.specs.Walks.{marked, carried, at_plus, gone}

-- ---- steps

pub crosses_there : (a b x y : ℕ) (t : Bool) → t ≡ (eqb x a && eqb y b) → t ≡ true → true ≡ crosses a b x y
unfolding crosses
crosses_there a b x y t e h = rw (sym e ∙ h) refl

pub crosses_back : (a b x y : ℕ) (t u : Bool) → t ≡ (eqb x a && eqb y b) → t ≡ false → u ≡ (eqb x b && eqb y a)
    → u ≡ crosses a b x y
unfolding crosses
crosses_back a b x y t u e h f = f ∙ rw (sym e ∙ h) refl

-- ---- the set of the terminals

marked_next : (s : ℕ) (p : List ℕ) (n : ℕ) → marked s (p ++ (n ∷ [])) ≡ including (marked s p) n
unfolding marked
marked_next s [] n = refl
marked_next s (m ∷ p) n = marked_next (including s m) p n

marked-member : (s : ℕ) (p : List ℕ) (m : ℕ) → m < 64 → member (marked s p) m ≡ (member s m || is_in m p)
unfolding marked is_in
marked-member s [] m fits = sym (or-false (member s m))
marked-member s (n ∷ p) m fits =
    marked-member (including s n) p m fits ∙ ap (λ (t : Bool). t || is_in m p) (member-including s n m fits)
    ∙ or_assoc (member s m) (eqb m n) (is_in m p)

pub met-member : (p : List ℕ) (m : ℕ) → m < 64 → member (marked 0 p) m ≡ is_in m p
met-member p m fits = marked-member 0 p m fits ∙ ap (λ (t : Bool). t || is_in m p) (member_none m)

-- ---- what is carried

chain-fields : (k l e f m o : ℕ) (s q : Bool) → k ≡ l → e ≡ f → m ≡ o → s ≡ q
    → ◌≡◌ {A = Chain} (record { length = k; end = e; met = m; beside = s })
    (record { length = l; end = f; met = o; beside = q })
chain-fields k l e f m o s q i j h r = rw (i, j, h, r) refl

pub begun-carried : (v : Winding) → at_plus ≡ carried v (plus ∷ [])
unfolding carried marked beside some_crosses
begun-carried v = refl

gone_next : (v : Winding) (p : List ℕ) (n : ℕ) → 0 < length p → gone v (carried v p) n ≡ carried v (p ++ (n ∷ []))
unfolding carried
gone_next v [] n some = absurd (omega arith)
gone_next v (x ∷ p) n some =
    chain-fields _ _ _ _ _ _ _ _
    (sym (length-append (x ∷ p) (n ∷ [])))
    (sym (ending_next (x ∷ p) n))
    (sym (marked_next 0 (x ∷ p) n))
    (sym (beside_next v.a v.b x p n))

pub gone-carried : (v : Winding) (c : Chain) (p : List ℕ) (n : ℕ) → 0 < length p → c ≡ carried v p
    → gone v c n ≡ carried v (p ++ (n ∷ []))
gone-carried v c p n some e = ap (λ (d : Chain). gone v d n) e ∙ gone_next v p n some

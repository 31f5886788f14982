-- Laws of a list laid into n places, the unused ones filled with d: that its first places hold the list, and what the
-- next member does to it. A board's parts and the places of a chain are such lists.
use Prim.Native.Nat.{ℕ, zero, suc, ◌-◌, ◌<◌}
use native.Mathlib.Omega.{arith}
use mathlib.Core.Path.{◌≡◌, sym, ap, ◌∙◌}
use mathlib.Core.List.{List, [], ◌∷◌, ◌++◌, append_assoc}
use lib.ListN.{length, take, set, replicate, length-append}
use lib.Seq.{take-append_seam, set-append_seam}

module _ {A : Type 0} (n : ℕ) (d : A) where
  pub filled_first : (l : List A) → take (length l) (l ++ replicate (n - length l) d) ≡ l
  filled_first l = take-append_seam l (replicate (n - length l) d)

  -- the first of what fills m places
  filler_first : (m : ℕ) → 0 < m → replicate m d ≡ d ∷ replicate (m - 1) d
  filler_first zero some = absurd (omega arith)
  filler_first (suc m) some = let same : m ≡ suc m - 1 = omega arith in ap (λ (k : ℕ). d ∷ replicate k d) same

  pub filled_set : (l : List A) (x : A) → length l < n → set (l ++ replicate (n - length l) d)
      (length l) x ≡ (l ++ (x ∷ [])) ++ replicate (n - length (l ++ (x ∷ []))) d
  filled_set l x room =
      let left : n - length l - 1 ≡ n - length (l ++ (x ∷ [])) = omega (arith, length-append l (x ∷ [])) in
      ap (λ (k : List A). set (l ++ k) (length l) x) (filler_first (n - length l) (omega arith))
      ∙ set-append_seam l d (replicate (n - length l - 1) d) x
      ∙ ap (λ (m : ℕ). l ++ x ∷ replicate m d) left
      ∙ sym (append_assoc l (x ∷ []) (replicate (n - length (l ++ (x ∷ []))) d))

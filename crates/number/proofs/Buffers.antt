-- Laws of lists that are read and written piece by piece: the pieces of a file stand one after the other.
-- The laws of numbers, parts, boards and states cite these.
use mathlib.Core.Path.{◌≡◌, sym, ap, ◌∙◌}
use mathlib.Core.List.{List, [], ◌∷◌, ◌++◌, append_assoc}
use Prim.Native.Nat.{ℕ, zero, suc, ◌+◌, ◌≤◌}
use native.Mathlib.Nat.{zero-add, suc-add}
use native.Mathlib.Omega.{arith}
use lib.ListN.{length, take, drop}
use lib.Seq.{sets, sets-eq, take-nil, take-append_seam, drop-append_seam, drop-drop, drop_at, length-take-le}

module _ {A : Type 0} where
  -- what stands behind a piece that was found at a place
  pub drop_past : (s : List A) (at : ℕ) (xs rest : List A) → drop at s ≡ xs ++ rest → drop (at + length xs) s ≡ rest
  drop_past s at xs rest e =
      sym (drop-drop (length xs) at s) ∙ ap (drop (length xs)) e ∙ drop-append_seam xs rest

  -- the first m elements from a place on
  pub take-drop : (at m : ℕ) (s : List A) → take m (drop at s) ≡ drop at (take (at + m) s)
  take-drop zero m s = rw zero-add
  take-drop (suc at) m [] = rw (take-nil m, take-nil)
  take-drop (suc at) m (x ∷ s) = rw (suc-add, take-drop at m s)

  -- the elements from a place to another, where a piece stands between them
  pub piece_between : (s : List A) (at n : ℕ) (xs rest : List A) → drop at s ≡ xs ++ rest → n ≡ at + length xs
      → drop at (take n s) ≡ xs
  piece_between s at n xs rest stands next =
      rw next (sym (take-drop at (length xs) s) ∙ ap (take (length xs)) stands ∙ take-append_seam xs rest)

  -- a piece that was written stands there
  pub drop_sets : (l : List A) (i : ℕ) (xs : List A) → i + length xs ≤ length l
      → drop i (sets l i xs) ≡ xs ++ drop (i + length xs) l
  drop_sets l i xs fits =
      let rest = drop (i + length xs) l in
      ap (drop i) (sets-eq xs l i fits ∙ append_assoc (take i l) xs rest)
      ∙ drop_at (take i l) (xs ++ rest) i (length-take-le i l (omega arith))

  -- a piece written at the beginning
  pub sets_at_zero : (l xs : List A) → length xs ≤ length l → sets l 0 xs ≡ xs ++ drop (length xs) l
  sets_at_zero l xs h = rw zero-add at (sets-eq xs l 0 (omega arith))

-- Laws of tables, and of an array that is filled place by place from 0 up.
--     FilledTo told f d n x l    of the n places of l those below x hold what f says, and the others the filler d, as
--                                `told` reads them
use Prim.Native.Nat.{ℕ, zero, suc, ◌+◌, ◌≤◌, ◌<◌}
use native.Mathlib.Omega.{arith}
use mathlib.Core.Path.{◌≡◌, refl, sym, ap, ◌∙◌}
use mathlib.Core.Logic.{◌⊎◌, inl, inr, ⊎_elim}
use mathlib.Core.List.{List, ◌∷◌, ◌++◌}
use lib.ListN.{length, get_or, set, replicate, length-set, length-replicate, get_or-replicate}
use lib.Seq.{get_or-set_same, get_or-set_other}
use Rattle.lists.specs.Tables.{table_from}

module _ {A : Type 0} (f : ℕ → A) where
  pub table-length : (k n : ℕ) → length (table_from f k n) ≡ k
  unfolding table_from
  table-length zero n = refl
  table-length (suc k) n = omega (arith, table-length k (suc n))

  pub table-place : (k n i : ℕ) (d : A) → i < k → get_or (table_from f k n) i d ≡ f (n + i)
  unfolding table_from
  table-place zero n i d below = absurd (omega arith)
  table-place (suc k) n zero d below = ap f (omega arith)
  table-place (suc k) n (suc i) d below = table-place k (suc n) i d (omega arith) ∙ ap f (omega arith)

  pub table_at : (k i : ℕ) (d : A) → i < k → get_or (table_from f k 0) i d ≡ f i
  table_at k i d below = let same : 0 + i ≡ i = omega arith in table-place k 0 i d below ∙ ap f same

  pub table-beyond : (k n i : ℕ) (d : A) → k ≤ i → get_or (table_from f k n) i d ≡ d
  unfolding table_from
  table-beyond zero n i d past = refl
  table-beyond (suc k) n zero d past = absurd (omega arith)
  table-beyond (suc k) n (suc i) d past = table-beyond k (suc n) i d (omega arith)

  -- the numbers from n up, and those after them
  pub table-append : (j k n : ℕ) → table_from f j n ++ table_from f k (n + j) ≡ table_from f (j + k) n
  unfolding table_from
  table-append zero k n =
      let here : n + 0 ≡ n = omega arith in
      let all : 0 + k ≡ k = omega arith in
      rw (here, all)
  table-append (suc j) k n =
      let past : n + suc j ≡ suc n + j = omega arith in
      let all : suc j + k ≡ suc (j + k) = omega arith in
      rw (past, all) (ap (λ (l : List A). f n ∷ l) (table-append j k (suc n)))

-- ---- an array that is filled

compared : (x y : ℕ) → (x < y) ⊎ ((x ≡ y) ⊎ (y < x))
compared zero zero = inr (inl refl)
compared zero (suc y) = inl (omega arith)
compared (suc x) zero = inr (inr (omega arith))
compared (suc x) (suc y) =
    ⊎_elim (λ h. inl (omega arith)) (λ h. inr (⊎_elim (λ e. inl (ap suc e)) (λ k. inr (omega arith)) h)) (compared x y)

pub record FilledTo {A B : Type 0} (told : A → B) (f : ℕ → B) (d : A) (n x : ℕ) (l : List A) : Type 0 where
  pub many : length l ≡ n
  pub done : (y : ℕ) → y < n → y < x → told (get_or l y d) ≡ f y
  pub left : (y : ℕ) → y < n → x ≤ y → told (get_or l y d) ≡ told d

module _ {A B : Type 0} (told : A → B) (f : ℕ → B) (d : A) (n : ℕ) where
  pub filled_starts : FilledTo told f d n 0 (replicate n d)
  filled_starts = record {
    many = length-replicate n d;
    done = λ y below none. absurd (omega arith);
    left = λ y below from. ap told (get_or-replicate n y d d below);
  }

  pub filled_next : (x : ℕ) (l : List A) (v : A) → FilledTo told f d n x l → x < n → told v ≡ f x
      → FilledTo told f d n (x + 1) (set l x v)
  filled_next x l v so inside new = record {
    many = length-set l x v ∙ so.many;
    done = λ y below before. ⊎_elim
        (λ earlier. ap told (get_or-set_other l x y v d (λ e. omega (arith, e, earlier))) ∙ so.done y below earlier)
        (⊎_elim (λ same. here y same) (λ later. absurd (omega (arith, before, later))))
        (compared y x);
    left = λ y below from. ap told (get_or-set_other l x y v d (λ e. omega (arith, e, from)))
        ∙ so.left y below (omega (arith, from));
  }
    where
      here : (y : ℕ) → y ≡ x → told (get_or (set l x v) y d) ≡ f y
      here y same = rw same (ap told (get_or-set_same l x v d (omega (arith, so.many, inside))) ∙ new)

  -- where f has the filler from x on, every place holds what f says
  pub filled_each : (x : ℕ) (l : List A) → FilledTo told f d n x l
      → ((y : ℕ) → y < n → x ≤ y → f y ≡ told d) → (y : ℕ) → y < n → told (get_or l y d) ≡ f y
  filled_each x l so rest y below =
      ⊎_elim (λ before. so.done y below before)
      (λ h. let from : x ≤ y = ⊎_elim (λ e. omega (arith, e)) (λ k. omega (arith, k)) h in
      so.left y below from ∙ sym (rest y below from))
      (compared y x)

-- Laws of members: of two lists one after the other, of a test tried on each, and of lists whose members stand once.
use Prim.Native.Nat.{ℕ, zero, suc, ◌≤◌, ◌<◌, zero-le}
use native.Mathlib.Nat.{eq-or-lt_of_le, le_of_suc-le-suc}
use native.Mathlib.Omega.{arith}
use mathlib.Core.Path.{◌≡◌, refl, subst, sym}
use mathlib.Core.Logic.{◌⊎◌, inl, inr, ⊎_map}
use mathlib.Core.List.{List, [], ◌∷◌, ◌++◌}
use lib.ListN.{length}
use Rattle.lists.specs.Members.{◌∈◌, All, Once}

-- a member of two lists one after the other is a member of one of them
pub append-member : {A : Type 0} (x : A) (k l : List A) → x ∈ (k ++ l) → (x ∈ k) ⊎ (x ∈ l)
append-member x [] l m = inr m
append-member x (y ∷ k) l (inl e) = inl (inl e)
append-member x (y ∷ k) l (inr m) = either_tail (append-member x k l m)
  where
    either_tail : (x ∈ k) ⊎ (x ∈ l) → (x ∈ (y ∷ k)) ⊎ (x ∈ l)
    either_tail (inl h) = inl (inr h)
    either_tail (inr h) = inr h

pub member-append-left : {A : Type 0} (x : A) (k l : List A) → x ∈ k → x ∈ (k ++ l)
member-append-left x [] l m = absurd m
member-append-left x (y ∷ k) l (inl e) = inl e
member-append-left x (y ∷ k) l (inr m) = inr (member-append-left x k l m)

pub member-append_right : {A : Type 0} (x : A) (k l : List A) → x ∈ l → x ∈ (k ++ l)
member-append_right x [] l m = m
member-append_right x (y ∷ k) l m = inr (member-append_right x k l m)

pub all_append : {A : Type 0} (P : A → Type 0) (k l : List A) → All P k → All P l → All P (k ++ l)
all_append P [] l hk hl = hl
all_append P (x ∷ k) l hk hl = (hk.0, all_append P k l hk.1 hl)

-- what holds of all holds of each, and back
pub all-member : {A : Type 0} (P : A → Type 0) (l : List A) (x : A) → All P l → x ∈ l → P x
all-member P [] x h m = absurd m
all-member P (y ∷ l) x h (inl e) = subst P (sym e) h.0
all-member P (y ∷ l) x h (inr m) = all-member P l x h.1 m

pub member_all : {A : Type 0} (P : A → Type 0) (l : List A) → ((x : A) → x ∈ l → P x) → All P l
member_all P [] h = tt
member_all P (y ∷ l) h = (h y (inl refl), member_all P l (λ x m. h x (inr m)))

-- what holds of all carries over to what follows from it
pub all_map : {A : Type 0} (P Q : A → Type 0) → ((x : A) → P x → Q x) → (l : List A) → All P l → All Q l
all_map P Q f [] h = tt
all_map P Q f (x ∷ l) h = (f x h.0, all_map P Q f l h.1)

-- a list stays without repetition when something new is added at its end
pub once_next : {A : Type 0} (l : List A) (x : A) → Once l → ¬ (x ∈ l) → Once (l ++ (x ∷ []))
once_next [] x once new = (λ m. m, tt)
once_next (y ∷ l) x once new = (λ m. apart (append-member y l (x ∷ []) m), once_next l x once.1 (λ m. new (inr m)))
  where
    apart : (y ∈ l) ⊎ (y ∈ (x ∷ [])) → ⊥
    apart (inl m) = once.0 m
    apart (inr (inl e)) = new (inl (sym e))
    apart (inr (inr m)) = m

-- where nothing stands twice, what stands later does not stand earlier
pub once_apart : {A : Type 0} (k : List A) (x : A) (l : List A) → Once (k ++ (x ∷ l)) → ¬ (x ∈ k)
once_apart [] x l once m = m
once_apart (y ∷ k) x l once (inl e) =
    once.0 (subst (λ z. z ∈ (k ++ (x ∷ l))) e (member-append_right x k (x ∷ l) (inl refl)))
once_apart (y ∷ k) x l once (inr m) = once_apart k x l once.1 m

-- of numbers up to t without t, each is below t
below_others : (t : ℕ) (l : List ℕ) → ¬ (t ∈ l) → All (λ (x : ℕ). x < suc t) l → All (λ (x : ℕ). x < t) l
below_others t [] none upto = tt
below_others t (x ∷ l) none upto =
    let other : ¬ (t ≡ x) = λ e. none (inl e) in
    (omega (arith, other, upto.0), below_others t l (λ m. none (inr m)) upto.1)

-- the members of l below t, where those of l are at most t: at most one is left out
record Lower (t : ℕ) (l : List ℕ) : Type 0 where
  rest : List ℕ
  kept : (x : ℕ) → x ∈ rest → x ∈ l
  once : Once rest
  below : All (λ (x : ℕ). x < t) rest
  almost : length l ≤ suc (length rest)

lower : (t : ℕ) (l : List ℕ) → Once l → All (λ (x : ℕ). x < suc t) l → Lower t l
lower t [] once upto = record { rest = []; kept = λ x m. m; once = tt; below = tt; almost = zero-le }
lower t (x ∷ l) once upto = by_head (eq-or-lt_of_le (le_of_suc-le-suc upto.0)) (lower t l once.1 upto.1)
  where
    by_head : (x ≡ t) ⊎ (x < t) → Lower t l → Lower t (x ∷ l)
    by_head (inl e) less = record {
      rest = l;
      kept = λ y m. inr m;
      once = once.1;
      below = below_others t l (rw e at once.0) upto.1;
      almost = omega arith;
    }
    by_head (inr h) less = record {
      rest = x ∷ less.rest;
      kept = λ y m. ⊎_map (λ e. e) (less.kept y) m;
      once = (λ m. once.0 (less.kept x m), less.once);
      below = (h, less.below);
      almost = omega (arith, less.almost);
    }

-- the pigeonhole: a list without repetition whose members are all below t has at most t members
pub once-below-length : (t : ℕ) (l : List ℕ) → Once l → All (λ (x : ℕ). x < t) l → length l ≤ t
once-below-length zero [] once below = zero-le
once-below-length zero (x ∷ l) once below = absurd (omega (arith, below.0))
once-below-length (suc t) l once below =
    let less = lower t l once below in
    omega (arith, less.almost, once-below-length t less.rest less.once less.below)

-- The laws of a number's form, over the longest form k: reading undoes writing, and writing undoes reading.
-- The laws of numbers (NumberLaws) are these at the rule book's longest form; the steps of `read_form` and
-- `write_groups` (FormSteps) cite the first section.
use mathlib.Core.Path.{◌≡◌, refl, sym, ap, ◌∙◌}
use mathlib.Core.List.{List, [], ◌∷◌, ◌++◌}
use Prim.Native.Nat.{ℕ, zero, suc, ◌+◌, ◌-◌, ◌*◌, ◌/◌, ◌%◌, ◌^◌, ◌≤◌, ◌<◌}
use native.Mathlib.Nat.{one-le-pow}
use native.Mathlib.Omega.{arith}
use borrow.Author.Tests.{lt-ltb, le-ltb}
use mir.Syntax.{w8}
use mir.Val.{Fits}
use lib.ListN.{length, get_or, take, drop, length-take}
use lib.Seq.{get_or-drop}
use Rattle.bits.proofs.BoolLaws.{by_less}
use Rattle.number.specs.Numbers.{Form, Got, Ends, Bad}
use Rattle.number.specs.Numbers.{Bytes, below, form, encode}

-- ---- one step of each definition

pub encode_last : (k v : ℕ) → v < 128 → encode (suc k) v ≡ v ∷ []
unfolding encode
encode_last k v h = rw (lt-ltb v 128 h)

pub encode_more : (k v : ℕ) → 128 ≤ v → encode (suc k) v ≡ (128 + v % 128) ∷ encode k (v / 128)
unfolding encode
encode_more k v h = rw (le-ltb v 128 h)

-- a byte too many is bad at once, even where the input ends there: 80 80 80 80 80 is 2 and not 1
pub form_too_long : (s : List ℕ) → form zero s ≡ Bad
unfolding form
form_too_long s = refl

pub form_last : (k b : ℕ) (s : List ℕ) → b < 128 → form (suc k) (b ∷ s) ≡ Got b 1
unfolding form
form_last k b s h = rw (lt-ltb b 128 h)

pub form_more : (k b : ℕ) (s : List ℕ) → 128 ≤ b → form (suc k) (b ∷ s) ≡ below (b - 128) (form k s)
unfolding form
form_more k b s h = rw (le-ltb b 128 h)

pub below_got : (g v n : ℕ) → 0 < v → below g (Got v n) ≡ Got (g + 128 * v) (suc n)
unfolding below
below_got g zero n h = absurd (omega arith)
below_got g (suc v) n h = refl

never_bad : (v n : ℕ) → Bad ≡ Got v n → ⊥
never_bad v n e = let z : ◌≡◌ {A = ℕ} 0 1 = cc in omega arith

never_ends : (v n : ℕ) → Ends ≡ Got v n → ⊥
never_ends v n e = let z : ◌≡◌ {A = ℕ} 0 1 = cc in omega arith

-- what is known where a group stands below a rest
record Below (g : ℕ) (f : Form) (v n : ℕ) : Type 0 where
  above : ℕ
  bytes : ℕ
  rest : f ≡ Got above bytes
  some : 0 < above
  value : v ≡ g + 128 * above
  next : n ≡ suc bytes

got-below : (g : ℕ) (f : Form) (v n : ℕ) → below g f ≡ Got v n → Below g f v n
unfolding below
got-below g (Got zero m) v n e = absurd (never_bad v n e)
got-below g (Got (suc u) m) v n e =
    record { above = suc u; bytes = m; rest = refl; some = omega arith; value = cc; next = cc }
got-below g Ends v n e = absurd (never_ends v n e)
got-below g Bad v n e = absurd (never_bad v n e)

form_written_more : (k v : ℕ) (s : List ℕ) → 128 ≤ v → form k (encode k (v / 128) ++ s) ≡ Got (v / 128)
    (length (encode k (v / 128)))
    → form (suc k) ((128 + v % 128) ∷ encode k (v / 128) ++ s) ≡ Got v (suc (length (encode k (v / 128))))
form_written_more k v s m e =
    form_more k (128 + v % 128) (encode k (v / 128) ++ s) (omega arith)
    ∙ ap (below (128 + v % 128 - 128)) e
    ∙ below_got (128 + v % 128 - 128) (v / 128) (length (encode k (v / 128))) (omega arith)
    ∙ ap (λ (x : ℕ). Got x (suc (length (encode k (v / 128))))) (omega arith)

-- ---- bytes

pub bytes_rest : (b : ℕ) (s : List ℕ) → Bytes (b ∷ s) → Bytes s
bytes_rest b s h i = h (suc i)

-- what the checker knows of a slice of bytes
pub Bytes-slice : (s : List ℕ) → ((i : ℕ) → Fits w8 (get_or s i 0)) → Bytes s
Bytes-slice s h i = (h i).fits

pub Bytes-drop : (s : List ℕ) (at : ℕ) → Bytes s → Bytes (drop at s)
Bytes-drop s at h i = rw get_or-drop (h (at + i))

-- ---- reading undoes writing

pub form_written : (k v : ℕ) (s : List ℕ) → 0 < k → v < 128 ^ k → form k (encode k v ++ s) ≡ Got v
    (length (encode k v))
form_written zero v s some h = absurd (omega arith)
form_written (suc zero) v s some h = rw encode_last (form_last 0 v s (omega arith))
form_written (suc (suc k)) v s some h =
    by_less v 128
    (λ l. rw encode_last (form_last (suc k) v s l))
    (λ m. rw encode_more
    (form_written_more (suc k) v s m (form_written (suc k) (v / 128) s (omega arith) (omega arith))))

-- ---- writing undoes reading

-- what is known where the form of at most k bytes that s begins with is v in n bytes
pub record FormRead (k : ℕ) (s : List ℕ) (v n : ℕ) : Type 0 where
  pub bytes : s ≡ encode k v ++ drop n s
  pub next : n ≡ length (encode k v)
  pub small : v < 128 ^ k

read_last : (k b : ℕ) (s : List ℕ) (v n : ℕ) → b < 128 → form (suc k) (b ∷ s) ≡ Got v n → FormRead (suc k) (b ∷ s) v n
read_last k b s v n l e =
    let f : Got b 1 ≡ Got v n = sym (form_last k b s l) ∙ e in
    let ev : v ≡ b = cc in
    let en : n ≡ 1 = cc in
    rw (ev, en)
    (record { bytes = rw encode_last; next = rw encode_last; small = omega (arith, one-le-pow k 128 (omega arith)) })

read_more : (k b : ℕ) (s : List ℕ) (v n : ℕ) → b < 256 → 128 ≤ b → (r : Below (b - 128) (form k s) v n)
    → FormRead k s r.above r.bytes → FormRead (suc k) (b ∷ s) v n
read_more k b s v n w m r f =
    let ed : v / 128 ≡ r.above = omega (arith, r.value) in
    let eg : 128 + v % 128 ≡ b = omega (arith, r.value) in
    record {
      bytes =
          rw (encode_more k v (omega (arith, r.value, r.some)), eg, ed, r.next)
          (ap (λ (l : List ℕ). b ∷ l) f.bytes);
      next = rw (encode_more k v (omega (arith, r.value, r.some)), ed) (r.next ∙ ap suc f.next);
      small = omega (arith, f.small);
    }

pub form_read : (k : ℕ) (s : List ℕ) (v n : ℕ) → Bytes s → form k s ≡ Got v n → FormRead k s v n
unfolding form
form_read zero s v n h e = absurd (never_bad v n (sym (form_too_long s) ∙ e))
form_read (suc k) [] v n h e = absurd (never_ends v n e)
form_read (suc k) (b ∷ s) v n h e =
    by_less b 128
    (λ l. read_last k b s v n l e)
    (λ m.
    let r : Below (b - 128) (form k s) v n = got-below (b - 128) (form k s) v n (sym (form_more k b s m) ∙ e) in
    read_more k b s v n (h 0) m r (form_read k s r.above r.bytes (bytes_rest b s h) r.rest))

-- ---- how far reading looks

-- a form of at most k bytes in s takes n bytes: at least one, and none past the end of s
pub record FormWithin (k : ℕ) (s : List ℕ) (n : ℕ) : Type 0 where
  pub some : 0 < n
  pub few : n ≤ k
  pub within : n ≤ length s

within_more : (k b : ℕ) (s : List ℕ) (n m : ℕ) → n ≡ suc m → FormWithin k s m → FormWithin (suc k) (b ∷ s) n
within_more k b s n m e w = omega arith

pub form-within : (k : ℕ) (s : List ℕ) (v n : ℕ) → form k s ≡ Got v n → FormWithin k s n
unfolding form
form-within zero s v n e = absurd (never_bad v n (sym (form_too_long s) ∙ e))
form-within (suc k) [] v n e = absurd (never_ends v n e)
form-within (suc k) (b ∷ s) v n e =
    by_less b 128
    (λ l.
    let f : Got b 1 ≡ Got v n = sym (form_last k b s l) ∙ e in
    let en : n ≡ 1 = cc in
    record { some = omega arith; few = omega arith; within = omega arith })
    (λ m.
    let r : Below (b - 128) (form k s) v n = got-below (b - 128) (form k s) v n (sym (form_more k b s m) ∙ e) in
    within_more k b s n r.bytes r.next (form-within k s r.above r.bytes r.rest))

took_first : (b c n : ℕ) (s t : List ℕ) → take (suc n) (b ∷ s) ≡ take (suc n) (c ∷ t) → b ≡ c
took_first b c n s t e = cc

took_rest : (b c n : ℕ) (s t : List ℕ) → take (suc n) (b ∷ s) ≡ take (suc n) (c ∷ t) → take n s ≡ take n t
took_rest b c n s t e = cc

took_none : (b n : ℕ) (s : List ℕ) → 0 < n → take n (b ∷ s) ≡ take n [] → ⊥
took_none b n s h e = omega (arith, simp length-take at (ap length e))

-- two inputs that begin with the same n bytes have the same form there, if it takes n bytes
pub form_no_further : (k : ℕ) (s t : List ℕ) (v n : ℕ) → take n s ≡ take n t → form k s ≡ Got v n → form k t ≡ Got v n
unfolding form
form_no_further zero s t v n p e = absurd (never_bad v n (sym (form_too_long s) ∙ e))
form_no_further (suc k) [] t v n p e = absurd (never_ends v n e)
form_no_further (suc k) (b ∷ s) [] v n p e =
    absurd (took_none b n s (form-within (suc k) (b ∷ s) v n e).some p)
form_no_further (suc k) (b ∷ s) (c ∷ t) v n p e =
    by_less b 128
    (λ l.
    let f : Got b 1 ≡ Got v n = sym (form_last k b s l) ∙ e in
    let en : n ≡ 1 = cc in
    rw (← took_first b c 0 s t (rw en at p)) (form_last k b t l ∙ f))
    (λ m.
    let r : Below (b - 128) (form k s) v n = got-below (b - 128) (form k s) v n (sym (form_more k b s m) ∙ e) in
    let q : take (suc r.bytes) (b ∷ s) ≡ take (suc r.bytes) (c ∷ t) = rw r.next at p in
    let rest = form_no_further k s t r.above r.bytes (took_rest b c r.bytes s t q) r.rest in
    rw (← took_first b c r.bytes s t q)
    (form_more k b t m ∙ ap (below (b - 128)) (rest ∙ sym r.rest) ∙ sym (form_more k b s m) ∙ e))

-- ---- how long a written form is

pub encode_some : (k v : ℕ) → 0 < k → 0 < length (encode k v)
encode_some zero v some = absurd (omega arith)
encode_some (suc k) v some =
    by_less v 128
    (λ l. rw encode_last (omega arith))
    (λ m. rw encode_more (omega arith))

pub encode_few : (k v : ℕ) → length (encode k v) ≤ k
unfolding encode
encode_few zero v = omega arith
encode_few (suc k) v =
    by_less v 128
    (λ l. rw (encode_last k v l) (omega arith))
    (λ m. rw (encode_more k v m) (omega (arith, encode_few k (v / 128))))

-- a value of at most suc j groups is written in at most suc j bytes
pub encode_short : (j k v : ℕ) → v < 128 ^ suc j → length (encode k v) ≤ suc j
unfolding encode
encode_short j zero v h = omega arith
encode_short zero (suc k) v h = rw (encode_last k v (omega arith)) (omega arith)
encode_short (suc j) (suc k) v h =
    by_less v 128
    (λ l. rw (encode_last k v l) (omega arith))
    (λ m. rw (encode_more k v m) (omega (arith, encode_short j k (v / 128) (omega arith))))

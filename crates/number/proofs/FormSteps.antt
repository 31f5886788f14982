-- The steps of reading and writing a form at a place, as the code takes them: the proofs of `read_form` and
-- `write_groups` are one law of these for each way out.
use mathlib.Core.Path.{◌≡◌, refl, sym, ap, ◌∙◌}
use mathlib.Core.List.{List}
use Prim.Native.Nat.{ℕ, zero, suc, ◌+◌, ◌-◌, ◌*◌, ◌/◌, ◌%◌, ◌^◌, ◌≤◌, ◌<◌}
use native.Mathlib.Nat.{suc-sub-suc, sub-zero, pow-le-pow_right, lt_of_lt_of_le}
use native.Mathlib.Numerals.{add-one}
use native.Mathlib.Omega.{arith}
use mir.Syntax.{w8}
use mir.Val.{Fits}
use lib.ListN.{length, get_or, drop, set, drop_of_length-le, length-drop}
use lib.Seq.{sets, drop-cons}
use Rattle.number.specs.Numbers.{Form, Got, Ends, Bad}
use Rattle.std.specs.Prelude.{Result}
use Rattle.number.specs.declared.Flaw.{Flaw}
use Rattle.number.specs.declared.Flaw.TheVariants.{Cut, NoNumber}
use Rattle.number.specs.Numbers.{below, form, encode, told_form}
use Rattle.number.proofs.FormLaws.{FormWithin, Bytes-slice, Bytes-drop, below_got, form_last}
use Rattle.number.proofs.FormLaws.{form_more, form_read, form-within, encode_some, encode_last, encode_more}
use Rattle.number.proofs.FormLaws.{form_too_long}

-- ---- reading

pub form_none : (left : ℕ) (s : List ℕ) → left ≡ 0 → Bad ≡ form left s
form_none zero s e = sym (form_too_long s)
form_none (suc k) s e = absurd (omega arith)

pub form-ends : (left at : ℕ) (s : List ℕ) → (left ≡ 0 → ⊥) → length s ≤ at → Ends ≡ form left (drop at s)
unfolding form
form-ends zero at s some h = absurd (some refl)
form-ends (suc k) at s some h = rw (drop_of_length-le s h)

pub form_one : (left at : ℕ) (s : List ℕ) (b : ℕ) → (left ≡ 0 → ⊥) → at < length s → b ≡ get_or s at 0 → b < 128
    → Got b 1 ≡ form left (drop at s)
form_one zero at s b some h e l = absurd (some refl)
form_one (suc k) at s b some h e l = rw (drop-cons s at 0 h, ← e) (sym (form_last k b (drop (suc at) s) l))

form_further : (left at : ℕ) (s : List ℕ) (b : ℕ) → (left ≡ 0 → ⊥) → at < length s → b ≡ get_or s at 0 → 128 ≤ b
    → (f : Form) → f ≡ form (left - 1) (drop (at + 1) s) → form left (drop at s) ≡ below (b - 128) f
form_further zero at s b some h e m f r = absurd (some refl)
form_further (suc k) at s b some h e m f r =
    rw (drop-cons s at 0 h, ← e)
    (form_more k b (drop (suc at) s) m ∙ ap (below (b - 128)) (sym (rw (add-one, suc-sub-suc, sub-zero) at r)))

-- a rest that is no number stays what it is
flaw_below : (g : ℕ) (e : Flaw) → below g (told_form (Result.Err e)) ≡ told_form (Result.Err e)
unfolding below
flaw_below g Cut = refl
flaw_below g NoNumber = refl

-- a group that is not the last, and the form of the rest
module _ (left at : ℕ) (s : List ℕ) (b : ℕ) (some : left ≡ 0 → ⊥) (there : at < length s) (is : b ≡ get_or s at 0)
    (more : 128 ≤ b) where
  pub form_flawed : (e : Flaw) → told_form (Result.Err e) ≡ form (left - 1) (drop (at + 1) s)
      → told_form (Result.Err e) ≡ form left (drop at s)
  form_flawed e rest =
      sym (form_further left at s b some there is more _ rest ∙ flaw_below (b - 128) e)

  pub form_not_shortest : (v n : ℕ) → Got v n ≡ form (left - 1) (drop (at + 1) s) → v ≡ 0
      → Bad ≡ form left (drop at s)
  unfolding below
  form_not_shortest v n rest none =
      sym (form_further left at s b some there is more _ rest ∙ ap (λ (x : ℕ). below (b - 128) (Got x n)) none)

  pub form_grown : (v n : ℕ) → Got v n ≡ form (left - 1) (drop (at + 1) s) → (v ≡ 0 → ⊥)
      → Got (b - 128 + 128 * v) (n + 1) ≡ form left (drop at s)
  form_grown v n rest above =
      rw add-one
      (sym (form_further left at s b some there is more _ rest ∙ below_got (b - 128) v n (omega arith)))

-- what bounds a form of at most `most` bytes that was read at a place
pub record FormBounds (most at : ℕ) (s : List ℕ) (v n : ℕ) : Type 0 where
  pub small : v < 128 ^ most
  pub few : n ≤ most
  pub within : at + n ≤ length s

pub form_bounds : (most left at : ℕ) (s : List ℕ) → ((i : ℕ) → Fits w8 (get_or s i 0)) → left ≤ most
    → (v n : ℕ) → Got v n ≡ form left (drop at s) → FormBounds most at s v n
form_bounds most left at s h l v n r =
    let w : FormWithin left (drop at s) n = form-within left (drop at s) v n (sym r) in
    record {
      small =
          lt_of_lt_of_le (form_read left (drop at s) v n (Bytes-drop s at (Bytes-slice s h)) (sym r)).small
          (pow-le-pow_right (omega arith) l);
      few = omega arith;
      within = omega (arith, w, length-drop at s);
    }

-- ---- counting groups

pub count_none : (left v : ℕ) → left ≡ 0 → 0 ≡ length (encode left v)
unfolding encode
count_none zero v none = refl
count_none (suc k) v none = absurd (omega arith)

pub count_last : (left v : ℕ) → (left ≡ 0 → ⊥) → v / 128 ≡ 0 → 1 ≡ length (encode left v)
count_last zero v some last = absurd (some refl)
count_last (suc k) v some last = rw (encode_last k v (omega arith))

pub count_more : (left v n : ℕ) → (left ≡ 0 → ⊥) → (v / 128 ≡ 0 → ⊥) → n ≡ length (encode (left - 1) (v / 128))
    → 1 + n ≡ length (encode left v)
count_more zero v n some more rest = absurd (some refl)
count_more (suc k) v n some more rest =
    rw (encode_more k v (omega (arith, more))) (omega (arith, rw (suc-sub-suc, sub-zero) at rest))

-- ---- writing

pub encode_one : (left v : ℕ) (l : List ℕ) (at : ℕ) → 0 < left → v < 128 → set l at v ≡ sets l at (encode left v)
encode_one zero v l at some h = absurd (omega arith)
encode_one (suc k) v l at some h = rw encode_last

pub encode_further : (left v : ℕ) (l l' : List ℕ) (at : ℕ) → 0 < left → 128 ≤ v
    → l' ≡ sets (set l at (128 + v % 128)) (at + 1) (encode (left - 1) (v / 128)) → l' ≡ sets l at (encode left v)
encode_further zero v l l' at some m e = absurd (omega arith)
encode_further (suc k) v l l' at some m e = rw encode_more (rw (add-one, suc-sub-suc, sub-zero) at e)

-- the groups that are left have a first byte, and it has room
pub encode-room : (left v at room : ℕ) → 0 < left → at + length (encode left v) ≤ room → at < room
encode-room left v at room some h = omega (arith, encode_some left v some)

-- below a group that is not the last, the rest has groups and room left
pub encode_rest : (left v at room : ℕ) → v < 128 ^ left → at + length (encode left v) ≤ room → 128 ≤ v
    → (0 < left - 1) × (v / 128 < 128 ^ (left - 1)) × (at + 1 + length (encode (left - 1) (v / 128)) ≤ room)
encode_rest zero v at room h r m = absurd (omega arith)
encode_rest (suc zero) v at room h r m = absurd (omega arith)
encode_rest (suc (suc k)) v at room h r m =
    rw (suc-sub-suc, sub-zero)
    (omega arith, omega arith, omega (arith, rw (encode_more (suc k) v m) at r))

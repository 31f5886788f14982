-- The laws of the file's numbers: what is written is read back, and what is read is what would be written.
-- Every crate that reads or writes numbers cites these, and nothing of the definitions' text. They are the laws of
-- FormLaws at a width's longest form; how the current width's two numbers stand to each other is said once, below.
use mathlib.Core.Path.{◌≡◌, refl, sym, ap, ◌∙◌}
use mathlib.Core.Logic.{◌⊎◌, inl, inr}
use mathlib.Core.Bool.{Bool, true, false, cond}
use mathlib.Core.List.{List, [], ◌∷◌, ◌++◌}
use Prim.Native.Nat.{ℕ, ◌+◌, ◌^◌, ◌≤◌, ◌<◌}
use native.Mathlib.Omega.{arith}
use borrow.Author.Tests.{leb-true, le-leb, lt-leb}
use lib.Dec.{leb}
use lib.ListN.{length, take, drop, length-drop}
use lib.Seq.{sets, drop-drop}
use Rattle.number.specs.Numbers.{Form, Got, Ends, Bad}
use Rattle.bits.proofs.BoolLaws.{by_test}
use Rattle.refusals.specs.Outcomes.{Outcome, given, refused, found}
use Rattle.refusals.specs.Refusals.{input_ends, bad_form, buffer_too_short}
use Rattle.refusals.specs.Order.{first_no}
use Rattle.number.specs.Numbers.{Width, current_width, Bytes, form, placed, number_at, encode, number_bytes}
use Rattle.number.specs.Numbers.{number_writing}
use Rattle.refusals.proofs.OutcomeLaws.{refused_never, given_injective}
use Rattle.refusals.specs.declared.Found.{Found}
use Rattle.refusals.specs.declared.No.TheVariants as No
use Rattle.refusals.proofs.Tabled.{Tabled, tabled_given, tabled_refused}
use Rattle.number.proofs.FormLaws.{FormRead, Bytes-drop, form_written, form_read, form-within}
use Rattle.number.proofs.FormLaws.{form_no_further}
use Rattle.number.proofs.Buffers.{take-drop}
use Rattle.number.proofs.FormLaws.{encode_last, encode_some, encode_few, encode_short}

-- ---- outcomes

pub found_value : {A : Type 0} (a b : A) (m n : ℕ) → found a m ≡ found b n → a ≡ b
found_value {A} a b m n e =
    ap (λ (x : Found A). x.value) (given_injective _ _ e)

found_next : {A : Type 0} (a b : A) (m n : ℕ) → found a m ≡ found b n → m ≡ n
found_next {A} a b m n e =
    ap (λ (x : Found A). x.next) (given_injective _ _ e)

-- ---- the current width

current_some : 0 < current_width.longest
current_some = omega arith

-- the longest form has room for the largest value, which is the largest word of 32 bits
current-room : (v : ℕ) → v ≤ current_width.largest → v < 128 ^ current_width.longest
current-room v h = omega arith

word_current : (v : ℕ) → v < 2 ^ 32 → v ≤ current_width.largest
word_current v h = omega arith

-- ---- a form at a place

module _ (w : Width) where
  -- what is known of a form that is placed as a number
  record PlacedForm (at : ℕ) (f : Form) (v n : ℕ) : Type 0 where
    bytes : ℕ
    is : f ≡ Got v bytes
    next : n ≡ at + bytes
    small : v ≤ w.largest

  placed-found : (len at : ℕ) (f : Form) (v n : ℕ) → placed w len at f ≡ found v n → PlacedForm at f v n
  unfolding placed
  placed-found len at (Got u m) v n e = placed_got (leb u w.largest) at u m v n refl e
    where
      placed_got : (t : Bool) (at u m v n : ℕ) → leb u w.largest ≡ t
          → cond t (found u (at + m)) (refused bad_form at) ≡ found v n → PlacedForm at (Got u m) v n
      placed_got true at u m v n h e = record {
        bytes = m;
        is = ap (λ (x : ℕ). Got x m) (found_value u v (at + m) n e);
        next = sym (found_next u v (at + m) n e);
        small = rw (found_value u v (at + m) n e) at (leb-true u w.largest h);
      }
      placed_got false at u m v n h e = absurd (refused_never bad_form at _ e)
  placed-found len at Ends v n e = absurd (refused_never input_ends len _ e)
  placed-found len at Bad v n e = absurd (refused_never bad_form at _ e)

  pub placed_as : (len at v m : ℕ) → v ≤ w.largest → placed w len at (Got v m) ≡ found v (at + m)
  unfolding placed
  placed_as len at v m h = rw (le-leb v w.largest h)

  pub placed_over : (len at v m : ℕ) → w.largest < v → placed w len at (Got v m) ≡ refused bad_form at
  unfolding placed
  placed_over len at v m h = rw (lt-leb v w.largest h)

  -- a number is refused by 1 at the input's end or by 2 at its place, and by nothing else
  placed_refused : (len at : ℕ) (f : Form) (n p : ℕ) → placed w len at f ≡ refused n p
      → ((n ≡ input_ends) × (p ≡ len)) ⊎ ((n ≡ bad_form) × (p ≡ at))
  unfolding placed
  placed_refused len at (Got v m) n p e = by (leb v w.largest) e
    where
      by : (t : Bool) → cond t (found v (at + m)) (refused bad_form at) ≡ refused n p
          → ((n ≡ input_ends) × (p ≡ len)) ⊎ ((n ≡ bad_form) × (p ≡ at))
      by true e = absurd (refused_never n p _ (sym e))
      by false e = inr (cc, cc)
  placed_refused len at Ends n p e = inl (cc, cc)
  placed_refused len at Bad n p e = inr (cc, cc)

  pub number_refusal : (s : List ℕ) (at n p : ℕ) → number_at w s at ≡ refused n p
      → ((n ≡ input_ends) × (p ≡ length s)) ⊎ ((n ≡ bad_form) × (p ≡ at))
  unfolding number_at
  number_refusal s at = placed_refused (length s) at (form w.longest (drop at s))

  number-placed : (s : List ℕ) (at v n : ℕ) → number_at w s at ≡ found v n
      → PlacedForm at (form w.longest (drop at s)) v n
  unfolding number_at
  number-placed s at v n e = placed-found (length s) at (form w.longest (drop at s)) v n e

  -- ---- how far reading looks

  -- no byte past the number, and at least one
  pub number_next_within : (s : List ℕ) (at v n : ℕ) → number_at w s at ≡ found v n → (n ≤ length s) × (at < n)
  number_next_within s at v n e =
      let p : PlacedForm at (form w.longest (drop at s)) v n = number-placed s at v n e in
      omega (arith, form-within w.longest (drop at s) v p.bytes p.is, length-drop at s)

  -- reading looks at no byte past the number
  pub number_looks_no_further : (s t : List ℕ) (at v n : ℕ) → take n s ≡ take n t → number_at w s at ≡ found v n
      → number_at w t at ≡ found v n
  unfolding number_at
  number_looks_no_further s t at v n q e =
      let p : PlacedForm at (form w.longest (drop at s)) v n = number-placed s at v n e in
      let same : take p.bytes (drop at s) ≡ take p.bytes (drop at t) =
      take-drop at p.bytes s ∙ ap (drop at) (rw p.next at q) ∙ sym (take-drop at p.bytes t) in
      ap (placed w (length t) at) (form_no_further w.longest (drop at s) (drop at t) v p.bytes same p.is)
      ∙ placed_as (length t) at v p.bytes p.small
      ∙ ap (found v) (sym p.next)

  -- where two inputs go on alike, from the places i and j, what is read there is the same, places apart
  module _ (s t : List ℕ) (i j : ℕ) (P : Outcome (Found ℕ) → Outcome (Found ℕ) → Type 0)
      (both_found : (v n : ℕ) → P (found v (i + n)) (found v (j + n)))
      (both_end : P (refused input_ends (length s)) (refused input_ends (length t)))
      (both-bad : P (refused bad_form i) (refused bad_form j)) where
    placed_alike : (f : Form) → P (placed w (length s) i f) (placed w (length t) j f)
    unfolding placed
    placed_alike (Got v n) = by (leb v w.largest)
      where
        by : (small : Bool)
            → P (cond small (found v (i + n)) (refused bad_form i)) (cond small (found v (j + n)) (refused bad_form j))
        by true = both_found v n
        by false = both-bad
    placed_alike Ends = both_end
    placed_alike Bad = both-bad

    pub number-alike : drop i s ≡ drop j t → P (number_at w s i) (number_at w t j)
    unfolding number_at
    number-alike alike =
        rw (← alike) (placed_alike (form w.longest (drop i s)))

  -- ---- a number from its form, as `read_number` reads it

  pub number-ends : (s : List ℕ) (at : ℕ) → Ends ≡ form w.longest (drop at s)
      → refused input_ends (length s) ≡ number_at w s at
  unfolding number_at placed
  number-ends s at r = ap (placed w (length s) at) r

  pub number_bad : (s : List ℕ) (at : ℕ) → Bad ≡ form w.longest (drop at s) → refused bad_form at ≡ number_at w s at
  unfolding number_at placed
  number_bad s at r = ap (placed w (length s) at) r

  module _ (s : List ℕ) (at v m : ℕ) (r : Got v m ≡ form w.longest (drop at s)) where
    pub number_got : v ≤ w.largest → found v (at + m) ≡ number_at w s at
    unfolding number_at
    number_got most = sym (placed_as (length s) at v m most) ∙ ap (placed w (length s) at) r

    pub number_over : w.largest < v → refused bad_form at ≡ number_at w s at
    unfolding number_at
    number_over over = sym (placed_over (length s) at v m over) ∙ ap (placed w (length s) at) r

-- ---- reading what was written, and writing what was read

pub number_written_read : (s : List ℕ) (at v : ℕ) (rest : List ℕ) → v ≤ current_width.largest
    → drop at s ≡ number_bytes v ++ rest → number_at current_width s at ≡ found v (at + length (number_bytes v))
unfolding number_at number_bytes
number_written_read s at v rest h e =
    ap (λ (l : List ℕ). placed current_width (length s) at (form current_width.longest l)) e
    ∙ ap (placed current_width (length s) at)
    (form_written current_width.longest v rest current_some (current-room v h))
    ∙ placed_as current_width (length s) at v (length (encode current_width.longest v)) h

-- what is known where the number v was read at a place of s, with the place n just after it
pub record ReadBack (s : List ℕ) (at v n : ℕ) : Type 0 where
  pub bytes : drop at s ≡ number_bytes v ++ drop n s
  pub next : n ≡ at + length (number_bytes v)

pub number_read_written : (s : List ℕ) (at v n : ℕ) → Bytes s → number_at current_width s at ≡ found v n
    → ReadBack s at v n
unfolding number_bytes
number_read_written s at v n h e =
    let p = number-placed current_width s at v n e in
    let r : FormRead current_width.longest (drop at s) v p.bytes =
    form_read current_width.longest (drop at s) v p.bytes (Bytes-drop s at h) p.is in
    record {
      bytes =
          r.bytes ∙ ap (λ (l : List ℕ). encode current_width.longest v ++ l)
          (drop-drop p.bytes at s ∙ ap (λ (i : ℕ). drop i s) (sym p.next));
      next = p.next ∙ ap (λ (m : ℕ). at + m) r.next;
    }

-- ---- how long a written number is

pub number_bytes-length : (v : ℕ) → (1 ≤ length (number_bytes v)) × (length (number_bytes v) ≤ current_width.longest)
unfolding number_bytes
number_bytes-length v = (encode_some current_width.longest v current_some, encode_few current_width.longest v)

pub number_bytes_one : (v : ℕ) → v < 128 → number_bytes v ≡ v ∷ []
unfolding number_bytes
number_bytes_one v h = encode_last _ v h

pub number_bytes-length_two : (v : ℕ) → v < 16384 → length (number_bytes v) ≤ 2
unfolding number_bytes
number_bytes-length_two v h = encode_short 1 current_width.longest v h

-- ---- what writing a number does to a buffer

pub number_written : (v : ℕ) (out : List ℕ) (at : ℕ) → at + length (number_bytes v) ≤ length out
    → ◌≡◌ {A = Outcome ℕ × List ℕ} (number_writing v out at)
    (given (at + length (number_bytes v)), sets out at (number_bytes v))
unfolding number_writing first_no
number_written v out at fits = rw (le-leb (at + length (number_bytes v)) (length out) fits)

-- each way out of `write_number`
module _ (v : ℕ) (out : List ℕ) (at bytes : ℕ) (long : bytes ≡ length (number_bytes v)) where
  pub number_unwritten : leb (at + bytes) (length out) ≡ false
      → ◌≡◌ {A = Outcome ℕ × List ℕ} (refused buffer_too_short 0, out) (number_writing v out at)
  unfolding number_writing first_no
  number_unwritten lacks = rw (← long, lacks)

  module _ (fits : at + bytes ≤ length out) where
    -- a word of 32 bits has a form of the longest length
    pub number-groups : v < 2 ^ 32 → (0 < current_width.longest) × (v < 128 ^ current_width.longest)
        × (at + length (encode current_width.longest v) ≤ length out)
    unfolding number_bytes
    number-groups word = (current_some, current-room v (word_current v word), rw (← long) fits)

    pub number_stored : (out' : List ℕ) → out' ≡ sets out at (encode current_width.longest v)
        → ◌≡◌ {A = Outcome ℕ × List ℕ} (given (at + bytes), out') (number_writing v out at)
    unfolding number_bytes
    number_stored out' wrote = rw (long, wrote) (sym (number_written v out at (rw (← long) fits)))

-- ---- what reading and writing come to is given, or refused by a number of the table

pub placed_tabled : (w : Width) (len at : ℕ) (f : Form) → Tabled (placed w len at f)
unfolding placed
placed_tabled w len at (Got v n) =
    by_test (leb v w.largest)
    (λ most. rw most (tabled_given _))
    (λ over. rw over (tabled_refused No.BadForm at))
placed_tabled w len at Ends = tabled_refused No.InputEnds len
placed_tabled w len at Bad = tabled_refused No.BadForm at

pub number_tabled : (w : Width) (s : List ℕ) (at : ℕ) → Tabled (number_at w s at)
unfolding number_at
number_tabled w s at = placed_tabled w (length s) at (form w.longest (drop at s))

pub number_writing_tabled : (v : ℕ) (out : List ℕ) (at : ℕ) → Tabled (number_writing v out at).0
unfolding number_writing first_no
number_writing_tabled v out at =
    by_test (leb (at + length (number_bytes v)) (length out))
    (λ fits. rw fits (tabled_given _))
    (λ lacks. rw lacks (tabled_refused No.BufferTooShort 0))

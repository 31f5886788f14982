-- The theorem of specs/FormExactly.antt: what `form` makes of some bytes is one of four cases, and in each case it
-- makes just that of them, over the longest form k. So what stands at a place of an input comes to one of five cases,
-- at every width.
use Prim.Native.Nat.{ℕ, zero, suc, ◌-◌, ◌≤◌, ◌<◌}
use native.Mathlib.Omega.{arith}
use mathlib.Core.Path.{◌≡◌, refl, sym, ap, subst, ◌∙◌}
use mathlib.Core.List.{List, [], ◌∷◌, ◌++◌}
use lib.ListN.{length, drop}
use Rattle.lists.specs.Members.{All}
use Rattle.bits.proofs.BoolLaws.{by_less}
use Rattle.number.specs.Numbers.{Form, Got, Ends, Bad}
use Rattle.refusals.specs.declared.Found.{Found}
use Rattle.refusals.specs.Outcomes.{Outcome}
use Rattle.number.specs.Numbers.{Width, current_width, Bytes, below, form, placed, number_at}
use Rattle.number.specs.FormExactly.{TopBit, groups, NumberForm, whole, cut, too_long, not_shortest, too_large}
use Rattle.number.specs.FormExactly.{FormExactly}
use Rattle.number.proofs.FormLaws.{form_too_long, form_last, form_more, below_got, bytes_rest, Bytes-drop}
use Rattle.number.proofs.NumberLaws.{placed_as, placed_over, number-ends, number_bad}

-- ---- what bytes are worth

groups_some : (bs : List ℕ) (b : ℕ) → 0 < b → b < 128 → 0 < groups (bs ++ (b ∷ []))
unfolding groups
groups_some [] b some small = omega arith
groups_some (x ∷ bs) b some small = omega (arith, groups_some bs b some small)

-- ---- the form of bytes, case by case

-- a last byte behind others is not 0
last_some : (x b : ℕ) (bs : List ℕ) → (b ≡ 0 → x ∷ bs ≡ []) → 0 < b
last_some x zero bs only = absurd (omega (arith, ap length (only refl)))
last_some x (suc b) bs only = omega arith

module _ (b : ℕ) (rest : List ℕ) (small : b < 128) where
  form_whole : (k : ℕ) (bs : List ℕ) → Bytes (bs ++ (b ∷ rest)) → All TopBit bs → length bs < k → (b ≡ 0 → bs ≡ [])
      → form k (bs ++ (b ∷ rest)) ≡ Got (groups (bs ++ (b ∷ []))) (length (bs ++ (b ∷ [])))
  unfolding groups
  form_whole zero bs bytes set few only = absurd (omega arith)
  form_whole (suc k) [] bytes set few only = form_last k b rest small ∙ ap (λ (v : ℕ). Got v 1) (omega arith)
  form_whole (suc k) (x ∷ bs) bytes set few only =
      let some : 0 < b = last_some x b bs only in
      let after =
      form_whole k bs (bytes_rest x (bs ++ (b ∷ rest)) bytes) set.1 (omega arith) (λ e. absurd (omega arith)) in
      form_more k x (bs ++ (b ∷ rest)) set.0
      ∙ ap (below (x - 128)) after
      ∙ below_got (x - 128) (groups (bs ++ (b ∷ []))) (length (bs ++ (b ∷ []))) (groups_some bs b some small)
      ∙ ap (λ (v : ℕ). Got v (suc (length (bs ++ (b ∷ []))))) (omega (arith, bytes 0, set.0))

form_cut : (k : ℕ) (bs : List ℕ) → All TopBit bs → length bs < k → form k bs ≡ Ends
unfolding form below
form_cut zero bs set few = absurd (omega arith)
form_cut (suc k) [] set few = refl
form_cut (suc k) (x ∷ bs) set few =
    form_more k x bs set.0 ∙ ap (below (x - 128)) (form_cut k bs set.1 (omega arith))

form_long : (k : ℕ) (bs rest : List ℕ) → All TopBit bs → length bs ≡ k → form k (bs ++ rest) ≡ Bad
unfolding below
form_long zero bs rest set long = form_too_long (bs ++ rest)
form_long (suc k) [] rest set long = absurd (omega arith)
form_long (suc k) (x ∷ bs) rest set long =
    form_more k x (bs ++ rest) set.0 ∙ ap (below (x - 128)) (form_long k bs rest set.1 (omega arith))

form_zero_last : (k : ℕ) (bs rest : List ℕ) → All TopBit bs → 0 < length bs → length bs < k
    → form k (bs ++ (0 ∷ rest)) ≡ Bad
unfolding below
form_zero_last zero bs rest set some few = absurd (omega arith)
form_zero_last (suc k) [] rest set some few = absurd (omega arith)
form_zero_last (suc zero) (x ∷ bs) rest set some few = absurd (omega arith)
form_zero_last (suc (suc k)) (x ∷ []) rest set some few =
    form_more (suc k) x (0 ∷ rest) set.0 ∙ ap (below (x - 128)) (form_last k 0 rest (omega arith))
form_zero_last (suc (suc k)) (x ∷ y ∷ bs) rest set some few =
    form_more (suc k) x (y ∷ bs ++ (0 ∷ rest)) set.0
    ∙ ap (below (x - 128)) (form_zero_last (suc k) (y ∷ bs) rest set.1 (omega arith) (omega arith))

-- ---- every form is one of the cases

data FormCase (k : ℕ) (s : List ℕ) : Form → Type 0 where
  got_it : (bs rest : List ℕ) (b : ℕ) → s ≡ bs ++ (b ∷ rest) → All TopBit bs → length bs < k → b < 128
      → (b ≡ 0 → bs ≡ []) → FormCase k s (Got (groups (bs ++ (b ∷ []))) (length (bs ++ (b ∷ []))))
  ended : All TopBit s → length s < k → FormCase k s Ends
  too_many : (bs rest : List ℕ) → s ≡ bs ++ rest → All TopBit bs → length bs ≡ k → FormCase k s Bad
  zero_last : (bs rest : List ℕ) → s ≡ bs ++ (0 ∷ rest) → All TopBit bs → 0 < length bs → length bs < k
      → FormCase k s Bad

-- a byte with the top bit set, before a case
module _ (k x : ℕ) (s : List ℕ) (byte : x < 256) (top : 128 ≤ x) where
  case-behind : (f : Form) → FormCase k s f → FormCase (suc k) (x ∷ s) (below (x - 128) f)
  unfolding below groups
  case-behind f (got_it [] rest zero e set few small only) =
      zero_last (x ∷ []) rest (ap (λ (l : List ℕ). x ∷ l) e) (top, set) (omega arith) (omega arith)
  case-behind f (got_it (y ∷ bs) rest zero e set few small only) = absurd (omega (arith, ap length (only refl)))
  case-behind f (got_it bs rest (suc b) e set few small only) =
      let value = groups (bs ++ (suc b ∷ [])) in
      rw (below_got (x - 128) value (length (bs ++ (suc b ∷ []))) (groups_some bs (suc b) (omega arith) small))
      (subst (λ (v : ℕ). FormCase (suc k) (x ∷ s) (Got v (suc (length (bs ++ (suc b ∷ [])))))) (omega arith)
      (got_it (x ∷ bs) rest (suc b) (ap (λ (l : List ℕ). x ∷ l) e) (top, set) (omega arith) small
      (λ z. absurd (omega arith))))
  case-behind f (ended set few) = ended (top, set) (omega arith)
  case-behind f (too_many bs rest e set long) =
      too_many (x ∷ bs) rest (ap (λ (l : List ℕ). x ∷ l) e) (top, set) (omega arith)
  case-behind f (zero_last bs rest e set some few) =
      zero_last (x ∷ bs) rest (ap (λ (l : List ℕ). x ∷ l) e) (top, set) (omega arith) (omega arith)

form_case : (k : ℕ) (s : List ℕ) → Bytes s → FormCase k s (form k s)
unfolding form groups
form_case zero s bytes = too_many [] s refl tt refl
form_case (suc k) [] bytes = ended tt (omega arith)
form_case (suc k) (x ∷ s) bytes =
    by_less x 128
    (λ small. rw (form_last k x s small)
    (subst (λ (v : ℕ). FormCase (suc k) (x ∷ s) (Got v 1)) (omega arith)
    (got_it [] s x refl tt (omega arith) small (λ z. refl))))
    (λ top. rw (form_more k x s top)
    (case-behind k x s (bytes 0) top (form k s) (form_case k s (bytes_rest x s bytes))))

-- ---- at a place of an input

module _ (w : Width) (s : List ℕ) (at : ℕ) where
  case-placed : (f : Form) → FormCase w.longest (drop at s) f → NumberForm w s at (placed w (length s) at f)
  unfolding placed
  case-placed f (got_it bs rest b e set few small only) =
      let value = groups (bs ++ (b ∷ [])) in
      by_less w.largest value
      (λ over. rw (placed_over w (length s) at value (length (bs ++ (b ∷ []))) over)
      (too_large bs rest b e set few small only over))
      (λ most. rw (placed_as w (length s) at value (length (bs ++ (b ∷ []))) most)
      (whole bs rest b e set few small only most))
  case-placed f (ended set few) = cut set few
  case-placed f (too_many bs rest e set long) = too_long bs rest e set long
  case-placed f (zero_last bs rest e set some few) = not_shortest bs rest e set some few

  pub number-form : Bytes s → NumberForm w s at (number_at w s at)
  unfolding number_at
  number-form bytes =
      case-placed (form w.longest (drop at s)) (form_case w.longest (drop at s) (Bytes-drop s at bytes))

  whole-placed : Bytes s → (bs rest : List ℕ) (b : ℕ) → drop at s ≡ bs ++ (b ∷ rest) → All TopBit bs
      → length bs < w.longest → b < 128 → (b ≡ 0 → bs ≡ [])
      → number_at w s at ≡ placed w (length s) at (Got (groups (bs ++ (b ∷ []))) (length (bs ++ (b ∷ []))))
  unfolding number_at
  whole-placed bytes bs rest b e set few small only =
      ap (λ (l : List ℕ). placed w (length s) at (form w.longest l)) e
      ∙ ap (placed w (length s) at)
      (form_whole b rest small w.longest bs (subst Bytes e (Bytes-drop s at bytes)) set few only)

  pub form_number : Bytes s → (o : Outcome (Found ℕ)) → NumberForm w s at o → number_at w s at ≡ o
  form_number bytes o (whole bs rest b e set few small only most) =
      whole-placed bytes bs rest b e set few small only
      ∙ placed_as w (length s) at (groups (bs ++ (b ∷ []))) (length (bs ++ (b ∷ []))) most
  form_number bytes o (cut set few) =
      sym (number-ends w s at (sym (form_cut w.longest (drop at s) set few)))
  form_number bytes o (too_long bs rest e set long) =
      sym (number_bad w s at (sym (ap (form w.longest) e ∙ form_long w.longest bs rest set long)))
  form_number bytes o (not_shortest bs rest e set some few) =
      sym (number_bad w s at (sym (ap (form w.longest) e ∙ form_zero_last w.longest bs rest set some few)))
  form_number bytes o (too_large bs rest b e set few small only over) =
      whole-placed bytes bs rest b e set few small only
      ∙ placed_over w (length s) at (groups (bs ++ (b ∷ []))) (length (bs ++ (b ∷ []))) over

pub form_exactly : FormExactly
form_exactly s at r o bytes read = (
  λ is. subst (NumberForm current_width s at) (sym read ∙ is) (number-form current_width s at bytes),
  λ f. read ∙ form_number current_width s at bytes o f,
)

-- Laws of two widths of which the second is no narrower: what reading a number by the first answers, reading it by the
-- second answers too, unless that was 2.
--     Wider w w'    the numbers of the width w' are no shorter and no smaller than those of the width w
use Prim.Native.Nat.{ℕ, zero, suc, ◌-◌, ◌≤◌}
use native.Mathlib.Omega.{arith}
use mathlib.Core.Path.{◌≡◌, refl, sym, ap, ◌∙◌}
use mathlib.Core.Logic.{◌⊎◌, inl, inr}
use mathlib.Core.List.{List, [], ◌∷◌}
use lib.ListN.{length, drop}
use Rattle.bits.proofs.BoolLaws.{by_less}
use Rattle.number.specs.Numbers.{Form, Got, Ends, Bad}
use Rattle.refusals.specs.Refusals.{bad_form}
use Rattle.refusals.proofs.Kept.{Kept, stands, was_refused}
use Rattle.number.specs.Numbers.{Width, three_bytes, current_width, below, form, placed, number_at}
use Rattle.number.proofs.FormLaws.{form_too_long, form_last, form_more}
use Rattle.number.proofs.NumberLaws.{placed_as, placed_over}

pub record Wider (w w' : Width) : Type 0 where
  pub longer : w.longest ≤ w'.longest
  pub larger : w.largest ≤ w'.largest

pub three_bytes_wider : Wider three_bytes current_width
three_bytes_wider = record { longer = omega arith; larger = omega arith }

-- where more bytes may follow, a form stays what it was, or it was none
form-kept : (k k' : ℕ) (s : List ℕ) → k ≤ k' → (form k s ≡ Bad) ⊎ (form k' s ≡ form k s)
unfolding form below
form-kept zero k' s h = inl (form_too_long s)
form-kept (suc k) zero s h = absurd (omega arith)
form-kept (suc k) (suc k') [] h = inr refl
form-kept (suc k) (suc k') (b ∷ s) h =
    by_less b 128
    (λ last. inr (form_last k' b s last ∙ sym (form_last k b s last)))
    (λ more. by more (form-kept k k' s (omega arith)))
  where
    by : 128 ≤ b → (form k s ≡ Bad) ⊎ (form k' s ≡ form k s)
        → (form (suc k) (b ∷ s) ≡ Bad) ⊎ (form (suc k') (b ∷ s) ≡ form (suc k) (b ∷ s))
    by more (inl bad) = inl (form_more k b s more ∙ ap (below (b - 128)) bad)
    by more (inr same) = inr (form_more k' b s more ∙ ap (below (b - 128)) same ∙ sym (form_more k b s more))

module _ (w w' : Width) (wider : Wider w w') (len at : ℕ) where
  placed-kept : (f : Form) → Kept bad_form (placed w len at f) (placed w' len at f)
  unfolding placed
  placed-kept (Got v m) =
      by_less w.largest v
      (λ over. was_refused at (placed_over w len at v m over))
      (λ most. stands (placed_as w' len at v m (omega (arith, wider.larger)) ∙ sym (placed_as w len at v m most)))
  placed-kept Ends = stands refl
  placed-kept Bad = stands refl

pub number-kept : (w w' : Width) → Wider w w' → (s : List ℕ) (at : ℕ)
    → Kept bad_form (number_at w s at) (number_at w' s at)
unfolding number_at placed
number-kept w w' wider s at = by (form-kept w.longest w'.longest (drop at s) wider.longer)
  where
    by : (form w.longest (drop at s) ≡ Bad)
        ⊎ (form w'.longest (drop at s) ≡ form w.longest (drop at s))
        → Kept bad_form (number_at w s at) (number_at w' s at)
    by (inl bad) = was_refused at (rw bad)
    by (inr same) = rw same (placed-kept w w' wider (length s) at (form w.longest (drop at s)))

-- Notches of drawn relays: every place is one that the words have; a notch stays; and where each state that a run came
-- through has its notch, drawn relays without one were not drawn before.
use Prim.Native.Nat.{ℕ, suc, ◌-◌, ◌*◌, ◌/◌, ◌%◌, ◌<◌}
use native.Mathlib.Nat.{mod-lt}
use native.Mathlib.Omega.{arith}
use mathlib.Core.Path.{◌≡◌, refl, sym, ap, ◌∙◌}
use mathlib.Core.Bool.{true, false, false≢true}
use mathlib.Core.List.{List, [], ◌∷◌}
use lib.Dec.{eqb}
use lib.ListN.{length, get_or, set, length-set}
use lib.Seq.{get_or-set_same, get_or-set_other}
use borrow.Author.Tests.{eqb-true, eqb-false, ne_eqb}
use Rattle.lists.specs.Members.{All}
use Rattle.bits.specs.Sets.{room, member, including}
use Rattle.bits.proofs.BoolLaws.{by_test}
use Rattle.bits.proofs.SetLaws.{member-including-same, including-kept}
use Rattle.state.specs.declared.State.{State}
use Rattle.runs.specs.Runs.{same_state, met_from}
use Rattle.runs.specs.LookingBack.{notch_place, has_notch, with_notch, Spares}
use Rattle.runs.proofs.BackLaws.{Trail, back_met}

pub place-within : {p : ℕ} (n d : ℕ) → p ≡ notch_place n d → 0 < n → p / room < n
unfolding notch_place
place-within n d place some =
    let within : d % (room * n - 1) < room * n - 1 = mod-lt d (omega (arith, some)) in
    omega (arith, place, within)

module _ (ns : List ℕ) (d : ℕ) where
  -- the word and the bit of d
  abbrev word : ℕ → ℕ
  word e = notch_place (length ns) e / room

  abbrev bit : ℕ → ℕ
  bit e = notch_place (length ns) e % room

  pub notching-length : {n : ℕ} {ns' : List ℕ} → ns' ≡ with_notch ns d → length ns ≡ n → length ns' ≡ n
  unfolding with_notch
  notching-length is many = ap length is ∙ length-set ns (word d) _ ∙ many

  -- the words with a notch for d, and whether they have one for e
  abbrev cut : List ℕ
  cut = set ns (word d) (including (get_or ns (word d) 0) (bit d))

  notched_after : (e : ℕ)
      → has_notch (with_notch ns d) e ≡ member (get_or cut (word e) 0) (bit e)
  unfolding has_notch with_notch
  notched_after e = rw (length-set ns (word d) (including (get_or ns (word d) 0) (bit d))) refl

  pub notched_itself : 0 < length ns → has_notch (with_notch ns d) d ≡ true
  notched_itself some =
      notched_after d
      ∙ ap (λ (w : ℕ). member w (bit d)) (get_or-set_same ns (word d) _ 0 (place-within (length ns) d refl some))
      ∙ member-including-same (get_or ns (word d) 0) (bit d) (omega arith)

  pub notched-kept : 0 < length ns → (e : ℕ) → has_notch ns e ≡ true → has_notch (with_notch ns d) e ≡ true
  unfolding has_notch
  notched-kept some e was =
      by_test (eqb (word e) (word d))
      (λ same.
      let at = eqb-true (word e) (word d) same in
      notched_after e
      ∙ ap (λ (n : ℕ). member (get_or cut n 0) (bit e)) at
      ∙ ap (λ (w : ℕ). member w (bit e)) (get_or-set_same ns (word d) _ 0 (place-within (length ns) d refl some))
      ∙ including-kept (get_or ns (word d) 0) (bit d) (bit e)
      (ap (λ (n : ℕ). member (get_or ns n 0) (bit e)) (sym at) ∙ was))
      (λ other.
      notched_after e
      ∙ ap (λ (w : ℕ). member w (bit e)) (get_or-set_other ns (word d) (word e) _ 0 (eqb-false (word e) (word d) other))
      ∙ was)

-- ---- the states that a run came through

-- each has its notch
abbrev pub Covered : List ℕ → List State → Type 0
Covered ns ss = All (λ (t : State). has_notch ns t.drawn ≡ true) ss

pub covered_on : (ns : List ℕ) (s : State) (ss : List State) → 0 < length ns → Covered ns ss
    → Covered (with_notch ns s.drawn) (s ∷ ss)
covered_on ns s ss some covered = (notched_itself ns s.drawn some, kept ss covered)
  where
    kept : (ts : List State) → Covered ns ts → Covered (with_notch ns s.drawn) ts
    kept [] covered = tt
    kept (t ∷ ts) (here, later) = (notched-kept ns s.drawn some t.drawn here, kept ts later)

other_state : (ns : List ℕ) (s t : State) → has_notch ns t.drawn ≡ true → has_notch ns s.drawn ≡ false
    → same_state t s ≡ false
unfolding same_state
other_state ns s t on off =
    rw (ne_eqb t.drawn s.drawn (λ same. false≢true (sym off ∙ ap (has_notch ns) (sym same) ∙ on))) refl

unnotched-unmet : (ns : List ℕ) (s : State) (d : ℕ) (ts : List State) → Covered ns ts → has_notch ns s.drawn ≡ false
    → met_from d s ts ≡ 0
unfolding met_from
unnotched-unmet ns s d [] covered off = refl
unnotched-unmet ns s d (t ∷ ts) (here, later) off =
    rw (other_state ns s t here off) (unnotched-unmet ns s (suc d) ts later off)

pub covered-spares : (ns log : List ℕ) (m : ℕ) (s : State) (ss : List State) → Covered ns ss → Trail log m s ss
    → Spares ns log m s.drawn
covered-spares ns log m s ss covered trail off =
    back_met log m s ss trail ∙ unnotched-unmet ns s 1 ss covered off

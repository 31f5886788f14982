-- Looking back over the log finds the state that was met: each move turned its relay, so flipped it gives the drawn
-- relays before it, and the buttons stay as they are.
use Prim.Native.Nat.{ℕ, zero, suc, ◌+◌, ◌-◌, ◌%◌, ◌<◌, ◌≤◌}
use native.Mathlib.Omega.{arith}
use mathlib.Core.Path.{◌≡◌, refl, sym, ap, ◌∙◌}
use mathlib.Core.Bool.{Bool, true, false, cond, ◌&&◌}
use mathlib.Core.List.{List, [], ◌∷◌}
use Rattle.std.specs.Prelude.{Some, None}
use lib.Dec.{eqb}
use lib.ListN.{length, get_or, set}
use lib.Seq.{get_or-set_same, get_or-set_other}
use borrow.Author.Tests.{eq-eqb, ne_eqb}
use Rattle.bits.specs.Sets.{room, flipped}
use Rattle.bits.proofs.SetLaws.{flipped_included, flipped_excluded}
use Rattle.state.specs.declared.State.{State}
use Rattle.state.specs.States.{is_drawn}
use Rattle.moves.specs.Steps as step
use Rattle.moves.proofs.MoveLaws.{Turns}
use Rattle.runs.specs.Looks.{draw_mark, byte_of}
use Rattle.runs.specs.Runs.{same_state, met_from, met_ago}
use Rattle.runs.specs.LookingBack.{relay_of, back_from, ago_of}

-- a relay draws or drops
abbrev pub Moving : step.Move → Type 0
Moving step.drew = Unit {0}
Moving step.dropped = Unit {0}
Moving step.rests = ⊥
Moving step.conflict = ⊥

-- the move logged as c leads from state t to state s
abbrev Undone : ℕ → State → State → Type 0
Undone c s t = (flipped s.drawn (relay_of c) ≡ t.drawn) × (s.pushed ≡ t.pushed)

-- the first m moves of the log lead through the states ss, the last first, to s
pub data Trail (log : List ℕ) : ℕ → State → List State → Type 0 where
  begun : {s : State} → Trail log 0 s []
  after : {m : ℕ} {s t : State} {ss : List State} → Undone (get_or log m 0) s t → Trail log m t ss
      → Trail log (suc m) s (t ∷ ss)

pub trail-length : {log : List ℕ} {m : ℕ} {s : State} {ss : List State} → Trail log m s ss → length ss ≡ m
trail-length begun = refl
trail-length (after undone on) = ap suc (trail-length on)

-- ---- one move more

trail_set : {log : List ℕ} {m : ℕ} {s : State} {ss : List State} (p c : ℕ) → m ≤ p → Trail log m s ss
    → Trail (set log p c) m s ss
trail_set p c past begun = begun
trail_set {log} p c past (after {m = m} {s = s} undone on) =
    after (
      ap (λ (x : ℕ). flipped s.drawn (relay_of x)) (get_or-set_other log p m c 0 (λ same. omega (arith, past, same)))
          ∙ undone.0,
      undone.1,
    ) (trail_set p c (omega (arith, past)) on)

move_undone : (s : State) (r : ℕ) (mv : step.Move) → r < room → Turns (is_drawn s r) mv → Moving mv
    → Undone (byte_of r mv) (step.made s r mv) s
move_undone s r step.drew fits turned moves =
    let relay : (r + draw_mark) % draw_mark ≡ r = omega (arith, fits) in
    (ap (flipped (step.made s r step.drew).drawn) relay ∙ flipped_included s.drawn r fits turned, refl)
move_undone s r step.dropped fits turned moves =
    let relay : r % draw_mark ≡ r = omega (arith, fits) in
    (ap (flipped (step.made s r step.dropped).drawn) relay ∙ flipped_excluded s.drawn r fits turned, refl)
move_undone s r step.rests fits turned never = absurd never
move_undone s r step.conflict fits turned never = absurd never

pub trail-moves : {log : List ℕ} {m : ℕ} {s : State} {ss : List State} (r : ℕ) (mv : step.Move) (c : ℕ) → r < room
    → Turns (is_drawn s r) mv → Moving mv → c ≡ byte_of r mv → m < length log → Trail log m s ss
    → Trail (set log m c) (suc m) (step.made s r mv) (s ∷ ss)
trail-moves {log} {m} {s} r mv c fits turned moves byte free on =
    let undone = move_undone s r mv fits turned moves in
    after (
      ap (λ (x : ℕ). flipped (step.made s r mv).drawn (relay_of x)) (get_or-set_same log m c 0 free ∙ byte)
          ∙ undone.0,
      undone.1,
    ) (trail_set m c (omega arith) on)

-- ---- the heart: looking back from s over a trail meets s where the states do

-- where the buttons are the same, states are the same if their relays are
same_drawn : (s t : State) → t.pushed ≡ s.pushed → same_state t s ≡ eqb t.drawn s.drawn
unfolding same_state
same_drawn s t same = rw (eq-eqb t.pushed s.pushed same) (and_true (eqb t.drawn s.drawn))
  where
    and_true : (b : Bool) → (b && true) ≡ b
    and_true true = refl
    and_true false = refl

back_meets : (log : List ℕ) (s : State) (most : ℕ) {i : ℕ} {t : State} {ts : List State} → i ≤ most
    → t.pushed ≡ s.pushed → Trail log i t ts
    → back_from log most s.drawn i t.drawn ≡ met_from (suc (most - i)) s ts
unfolding back_from met_from
back_meets log s most within same begun = refl
back_meets log s most within same (after {m = m} {t = was} undone on) =
    let next : suc (most - suc m) ≡ most - m = omega (arith, within) in
    let pushed : was.pushed ≡ s.pushed = sym undone.1 ∙ same in
    rw (undone.0, next, same_drawn s was pushed)
    (ap (cond (eqb was.drawn s.drawn) (most - m)) (back_meets log s most (omega (arith, within)) pushed on))

pub back_met : (log : List ℕ) (m : ℕ) (s : State) (ss : List State) → Trail log m s ss
    → back_from log m s.drawn m s.drawn ≡ met_ago s ss
back_met log m s ss trail =
    back_meets log s m (omega arith) refl trail
    ∙ ap (λ (d : ℕ). met_from d s ss) one
  where
    one : suc (m - m) ≡ 1
    one = omega arith

-- it is no longer ago than there were moves
back-within : (log : List ℕ) (m d i w : ℕ) → back_from log m d i w ≤ m
unfolding back_from
back-within log m d zero w = omega arith
back-within log m d (suc i) w =
    by (eqb (flipped w (relay_of (get_or log i 0))) d) _ (back-within log m d i (flipped w (relay_of (get_or log i 0))))
  where
    by : (met : Bool) (n : ℕ) → n ≤ m → cond met (m - i) n ≤ m
    by true n most = omega arith
    by false n most = most

-- ---- what looking back says, and what it says as an option

ago_some : (k : ℕ) {d n : ℕ} → suc k ≡ d → n ≡ d → Some d ≡ ago_of n
ago_some k is same = rw (same, ← is) refl

-- it says that the state was met
pub ago_met : (n : ℕ) {d : ℕ} → ago_of n ≡ Some d → (d ≡ n) × (n ≡ 0 → ⊥)
ago_met zero e = absurd (none_never e)
  where
    none_never : {d : ℕ} → None ≡ Some d → ⊥
    none_never h = let z : ◌≡◌ {A = ℕ} 0 1 = cc in omega arith
ago_met (suc n) {d} e = (some_is e, λ none. omega arith)
  where
    some_is : {k : ℕ} → Some k ≡ Some d → d ≡ k
    some_is h = cc

-- or that it was not
pub ago_none : (n : ℕ) → ago_of n ≡ None → n ≡ 0
ago_none zero e = refl
ago_none (suc n) e = absurd (some_never e)
  where
    some_never : {k : ℕ} → Some k ≡ None → ⊥
    some_never h = let z : ◌≡◌ {A = ℕ} 0 1 = cc in omega arith

-- it was met within the moves made
pub met_within : (log : List ℕ) (m d i w : ℕ) {k : ℕ} → Some k ≡ ago_of (back_from log m d i w) → k ≤ m
met_within log m d i w found = omega (arith, (ago_met _ (sym found)).0, back-within log m d i w)

-- ---- for the proof of `met_ago`

-- of m moves there are i left to look back over, and w was drawn after them
pub record Looking (log : List ℕ) (m d i w : ℕ) : Type 0 where
  pub within : i ≤ m
  pub same : back_from log m d m d ≡ back_from log m d i w

module _ {log : List ℕ} {m d i j w c was : ℕ} (here : Looking log m d i w) (less : suc j ≡ i)
    (byte : c ≡ get_or log j 0)
    (back : was ≡ flipped w (relay_of c)) where
  looked : back_from log m d m d ≡ cond (eqb was d) (m - j) (back_from log m d j was)
  unfolding back_from
  looked = here.same ∙ rw (← less, back, byte) refl

  pub looking_met : was ≡ d → Some (m - j) ≡ ago_of (back_from log m d m d)
  looking_met met =
      let some : m - j ≡ suc (m - suc j) = omega (arith, here.within, less) in
      ago_some (m - suc j) (sym some) (looked ∙ rw (eq-eqb was d met) refl)

  pub looking_on : (was ≡ d → ⊥) → Looking log m d j was
  looking_on other =
      record { within = omega (arith, here.within, less); same = looked ∙ rw (ne_eqb was d other) refl }

pub looking_none : {log : List ℕ} {m d i w : ℕ} → Looking log m d i w → i ≤ 0 → None ≡ ago_of (back_from log m d m d)
unfolding back_from
looking_none {i = zero} here none = ap ago_of (sym here.same)
looking_none {i = suc i} here none = absurd (omega arith)

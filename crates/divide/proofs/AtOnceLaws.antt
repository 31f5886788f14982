-- Laws of judging without listing chains: one for each way through the functions; and of the calls, by the winding that
-- is judged; and that an answer is known by what it tells.
use Prim.Native.Nat.{ℕ, ◌≤◌, ◌<◌}
use native.Mathlib.Omega.{arith}
use mathlib.Core.Path.{◌≡◌, refl, sym, ap, ◌∙◌}
use mathlib.Core.Bool.{Bool, true, false, false≢true}
use mathlib.Core.List.{List, [], ◌∷◌}
use Rattle.std.specs.Prelude.{Option, Some, None, MatchOption, Result}
use Rattle.std.specs.Result.{IsErr, IsErrAnd}
use lib.Dec.{ltb}
use borrow.Author.Tests.{lt-ltb, le-ltb, ltb-true, ltb-false}
use Rattle.bits.proofs.BoolLaws.{by_test, by_less}
use Rattle.bits.proofs.LowestLaws.{first_found, first-before, first_absent}
use Rattle.refusals.specs.Outcomes.{Outcome, given, refused, ◌>>◌, ◌>>=◌, told, told_as}
use Rattle.refusals.specs.declared.No.{No}
use Rattle.refusals.specs.declared.Refusal.{Refusal}
use Rattle.refusals.specs.Refusals.{terminal_beyond, number_of}
use Rattle.refusals.specs.Order.{first_no, against, AsksLine}
use Rattle.refusals.proofs.OrderLaws.{asks_append}
use Rattle.refusals.proofs.LineLaws.{ends_with, line_holds, line_refuses}
use Rattle.refusals.specs.declared.No.TheVariants.{BrokenBoard, StateBeyondBoard, ForeignSets, NoSuchWinding}
use Rattle.refusals.specs.declared.No.TheVariants.{TerminalBeyond}
use Rattle.refusals.proofs.Told.{Told}
use Rattle.refusals.proofs.Tabled.{Tabled, tabled_given, tabled_both, tabled_then, TabledLines, tabled_lines}
use Rattle.board.specs.declared.Board.{Board}
use Rattle.neighbours.specs.declared.Sets.{Sets}
use Rattle.neighbours.specs.Neighbours.{neighbours, sets_of}
use Rattle.kept.specs.declared.Kept.{Kept}
use Rattle.search.specs.declared.Winding.{Winding}
use Rattle.judge.specs.declared.Which.{Which}
use Rattle.judge.specs.Judging as by-sets
use Rattle.judge.specs.Judging.{judge_lines, winding_for}
use Rattle.judge.proofs.JudgeLaws.{winding_for_lines, winding_for-kept, winding_for-tabled}
use Rattle.divide.specs.AtOnce.{divides, lowest_dividing, live, shunted, dead, judged_at_once, DividesLowest}
use Rattle.divide.specs.declared.Judgement as code-judgement
use Rattle.divide.specs.declared.Judgement.TheVariants as said
use Rattle.divide.specs.AtOnce.{Judgement, judging_at_once, check_lines, checking, told_judgement}

-- ---- the lowest that divides

-- the lowest that divides does, and none below it does; where there is none, none of the t terminals does
module _ (near : List ℕ) (t : ℕ) (v : Winding) where
  pub lowest-divides : lowest_dividing near t v < t → divides near v (lowest_dividing near t v) ≡ true
  unfolding lowest_dividing
  lowest-divides some = first_found (divides near v) t 0 (omega (arith, some))

  pub lowest-before : (y : ℕ) → y < lowest_dividing near t v → divides near v y ≡ false
  unfolding lowest_dividing
  lowest-before y before = first-before (divides near v) t 0 y (omega arith) before

  pub lowest_none : (y : ℕ) → t ≤ lowest_dividing near t v → y < t → divides near v y ≡ false
  unfolding lowest_dividing
  lowest_none y none below =
      first_absent (divides near v) t 0 y (omega (arith, none)) (omega arith) (omega (arith, below))

-- the lowest of those that divide is the first that is found from 0 up
module _ (near : List ℕ) (t : ℕ) (v : Winding) where
  pub lowest_found : (a : Option ℕ)
      → MatchOption a ((k : ℕ) → 0 ≤ k → k < t → divides near v k ≡ false)
      (λ i. (0 ≤ i) × (i < t) × (divides near v i ≡ true)
      × ((k : ℕ) → 0 ≤ k → k < i → divides near v k ≡ false))
      → DividesLowest near t v a
  lowest_found None all =
      by_less (lowest_dividing near t v) t
      (λ some. absurd (false≢true (sym (all _ (omega arith) some) ∙ lowest-divides near t v some)))
      (λ past. rw (le-ltb (lowest_dividing near t v) t past) refl)
  lowest_found (Some i) (from, below, on, none) =
      let same : i ≡ lowest_dividing near t v =
      by_less (lowest_dividing near t v) i
      (λ earlier. absurd (false≢true (sym (none _ (omega arith) earlier)
      ∙ lowest-divides near t v (omega (arith, earlier, below)))))
      (λ most. by_less i (lowest_dividing near t v)
      (λ later. absurd (false≢true (sym (lowest-before near t v i later) ∙ on)))
      (λ least. omega (arith, most, least))) in
      rw (← same, lt-ltb i t below) refl

  -- by the answer, whether one of the t terminals divides
  lowest_some : (x : ℕ) → DividesLowest near t v (Some x) → (x < t) × (x ≡ lowest_dividing near t v)
  lowest_some x is =
      by_test (ltb (lowest_dividing near t v) t)
      (λ below.
      let found : Some x ≡ Some (lowest_dividing near t v) = rw below at is in
      let same : x ≡ lowest_dividing near t v = cc in
      (omega (arith, same, ltb-true (lowest_dividing near t v) t below), same))
      (λ past. let found : Some x ≡ None = rw past at is in absurd cc)

  lowest_lacks : DividesLowest near t v None → t ≤ lowest_dividing near t v
  lowest_lacks is =
      by_test (ltb (lowest_dividing near t v) t)
      (λ below. let found : None ≡ Some (lowest_dividing near t v) = rw below at is in absurd cc)
      (λ past. ltb-false (lowest_dividing near t v) t past)

-- ---- the judgement by the sets

module _ (k : Sets) (t : ℕ) (v : Winding) where
  pub told-shunted : by-sets.shunted k v ≡ true → shunted ≡ judged_at_once k t v
  unfolding judged_at_once
  told-shunted is = rw is refl

  module _ (x : ℕ) (off : by-sets.shunted k v ≡ false) (lowest : x ≡ lowest_dividing k.near t v) where
    pub told_dead : x < t → dead x ≡ judged_at_once k t v
    unfolding judged_at_once
    told_dead below = rw (off, ← lowest, lt-ltb x t below) refl

    pub told_live : t ≤ x → live ≡ judged_at_once k t v
    unfolding judged_at_once
    told_live past = rw (off, ← lowest, le-ltb x t past) refl

  -- so by the terminal that is found, or none
  module _ (off : by-sets.shunted k v ≡ false) where
    pub found_dead : (x : ℕ) → DividesLowest k.near t v (Some x) → dead x ≡ judged_at_once k t v
    found_dead x is =
        let found = lowest_some k.near t v x is in
        told_dead x off found.1 found.0

    pub found_none : DividesLowest k.near t v None → live ≡ judged_at_once k t v
    found_none is = told_live (lowest_dividing k.near t v) off refl (lowest_lacks k.near t v is)

-- ---- the calls

module _ (b : Board) (h : Kept) (r : ℕ) (n : Which) where
  pub judging_of : (v : Winding) → winding_for b h r n ≡ given v
      → given (judged_at_once (sets_of b h.state) b.counts.terminals v) ≡ judging_at_once b h r n
  unfolding judging_at_once
  judging_of v is = rw is refl

  -- so by the kept sets
  pub judging-told : (v : Winding) (j : Judgement) → given v ≡ winding_for b h r n
      → j ≡ judged_at_once h.sets b.counts.terminals v → given j ≡ judging_at_once b h r n
  judging-told v j is said =
      ap given said
      ∙ ap (λ (k : Sets). given (judged_at_once k b.counts.terminals v)) (winding_for-kept b h r n v (sym is))
      ∙ judging_of v (sym is)

  pub judging_refused : (e : Refusal) (a : Result code-judgement.Judgement Refusal)
      → refused (number_of e.no) e.place ≡ winding_for b h r n → IsErr a × IsErrAnd a (λ (y : Refusal). y ≡ e)
      → told_as told_judgement a ≡ judging_at_once b h r n
  unfolding judging_at_once
  judging_refused e a is ends = ap (told_as told_judgement) (ends_with a e ends) ∙ rw (← is) refl

  -- 19 is asked after all of these
  module _ (x : ℕ) where
    abbrev asked_for : Outcome Winding → Outcome Bool
    asked_for o =
        against o >> first_no ((ltb x b.counts.terminals, terminal_beyond) ∷ []) >> o
        >>= λ v. given (divides (neighbours b h.state) v x)

    checking_by : (o : Outcome Winding) → winding_for b h r n ≡ o → asked_for o ≡ checking b h r n x
    unfolding checking
    checking_by o is =
        ap asked_for (sym is)
        ∙ ap (λ (q : Outcome (Unit {0})). q >> first_no ((ltb x b.counts.terminals, terminal_beyond) ∷ [])
        >> winding_for b h r n >>= λ v. given (divides (neighbours b h.state) v x)) (winding_for_lines b h r n)
        ∙ ap
        (λ (q : Outcome (Unit {0})). q >> winding_for b h r n >>= λ v. given (divides (neighbours b h.state) v x))
        (sym (asks_append (judge_lines b h r n) ((ltb x b.counts.terminals, terminal_beyond) ∷ [])))

    pub checking_refused : (m p : ℕ) → winding_for b h r n ≡ refused m p → refused m p ≡ checking b h r n x
    checking_refused m p is = checking_by (refused m p) is

    pub checking_left : (e : Refusal) (a : Result Bool Refusal)
        → refused (number_of e.no) e.place ≡ winding_for b h r n → IsErr a × IsErrAnd a (λ (y : Refusal). y ≡ e)
        → told a ≡ checking b h r n x
    checking_left e a is ends = ap told (ends_with a e ends) ∙ checking_refused (number_of e.no) e.place (sym is)

    module _ (v : Winding) (is : winding_for b h r n ≡ given v) where
      pub checking-beyond : b.counts.terminals ≤ x → refused terminal_beyond 0 ≡ checking b h r n x
      unfolding first_no
      checking-beyond past =
          sym (rw (le-ltb x b.counts.terminals past) refl) ∙ checking_by (given v) is

      pub checking_of : x < b.counts.terminals → given (divides (neighbours b h.state) v x) ≡ checking b h r n x
      unfolding first_no
      checking_of below = sym (rw (lt-ltb x b.counts.terminals below) refl) ∙ checking_by (given v) is

    -- by the kept sets; y is the number of terminals
    module _ (v : Winding) (y : ℕ) (is : given v ≡ winding_for b h r n) (at : y ≡ b.counts.terminals) where
      pub checking-ends : (e : No) (a : Result Bool Refusal) → AsksLine (ltb x y) TerminalBeyond (Result.Err e)
          → IsErr a × IsErrAnd a (λ (z : Refusal). z ≡ record { no = e; place = 0 }) → told a ≡ checking b h r n x
      checking-ends e a asked ended =
          let ends = line_refuses (ltb x y) TerminalBeyond e a asked ended in
          ends.1 ∙ checking-beyond v (sym is) (omega (arith, at, ltb-false x y ends.0))

      pub checking_given : (u : Unit {0}) (t : Bool) → AsksLine (ltb x y) TerminalBeyond (Result.Ok u)
          → t ≡ divides h.sets.near v x → given t ≡ checking b h r n x
      checking_given u t asked so =
          ap given so
          ∙ ap (λ (k : Sets). given (divides k.near v x)) (winding_for-kept b h r n v (sym is))
          ∙ checking_of v (sym is) (omega (arith, at, ltb-true x y (line_holds (ltb x y) TerminalBeyond u asked)))

-- ---- answers and what they tell

pub judgement-told : Told told_judgement
judgement-told = record { untold = untold; back = back; onto = onto }
  where
    untold : Judgement → code-judgement.Judgement
    untold live = said.Live
    untold shunted = said.Shunted
    untold (dead x) = said.Dead x

    back : (x : code-judgement.Judgement) → untold (told_judgement x) ≡ x
    back said.Live = refl
    back said.Shunted = refl
    back (said.Dead x) = refl

    onto : (j : Judgement) → told_judgement (untold j) ≡ j
    onto live = refl
    onto shunted = refl
    onto (dead x) = refl

pub judging_at_once-tabled : (b : Board) (h : Kept) (r : ℕ) (n : Which) → Tabled (judging_at_once b h r n)
unfolding judging_at_once
judging_at_once-tabled b h r n =
    tabled_then (winding_for b h r n) _ (winding_for-tabled b h r n) (λ v. tabled_given _)

pub checking-tabled : (b : Board) (h : Kept) (r : ℕ) (n : Which) (x : ℕ) → Tabled (checking b h r n x)
unfolding checking TabledLines
checking-tabled b h r n x =
    tabled_then _ _
    (tabled_both _ _
    (tabled_lines (check_lines b h r n x) (
      (BrokenBoard, refl),
      (
        (StateBeyondBoard, refl),
        ((ForeignSets, refl), ((NoSuchWinding, refl), ((TerminalBeyond, refl), tt))),
      ),
    ))
    (winding_for-tabled b h r n))
    (λ v. tabled_given _)

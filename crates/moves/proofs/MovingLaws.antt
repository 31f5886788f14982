-- Laws of the single move as a call: what stands against it, 15, 14, 18 or 11, in that order, and what it comes to
-- where nothing does; and that an answer is known by what it tells.
use Prim.Native.Nat.{ℕ, ◌≤◌, ◌<◌}
use native.Mathlib.Omega.{arith}
use mathlib.Core.Path.{◌≡◌, refl, sym, ap, ◌∙◌}
use mathlib.Core.Bool.{Bool, true, false}
use lib.Dec.{ltb}
use borrow.Author.Tests.{le-ltb, ltb-true, ltb-false}
use Rattle.refusals.specs.declared.No.{No}
use Rattle.refusals.specs.declared.No.TheVariants.{NoSuchWinding, StateBeyondBoard, BrokenBoard, ForeignSets}
use Rattle.refusals.specs.Outcomes.{Outcome, given, refused, ◌>>◌, unless}
use Rattle.refusals.specs.Refusals.{number_of, no_such_winding}
use Rattle.refusals.proofs.OutcomeLaws.{refused_never, both_given, asked}
use Rattle.refusals.proofs.OrderLaws.{asks_first}
use Rattle.refusals.proofs.Told.{Told}
use Rattle.refusals.proofs.Tabled.{Tabled, gives, refuses, tabled_given, TabledLines, tabled_lines}
use Rattle.refusals.proofs.Tabled.{Tells, result-tells_as, beside-tells}
use Rattle.board.specs.declared.Board.{Board}
use Rattle.board.specs.Rules.{board_fine}
use Rattle.state.specs.States.{state_fine}
use Rattle.kept.specs.declared.Kept.{Kept}
use Rattle.kept.specs.Kept.{kept_at, usable, left}
use Rattle.kept.proofs.KeptLaws.{kept_sets, usable_given, usable_lines_lem, usable_next}
use Rattle.moves.specs.declared.Move as code-move
use Rattle.moves.specs.declared.Move.TheVariants.{Drew, Dropped, Rests, Conflict}
use Rattle.moves.specs.Steps.{Move, drew, dropped, rests, conflict, step_by, step_of, made, kept_made}
use Rattle.moves.specs.Steps.{told_move}
use Rattle.moves.specs.Moving.{move_lines, movable, moving, told_move_answer, told_moved}
use Rattle.moves.proofs.StepLaws.{step_by_lem, kept_made_lem}

module _ (b : Board) (h : Kept) (r : ℕ) where
  -- 11 is asked after 15, 14 and 18
  movable_next : movable b h r ≡ (usable b h >> unless (ltb r b.counts.relays) no_such_winding 0)
  unfolding movable
  movable_next =
      usable_lines_lem b h _ ∙ ap (λ (o : Outcome (Unit {0})). usable b h >> o) (asks_first _ no_such_winding)

  pub movable_unusable : {k p : ℕ} → usable b h ≡ refused k p → movable b h r ≡ refused k p
  movable_unusable off = movable_next ∙ rw off refl

  pub movable_there : usable b h ≡ given tt → ltb r b.counts.relays ≡ true → movable b h r ≡ given tt
  movable_there fine below = movable_next ∙ rw (fine, below) refl

  pub movable_past : usable b h ≡ given tt → ltb r b.counts.relays ≡ false → movable b h r ≡ refused no_such_winding 0
  movable_past fine past = movable_next ∙ rw (fine, past) refl

  pub movable_lacking : usable b h ≡ given tt → b.counts.relays ≤ r → movable b h r ≡ refused no_such_winding 0
  movable_lacking fine past = movable_past fine (le-ltb r b.counts.relays past)

  -- where a relay is moved, the board breaks no rule, the state fits it, the sets belong to both and the relay is there
  pub movable_given : movable b h r ≡ given tt → (usable b h ≡ given tt) × (r < b.counts.relays)
  movable_given taken =
      let both = both_given (usable b h) _ tt (sym movable_next ∙ taken) in
      (both.0, ltb-true r b.counts.relays (asked (ltb r b.counts.relays) no_such_winding 0 both.1))

  pub movable_fine : movable b h r ≡ given tt → (board_fine b ≡ true) × (state_fine b.counts h.state ≡ true)
      × (r < b.counts.relays)
  movable_fine taken =
      let both = movable_given taken in
      let fine = usable_given b h both.0 in (fine.0, fine.1, both.1)

  pub movable-kept : movable b h r ≡ given tt → h ≡ kept_at b h.state
  movable-kept taken = (usable_given b h (movable_given taken).0).2

  -- where 11 is given, neither 15 nor 14 nor 18 holds, and the relay is not there
  pub movable_eleven : movable b h r ≡ refused no_such_winding 0 → (usable b h ≡ given tt) × (b.counts.relays ≤ r)
  movable_eleven is =
      let next = usable_next b h (unless (ltb r b.counts.relays) no_such_winding 0) no_such_winding 0
      (λ e. omega arith) (λ e. omega arith) (λ e. omega arith) (sym movable_next ∙ is) in
      (next.0, past (ltb r b.counts.relays) refl next.1)
    where
      past : (t : Bool) → ltb r b.counts.relays ≡ t → unless t no_such_winding 0 ≡ refused no_such_winding 0
          → b.counts.relays ≤ r
      past true below refusal = absurd (refused_never no_such_winding 0 tt (sym refusal))
      past false beyond refusal = ltb-false r b.counts.relays beyond

  pub moving_refused : (k p : ℕ) → movable b h r ≡ refused k p → (h, refused k p) ≡ moving b h r
  unfolding moving left
  moving_refused k p e = rw e refl

  pub moving_given : (m : Move) → movable b h r ≡ given tt → m ≡ step_of b h.state r
      → (kept_at b (made h.state r m), given m) ≡ moving b h r
  unfolding moving left
  moving_given m e is = rw (e, is) refl

  -- by the step m that the kept sets let see, and what is kept after it
  pub moving_moved : (m : Move) (t : Kept) → movable b h r ≡ given tt
      → m ≡ step_by h.sets b h.state r → t ≡ kept_made b h r m → (t, given m) ≡ moving b h r
  moving_moved m t e is leaves =
      let own = movable-kept e in
      ap (λ (k : Kept). (k, given m)) (leaves ∙ kept_made_lem b h r m own)
      ∙ moving_given m e (step_by_lem b h.state r h.sets m (kept_sets b h own) is)

-- ---- answers and what they tell

pub move-told : Told told_move
move-told = record { untold = untold; back = back; onto = onto }
  where
    untold : Move → code-move.Move
    untold drew = Drew
    untold dropped = Dropped
    untold rests = Rests
    untold conflict = Conflict

    back : (x : code-move.Move) → untold (told_move x) ≡ x
    back Drew = refl
    back Dropped = refl
    back Rests = refl
    back Conflict = refl

    onto : (y : Move) → told_move (untold y) ≡ y
    onto drew = refl
    onto dropped = refl
    onto rests = refl
    onto conflict = refl

pub moved-tells : Tells {B = Kept × Outcome Move} (λ y. Tabled y.1) told_moved
moved-tells =
    beside-tells told_move_answer (result-tells_as told_move move-told) (λ h a. record { kept = h; answer = a })
    (λ x. x.kept) (λ x. x.answer) (λ x. refl) (λ s a. refl)

-- what a move can be refused by stands in the table
movable-tabled : (b : Board) (h : Kept) (r : ℕ) → Tabled (movable b h r)
unfolding movable TabledLines
movable-tabled b h r =
    tabled_lines (move_lines b h r)
    ((BrokenBoard, refl), ((StateBeyondBoard, refl), ((ForeignSets, refl), ((NoSuchWinding, refl), tt))))

pub moving-tabled : (b : Board) (h : Kept) (r : ℕ) → Tabled (moving b h r).1
unfolding moving left
moving-tabled b h r = by (movable b h r) (movable-tabled b h r)
  where
    table_number : (k p : ℕ) (n : No) (q : ℕ) → ◌≡◌ {A = Outcome (Unit {0})} (refused k p) (refused (number_of n) q)
        → ◌≡◌ {A = Outcome Move} (refused k p) (refused (number_of n) q)
    table_number k p n q is = ap (λ (o : Outcome (Unit {0})). o >> given drew) is

    by : (o : Outcome (Unit {0})) → Tabled o
        → Tabled (left h (λ m. kept_at b (made h.state r m)) (o >> given (step_of b h.state r))).1
    by (given u) tabled = tabled_given _
    by (refused k p) (gives u is) = absurd (refused_never k p u is)
    by (refused k p) (refuses n q is) = refuses n q (table_number k p n q is)

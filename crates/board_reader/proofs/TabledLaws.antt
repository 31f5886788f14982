-- Reading is refused by numbers of the table alone.
use Prim.Native.Nat.{ℕ, zero, suc}
use mathlib.Core.Path.{refl, sym, subst}
use mathlib.Core.Bool.{Bool, true, false, cond}
use mathlib.Core.List.{List}
use lib.Dec.{eqb}
use Rattle.refusals.specs.declared.No.{No}
use Rattle.refusals.specs.declared.No.TheVariants.{OutOfRange, NoSuchKind, NoSuchTerminal, EndsEqual, NoSuchName}
use Rattle.refusals.specs.declared.No.TheVariants.{WindingTaken, WindingLacking, InputTooLong, MarkedTwice}
use Rattle.refusals.specs.declared.Found.{Found}
use Rattle.refusals.specs.Refusals.{number_of}
use Rattle.refusals.specs.Outcomes.{Outcome}
use Rattle.refusals.proofs.Tabled.{Tabled, gives, refuses, tabled_given, tabled_then, tabled_both, tabled-unless}
use Rattle.number.proofs.NumberLaws.{number_tabled}
use Rattle.windings.specs.declared.WoundSoFar.{WoundSoFar}
use Rattle.kinds.specs.Kinds.{wire_kind, mark_kind}
use Rattle.windings.specs.Windings.{none_wound, gained}
use Rattle.board.specs.declared.Counts.{Counts}
use Rattle.board.specs.declared.Board.{Board}
use Rattle.board_reader.specs.Editions.{Edition}
use Rattle.board_reader.specs.Reading.{wanted, counts_at, name_at, ends_at, part_at, parts_at, board_from}
use Rattle.board_reader.specs.Reading.{board_at, answered, reading}

cond_tabled : {A : Type 0} (t : Bool) (o q : Outcome A) → Tabled o → Tabled q → Tabled (cond t o q)
cond_tabled true o q first second = first
cond_tabled false o q first second = second

module _ (e : Edition) (s : List ℕ) where
  pub wanted_tabled : (ok : ℕ → Bool) (k : No) (at : ℕ) → Tabled (wanted e ok (number_of k) s at)
  unfolding wanted
  wanted_tabled ok k at =
      tabled_then _ _ (number_tabled e.width s at)
      (λ v. tabled_both _ _ (tabled-unless k (ok v.value) at) (tabled_given v))

  counts_tabled : Tabled (counts_at e s)
  unfolding counts_at
  counts_tabled =
      tabled_then _ _ (wanted_tabled _ OutOfRange 0)
      (λ t. tabled_then _ _ (wanted_tabled _ OutOfRange t.next)
      (λ r. tabled_then _ _ (wanted_tabled _ OutOfRange r.next)
      (λ b. tabled_then _ _ (wanted_tabled _ OutOfRange b.next) (λ c. tabled_given _))))

  module _ (c : Counts) where
    name_tabled : (k at : ℕ) → Tabled (name_at e c k s at)
    unfolding name_at
    name_tabled k at = cond_tabled (eqb k wire_kind) _ _ (tabled_given _) (wanted_tabled _ NoSuchName at)

    ends_tabled : (k at : ℕ) → Tabled (ends_at e c k s at)
    unfolding ends_at
    ends_tabled k at =
        cond_tabled (eqb k mark_kind) _ _ (tabled_given _)
        (tabled_then _ _ (wanted_tabled _ NoSuchTerminal at)
        (λ a. tabled_then _ _ (wanted_tabled _ NoSuchTerminal a.next)
        (λ b. tabled_both _ _ (tabled-unless EndsEqual _ a.next) (tabled_given _))))

    part_tabled : (w : WoundSoFar) (at : ℕ) → Tabled (part_at e c w s at)
    unfolding part_at
    part_tabled w at =
        tabled_then _ _ (wanted_tabled _ NoSuchKind at)
        (λ k. tabled_then _ _ (ends_tabled k.value k.next)
        (λ ends. tabled_then _ _ (name_tabled k.value ends.next)
        (λ n. tabled_both _ _ (tabled-unless WindingTaken _ ends.next)
        (tabled_both _ _ (tabled-unless MarkedTwice _ ends.next) (tabled_given _)))))

    parts_tabled : (n : ℕ) (w : WoundSoFar) (at : ℕ) → Tabled (parts_at e c n w s at)
    unfolding parts_at
    parts_tabled zero w at = tabled_given _
    parts_tabled (suc n) w at =
        tabled_then _ _ (part_tabled w at)
        (λ p. tabled_then _ _ (parts_tabled n (gained w p.value.kind) p.next) (λ ps. tabled_given _))

  board_tabled : Tabled (board_at e s)
  unfolding board_at board_from
  board_tabled =
      tabled_then _ _ counts_tabled
      (λ c. tabled_then _ _ (parts_tabled c.value c.value.parts none_wound c.next)
      (λ ps. tabled_both _ _ (tabled-unless WindingLacking _ ps.next) (tabled_given _)))

  answered_tabled : (o : Outcome (Found Board)) → Tabled o → Tabled (answered o).1
  unfolding answered
  answered_tabled o (gives f is) = subst (λ (x : Outcome (Found Board)). Tabled (answered x).1) (sym is)
      (tabled_given f.next)
  answered_tabled o (refuses k p is) =
      subst (λ (x : Outcome (Found Board)). Tabled (answered x).1) (sym is) (refuses k p refl)

  pub reading_tabled : Tabled (reading e s).1
  unfolding reading
  reading_tabled = answered_tabled _ (tabled_both _ _ (tabled-unless InputTooLong _ 0) board_tabled)

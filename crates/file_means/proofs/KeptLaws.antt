-- What reading keeps from one edition to another, unless it was refused by a number n: every definition of reading is a
-- row of numbers, so it is enough to know this of a number and of a kind.
--     Changed n old new    what a number, and a kind, comes to by the edition old it comes to by the edition new,
--                          unless it was refused by n
use Prim.Native.Nat.{ℕ, zero, suc}
use native.Mathlib.Omega.{arith}
use mathlib.Core.Path.{◌≡◌, refl, sym, ap, ◌∙◌}
use mathlib.Core.Bool.{Bool, true, false, cond}
use mathlib.Core.List.{List}
use lib.Dec.{ltb, leb, eqb}
use lib.ListN.{length}
use Rattle.bits.proofs.BoolLaws.{by_test}
use Rattle.refusals.specs.declared.Found.{Found}
use Rattle.refusals.specs.Outcomes.{Outcome, given, refused, found}
use Rattle.refusals.specs.Refusals.{bad_form, no_such_kind, no_such_name, input_too_long}
use Rattle.refusals.proofs.Kept.{Kept, stands, was_refused, kept_then, kept-unless, kept_looser}
use Rattle.number.specs.Numbers.{current_width, number_at}
use Rattle.number.proofs.WiderLaws.{number-kept, three_bytes_wider}
use Rattle.kinds.specs.Kinds.{wire_kind, mark_kind}
use Rattle.windings.specs.declared.WoundSoFar.{WoundSoFar}
use Rattle.windings.specs.Windings.{none_wound}
use Rattle.board.specs.declared.Counts.{Counts}
use Rattle.board.specs.declared.Board.{Board}
use Rattle.board.specs.Rules.{in_range, limit_of}
use Rattle.board_reader.specs.Editions.{Edition, three_byte_edition, first_edition, current_edition}
use Rattle.board_reader.specs.Reading.{wanted, counts_at, name_at, ends_at, part_at, parts_at, board_from, board_at}
use Rattle.board_reader.specs.Reading.{longest_input, answered, reading}
use Rattle.board_reader.proofs.FieldLaws.{range-within, range_bounds}
use Rattle.board_reader.proofs.ReadLaws.{board_within, reading_answers}

pub record Changed (n : ℕ) (old new : Edition) : Type 0 where
  pub numbers : (s : List ℕ) (at : ℕ) → Kept n (number_at old.width s at) (number_at new.width s at)
  pub kinds : (s : List ℕ) (at : ℕ) → Kept n
      (wanted old (in_range 0 old.last_kind) no_such_kind s at)
      (wanted new (in_range 0 new.last_kind) no_such_kind s at)

-- request A1: a number's answer stands unless it was 2
pub first_changed : Changed bad_form three_byte_edition first_edition
unfolding wanted
first_changed =
    let numbers = number-kept three_byte_edition.width first_edition.width three_bytes_wider in
    record { numbers = numbers; kinds = λ s at. kept_then _ _ (numbers s at) (λ v. stands refl) }

-- request A2: a kind's answer stands unless it was 4
pub second_changed : Changed no_such_kind first_edition current_edition
unfolding wanted
second_changed =
    record {
      numbers = λ s at. stands refl;
      kinds = λ s at. kept_then (number_at current_width s at) (number_at current_width s at) (stands refl)
          (λ (k : Found ℕ). kept_looser (in_range 0 first_edition.last_kind k.value) _ at (given k)
          (λ fine. range-within 0 current_edition.last_kind k.value (omega arith)
          (omega (arith, (range_bounds 0 first_edition.last_kind k.value fine).1))));
    }

module _ {n : ℕ} (old new : Edition) (more : Changed n old new) (s : List ℕ) where
  pub wanted-kept : (ok : ℕ → Bool) (m at : ℕ) → Kept n (wanted old ok m s at) (wanted new ok m s at)
  unfolding wanted
  wanted-kept ok m at = kept_then _ _ (more.numbers s at) (λ v. stands refl)

  counts-kept : Kept n (counts_at old s) (counts_at new s)
  unfolding counts_at
  counts-kept =
      kept_then _ _ (wanted-kept _ _ _)
      (λ t. kept_then _ _ (wanted-kept _ _ _)
      (λ r. kept_then _ _ (wanted-kept _ _ _)
      (λ b. kept_then _ _ (wanted-kept _ _ _) (λ c. stands refl))))

  name-kept : (c : Counts) (k at : ℕ) → Kept n (name_at old c k s at) (name_at new c k s at)
  unfolding name_at
  name-kept c k at = by (eqb k wire_kind)
    where
      by : (wire : Bool) → Kept n
          (cond wire (found 0 at) (wanted old (λ v. ltb v (limit_of c k)) no_such_name s at))
          (cond wire (found 0 at) (wanted new (λ v. ltb v (limit_of c k)) no_such_name s at))
      by true = stands refl
      by false = wanted-kept _ _ _

  ends-kept : (c : Counts) (k at : ℕ) → Kept n (ends_at old c k s at) (ends_at new c k s at)
  unfolding ends_at
  ends-kept c k at =
      by_test (eqb k mark_kind)
      (λ mark. rw mark (stands refl))
      (λ joins. rw joins
      (kept_then _ _ (wanted-kept _ _ _)
      (λ a. kept_then _ _ (wanted-kept _ _ _) (λ b. stands refl))))

  part-kept : (c : Counts) (x : WoundSoFar) (at : ℕ) → Kept n (part_at old c x s at) (part_at new c x s at)
  unfolding part_at
  part-kept c x at =
      kept_then _ _ (more.kinds s at)
      (λ k. kept_then _ _ (ends-kept c k.value k.next)
      (λ ends. kept_then _ _ (name-kept c k.value ends.next) (λ v. stands refl)))

  parts-kept : (c : Counts) (m : ℕ) (x : WoundSoFar) (at : ℕ)
      → Kept n (parts_at old c m x s at) (parts_at new c m x s at)
  unfolding parts_at
  parts-kept c zero x at = stands refl
  parts-kept c (suc m) x at =
      kept_then _ _ (part-kept c x at)
      (λ p. kept_then _ _ (parts-kept c m _ p.next) (λ ps. stands refl))

  board-kept : Kept n (board_at old s) (board_at new s)
  unfolding board_at board_from
  board-kept =
      kept_then _ _ counts-kept
      (λ c. kept_then _ _ (parts-kept c.value c.value.parts none_wound c.next) (λ ps. stands refl))

  pub board-within-kept : Kept n (board_within old s) (board_within new s)
  board-within-kept = kept-unless (leb (length s) longest_input) input_too_long 0 board-kept

  -- what reading answers stands unless it was n
  pub only_by : ((p : ℕ) → ¬ ((reading old s).1 ≡ refused n p)) → reading new s ≡ reading old s
  unfolding answered
  only_by never = by board-within-kept
    where
      by : Kept n (board_within old s) (board_within new s) → reading new s ≡ reading old s
      by (stands same) = reading_answers new s same ∙ sym (reading_answers old s refl)
      by (was_refused p is) = absurd (never p (ap (λ (x : Board × Outcome ℕ). x.1) (reading_answers old s is)))

-- Laws of settings: what the code makes of both ways of each button is the table of all settings, in order, and each of
-- them is a run that makes no more moves than it has room for.
use Prim.Native.Nat.{ℕ, zero, suc, ◌+◌, ◌^◌, ◌<◌, ◌≤◌}
use native.Mathlib.Omega.{arith}
use native.Mathlib.Nat.{pow-suc}
use mathlib.Core.Path.{◌≡◌, refl, sym, ap, ap₂, ◌∙◌}
use mathlib.Core.Bool.{false}
use mathlib.Core.List.{List, [], ◌++◌}
use lib.ListN.{length, length-append}
use Rattle.bits.specs.Sets.{room, including}
use Rattle.bits.proofs.SetLaws.{including_new, member-including_other, member_none}
use Rattle.lists.specs.Members.{All}
use Rattle.lists.specs.Tables.{table_from}
use Rattle.lists.proofs.MemberLaws.{all_append}
use Rattle.lists.proofs.TableLaws.{table-append}
use Rattle.board.specs.declared.Board.{Board}
use Rattle.state.specs.declared.State.{State}
use Rattle.state.specs.States.{fresh_state, is_pushed, with_pushed}
use Rattle.moves.specs.Steps.{step_of}
use Rattle.runs.specs.Running.{run_on}
use Rattle.runs.proofs.RunLaws.{run_goes, goes-room}
use Rattle.report.specs.Settings.{all_runs}
use Rattle.report.specs.Figures.{moves_in}
use Rattle.report.specs.BothWays.{both_ways}

twice : (k : ℕ) → 2 ^ suc k ≡ 2 ^ k + 2 ^ k
twice k = omega (arith, pow-suc 2 k)

-- the state s with the buttons of p pushed
abbrev with_buttons : State → ℕ → State
with_buttons s p = record { drawn = s.drawn; pushed = p }

module _ {A : Type 0} (f : State → A) where
  both_ways_table : (k : ℕ) (s : State) → k ≤ room → ((n : ℕ) → n < k → is_pushed s n ≡ false)
      → both_ways f k s ≡ table_from (λ p. f (with_buttons s p)) (2 ^ k) s.pushed
  unfolding both_ways table_from
  both_ways_table zero s fits free = refl
  both_ways_table (suc k) s fits free =
      let pushed : including s.pushed k ≡ s.pushed + 2 ^ k =
      including_new s.pushed k (omega arith) (free k (omega arith)) in
      let later : (n : ℕ) → n < k → is_pushed (with_pushed s k) n ≡ false =
      λ n below.
      member-including_other s.pushed k n (λ same. omega (arith, same, below)) ∙ free n (omega arith) in
      ap₂ (λ (xs ys : List A). xs ++ ys)
      (both_ways_table k s (omega arith) (λ n below. free n (omega arith)))
      (both_ways_table k (with_pushed s k) (omega arith) later
      ∙ ap (table_from (λ p. f (with_buttons s p)) (2 ^ k)) pushed)
      ∙ table-append (λ p. f (with_buttons s p)) (2 ^ k) (2 ^ k) s.pushed
      ∙ ap (λ (m : ℕ). table_from (λ p. f (with_buttons s p)) m s.pushed) (sym (twice k))

  pub both_ways-length : (k : ℕ) (s : State) → length (both_ways f k s) ≡ 2 ^ k
  unfolding both_ways
  both_ways-length zero s = refl
  both_ways-length (suc k) s =
      omega (
        arith,
        length-append (both_ways f k s) (both_ways f k (with_pushed s k)),
        both_ways-length k s,
        both_ways-length k (with_pushed s k),
        twice k,
      )

  pub both_ways_all : (P : A → Type 0) → ((s : State) → P (f s)) → (k : ℕ) (s : State) → All P (both_ways f k s)
  unfolding both_ways
  both_ways_all P each zero s = (each s, tt)
  both_ways_all P each (suc k) s =
      all_append P (both_ways f k s) (both_ways f k (with_pushed s k)) (both_ways_all P each k s)
      (both_ways_all P each k (with_pushed s k))

-- ---- the runs of a board

pub all_runs-both_ways : (b : Board) (n : ℕ) → b.counts.buttons ≤ room
    → both_ways (run_on b n) b.counts.buttons (fresh_state b) ≡ all_runs b n
unfolding all_runs
all_runs-both_ways b n fits =
    both_ways_table (run_on b n) b.counts.buttons (fresh_state b) fits (λ k below. member_none k)

pub run_room : (b : Board) (n : ℕ) (s : State) → moves_in (run_on b n s) ≤ n
run_room b n s = goes-room (run_goes (step_of b) b.counts.relays [] n s)

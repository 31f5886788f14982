-- The laws of a board's state: what each method changes and leaves, and which states a board takes.
-- The crates above cite these, and nothing of the definitions' text.
use Prim.Native.Nat.{ℕ, ◌<◌}
use mathlib.Core.Path.{◌≡◌, refl}
use mathlib.Core.Bool.{true, false}
use Rattle.bits.specs.Sets.{room, within}
use Rattle.bits.proofs.SetLaws.{member-including-same, member-including_other, member-excluding-same}
use Rattle.bits.proofs.SetLaws.{member-excluding_other, within-member, member-within, within_none, within-including}
use Rattle.bits.proofs.SetLaws.{within-excluding}
use Rattle.board.specs.declared.Counts.{Counts}
use Rattle.board.specs.declared.Board.{Board}
use Rattle.board.specs.Rules.{board_fine}
use Rattle.board.proofs.FineLaws.{fine_start_below}
use Rattle.bits.proofs.BoolLaws.{both_true, true_both}
use Rattle.state.specs.declared.State.{State}
use Rattle.state.specs.States.{fresh_state, is_drawn, is_pushed, with_drawn, with_dropped, with_pushed, with_released}
use Rattle.state.specs.States.{state_fine}
use Rattle.state.specs.Fourteen.{MembersBelow}

-- ---- a method changes its own relay or button and nothing else

module _ (s : State) (r : ℕ) where
  pub drawn_draw : r < room → is_drawn (with_drawn s r) r ≡ true
  drawn_draw fits = member-including-same s.drawn r fits

  pub drawn_draw_other : (q : ℕ) → (q ≡ r → ⊥) → is_drawn (with_drawn s r) q ≡ is_drawn s q
  drawn_draw_other q other = member-including_other s.drawn r q other

  pub pushed_draw : (b : ℕ) → is_pushed (with_drawn s r) b ≡ is_pushed s b
  pushed_draw b = refl

  pub drawn-drop : is_drawn (with_dropped s r) r ≡ false
  drawn-drop = member-excluding-same s.drawn r

  pub drawn-drop_other : (q : ℕ) → (q ≡ r → ⊥) → is_drawn (with_dropped s r) q ≡ is_drawn s q
  drawn-drop_other q other = member-excluding_other s.drawn r q other

  pub pushed-drop : (b : ℕ) → is_pushed (with_dropped s r) b ≡ is_pushed s b
  pushed-drop b = refl

module _ (s : State) (b : ℕ) where
  pub pushed_push : b < room → is_pushed (with_pushed s b) b ≡ true
  pushed_push fits = member-including-same s.pushed b fits

  pub pushed_push_other : (q : ℕ) → (q ≡ b → ⊥) → is_pushed (with_pushed s b) q ≡ is_pushed s q
  pushed_push_other q other = member-including_other s.pushed b q other

  pub drawn_push : (r : ℕ) → is_drawn (with_pushed s b) r ≡ is_drawn s r
  drawn_push r = refl

  pub pushed_release : is_pushed (with_released s b) b ≡ false
  pushed_release = member-excluding-same s.pushed b

  pub pushed_release_other : (q : ℕ) → (q ≡ b → ⊥) → is_pushed (with_released s b) q ≡ is_pushed s q
  pushed_release_other q other = member-excluding_other s.pushed b q other

  pub drawn_release : (r : ℕ) → is_drawn (with_released s b) r ≡ is_drawn s r
  drawn_release r = refl

-- ---- a state fits a board exactly if every drawn relay is below R and every pushed button below B

both-within : (c : Counts) (s : State) → state_fine c s ≡ true → (within s.drawn c.relays ≡ true)
    × (within s.pushed c.buttons ≡ true)
unfolding state_fine
both-within c s fine = both_true _ _ fine

within_both : (c : Counts) (s : State) → within s.drawn c.relays ≡ true
    → within s.pushed c.buttons ≡ true → state_fine c s ≡ true
unfolding state_fine
within_both c s drawn pushed = true_both drawn pushed

pub state_fits_members : (c : Counts) (s : State) → state_fine c s ≡ true → MembersBelow c s
state_fits_members c s fine = record {
  drawn_below = λ r. within-member s.drawn c.relays r (both-within c s fine).0;
  pushed_below = λ b. within-member s.pushed c.buttons b (both-within c s fine).1;
}

pub members-state_fits : (c : Counts) (s : State) → MembersBelow c s → state_fine c s ≡ true
members-state_fits c s below =
    within_both c s
    (member-within s.drawn c.relays below.drawn_below)
    (member-within s.pushed c.buttons below.pushed_below)

-- ---- a state that fits still fits after each method

pub fresh_fits : (b : Board) → board_fine b ≡ true → state_fine b.counts (fresh_state b) ≡ true
fresh_fits b fine =
    within_both b.counts (fresh_state b)
    (member-within b.start b.counts.relays (fine_start_below b fine))
    (within_none b.counts.buttons)

module _ (c : Counts) (s : State) (n : ℕ) (fine : state_fine c s ≡ true) where
  pub state_fits_draw : n < c.relays → state_fine c (with_drawn s n) ≡ true
  state_fits_draw fits =
      let both = both-within c s fine in
      within_both c (with_drawn s n) (within-including s.drawn c.relays n both.0 fits) both.1

  pub state_fits-drop : state_fine c (with_dropped s n) ≡ true
  state_fits-drop =
      let both = both-within c s fine in
      within_both c (with_dropped s n) (within-excluding s.drawn c.relays n both.0) both.1

  pub state_fits_push : n < c.buttons → state_fine c (with_pushed s n) ≡ true
  state_fits_push fits =
      let both = both-within c s fine in
      within_both c (with_pushed s n) both.0 (within-including s.pushed c.buttons n both.1 fits)

  pub state_fits_release : state_fine c (with_released s n) ≡ true
  state_fits_release =
      let both = both-within c s fine in
      within_both c (with_released s n) both.0 (within-excluding s.pushed c.buttons n both.1)

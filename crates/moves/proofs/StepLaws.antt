-- Laws of a relay's step: by the sets of the state, and by what a run has worked out once; a move changes that relay
-- and nothing else. Runs go by these and by nothing of the definition's text.
use Prim.Native.Nat.{ℕ, ◌<◌}
use mathlib.Core.Path.{◌≡◌, refl, ap, ◌∙◌}
use mathlib.Core.Bool.{Bool, true}
use Rattle.board.specs.declared.Counts.{Counts}
use Rattle.board.specs.declared.Board.{Board}
use Rattle.board.specs.Parts.{parts_of}
use Rattle.state.specs.declared.State.{State}
use Rattle.state.specs.States.{is_drawn, is_pushed, with_drawn, with_dropped, state_fine}
use Rattle.state.proofs.StateLaws.{drawn_draw_other, drawn-drop_other, state_fits_draw, state_fits-drop}
use Rattle.neighbours.specs.declared.Sets.{Sets}
use Rattle.neighbours.specs.Neighbours.{sets_of}
use Rattle.kept.specs.declared.Kept.{Kept}
use Rattle.kept.specs.declared.Change.TheVariants.{Relay}
use Rattle.kept.specs.Upkeep.{changed_to}
use Rattle.kept.specs.Kept.{kept_at}
use Rattle.kept.proofs.UpkeepLaws.{relay-kept}
use Rattle.search.specs.declared.Winding.{Winding}
use Rattle.feed.specs.declared.Feed.{Feed}
use Rattle.feed.specs.Feeds.{feed_of, live_by}
use Rattle.judge.specs.RelayWindings.{OfRelay, windings_at}
use Rattle.moves.specs.declared.Move as code-move
use Rattle.moves.specs.declared.Move.TheVariants.{Drew, Dropped}
use Rattle.moves.specs.Steps.{Move, drew, dropped, rests, conflict, move_by, taken_live, step_by, step_of}
use Rattle.moves.specs.Steps.{made, kept_made, told_move}
use Rattle.moves.proofs.MoveLaws.{Turns, moves-turn}

-- ---- the step

-- by the sets of the state
pub step_by_lem : (b : Board) (s : State) (r : ℕ) (k : Sets) (m : Move) → k ≡ sets_of b s → m ≡ step_by k b s r
    → m ≡ step_of b s r
unfolding step_of
step_by_lem b s r k m own is = rw own at is

-- by what was worked out of the sets k, and the windings x of the relay
pub step_worked : (k : Sets) (b : Board) (s : State) (r : ℕ) (f : Feed) (x : OfRelay Winding) (d : Bool) (m : Move)
    → f ≡ feed_of k b.counts.terminals → x ≡ windings_at r (parts_of b) → d ≡ is_drawn s r
    → m ≡ move_by (live_by f.served f.linked) d x → m ≡ step_by k b s r
unfolding step_by taken_live
step_worked k b s r f x d m worked winds drawn is = rw (worked, winds, drawn) at is

-- where it is known which windings x the relay has
pub step_windings : (b : Board) (s : State) (r : ℕ) (x : OfRelay Winding) → windings_at r (parts_of b) ≡ x
    → step_of b s r ≡ move_by (taken_live (sets_of b s) b.counts.terminals) (is_drawn s r) x
unfolding step_of step_by
step_windings b s r x is = ap (move_by (taken_live (sets_of b s) b.counts.terminals) (is_drawn s r)) is

pub step_turns : (b : Board) (s : State) (r : ℕ) → Turns (is_drawn s r) (step_of b s r)
unfolding step_of step_by
step_turns b s r = moves-turn _ (is_drawn s r) (windings_at r (parts_of b))

-- ---- "A move changes that relay and nothing else"

-- what holds of the state with the relay drawn, with it dropped and as it was, holds after every move
made_holds : (P : State → Type 0) (s : State) (r : ℕ) (m : Move) → P (with_drawn s r) → P (with_dropped s r) → P s
    → P (made s r m)
made_holds P s r drew draws drops stays = draws
made_holds P s r dropped draws drops stays = drops
made_holds P s r rests draws drops stays = stays
made_holds P s r conflict draws drops stays = stays

pub made_other : (s : State) (r : ℕ) (m : Move) (q : ℕ) → (q ≡ r → ⊥) → is_drawn (made s r m) q ≡ is_drawn s q
made_other s r m q other =
    made_holds (λ t. is_drawn t q ≡ is_drawn s q) s r m (drawn_draw_other s r q other) (drawn-drop_other s r q other)
    refl

pub made_pushed : (s : State) (r : ℕ) (m : Move) (q : ℕ) → is_pushed (made s r m) q ≡ is_pushed s q
made_pushed s r m q = made_holds (λ t. is_pushed t q ≡ is_pushed s q) s r m refl refl refl

pub made_buttons : (s : State) (r : ℕ) (m : Move) → (made s r m).pushed ≡ s.pushed
made_buttons s r m = made_holds (λ t. t.pushed ≡ s.pushed) s r m refl refl refl

-- a state that fits a board still fits it
pub made_fits : (c : Counts) (s : State) (r : ℕ) (m : Move) → state_fine c s ≡ true → r < c.relays
    → state_fine c (made s r m) ≡ true
made_fits c s r m fine below =
    made_holds (λ t. state_fine c t ≡ true) s r m (state_fits_draw c s r fine below) (state_fits-drop c s r fine) fine

-- sets that belong to a state belong to the state after the move
pub kept_made_lem : (b : Board) (h : Kept) (r : ℕ) (m : Move) → h ≡ kept_at b h.state
    → kept_made b h r m ≡ kept_at b (made h.state r m)
kept_made_lem b h r m own = ap (λ (k : Kept). kept_made b k r m) own ∙ by m
  where
    by : (m : Move) → kept_made b (kept_at b h.state) r m ≡ kept_at b (made h.state r m)
    by drew =
        relay-kept b h.state (with_drawn h.state r) r (made_other h.state r drew)
        (made_pushed h.state r drew)
    by dropped =
        relay-kept b h.state (with_dropped h.state r) r (made_other h.state r dropped)
        (made_pushed h.state r dropped)
    by rests = refl
    by conflict = refl

-- one law for each way out of `after` that moves: the state t that was made, and what is kept beside it, x
module _ (b : Board) (h : Kept) (r : ℕ) (m : code-move.Move) (t : State) (x : Kept)
    (kept : x ≡ changed_to h b (Relay r) t) where
  pub after_drew : m ≡ Drew → t ≡ with_drawn h.state r → x ≡ kept_made b h r (told_move m)
  after_drew is made = kept ∙ rw (is, made) refl

  pub after_dropped : m ≡ Dropped → t ≡ with_dropped h.state r → x ≡ kept_made b h r (told_move m)
  after_dropped is made = kept ∙ rw (is, made) refl

-- The theorems of specs/KeptSets.antt: a call that is not refused leaves the sets of the state that it leaves, which
-- are those that upkeep gives, and a refused one leaves what it was given.
use Prim.Native.Nat.{ℕ}
use mathlib.Core.Path.{◌≡◌, refl, sym, ap, subst, ◌∙◌}
use mathlib.Core.Logic.{◌⊎◌, inl, inr}
use mathlib.Core.List.{List, [], ◌∷◌}
use Rattle.refusals.proofs.OutcomeLaws.{both_given}
use Rattle.board.specs.declared.Board.{Board}
use Rattle.board.proofs.BreaksNoRule.{fine_fits}
use Rattle.state.specs.declared.State.{State}
use Rattle.state.specs.States.{with_pushed, with_released, with_drawn, with_dropped}
use Rattle.kept.specs.declared.Kept.{Kept}
use Rattle.kept.specs.declared.Change.{Change}
use Rattle.kept.specs.declared.Change.TheVariants.{Relay, Button}
use Rattle.kept.specs.Kept.{kept_at, KeptOf, KeptFresh}
use Rattle.kept.specs.Eighteen.{KeptJoin}
use Rattle.kept.specs.OnlyEnds.{ElseSets}
use Rattle.kept.proofs.KeptLaws.{kept_sets, left_either}
use Rattle.kept.proofs.Eighteen.{kept_join}
use Rattle.kept.proofs.OnlyEnds.{only_ends}
use Rattle.presses.specs.Presses.{pushing, releasing}
use Rattle.presses.proofs.PressLaws.{pushed-kept, released-kept}
use Rattle.moves.specs.Steps.{Move, drew, dropped, rests, conflict, kept_made, told_move}
use Rattle.moves.specs.Moving.{movable, moving}
use Rattle.moves.proofs.StepLaws.{kept_made_lem}
use Rattle.moves.proofs.MovingLaws.{movable-kept}
use Rattle.runs.specs.Running as told
use Rattle.runs.proofs.RunningLaws.{running-kept}
use Rattle.runs_means.specs.KeptSets.{OnlyAtEnds, Keeping, push, release, move, run, Leaves, Through}
use Rattle.runs_means.specs.KeptSets.{BelongAlways}

-- ---- every other terminal has the sets that it had

else_same : (b : Board) (c : Change) (h : Kept) → ElseSets b c h h
else_same b c h x below none-ends = (refl, refl)

module _ (b : Board) (h : Kept) (n : ℕ) where
  pushing_else : ElseSets b (Button n) h (pushing b h n).0
  unfolding pushing
  pushing_else =
      left_either (ElseSets b (Button n) h) h _ _ (else_same b (Button n) h)
      (λ u taken. only_ends h b (Button n) (with_pushed h.state n) _ (sym (pushed-kept b h n _ taken)))

  releasing_else : ElseSets b (Button n) h (releasing b h n).0
  unfolding releasing
  releasing_else =
      left_either (ElseSets b (Button n) h) h _ _ (else_same b (Button n) h)
      (λ u taken. only_ends h b (Button n) (with_released h.state n) _ (sym (released-kept b h n _ taken)))

module _ (b : Board) (h : Kept) (r : ℕ) where
  made_else : (m : Move) → ElseSets b (Relay r) h (kept_made b h r m)
  made_else drew = only_ends h b (Relay r) (with_drawn h.state r) _ refl
  made_else dropped = only_ends h b (Relay r) (with_dropped h.state r) _ refl
  made_else rests = else_same b (Relay r) h
  made_else conflict = else_same b (Relay r) h

  moving_else : ElseSets b (Relay r) h (moving b h r).0
  unfolding moving
  moving_else =
      left_either (ElseSets b (Relay r) h) h _ _ (else_same b (Relay r) h)
      (λ m taken. subst (ElseSets b (Relay r) h)
      (kept_made_lem b h r m (movable-kept b h r (both_given (movable b h r) _ m taken).0)) (made_else m))

pub only_at_ends : OnlyAtEnds
only_at_ends = record {
  pushed = λ b h n x press. subst (λ y. ElseSets b (Button n) h y.0) (sym press) (pushing_else b h n);
  released = λ b h n x press. subst (λ y. ElseSets b (Button n) h y.0) (sym press) (releasing_else b h n);
  after = λ b h r m t after. subst (ElseSets b (Relay r) h) (sym after) (made_else b h r (told_move m));
  moved = λ b h r a moves. subst (λ y. ElseSets b (Relay r) h y.0) (sym moves) (moving_else b h r);
}

-- ---- sets that belong belong after a call, and so after any calls

abbrev Own : Board → Kept → Type 0
Own b h = h ≡ kept_at b h.state

module _ (b : Board) (h : Kept) (own : Own b h) where
  pushing_own : (n : ℕ) → Own b (pushing b h n).0
  unfolding pushing
  pushing_own n = left_either (Own b) h _ _ own (λ u taken. refl)

  releasing_own : (n : ℕ) → Own b (releasing b h n).0
  unfolding releasing
  releasing_own n = left_either (Own b) h _ _ own (λ u taken. refl)

  moving_own : (r : ℕ) → Own b (moving b h r).0
  unfolding moving
  moving_own r = left_either (Own b) h _ _ own (λ m taken. refl)

  call_own : (k : Keeping) (t : Kept) → Leaves b h k t → Own b t
  call_own (push n) t (x, press, is) =
      subst (Own b) (sym (ap (λ y. y.0) press) ∙ is) (pushing_own n)
  call_own (release n) t (x, press, is) =
      subst (Own b) (sym (ap (λ y. y.0) press) ∙ is) (releasing_own n)
  call_own (move r) t (a, moves, is) =
      subst (Own b) (sym (ap (λ y. y.0) moves) ∙ is) (moving_own r)
  call_own (run log) t (a, l, runs, is) =
      subst (Own b) (sym (ap (λ (y : told.Ran). y.kept) runs) ∙ is) (running-kept b h log own)

through_own : (b : Board) (h : Kept) (ks : List Keeping) (t : Kept) → Own b h → Through b h ks t → Own b t
unfolding Through
through_own b h [] t own same = subst (Own b) same own
through_own b h (k ∷ ks) t own (u, leaves, on) = through_own b u ks t (call_own b h own k u leaves) on

-- a fresh state with its sets, or any other
begun_own : (b : Board) (h : Kept) → KeptFresh b h ⊎ ((s : State) × KeptOf b s h) → Own b h
begun_own b h (inl fresh) = subst (Own b) (sym fresh) refl
begun_own b h (inr (s, of)) = subst (Own b) (sym of) refl

pub belong_always : BelongAlways
belong_always b h ks t begun through =
    let own = through_own b h ks t (begun_own b h begun) through in
    record {
      worked_out = kept_sets b t own;
      joining = λ fine. subst (KeptJoin b) (sym own) (kept_join b (fine_fits b fine) t.state);
    }

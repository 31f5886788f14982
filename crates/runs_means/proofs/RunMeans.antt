-- What a run says, in the words of the published model: its moves follow one another, and each word says what it should
-- and nothing else can be said.
use Prim.Native.Nat.{ℕ, suc, ◌+◌, ◌<◌}
use native.Mathlib.Omega.{arith}
use mathlib.Core.Path.{◌≡◌, refl, sym, ap, subst, ◌∙◌}
use mathlib.Core.Logic.{◌⊎◌, inl, inr, ⊎_elim}
use mathlib.Core.Bool.{true}
use mathlib.Core.List.{List, [], ◌∷◌, ◌++◌, append-nil, append_assoc}
use lib.ListN.{length, length-append}
use Rattle.board.specs.declared.Board.{Board}
use Rattle.board.specs.Rules.{board_fine}
use Rattle.state.specs.declared.State.{State}
use Rattle.moves.specs.Steps as step
use Rattle.moves_means.specs.SingleMoves.{Comes}
use Rattle.moves_means.proofs.ComesLaws.{comes_exclusive}
use Rattle.moves_means.proofs.OneRelay.{made_else}
use Rattle.runs.specs.Looks.{quiet, halts, makes, byte_of}
use Rattle.runs.specs.Runs.{Ending, idle, spent, conflict, buzz, Run, met_ago, logged, run_of}
use Rattle.runs.proofs.RunLaws.{RunStops, met, rested, halted, filled, RunGoes, stops, moved, run_goes, stops_still}
use Rattle.runs_means.specs.Following.{Follows, SomeTwice}
use Rattle.runs_means.specs.Courses.{AllowedMove, LowestMove, Resting, StoppedBy, Ended}
use Rattle.runs_means.proofs.CameLaws.{Came, begun, on, came-follows, came_none, came_met}
use Rattle.runs_means.proofs.MeetingLaws.{meeting_twice}
use Rattle.runs_means.proofs.LowestLaws.{lowest_leads}
use Rattle.runs_means.proofs.LookMeans.{LookMeans, look_means_so}

module _ (b : Board) where
  -- ---- one move

  -- a relay of the board that comes to m, drew or dropped
  comes_allowed : (s : State) (m : step.Move) (r : ℕ) → r < b.counts.relays
      → ((m ≡ step.drew) × Comes b s r step.drew) ⊎ ((m ≡ step.dropped) × Comes b s r step.dropped)
      → AllowedMove b s (byte_of r m) (step.made s r m)
  comes_allowed s m r below comes =
      record {
        relay = r;
        on_board = below;
        made = ⊎_elim (λ (is, x). inl (rw is (refl, x, refl))) (λ (is, x). inr (rw is (refl, x, refl))) comes;
        else_as_before = made_else s r m;
        guarded = ⊎_elim (λ (is, x). inl x.1) (λ (is, x). inr x.1) comes;
      }

  -- a relay that rests has no guard that holds
  resting_lowest : (s : State) (c : ℕ) (t : State) (move : AllowedMove b s c t) → Resting b s move.relay
      → LowestMove b s c t
  resting_lowest s c t move rest =
      record { move = move; resting = rest; lowest = λ q below. ((rest q below).1, (rest q below).2) }

  look_lowest : (s : State) (m : step.Move) (r : ℕ) → LookMeans b s (makes m r)
      → LowestMove b s (byte_of r m) (step.made s r m)
  unfolding comes_allowed
  look_lowest s m r (inl (is, (below, rest, comes))) =
      resting_lowest s _ _ (comes_allowed s m r below (inl (is, comes))) rest
  look_lowest s m r (inr (is, (below, rest, comes))) =
      resting_lowest s _ _ (comes_allowed s m r below (inr (is, comes))) rest

  -- ---- the whole run

  -- whether some state comes twice, by the word
  abbrev pub TwiceBy : Ending → Type 0 → Type 0
  TwiceBy idle some = ¬ some
  TwiceBy spent some = ¬ some
  TwiceBy conflict some = ¬ some
  TwiceBy buzz some = some

  -- what the run x says that began in state s with room for n moves and made the moves cs
  pub record Says (s : State) (n : ℕ) (cs : List ℕ) (x : Run) : Type 0 where
    pub follows : Follows (LowestMove b) s cs x.state
    pub ended : Ended b s n cs x.state x.relay x.earlier x.between x.word
    pub twice : TwiceBy x.word (SomeTwice (LowestMove b) s cs)

  logged-says : {s : State} {n c : ℕ} {cs : List ℕ} {x : Run} → Says s n cs x → Says s n cs (logged c x)
  logged-says says = record { follows = says.follows; ended = says.ended; twice = says.twice }

  module _ (fine : board_fine b ≡ true) (s₀ : State) where
    full-ended : {s : State} {m : step.Move} {r : ℕ} → LookMeans b s (makes m r)
        → StoppedBy b s r step.drew ⊎ StoppedBy b s r step.dropped
    full-ended (inl (is, stopped)) = inl stopped
    full-ended (inr (is, stopped)) = inr stopped

    none_twice : {cs : List ℕ} {s : State} {ss : List State} → Came (LowestMove b) s₀ cs s ss → met_ago s ss ≡ 0
        → ¬ (SomeTwice (LowestMove b) s₀ cs)
    none_twice = came_none (LowestMove b) (lowest_leads b fine) s₀

    stops-says : {ss : List State} {n : ℕ} {s : State} {x : Run} {cs : List ℕ}
        → RunStops (step.step_of b) b.counts.relays ss n s x → Came (LowestMove b) s₀ cs s ss
        → Says s₀ (length cs + n) cs x
    stops-says {cs = cs} (met {ss = ss} {s = s} d was) came =
        let first = came_met (LowestMove b) (lowest_leads b fine) s₀ d came was in
        record { follows = came-follows (LowestMove b) s₀ came; ended = (refl, first); twice = meeting_twice first }
    stops-says (rested {s = s} new e) came =
        record {
          follows = came-follows (LowestMove b) s₀ came;
          ended = ((refl, refl), refl, look_means_so b s fine quiet e);
          twice = none_twice came new;
        }
    stops-says (halted {s = s} {r = r} new e) came =
        record {
          follows = came-follows (LowestMove b) s₀ came;
          ended = ((refl, refl), look_means_so b s fine (halts r) e);
          twice = none_twice came new;
        }
    stops-says (filled {s = s} {r = r} m new e) came =
        record {
          follows = came-follows (LowestMove b) s₀ came;
          ended = ((refl, refl), omega arith, none_twice came new, full-ended (look_means_so b s fine (makes m r) e));
          twice = none_twice came new;
        }

    goes-says : {ss : List State} {n : ℕ} {s : State} {x : Run} {cs : List ℕ}
        → RunGoes (step.step_of b) b.counts.relays ss n s x → Came (LowestMove b) s₀ cs s ss
        → Says s₀ (length cs + n) (cs ++ x.bytes) x
    goes-says {n = n} {x = x} {cs = cs} (stops why) came =
        subst (λ (l : List ℕ). Says s₀ (length cs + n) l x)
        (sym (ap (λ (l : List ℕ). cs ++ l) (stops_still why).0 ∙ append-nil cs)) (stops-says why came)
    goes-says {cs = cs} (moved {n = n} {s = s} {x = x} m r new e go) came =
        let c = byte_of r m in
        let more : length (cs ++ (c ∷ [])) + n ≡ length cs + suc n = omega (arith, length-append cs (c ∷ [])) in
        let all : (cs ++ (c ∷ [])) ++ x.bytes ≡ cs ++ (c ∷ x.bytes) = append_assoc cs (c ∷ []) x.bytes in
        let on-says = goes-says go (on came new (look_lowest s m r (look_means_so b s fine (makes m r) e))) in
        logged-says (rw (more, all) at on-says)

    pub run-says : (n : ℕ) → Says s₀ n (run_of (step.step_of b) b.counts.relays n s₀).bytes
        (run_of (step.step_of b) b.counts.relays n s₀)
    run-says n =
        let none : 0 + n ≡ n = omega arith in
        rw none at (goes-says (run_goes (step.step_of b) b.counts.relays [] n s₀) begun)

  -- ---- of one run only one word can be said

  -- the word of a run whose last relay looked at came to this
  abbrev word_by : step.Move → Ending
  word_by step.drew = spent
  word_by step.dropped = spent
  word_by step.rests = idle
  word_by step.conflict = conflict

  record Stopped (s : State) (r : ℕ) (e : Ending) : Type 0 where
    move : step.Move
    by : StoppedBy b s r move
    says : word_by move ≡ e

  -- why a run ended in state t at relay r with the word e: it told the moves d between, all rest, or a relay stopped it
  data Because (t : State) (r d : ℕ) (e : Ending) : Type 0 where
    meeting : buzz ≡ e → 0 < d → Because t r d e
    all_rest : idle ≡ e → d ≡ 0 → Resting b t b.counts.relays → Because t r d e
    one_stops : d ≡ 0 → Stopped t r e → Because t r d e

  ended_by : (s : State) (n : ℕ) (cs : List ℕ) (t : State) (r i d : ℕ) (e : Ending) → Ended b s n cs t r i d e
      → Because t r d e
  ended_by s n cs t r i d idle h = all_rest refl h.0.1 h.2
  ended_by s n cs t r i d spent h =
      one_stops h.0.1 (⊎_elim (λ x. record { move = step.drew; by = x; says = refl })
      (λ x. record { move = step.dropped; by = x; says = refl }) h.3)
  ended_by s n cs t r i d conflict h = one_stops h.0.1 (record { move = step.conflict; by = h.1; says = refl })
  ended_by s n cs t r i d buzz h = meeting refl h.1.apart

  -- where all rest, what a relay came to is that it rests
  rests_stopped : (s : State) (r : ℕ) (e : Ending) → Resting b s b.counts.relays → Stopped s r e → idle ≡ e
  rests_stopped s r e rest x =
      ap word_by (comes_exclusive b s r step.rests x.move (rest r x.by.0) x.by.2) ∙ x.says

  causes_exclusive : (t : State) (r k : ℕ) (d e : Ending) → Because t r k d → Because t r k e → d ≡ e
  causes_exclusive t r k d e (meeting x some) (meeting y also) = sym x ∙ y
  causes_exclusive t r k d e (meeting x some) (all_rest y none rest) = absurd (omega (arith, some, none))
  causes_exclusive t r k d e (meeting x some) (one_stops none y) = absurd (omega (arith, some, none))
  causes_exclusive t r k d e (all_rest x none rest) (meeting y some) = absurd (omega (arith, some, none))
  causes_exclusive t r k d e (one_stops none x) (meeting y some) = absurd (omega (arith, some, none))
  causes_exclusive t r k d e (all_rest x none rest) (all_rest y also again) = sym x ∙ y
  causes_exclusive t r k d e (all_rest x none rest) (one_stops also y) = sym x ∙ rests_stopped t r e rest y
  causes_exclusive t r k d e (one_stops none x) (all_rest y also rest) = sym (rests_stopped t r d rest x) ∙ y
  causes_exclusive t r k d e (one_stops none x) (one_stops also y) =
      sym x.says ∙ ap word_by (comes_exclusive b t r x.move y.move x.by.2 y.by.2) ∙ y.says

  pub ended_exclusive : (s : State) (n : ℕ) (cs : List ℕ) (t : State) (r i k : ℕ) (d e : Ending)
      → Ended b s n cs t r i k d → Ended b s n cs t r i k e → d ≡ e
  ended_exclusive s n cs t r i k d e x y =
      causes_exclusive t r k d e (ended_by s n cs t r i k d x) (ended_by s n cs t r i k e y)

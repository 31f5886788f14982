-- The states that a run came through, and the moves that led through them: where looking back meets none, no state came
-- twice; where it meets one, that state came after so many moves. Nothing here knows what a move is.
use Prim.Native.Nat.{ℕ, suc, ◌+◌, ◌-◌, ◌<◌, ◌≤◌}
use native.Mathlib.Omega.{arith}
use mathlib.Core.Path.{◌≡◌, refl, sym, ap, subst}
use mathlib.Core.Logic.{inl, inr}
use mathlib.Core.Bool.{Bool, true, false, cond}
use mathlib.Core.List.{List, [], ◌∷◌, ◌++◌}
use lib.Dec.{eqb}
use lib.ListN.{length, take, length-append}
use lib.Seq.{take_all, take-append-le, take-append_seam}
use borrow.Author.Tests.{eq-eqb, eqb-true}
use Rattle.lists.specs.Members.{◌∈◌}
use Rattle.bits.proofs.BoolLaws.{both_true, by_less}
use Rattle.state.specs.declared.State.{State}
use Rattle.runs.specs.Runs.{same_state, met_from, met_ago}
use Rattle.runs_means.specs.Following.{Movement, Follows, SomeTwice, FirstMeeting}
use Rattle.runs_means.proofs.FollowLaws.{OneEnd, follows_next, follows_unique}

-- ---- the state that was met

same_state_lem : (s t : State) → same_state t s ≡ true → t ≡ s
unfolding same_state
same_state_lem s t is =
    let both = both_true (eqb t.drawn s.drawn) (eqb t.pushed s.pushed) is in
    λ i. record {
      drawn = eqb-true t.drawn s.drawn both.0 i;
      pushed = eqb-true t.pushed s.pushed both.1 i;
    }

state-same : (s t : State) → t ≡ s → same_state t s ≡ true
unfolding same_state
state-same s t is =
    rw (
      eq-eqb t.drawn s.drawn (ap (λ (u : State). u.drawn) is),
      eq-eqb t.pushed s.pushed (ap (λ (u : State). u.pushed) is),
    ) refl

-- a state among those that the run came through is met
pub member_met : (d : ℕ) (s : State) (ts : List State) → s ∈ ts → met_from (suc d) s ts ≡ 0 → ⊥
unfolding met_from
member_met d s [] never none = elim never [ ]
member_met d s (t ∷ ts) (inl here) none = omega (arith, rw (state-same s t (sym here)) at none)
member_met d s (t ∷ ts) (inr there) none = by (same_state t s) none (member_met (suc d) s ts there)
  where
    by : (same : Bool) → cond same (suc d) (met_from (suc (suc d)) s ts) ≡ 0 → (met_from (suc (suc d)) s ts ≡ 0 → ⊥) → ⊥
    by true e later = omega (arith, e)
    by false e later = later e

-- and a state that is met is among them
pub met-among : (d e : ℕ) (s : State) (ts : List State) → met_from d s ts ≡ suc e → s ∈ ts
unfolding met_from
met-among d e s [] none = absurd (omega (arith, none))
met-among d e s (t ∷ ts) was = by (same_state t s) refl was (met-among (suc d) e s ts)
  where
    by : (same : Bool) → same_state t s ≡ same → cond same d (met_from (suc d) s ts) ≡ suc e
        → (met_from (suc d) s ts ≡ suc e → s ∈ ts) → s ∈ (t ∷ ts)
    by true same here later = inl (sym (same_state_lem s t same))
    by false other there later = inr (later there)

-- ---- the moves cs from s₀ lead through the states ss, the last first, to s, and none but s may have been met

module _ (M : Movement) (s₀ : State) where
  pub data Came : List ℕ → State → List State → Type 0 where
    begun : Came [] s₀ []
    on : {cs : List ℕ} {s : State} {ss : List State} {c : ℕ} {t : State} → Came cs s ss → met_ago s ss ≡ 0
        → M s c t → Came (cs ++ (c ∷ [])) t (s ∷ ss)

  pub came-follows : {cs : List ℕ} {s : State} {ss : List State} → Came cs s ss → Follows M s₀ cs s
  unfolding Follows
  came-follows begun = refl
  came-follows (on {cs = cs} {s = s} {c = c} {t = t} came new move) =
      follows_next M s₀ cs s c t (came-follows came) move

  pub came-length : {cs : List ℕ} {s : State} {ss : List State} → Came cs s ss → length ss ≡ length cs
  came-length begun = refl
  came-length (on {cs = cs} {c = c} came new move) =
      omega (arith, came-length came, length-append cs (c ∷ []))

module _ (M : Movement) (leads : OneEnd M) (s₀ : State) where
  -- the state after some of the moves is one that the run came through
  came_at : {cs : List ℕ} {s : State} {ss : List State} → Came M s₀ cs s ss → (i : ℕ) → i < length cs → (u : State)
      → Follows M s₀ (take i cs) u → u ∈ ss
  came_at begun i less u at = absurd (omega (arith, less))
  came_at (on {cs = cs} {s = s} {c = c} came new move) i less u at =
      let here = rw (take-append-le i cs (c ∷ []) (omega (arith, less, length-append cs (c ∷ [])))) at at in
      by_less i (length cs)
      (λ below. inr (came_at came i below u here))
      (λ past. inl (follows_unique M leads s₀ cs u s (rw (take_all i cs past) at here) (came-follows M s₀ came)))

  -- where s was not met either, no state came twice
  pub came_none : {cs : List ℕ} {s : State} {ss : List State} → Came M s₀ cs s ss → met_ago s ss ≡ 0
      → ¬ (SomeTwice M s₀ cs)
  came_none begun new x = omega (arith, x.less, x.within)
  came_none {cs} {s} {ss} (on {cs = ds} {c = c} came was move) new x =
      by_less (length ds) x.more
      (λ past.
      let same = follows_unique M leads s₀ cs x.state s
      (rw (take_all x.more cs (omega (arith, past, length-append ds (c ∷ [])))) at x.again)
      (came-follows M s₀ (on came was move)) in
      member_met 0 s ss (subst (λ (u : State). u ∈ ss) same
      (came_at (on came was move) x.some (omega (arith, x.less, x.within)) x.state x.comes)) new)
      (λ before. came_none came was (record {
        some = x.some;
        more = x.more;
        less = x.less;
        within = before;
        state = x.state;
        comes = rw (take-append-le x.some ds (c ∷ []) (omega (arith, x.less, before))) at x.comes;
        again = rw (take-append-le x.more ds (c ∷ []) before) at x.again;
      }))

  pub came-before : {cs : List ℕ} {s : State} {ss : List State} → Came M s₀ cs s ss
      → ¬ (SomeTwice M s₀ (take (length cs - 1) cs))
  came-before begun x = omega (arith, x.less, x.within)
  came-before (on {cs = cs} {c = c} came new move) x =
      let less : length (cs ++ (c ∷ [])) - 1 ≡ length cs = omega (arith, length-append cs (c ∷ [])) in
      came_none came new (rw (less, take-append_seam cs (c ∷ [])) at x)

  -- where s was met, it came so many moves before
  record MetAt (cs : List ℕ) (s : State) (k d : ℕ) : Type 0 where
    later : k ≤ d
    within : suc d ≤ k + length cs
    comes : Follows M s₀ (take (length cs + k - suc d) cs) s

  met_at : {cs : List ℕ} {x : State} {ss : List State} → Came M s₀ cs x ss → (s : State) (k d : ℕ)
      → met_from (suc k) s ss ≡ suc d → MetAt cs s k d
  unfolding met_from
  met_at begun s k d e = absurd (omega (arith, e))
  met_at (on {cs = cs} {s = x} {ss = ss} {c = c} came new move) s k d e =
      by (same_state x s) refl e (λ there. met_at came s (suc k) d there)
    where
      by : (same : Bool) → same_state x s ≡ same → cond same (suc k) (met_from (suc (suc k)) s ss) ≡ suc d
          → (met_from (suc (suc k)) s ss ≡ suc d → MetAt cs s (suc k) d) → MetAt (cs ++ (c ∷ [])) s k d
      by true same here later =
          let all : length (cs ++ (c ∷ [])) + k - suc d ≡ length cs =
          omega (arith, here, length-append cs (c ∷ [])) in
          record {
            later = omega (arith, here);
            within = omega (arith, here, length-append cs (c ∷ []));
            comes = rw (all, take-append_seam cs (c ∷ []), ← same_state_lem s x same) (came-follows M s₀ came);
          }
      by false other there later =
          let was = later there in
          let less : length (cs ++ (c ∷ [])) + k - suc d ≡ length cs + suc k - suc d =
          omega (arith, length-append cs (c ∷ [])) in
          record {
            later = omega (arith, was.later);
            within = omega (arith, was.within, length-append cs (c ∷ []));
            comes = rw (
              less,
              take-append-le (length cs + suc k - suc d) cs (c ∷ []) (omega (arith, was.later)),
            ) was.comes;
          }

  pub came_met : {cs : List ℕ} {s : State} {ss : List State} (d : ℕ) → Came M s₀ cs s ss → met_ago s ss ≡ suc d
      → FirstMeeting M s₀ cs s (length ss - suc d) (suc d)
  came_met {cs} {s} {ss} d came was =
      let at = met_at came s 0 d was in
      let place : length cs + 0 - suc d ≡ length ss - suc d = omega (arith, came-length M s₀ came) in
      record {
        moves = omega (arith, at.within, came-length M s₀ came);
        apart = omega arith;
        comes = rw place at at.comes;
        again = came-follows M s₀ came;
        first = came-before came;
      }

-- The theorems of specs/Allowances.antt: demand 3, first half. Both calls go by one list of chains, so what one settles
-- the other settles the same way from the effort on.
use Prim.Native.Nat.{ℕ, ◌<◌, ◌≤◌}
use native.Mathlib.Omega.{arith}
use mathlib.Core.Path.{◌≡◌, refl, sym, ap, subst, ◌∙◌}
use mathlib.Core.Logic.{⊎_elim}
use mathlib.Core.Bool.{Bool}
use mathlib.Core.List.{List}
use mathlib.Core.Option.{none, some, none-ne-some, some-injective}
use Rattle.refusals.specs.Outcomes.{Outcome, given, refused, told_as}
use Rattle.refusals.specs.declared.Refusal.{Refusal}
use Rattle.std.specs.Prelude.{Result, Ok, Err}
use Rattle.refusals.proofs.OutcomeLaws.{refused_never}
use Rattle.board.specs.declared.Board.{Board}
use Rattle.board.specs.BreaksNoRule.{BoardFits}
use Rattle.board.proofs.BreaksNoRule.{fine_fits}
use Rattle.state.specs.declared.State.{State}
use Rattle.kept.specs.declared.Kept.{Kept}
use Rattle.chains.specs.ChainList.{chains, shows}
use Rattle.search.specs.declared.Winding.{Winding}
use Rattle.search.specs.declared.Verdict.{Verdict}
use Rattle.search.specs.declared.Finding.{Finding}
use Rattle.search.specs.declared.Finding.TheVariants as said
use Rattle.search.specs.Verdicts as verdict
use Rattle.search.specs.Verdicts.{first_shown, effort}
use Rattle.search.proofs.VerdictLaws.{effort_some}
use Rattle.judge.specs.declared.Which.{Which}
use Rattle.judge.specs.Judging.{winding_for, Judges}
use Rattle.judge.proofs.JudgeLaws.{winding_for_given, judging_by}
use Rattle.judge_means.specs.Shunts.{Shunted, OnBoard}
use Rattle.judge_means.specs.Exactness.{Judge, Keeps, effort_of}
use Rattle.judge_means.specs.Allowances.{Settled, LargerAllowance, TurnsAtEffort, EffortSome}
use Rattle.judge_means.proofs.Exactness.{live_verdict, dead_verdict, FindingBy, live_by, dead_by, undecided_by}
use Rattle.judge_means.proofs.Exactness.{effort_on, effort_of_all, verdict_finding}
use Rattle.judge_means.proofs.Shunts.{found-on_board}

-- ---- by a list of chains

-- v at one allowance and u at another go by the same chains
record Turned (x : ℕ) (v u : Verdict) : Type 0 where
  enough : v.effort ≤ x → u ≡ v
  short : x < v.effort → u.finding ≡ Ok said.Undecided

module _ (t : List ℕ → Bool) (cs : List (List ℕ)) (x : ℕ) (u : Verdict)
    (also : FindingBy t cs x u u.finding) where
  again : (v : Verdict) → effort t cs ≡ v.effort
      → ((c : List ℕ) → first_shown t cs ≡ some c → u ≡ live_verdict (effort t cs) c → u ≡ v)
      → (first_shown t cs ≡ none → u ≡ dead_verdict (effort t cs) → u ≡ v) → Turned x v u
  again v same live dead =
      record {
        enough = λ most. from u.finding also (omega (arith, same, most));
        short = λ few. below u.finding also (omega (arith, same, few));
      }
    where
      from : (f : Result Finding Refusal) → FindingBy t cs x u f → effort t cs ≤ x → u ≡ v
      from (Ok said.Live) (live_by c within first is) most = live c first is
      from (Ok said.Dead) (dead_by within first is) most = dead first is
      from (Ok said.Undecided) (undecided_by under is) most = absurd (omega (arith, under, most))
      from (Err _) never most = elim never [ ]

      below : (f : Result Finding Refusal) → FindingBy t cs x u f → x < effort t cs → f ≡ Ok said.Undecided
      below (Ok said.Live) (live_by c within first is) few = absurd (omega (arith, within, few))
      below (Ok said.Dead) (dead_by within first is) few = absurd (omega (arith, within, few))
      below (Ok said.Undecided) (undecided_by under is) few = refl
      below (Err _) never few = elim never [ ]

  live_turns : (w : ℕ) (v : Verdict) → FindingBy t cs w v (Ok said.Live) → (v.effort ≤ w) × Turned x v u
  live_turns w v (live_by c within first is) =
      let its-effort = sym (ap (λ (q : Verdict). q.effort) is) in (
        omega (arith, within, its-effort),
        again v its-effort
            (λ d other so. so ∙ ap (live_verdict (effort t cs)) (some-injective d c (sym other ∙ first)) ∙ sym is)
            (λ None-first so. absurd (none-ne-some c (sym None-first ∙ first))),
      )

  dead_turns : (w : ℕ) (v : Verdict) → FindingBy t cs w v (Ok said.Dead) → (v.effort ≤ w) × Turned x v u
  dead_turns w v (dead_by within first is) =
      let its-effort = sym (ap (λ (q : Verdict). q.effort) is) in (
        omega (arith, within, its-effort),
        again v its-effort (λ d other so. absurd (none-ne-some d (sym first ∙ other)))
            (λ None-first so. so ∙ sym is),
      )

  settled_turns : (w : ℕ) (v : Verdict) → FindingBy t cs w v v.finding → Settled v
      → (v.effort ≤ w) × Turned x v u
  settled_turns w v this =
      ⊎_elim (λ h. live_turns w v (subst (FindingBy t cs w v) h this))
      (λ h. dead_turns w v (subst (FindingBy t cs w v) h this))

-- what is settled reports the effort
settled-effort : (t : List ℕ → Bool) (cs : List (List ℕ)) (w : ℕ) (v : Verdict) → FindingBy t cs w v v.finding
    → Settled v → effort t cs ≡ v.effort
settled-effort t cs w v this =
    ⊎_elim (λ h. live-effort (subst (FindingBy t cs w v) h this)) (λ h. dead-effort (subst (FindingBy t cs w v) h this))
  where
    live-effort : FindingBy t cs w v (Ok said.Live) → effort t cs ≡ v.effort
    live-effort (live_by c within first is) = sym (ap (λ (q : Verdict). q.effort) is)

    dead-effort : FindingBy t cs w v (Ok said.Dead) → effort t cs ≡ v.effort
    dead-effort (dead_by within first is) = sym (ap (λ (q : Verdict). q.effort) is)

-- plus alone is a chain
winding-effort_some : (b : Board) (s : State) (e : Winding) → BoardFits b → OnBoard b e → ¬ (Shunted b s e)
    → 1 ≤ effort_of b s e
unfolding chains
winding-effort_some b s e fits inside apart =
    subst (λ (k : ℕ). 1 ≤ k) (sym (effort_of_all b s e fits inside apart)) (effort_some (shows e.a e.b) _ _)

-- ---- over the call

-- a refused call settles nothing
refused-unsettled : (b : Board) (h : Kept) (r : ℕ) (n : Which) (w : ℕ) (v : Verdict) (k p : ℕ) → Judges b h r n w v
    → winding_for b h r n ≡ refused k p → Settled v → ⊥
refused-unsettled b h r n w v k p told off =
    let refusal = ap (λ (j : verdict.Verdict). j.finding) (judging_by b h r n w (refused k p) off ∙ sym told) in
    ⊎_elim (λ is. refused_never k p verdict.live (refusal ∙ ap (told_as verdict.told_finding) is))
    (λ is. refused_never k p verdict.dead (refusal ∙ ap (told_as verdict.told_finding) is))

call_turns : (b : Board) (h : Kept) (r : ℕ) (n : Which) (w x : ℕ) (v u : Verdict) → Judges b h r n w v
    → Judges b h r n x u → Settled v → (v.effort ≤ w) × Turned x v u
call_turns b h r n w x v u told also settled = by_call (winding_for b h r n) refl
  where
    by_call : (o : Outcome Winding) → winding_for b h r n ≡ o → (v.effort ≤ w) × Turned x v u
    by_call (given e) taken =
        settled_turns _ _ x u (verdict_finding b h r n x e u also taken) w v (verdict_finding b h r n w e v told taken)
        settled
    by_call (refused k p) off = absurd (refused-unsettled b h r n w v k p told off settled)

-- ---- the theorems, of a judge that keeps the promise

module _ (J : Judge) (keeps : Keeps J) where
  pub larger_allowance : LargerAllowance J
  larger_allowance b h r n w x v u told also more settled =
      let turned =
      call_turns b h r n w x v u (keeps b h r n w v told) (keeps b h r n x u also) settled in
      turned.1.enough (omega (arith, more, turned.0))

  pub turns_at_effort : TurnsAtEffort J
  turns_at_effort b h r n w x v u told also settled =
      let turned =
      call_turns b h r n w x v u (keeps b h r n w v told) (keeps b h r n x u also) settled in
      (turned.1.enough, turned.1.short)

  pub effort_some_always : EffortSome J
  effort_some_always = (
    winding-effort_some,
    λ b h r n w e v told taken settled apart.
        let fit = winding_for_given b h r n e taken in
        let fits = fine_fits b fit.0 in
        let comes = verdict_finding b h r n w e v (keeps b h r n w v told) taken in
        subst (λ (k : ℕ). 1 ≤ k) (sym (effort_on b h.state e) ∙ settled-effort _ _ w v comes settled)
        (winding-effort_some b h.state e fits (found-on_board b r n e fits fit.2) apart),
  )

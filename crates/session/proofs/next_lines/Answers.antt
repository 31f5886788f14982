-- `session::next_lines` meets its contract: what was handed out so far are the first of the lines that fit.
use Rattle.std.proofs.Common.{ℕ, ap, ◌∙◌, rules, arith}
use Rattle.std.specs.Prelude.{Result, Option}
use Rattle.refusals.specs.declared.Refusal.{Refusal}
use Rattle.session.specs.Carried.{told_session}
use Rattle.session.specs.HandingOut.{told_hand_out}
use Rattle.session.specs.Filling.{summed, next_lines}
use Rattle.session.proofs.FillLaws.{filled_none, step_goes, step_over, step_refused}
use Rattle.session.proofs.next_lines.Goals as goal
use Rattle.session.proofs.next_lines.Goals.{in-Ok-None, in-Err}

pub loop-line-init : goal.loop-line-init
loop-line-init c = filled_none _ _ _ _

pub overflow_add-used : goal.overflow_add-used
overflow_add-used c =
    let goes =
    step_goes (told_session c.args.session) _ _ _ _ _ c.loop-line.invariant c.hand_line.result _ c.hand_line.ensures
    c.in-Ok-Some.line (search rules) in
    omega (arith, goes.1.within)

pub loop-line-smaller : goal.loop-line-smaller
loop-line-smaller c =
    let goes =
    step_goes (told_session c.args.session) _ _ _ _ _ c.loop-line.invariant c.hand_line.result _ c.hand_line.ensures
    c.in-Ok-Some.line (search rules) in
    omega (arith, goes.0, goes.1.within)

pub loop-line-preserved : goal.loop-line-preserved
loop-line-preserved c =
    (step_goes (told_session c.args.session) _ _ _ _ _ c.loop-line.invariant c.hand_line.result _ c.hand_line.ensures
    c.in-Ok-Some.line (search rules)).1

pub returns : goal.returns
unfolding next_lines
returns c =
    let so = c.loop-line.invariant in
    elim c.match-hand_line.branch [
      | in-Ok-None w ↦
          step_over (told_session c.args.session) _ _ _ _ _ so c.hand_line.result _ c.hand_line.ensures (search rules)
          (told_hand_out c.sum_up.result)
          (c.sum_up.ensures
          ∙ ap (λ (l : Result (Option ℕ) Refusal). summed c.loop-line.used (told_hand_out l)) w.last-is)
      | in-Err w ↦
          step_refused (told_session c.args.session) _ _ _ _ _ so c.hand_line.result _ c.hand_line.ensures
          w.in-Err.refusal w.in-Err.is (told_hand_out c.sum_up.result)
          (c.sum_up.ensures
          ∙ ap (λ (l : Result (Option ℕ) Refusal). summed c.loop-line.used (told_hand_out l)) w.last-is)
    ]

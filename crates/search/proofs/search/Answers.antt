-- `search::search` meets its contract: of more terminals than the sets have, only those are looked at.
use mathlib.Core.Path.{sym, ap, ◌∙◌}
use Prim.Native.Nat.{ℕ}
use Rattle.search.specs.Verdicts.{verdict_by}
use Rattle.search.proofs.VerdictLaws.{in_sets_min}
use Rattle.search.proofs.search.Goals as goal

pub returns : goal.returns
returns c =
    c.from_plus.ensures
    ∙ ap (λ (t : ℕ). verdict_by c.args.near.now t c.args.winding c.args.allowance)
    (c.min.ensures ∙ sym (in_sets_min c.args.terminals))

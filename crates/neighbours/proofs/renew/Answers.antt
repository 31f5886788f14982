-- `neighbours::renew` meets its contract: these terminals are taken apart, then joined again.
use mathlib.Core.Path.{ap, ap₂, ◌∙◌}
use mathlib.Core.List.{List}
use Prim.Native.Nat.{ℕ}
use Rattle.board.specs.declared.Part.{Part}
use Rattle.neighbours.specs.Conduction.{conducts, conducts_bare}
use Rattle.neighbours.specs.Neighbours.{renewed_at}
use Rattle.neighbours.proofs.RenewLaws.{gathered-renewed}
use Rattle.neighbours.proofs.renew.Goals as goal

pub returns : goal.returns
returns c =
    ap₂ (λ (k l : List ℕ). record { near = k; bare = l })
    (c.gather.ensures.near_gathered ∙ gathered-renewed _ _ _ _ _ c.clear.ensures
    ∙ ap (λ (ps : List Part). renewed_at (conducts c.args.state) ps c.args.at c.args.sets.near) c.parts.ensures)
    (c.gather.ensures.bare_gathered ∙ gathered-renewed _ _ _ _ _ c.clear-2.ensures
    ∙ ap (λ (ps : List Part). renewed_at (conducts_bare c.args.state) ps c.args.at c.args.sets.bare) c.parts.ensures)

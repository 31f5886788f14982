-- `neighbours::neighbours` meets its contract: the pairs of all terminals, joined from none.
use mathlib.Core.Path.{refl, sym, ap, ap₂, ◌∙◌}
use mathlib.Core.List.{List}
use Prim.Native.Nat.{ℕ}
use Rattle.board.specs.declared.Part.{Part}
use Rattle.neighbours.specs.Conduction.{conducts, conducts_bare}
use Rattle.neighbours.specs.Neighbours.{sets_at}
use Rattle.neighbours.proofs.SetAtLaws.{neighbours_sets, bare_sets}
use Rattle.neighbours.proofs.RenewLaws.{gathered_all}
use Rattle.neighbours.proofs.neighbours.Goals as goal

pub returns : goal.returns
returns c =
    ap₂ (λ (k l : List ℕ). record { near = k; bare = l })
    (c.gather.ensures.near_gathered ∙ gathered_all (conducts c.args.state) _ _ refl
    ∙ ap (λ (ps : List Part). sets_at (conducts c.args.state) ps) c.parts.ensures
    ∙ sym (neighbours_sets c.args.board c.args.state))
    (c.gather.ensures.bare_gathered ∙ gathered_all (conducts_bare c.args.state) _ _ refl
    ∙ ap (λ (ps : List Part). sets_at (conducts_bare c.args.state) ps) c.parts.ensures
    ∙ sym (bare_sets c.args.board c.args.state))

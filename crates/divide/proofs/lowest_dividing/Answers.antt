-- `divide::lowest_dividing` meets its contract: the first terminal that is found to divide is the lowest that does.
use borrow.Author.Rules.{rules}
use mathlib.Core.Path.{◌≡◌}
use mathlib.Core.Bool.{true, false}
use Prim.Native.Nat.{ℕ}
use Rattle.std.proofs.lemmas.Iterator.{first_from_Range}
use Rattle.divide.specs.AtOnce.{divides}
use Rattle.divide.proofs.AtOnceLaws.{lowest_found}
use Rattle.divide.proofs.lowest_dividing.Goals as goal

pub returns : goal.returns
returns c =
    lowest_found _ _ _ _
    (first_from_Range _ _ _ _
    (λ (x : ℕ). divides c.args.near.now c.args.winding x ≡ true)
    (λ (x : ℕ). divides c.args.near.now c.args.winding x ≡ false)
    c.find.ensures.ran
    (λ x q k. search rules)
    (λ x q k. (search rules, search rules)))

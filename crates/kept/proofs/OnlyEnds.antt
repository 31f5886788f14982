-- What upkeep leaves alone: a terminal that is no end of a part that goes by what changed is not renewed.
use Prim.Native.Nat.{ℕ}
use mathlib.Core.Path.{◌≡◌, ap, ◌∙◌}
use mathlib.Core.Bool.{false}
use lib.ListN.{get_or}
use Rattle.bits.specs.Sets.{member}
use Rattle.bits.proofs.BoolLaws.{by_test}
use Rattle.board.specs.declared.Board.{Board}
use Rattle.board.specs.Parts.{parts_of}
use Rattle.neighbours.proofs.RenewLaws.{renewed_else}
use Rattle.kept.specs.declared.Change.{Change}
use Rattle.kept.specs.declared.Kept.{Kept}
use Rattle.kept.specs.Upkeep.{changed_ends}
use Rattle.kept.specs.OnlyEnds.{EndOf, OnlyEnds}
use Rattle.kept.proofs.UpkeepLaws.{ends-part}

ends_absent : (b : Board) (c : Change) (x : ℕ) → ¬ (EndOf b c x) → member (changed_ends c (parts_of b)) x ≡ false
ends_absent b c x none-ends =
    by_test (member (changed_ends c (parts_of b)) x)
    (λ is. absurd (none-ends (ends-part c x (parts_of b)
    (λ p among on ends. record { part = p; on_board = among; goes = on; ends = ends }) is)))
    (λ off. off)

pub only_ends : OnlyEnds
only_ends h b c t r changed x below none-ends =
    let off = ends_absent b c x none-ends in (
      ap (λ (k : Kept). get_or k.sets.near x 0) changed ∙ renewed_else _ (parts_of b) _ h.sets.near x below off,
      ap (λ (k : Kept). get_or k.sets.bare x 0) changed ∙ renewed_else _ (parts_of b) _ h.sets.bare x below off,
    )

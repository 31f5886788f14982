-- What is shown, and what it tells: each can be had from the other.
use mathlib.Core.Path.{◌≡◌}
use Rattle.refusals.proofs.Told.{Told}
use Rattle.lines.proofs.ToldLaws.{line-told}
use Rattle.events.specs.declared.Shown as code
use Rattle.events.specs.Events.{Shown, told_shown}

pub shown-told : Told told_shown
shown-told = record { untold = untold; back = back; onto = onto }
  where
    untold : Shown → code.Shown
    untold (l, h) = record { line = line-told.untold l; kept = h }

    back : (x : code.Shown) → untold (told_shown x) ≡ x
    back x = λ i. record { line = line-told.back x.line i; kept = x.kept }

    onto : (y : Shown) → told_shown (untold y) ≡ y
    onto (l, h) = λ i. (line-told.onto l i, h)

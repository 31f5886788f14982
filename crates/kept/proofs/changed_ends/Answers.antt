-- `kept::changed_ends` meets its contract. The invariant: the ends of all the parts are those so far with those of the
-- parts that are left besides.
use mathlib.Core.Path.{sym, ap, ◌∙◌}
use mathlib.Core.List.{List}
use Rattle.std.proofs.lemmas.List.{nil_from_length}
use Rattle.board.specs.declared.Part.{Part}
use Rattle.kept.proofs.UpkeepLaws.{ends_from, ends_from_none, ends_from_last, changed_ends_from}
use Rattle.kept.proofs.changed_ends.Goals as goal

pub loop-part-init : goal.loop-part-init
loop-part-init c =
    changed_ends_from c.args.change c.args.parts.now
    ∙ ap (λ (ps : List Part). ends_from c.args.change ps 0)
    (sym (ap (λ it. it.iter.rest.now) c.into_iter-part-iterator.ensures.into_iter_gives
    ∙ ap (λ it. it.rest.now) c.rev-part-items.ensures.source ∙ c.iter.ensures.rest))

pub loop-part-preserved : goal.loop-part-preserved
loop-part-preserved c =
    c.loop-part.invariant
    ∙ ap (λ (ps : List Part). ends_from c.args.change ps c.loop-part.ends) c.in-Some.ensures.steps
    ∙ ends_from_last c.args.change c.next.new.self.iter.rest.now c.in-Some.part.now c.loop-part.ends
    ∙ ap (ends_from c.args.change c.next.new.self.iter.rest.now) (sym c.with_ends-ends.ensures)

pub returns : goal.returns
returns c =
    sym (c.loop-part.invariant
    ∙ ap (λ (ps : List Part). ends_from c.args.change ps c.loop-part.ends) (nil_from_length _ c.in-None.ensures.steps.0)
    ∙ ends_from_none c.args.change c.loop-part.ends)

-- `neighbours::gather` meets its contract. The invariant: in both rows, by all parts that conduct and by those of them
-- that are no winding, what all the parts join comes to what the parts that are left join to the sets so far.
use mathlib.Core.Path.{◌≡◌, sym, ap, ◌∙◌}
use mathlib.Core.Bool.{true, false}
use mathlib.Core.Logic.{◌⊎◌, inl, inr}
use mathlib.Core.List.{List}
use Rattle.std.proofs.lemmas.List.{nil_from_length}
use Rattle.board.specs.declared.Part.{Part}
use Rattle.neighbours.specs.Conduction.{conducts, conducts_bare}
use Rattle.neighbours.specs.Rows.{among, among_by, gathered}
use Rattle.neighbours.proofs.JoinedLaws.{parts_bare, bare_winding, bare_off}
use Rattle.neighbours.proofs.RowLaws.{each_joined, each_apart, gathered_on, gathered_none}
use Rattle.neighbours.proofs.gather.Goals.{else-is_among-via-then-is_among+else-conducts}
use Rattle.neighbours.proofs.gather.Goals.{else-is_among-via-else-is_among}
use Rattle.neighbours.proofs.gather.Goals as goal

pub loop-part-init : goal.loop-part-init
loop-part-init c =
    let whole = sym (ap (λ it. it.iter.rest.now) c.into_iter-part-iterator.ensures.into_iter_gives
    ∙ ap (λ it. it.rest.now) c.rev-part-items.ensures.source ∙ c.iter.ensures.rest) in (
      ap (λ (ps : List Part). gathered (among_by c.args.at (conducts c.args.state)) ps c.args.near.now.sets) whole,
      ap (λ (ps : List Part). gathered (among_by c.args.at (conducts_bare c.args.state)) ps c.args.bare.now.sets) whole,
    )

pub loop-part-preserved : goal.loop-part-preserved
loop-part-preserved c =
    let p = c.in-Some.field-0.now in
    let off : (among c.args.at p ≡ false) ⊎ (conducts c.args.state p.kind ≡ false) = elim c.else-is_among.branch [
      | else-is_among-via-then-is_among+else-conducts w ↦ inr (sym w.conducts.ensures ∙ w.if-conducts.false)
      | else-is_among-via-else-is_among w ↦ inl (sym c.is_among.ensures ∙ w.if-is_among.false)
    ] in (
      gathered_on _ _ _ _ p _ _ _ c.loop-part.invariant.0 c.in-Some.ensures.steps
          (each_apart c.args.at (conducts c.args.state) p _ off),
      gathered_on _ _ _ _ p _ _ _ c.loop-part.invariant.1 c.in-Some.ensures.steps
          (each_apart c.args.at (conducts_bare c.args.state) p _ (bare_off c.args.state p.kind off)),
    )

pub loop-part-preserved-then-not-winds : goal.loop-part-preserved-then-not-winds
loop-part-preserved-then-not-winds c =
    let p = c.in-Some.field-0.now in
    let within : among c.args.at p ≡ true = sym c.is_among.ensures ∙ c.if-is_among.true in
    let on : conducts c.args.state p.kind ≡ true = sym c.conducts.ensures ∙ c.if-conducts.true in
    let bare = parts_bare c.args.state p.kind (sym c.winds.ensures ∙ c.if-not-winds.true) on in (
      gathered_on _ _ _ _ p _ _ _ c.loop-part.invariant.0 c.in-Some.ensures.steps
          (each_joined c.args.at (conducts c.args.state) p _ _ within on c.bridge.ensures),
      gathered_on _ _ _ _ p _ _ _ c.loop-part.invariant.1 c.in-Some.ensures.steps
          (each_joined c.args.at (conducts_bare c.args.state) p _ _ within bare c.bridge-then-not-winds.ensures),
    )

pub loop-part-preserved-else-not-winds : goal.loop-part-preserved-else-not-winds
loop-part-preserved-else-not-winds c =
    let p = c.in-Some.field-0.now in
    let within : among c.args.at p ≡ true = sym c.is_among.ensures ∙ c.if-is_among.true in
    let on : conducts c.args.state p.kind ≡ true = sym c.conducts.ensures ∙ c.if-conducts.true in
    let winding = bare_winding c.args.state p.kind (sym c.winds.ensures ∙ c.if-not-winds.false) in (
      gathered_on _ _ _ _ p _ _ _ c.loop-part.invariant.0 c.in-Some.ensures.steps
          (each_joined c.args.at (conducts c.args.state) p _ _ within on c.bridge.ensures),
      gathered_on _ _ _ _ p _ _ _ c.loop-part.invariant.1 c.in-Some.ensures.steps
          (each_apart c.args.at (conducts_bare c.args.state) p _ (inr winding)),
    )

pub returns-clause-near_gathered : goal.returns-clause-near_gathered
returns-clause-near_gathered c =
    sym (c.loop-part.invariant.0
    ∙ ap (λ (ps : List Part). gathered (among_by c.args.at (conducts c.args.state)) ps c.loop-part.near.sets)
    (nil_from_length _ c.in-None.ensures.steps.0)
    ∙ gathered_none (among_by c.args.at (conducts c.args.state)) c.loop-part.near.sets c.loop-part.near.whole)

pub returns-clause-bare_gathered : goal.returns-clause-bare_gathered
returns-clause-bare_gathered c =
    sym (c.loop-part.invariant.1
    ∙ ap (λ (ps : List Part). gathered (among_by c.args.at (conducts_bare c.args.state)) ps c.loop-part.bare.sets)
    (nil_from_length _ c.in-None.ensures.steps.0)
    ∙ gathered_none (among_by c.args.at (conducts_bare c.args.state)) c.loop-part.bare.sets c.loop-part.bare.whole)

-- The windings and marks so far are those counted over the parts so far: what rules 8, 9 and 17 say in the middle of a
-- file, by the counts of `specs/Sorts.antt`. The reader's refusals by 8, 9 and 17 go by these.
--     Tallied w ps r    of relay r the windings and marks w are those that the parts ps give, and it is of at most one
--                       sort
use Prim.Native.Nat.{ℕ, ◌+◌, ◌≤◌}
use native.Mathlib.Omega.{arith}
use mathlib.Core.Path.{◌≡◌, sym}
use mathlib.Core.Logic.{◌⊎◌}
use mathlib.Core.Bool.{Bool, true, false, not, ◌&&◌}
use mathlib.Core.List.{List, [], ◌∷◌, ◌++◌}
use lib.Dec.{eqb}
use borrow.Author.Tests.{eq-eqb, ne_eqb}
use Rattle.lists.proofs.CountedLaws.{worth}
use Rattle.bits.specs.Sets.{member}
use Rattle.bits.proofs.SetLaws.{member_none}
use Rattle.kinds.specs.Kinds.{regular_kind, drawing_kind, dropping_kind, mark_kind}
use Rattle.kinds.specs.declared.Kind.TheVariants.{Regular, Drawing, Dropping, Mark}
use Rattle.windings.specs.declared.WoundSoFar.{WoundSoFar}
use Rattle.windings.specs.Windings.{none_wound, winding_free, unmarked, gained, wound}
use Rattle.board.specs.declared.Part.{Part}
use Rattle.board.specs.declared.Counts.{Counts}
use Rattle.board.specs.Rules.{most_relays, part_fine}
use Rattle.board.specs.Sorts.{carries, count_of, IsRegular, IsSteel, marks_of}
use Rattle.board.proofs.WindingLaws.{MostOneSort, apart-gained, sums_same, end_sums, sums_end}
use Rattle.board.proofs.WindingLaws.{part_splits, part_gain}

pub record Tallied (w : WoundSoFar) (ps : List Part) (r : ℕ) : Type 0 where
  pub regular : worth (member w.regular r) ≡ count_of regular_kind r ps
  pub drawing : worth (member w.drawing r) ≡ count_of drawing_kind r ps
  pub dropping : worth (member w.dropping r) ≡ count_of dropping_kind r ps
  pub marked : worth (member w.marked r) ≡ marks_of r ps
  pub apart : MostOneSort w r

-- before the first part
pub tallied_none : (r : ℕ) → Tallied none_wound [] r
unfolding count_of
tallied_none r =
    record {
      regular = rw (member_none r);
      drawing = rw (member_none r);
      dropping = rw (member_none r);
      marked = rw (member_none r);
      apart = record { drawing = rw (member_none r) (omega arith); dropping = rw (member_none r) (omega arith) };
    }

-- after one more part that is fine
count_more : (j r : ℕ) (ps : List Part) (p : Part) → count_of j r (ps ++ (p ∷ [])) ≡ count_of j r ps + worth
    (carries j r p.kind)
unfolding count_of
count_more j r [] p = omega arith
count_more j r (q ∷ ps) p = omega (arith, count_more j r ps p)

pub tallied-gained : (c : Counts) → c.relays ≤ most_relays → (w : WoundSoFar) (ps : List Part) (p : Part) (r : ℕ)
    → part_fine c w p ≡ true → Tallied w ps r → Tallied (gained w p.kind) (ps ++ (p ∷ [])) r
tallied-gained c few w ps p r fine so_far =
    let more = part_gain c few w r p fine in
    record {
      regular = omega (arith, more.regular, so_far.regular, count_more regular_kind r ps p);
      drawing = omega (arith, more.drawing, so_far.drawing, count_more drawing_kind r ps p);
      dropping = omega (arith, more.dropping, so_far.dropping, count_more dropping_kind r ps p);
      marked = omega (arith, more.marked, so_far.marked, count_more mark_kind r ps p);
      apart = apart-gained w r p.kind (part_splits c w p fine).1 more so_far.apart;
    }

-- 8 and 17: a winding is free, and a relay not marked yet, where nothing is counted that bars it
clear_one : (g : Bool) (x : ℕ) → worth g ≡ x → not g ≡ eqb x 0
clear_one true x p = sym (ne_eqb x 0 (λ e. absurd (omega arith)))
clear_one false x p = sym (eq-eqb x 0 (omega arith))

clear_two : (g d : Bool) (x y : ℕ) → worth g ≡ x → worth d ≡ y → (not g && not d) ≡ eqb (x + y) 0
clear_two true d x y p q = sym (ne_eqb (x + y) 0 (λ e. absurd (omega arith)))
clear_two false true x y p q = sym (ne_eqb (x + y) 0 (λ e. absurd (omega arith)))
clear_two false false x y p q = sym (eq-eqb (x + y) 0 (omega arith))

clear_three : (g d s : Bool) (x y z : ℕ) → worth g ≡ x → worth d ≡ y → worth s ≡ z → (not g && (not d && not s)) ≡ eqb
    (x + (y + z)) 0
clear_three true d s x y z p q r = sym (ne_eqb (x + (y + z)) 0 (λ e. absurd (omega arith)))
clear_three false true s x y z p q r = sym (ne_eqb (x + (y + z)) 0 (λ e. absurd (omega arith)))
clear_three false false true x y z p q r = sym (ne_eqb (x + (y + z)) 0 (λ e. absurd (omega arith)))
clear_three false false false x y z p q r = sym (eq-eqb (x + (y + z)) 0 (omega arith))

module _ (w : WoundSoFar) (ps : List Part) (r : ℕ) (so_far : Tallied w ps r) where
  pub regular_tallied : winding_free w (Regular r) ≡ eqb
      (count_of regular_kind r ps + (count_of drawing_kind r ps + count_of dropping_kind r ps)) 0
  regular_tallied = clear_three (member w.regular r) (member w.drawing r) (member w.dropping r) _ _ _
      so_far.regular so_far.drawing so_far.dropping

  pub drawing_tallied : winding_free w (Drawing r) ≡ eqb (count_of regular_kind r ps + count_of drawing_kind r ps) 0
  drawing_tallied = clear_two (member w.regular r) (member w.drawing r) _ _ so_far.regular so_far.drawing

  pub dropping_tallied : winding_free w (Dropping r) ≡ eqb (count_of regular_kind r ps + count_of dropping_kind r ps) 0
  dropping_tallied = clear_two (member w.regular r) (member w.dropping r) _ _ so_far.regular so_far.dropping

  -- 17: a relay is not marked yet where no mark of it is counted
  pub mark_tallied : unmarked w (Mark r) ≡ eqb (marks_of r ps) 0
  mark_tallied = clear_one (member w.marked r) _ so_far.marked

  -- 9: a relay lacks no winding exactly if it is regular or steel-core
  pub tallied-wound : wound w r ≡ true → IsRegular r ps ⊎ IsSteel r ps
  tallied-wound all =
      sums_same (omega (arith, so_far.regular)) (omega (arith, so_far.drawing)) (omega (arith, so_far.dropping))
      (end_sums (member w.regular r) (member w.drawing r) (member w.dropping r) all so_far.apart.drawing
      so_far.apart.dropping)

  pub wound_tallied : IsRegular r ps ⊎ IsSteel r ps → wound w r ≡ true
  wound_tallied sort =
      sums_end (member w.regular r) (member w.drawing r) (member w.dropping r)
      (sums_same (omega (arith, so_far.regular)) (omega (arith, so_far.drawing)) (omega (arith, so_far.dropping))
      sort)

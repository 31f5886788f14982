-- The theorems of specs/BreaksNoRule.antt: each test of `board_fine` says one of its sentences, and holds where the
-- sentence does.
use Prim.Native.Nat.{ℕ, ◌≤◌, ◌<◌}
use native.Mathlib.Omega.{arith}
use mathlib.Core.Path.{◌≡◌, refl, sym, ap, ◌∙◌}
use mathlib.Core.Logic.{◌⊎◌, ◌↔◌, inl, inr}
use mathlib.Core.Bool.{Bool, true, not, ◌&&◌, ◌||◌}
use mathlib.Core.List.{List, [], ◌∷◌}
use lib.Dec.{ltb, eqb}
use borrow.Author.Tests.{ltb-true, lt-ltb, le-leb, eqb-false, ne_eqb, not-true}
use Rattle.lists.specs.Members.{All}
use Rattle.bits.specs.Sets.{member}
use Rattle.bits.proofs.SetLaws.{members_equal}
use Rattle.kinds.specs.Kinds.{kind_number, mark_kind}
use Rattle.kinds.specs.declared.Kind.{Kind}
use Rattle.kinds.specs.declared.Kind.TheVariants.{Wire, Upper, Lower, Button, Regular, Drawing, Dropping, Mark}
use Rattle.board.specs.declared.Part.{Part}
use Rattle.board.specs.declared.Counts.{Counts}
use Rattle.board.specs.declared.Board.{Board}
use Rattle.board.specs.Parts.{parts_of, most_parts}
use Rattle.board.specs.Rules.{least_terminals, most_terminals, most_relays, most_buttons, in_range, counts_fine}
use Rattle.board.specs.Rules.{terminal_fine, ends_fine, name_fine, ends_fit, part_fits, start_of, board_fine}
use Rattle.board.specs.Sorts.{IsRegular, IsSteel}
use Rattle.board.specs.BreaksNoRule.{InRange, Names, EndsFit, Fits, BoardFits, BreaksNoRule}
use Rattle.board.specs.BreaksNoRule.{FifteenExactly, EveryRelaySort}
use Rattle.bits.proofs.BoolLaws.{both_true, true_both, by_test, both_ways}
use Rattle.board.proofs.FineLaws.{splits_fine, fine_range, fine_parts_fit, fine_relays_wound}
use Rattle.board.proofs.FineLaws.{fine_relays_marked_once, fine-starts_marked}
use Rattle.board.proofs.WindingLaws.{parts_fit, wound_fine, start-marked}

-- ---- 3: the counts

range_test : (low high x : ℕ) → low ≤ x → x ≤ high → in_range low high x ≡ true
unfolding in_range
range_test low high x least most = true_both (le-leb low x least) (le-leb x high most)

range_counts : (c : Counts) → InRange c → counts_fine c ≡ true
unfolding counts_fine
range_counts c fit =
    true_both
    (true_both
    (true_both
    (range_test least_terminals most_terminals c.terminals fit.terminals_enough fit.terminals_few)
    (range_test 0 most_relays c.relays (omega arith) fit.relays_few))
    (range_test 0 most_buttons c.buttons (omega arith) fit.buttons_few))
    (range_test 0 most_parts c.parts (omega arith) fit.parts_few)

-- ---- 5 to 7: a part, and all of them

below_exactly : (n limit : ℕ) → ltb n limit ≡ true ↔ n < limit
below_exactly n limit = (ltb-true n limit, lt-ltb n limit)

apart_test : (a b : ℕ) → ¬ (a ≡ b) → not (eqb a b) ≡ true
apart_test a b differ = rw (ne_eqb a b differ)

module _ (c : Counts) where
  name_exactly : (k : Kind) → name_fine c k ≡ true ↔ Names c k
  unfolding name_fine
  name_exactly Wire = (λ fine. tt, λ named. refl)
  name_exactly (Upper n) = below_exactly n c.relays
  name_exactly (Lower n) = below_exactly n c.relays
  name_exactly (Button n) = below_exactly n c.buttons
  name_exactly (Regular n) = below_exactly n c.relays
  name_exactly (Drawing n) = below_exactly n c.relays
  name_exactly (Dropping n) = below_exactly n c.relays
  name_exactly (Mark n) = below_exactly n c.relays

  -- the three tests of two ends
  ends_tests : ℕ → ℕ → Bool
  ends_tests x y = terminal_fine c x && terminal_fine c y && ends_fine x y

  ends_exactly : (p : Part) → ends_tests p.a p.b ≡ true ↔ EndsFit c p
  unfolding ends_tests
  ends_exactly p = (
    λ fine. let apart = both_true _ _ fine in
        let below = both_true _ _ apart.0 in
        record {
          a_below = ltb-true p.a c.terminals below.0;
          b_below = ltb-true p.b c.terminals below.1;
          ends_differ = eqb-false p.a p.b (not-true (eqb p.a p.b) apart.1);
        },
    λ fit. true_both
        (true_both (lt-ltb p.a c.terminals fit.a_below) (lt-ltb p.b c.terminals fit.b_below))
        (apart_test p.a p.b fit.ends_differ),
  )

  pub part_fits_lem : (p : Part) → part_fits c p ≡ true → Fits c p
  unfolding part_fits ends_fit ends_tests
  part_fits_lem p fine =
      let named = both_true _ _ fine in
      record {
        ends = λ joins. (ends_exactly p).0 (sym (ap (λ (t : Bool). t || ends_tests p.a p.b)
            (ne_eqb (kind_number p.kind) mark_kind joins)) ∙ named.0);
        named = (name_exactly p.kind).0 named.1;
      }

  part_test : (p : Part) → Fits c p → part_fits c p ≡ true
  unfolding part_fits ends_fit ends_tests
  part_test p fits =
      let ends : ends_fit c p ≡ true =
      by_test (eqb (kind_number p.kind) mark_kind)
      (λ mark. simp mark)
      (λ joins. simp (joins, (ends_exactly p).1 (fits.ends (eqb-false (kind_number p.kind) mark_kind joins)))) in
      true_both ends ((name_exactly p.kind).1 fits.named)

  parts_fit_lem : (ps : List Part) → parts_fit c ps ≡ true → All (Fits c) ps
  unfolding parts_fit
  parts_fit_lem [] fine = tt
  parts_fit_lem (p ∷ ps) fine =
      let both = both_true (part_fits c p) (parts_fit c ps) fine in (part_fits_lem p both.0, parts_fit_lem ps both.1)

  parts_test : (ps : List Part) → All (Fits c) ps → parts_fit c ps ≡ true
  unfolding parts_fit
  parts_test [] fit = refl
  parts_test (p ∷ ps) fit = true_both (part_test p fit.0) (parts_test ps fit.1)

-- ---- the theorems

pub fine_fits : (b : Board) → board_fine b ≡ true → BoardFits b
fine_fits b fine =
    record {
      counts = fine_range b fine;
      parts = parts_fit_lem b.counts (parts_of b) (fine_parts_fit b fine);
    }

fine_breaks_none : (b : Board) → board_fine b ≡ true → BreaksNoRule b
fine_breaks_none b fine =
    record {
      fits = fine_fits b fine;
      relays = fine_relays_wound b fine;
      marks = fine_relays_marked_once b fine;
      start = fine-starts_marked b fine;
    }

breaks_none_fine : (b : Board) → BreaksNoRule b → board_fine b ≡ true
breaks_none_fine b none =
    let few = none.fits.counts.relays_few in
    let row =
    wound_fine b.counts (parts_of b) few none.relays none.marks
    (parts_test b.counts (parts_of b) none.fits.parts) in
    splits_fine b
    (record {
      counts = range_counts b.counts none.fits.counts;
      parts = row.0;
      whole = row.1;
      start = members_equal b.start (start_of (parts_of b)) (λ r.
          let given = start-marked b.counts (parts_of b) few row.0 r in
          both_ways (member b.start r) (member (start_of (parts_of b)) r)
          (λ on. given.1 ((none.start r).0 on)) (λ on. (none.start r).1 (given.0 on)));
    })

pub fifteen_exactly : FifteenExactly
fifteen_exactly b fine is = (λ on. fine_breaks_none b (sym is ∙ on), λ none. is ∙ breaks_none_fine b none)

module _ (r : ℕ) (ps : List Part) where
  sort_exclusive : IsRegular r ps → IsSteel r ps → ⊥
  sort_exclusive regular steel = omega (arith, regular.0, steel.0)

  one_sort : IsRegular r ps ⊎ IsSteel r ps → (IsRegular r ps × ¬ (IsSteel r ps)) ⊎ (IsSteel r ps × ¬ (IsRegular r ps))
  one_sort (inl regular) = inl (regular, sort_exclusive regular)
  one_sort (inr steel) = inr (steel, λ regular. sort_exclusive regular steel)

pub every_relay_sort : EveryRelaySort
every_relay_sort b r fine below = one_sort r (parts_of b) (fine_relays_wound b fine r below)

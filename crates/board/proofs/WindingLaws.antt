-- Rules 8 and 9 stand for the rule book's sentence "Every relay is regular, with exactly one part of kind 4, or
-- steel-core, with exactly one of kind 5 and one of kind 6", and 17 for "relay marked twice": parts break none of 5 to
-- 9 and 17 exactly if each keeps 5 to 7, every relay is of one sort and none is marked twice. A relay's sum for a kind
-- is what the windings or marks have of it already, 1 or 0, and the parts still to come that give it. A part only moves
-- 1 from the parts to those, so the sums stay as they are along the parts.
use Prim.Native.Nat.{ℕ, ◌+◌, ◌≤◌, ◌<◌}
use native.Mathlib.Omega.{arith}
use mathlib.Core.Path.{◌≡◌, refl, sym, ap, ◌∙◌}
use mathlib.Core.Logic.{◌⊎◌, ◌↔◌, inl, inr}
use mathlib.Core.Bool.{Bool, true, false, not, ◌&&◌, ◌||◌, false≢true}
use mathlib.Core.List.{List, [], ◌∷◌}
use lib.Dec.{ltb, eqb}
use borrow.Author.Tests.{ltb-true, eqb-true, eqb-false, eq-eqb, not-true}
use Rattle.lists.proofs.CountedLaws.{worth}
use Rattle.bits.specs.Sets.{room, member, including}
use Rattle.bits.proofs.SetLaws.{member-including-same, member-including_other, member_none}
use Rattle.kinds.specs.Kinds.{kind_number, name_of, button_kind, regular_kind, drawing_kind, dropping_kind, mark_kind}
use Rattle.kinds.specs.declared.Kind.{Kind}
use Rattle.kinds.specs.declared.Kind.TheVariants.{Wire, Upper, Lower, Button, Regular, Drawing, Dropping, Mark}
use Rattle.windings.specs.declared.WoundSoFar.{WoundSoFar}
use Rattle.windings.specs.Windings.{none_wound, winding_free, unmarked, gained, wound, complete}
use Rattle.board.specs.declared.Part.{Part}
use Rattle.board.specs.declared.Counts.{Counts}
use Rattle.board.specs.Rules.{most_relays, ends_fit, name_fine, part_fits, part_fine, gained_all, parts_fine}
use Rattle.board.specs.Rules.{start_of}
use Rattle.board.specs.Sorts.{carries, count_of, Wound, marks_of, MarkedOnce, IsMarked}
use Rattle.bits.proofs.BoolLaws.{both_true, true_both, by_test}
use Rattle.windings.proofs.EveryLaws.{every-below, below-every}

-- ---- a test as a number

worth_none : (t : Bool) → worth t ≡ 0 → not t ≡ true
worth_none true e = absurd (omega arith)
worth_none false e = refl

worth_some : (t : Bool) → 1 ≤ worth t → t ≡ true
worth_some true some = refl
worth_some false some = absurd (omega arith)

worth_most : (t : Bool) → worth t ≤ 1
worth_most true = omega arith
worth_most false = omega arith

-- a new member n counts for r exactly if r is n
including_worth : (s n r : ℕ) → n < room → member s n ≡ false → worth (member (including s n) r) ≡ worth
    (member s r) + worth (eqb n r)
including_worth s n r fits clear =
    by_test (eqb n r)
    (λ same. rw (same, ← eqb-true n r same, clear, member-including-same s n fits))
    (λ other. rw (other, member-including_other s n r (λ e. eqb-false n r other (sym e))) (omega arith))

-- what is no member at n leaves room for 1 at r if r is n
absent-room : (s n r : ℕ) → member s n ≡ false → worth (eqb n r) + worth (member s r) ≤ 1
absent-room s n r clear =
    by_test (eqb n r)
    (λ same. rw (same, ← eqb-true n r same, clear) (omega arith))
    (λ other. rw other (omega (arith, worth_most (member s r))))

-- ---- what a part's kind does to the windings and marks of a relay r

-- relay r is of at most one sort so far
pub record MostOneSort (w : WoundSoFar) (r : ℕ) : Type 0 where
  pub drawing : worth (member w.regular r) + worth (member w.drawing r) ≤ 1
  pub dropping : worth (member w.regular r) + worth (member w.dropping r) ≤ 1

-- a part of kind k that is free and names a relay counts for r where it carries r, and nowhere else
pub record Gain (w : WoundSoFar) (k : Kind) (r : ℕ) : Type 0 where
  pub regular : worth (member (gained w k).regular r) ≡ worth (member w.regular r) + worth (carries regular_kind r k)
  pub drawing : worth (member (gained w k).drawing r) ≡ worth (member w.drawing r) + worth (carries drawing_kind r k)
  pub dropping : worth (member (gained w k).dropping r) ≡ worth (member w.dropping r)
      + worth (carries dropping_kind r k)
  pub marked : worth (member (gained w k).marked r) ≡ worth (member w.marked r) + worth (carries mark_kind r k)

-- what 8 says of a free kind's relay: it has this winding not yet, and is not of the other sort
in_neither : (s t n : ℕ) → (not (member s n) && not (member t n)) ≡ true → (member s n ≡ false) × (member t n ≡ false)
in_neither s t n free =
    let both = both_true (not (member s n)) (not (member t n)) free in
    (not-true _ both.0, not-true _ both.1)

regular_free : (w : WoundSoFar) (n : ℕ) → winding_free w (Regular n) ≡ true → (member w.regular n ≡ false)
    × (member w.drawing n ≡ false) × (member w.dropping n ≡ false)
regular_free w n free =
    let both =
    both_true (not (member w.regular n)) (not (member w.drawing n) && not (member w.dropping n)) free
    in
    let others = in_neither w.drawing w.dropping n both.1 in
    (not-true _ both.0, others.0, others.1)

-- a name that 7 allows has room in a set
named-room : (c : Counts) (n : ℕ) → c.relays ≤ most_relays → ltb n c.relays ≡ true → n < room
named-room c n few named = omega (arith, ltb-true n c.relays named)

module _ (c : Counts) (few : c.relays ≤ most_relays) (w : WoundSoFar) (r : ℕ) where
  gain : (k : Kind) → name_fine c k ≡ true → winding_free w k ≡ true → unmarked w k ≡ true → Gain w k r
  unfolding name_fine carries
  gain Wire named free once =
      record { regular = omega arith; drawing = omega arith; dropping = omega arith; marked = omega arith }
  gain (Upper n) named free once =
      record { regular = omega arith; drawing = omega arith; dropping = omega arith; marked = omega arith }
  gain (Lower n) named free once =
      record { regular = omega arith; drawing = omega arith; dropping = omega arith; marked = omega arith }
  gain (Button n) named free once =
      record { regular = omega arith; drawing = omega arith; dropping = omega arith; marked = omega arith }
  gain (Regular n) named free once =
      record {
        regular = including_worth w.regular n r (named-room c n few named) (regular_free w n free).0;
        drawing = omega arith;
        dropping = omega arith;
        marked = omega arith;
      }
  gain (Drawing n) named free once =
      record {
        regular = omega arith;
        drawing = including_worth w.drawing n r (named-room c n few named)
            (in_neither w.regular w.drawing n free).1;
        dropping = omega arith;
        marked = omega arith;
      }
  gain (Dropping n) named free once =
      record {
        regular = omega arith;
        drawing = omega arith;
        dropping = including_worth w.dropping n r
            (named-room c n few named) (in_neither w.regular w.dropping n free).1;
        marked = omega arith;
      }
  gain (Mark n) named free once =
      record {
        regular = omega arith;
        drawing = omega arith;
        dropping = omega arith;
        marked = including_worth w.marked n r (named-room c n few named) (not-true _ once);
      }

-- a relay stays of at most one sort
pub apart-gained : (w : WoundSoFar) (r : ℕ) (k : Kind) → winding_free w k ≡ true → Gain w k r → MostOneSort w r
    → MostOneSort (gained w k) r
unfolding carries
apart-gained w r Wire free more apart = apart
apart-gained w r (Upper n) free more apart = apart
apart-gained w r (Lower n) free more apart = apart
apart-gained w r (Button n) free more apart = apart
apart-gained w r (Mark n) free more apart = record { drawing = apart.drawing; dropping = apart.dropping }
apart-gained w r (Regular n) free more apart =
    let absent = regular_free w n free in
    let at-regular = absent-room w.regular n r absent.0 in
    let at-drawing = absent-room w.drawing n r absent.1 in
    let at-dropping = absent-room w.dropping n r absent.2 in
    record { drawing = omega arith; dropping = omega arith }
apart-gained w r (Drawing n) free more apart =
    let absent = in_neither w.regular w.drawing n free in
    let at-regular = absent-room w.regular n r absent.0 in
    let at-drawing = absent-room w.drawing n r absent.1 in
    record { drawing = omega arith; dropping = omega arith }
apart-gained w r (Dropping n) free more apart =
    let absent = in_neither w.regular w.dropping n free in
    let at-regular = absent-room w.regular n r absent.0 in
    let at-dropping = absent-room w.dropping n r absent.1 in
    record { drawing = omega arith; dropping = omega arith }

-- ---- a relay's sums

-- the sums of a relay of one sort: 1, 0, 0 if it is regular and 0, 1, 1 if it is steel-core
abbrev pub Sums : ℕ → ℕ → ℕ → Type 0
Sums x y z = ((x ≡ 1) × (y ≡ 0) × (z ≡ 0)) ⊎ ((x ≡ 0) × (y ≡ 1) × (z ≡ 1))

pub sums_same : {x y z x' y' z' : ℕ} → x ≡ x' → y ≡ y' → z ≡ z' → Sums x y z → Sums x' y' z'
sums_same p q r (inl (x, y, z)) = inl (sym p ∙ x, sym q ∙ y, sym r ∙ z)
sums_same p q r (inr (x, y, z)) = inr (sym p ∙ x, sym q ∙ y, sym r ∙ z)

abbrev OneSort : WoundSoFar → ℕ → List Part → Type 0
OneSort w r ps =
    Sums (worth (member w.regular r) + count_of regular_kind r ps)
    (worth (member w.drawing r) + count_of drawing_kind r ps)
    (worth (member w.dropping r) + count_of dropping_kind r ps)

abbrev mark_sum : WoundSoFar → ℕ → List Part → ℕ
mark_sum w r ps = worth (member w.marked r) + marks_of r ps

-- a part's 1 moves from the parts to the windings or marks
sort-before : (w : WoundSoFar) (r : ℕ) (p : Part) (ps : List Part) → Gain w p.kind r
    → OneSort (gained w p.kind) r ps → OneSort w r (p ∷ ps)
unfolding count_of
sort-before w r p ps more =
    sums_same (omega (arith, more.regular)) (omega (arith, more.drawing)) (omega (arith, more.dropping))

sort_after : (w : WoundSoFar) (r : ℕ) (p : Part) (ps : List Part) → Gain w p.kind r → OneSort w r (p ∷ ps)
    → OneSort (gained w p.kind) r ps
unfolding count_of
sort_after w r p ps more =
    sums_same (omega (arith, more.regular)) (omega (arith, more.drawing)) (omega (arith, more.dropping))

mark-moves : (w : WoundSoFar) (r : ℕ) (p : Part) (ps : List Part) → Gain w p.kind r
    → mark_sum (gained w p.kind) r ps ≡ mark_sum w r (p ∷ ps)
unfolding count_of
mark-moves w r p ps more = omega (arith, more.marked)

-- with no parts to come the sums are the windings alone
pub end_sums : (g d s : Bool) → (g || d && s) ≡ true → worth g + worth d ≤ 1 → worth g + worth s ≤ 1
    → Sums (worth g + 0) (worth d + 0) (worth s + 0)
end_sums true true s all drawing dropping = absurd (omega arith)
end_sums true false true all drawing dropping = absurd (omega arith)
end_sums true false false all drawing dropping = inl (refl, refl, refl)
end_sums false true true all drawing dropping = inr (refl, refl, refl)
end_sums false true false all drawing dropping = absurd (false≢true all)
end_sums false false s all drawing dropping = absurd (false≢true all)

pub sums_end : (g d s : Bool) → Sums (worth g + 0) (worth d + 0) (worth s + 0) → (g || d && s) ≡ true
sums_end true d s sums = refl
sums_end false true true sums = refl
sums_end false true false (inl (x, y, z)) = absurd (omega arith)
sums_end false true false (inr (x, y, z)) = absurd (omega arith)
sums_end false false s (inl (x, y, z)) = absurd (omega arith)
sums_end false false s (inr (x, y, z)) = absurd (omega arith)

-- a part whose relay's sums are of one sort is free
regular_sums : (g d s : Bool) (one x y z : ℕ) → one ≡ 1 → Sums (worth g + (one + x)) (worth d + (0 + y))
    (worth s + (0 + z)) → (not g && (not d && not s)) ≡ true
regular_sums g d s one x y z e (inl (p, q, r)) =
    true_both (worth_none g (omega arith)) (true_both (worth_none d (omega arith)) (worth_none s (omega arith)))
regular_sums g d s one x y z e (inr (p, q, r)) = absurd (omega arith)

drawing_sums : (g d : Bool) (one x y z : ℕ) → one ≡ 1 → Sums (worth g + (0 + x)) (worth d + (one + y)) z
    → (not g && not d) ≡ true
drawing_sums g d one x y z e (inl (p, q, r)) = absurd (omega arith)
drawing_sums g d one x y z e (inr (p, q, r)) = true_both (worth_none g (omega arith)) (worth_none d (omega arith))

dropping_sums : (g s : Bool) (one x y z : ℕ) → one ≡ 1 → Sums (worth g + (0 + x)) y (worth s + (one + z))
    → (not g && not s) ≡ true
dropping_sums g s one x y z e (inl (p, q, r)) = absurd (omega arith)
dropping_sums g s one x y z e (inr (p, q, r)) = true_both (worth_none g (omega arith)) (worth_none s (omega arith))

module _ (c : Counts) (w : WoundSoFar) (ps : List Part) where
  sorted_free : (a b : ℕ) (k : Kind) → name_fine c k ≡ true
      → ((r : ℕ) → r < c.relays → OneSort w r (record { a = a; b = b; kind = k } ∷ ps)) → winding_free w k ≡ true
  unfolding name_fine count_of carries
  sorted_free a b Wire named sorts = refl
  sorted_free a b (Upper n) named sorts = refl
  sorted_free a b (Lower n) named sorts = refl
  sorted_free a b (Button n) named sorts = refl
  sorted_free a b (Regular n) named sorts =
      regular_sums (member w.regular n) (member w.drawing n) (member w.dropping n) _ _ _ _
      (ap worth (eq-eqb n n refl)) (sorts n (ltb-true n c.relays named))
  sorted_free a b (Drawing n) named sorts =
      drawing_sums (member w.regular n) (member w.drawing n) _ _ _ _
      (ap worth (eq-eqb n n refl)) (sorts n (ltb-true n c.relays named))
  sorted_free a b (Dropping n) named sorts =
      dropping_sums (member w.regular n) (member w.dropping n) _ _ _ _
      (ap worth (eq-eqb n n refl)) (sorts n (ltb-true n c.relays named))
  sorted_free a b (Mark n) named sorts = refl

  once-unmarked : (a b : ℕ) (k : Kind) → name_fine c k ≡ true
      → ((r : ℕ) → r < c.relays → mark_sum w r (record { a = a; b = b; kind = k } ∷ ps) ≤ 1) → unmarked w k ≡ true
  unfolding name_fine count_of carries
  once-unmarked a b Wire named once = refl
  once-unmarked a b (Upper n) named once = refl
  once-unmarked a b (Lower n) named once = refl
  once-unmarked a b (Button n) named once = refl
  once-unmarked a b (Regular n) named once = refl
  once-unmarked a b (Drawing n) named once = refl
  once-unmarked a b (Dropping n) named once = refl
  once-unmarked a b (Mark n) named once =
      worth_none (member w.marked n)
      (omega (arith, ap worth (eq-eqb n n refl), once n (ltb-true n c.relays named)))

-- ---- along the parts

-- 5 to 7 of every part
unfoldable pub parts_fit : Counts → List Part → Bool
parts_fit c [] = true
parts_fit c (p ∷ ps) = part_fits c p && parts_fit c ps

pub part_splits : (c : Counts) (w : WoundSoFar) (p : Part) → part_fine c w p ≡ true → (part_fits c p ≡ true)
    × (winding_free w p.kind ≡ true) × (unmarked w p.kind ≡ true)
unfolding part_fine
part_splits c w p fine =
    let last = both_true _ _ fine in
    let first = both_true (part_fits c p) (winding_free w p.kind) last.0 in
    (first.0, first.1, last.1)

splits-part : (c : Counts) (w : WoundSoFar) (p : Part) → part_fits c p ≡ true → winding_free w p.kind ≡ true
    → unmarked w p.kind ≡ true → part_fine c w p ≡ true
unfolding part_fine
splits-part c w p fits free once = true_both (true_both fits free) once

pub part_named : (c : Counts) (p : Part) → part_fits c p ≡ true → name_fine c p.kind ≡ true
unfolding part_fits
part_named c p fits = (both_true (ends_fit c p) (name_fine c p.kind) fits).1

-- what a part that is fine gives
pub part_gain : (c : Counts) → c.relays ≤ most_relays → (w : WoundSoFar) (r : ℕ) (p : Part) → part_fine c w p ≡ true
    → Gain w p.kind r
part_gain c few w r p fine =
    let part = part_splits c w p fine in
    gain c few w r p.kind (part_named c p part.0) part.1 part.2

fine_sort : (c : Counts) → c.relays ≤ most_relays → (r : ℕ) → r < c.relays → (w : WoundSoFar) (ps : List Part)
    → MostOneSort w r → parts_fine c w ps ≡ true → complete c.relays (gained_all w ps) ≡ true → OneSort w r ps
unfolding parts_fine gained_all complete count_of
fine_sort c few r below w [] apart fine whole =
    end_sums (member w.regular r) (member w.drawing r) (member w.dropping r)
    (every-below (wound w) c.relays r whole below) apart.drawing apart.dropping
fine_sort c few r below w (p ∷ ps) apart fine whole =
    let both = both_true (part_fine c w p) (parts_fine c (gained w p.kind) ps) fine in
    let more = part_gain c few w r p both.0 in
    sort-before w r p ps more (fine_sort c few r below (gained w p.kind) ps
    (apart-gained w r p.kind (part_splits c w p both.0).1 more apart) both.1 whole)

sort_fine : (c : Counts) → c.relays ≤ most_relays → (w : WoundSoFar) (ps : List Part) → parts_fit c ps ≡ true
    → ((r : ℕ) → r < c.relays → OneSort w r ps) → ((r : ℕ) → r < c.relays → mark_sum w r ps ≤ 1)
    → (parts_fine c w ps ≡ true) × (complete c.relays (gained_all w ps) ≡ true)
unfolding parts_fine gained_all parts_fit complete count_of
sort_fine c few w [] fit sorts once = (
  refl,
  below-every (wound w) c.relays (λ r below. sums_end (member w.regular r) (member w.drawing r)
      (member w.dropping r) (sorts r below)),
)
sort_fine c few w (p ∷ ps) fit sorts once =
    let both = both_true (part_fits c p) (parts_fit c ps) fit in
    let named = part_named c p both.0 in
    let free = sorted_free c w ps p.a p.b p.kind named sorts in
    let new = once-unmarked c w ps p.a p.b p.kind named once in
    let more : (r : ℕ) → Gain w p.kind r = λ r. gain c few w r p.kind named free new in
    let rest =
    sort_fine c few (gained w p.kind) ps both.1
    (λ r below. sort_after w r p ps (more r) (sorts r below))
    (λ r below. omega (arith, mark-moves w r p ps (more r), once r below)) in
    (true_both (splits-part c w p both.0 free new) rest.0, rest.1)

-- the marks after parts that are fine are those before them and those that they give
marks-gained : (c : Counts) → c.relays ≤ most_relays → (r : ℕ) (w : WoundSoFar) (ps : List Part)
    → parts_fine c w ps ≡ true → worth (member (gained_all w ps).marked r) ≡ mark_sum w r ps
unfolding parts_fine gained_all count_of
marks-gained c few r w [] fine = omega arith
marks-gained c few r w (p ∷ ps) fine =
    let both = both_true (part_fine c w p) (parts_fine c (gained w p.kind) ps) fine in
    marks-gained c few r (gained w p.kind) ps both.1 ∙ mark-moves w r p ps (part_gain c few w r p both.0)

-- ---- a relay that the board has not is carried by no part

-- j is the number of a kind that carries a relay
module _ (c : Counts) (r j : ℕ) (some : eqb j 0 ≡ false) (relay : eqb j button_kind ≡ false) where
  carried-below : (k : Kind) → name_fine c k ≡ true → carries j r k ≡ true → r < c.relays
  unfolding name_fine carries
  carried-below k named on =
      let both = both_true (eqb (kind_number k) j) (eqb (name_of k) r) on in
      ltb-true r c.relays (rw (eqb-true (kind_number k) j both.0, eqb-true (name_of k) r both.1, some, relay)
      at named)

  past_free : (k : Kind) → name_fine c k ≡ true → c.relays ≤ r → carries j r k ≡ false
  past_free k named past =
      by_test (carries j r k) (λ on. absurd (omega (arith, past, carried-below k named on))) (λ off. off)

  pub past_none : (ps : List Part) → parts_fit c ps ≡ true → c.relays ≤ r → count_of j r ps ≡ 0
  unfolding count_of parts_fit
  past_none [] fit past = refl
  past_none (p ∷ ps) fit past =
      let both = both_true (part_fits c p) (parts_fit c ps) fit in
      omega (arith, ap worth (past_free p.kind (part_named c p both.0) past), past_none ps both.1 past)

-- ---- the rule book's sentences

-- before the first part each sum is the parts' alone
none_sum : (r n : ℕ) → worth (member 0 r) + n ≡ n
none_sum r n = rw (member_none r) (omega arith)

pub fine_fit : (c : Counts) (w : WoundSoFar) (ps : List Part) → parts_fine c w ps ≡ true → parts_fit c ps ≡ true
unfolding parts_fine parts_fit
fine_fit c w [] fine = refl
fine_fit c w (p ∷ ps) fine =
    let both = both_true (part_fine c w p) (parts_fine c (gained w p.kind) ps) fine in
    true_both (part_splits c w p both.0).0 (fine_fit c (gained w p.kind) ps both.1)

module _ (c : Counts) (ps : List Part) (few : c.relays ≤ most_relays) where
  pub fine-wound : parts_fine c none_wound ps ≡ true → complete c.relays (gained_all none_wound ps) ≡ true
      → Wound c.relays ps
  fine-wound fine whole r below =
      sums_same (none_sum r _) (none_sum r _) (none_sum r _)
      (fine_sort c few r below none_wound ps
      (record { drawing = rw (member_none r) (omega arith); dropping = rw (member_none r) (omega arith) }) fine whole)

  pub wound_fine : Wound c.relays ps → MarkedOnce c.relays ps → parts_fit c ps ≡ true
      → (parts_fine c none_wound ps ≡ true) × (complete c.relays (gained_all none_wound ps) ≡ true)
  wound_fine wound once fit =
      sort_fine c few none_wound ps fit
      (λ r below. sums_same (sym (none_sum r _)) (sym (none_sum r _)) (sym (none_sum r _)) (wound r below))
      (λ r below. omega (arith, none_sum r (marks_of r ps), once r below))

  -- the start that the marks give counts each of them
  start_sum : parts_fine c none_wound ps ≡ true → (r : ℕ) → worth (member (start_of ps) r) ≡ marks_of r ps
  start_sum fine r = marks-gained c few r none_wound ps fine ∙ none_sum r (marks_of r ps)

  pub fine-marked_once : parts_fine c none_wound ps ≡ true → MarkedOnce c.relays ps
  fine-marked_once fine r below = omega (arith, start_sum fine r, worth_most (member (start_of ps) r))

  -- and has exactly the relays that are marked
  pub start-marked : parts_fine c none_wound ps ≡ true → (r : ℕ) → member (start_of ps) r ≡ true ↔ IsMarked r ps
  start-marked fine r =
      let sum = start_sum fine r in (
        λ on. omega (arith, sum, ap worth on),
        λ marked. worth_some (member (start_of ps) r)
            (omega (arith, sum, marked)),
      )

-- Laws of the comparison of boards: that boards compare as the same exactly if
-- their counts are equal and their first C parts are, by kind and fields.
use Prim.Native.Nat.{ℕ}
use mathlib.Core.Path.{◌≡◌, refl, sym, ap, ap₂, ◌∙◌}
use mathlib.Core.Bool.{Bool, true, false≢true}
use mathlib.Core.List.{List, [], ◌∷◌, map}
use lib.Dec.{eqb}
use lib.ListN.{length, get_or, drop}
use native.Mathlib.Omega.{arith}
use borrow.Author.Tests.{eq-eqb, eqb-true}
use Rattle.kinds.specs.Kinds.{kind_number}
use Rattle.board.specs.declared.Counts.{Counts}
use Rattle.board.specs.declared.Part.{Part}
use Rattle.board.specs.declared.Board.{Board}
use Rattle.board.specs.Parts.{fields_of, parts_of}
use Rattle.board.specs.Same.{same_counts, same_part, same_board}
use Rattle.std.specs.Cmp.Lexicographic.{pointwise}
use Rattle.board.specs.SameExactly.{compared, Same}
use Rattle.bits.proofs.BoolLaws.{both_true, true_both}
use Rattle.kinds.proofs.KindLaws.{fields_kind}

-- ---- members compared one by one

module _ {A : Type 0} (same : A → A → Bool) where
  -- where the test says that two members are alike by f, so are all; and back
  module _ {B : Type 0} (f : A → B) where
    alike_equal : ((x y : A) → same x y ≡ true → f x ≡ f y) → (xs ys : List A) → pointwise same xs ys ≡ true
        → map f xs ≡ map f ys
    alike_equal equal [] [] on = refl
    alike_equal equal [] (y ∷ ys) on = absurd (false≢true on)
    alike_equal equal (x ∷ xs) [] on = absurd (false≢true on)
    alike_equal equal (x ∷ xs) (y ∷ ys) on =
        let both = both_true (same x y) (pointwise same xs ys) on in
        ap₂ ◌∷◌ (equal x y both.0) (alike_equal equal xs ys both.1)

    equal-alike : ((x y : A) → f x ≡ f y → same x y ≡ true) → (xs ys : List A) → map f xs ≡ map f ys
        → pointwise same xs ys ≡ true
    equal-alike test [] [] equal = refl
    equal-alike test [] (y ∷ ys) equal = absurd (omega (arith, ap length equal))
    equal-alike test (x ∷ xs) [] equal = absurd (omega (arith, ap length equal))
    equal-alike test (x ∷ xs) (y ∷ ys) equal =
        true_both (test x y (ap (λ (l : List B). get_or l 0 (f x)) equal)) (equal-alike test xs ys (ap (drop 1) equal))

-- ---- counts, parts and boards

counts_equal : (x y : Counts) → same_counts x y ≡ true → x ≡ y
unfolding same_counts
counts_equal x y same =
    let parts = both_true _ _ same in
    let buttons = both_true _ _ parts.0 in
    let relays = both_true _ _ buttons.0 in
    let t : x.terminals ≡ y.terminals = eqb-true _ _ relays.0 in
    let r : x.relays ≡ y.relays = eqb-true _ _ relays.1 in
    let b : x.buttons ≡ y.buttons = eqb-true _ _ buttons.1 in
    let p : x.parts ≡ y.parts = eqb-true _ _ parts.1 in
    λ i. record { terminals = t i; relays = r i; buttons = b i; parts = p i }

-- what compares as the same is equal in what it is compared by, and back
map_id : (vs : List ℕ) → map (λ (v : ℕ). v) vs ≡ vs
map_id [] = refl
map_id (v ∷ vs) = ap (λ (ws : List ℕ). v ∷ ws) (map_id vs)

fields_equal : (vs ws : List ℕ) → pointwise eqb vs ws ≡ true → vs ≡ ws
fields_equal vs ws on = sym (map_id vs) ∙ alike_equal eqb (λ (v : ℕ). v) eqb-true vs ws on ∙ map_id ws

equal-fields : (vs ws : List ℕ) → vs ≡ ws → pointwise eqb vs ws ≡ true
equal-fields vs ws equal = equal-alike eqb (λ (v : ℕ). v) eq-eqb vs ws (ap (map (λ (v : ℕ). v)) equal)

part-compared : (p q : Part) → same_part p q ≡ true → compared p ≡ compared q
unfolding same_part
part-compared p q same =
    let both = both_true _ _ same in
    let fields = fields_equal (fields_of p) (fields_of q) both.1 in
    let kind =
    fields_kind p.kind q.kind p.a p.b q.a q.b
    (eqb-true (kind_number p.kind) (kind_number q.kind) both.0) fields in
    λ i. (kind i, fields i)

compared-part : (p q : Part) → compared p ≡ compared q → same_part p q ≡ true
unfolding same_part
compared-part p q equal =
    true_both
    (eq-eqb (kind_number p.kind) (kind_number q.kind) (λ i. kind_number (equal i).0))
    (equal-fields (fields_of p) (fields_of q) (λ i. (equal i).1))

eqb_self : (n : ℕ) → eqb n n ≡ true
eqb_self n = eq-eqb n n refl

counts_self : (c : Counts) → same_counts c c ≡ true
unfolding same_counts
counts_self c = simp eqb_self

pub same_board_equal : (x y : Board) → same_board x y ≡ true → Same x y
unfolding same_board
same_board_equal x y same =
    let both = both_true _ _ same in (
      counts_equal x.counts y.counts both.0,
      alike_equal same_part compared part-compared (parts_of x) (parts_of y) both.1,
    )

pub equal-same_board : (x y : Board) → Same x y → same_board x y ≡ true
unfolding same_board
equal-same_board x y same =
    true_both
    (ap (same_counts x.counts) (sym same.0) ∙ counts_self x.counts)
    (equal-alike same_part compared compared-part (parts_of x) (parts_of y) same.1)

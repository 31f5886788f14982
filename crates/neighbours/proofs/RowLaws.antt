-- Laws of one row of sets that is changed in place, for the loops of `row::clear` and `gather`.
use Prim.Native.Nat.{ℕ, ◌+◌, ◌-◌, ◌≤◌, ◌<◌}
use native.Mathlib.Omega.{arith}
use mathlib.Core.Path.{◌≡◌, refl, sym, ap, subst, ◌∙◌}
use mathlib.Core.Bool.{Bool, true, false, ◌&&◌}
use mathlib.Core.Logic.{◌⊎◌, inl, inr}
use mathlib.Core.List.{List, [], ◌∷◌, ◌++◌}
use Rattle.std.specs.Prelude.{Option, Some, None}
use lib.Dec.{eqb}
use lib.ListN.{length, get_or, set, length-set}
use lib.Seq.{get_or-set_same, get_or-set_other, ext_get_or}
use borrow.Author.Tests.{eqb-true, eqb-false}
use Rattle.bits.specs.Sets.{member, remaining, room, lowest_from, member_from}
use Rattle.bits.proofs.BoolLaws.{by_test, by_less}
use Rattle.bits.proofs.LowestLaws.{lowest-found, lowest_after, lowest_between, member_from_found, member_from_lacks}
use Rattle.kinds.specs.declared.Kind.{Kind}
use Rattle.board.specs.declared.Part.{Part}
use Rattle.board.specs.Rules.{most_terminals}
use Rattle.lists.proofs.TableLaws.{table-length, table_at}
use Rattle.neighbours.specs.Neighbours.{with_part, set_from}
use Rattle.neighbours.specs.Rows.{EachSet, only_at, without, among, among_by, gathered}
use Rattle.neighbours.proofs.SetAtLaws.{from_none}

-- ---- a row by which a part joins

pub each_same : (near : List ℕ) (f : ℕ → ℕ → ℕ)
    → ((x : ℕ) → x < most_terminals → f x (get_or near x 0) ≡ get_or near x 0)
    → EachSet near near f
each_same near f same = record { many = refl; each = λ x below. sym (same x below) }

-- a part with both ends in the set, of a kind that passes the test, joins them; any other leaves the sets as they are
pub each_joined : (at : ℕ) (f : Kind → Bool) (p : Part) (near next : List ℕ) → among at p ≡ true → f p.kind ≡ true
    → EachSet near next (with_part true p) → EachSet near next (with_part (among_by at f p) p)
each_joined at f p near next within passes =
    let both : true ≡ (among at p && f p.kind) = rw (within, passes) refl in
    subst (λ (u : Bool). EachSet near next (with_part u p)) both

pub each_apart : (at : ℕ) (f : Kind → Bool) (p : Part) (near : List ℕ) → (among at p ≡ false) ⊎ (f p.kind ≡ false)
    → EachSet near near (with_part (among_by at f p) p)
each_apart at f p near off =
    subst (λ (u : Bool). EachSet near near (with_part u p)) (sym (neither (among at p) (f p.kind) off))
    (record { many = refl; each = λ x below. refl })
  where
    neither : (t u : Bool) → (t ≡ false) ⊎ (u ≡ false) → (t && u) ≡ false
    neither false u off = refl
    neither true u (inl off) = cc
    neither true u (inr off) = off

-- ---- on the way up along the terminals of a set, in `clear`: those below x are done, the others are as they were

module _ (at x k : ℕ) where
  pub only_here : (f : ℕ → ℕ → ℕ) → member at x ≡ true → only_at at f x k ≡ f x k
  only_here f here = rw here refl

  pub only_else : (f : ℕ → ℕ → ℕ) → member at x ≡ false → only_at at f x k ≡ k
  only_else f off = rw off refl

pub record ClearedBelow (at : ℕ) (start : List ℕ) (x : ℕ) (near : List ℕ) : Type 0 where
  pub many : length near ≡ length start
  pub done : (y : ℕ) → y < most_terminals → y < x → get_or near y 0 ≡ only_at at (without at) y (get_or start y 0)
  pub left : (y : ℕ) → y < most_terminals → x ≤ y → get_or near y 0 ≡ get_or start y 0
  pub here : x < room → member at x ≡ true

-- the terminal that is next, or where there is none the room of a word
abbrev pub next_or_room : Option ℕ → ℕ
next_or_room None = room
next_or_room (Some x) = x

pub record ClearedTo (at : ℕ) (start : List ℕ) (next : Option ℕ) (near : List ℕ) : Type 0 where
  pub cleared : ClearedBelow at start (next_or_room next) near
  pub within : (x : ℕ) → next ≡ Some x → x < room

-- the lowest member from n up: no member lies before it, and it is one, where there is one
record NextFrom (at n : ℕ) (x : ℕ) : Type 0 where
  after : n ≤ x
  before : x ≤ lowest_from at n
  here : x < room → member at x ≡ true

next_from : (at n : ℕ) (next : Option ℕ) → n ≤ room → next ≡ member_from at n → NextFrom at n (next_or_room next)
next_from at n None start lowest =
    record { after = start; before = member_from_lacks at n lowest; here = λ below. absurd (omega (arith, below)) }
next_from at n (Some x) start lowest =
    let found = member_from_found at n x lowest in
    record {
      after = omega (arith, found.1, lowest_after at n);
      before = omega (arith, found.1);
      here = λ below. ap (member at) found.1 ∙ lowest-found at n (omega (arith, found.1, below));
    }

next-within : (at n : ℕ) (next : Option ℕ) → next ≡ member_from at n → (x : ℕ) → next ≡ Some x → x < room
next-within at n next lowest x is = (member_from_found at n x (sym is ∙ lowest)).0

-- the next is later
pub clear_after : (at x : ℕ) (this next : Option ℕ) → this ≡ Some x → x < room → next ≡ member_from at (x + 1)
    → room - next_or_room next < room - next_or_room this
clear_after at x this next is below lowest =
    let from = next_from at (x + 1) next (omega (arith, below)) lowest in
    subst (λ (o : Option ℕ). room - next_or_room next < room - next_or_room o) (sym is)
    (omega (arith, below, from.after))

module _ (at : ℕ) (start : List ℕ) where
  -- no terminal of the set lies before its lowest one
  pub clear_starts : (next : Option ℕ) → next ≡ member_from at 0 → ClearedTo at start next start
  clear_starts next lowest =
      let from = next_from at 0 next (omega arith) lowest in
      record {
        cleared = record {
          many = refl;
          done = λ y below before. sym (only_else at y _ (without at)
              (lowest_between at 0 y (omega arith) (omega (arith, before, from.before))));
          left = λ y below from. refl;
          here = from.here;
        };
        within = next-within at 0 next lowest;
      }

  module _ (x w : ℕ) (near : List ℕ) (long : length start ≡ most_terminals) (so : ClearedBelow at start x near)
      (below : x < room) (new : w ≡ remaining (get_or near x 0) at) where
    at_x : (y : ℕ) → y ≡ x → get_or (set near x w) y 0 ≡ only_at at (without at) y (get_or start y 0)
    at_x y same =
        ap (λ (z : ℕ). get_or (set near x w) z 0) same
        ∙ get_or-set_same near x w 0 (omega (arith, so.many, long, below))
        ∙ new ∙ ap (λ (k : ℕ). remaining k at) (so.left x below (omega arith))
        ∙ ap (λ (z : ℕ). remaining (get_or start z 0) at) (sym same)
        ∙ sym (only_here at y _ (without at) (ap (member at) same ∙ so.here below))

    cleared_on : (next : ℕ) → NextFrom at (x + 1) next → ClearedBelow at start next (set near x w)
    cleared_on next is =
        record {
          many = length-set near x w ∙ so.many;
          done = λ y inside before. by_less y x
              (λ earlier. get_or-set_other near x y w 0 (λ e. omega (arith, e, earlier)) ∙ so.done y inside earlier)
              (λ from. by_test (eqb y x)
              (λ same. at_x y (eqb-true y x same))
              (λ differ. let later : x + 1 ≤ y = omega (arith, from, eqb-false y x differ) in
              get_or-set_other near x y w 0 (eqb-false y x differ) ∙ so.left y inside from
              ∙ sym (only_else at y _ (without at)
              (lowest_between at (x + 1) y later (omega (arith, before, is.before))))));
          left = λ y inside from. get_or-set_other near x y w 0 (λ e. omega (arith, e, from, is.after))
              ∙ so.left y inside (omega (arith, from, is.after));
          here = is.here;
        }

  pub clear_on : (x w : ℕ) (this next : Option ℕ) (near : List ℕ) → length start ≡ most_terminals
      → ClearedTo at start this near → this ≡ Some x → w ≡ remaining (get_or near x 0) at
      → next ≡ member_from at (x + 1) → ClearedTo at start next (set near x w)
  clear_on x w this next near long so is new lowest =
      let below = so.within x is in
      let was = subst (λ (o : Option ℕ). ClearedBelow at start (next_or_room o) near) is so.cleared in
      record {
        cleared = cleared_on x w near long was below new (next_or_room next)
            (next_from at (x + 1) next (omega (arith, below)) lowest);
        within = next-within at (x + 1) next lowest;
      }

  pub clear-ends : (this : Option ℕ) (near : List ℕ) → ClearedTo at start this near → this ≡ None
      → EachSet start near (only_at at (without at))
  clear-ends this near so is =
      let all = subst (λ (o : Option ℕ). ClearedBelow at start (next_or_room o) near) is so.cleared in
      record { many = all.many; each = λ y below. all.done y below below }

-- ---- part by part, in `gather`

module _ (g : Part → Bool) (ps : List Part) (near : List ℕ) where
  pub gathered-length : length (gathered g ps near) ≡ most_terminals
  unfolding gathered
  gathered-length = table-length (λ (x : ℕ). set_from g x (get_or near x 0) ps) most_terminals 0

  pub gathered_at : (x : ℕ) → x < most_terminals → get_or (gathered g ps near) x 0 ≡ set_from g x (get_or near x 0) ps
  unfolding gathered
  gathered_at x below =
      table_at (λ (y : ℕ). set_from g y (get_or near y 0) ps) most_terminals x 0 below

  gathered_each : (r : List ℕ) → length r ≡ most_terminals
      → ((x : ℕ) → x < most_terminals → get_or r x 0 ≡ set_from g x (get_or near x 0) ps) → r ≡ gathered g ps near
  gathered_each r long each =
      ext_get_or 0 r (gathered g ps near) (long ∙ sym gathered-length)
      (λ x inside.
      let below : x < most_terminals = omega (arith, long, inside) in
      each x below ∙ sym (gathered_at x below))

-- the last of the parts first: what it joins, and then the others
from_last : (g : Part → Bool) (x k : ℕ) (ps : List Part) (p : Part)
    → set_from g x k (ps ++ (p ∷ [])) ≡ set_from g x (with_part (g p) p x k) ps
unfolding set_from
from_last g x k [] p = refl
from_last g x k (q ∷ ps) p = ap (with_part (g q) q x) (from_last g x k ps p)

pub gathered_last : (g : Part → Bool) (ps : List Part) (p : Part) (near next : List ℕ)
    → EachSet near next (with_part (g p) p) → gathered g (ps ++ (p ∷ [])) near ≡ gathered g ps next
gathered_last g ps p near next more =
    gathered_each g ps next (gathered g (ps ++ (p ∷ [])) near) (gathered-length g (ps ++ (p ∷ [])) near)
    (λ x below. gathered_at g (ps ++ (p ∷ [])) near x below
    ∙ from_last g x (get_or near x 0) ps p
    ∙ ap (λ (k : ℕ). set_from g x k ps) (sym (more.each x below)))

-- what all the parts join comes to what those that are left join to the sets so far: on by the last of these
pub gathered_on : (g : Part → Bool) (all left ps : List Part) (p : Part) (start near next : List ℕ)
    → gathered g all start ≡ gathered g left near → left ≡ ps ++ (p ∷ []) → EachSet near next (with_part (g p) p)
    → gathered g all start ≡ gathered g ps next
gathered_on g all left ps p start near next so last more =
    so ∙ ap (λ (qs : List Part). gathered g qs near) last ∙ gathered_last g ps p near next more

pub gathered_none : (g : Part → Bool) (near : List ℕ) → length near ≡ most_terminals → gathered g [] near ≡ near
gathered_none g near long = sym (gathered_each g [] near near long (λ x below. sym (from_none g x (get_or near x 0))))

-- Laws of `ends_at` and `part_at`: each way out of reading one part as an outcome of the definition, and the bounds on
-- what was found.
use Prim.Native.Nat.{ℕ, ◌<◌, ◌≤◌}
use mathlib.Core.Path.{◌≡◌}
use mathlib.Core.Bool.{Bool, true, false, cond}
use mathlib.Core.List.{List}
use native.Mathlib.Omega.{arith}
use lib.Dec.{ltb, eqb}
use borrow.Author.Tests.{eq-eqb, ne_eqb, ltb-true}
use Rattle.refusals.specs.Outcomes.{refused, found}
use Rattle.refusals.specs.Refusals.{no_such_kind, no_such_terminal, ends_equal, no_such_name, winding_taken}
use Rattle.refusals.specs.Refusals.{marked_twice}
use Rattle.windings.specs.declared.WoundSoFar.{WoundSoFar}
use Rattle.kinds.specs.Kinds.{wire_kind, button_kind, mark_kind, kind_of}
use Rattle.windings.specs.Windings.{winding_free, unmarked}
use Rattle.board.specs.declared.Counts.{Counts}
use Rattle.board.specs.declared.Part.{Part}
use Rattle.board.specs.Rules.{in_range, terminal_fine, limit_of}
use Rattle.board_reader.specs.Editions.{Edition}
use Rattle.board_reader.specs.Reading.{wanted, name_at, no_ends, ends_at, part_at}
use Rattle.number.proofs.NumberLaws.{found_value}
use Rattle.board_reader.proofs.FieldLaws.{wanted-found}

-- ---- the ends

module _ (e : Edition) (c : Counts) (k : ℕ) (s : List ℕ) (at : ℕ) where
  pub ends_of-mark : k ≡ mark_kind → found no_ends at ≡ ends_at e c k s at
  unfolding ends_at
  ends_of-mark mark = rw (eq-eqb k mark_kind mark)

  module _ (joins : k ≡ mark_kind → ⊥) where
    pub a_refused : (n p : ℕ) → wanted e (terminal_fine c) no_such_terminal s at ≡ refused n p
        → refused n p ≡ ends_at e c k s at
    unfolding ends_at
    a_refused n p h = rw (ne_eqb k mark_kind joins, h)

    module _ (a ab : ℕ) (as-a : wanted e (terminal_fine c) no_such_terminal s at ≡ found a ab) where
      pub b_refused : (n p : ℕ) → wanted e (terminal_fine c) no_such_terminal s ab ≡ refused n p
          → refused n p ≡ ends_at e c k s at
      unfolding ends_at
      b_refused n p h = rw (ne_eqb k mark_kind joins, as-a, h)

      module _ (b bn : ℕ) (as-b : wanted e (terminal_fine c) no_such_terminal s ab ≡ found b bn) where
        pub ends_equal_lem : a ≡ b → refused ends_equal ab ≡ ends_at e c k s at
        unfolding ends_at
        ends_equal_lem same = rw (ne_eqb k mark_kind joins, as-a, as-b, eq-eqb a b same)

        pub ends_found : (a ≡ b → ⊥) → found (a, b) bn ≡ ends_at e c k s at
        unfolding ends_at
        ends_found apart = rw (ne_eqb k mark_kind joins, as-a, as-b, ne_eqb a b apart)

-- ---- the part

module _ (e : Edition) (c : Counts) (w : WoundSoFar) (s : List ℕ) (at k p : ℕ) where
  pub kind_refused : wanted e (in_range 0 e.last_kind) no_such_kind s at ≡ refused k p
      → refused k p ≡ part_at e c w s at
  unfolding part_at
  kind_refused h = rw h

module _ (e : Edition) (c : Counts) (w : WoundSoFar) (s : List ℕ) (at kind ka : ℕ)
    (kinds : wanted e (in_range 0 e.last_kind) no_such_kind s at ≡ found kind ka) where
  pub ends_refused : (k p : ℕ) → ends_at e c kind s ka ≡ refused k p → refused k p ≡ part_at e c w s at
  unfolding part_at
  ends_refused k p h = rw (kinds, h)

  module _ (ab : ℕ × ℕ) (bn : ℕ) (ends : ends_at e c kind s ka ≡ found ab bn) where
    pub name_refused : (k p : ℕ) → name_at e c kind s bn ≡ refused k p → refused k p ≡ part_at e c w s at
    unfolding part_at
    name_refused k p h = rw (kinds, ends, h)

    module _ (name next : ℕ) (names : name_at e c kind s bn ≡ found name next) where
      pub winding_taken_refused : winding_free w (kind_of kind name) ≡ false
          → refused winding_taken bn ≡ part_at e c w s at
      unfolding part_at
      winding_taken_refused h = rw (kinds, ends, names, h)

      module _ (free : winding_free w (kind_of kind name) ≡ true) where
        pub marked_twice_refused : unmarked w (kind_of kind name) ≡ false → refused marked_twice bn ≡ part_at e c w s at
        unfolding part_at
        marked_twice_refused h = rw (kinds, ends, names, free, h)

        pub part-found : unmarked w (kind_of kind name) ≡ true
            → found (record { a = ab.0; b = ab.1; kind = kind_of kind name }) next ≡ part_at e c w s at
        unfolding part_at
        part-found h = rw (kinds, ends, names, free, h)

-- a terminal that was found is below T
pub terminal-below : (e : Edition) (c : Counts) (s : List ℕ) (at v next : ℕ)
    → wanted e (terminal_fine c) no_such_terminal s at ≡ found v next → v < c.terminals
terminal-below e c s at v next h =
    ltb-true v c.terminals (wanted-found e (terminal_fine c) no_such_terminal s at v next h).0

-- a name that was found is below whatever R and B are at most
pub name_below : (e : Edition) (c : Counts) (k : ℕ) (s : List ℕ) (at v next m : ℕ) → name_at e c k s at ≡ found v next
    → c.relays ≤ m → c.buttons ≤ m → 0 < m → v < m
unfolding name_at
name_below e c k s at v next m h relays buttons some = go (eqb k wire_kind) h
  where
    limit : (t : Bool) → cond t c.buttons c.relays ≤ m
    limit true = buttons
    limit false = relays

    go : (t : Bool) → cond t (found 0 at) (wanted e (λ n. ltb n (limit_of c k)) no_such_name s at) ≡ found v next
        → v < m
    go true h = omega (arith, found_value 0 v at next h)
    go false h =
        omega (
          arith,
          ltb-true v (limit_of c k) (wanted-found e (λ n. ltb n (limit_of c k)) no_such_name s at v next h).0,
          limit (eqb k button_kind),
        )

-- the kind as it was made
pub part_as : (p q : Part) (next : ℕ) → p.a ≡ q.a → p.b ≡ q.b → p.kind ≡ q.kind → found p next ≡ found q next
part_as p q next a b kind = λ i. found (record { a = a i; b = b i; kind = kind i }) next

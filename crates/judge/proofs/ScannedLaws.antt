-- Laws of a relay's windings among the parts: what the scan of a board's parts needs.
use Prim.Native.Nat.{ℕ, ◌+◌, ◌≤◌, ◌<◌}
use native.Mathlib.Numerals.{add-one}
use mathlib.Core.Path.{◌≡◌, refl, sym, ap, ap₂, ◌∙◌}
use mathlib.Core.Bool.{Bool, true, false, ◌&&◌}
use mathlib.Core.List.{List, [], ◌∷◌, ◌++◌}
use Rattle.std.specs.Prelude as code
use mathlib.Core.Option.{Option, none, some}
use lib.Dec.{eqb}
use borrow.Author.Tests.{ne_eqb}
use lib.ListN.{length, get_or, take}
use lib.Seq.{take-suc, take_all}
use Rattle.bits.proofs.BoolLaws.{by_test}
use Rattle.refusals.specs.Outcomes.{given, refused}
use Rattle.refusals.specs.Refusals.{no_such_winding}
use Rattle.refusals.proofs.OutcomeLaws.{refused_never, given_injective}
use Rattle.refusals.proofs.Told.{Told}
use Rattle.kinds.specs.declared.Kind.{Kind}
use Rattle.kinds.specs.Kinds.{regular_kind, drawing_kind, dropping_kind, kind_number, name_of}
use Rattle.board.specs.declared.Part.{Part}
use Rattle.board.specs.Sorts.{carries}
use Rattle.search.specs.declared.Winding.{Winding}
use Rattle.judge.specs.declared.Which.{Which}
use Rattle.judge.specs.declared.Which.TheVariants.{First, Second}
use Rattle.judge.specs.declared.Windings.{Windings}
use Rattle.judge.specs.declared.Windings.TheVariants.{Regular, Steel}
use Rattle.judge.specs.RelayWindings.{is_winding, ends_of, winding_of, OfRelay, regular}
use Rattle.judge.specs.RelayWindings.{steel, absent, of_relay}
use Rattle.judge.specs.RelayWindings.{windings_at, or_no_such_winding, told_windings}
use Rattle.judge.specs.RelayWindings.{seen_with}

-- ---- a kind that carries another number is no winding of the relay

carries_else : (j r : ℕ) (k : Kind) → ¬ (name_of k ≡ r) → false ≡ carries j r k
unfolding carries
carries_else j r k other = rw (ne_eqb (name_of k) r other) (none (eqb (kind_number k) j))
  where
    none : (t : Bool) → false ≡ (t && false)
    none true = refl
    none false = refl

named_other : (w : Which) (r : ℕ) (k : Kind) → ¬ (name_of k ≡ r) → false ≡ is_winding w r k
named_other First r k other =
    rw (← carries_else regular_kind r k other) (carries_else drawing_kind r k other)
named_other Second r k other = carries_else dropping_kind r k other

-- ---- the winding among the parts

pub winding_here : (w : Which) (r : ℕ) (p : Part) (ps : List Part) → is_winding w r p.kind ≡ true
    → winding_of w r (p ∷ ps) ≡ some (ends_of p)
unfolding winding_of
winding_here w r p ps e = rw e refl

pub winding_past : (w : Which) (r : ℕ) (p : Part) (ps : List Part) → is_winding w r p.kind ≡ false
    → winding_of w r (p ∷ ps) ≡ winding_of w r ps
unfolding winding_of
winding_past w r p ps e = rw e refl

pub winding_none : (w : Which) (r : ℕ) → winding_of w r [] ≡ none
unfolding winding_of
winding_none w r = refl

-- a winding that is asked for is there where it is given, and is not where it is refused
pub asked_given : (o : Option Winding) (e : Winding) → or_no_such_winding o ≡ given e → o ≡ some e
asked_given (some v) e is = ap some (given_injective v e is)
asked_given none e is = absurd (refused_never no_such_winding 0 e is)

pub asked_refused : (o : Option Winding) (k p : ℕ) → or_no_such_winding o ≡ refused k p → o ≡ none
asked_refused (some v) k p is = absurd (refused_never k p v (sym is))
asked_refused none k p is = refl

-- ---- the scan: what is seen of a winding is the one among the parts so far

seen_still : (o : Option Winding) (p : Part) → o ≡ seen_with o p false
seen_still (some v) p = refl
seen_still none p = refl

module _ (n : Which) (r : ℕ) where
  -- one part more
  winding_append : (ps : List Part) (p : Part)
      → winding_of n r (ps ++ (p ∷ [])) ≡ seen_with (winding_of n r ps) p (is_winding n r p.kind)
  unfolding winding_of
  winding_append [] p = refl
  winding_append (q ∷ ps) p =
      by_test (is_winding n r q.kind)
      (λ here. rw here refl)
      (λ past. rw past (winding_append ps p))

  pub seen_starts : (l : List Part) → none ≡ winding_of n r (take 0 l)
  unfolding winding_of
  seen_starts l = refl

  -- at place i of l
  pub seen_next : (l : List Part) (i : ℕ) (d : Part) (seen next : Option Winding) (t : Bool) → i < length l
      → seen ≡ winding_of n r (take i l) → t ≡ is_winding n r (get_or l i d).kind
      → next ≡ seen_with seen (get_or l i d) t → next ≡ winding_of n r (take (i + 1) l)
  seen_next l i d seen next t there so is more =
      let longer : take (i + 1) l ≡ take i l ++ (get_or l i d ∷ []) =
      ap (λ (k : ℕ). take k l) (add-one i) ∙ take-suc l i d there in
      more
      ∙ ap (λ (u : Bool). seen_with seen (get_or l i d) u) is
      ∙ ap (λ (o : Option Winding). seen_with o (get_or l i d) (is_winding n r (get_or l i d).kind)) so
      ∙ sym (ap (winding_of n r) longer ∙ winding_append (take i l) (get_or l i d))

  -- a part of another number is passed; m is its number
  pub seen_past : (l : List Part) (i : ℕ) (d : Part) (seen : Option Winding) (m : ℕ) → i < length l
      → seen ≡ winding_of n r (take i l) → m ≡ name_of (get_or l i d).kind → ¬ (m ≡ r)
      → seen ≡ winding_of n r (take (i + 1) l)
  seen_past l i d seen m there so name other =
      seen_next l i d seen seen false there so
      (named_other n r (get_or l i d).kind (λ e. other (name ∙ e))) (seen_still seen (get_or l i d))

  pub seen_ends : (l : List Part) (i : ℕ) (seen : Option Winding) → length l ≤ i → seen ≡ winding_of n r (take i l)
      → seen ≡ winding_of n r l
  seen_ends l i seen past so = so ∙ ap (winding_of n r) (take_all i l past)

-- then what was seen of both windings is what the relay has
pub seen_windings : (r : ℕ) (l ps : List Part) (i : ℕ) (o q : Option Winding) (x : OfRelay Winding) → l ≡ ps
    → length l ≤ i → o ≡ winding_of First r (take i l) → q ≡ winding_of Second r (take i l) → x ≡ of_relay o q
    → x ≡ windings_at r ps
unfolding windings_at
seen_windings r l ps i o q x all past first second is =
    is
    ∙ ap₂ of_relay (seen_ends First r l i o past first) (seen_ends Second r l i q past second)
    ∙ ap (λ (l : List Part). of_relay (winding_of First r l) (winding_of Second r l)) all

-- ---- answers and what they tell

pub windings-told : Told told_windings
windings-told = record { untold = untold; back = back; onto = onto }
  where
    untold : OfRelay Winding → code.Option Windings
    untold (regular v) = code.Some (Regular v)
    untold (steel v u) = code.Some (Steel v u)
    untold absent = code.None

    back : (x : code.Option Windings) → untold (told_windings x) ≡ x
    back (code.Some (Regular v)) = refl
    back (code.Some (Steel v u)) = refl
    back code.None = refl

    onto : (y : OfRelay Winding) → told_windings (untold y) ≡ y
    onto (regular v) = refl
    onto (steel v u) = refl
    onto absent = refl

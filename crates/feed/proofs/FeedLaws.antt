-- Laws of what a look works out: one for each way through the functions; and when a terminal is served, a winding
-- shunted and live by it.
use Prim.Native.Nat.{ℕ, zero, suc, min, ◌+◌, ◌≤◌, ◌<◌}
use native.Mathlib.Omega.{arith}
use mathlib.Core.Path.{◌≡◌, refl, sym, ap, subst, ◌∙◌}
use mathlib.Core.Logic.{◌⊎◌, ◌↔◌, inl, inr, ⊎_elim}
use mathlib.Core.Bool.{true, false, not, ◌&&◌, false≢true}
use mathlib.Core.List.{List}
use Rattle.std.specs.Prelude.{Some}
use lib.Dec.{eqb}
use lib.ListN.{length, get_or}
use lib.Seq.{ext_get_or}
use borrow.Author.Tests.{lt-ltb, le-ltb, eqb-true, eqb-false, not-true}
use Rattle.bits.specs.Sets.{room, member, excluding, remaining, member_from}
use Rattle.bits.proofs.BoolLaws.{by_test, both_true, both_ways}
use Rattle.bits.proofs.SetLaws.{member_none, member-every, members_equal, member-alone, member-remaining}
use Rattle.bits.proofs.SetLaws.{member-including-same, member-including_other, member-excluding-same}
use Rattle.bits.proofs.SetLaws.{member-excluding_other}
use Rattle.bits.proofs.LowestLaws.{lowest-found, member_from_found}
use Rattle.lists.proofs.TableLaws.{table-length, table_at, FilledTo, filled_each}
use Rattle.board.specs.Rules.{most_terminals}
use Rattle.neighbours.specs.Neighbours.{joined}
use Rattle.reach.specs.Floods.{flooded}
use Rattle.reach.proofs.FloodLaws.{flood-begins, flood_on_lem, flood_least}
use Rattle.search.specs.declared.Winding.{Winding}
use Rattle.search.specs.Verdicts.{in_sets}
use Rattle.search.proofs.VerdictLaws.{in_sets_min}
use Rattle.feed.specs.Feeds.{poles, everywhere, alone, reached_without, lost_without, served_on, served, linked_to}
use Rattle.feed.specs.Feeds.{linked, shunted_by, live_by, LowerKnown}

-- plus is a pole
plus-pole : member poles 0 ≡ true
unfolding member
plus-pole = refl

pub reached_by : (near : List ℕ) (x out r : ℕ) → out ≡ alone x → r ≡ flooded near poles out → r ≡ reached_without near x
unfolding reached_without
reached_by near x out r is flood = flood ∙ ap (flooded near poles) is

-- ---- what the poles reach, with a terminal taken out

module _ (near : List ℕ) where
  -- a pole reaches itself
  reached-pole : (x u : ℕ) → member poles u ≡ true → ¬ (u ≡ x) → member (reached_without near x) u ≡ true
  unfolding reached_without
  reached-pole x u pole apart =
      flood-begins near poles (alone x) u pole (member-including_other 0 x u apart ∙ member_none u)

  reached_next : (x u v : ℕ) → u < room → member (reached_without near x) u ≡ true → joined near u v ≡ true → ¬ (v ≡ x)
      → member (reached_without near x) v ≡ true
  unfolding reached_without
  reached_next x u v below is join apart =
      flood_on_lem near poles (alone x) u v below is join (member-including_other 0 x v apart ∙ member_none v)

  -- what holds of the poles that remain, and of each that is joined to one of which it holds, holds of all
  reached_all : (x : ℕ) → x < room → (P : ℕ → Type 0) → ((u : ℕ) → member poles u ≡ true → ¬ (u ≡ x) → P u)
      → ((u v : ℕ) → u < room → P u → joined near u v ≡ true → ¬ (v ≡ x) → P v)
      → (u : ℕ) → member (reached_without near x) u ≡ true → P u
  unfolding reached_without
  reached_all x inside P begins on =
      flood_least near poles (alone x) P (λ u pole left. begins u pole (apart u left))
      (λ u v below is join left. on u v below is join (apart v left))
    where
      apart : (u : ℕ) → member (alone x) u ≡ false → ¬ (u ≡ x)
      apart u left same =
          false≢true (sym left ∙ ap (member (alone x)) same ∙ member-including-same 0 x inside)

  -- a terminal x that is cut off by y: what is reached without y is reached without x, and so is y itself, if it is
  -- reached without some other terminal
  module _ (x y : ℕ) (y-inside : y < room) (apart : ¬ (y ≡ x)) (cut : member (reached_without near y) x ≡ false) where
    not_cut : (u : ℕ) → member (reached_without near y) u ≡ true → ¬ (u ≡ x)
    not_cut u is same = false≢true (sym cut ∙ ap (member (reached_without near y)) (sym same) ∙ is)

    cut_reached : (u : ℕ) → member (reached_without near y) u ≡ true → member (reached_without near x) u ≡ true
    cut_reached u is =
        (reached_all y y-inside
        (λ (v : ℕ). (member (reached_without near x) v ≡ true) × (member (reached_without near y) v ≡ true))
        (λ v pole other. let here = reached-pole y v pole other in (reached-pole x v pole (not_cut v here), here))
        (λ v w below both join other.
        let here = reached_next y v w below both.1 join other in
        (reached_next x v w below both.0 join (not_cut w here), here))
        u is).0

    cutter_reached : (z : ℕ) → z < room → member (reached_without near z) y ≡ true
        → member (reached_without near x) y ≡ true
    cutter_reached z inside is =
        ⊎_elim
        (λ itself. absurd (reached_all y y-inside (λ (v : ℕ). ¬ (v ≡ y)) (λ v pole other. other)
        (λ v w below so join other. other) y itself refl))
        (λ reached. reached)
        (reached_all z inside
        (λ (v : ℕ). (member (reached_without near y) v ≡ true) ⊎ (member (reached_without near x) y ≡ true))
        (λ v pole other. by_test (eqb v y)
        (λ same. inr (reached-pole x y (ap (member poles) (sym (eqb-true v y same)) ∙ pole) apart))
        (λ differ. inl (reached-pole y v pole (eqb-false v y differ))))
        (λ v w below so join other. ⊎_elim
        (λ here. by_test (eqb w y)
        (λ same. inr (reached_next x v y below (cut_reached v here)
        (ap (joined near v) (sym (eqb-true w y same)) ∙ join)
        apart))
        (λ differ. inl (reached_next y v w below here join (eqb-false w y differ))))
        inr so)
        y is)

-- a terminal u is kept of s, where x is taken out, if it is x or is reached then
module _ (near : List ℕ) (x s u : ℕ) where
  lost_other : ¬ (x ≡ u)
      → member (lost_without near x s) u ≡ (member s u && not (member (reached_without near x) u))
  lost_other other =
      member-excluding_other (remaining s (reached_without near x)) x u (λ e. other (sym e))
      ∙ member-remaining s (reached_without near x) u

  kept_there : member (remaining s (lost_without near x s)) u ≡ true
      → (member s u ≡ true) × (¬ (x ≡ u) → member (reached_without near x) u ≡ true)
  kept_there is =
      let both =
      both_true (member s u) (not (member (lost_without near x s) u))
      (sym (member-remaining s (lost_without near x s) u) ∙ is) in
      let found = not-true (member (lost_without near x s) u) both.1 in (
        both.0,
        λ other. by_test (member (reached_without near x) u) (λ on. on)
            (λ off. absurd (false≢true (sym found ∙ lost_other other ∙ rw (both.0, off) refl))),
      )

  kept_back : member s u ≡ true → (¬ (x ≡ u) → member (reached_without near x) u ≡ true)
      → member (remaining s (lost_without near x s)) u ≡ true
  kept_back is reached =
      member-remaining s (lost_without near x s) u
      ∙ rw (
        is,
        by_test (eqb x u)
            (λ same.
            ap (member (lost_without near x s)) (sym (eqb-true x u same))
            ∙ member-excluding-same (remaining s (reached_without near x)) x)
            (λ differ.
            let other = eqb-false x u differ in lost_other other ∙ rw (is, reached other) refl),
      ) refl

-- so a terminal is served exactly if it is reached whichever other one of t is taken out
abbrev pub ReachedWithoutOthers : List ℕ → ℕ → ℕ → ℕ → Type 0
ReachedWithoutOthers near x t u =
    (y : ℕ) → x ≤ y → y < t → ¬ (y ≡ u) → member (reached_without near y) u ≡ true

module _ (near : List ℕ) (u : ℕ) where
  served_there : (k x s : ℕ) → member (served_on near k x s) u ≡ true
      → (member s u ≡ true) × ReachedWithoutOthers near x (x + k) u
  unfolding served_on
  served_there zero x s is = (is, λ y from below other. absurd (omega (arith, from, below)))
  served_there (suc k) x s is =
      let rest = served_there k (suc x) (remaining s (lost_without near x s)) is in
      let here = kept_there near x s u rest.0 in (
        here.0,
        λ y from below other. by_test (eqb x y)
            (λ same. let at = eqb-true x y same in
            ap (λ (z : ℕ). member (reached_without near z) u) (sym at) ∙ here.1 (λ e. other (sym at ∙ e)))
            (λ differ. rest.1 y (omega (arith, from, eqb-false x y differ)) (omega (arith, below)) other),
      )

  served_back : (k x s : ℕ) → member s u ≡ true → ReachedWithoutOthers near x (x + k) u
      → member (served_on near k x s) u ≡ true
  unfolding served_on
  served_back zero x s is all = is
  served_back (suc k) x s is all =
      served_back k (suc x) (remaining s (lost_without near x s))
      (kept_back near x s u is (λ other. all x (omega arith) (omega arith) other))
      (λ y from below other. all y (omega (arith, from)) (omega (arith, below)) other)

-- those that are served so far, where those below x have been taken out
abbrev pub served_below : List ℕ → ℕ → ℕ
served_below near x = served_on near x 0 everywhere

module _ (near : List ℕ) where
  below_there : (x u : ℕ) → member (served_below near x) u ≡ true → ReachedWithoutOthers near 0 x u
  below_there x u is =
      let all : 0 + x ≡ x = omega arith in
      subst (λ (n : ℕ). ReachedWithoutOthers near 0 n u) all (served_there near u x 0 everywhere is).1

  below_back : (x u : ℕ) → u < room → ReachedWithoutOthers near 0 x u → member (served_below near x) u ≡ true
  below_back x u below reached =
      let all : 0 + x ≡ x = omega arith in
      served_back near u x 0 everywhere (member-every u below)
      (subst (λ (n : ℕ). ReachedWithoutOthers near 0 n u) (sym all) reached)

  pub served_exactly : (t u : ℕ) → t ≤ most_terminals → u < room
      → member (served near t) u ≡ true ↔ ReachedWithoutOthers near 0 t u
  unfolding served in_sets
  served_exactly t u most below = rw (le-ltb most_terminals t most) (below_there t u, below_back t u below)

  pub served_starts : everywhere ≡ served_below near 0
  unfolding served_on
  served_starts = refl

  -- ---- one terminal more

  last_on : (k n s : ℕ)
      → served_on near (suc k) n s ≡ remaining (served_on near k n s) (lost_without near (n + k) (served_on near k n s))
  unfolding served_on
  last_on zero n s = let same : n ≡ n + 0 = omega arith in ap (λ (x : ℕ). remaining s (lost_without near x s)) same
  last_on (suc k) n s =
      let same : suc n + k ≡ n + suc k = omega arith in
      last_on k (suc n) (remaining s (lost_without near n s))
      ∙ ap (λ (x : ℕ). remaining (served_on near k (suc n) (remaining s (lost_without near n s)))
      (lost_without near x (served_on near k (suc n) (remaining s (lost_without near n s))))) same

  below_next : (x : ℕ)
      → served_below near (x + 1) ≡ remaining (served_below near x) (lost_without near x (served_below near x))
  below_next x =
      let next : x + 1 ≡ suc x = omega arith in
      let same : 0 + x ≡ x = omega arith in
      ap (served_below near) next ∙ last_on x 0 everywhere
      ∙ ap (λ (n : ℕ). remaining (served_below near x) (lost_without near n (served_below near x))) same

  pub taken_out : (x s lost less more : ℕ) → s ≡ served_below near x → lost ≡ remaining s (reached_without near x)
      → less ≡ excluding lost x → more ≡ remaining s less → more ≡ served_below near (x + 1)
  taken_out x s lost less more so l e m = m ∙ rw (e, l, so) refl ∙ sym (below_next x)

  -- one that is not served loses none: each that cuts it off cuts off what it would
  kept_reached : (x u : ℕ) → x < room → member (served_below near x) x ≡ false → member (served_below near x) u ≡ true
      → ¬ (x ≡ u) → member (reached_without near x) u ≡ true
  kept_reached x u inside unserved is other =
      by_test (member (reached_without near x) u) (λ on. on)
      (λ off. absurd (false≢true (sym unserved ∙ below_back x x inside
      (λ y from below apart. by_test (member (reached_without near y) x) (λ on. on)
      (λ cut. absurd (false≢true (sym off ∙ still y below apart cut)))))))
    where
      still : (y : ℕ) → y < x → ¬ (y ≡ x) → member (reached_without near y) x ≡ false
          → member (reached_without near x) u ≡ true
      still y below apart cut =
          by_test (eqb y u)
          (λ same. let at = eqb-true y u same in
          ap (member (reached_without near x)) (sym at) ∙ itself y below apart cut
          (ap (member (served_below near x)) at ∙ is))
          (λ differ. cut_reached near x y (omega (arith, below, inside)) apart cut u
          (below_there x u is y (omega arith) below (eqb-false y u differ)))
        where
          itself : (y : ℕ) → y < x → ¬ (y ≡ x) → member (reached_without near y) x ≡ false
              → member (served_below near x) y ≡ true → member (reached_without near x) y ≡ true
          itself y below apart cut has =
              by_test (eqb 0 y)
              (λ same. reached-pole near x y (ap (member poles) (sym (eqb-true 0 y same)) ∙ plus-pole) apart)
              (λ differ. cutter_reached near x y (omega (arith, below, inside)) apart cut 0 (omega arith)
              (below_there x y has 0 (omega arith) (omega (arith, below)) (eqb-false 0 y differ)))

  pub passed_over : (x s : ℕ) → x < room → s ≡ served_below near x → member s x ≡ false → s ≡ served_below near (x + 1)
  passed_over x s inside so unserved =
      so
      ∙ members_equal (served_below near x) (served_below near (x + 1))
      (λ u. both_ways (member (served_below near x) u) (member (served_below near (x + 1)) u)
      (λ is. ap (λ (n : ℕ). member n u) (below_next x)
      ∙ kept_back near x (served_below near x) u is
      (kept_reached x u inside (ap (λ (n : ℕ). member n x) (sym so) ∙ unserved) is))
      (λ is. (kept_there near x (served_below near x) u (ap (λ (n : ℕ). member n u) (sym (below_next x)) ∙ is)).0))

  -- the last of t terminals has been taken out, or of more the last that the sets have
  pub served-ends : (t x end s : ℕ) → s ≡ served_below near x → end ≡ min t most_terminals → end ≤ x → x ≤ end
      → s ≡ served near t
  unfolding served
  served-ends t x end s so many past under =
      let same : x ≡ in_sets t = omega (arith, many, past, under, in_sets_min t) in
      so ∙ ap (served_below near) same

-- ---- the linked terminals

-- two that are linked to each other share theirs
module _ (bare : List ℕ) where
  linked-within : (x y : ℕ) → member (flooded bare (alone x) 0) y ≡ true → (n : ℕ)
      → member (flooded bare (alone y) 0) n ≡ true → member (flooded bare (alone x) 0) n ≡ true
  linked-within x y is =
      flood_least bare (alone y) 0 (λ (n : ℕ). member (flooded bare (alone x) 0) n ≡ true)
      (λ n begins left. ap (member (flooded bare (alone x) 0)) (sym (member-alone y n begins)) ∙ is)
      (λ u v below here join left. flood_on_lem bare (alone x) 0 u v below here join (member_none v))

  linked_shared : (x y : ℕ) → x < room → joined bare x y ≡ true → member (flooded bare (alone y) 0) x ≡ true
      → flooded bare (alone y) 0 ≡ flooded bare (alone x) 0
  linked_shared x y inside join back =
      members_equal (flooded bare (alone y) 0) (flooded bare (alone x) 0)
      (λ n. both_ways (member (flooded bare (alone y) 0) n) (member (flooded bare (alone x) 0) n)
      (linked-within x y (flood_on_lem bare (alone x) 0 x y inside
      (flood-begins bare (alone x) 0 x (member-including-same 0 x inside) (member_none x)) join (member_none y)) n)
      (linked-within y x back n))

  pub shared_by : (l : List ℕ) (x lowest : ℕ) → LowerKnown bare l x → x < room
      → Some lowest ≡ member_from (get_or bare x 0) 0 → lowest < x → member (get_or l lowest 0) x ≡ true
      → get_or l lowest 0 ≡ flooded bare (alone x) 0
  shared_by l x lowest known inside found below on =
      let at = (member_from_found (get_or bare x 0) 0 lowest found).1 in
      let is = known lowest below in
      is ∙ linked_shared x lowest inside
      (ap (joined bare x) at ∙ lowest-found (get_or bare x 0) 0 (omega (arith, at, below, inside)))
      (ap (λ (n : ℕ). member n x) (sym is) ∙ on)

module _ (bare : List ℕ) (t : ℕ) where
  pub linked_here : (x y r : ℕ) → x < t → y ≡ x → r ≡ flooded bare (alone y) 0 → r ≡ linked_to bare t x
  unfolding linked_to
  linked_here x y r below at is = is ∙ rw (at, lt-ltb x t below) refl

  pub lower_known : (x y : ℕ) (l : List ℕ) → FilledTo (λ (s : ℕ). s) (linked_to bare t) 0 most_terminals x l → x < t
      → x < most_terminals → y ≡ x → LowerKnown bare l y
  unfolding linked_to
  lower_known x y l so below inside at z under =
      so.done z (omega (arith, at, under, inside)) (omega (arith, at, under))
      ∙ rw (lt-ltb z t (omega (arith, at, under, below))) refl

  linked_past : (x : ℕ) → t ≤ x → linked_to bare t x ≡ 0
  unfolding linked_to
  linked_past x past = rw (le-ltb x t past) refl

  pub linked_at : (x : ℕ) → x < most_terminals → get_or (linked bare t) x 0 ≡ linked_to bare t x
  unfolding linked
  linked_at x below = table_at (linked_to bare t) most_terminals x 0 below

  linked-length : length (linked bare t) ≡ most_terminals
  unfolding linked
  linked-length = table-length (linked_to bare t) most_terminals 0

  pub linked-ends : (x end : ℕ) (l : List ℕ) → FilledTo (λ (s : ℕ). s) (linked_to bare t) 0 most_terminals x l
      → end ≡ min t most_terminals → end ≤ x → l ≡ linked bare t
  linked-ends x end l so many past =
      ext_get_or 0 l (linked bare t) (so.many ∙ sym linked-length)
      (λ y inside.
      let below : y < most_terminals = omega (arith, so.many, inside) in
      filled_each (λ (s : ℕ). s) (linked_to bare t) 0 most_terminals x l so
      (λ z under from. linked_past z (omega (arith, many, past, under, from)))
      y below
      ∙ sym (linked_at y below))

-- ---- a winding by these

module _ (l : List ℕ) (v : Winding) where
  -- by the linked terminals of t, one of which it ends at, it is whether its ends are linked
  pub shunted-linked : (bare : List ℕ) (t : ℕ) → l ≡ linked bare t → t ≤ most_terminals → v.a < t
      → shunted_by l v ≡ member (flooded bare (alone v.a) 0) v.b
  unfolding shunted_by linked_to
  shunted-linked bare t is most below =
      rw (
        is,
        lt-ltb v.a most_terminals (omega (arith, below, most)),
        linked_at bare t v.a (omega (arith, below, most)),
        lt-ltb v.a t below,
      ) refl

-- it is live exactly if it is not shunted and both its ends are served
pub live_by_exactly : (s : ℕ) (l : List ℕ) (v : Winding)
    → live_by s l v ≡ true ↔ (shunted_by l v ≡ false) × (member s v.a ≡ true) × (member s v.b ≡ true)
unfolding live_by
live_by_exactly s l v = (
  λ is.
      let ends = both_true (not (shunted_by l v) && member s v.a) (member s v.b) is in
      let first = both_true (not (shunted_by l v)) (member s v.a) ends.0 in
      (not-true (shunted_by l v) first.0, first.1, ends.1),
  λ (off, one, other). rw (off, one, other) refl,
)

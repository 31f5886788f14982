-- The laws of which terminals are joined, which every crate above cites: in the sets of a board whose counts and parts
-- fit, y is in the set of x exactly if a conducting part has x and y as its ends, and in its set without windings
-- exactly if one does that is no winding. So being joined goes both ways, and holds of terminals of the board.
use Prim.Native.Nat.{ℕ, ◌≤◌, ◌<◌}
use native.Mathlib.Omega.{arith}
use mathlib.Core.Path.{◌≡◌, refl, sym, subst, ap, ◌∙◌}
use mathlib.Core.Logic.{◌⊎◌, inl, inr}
use mathlib.Core.Bool.{Bool, true, false, not, ◌&&◌, false≢true}
use mathlib.Core.List.{List, [], ◌∷◌}
use lib.Dec.{eqb, ltb}
use borrow.Author.Tests.{eqb-true, eqb-false, ltb-true, ltb-false, not-true}
use Rattle.lists.specs.Members.{◌∈◌}
use Rattle.lists.proofs.MemberLaws.{all-member}
use Rattle.bits.specs.Sets.{room, member, including}
use Rattle.bits.proofs.BoolLaws.{both_true, by_test, by_less, both_ways}
use Rattle.bits.proofs.SetLaws.{member_none, including-kept, including-beyond, member-including-same}
use Rattle.bits.proofs.SetLaws.{member-including_other}
use Rattle.kinds.specs.declared.Kind.{Kind}
use Rattle.kinds.specs.declared.Kind.TheVariants.{Wire, Upper, Lower, Button, Regular, Drawing, Dropping, Mark}
use Rattle.kinds.specs.Kinds.{kind_number, mark_kind}
use Rattle.board.specs.declared.Part.{Part}
use Rattle.board.specs.declared.Board.{Board}
use Rattle.board.specs.Parts.{parts_of}
use Rattle.board.specs.Rules.{most_terminals}
use Rattle.board.specs.BreaksNoRule.{EndsFit, Fits, BoardFits}
use Rattle.state.specs.declared.State.{State}
use Rattle.neighbours.specs.Conduction.{conducts, winds, conducts_bare}
use Rattle.neighbours.specs.Neighbours.{EndsAt, Joined, JoinedBare, joined, with_other, with_part, set_from, set_at}
use Rattle.neighbours.specs.Neighbours.{sets_at, neighbours, bare_neighbours}
use Rattle.neighbours.proofs.SetAtLaws.{with_other_here, with_other_else, with_part_joining, with_part_open}
use Rattle.neighbours.proofs.SetAtLaws.{from_none, from_next, set_at_from, sets_at_lem, sets-beyond, neighbours_sets}
use Rattle.neighbours.proofs.SetAtLaws.{bare_sets}

-- ---- a part's two ends, in either order

ends_turned : (p : Part) (x y : ℕ) → EndsAt p x y → EndsAt p y x
ends_turned p x y (inl e) = inr e
ends_turned p x y (inr e) = inl e

-- what holds of the ends both ways round holds of x and y
ends_either : (p : Part) (P : ℕ → ℕ → Type 0) → P p.a p.b → P p.b p.a → (x y : ℕ) → EndsAt p x y → P x y
ends_either p P on turned x y (inl e) = subst (λ (z : ℕ). P z y) e.0 (subst (P p.a) e.1 on)
ends_either p P on turned x y (inr e) = subst (λ (z : ℕ). P z y) e.1 (subst (P p.b) e.0 turned)

-- ---- the set of one terminal, with one end of a part besides

module _ (u v x k : ℕ) where
  other-kept : (y : ℕ) → member k y ≡ true → member (with_other u v x k) y ≡ true
  other-kept y is =
      by_test (eqb x u)
      (λ same. ap (λ (j : ℕ). member j y) (with_other_here u v x k (eqb-true x u same)) ∙ including-kept k v y is)
      (λ differ. ap (λ (j : ℕ). member j y) (with_other_else u v x k (eqb-false x u differ)) ∙ is)

  other_joins : x ≡ u → v < most_terminals → member (with_other u v x k) v ≡ true
  other_joins same fits =
      ap (λ (j : ℕ). member j v) (with_other_here u v x k same) ∙ member-including-same k v fits

  -- what holds if u is x and v is y, and if y was a member before, holds if it is one now
  other_new : (y : ℕ) {C : Type 0} → (u ≡ x → v ≡ y → C) → (member k y ≡ true → C)
      → member (with_other u v x k) y ≡ true → C
  other_new y new old is =
      by_test (eqb x u)
      (λ same. by_test (eqb y v)
      (λ also. new (sym (eqb-true x u same)) (sym (eqb-true y v also)))
      (λ differ. old (sym (ap (λ (j : ℕ). member j y) (with_other_here u v x k (eqb-true x u same))
      ∙ member-including_other k v y (eqb-false y v differ)) ∙ is)))
      (λ differ. old (sym (ap (λ (j : ℕ). member j y) (with_other_else u v x k (eqb-false x u differ))) ∙ is))

-- ---- with both ends of a part

module _ (t : Bool) (p : Part) (x k : ℕ) where
  part_on : (y : ℕ) → t ≡ true
      → member (with_part t p x k) y ≡ member (with_other p.b p.a x (with_other p.a p.b x k)) y
  part_on y on = ap (λ (j : ℕ). member j y) (with_part_joining t p x k on)

  part_off : (y : ℕ) → t ≡ false → member (with_part t p x k) y ≡ member k y
  part_off y off = ap (λ (j : ℕ). member j y) (with_part_open t p x k off)

  part-kept : (y : ℕ) → member k y ≡ true → member (with_part t p x k) y ≡ true
  part-kept y is =
      by_test t
      (λ on. part_on y on ∙ other-kept p.b p.a x (with_other p.a p.b x k) y
      (other-kept p.a p.b x k y is))
      (λ off. part_off y off ∙ is)

  part_new : (y : ℕ) {C : Type 0} → (t ≡ true → EndsAt p x y → C) → (member k y ≡ true → C)
      → member (with_part t p x k) y ≡ true → C
  part_new y new old is =
      by_test t
      (λ on. other_new p.b p.a x (with_other p.a p.b x k) y
      (λ bx ay. new on (inr (ay, bx)))
      (other_new p.a p.b x k y (λ ax by. new on (inl (ax, by))) old)
      (sym (part_on y on) ∙ is))
      (λ off. old (sym (part_off y off) ∙ is))

-- past the terminals nothing is joined
part-beyond : (t : Bool) (p : Part) (x k y : ℕ) → room ≤ y → member (with_part t p x k) y ≡ member k y
part-beyond t p x k y past =
    by_test t
    (λ on. part_on t p x k y on ∙ other p.b p.a (with_other p.a p.b x k) ∙ other p.a p.b k)
    (λ off. part_off t p x k y off)
  where
    -- v is y only if it is past them too
    without_v : (v j : ℕ) → member (including j v) y ≡ member j y
    without_v v j =
        by_less v room
        (λ inside. member-including_other j v y (λ same. omega (arith, same, inside, past)))
        (λ beyond. ap (λ (i : ℕ). member i y) (including-beyond j v beyond))

    other : (u v j : ℕ) → member (with_other u v x j) y ≡ member j y
    other u v j =
        by_test (eqb x u)
        (λ same. ap (λ (i : ℕ). member i y) (with_other_here u v x j (eqb-true x u same)) ∙ without_v v j)
        (λ differ. ap (λ (i : ℕ). member i y) (with_other_else u v x j (eqb-false x u differ)))

part_adds : (t : Bool) (p : Part) (k x y : ℕ) → t ≡ true → EndsAt p x y → y < most_terminals
    → member (with_part t p x k) y ≡ true
part_adds t p k x y on =
    ends_either p (λ u v. v < most_terminals → member (with_part t p u k) v ≡ true)
    (λ b. part_on t p p.a k p.b on ∙ other-kept p.b p.a p.a (with_other p.a p.b p.a k) p.b
    (other_joins p.a p.b p.a k refl b))
    (λ a. part_on t p p.b k p.a on ∙ other_joins p.b p.a p.b (with_other p.a p.b p.b k) refl a)
    x y

-- ---- a set, with those besides that the parts which pass a test join to its terminal

module _ (g : Part → Bool) (x k y : ℕ) where
  from_step : (p : Part) (ps : List Part)
      → member (set_from g x k (p ∷ ps)) y ≡ member (with_part (g p) p x (set_from g x k ps)) y
  from_step p ps = ap (λ (j : ℕ). member j y) (from_next g x k p ps)

  pub from-kept : (ps : List Part) → member k y ≡ true → member (set_from g x k ps) y ≡ true
  from-kept [] is = ap (λ (j : ℕ). member j y) (from_none g x k) ∙ is
  from-kept (p ∷ ps) is = from_step p ps ∙ part-kept (g p) p x (set_from g x k ps) y (from-kept ps is)

  pub from_adds : (ps : List Part) (p : Part) → p ∈ ps → g p ≡ true → EndsAt p x y → y < most_terminals
      → member (set_from g x k ps) y ≡ true
  from_adds [] p among_none on ends fits = absurd among_none
  from_adds (q ∷ ps) p (inl same) on ends fits =
      from_step q ps ∙ subst (λ (r : Part). member (with_part (g r) r x (set_from g x k ps)) y ≡ true) same
      (part_adds (g p) p (set_from g x k ps) x y on ends fits)
  from_adds (q ∷ ps) p (inr later) on ends fits =
      from_step q ps ∙ part-kept (g q) q x (set_from g x k ps) y (from_adds ps p later on ends fits)

  -- y was there, or is by some part: what follows from either holds
  pub from_by : {C : Type 0} (ps : List Part) → (member k y ≡ true → C)
      → ((p : Part) → p ∈ ps → g p ≡ true → EndsAt p x y → C) → member (set_from g x k ps) y ≡ true → C
  from_by [] before use-part is = before (sym (ap (λ (j : ℕ). member j y) (from_none g x k)) ∙ is)
  from_by (p ∷ ps) before use-part is =
      part_new (g p) p x (set_from g x k ps) y (λ on ends. use-part p (inl refl) on ends)
      (from_by ps before (λ q later on ends. use-part q (inr later) on ends)) (sym (from_step p ps) ∙ is)

  -- past the terminals nothing is joined
  pub from-beyond : (ps : List Part) → room ≤ y → member (set_from g x k ps) y ≡ member k y
  from-beyond [] past = ap (λ (j : ℕ). member j y) (from_none g x k)
  from-beyond (p ∷ ps) past =
      from_step p ps ∙ part-beyond (g p) p x (set_from g x k ps) y past ∙ from-beyond ps past

-- ---- by all the parts of the kinds that pass a test, from none

module _ (f : Kind → Bool) (x y : ℕ) where
  at_from : (ps : List Part) → member (set_at f x ps) y ≡ member (set_from (λ (p : Part). f p.kind) x 0 ps) y
  at_from ps = ap (λ (k : ℕ). member k y) (set_at_from f x ps)

  pub set_at_adds : (ps : List Part) (p : Part) → p ∈ ps → f p.kind ≡ true → EndsAt p x y → y < most_terminals
      → member (set_at f x ps) y ≡ true
  set_at_adds ps p among on ends fits = at_from ps ∙ from_adds _ x 0 y ps p among on ends fits

  -- y is in the set of x by some part: what follows from such a part holds
  pub set_at_by : {C : Type 0} (ps : List Part)
      → ((p : Part) → p ∈ ps → f p.kind ≡ true → EndsAt p x y → C) → member (set_at f x ps) y ≡ true → C
  set_at_by ps use-part is =
      from_by _ x 0 y ps (λ was. absurd (false≢true (sym (member_none y) ∙ was))) use-part (sym (at_from ps) ∙ is)

  pub set_at-beyond : (ps : List Part) → room ≤ y → member (set_at f x ps) y ≡ false
  set_at-beyond ps past = at_from ps ∙ from-beyond _ x 0 y ps past ∙ member_none y

-- ---- the sets of a board

-- a mark conducts nothing
conducting_joins : (s : State) (k : Kind) → conducts s k ≡ true → ¬ (kind_number k ≡ mark_kind)
conducting_joins s (Mark r) on mark = false≢true on
conducting_joins s Wire on mark = omega (arith, mark)
conducting_joins s (Upper r) on mark = omega (arith, mark)
conducting_joins s (Lower r) on mark = omega (arith, mark)
conducting_joins s (Button n) on mark = omega (arith, mark)
conducting_joins s (Regular r) on mark = omega (arith, mark)
conducting_joins s (Drawing r) on mark = omega (arith, mark)
conducting_joins s (Dropping r) on mark = omega (arith, mark)

-- the ends of a conducting part of the board are two terminals of it
part-ends : (b : Board) (s : State) (p : Part) → BoardFits b → p ∈ parts_of b → conducts s p.kind ≡ true
    → EndsFit b.counts p
part-ends b s p fits among on =
    (all-member (Fits b.counts) (parts_of b) p fits.parts among).ends (conducting_joins s p.kind on)

ends_inside : (b : Board) (s : State) (p : Part) (x y : ℕ) → BoardFits b → p ∈ parts_of b → conducts s p.kind ≡ true
    → EndsAt p x y → (x < b.counts.terminals) × (y < b.counts.terminals)
ends_inside b s p x y fits among on =
    let fit = part-ends b s p fits among on in
    ends_either p (λ u v. (u < b.counts.terminals) × (v < b.counts.terminals)) (fit.a_below, fit.b_below)
    (fit.b_below, fit.a_below) x y

module _ (f : Kind → Bool) (b : Board) (x y : ℕ) where
  joined_inside_sets : x < most_terminals → joined (sets_at f (parts_of b)) x y ≡ member (set_at f x (parts_of b)) y
  joined_inside_sets below = ap (λ (k : ℕ). member k y) (sets_at_lem f (parts_of b) x below)

  joined-beyond_sets : most_terminals ≤ x → joined (sets_at f (parts_of b)) x y ≡ false
  joined-beyond_sets past = ap (λ (k : ℕ). member k y) (sets-beyond f (parts_of b) x past) ∙ member_none y

  -- x and y are joined by a part of a kind that passes the test: what follows from such a part holds
  joined_by : {C : Type 0} → ((p : Part) → p ∈ parts_of b → f p.kind ≡ true → EndsAt p x y → C)
      → joined (sets_at f (parts_of b)) x y ≡ true → C
  joined_by use-part is =
      by_test (ltb x most_terminals)
      (λ below. set_at_by f x y (parts_of b) use-part
      (sym (joined_inside_sets (ltb-true x most_terminals below)) ∙ is))
      (λ past. absurd (false≢true (sym (joined-beyond_sets (ltb-false x most_terminals past)) ∙ is)))

  -- and such a part, if it conducts, joins them
  part_joins : (s : State) (p : Part) → BoardFits b → p ∈ parts_of b → conducts s p.kind ≡ true
      → f p.kind ≡ true → EndsAt p x y → joined (sets_at f (parts_of b)) x y ≡ true
  part_joins s p fits among conducting on ends =
      let most = fits.counts.terminals_few in
      let inside = ends_inside b s p x y fits among conducting ends in
      joined_inside_sets (omega (arith, most, inside.0))
      ∙ set_at_adds f x y (parts_of b) p among on ends (omega (arith, most, inside.1))

-- ---- the sets by all parts that conduct

module _ (b : Board) (s : State) (x y : ℕ) where
  by_conducting : joined (neighbours b s) x y ≡ joined (sets_at (conducts s) (parts_of b)) x y
  by_conducting = ap (λ (k : List ℕ). joined k x y) (neighbours_sets b s)

  pub joined-part : joined (neighbours b s) x y ≡ true → Joined b s x y
  joined-part is =
      joined_by (conducts s) b x y
      (λ p among on ends. record { part = p; on_board = among; conducting = on; ends = ends }) (sym by_conducting ∙ is)

  pub part-joined : BoardFits b → Joined b s x y → joined (neighbours b s) x y ≡ true
  part-joined fits j =
      by_conducting
      ∙ part_joins (conducts s) b x y s j.part fits j.on_board j.conducting j.conducting j.ends

  pub joined_terminals : BoardFits b → Joined b s x y → (x < b.counts.terminals) × (y < b.counts.terminals)
  joined_terminals fits j = ends_inside b s j.part x y fits j.on_board j.conducting j.ends

  pub joined_inside : BoardFits b → joined (neighbours b s) x y ≡ true → (x < b.counts.terminals)
      × (y < b.counts.terminals)
  joined_inside fits is = joined_terminals fits (joined-part is)

pub joined_apart : (b : Board) (s : State) (x y : ℕ) → BoardFits b → Joined b s x y → ¬ (x ≡ y)
joined_apart b s x y fits j =
    let fit = part-ends b s j.part fits j.on_board j.conducting in
    ends_either j.part (λ u v. ¬ (u ≡ v)) fit.ends_differ (λ e. fit.ends_differ (sym e)) x y j.ends

pub joined_turned : (b : Board) (s : State) (x y : ℕ) → Joined b s x y → Joined b s y x
joined_turned b s x y j =
    record {
      part = j.part;
      on_board = j.on_board;
      conducting = j.conducting;
      ends = ends_turned j.part x y j.ends;
    }

pub joined_symmetric : (b : Board) (s : State) (x y : ℕ) → BoardFits b → joined (neighbours b s) x y ≡ joined
    (neighbours b s) y x
joined_symmetric b s x y fits = both_ways _ _ (turned x y) (turned y x)
  where
    turned : (u v : ℕ) → joined (neighbours b s) u v ≡ true → joined (neighbours b s) v u ≡ true
    turned u v is = part-joined b s v u fits (joined_turned b s u v (joined-part b s u v is))

-- ---- the sets by those of them that are no winding

bare_parts : (s : State) (k : Kind) → conducts_bare s k ≡ true → (winds k ≡ false) × (conducts s k ≡ true)
bare_parts s k on =
    let both = both_true (not (winds k)) (conducts s k) on in (not-true (winds k) both.0, both.1)

pub parts_bare : (s : State) (k : Kind) → winds k ≡ false → conducts s k ≡ true → conducts_bare s k ≡ true
parts_bare s k apart on = rw (apart, on) refl

module _ (s : State) (k : Kind) where
  pub bare_winding : winds k ≡ true → conducts_bare s k ≡ false
  bare_winding is = rw is refl

  pub bare_off : {A : Type 0} → A ⊎ (conducts s k ≡ false) → A ⊎ (conducts_bare s k ≡ false)
  bare_off (inl a) = inl a
  bare_off (inr off) = inr (neither (winds k) (conducts s k) off)
    where
      neither : (t u : Bool) → u ≡ false → (not t && u) ≡ false
      neither true u off = refl
      neither false u off = off

module _ (b : Board) (s : State) (x y : ℕ) where
  by_bare : joined (bare_neighbours b s) x y ≡ joined (sets_at (conducts_bare s) (parts_of b)) x y
  by_bare = ap (λ (k : List ℕ). joined k x y) (bare_sets b s)

  pub bare-part : joined (bare_neighbours b s) x y ≡ true → JoinedBare b s x y
  bare-part is =
      joined_by (conducts_bare s) b x y
      (λ p among on ends.
      let both = bare_parts s p.kind on in
      record {
        joined = record { part = p; on_board = among; conducting = both.1; ends = ends };
        no_winding = both.0;
      })
      (sym by_bare ∙ is)

  pub part_bare : BoardFits b → JoinedBare b s x y → joined (bare_neighbours b s) x y ≡ true
  part_bare fits j =
      let by_part = j.joined in
      by_bare
      ∙ part_joins (conducts_bare s) b x y s by_part.part fits by_part.on_board by_part.conducting
      (parts_bare s by_part.part.kind j.no_winding by_part.conducting) by_part.ends

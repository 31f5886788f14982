-- Laws of sets that are renewed between some terminals, pair by pair: what they join, when they are all that the parts
-- give, and that the code's way, taking those terminals apart and joining them again part by part, comes to them.
use Prim.Native.Nat.{ℕ, ◌<◌}
use native.Mathlib.Omega.{arith}
use mathlib.Core.Path.{◌≡◌, refl, sym, ap, ◌∙◌}
use mathlib.Core.Logic.{◌⊎◌, inl, inr}
use mathlib.Core.Bool.{Bool, true, false, not, cond, ◌&&◌, ◌||◌, false≢true}
use mathlib.Core.List.{List}
use lib.ListN.{length, get_or, replicate, get_or-replicate}
use lib.Seq.{ext_get_or}
use Rattle.bits.specs.Sets.{room, member, remaining}
use Rattle.bits.proofs.BoolLaws.{by_test, by_less, both_ways, both_true, true_both}
use Rattle.bits.proofs.SetLaws.{member_none, members_equal, member-remaining, member-together, member-every}
use Rattle.kinds.specs.declared.Kind.{Kind}
use Rattle.board.specs.declared.Part.{Part}
use Rattle.board.specs.Rules.{most_terminals}
use Rattle.lists.proofs.TableLaws.{table-length, table_at}
use Rattle.neighbours.specs.Neighbours.{EndsAt, set_from, set_at, sets_at, chosen, renewed_at}
use Rattle.neighbours.specs.Rows.{EachSet, only_at, without, among, among_by, gathered}
use Rattle.neighbours.proofs.SetAtLaws.{sets-length, sets_at_lem}
use Rattle.neighbours.proofs.JoinedLaws.{from-kept, from_adds, from_by, from-beyond, set_at_adds, set_at_by}
use Rattle.neighbours.proofs.JoinedLaws.{set_at-beyond}
use Rattle.neighbours.proofs.RowLaws.{each_same, only_here, only_else, gathered-length, gathered_at}

-- ---- chosen: of the terminals of a set those in k, of all others those in l

module _ (at k l y : ℕ) where
  chosen-member : member (chosen at k l) y ≡ cond (member at y) (member k y) (member l y)
  unfolding chosen
  chosen-member =
      member-together (remaining k (remaining k at)) (remaining l at) y
      ∙ rw (member-remaining k (remaining k at) y, member-remaining k at y, member-remaining l at y)
      (by (member k y) (member l y) (member at y))
    where
      by : (s t u : Bool) → ((s && not (s && not u)) || (t && not u)) ≡ cond u s t
      by true true true = refl
      by true true false = refl
      by true false true = refl
      by true false false = refl
      by false true true = refl
      by false true false = refl
      by false false true = refl
      by false false false = refl

  chosen_in : member at y ≡ true → member (chosen at k l) y ≡ member k y
  chosen_in is = chosen-member ∙ rw is refl

  chosen_out : member at y ≡ false → member (chosen at k l) y ≡ member l y
  chosen_out is = chosen-member ∙ rw is refl

-- ---- the sets so renewed, set by set and pair by pair

module _ (f : Kind → Bool) (ps : List Part) (at : ℕ) (near : List ℕ) where
  abbrev renewed_set : ℕ → ℕ
  renewed_set x = cond (member at x) (chosen at (set_at f x ps) (get_or near x 0)) (get_or near x 0)

  renewed-length : length (renewed_at f ps at near) ≡ most_terminals
  unfolding renewed_at
  renewed-length = table-length renewed_set most_terminals 0

  renewed-place : (x : ℕ) → x < most_terminals → get_or (renewed_at f ps at near) x 0 ≡ renewed_set x
  unfolding renewed_at
  renewed-place x below =
      table_at renewed_set most_terminals x 0 below

  renewed_here : (x : ℕ) → x < most_terminals → member at x ≡ true
      → get_or (renewed_at f ps at near) x 0 ≡ chosen at (set_at f x ps) (get_or near x 0)
  renewed_here x below here = renewed-place x below ∙ rw here refl

  -- a terminal that is not among them keeps its set
  pub renewed_else : (x : ℕ) → x < most_terminals → member at x ≡ false
      → get_or (renewed_at f ps at near) x 0 ≡ get_or near x 0
  renewed_else x below off = renewed-place x below ∙ rw off refl

  -- 64 sets that are so are these
  renewed_each : (r : List ℕ) → length r ≡ most_terminals
      → ((x : ℕ) → x < most_terminals → member at x ≡ true → get_or r x 0 ≡ chosen at (set_at f x ps) (get_or near x 0))
      → ((x : ℕ) → x < most_terminals → member at x ≡ false → get_or r x 0 ≡ get_or near x 0)
      → r ≡ renewed_at f ps at near
  renewed_each r long here off =
      ext_get_or 0 r (renewed_at f ps at near) (long ∙ sym renewed-length)
      (λ x inside.
      let below : x < most_terminals = omega (arith, long, inside) in
      by_test (member at x)
      (λ is. here x below is ∙ sym (renewed_here x below is))
      (λ is. off x below is ∙ sym (renewed_else x below is)))

  -- where every other pair is joined as the parts join it, they are all that the parts give
  pub renewed_all : ((x y : ℕ) → x < most_terminals → (member at x ≡ false) ⊎ (member at y ≡ false)
      → member (get_or near x 0) y ≡ member (set_at f x ps) y) → renewed_at f ps at near ≡ sets_at f ps
  renewed_all else-so =
      sym (renewed_each (sets_at f ps) (sets-length f ps)
      (λ x below is. sets_at_lem f ps x below
      ∙ members_equal (set_at f x ps) (chosen at (set_at f x ps) (get_or near x 0))
      (λ y. by_test (member at y)
      (λ also. sym (chosen_in at (set_at f x ps) (get_or near x 0) y also))
      (λ off. sym (chosen_out at (set_at f x ps) (get_or near x 0) y off ∙ else-so x y below (inr off)))))
      (λ x below off. sets_at_lem f ps x below ∙ members_equal (set_at f x ps) (get_or near x 0)
      (λ y. sym (else-so x y below (inl off)))))

-- ---- the code's way

-- both ends of a part among the terminals are among them in either order
among-ends : (at : ℕ) (p : Part) (x y : ℕ) → among at p ≡ true → EndsAt p x y
    → (member at x ≡ true) × (member at y ≡ true)
among-ends at p x y both (inl (a, b)) =
    let ends = both_true (member at p.a) (member at p.b) both in
    (ap (member at) (sym a) ∙ ends.0, ap (member at) (sym b) ∙ ends.1)
among-ends at p x y both (inr (a, b)) =
    let ends = both_true (member at p.a) (member at p.b) both in
    (ap (member at) (sym b) ∙ ends.1, ap (member at) (sym a) ∙ ends.0)

ends-among : (at : ℕ) (p : Part) (x y : ℕ) → member at x ≡ true → member at y ≡ true → EndsAt p x y
    → among at p ≡ true
ends-among at p x y is also (inl (a, b)) = true_both (ap (member at) a ∙ is) (ap (member at) b ∙ also)
ends-among at p x y is also (inr (a, b)) = true_both (ap (member at) a ∙ also) (ap (member at) b ∙ is)

module _ (f : Kind → Bool) (ps : List Part) (at : ℕ) where
  -- a terminal that is not among them is joined to no other
  from_else : (x k : ℕ) → member at x ≡ false → set_from (among_by at f) x k ps ≡ k
  from_else x k off =
      members_equal (set_from (among_by at f) x k ps) k
      (λ y. both_ways _ _
      (from_by (among_by at f) x k y ps (λ is. is)
      (λ p on_board on ends.
      absurd (false≢true (sym off ∙ (among-ends at p x y (both_true (among at p) _ on).0 ends).0))))
      (from-kept (among_by at f) x k y ps))

  -- one that is, of them, is joined to those that the parts join to it
  from_here : (x l : ℕ) → member at x ≡ true
      → set_from (among_by at f) x (remaining l at) ps ≡ chosen at (set_at f x ps) l
  from_here x l here =
      members_equal (set_from (among_by at f) x (remaining l at) ps) (chosen at (set_at f x ps) l)
      (λ y. by_less y room
      (λ below. by_test (member at y)
      (λ is. inside y below is ∙ sym (chosen_in at (set_at f x ps) l y is))
      (λ off. outside y off ∙ sym (chosen_out at (set_at f x ps) l y off)))
      (λ past. from-beyond (among_by at f) x (remaining l at) y ps past ∙ member-remaining l at y
      ∙ by_test (member at y)
      (λ is. rw is (no_more (member l y)) ∙ sym (chosen_in at (set_at f x ps) l y is ∙ set_at-beyond f x y ps past))
      (λ off. rw off (all_left (member l y)) ∙ sym (chosen_out at (set_at f x ps) l y off))))
    where
      no_more : (t : Bool) → (t && not true) ≡ false
      no_more true = refl
      no_more false = refl

      all_left : (t : Bool) → (t && not false) ≡ t
      all_left true = refl
      all_left false = refl

      taken : (y : ℕ) → member at y ≡ true → ¬ (member (remaining l at) y ≡ true)
      taken y is was =
          false≢true (sym (no_more (member l y)) ∙ sym (ap (λ (t : Bool). member l y && not t) is)
          ∙ sym (member-remaining l at y) ∙ was)

      inside : (y : ℕ) → y < room → member at y ≡ true
          → member (set_from (among_by at f) x (remaining l at) ps) y ≡ member (set_at f x ps) y
      inside y below is =
          both_ways _ _
          (from_by (among_by at f) x (remaining l at) y ps (λ was. absurd (taken y is was))
          (λ p on_board on ends. set_at_adds f x y ps p on_board (both_true (among at p) _ on).1 ends below))
          (set_at_by f x y ps
          (λ p on_board on ends. from_adds (among_by at f) x (remaining l at) y ps p on_board
          (true_both (ends-among at p x y here is ends) on) ends below))

      outside : (y : ℕ) → member at y ≡ false
          → member (set_from (among_by at f) x (remaining l at) ps) y ≡ member l y
      outside y off =
          both_ways _ _
          (from_by (among_by at f) x (remaining l at) y ps
          (λ was. (both_true (member l y) _ (sym (member-remaining l at y) ∙ was)).0)
          (λ p on_board on ends.
          absurd (false≢true (sym off ∙ (among-ends at p x y (both_true (among at p) _ on).0 ends).1))))
          (λ is. from-kept (among_by at f) x (remaining l at) y ps
          (member-remaining l at y ∙ rw (is, off) refl))

  -- so sets that were taken apart between the terminals, and joined again part by part, are renewed
  pub gathered-renewed : (start near : List ℕ) → EachSet start near (only_at at (without at))
      → gathered (among_by at f) ps near ≡ renewed_at f ps at start
  gathered-renewed start near each =
      renewed_each f ps at start (gathered (among_by at f) ps near) (gathered-length (among_by at f) ps near)
      (λ x below here. gathered_at (among_by at f) ps near x below
      ∙ ap (λ (k : ℕ). set_from (among_by at f) x k ps) (each.each x below ∙ only_here at x _ (without at) here)
      ∙ from_here x (get_or start x 0) here)
      (λ x below off. gathered_at (among_by at f) ps near x below
      ∙ from_else x (get_or near x 0) off ∙ each.each x below ∙ only_else at x _ (without at) off)

-- from none, between all terminals: all that the parts give
pub gathered_all : (f : Kind → Bool) (ps : List Part) (near : List ℕ) → near ≡ replicate most_terminals 0
    → gathered (among_by 18446744073709551615 f) ps near ≡ sets_at f ps
gathered_all f ps near none =
    gathered-renewed f ps every near near
    (each_same near (only_at every (without every)) (λ x below. ap (λ (k : ℕ). only_at every (without every) x k)
    (empty x below) ∙ nothing x ∙ sym (empty x below)))
    ∙ renewed_all f ps every near
    (λ x y below apart. ap (λ (k : ℕ). member k y) (empty x below) ∙ member_none y ∙ sym (beyond x y below apart))
  where
    every : ℕ
    every = 18446744073709551615

    empty : (x : ℕ) → x < most_terminals → get_or near x 0 ≡ 0
    empty x below =
        ap (λ (k : List ℕ). get_or k x 0) none ∙ get_or-replicate {A = ℕ} most_terminals x 0 0 below

    nothing : (x : ℕ) → only_at every (without every) x 0 ≡ 0
    nothing x =
        by_test (member every x)
        (λ here. only_here every x 0 (without every) here
        ∙ members_equal (remaining 0 every) 0 (λ n. member-remaining 0 every n ∙ rw (member_none n) refl))
        (λ off. only_else every x 0 (without every) off)

    beyond : (x y : ℕ) → x < most_terminals → (member every x ≡ false) ⊎ (member every y ≡ false)
        → member (set_at f x ps) y ≡ false
    beyond x y below (inl off) = absurd (false≢true (sym off ∙ member-every x below))
    beyond x y below (inr off) =
        by_less y room (λ inside. absurd (false≢true (sym off ∙ member-every y inside)))
        (λ past. set_at-beyond f x y ps past)

-- The laws of the flood: it is the least set that holds the terminals of `from` and the neighbours of each that it
-- holds, those of `out` apart. Callers use `flood-begins`, `flood_on_lem` and `flood_least`; the last section is for
-- the proof of `flood`.
--     Comes near out done seen r    where those of `seen` are seen and those of `done` have been looked at, the flood
--                                   comes to r, however many terminals are left to look at
--     Looked done seen              the neighbours of those of `done`, those of `out` apart, are seen
use Prim.Native.Nat.{ℕ, zero, suc, ◌+◌, ◌≤◌, ◌<◌}
use native.Mathlib.Omega.{arith}
use mathlib.Core.Path.{◌≡◌, refl, sym, ap, ◌∙◌}
use mathlib.Core.Logic.{◌⊎◌, inl, inr, ⊎_elim}
use mathlib.Core.Bool.{true, false, not, false≢true}
use mathlib.Core.List.{List, [], ◌∷◌}
use Rattle.std.specs.Prelude.{Some, None}
use lib.Dec.{eqb}
use lib.ListN.{length, get_or}
use lib.Pow.{pow_pos}
use borrow.Author.Tests.{eqb-true, eqb-false, lt-ltb, le-ltb, not-true}
use Rattle.lists.specs.Members.{All, Once}
use Rattle.lists.proofs.MemberLaws.{all-member, all_map, once-below-length}
use Rattle.bits.specs.Sets.{room, member, including, remaining, together, lowest_from, member_from}
use Rattle.bits.proofs.BoolLaws.{by_test, by_less, both_true, either_true, true_either}
use Rattle.bits.proofs.SetLaws.{including_new, member-including-same, member-including_other, including-kept}
use Rattle.bits.proofs.SetLaws.{member_none, member-remaining, member-together}
use Rattle.bits.proofs.LowestLaws.{lowest-found, lowest_absent, member_from_found, member_from_lacks}
use Rattle.neighbours.specs.Neighbours.{joined}
use Rattle.reach.specs.Floods.{next_seen, flood_on, flooded}

-- ---- members of what remains and of either set

remains : (s t n : ℕ) → member s n ≡ true → member t n ≡ false → member (remaining s t) n ≡ true
remains s t n is left = member-remaining s t n ∙ rw (is, left) refl

remains_both : (s t n : ℕ) → member (remaining s t) n ≡ true → (member s n ≡ true) × (member t n ≡ false)
remains_both s t n is =
    let both = both_true (member s n) (not (member t n)) (sym (member-remaining s t n) ∙ is) in
    (both.0, not-true (member t n) both.1)

in_either : (s t n : ℕ) → (member s n ≡ true) ⊎ (member t n ≡ true) → member (together s t) n ≡ true
in_either s t n is = member-together s t n ∙ true_either (member s n) (member t n) is

either_in : (s t n : ℕ) → member (together s t) n ≡ true → (member s n ≡ true) ⊎ (member t n ≡ true)
either_in s t n is = either_true (member s n) (member t n) (sym (member-together s t n) ∙ is)

-- ---- the next terminal: it is seen and not done; where there is none, every terminal that is seen is done

module _ (seen done : ℕ) where
  next_new : next_seen seen done < room
      → (member seen (next_seen seen done) ≡ true) × (member done (next_seen seen done) ≡ false)
  unfolding next_seen
  next_new some = remains_both seen done (next_seen seen done) (lowest-found (remaining seen done) 0 some)

  next_none : (x : ℕ) → room ≤ next_seen seen done → x < room → member seen x ≡ true → member done x ≡ true
  unfolding next_seen
  next_none x none below is =
      by_test (member done x) (λ on. on)
      (λ off. absurd (false≢true (sym (lowest_absent (remaining seen done) 0 x none (omega arith) below)
      ∙ remains seen done x is off)))

-- the terminals l have been looked at, no two of them one
record EachOnce (done : ℕ) (l : List ℕ) : Type 0 where
  once : Once l
  below : All (λ (x : ℕ). x < room) l
  past : All (λ (x : ℕ). member done x ≡ true) l

each-once_next : (done seen : ℕ) (l : List ℕ) → EachOnce done l → next_seen seen done < room
    → EachOnce (including done (next_seen seen done)) (next_seen seen done ∷ l)
each-once_next done seen l so some = record {
  once = (
    λ m. false≢true (sym (next_new seen done some).1
        ∙ all-member (λ (x : ℕ). member done x ≡ true) l (next_seen seen done) so.past m),
    so.once,
  );
  below = (some, so.below);
  past = (
    member-including-same done (next_seen seen done) some,
    all_map _ _ (λ x is. including-kept done (next_seen seen done) x is) l so.past,
  );
}

-- ---- what the flood comes to

pub data Comes (near : List ℕ) (out : ℕ) : ℕ → ℕ → ℕ → Type 0 where
  stops : {done seen r : ℕ} → room ≤ next_seen seen done → seen ≡ r → Comes near out done seen r
  goes_on : {done seen r : ℕ} (x : ℕ) → x ≡ next_seen seen done → x < room
      → Comes near out (including done x) (together seen (remaining (get_or near x 0) out)) r
      → Comes near out done seen r

module _ (near : List ℕ) (out : ℕ) where
  -- no more than 64 terminals can be looked at, each once
  looks_come : (k done seen : ℕ) (l : List ℕ) → EachOnce done l → room ≤ k + length l
      → Comes near out done seen (flood_on near out k done seen)
  unfolding flood_on
  looks_come zero done seen l so many =
      by_less (next_seen seen done) room
      (λ some.
      let more = each-once_next done seen l so some in
      absurd (omega (arith, many, once-below-length room (next_seen seen done ∷ l) more.once more.below)))
      (λ none. stops none refl)
  looks_come (suc k) done seen l so many =
      by_less (next_seen seen done) room
      (λ some. rw (lt-ltb (next_seen seen done) room some)
      (goes_on (next_seen seen done) refl some
      (looks_come k _ _ (next_seen seen done ∷ l) (each-once_next done seen l so some) (omega (arith, many)))))
      (λ none. rw (le-ltb (next_seen seen done) room none) (stops none refl))

  flood-comes : (from : ℕ) → Comes near out 0 (remaining from out) (flooded near from out)
  unfolding flooded
  flood-comes from =
      looks_come room 0 (remaining from out) [] (record { once = tt; below = tt; past = tt }) (omega arith)

  -- ---- the flood is the least set that is closed

  comes-kept : {done seen r : ℕ} (y : ℕ) → Comes near out done seen r → member seen y ≡ true → member r y ≡ true
  comes-kept y (stops none e) is = ap (λ (s : ℕ). member s y) (sym e) ∙ is
  comes-kept {seen = seen} y (goes_on x at below rest) is =
      comes-kept y rest (in_either seen (remaining (get_or near x 0) out) y (inl is))

  abbrev Looked : ℕ → ℕ → Type 0
  Looked done seen =
      (x y : ℕ) → member done x ≡ true → joined near x y ≡ true → member out y ≡ false → member seen y ≡ true

  looked_on : (done seen x : ℕ) → Looked done seen
      → Looked (including done x) (together seen (remaining (get_or near x 0) out))
  looked_on done seen x looked u y is join left =
      in_either seen (remaining (get_or near x 0) out) y
      (by_test (eqb u x)
      (λ same.
      inr (remains (get_or near x 0) out y (ap (λ (z : ℕ). joined near z y) (sym (eqb-true u x same)) ∙ join) left))
      (λ other. inl (looked u y (sym (member-including_other done x u (eqb-false u x other)) ∙ is) join left)))

  comes_closed : {done seen r : ℕ} → Comes near out done seen r → Looked done seen
      → (x y : ℕ) → x < room → member r x ≡ true → joined near x y ≡ true → member out y ≡ false → member r y ≡ true
  comes_closed {done} {seen} (stops none e) looked x y below is join left =
      ap (λ (s : ℕ). member s y) (sym e)
      ∙ looked x y (next_none seen done x none below (ap (λ (s : ℕ). member s x) e ∙ is)) join left
  comes_closed {done} {seen} (goes_on n at some rest) looked x y below is join left =
      comes_closed rest (looked_on done seen n looked) x y below is join left

  module _ (P : ℕ → Type 0)
      (on : (x y : ℕ) → x < room → P x → joined near x y ≡ true → member out y ≡ false → P y) where
    comes_least : {done seen r : ℕ} → Comes near out done seen r → ((y : ℕ) → member seen y ≡ true → P y)
        → (y : ℕ) → member r y ≡ true → P y
    comes_least (stops none e) all y is = all y (ap (λ (s : ℕ). member s y) e ∙ is)
    comes_least {done} {seen} (goes_on x at below rest) all y is =
        comes_least rest
        (λ z seen-now. ⊎_elim (λ was. all z was)
        (λ new.
        let both = remains_both (get_or near x 0) out z new in
        on x z below (all x (ap (member seen) at ∙ (next_new seen done (omega arith)).0)) both.0 both.1)
        (either_in seen (remaining (get_or near x 0) out) z seen-now))
        y is

pub flood-begins : (near : List ℕ) (from out y : ℕ) → member from y ≡ true → member out y ≡ false
    → member (flooded near from out) y ≡ true
flood-begins near from out y is left = comes-kept near out y (flood-comes near out from) (remains from out y is left)

pub flood_on_lem : (near : List ℕ) (from out x y : ℕ) → x < room → member (flooded near from out) x ≡ true
    → joined near x y ≡ true → member out y ≡ false → member (flooded near from out) y ≡ true
flood_on_lem near from out =
    comes_closed near out (flood-comes near out from)
    (λ x y is join left. absurd (false≢true (sym (member_none x) ∙ is)))

pub flood_least : (near : List ℕ) (from out : ℕ) (P : ℕ → Type 0)
    → ((y : ℕ) → member from y ≡ true → member out y ≡ false → P y)
    → ((x y : ℕ) → x < room → P x → joined near x y ≡ true → member out y ≡ false → P y)
    → (y : ℕ) → member (flooded near from out) y ≡ true → P y
flood_least near from out P begins on =
    comes_least near out P on (flood-comes near out from)
    (λ y is. let both = remains_both from out y is in begins y both.0 both.1)

-- ---- one law for each need of `flood`: `left` is what remains to be looked at, and `next` its lowest, if any remains

pub comes_begin : (near : List ℕ) (from out seen : ℕ) → seen ≡ remaining from out
    → Comes near out 0 seen (flooded near from out)
comes_begin near from out seen start = rw start (flood-comes near out from)

module _ (done seen left : ℕ) (remain : left ≡ remaining seen done) where
  lowest : lowest_from left 0 ≡ next_seen seen done
  unfolding next_seen
  lowest = ap (λ (s : ℕ). lowest_from s 0) remain

  module _ (next : ℕ) (some : Some next ≡ member_from left 0) where
    pub next_below : next < room
    next_below = (member_from_found left 0 next some).0

    found : next ≡ next_seen seen done
    found = (member_from_found left 0 next some).1 ∙ lowest

    pub done_grows : done < including done next
    done_grows =
        let below = next_below in
        let new = ap (member done) found ∙ (next_new seen done (omega (arith, below, found))).1 in
        omega (arith, including_new done next below new, pow_pos next)

    pub comes_on : {near : List ℕ} {out r : ℕ} → Comes near out done seen r → (more done' seen' : ℕ)
        → more ≡ remaining (get_or near next 0) out → done' ≡ including done next → seen' ≡ together seen more
        → Comes near out done' seen' r
    comes_on (stops none e) more done' seen' m d s = absurd (omega (arith, found, next_below))
    comes_on (goes_on x at below rest) more done' seen' m d s =
        let same : next ≡ x = found ∙ sym at in
        rw (s, m, d, same) rest

  pub comes_end : {near : List ℕ} {out r : ℕ} → Comes near out done seen r → None ≡ member_from left 0 → seen ≡ r
  comes_end (stops none e) end = e
  comes_end (goes_on x at below rest) end = absurd (omega (arith, lowest, member_from_lacks left 0 end))

-- Laws of the chain walk, one for each way out of `Walk::enter` and `Walk::try_next`: what has been walked, followed by
-- what is left to walk, is the scan of the definition's list.
use Prim.Native.Nat.{ℕ, zero, suc, ◌+◌, ◌-◌, ◌*◌, ◌<◌, ◌≤◌}
use native.Mathlib.Omega.{arith}
use native.Mathlib.Nat.{sub-zero}
use native.Mathlib.Numerals.{add-one}
use mathlib.Core.Path.{◌≡◌, refl, sym, ap, subst, ◌∙◌}
use mathlib.Core.Bool.{Bool, true, false, cond}
use mathlib.Core.List.{List, [], ◌∷◌, ◌++◌}
use lib.ListN.{length, get_or, take, set, length-append, length-set}
use lib.Seq.{take-suc-set, take-set-le, take-take}
use borrow.Author.Tests.{eq-eqb, ne_eqb}
use Rattle.bits.specs.Sets.{member, remaining, first_from}
use Rattle.bits.proofs.SetLaws.{member-remaining}
use Rattle.bits.proofs.LowestLaws.{first-same, first_after}
use Rattle.board.specs.Rules.{most_terminals}
use Rattle.neighbours.specs.Neighbours.{joined}
use Rattle.chains.specs.Chains.{plus, minus, ending}
use Rattle.chains.specs.ChainList.{can_follow, tries, beyond, chains, beside, shows}
use Rattle.chains.proofs.StepLaws.{ending_next}
use Rattle.search.specs.declared.Winding.{Winding}
use Rattle.search.specs.declared.chain.Chain.{Chain}
use Rattle.search.specs.declared.walk.Scan as code-scan
use Rattle.search.specs.declared.walk.Scan.TheVariants.{Showing, ShowingNone, AllowanceSpent}
use Rattle.search.specs.declared.walk.Walked.{Walked}
use Rattle.search.specs.Verdicts.{verdict_by}
use Rattle.search.specs.Walks.{path_in, marked, carried, at_plus, gone, Carries, WalkComes, Scan, showing}
use Rattle.search.specs.Walks.{showing_none, scan, entered, tried, concluded, LeftWithin}
use Rattle.search.specs.Walks.{told_walked}
use Rattle.search.proofs.CarryLaws.{met-member, begun-carried, gone-carried}
use Rattle.search.proofs.NextLaws.{tries_none, tries_some}
use Rattle.search.proofs.ScanLaws.{carried_on, scan-append, scan-left, scan-weighed}

-- ---- what a chain on its way carries, field by field

carries-length : (v : Winding) (c : Chain) (ps : List ℕ) → Carries v c ps → c.length ≡ length (path_in c ps)
unfolding carried
carries-length v c ps h = ap (λ (d : Chain). d.length) h.whole

carries_end : (v : Winding) (c : Chain) (ps : List ℕ) → Carries v c ps → c.end ≡ ending (path_in c ps)
unfolding carried
carries_end v c ps h = ap (λ (d : Chain). d.end) h.whole

carries_met : (v : Winding) (c : Chain) (ps : List ℕ) → Carries v c ps → c.met ≡ marked 0 (path_in c ps)
unfolding carried
carries_met v c ps h = ap (λ (d : Chain). d.met) h.whole

carries-beside : (v : Winding) (c : Chain) (ps : List ℕ) → Carries v c ps → c.beside ≡ beside v.a v.b
    (path_in c ps)
unfolding carried
carries-beside v c ps h = ap (λ (d : Chain). d.beside) h.whole

-- ---- what a walk comes to, with the lent places

-- a walk that ends at the chain c as f, with w left, and leaves the places ps as they are comes to o
abbrev pub ComesHere : Chain → List ℕ → code-scan.Scan → ℕ → Scan → Type 0
ComesHere c ps f w o = WalkComes (record { found = f; left = w; length = c.length }) c ps ps o

comes_here : (v : Winding) (c : Chain) (ps : List ℕ) (f : code-scan.Scan) (w : ℕ) (o : Scan) → Carries v c ps
    → told_walked (record { found = f; left = w; length = c.length }) ps ≡ o → ComesHere c ps f w o
comes_here v c ps f w o h told = record { told = told; short = h.short; kept = refl; room = refl }

-- a walk from the places qs, which another left of ps
comes_after : (r : Walked) (c : Chain) (ps qs rs : List ℕ) (o p : Scan) → WalkComes r c qs rs o → o ≡ p
    → path_in c qs ≡ path_in c ps → length qs ≡ length ps → WalkComes r c ps rs p
comes_after r c ps qs rs o p h e kept room =
    record { told = h.told ∙ e; short = h.short; kept = h.kept ∙ kept; room = h.room ∙ room }

-- ---- entering a terminal

-- a chain is shown, or passed to those beyond it
entered_by : (near : List ℕ) (t : ℕ) (v : Winding) (p : List ℕ) (w : ℕ) (s : Bool) → ¬ (w ≡ 0)
    → shows v.a v.b p ≡ s
    → cond s (showing p (w - 1)) (scan (shows v.a v.b) (beyond (joined near) t (t - length p) p (ending p))
    (w - 1)) ≡ entered near t v p w
unfolding entered scan
entered_by near t v p w s some e =
    let same : w ≡ suc (w - 1) = omega (arith, some) in
    sym (ap (entered near t v p) same ∙ rw e refl)

shows_at_minus : (a b : ℕ) (p : List ℕ) (s : Bool) → ending p ≡ minus → beside a b p ≡ s → shows a b p ≡ s
unfolding shows
shows_at_minus a b p s e h = rw (eq-eqb (ending p) minus e) h

shows_elsewhere : (a b : ℕ) (p : List ℕ) → ¬ (ending p ≡ minus) → shows a b p ≡ false
unfolding shows
shows_elsewhere a b p d = rw (ne_eqb (ending p) minus d) refl

beyond-minus : (j : ℕ → ℕ → Bool) (t f : ℕ) (p : List ℕ) (x : ℕ) → x ≡ minus → beyond j t f p x ≡ []
unfolding beyond
beyond-minus j t zero p x e = refl
beyond-minus j t (suc f) p x e = rw (eq-eqb x minus e) refl

beyond_full : (j : ℕ → ℕ → Bool) (t f : ℕ) (p : List ℕ) (x : ℕ) → f ≡ 0 → beyond j t f p x ≡ []
unfolding beyond
beyond_full j t f p x e = rw e refl

beyond-tried : (near : List ℕ) (t : ℕ) (v : Winding) (p : List ℕ) (f w : ℕ) → f ≡ suc (t - length p - 1)
    → ¬ (ending p ≡ minus)
    → tried near t v p 0 w ≡ scan (shows v.a v.b) (beyond (joined near) t f p (ending p)) w
unfolding tried beyond
beyond-tried near t v p f w e d =
    ap
    (λ (k : ℕ). scan (shows v.a v.b)
    (tries (λ (m : ℕ). (p ++ (m ∷ [])) ∷ beyond (joined near) t (t - length p - 1) (p ++ (m ∷ [])) m)
    (can_follow (joined near) p (ending p)) k 0) w) (sub-zero t)
    ∙ rw (e, ne_eqb (ending p) minus d) refl

nothing_left : (s : List ℕ → Bool) (l : List (List ℕ)) (w : ℕ) → l ≡ [] → showing_none w ≡ scan s l w
unfolding scan
nothing_left s l w e = rw e refl

module _ (near : List ℕ) (t : ℕ) (v : Winding) (c : Chain) (ps : List ℕ) (w : ℕ) (h : Carries v c ps) where
  -- the scan of the chains from c on
  abbrev pub from_here : Scan
  from_here = entered near t v (path_in c ps) w

  pub enter_spent : w ≡ 0 → ComesHere c ps AllowanceSpent w from_here
  unfolding entered scan
  enter_spent none = comes_here v c ps _ _ _ h (rw none refl)

  module _ (some : ¬ (w ≡ 0)) where
    -- the chain ends at minus, and shows the winding if its ends stand side by side
    ended_by : (s : Bool) → c.end ≡ minus → c.beside ≡ s
        → cond s (showing (path_in c ps) (w - 1)) (showing_none (w - 1)) ≡ from_here
    ended_by s end side =
        let last = sym (carries_end v c ps h) ∙ end in
        ap (cond s (showing (path_in c ps) (w - 1)))
        (nothing_left _ _ (w - 1)
        (beyond-minus (joined near) t (t - length (path_in c ps)) (path_in c ps) (ending (path_in c ps)) last))
        ∙ entered_by near t v (path_in c ps) w s some
        (shows_at_minus _ _ (path_in c ps) s last (sym (carries-beside v c ps h) ∙ side))

    pub enter_showing : c.end ≡ minus → c.beside ≡ true → ComesHere c ps Showing (w - 1) from_here
    enter_showing end side = comes_here v c ps _ _ _ h (ended_by true end side)

    pub enter-ended : c.end ≡ minus → c.beside ≡ false → ComesHere c ps ShowingNone (w - 1) from_here
    enter-ended end side = comes_here v c ps _ _ _ h (ended_by false end side)

    -- a chain that does not end at minus is passed
    elsewhere : ¬ (c.end ≡ minus) → scan (shows v.a v.b)
        (beyond (joined near) t (t - length (path_in c ps)) (path_in c ps) (ending (path_in c ps)))
        (w - 1) ≡ from_here
    elsewhere end =
        entered_by near t v (path_in c ps) w false some
        (shows_elsewhere _ _ (path_in c ps) (λ e. end (carries_end v c ps h ∙ e)))

    pub enter_full : ¬ (c.end ≡ minus) → t ≤ c.length → ComesHere c ps ShowingNone (w - 1) from_here
    enter_full end full =
        comes_here v c ps _ _ _ h (nothing_left _ _ (w - 1) (beyond_full (joined near) t
        (t - length (path_in c ps)) (path_in c ps) (ending (path_in c ps))
        (omega (arith, carries-length v c ps h, full)))
        ∙ elsewhere end)

    pub enter_on : (r : Walked) (qs : List ℕ) → ¬ (c.end ≡ minus) → c.length < t
        → WalkComes r c ps qs (tried near t v (path_in c ps) 0 (w - 1))
        → WalkComes r c ps qs from_here
    enter_on r qs end room walked =
        comes_after r c ps ps qs _ _ walked
        (beyond-tried near t v (path_in c ps) (t - length (path_in c ps)) (w - 1)
        (omega (arith, carries-length v c ps h, room)) (λ e. end (carries_end v c ps h ∙ e))
        ∙ elsewhere end) refl refl

-- ---- trying the next neighbour

-- the chains from p gone on to m are those that entering m goes through
onward : (near : List ℕ) (t : ℕ) (p q : List ℕ) (m : ℕ) → q ≡ p ++ (m ∷ [])
    → ◌≡◌ {A = List (List ℕ)} (q ∷ beyond (joined near) t (t - length q) q (ending q))
    ((p ++ (m ∷ [])) ∷ beyond (joined near) t (t - length p - 1) (p ++ (m ∷ [])) m)
onward near t p q m e =
    ap (λ (l : List ℕ). l ∷ beyond (joined near) t (t - length l) l (ending l)) e
    ∙ ap (λ (x : ℕ). (p ++ (m ∷ [])) ∷ beyond (joined near) t (t - length (p ++ (m ∷ []))) (p ++ (m ∷ [])) x)
    (ending_next p m)
    ∙ ap (λ (f : ℕ). (p ++ (m ∷ [])) ∷ beyond (joined near) t f (p ++ (m ∷ [])) m)
    (omega (arith, length-append p (m ∷ [])))

-- a walk that came to nothing goes on with what is left; any other is handed back
walked_on : (r : Walked) (ps : List ℕ) (go : ℕ → Scan) → r.found ≡ ShowingNone
    → carried_on (told_walked r ps) go ≡ go r.left
walked_on r ps go e = rw e refl

handed_back : (r : Walked) (ps : List ℕ) (go : ℕ → Scan) → (r.found ≡ ShowingNone → ⊥)
    → carried_on (told_walked r ps) go ≡ told_walked r ps
handed_back r ps go other = back r.found refl
  where
    back : (f : code-scan.Scan) → r.found ≡ f → carried_on (told_walked r ps) go ≡ told_walked r ps
    back Showing e = rw e refl
    back AllowanceSpent e = rw e refl
    back ShowingNone e = absurd (other e)

-- the chain c, in the places ps, is to go on to a number from n up: u is the set of the neighbours of its end that it
-- has not met, and m the lowest of them
pub record Trying (near : List ℕ) (t n : ℕ) (v : Winding) (c : Chain) (ps : List ℕ) (u m : ℕ) : Type 0 where
  pub carries : Carries v c ps
  pub unmet : u ≡ remaining (get_or near c.end 0) c.met
  pub start : n ≤ t
  pub most : t ≤ most_terminals
  pub short : c.length < t
  pub lowest : m ≡ first_from (member u) (t - n) n

pub trying : {near : List ℕ} {t n : ℕ} {v : Winding} {c : Chain} {ps : List ℕ} {u m : ℕ} (x : ℕ) → Carries v c ps
    → x ≡ c.end → u ≡ remaining (get_or near x 0) c.met → n ≤ t → t ≤ most_terminals → c.length < t
    → m ≡ first_from (member u) (t - n) n → Trying near t n v c ps u m
trying {near} {t} {n} {v} {c} {ps} {u} {m} x carries at unmet start most short lowest = record {
  carries = carries;
  unmet = unmet ∙ ap (λ (y : ℕ). remaining (get_or near y 0) c.met) at;
  start = start;
  most = most;
  short = short;
  lowest = lowest;
}

module _ {near : List ℕ} {t n : ℕ} {v : Winding} {c : Chain} {ps : List ℕ} {u m : ℕ}
    (h : Trying near t n v c ps u m) where
  -- of a number that has a place in the sets, u says whether the chain can go on to it
  unmet_free : (k : ℕ) → k < most_terminals
      → member u k ≡ can_follow (joined near) (path_in c ps) (ending (path_in c ps)) k
  unfolding can_follow
  unmet_free k fits =
      ap (λ (x : ℕ). member x k) h.unmet
      ∙ member-remaining (get_or near c.end 0) c.met k
      ∙ rw (carries_met v c ps h.carries, met-member (path_in c ps) k fits, carries_end v c ps h.carries) refl

  first_free : m ≡ first_from (can_follow (joined near) (path_in c ps) (ending (path_in c ps))) (t - n) n
  first_free =
      h.lowest ∙ first-same _ _ (t - n) n (λ k below. unmet_free k (omega (arith, below, h.start, h.most)))

  -- where the chain can go on to none, no chain goes on from it
  pub try_none : (w : ℕ) → t ≤ m → ComesHere c ps ShowingNone w (tried near t v (path_in c ps) n w)
  unfolding tried
  try_none w none =
      comes_here v c ps _ _ _ h.carries (nothing_left _ _ w
      (tries_none _ _ (t - n) n t (omega (arith, h.start)) (omega (arith, none, first_free))))

  -- the chain d is c gone on to m, and m stands in the next of the lent places
  module _ {d : Chain} (made : d ≡ gone v c m) (some : m < t) where
    next-length : d.length ≡ c.length + 1
    next-length = ap (λ (x : Chain). x.length) made

    next_path : path_in d (set ps c.length m) ≡ path_in c ps ++ (m ∷ [])
    next_path =
        ap (λ (k : ℕ). take k (set ps c.length m)) (next-length ∙ add-one c.length)
        ∙ take-suc-set ps c.length m (omega (arith, h.short, h.most, h.carries.room))

    pub next-carries : Carries v d (set ps c.length m)
    next-carries = record {
      whole =
          made
          ∙ gone-carried v c (path_in c ps) m
          (omega (arith, h.carries.some, carries-length v c ps h.carries)) h.carries.whole
          ∙ ap (carried v) (sym next_path);
      some = omega (arith, next-length);
      short = omega (arith, next-length, h.short, h.most);
      inside = omega (arith, ap (λ (x : Chain). x.end) made, some, h.most);
      room = length-set ps c.length m ∙ h.carries.room;
    }

    -- the chains that go on to m come first
    tried_some : (w : ℕ) → tried near t v (path_in c ps) n w ≡ carried_on
        (entered near t v (path_in d (set ps c.length m)) w) (λ (left : ℕ). tried near t v (path_in c ps) (m + 1) left)
    unfolding tried entered
    tried_some w =
        ap (λ (l : List (List ℕ)). scan (shows v.a v.b) l w)
        (tries_some _ _ (t - n) n t m (omega (arith, h.start)) first_free some)
        ∙ scan-append _ _ _ w
        ∙ ap (λ (l : List (List ℕ)). carried_on (scan (shows v.a v.b) l w)
        (λ (left : ℕ). tried near t v (path_in c ps) (m + 1) left))
        (sym (onward near t (path_in c ps) (path_in d (set ps c.length m)) m next_path))

    -- the walk r from d leaves the places qs
    module _ {r : Walked} {qs : List ℕ} (w : ℕ)
        (walked : WalkComes r d (set ps c.length m) qs (entered near t v (path_in d (set ps c.length m)) w)) where
      kept-below : path_in c qs ≡ path_in c ps
      kept-below =
          let more : c.length ≤ d.length = omega (arith, next-length) in
          sym (take-take c.length d.length qs more)
          ∙ ap (take c.length) walked.kept
          ∙ take-take c.length d.length (set ps c.length m) more
          ∙ take-set-le c.length ps c.length m (omega arith)

      kept-room : length qs ≡ length ps
      kept-room = walked.room ∙ length-set ps c.length m

      -- so the chain c carries what it did
      pub carries_still : Carries v c qs
      carries_still =
          let before = h.carries in
          record {
            whole = before.whole ∙ ap (carried v) (sym kept-below);
            some = before.some;
            short = before.short;
            inside = before.inside;
            room = kept-room ∙ before.room;
          }

      tried-told : tried near t v (path_in c ps) n w ≡ carried_on (told_walked r qs)
          (λ (left : ℕ). tried near t v (path_in c ps) (m + 1) left)
      tried-told =
          tried_some w
          ∙ ap (λ (x : Scan). carried_on x (λ (left : ℕ). tried near t v (path_in c ps) (m + 1) left))
          (sym walked.told)

      -- where r came to nothing, a walk that tries the numbers after m is the whole walk from c
      pub try_on : {q : Walked} {rs : List ℕ} → r.found ≡ ShowingNone
          → WalkComes q c qs rs (tried near t v (path_in c qs) (m + 1) r.left)
          → WalkComes q c ps rs (tried near t v (path_in c ps) n w)
      try_on {q} {rs} none rest =
          comes_after q c ps qs rs _ _ rest
          (ap (λ (l : List ℕ). tried near t v l (m + 1) r.left) kept-below
          ∙ sym (tried-told ∙ walked_on r qs _ none)) kept-below kept-room

      -- else r is
      pub try_back : (r.found ≡ ShowingNone → ⊥) → WalkComes r c ps qs (tried near t v (path_in c ps) n w)
      try_back other = record {
        told = sym (tried-told ∙ handed_back r qs _ other);
        short = walked.short;
        kept = kept-below;
        room = kept-room;
      }

    -- ---- unvisited terminals and untried numbers fall

    pub visits_fall : {k : ℕ} → (t - c.length) * 100 + (t - n) ≡ k → (t - d.length) * 100 + 99 < k
    visits_fall e = omega (arith, h.short, next-length, e)

    pub numbers_fall : {k : ℕ} → (t - c.length) * 100 + (t - n) ≡ k → (t - c.length) * 100 + (t - (m + 1)) < k
    numbers_fall e = omega (arith, first_after _ _ _ _ h.lowest, some, e)

-- ---- the walk from plus

pub begun_path : (c : Chain) (ps : List ℕ) → c ≡ at_plus → take 1 ps ≡ plus ∷ [] → path_in c ps ≡ plus ∷ []
begun_path c ps made alone = ap (λ (d : Chain). path_in d ps) made ∙ alone

pub begun-carries : (v : Winding) (c : Chain) (ps : List ℕ) → c ≡ at_plus → path_in c ps ≡ plus ∷ []
    → length ps ≡ most_terminals → Carries v c ps
begun-carries v c ps made alone room = record {
  whole = made ∙ begun-carried v ∙ ap (carried v) (sym alone);
  some = omega (arith, ap (λ (d : Chain). d.length) made);
  short = omega (arith, ap (λ (d : Chain). d.length) made);
  inside = omega (arith, ap (λ (d : Chain). d.end) made);
  room = room;
}

pub entered-left : (near : List ℕ) (t : ℕ) (v : Winding) (p : List ℕ) (w : ℕ) (o : Scan) → o ≡ entered near t v p w
    → LeftWithin o w
unfolding entered
entered-left near t v p w o e = subst (λ (o : Scan). LeftWithin o w) (sym e) (scan-left _ _ w)

pub entered_verdict : (near : List ℕ) (t : ℕ) (v : Winding) (p : List ℕ) (w : ℕ) (o : Scan) → p ≡ plus ∷ []
    → o ≡ entered near t v p w → concluded o w ≡ verdict_by near t v w
unfolding entered verdict_by chains
entered_verdict near t v p w o alone e =
    ap (λ (o : Scan). concluded o w) (e ∙ ap (λ (q : List ℕ). entered near t v q w) alone)
    ∙ scan-weighed (shows v.a v.b) (chains (joined near) t) w

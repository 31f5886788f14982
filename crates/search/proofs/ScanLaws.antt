-- Laws of going through chains with an allowance: what a walk comes to, and what verdict that is.
use Prim.Native.Nat.{ℕ, zero, suc, ◌+◌, ◌-◌, ◌≤◌}
use native.Mathlib.Omega.{arith}
use mathlib.Core.Path.{◌≡◌, refl, sym, ap, ◌∙◌}
use mathlib.Core.Bool.{Bool, cond}
use mathlib.Core.List.{List, [], ◌∷◌, ◌++◌}
use mathlib.Core.Option.{none, some}
use lib.Dec.{leb}
use lib.ListN.{replicate}
use borrow.Author.Tests.{leb-true, leb-false, le-leb, lt-leb}
use Rattle.bits.proofs.BoolLaws.{by_test}
use Rattle.refusals.specs.Outcomes.{given}
use Rattle.board.specs.Rules.{most_terminals}
use Rattle.search.specs.declared.walk.Scan.TheVariants.{ShowingNone, AllowanceSpent}
use Rattle.search.specs.declared.walk.Walked.{Walked}
use Rattle.search.specs.Verdicts.{Finding, undecided, Verdict, first_shown, effort, places, settled, unsettled}
use Rattle.search.specs.Verdicts.{weighed}
use Rattle.search.specs.Walks.{Scan, showing, showing_none, allowance_spent, scan, concluded, LeftWithin}
use Rattle.search.specs.Walks.{told_walked}

-- ---- the verdict of a walk

pub concluded_none : (r : Walked) (ps : List ℕ) (w : ℕ) → r.found ≡ ShowingNone
    → ◌≡◌ {A = Verdict}
    (record { finding = given Finding.dead; effort = w - r.left; length = 0; places = replicate most_terminals 0 })
    (concluded (told_walked r ps) w)
unfolding places
concluded_none r ps w e = rw e refl

pub concluded_spent : (r : Walked) (ps : List ℕ) (w : ℕ) → r.found ≡ AllowanceSpent
    → ◌≡◌ {A = Verdict}
    (record { finding = given undecided; effort = w; length = 0; places = replicate most_terminals 0 })
    (concluded (told_walked r ps) w)
unfolding places
concluded_spent r ps w e = rw e refl

-- ---- one list of chains after another

-- a scan that found none in the first goes on to the second with what is left; any other is handed back
abbrev pub carried_on : Scan → (ℕ → Scan) → Scan
carried_on (showing c left) go = showing c left
carried_on (showing_none left) go = go left
carried_on allowance_spent go = allowance_spent

pub scan-append : (s : List ℕ → Bool) (xs ys : List (List ℕ)) (w : ℕ) → scan s (xs ++ ys) w ≡ carried_on (scan s xs w)
    (scan s ys)
unfolding scan
scan-append s [] ys w = refl
scan-append s (c ∷ xs) ys zero = refl
scan-append s (c ∷ xs) ys (suc w) =
    by_test (s c)
    (λ shown. rw shown refl)
    (λ past. rw past (scan-append s xs ys w))

-- ---- a scan with the whole allowance is the verdict

pub scan-left : (s : List ℕ → Bool) (cs : List (List ℕ)) (w : ℕ) → LeftWithin (scan s cs w) w
unfolding scan
scan-left s [] w = omega arith
scan-left s (c ∷ cs) zero = tt
scan-left s (c ∷ cs) (suc w) =
    by_test (s c)
    (λ shown. rw shown (omega arith))
    (λ past. rw past (left_wider w (suc w) (scan s cs w) (omega arith) (scan-left s cs w)))
  where
    left_wider : (w x : ℕ) (o : Scan) → w ≤ x → LeftWithin o w → LeftWithin o x
    left_wider w x (showing c left) more h = omega (arith, more, h)
    left_wider w x (showing_none left) more h = omega (arith, more, h)
    left_wider w x allowance_spent more h = tt

-- w of the allowance x is left before the chains cs
concluded-scan : (s : List ℕ → Bool) (cs : List (List ℕ)) (x w : ℕ) → w ≤ x
    → concluded (scan s cs w) x ≡ cond (leb (effort s cs) w) (settled (x - w + effort s cs) (first_shown s cs))
    (unsettled x)
unfolding scan effort first_shown
concluded-scan s [] x w most =
    let same : x - w ≡ x - w + 0 = omega arith in
    rw (le-leb 0 w (omega arith)) (ap (λ (e : ℕ). settled e none) same)
concluded-scan s (c ∷ cs) x zero most = rw (lt-leb (suc (cond (s c) 0 (effort s cs))) 0 (omega arith)) refl
concluded-scan s (c ∷ cs) x (suc w) most =
    by_test (s c)
    (λ shown.
    let same : x - w ≡ x - suc w + 1 = omega (arith, most) in
    rw (shown, le-leb 1 (suc w) (omega arith)) (ap (λ (e : ℕ). settled e (some c)) same))
    (λ past.
    let same : x - w + effort s cs ≡ x - suc w + suc (effort s cs) = omega (arith, most) in
    rw past (concluded-scan s cs x w (omega (arith, most))
    ∙ ap (λ (e : ℕ). cond (leb (effort s cs) w) (settled e (first_shown s cs)) (unsettled x)) same
    ∙ ap (λ (t : Bool). cond t (settled (x - suc w + suc (effort s cs)) (first_shown s cs)) (unsettled x))
    (sym (leb_suc (effort s cs) w))))
  where
    leb_suc : (m n : ℕ) → leb (suc m) (suc n) ≡ leb m n
    leb_suc m n =
        by_test (leb m n) (λ h. le-leb (suc m) (suc n) (omega (arith, leb-true m n h)) ∙ sym h)
        (λ h. lt-leb (suc m) (suc n) (omega (arith, leb-false m n h)) ∙ sym h)

pub scan-weighed : (s : List ℕ → Bool) (cs : List (List ℕ)) (w : ℕ) → concluded (scan s cs w) w ≡ weighed s cs w
unfolding weighed
scan-weighed s cs w =
    let same : w - w + effort s cs ≡ effort s cs = omega arith in
    concluded-scan s cs w w (omega arith)
    ∙ ap (λ (e : ℕ). cond (leb (effort s cs) w) (settled e (first_shown s cs)) (unsettled w)) same

-- Laws of verdicts: what live, dead and undecided say of the chains, what the effort counts, that a verdict is known by
-- what it tells, and that at most 64 terminals are looked at. What `search`, `judge` and the crates above them need.
use Prim.Native.Nat.{ℕ, min, ◌+◌, ◌<◌, ◌≤◌}
use native.Mathlib.Omega.{arith}
use mathlib.Core.Path.{◌≡◌, refl, sym, ap, subst}
use mathlib.Core.Logic.{inl}
use mathlib.Core.Bool.{Bool, true, false}
use mathlib.Core.List.{List, [], ◌∷◌, ◌++◌}
use mathlib.Core.Option.{Option, some, none, none-ne-some, some-injective}
use lib.Dec.{leb}
use lib.ListN.{length}
use borrow.Author.Tests.{lt-ltb, le-ltb, le-leb, lt-leb}
use Rattle.bits.proofs.BoolLaws.{by_test, by_less}
use Rattle.lists.specs.Members.{◌∈◌, All}
use Rattle.lists.proofs.MemberLaws.{all-member, member-append_right}
use Rattle.refusals.specs.Outcomes.{told_as}
use Rattle.refusals.proofs.Told.{Told}
use Rattle.refusals.proofs.Tabled.{Tabled, tabled_given, Tells, tells_injective, result-tells_as}
use Rattle.board.specs.Rules.{most_terminals}
use Rattle.search.specs.declared.Winding.{Winding}
use Rattle.search.specs.declared.Finding as code-finding
use Rattle.search.specs.declared.Finding.TheVariants.{Live, Dead, Undecided}
use Rattle.search.specs.declared.Verdict as code-verdict
use Rattle.search.specs.Verdicts.{Finding, live, dead, undecided, Verdict, first_shown, effort, settled}
use Rattle.search.specs.Verdicts.{unsettled, weighed, verdict_by, in_sets, told_finding, told_verdict}

-- ---- the verdict turns at the effort

pub weighed-within : (s : List ℕ → Bool) (cs : List (List ℕ)) (w : ℕ) → effort s cs ≤ w
    → weighed s cs w ≡ settled (effort s cs) (first_shown s cs)
unfolding weighed
weighed-within s cs w enough = rw (le-leb (effort s cs) w enough) refl

pub weighed_short : (s : List ℕ → Bool) (cs : List (List ℕ)) (w : ℕ) → w < effort s cs → weighed s cs w ≡ unsettled w
unfolding weighed
weighed_short s cs w short = rw (lt-leb (effort s cs) w short) refl

-- ---- the first chain shown

-- c is the first of the chains cs that passes the test s: those before it fail, and the effort counts them and c
pub record FirstAt (s : List ℕ → Bool) (cs : List (List ℕ)) (c : List ℕ) : Type 0 where
  pub early : List (List ℕ)
  pub late : List (List ℕ)
  pub split : cs ≡ early ++ (c ∷ late)
  pub shown : s c ≡ true
  pub failed : All (λ (d : List ℕ). s d ≡ false) early
  pub counted : effort s cs ≡ length early + 1

pub first_shown_at : (s : List ℕ → Bool) (cs : List (List ℕ)) (c : List ℕ) → first_shown s cs ≡ some c → FirstAt s cs c
unfolding first_shown effort
first_shown_at s [] c e = absurd (none-ne-some c e)
first_shown_at s (d ∷ cs) c e =
    by_test (s d)
    (λ here. at_head here (rw here at e))
    (λ past. later past (first_shown_at s cs c (rw past at e)))
  where
    at_head : s d ≡ true → some d ≡ some c → FirstAt s (d ∷ cs) c
    at_head here f =
        let same : d ≡ c = some-injective d c f in
        record {
          early = [];
          late = cs;
          split = ap (λ (x : List ℕ). x ∷ cs) same;
          shown =
              subst (λ (x : List ℕ). s x ≡ true) same here;
          failed = tt;
          counted = rw here refl;
        }

    later : s d ≡ false → FirstAt s cs c → FirstAt s (d ∷ cs) c
    later past first = record {
      early = d ∷ first.early;
      late = first.late;
      split = ap (λ (l : List (List ℕ)). d ∷ l) first.split;
      shown = first.shown;
      failed = (past, first.failed);
      counted = rw past (omega (arith, first.counted));
    }

pub first_shown_some : (s : List ℕ → Bool) (cs : List (List ℕ)) (c : List ℕ) → first_shown s cs ≡ some c → (c ∈ cs)
    × (s c ≡ true)
first_shown_some s cs c e =
    let first = first_shown_at s cs c e in (
      subst (λ (l : List (List ℕ)). c ∈ l) (sym first.split)
          (member-append_right c first.early (c ∷ first.late) (inl refl)),
      first.shown,
    )

-- ---- no chain shown

-- every chain of cs fails the test s, and the effort counts them all
record NoneShown (s : List ℕ → Bool) (cs : List (List ℕ)) : Type 0 where
  failed : All (λ (d : List ℕ). s d ≡ false) cs
  counted : effort s cs ≡ length cs

none-shown : (s : List ℕ → Bool) (cs : List (List ℕ)) → first_shown s cs ≡ none → NoneShown s cs
unfolding first_shown effort
none-shown s [] e = record { failed = tt; counted = refl }
none-shown s (d ∷ cs) e =
    by_test (s d)
    (λ here. absurd (none-ne-some d (sym (rw here at e))))
    (λ past. later past (none-shown s cs (rw past at e)))
  where
    later : s d ≡ false → NoneShown s cs → NoneShown s (d ∷ cs)
    later past rest = record { failed = (past, rest.failed); counted = rw past (omega (arith, rest.counted)) }

pub first_shown_none : (s : List ℕ → Bool) (cs : List (List ℕ)) → first_shown s cs ≡ none → (c : List ℕ) → c ∈ cs
    → s c ≡ false
first_shown_none s cs e c m = all-member (λ (d : List ℕ). s d ≡ false) cs c (none-shown s cs e).failed m

pub effort_none : (s : List ℕ → Bool) (cs : List (List ℕ)) → first_shown s cs ≡ none → effort s cs ≡ length cs
effort_none s cs e = (none-shown s cs e).counted

-- ---- the effort

pub effort_some : (s : List ℕ → Bool) (c : List ℕ) (cs : List (List ℕ)) → 1 ≤ effort s (c ∷ cs)
unfolding effort
effort_some s c cs = omega arith

-- ---- answers and what they tell

finding-told : Told told_finding
finding-told = record { untold = untold; back = back; onto = onto }
  where
    untold : Finding → code-finding.Finding
    untold live = Live
    untold dead = Dead
    untold undecided = Undecided

    back : (x : code-finding.Finding) → untold (told_finding x) ≡ x
    back Live = refl
    back Dead = refl
    back Undecided = refl

    onto : (y : Finding) → told_finding (untold y) ≡ y
    onto live = refl
    onto dead = refl
    onto undecided = refl

-- a verdict whose finding is one of the three, or refused by a number of the table
abbrev pub TabledVerdict : Verdict → Type 0
TabledVerdict v = Tabled v.finding

pub verdict-tells : Tells TabledVerdict told_verdict
verdict-tells = record { untold = untold; back = back; onto = onto }
  where
    finding-tells : Tells Tabled (told_as told_finding)
    finding-tells = result-tells_as told_finding finding-told

    untold : Verdict → code-verdict.Verdict
    untold v =
        record {
          finding = finding-tells.untold v.finding;
          effort = v.effort;
          length = v.length;
          terminals = v.places;
        }

    back : (x : code-verdict.Verdict) → untold (told_verdict x) ≡ x
    back x = λ i. record {
      finding = finding-tells.back x.finding i;
      effort = x.effort;
      length = x.length;
      terminals = x.terminals;
    }

    onto : (y : Verdict) → TabledVerdict y → told_verdict (untold y) ≡ y
    onto y good = λ i. record {
      finding = finding-tells.onto y.finding good i;
      effort = y.effort;
      length = y.length;
      places = y.places;
    }

pub told_verdict_injective : (x y : code-verdict.Verdict) → told_verdict x ≡ told_verdict y → x ≡ y
told_verdict_injective = tells_injective told_verdict verdict-tells

-- a judgement by the chains is refused by nothing
pub settled-tabled : (e : ℕ) (o : Option (List ℕ)) → TabledVerdict (settled e o)
settled-tabled e (some c) = tabled_given live
settled-tabled e none = tabled_given dead

pub weighed-tabled : (s : List ℕ → Bool) (cs : List (List ℕ)) (w : ℕ) → TabledVerdict (weighed s cs w)
unfolding weighed
weighed-tabled s cs w =
    by_test (leb (effort s cs) w)
    (λ within. rw within (settled-tabled (effort s cs) (first_shown s cs)))
    (λ short. rw short (tabled_given undecided))

pub verdict_by-tabled : (near : List ℕ) (t : ℕ) (v : Winding) (w : ℕ) → TabledVerdict (verdict_by near t v w)
unfolding verdict_by
verdict_by-tabled near t v w = weighed-tabled _ _ w

-- ---- at most 64 terminals are looked at

pub in_sets_min : (t : ℕ) → in_sets t ≡ min t most_terminals
unfolding in_sets
in_sets_min t =
    by_less most_terminals t
    (λ more. rw (lt-ltb most_terminals t more) (omega (arith, more)))
    (λ most. rw (le-ltb most_terminals t most) (omega (arith, most)))

pub in_sets_all : (near : List ℕ) (t : ℕ) (v : Winding) (w : ℕ) → t ≤ most_terminals
    → verdict_by near t v w ≡ verdict_by near (in_sets t) v w
unfolding in_sets
in_sets_all near t v w most = rw (le-ltb most_terminals t most) refl

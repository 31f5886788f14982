-- What the walk's own functions promise each other. No promise of a public call needs this page.
--     path_in c ps             the terminals of a chain on its way: the first of the lent places ps
--     marked s p               the set s with the terminals p as members besides
--     carried v p              what the walk carries for the terminals p while it looks for winding v
--     Carries v c ps           a chain on its way carries just that, has a place in the sets for its end, and room in
--                              the lent places ps
--     at_plus, gone v c n      the chain of plus alone; the chain c gone on to the terminal n
--     Scan                     what going through chains comes to: showing a chain, showing none, each with what is
--                              left of the allowance, or the allowance spent first
--     scan s cs w              going through the chains cs with w of the allowance left, to the first that passes the
--                              test s
--     entered near t v p w     scan of the chains from p on, p among them
--     tried near t v p n w     scan of those that go on from p to a number from n up
--     told_walked r ps         what an answer says, with the chain found in the lent places ps
--     WalkComes r c ps qs o    the answer r of a walk from chain c comes to o; the lent places were ps and are qs, and
--                              c's own are as they were
--     no_chain f e             the verdict f with effort e, which shows no chain
--     concluded o w            the verdict that a scan with the allowance w comes to
--     LeftWithin o w           a scan with the allowance w leaves no more than w
use Rattle.std.specs.Prelude.{ℕ, zero, suc, ◌+◌, ◌-◌, ◌≤◌, ◌<◌, ◌≡◌, Bool, false, cond, ◌||◌, List, [], ◌∷◌, ◌++◌}
use Rattle.std.specs.Prelude.{length, take}
use Rattle.bits.specs.Sets.{including}
use Rattle.refusals.specs.Outcomes.{given}
use Rattle.board.specs.Rules.{most_terminals}
use Rattle.neighbours.specs.Neighbours.{joined}
use Rattle.chains.specs.Chains.{plus, ending}
use Rattle.chains.specs.ChainList.{beyond, tries, can_follow, crosses, beside, shows}
use Rattle.search.specs.declared.Winding.{Winding}
use Rattle.search.specs.declared.chain.Chain.{Chain}
use Rattle.search.specs.declared.walk.Scan as code-scan
use Rattle.search.specs.declared.walk.Scan.TheVariants.{Showing, ShowingNone, AllowanceSpent}
use Rattle.search.specs.declared.walk.Walked.{Walked}
use Rattle.search.specs.Verdicts.{Finding, Verdict, places, unsettled}

abbrev pub path_in : Chain → List ℕ → List ℕ
path_in c ps = take c.length ps

unfoldable pub marked : ℕ → List ℕ → ℕ
marked s [] = s
marked s (n ∷ p) = marked (including s n) p

unfoldable pub carried : Winding → List ℕ → Chain
carried v p = record { length = length p; end = ending p; met = marked 0 p; beside = beside v.a v.b p }

pub record Carries (v : Winding) (c : Chain) (ps : List ℕ) : Type 0 where
  pub whole : c ≡ carried v (path_in c ps)
  pub some : 0 < c.length
  pub short : c.length ≤ most_terminals
  pub inside : c.end < most_terminals
  pub room : length ps ≡ most_terminals

abbrev pub at_plus : Chain
at_plus = record { length = 1; end = plus; met = including 0 plus; beside = false }

abbrev pub gone : Winding → Chain → ℕ → Chain
gone v c n =
    record {
      length = c.length + 1;
      end = n;
      met = including c.met n;
      beside = c.beside || crosses v.a v.b c.end n;
    }

pub data Scan : Type 0 where
  showing : List ℕ → ℕ → Scan
  showing_none : ℕ → Scan
  allowance_spent : Scan

unfoldable pub scan : (List ℕ → Bool) → List (List ℕ) → ℕ → Scan
scan s [] w = showing_none w
scan s (c ∷ cs) zero = allowance_spent
scan s (c ∷ cs) (suc w) = cond (s c) (showing c w) (scan s cs w)

unfoldable pub entered : List ℕ → ℕ → Winding → List ℕ → ℕ → Scan
entered near t v p w = scan (shows v.a v.b) (p ∷ beyond (joined near) t (t - length p) p (ending p)) w

unfoldable pub tried : List ℕ → ℕ → Winding → List ℕ → ℕ → ℕ → Scan
tried near t v p n w =
    scan (shows v.a v.b)
    (tries (λ (m : ℕ). (p ++ (m ∷ [])) ∷ beyond (joined near) t (t - length p - 1) (p ++ (m ∷ [])) m)
    (can_follow (joined near) p (ending p)) (t - n) n)
    w

abbrev pub told_walked : Walked → List ℕ → Scan
told_walked r ps = told r.found
  where
    told : code-scan.Scan → Scan
    told Showing = showing (take r.length ps) r.left
    told ShowingNone = showing_none r.left
    told AllowanceSpent = allowance_spent

pub record WalkComes (r : Walked) (c : Chain) (ps qs : List ℕ) (o : Scan) : Type 0 where
  pub told : told_walked r qs ≡ o
  pub short : r.length ≤ most_terminals
  pub kept : path_in c qs ≡ path_in c ps
  pub room : length qs ≡ length ps

abbrev pub no_chain : Finding → ℕ → Verdict
no_chain f e = record { finding = given f; effort = e; length = 0; places = places [] }

abbrev pub concluded : Scan → ℕ → Verdict
concluded (showing c left) w =
    record { finding = given Finding.live; effort = w - left; length = length c; places = places c }
concluded (showing_none left) w =
    record { finding = given Finding.dead; effort = w - left; length = 0; places = places [] }
concluded allowance_spent w = unsettled w

abbrev pub LeftWithin : Scan → ℕ → Type 0
LeftWithin (showing c left) w = left ≤ w
LeftWithin (showing_none left) w = left ≤ w
LeftWithin allowance_spent w = Unit {0}

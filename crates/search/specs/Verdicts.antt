-- Judging a winding by the chains. Rule book: "Live, with the first such chain shown, exactly if the winding is live
-- and its effort is at most W. Dead exactly if it is dead and its effort is at most W. Undecided otherwise."
--     Finding                     the rule book's three words: live, dead or undecided
--     Verdict                     one of them or a refusal, the effort, and the chain shown as its length and places
--     first_shown s cs            the first of the chains cs that passes the test s, if one does
--     effort s cs                 "the number of chains up to and including the first such one; for a dead winding it
--                                 is the number of all chains"
--     places c                    "A chain is shown as its length and 64 places, the unused ones 0"
--     settled e f                 live with effort e and the chain shown, or dead with effort e
--     unsettled w                 undecided: "undecided reports W"
--     weighed s cs w              the verdict by the chains cs within the allowance w
--     verdict_by near t v w       the verdict on winding v within the allowance w, by all chains of t terminals that
--                                 `near` joins
--     in_sets t                   how many of t terminals the sets have: they are of 64, and of more terminals only
--                                 those are looked at
--     unanswered n p              "a refused judgement no verdict, effort 0 and length 0"
--     told_finding, told_verdict  the answer's cases in the rule book's words and numbers
--     Searches near t v w r       promise: `search` for winding v by the sets `near` of t terminals, within the
--                                 allowance w, answers r
use Rattle.std.specs.Prelude.{ℕ, suc, ◌-◌, ◌≡◌, Bool, cond, List, [], ◌∷◌, ◌++◌, leb, ltb}
use Rattle.std.proofs.Math.Option.{Option, none, some}
use lib.ListN.{replicate}
use Rattle.refusals.specs.Outcomes.{Outcome, given, refused, told_as}
use Rattle.board.specs.Rules.{most_terminals}
use Rattle.neighbours.specs.Neighbours.{joined}
use Rattle.chains.specs.ChainList.{chains, shows}
use Rattle.search.specs.declared.Winding.{Winding}
use Rattle.search.specs.declared.Finding as code-finding
use Rattle.search.specs.declared.Finding.TheVariants.{Live, Dead, Undecided}
use Rattle.search.specs.declared.Verdict as code-verdict

pub data Finding : Type 0 where
  live dead undecided : Finding

pub record Verdict : Type 0 where
  pub finding : Outcome Finding
  pub effort : ℕ
  pub length : ℕ
  pub places : List ℕ

unfoldable pub first_shown : (List ℕ → Bool) → List (List ℕ) → Option (List ℕ)
first_shown s [] = none
first_shown s (c ∷ cs) = cond (s c) (some c) (first_shown s cs)

unfoldable pub effort : (List ℕ → Bool) → List (List ℕ) → ℕ
effort s [] = 0
effort s (c ∷ cs) = suc (cond (s c) 0 (effort s cs))

unfoldable pub places : List ℕ → List ℕ
places c = c ++ replicate (most_terminals - lib.ListN.length c) 0

abbrev pub settled : ℕ → Option (List ℕ) → Verdict
settled e (some c) = record { finding = given live; effort = e; length = lib.ListN.length c; places = places c }
settled e none = record { finding = given dead; effort = e; length = 0; places = places [] }

abbrev pub unsettled : ℕ → Verdict
unsettled w = record { finding = given undecided; effort = w; length = 0; places = places [] }

unfoldable pub weighed : (List ℕ → Bool) → List (List ℕ) → ℕ → Verdict
weighed s cs w = cond (leb (effort s cs) w) (settled (effort s cs) (first_shown s cs)) (unsettled w)

unfoldable pub verdict_by : List ℕ → ℕ → Winding → ℕ → Verdict
verdict_by near t v w = weighed (shows v.a v.b) (chains (joined near) t) w

unfoldable pub in_sets : ℕ → ℕ
in_sets t = cond (ltb most_terminals t) most_terminals t

abbrev pub unanswered : ℕ → ℕ → Verdict
unanswered n p = record { finding = refused n p; effort = 0; length = 0; places = places [] }

abbrev pub told_finding : code-finding.Finding → Finding
told_finding Live = live
told_finding Dead = dead
told_finding Undecided = undecided

abbrev pub told_verdict : code-verdict.Verdict → Verdict
told_verdict v =
    record {
      finding = told_as told_finding v.finding;
      effort = v.effort;
      length = v.length;
      places = v.terminals;
    }

abbrev pub Searches : List ℕ → ℕ → Winding → ℕ → code-verdict.Verdict → Type 0
Searches near t v w r = told_verdict r ≡ verdict_by near (in_sets t) v w

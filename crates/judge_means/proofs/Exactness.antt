-- The theorems of specs/Exactness.antt: the list holds exactly the rule book's chains, the effort is a number in it,
-- and the verdict of a judge that keeps the promise says of the chains exactly what it should.
use Prim.Native.Nat.{ℕ, ◌<◌, ◌≤◌}
use native.Mathlib.Omega.{arith}
use mathlib.Core.Path.{◌≡◌, refl, sym, ap, subst, ◌∙◌}
use mathlib.Core.Logic.{◌⊎◌, ◌↔◌, inl, inr}
use mathlib.Core.Bool.{Bool, false, false≢true}
use mathlib.Core.List.{List, [], ◌∷◌, ◌++◌}
use mathlib.Core.Option.{Option, none, some, none-ne-some}
use lib.Dec.{leb}
use lib.ListN.{length}
use borrow.Author.Tests.{leb-true, leb-false}
use Rattle.bits.proofs.BoolLaws.{by_test}
use Rattle.lists.specs.Members.{◌∈◌, All}
use Rattle.lists.proofs.MemberLaws.{append-member, all-member, all_map}
use Rattle.refusals.specs.declared.Refusal.{Refusal}
use Rattle.std.specs.Prelude.{Result, Ok, Err}
use Rattle.board.specs.declared.Board.{Board}
use Rattle.board.specs.BreaksNoRule.{BoardFits}
use Rattle.board.proofs.BreaksNoRule.{fine_fits}
use Rattle.state.specs.declared.State.{State}
use Rattle.kept.specs.declared.Kept.{Kept}
use Rattle.neighbours.specs.Neighbours.{Joined, joined, neighbours, sets_of}
use Rattle.neighbours.proofs.JoinedLaws.{joined-part, part-joined}
use Rattle.chains.specs.Chains.{Before, Sorted, Shows}
use Rattle.chains.specs.ChainList.{Tested, shows}
use Rattle.chains.proofs.ChainMaps.{chain_related}
use Rattle.chains.proofs.ChainsCorrect.{chains_correct}
use Rattle.chains.proofs.ChainsComplete.{chains-complete}
use Rattle.chains.proofs.ChainsSorted.{chains-sorted, chains-once}
use Rattle.chains.proofs.ShowsLaws.{shows_true, true-shows}
use Rattle.search.specs.declared.Winding.{Winding}
use Rattle.search.specs.declared.Verdict.{Verdict}
use Rattle.search.specs.declared.Finding.{Finding}
use Rattle.search.specs.declared.Finding.TheVariants as said
use Rattle.search.specs.Verdicts.{first_shown, effort, places, settled, weighed, told_verdict}
use Rattle.search.proofs.VerdictLaws.{weighed-within, weighed_short, FirstAt, first_shown_at, first_shown_some}
use Rattle.search.proofs.VerdictLaws.{first_shown_none, effort_none, told_verdict_injective}
use Rattle.judge.specs.declared.Which.{Which}
use Rattle.judge.specs.Judging.{shunted, Judges}
use Rattle.judge.proofs.JudgeLaws.{chains_for, chains_none, chains_all, effort_nothing, winding_for_given}
use Rattle.judge.proofs.JudgeLaws.{judging_given, judging-weighed}
use Rattle.judge_means.specs.Circuits.{WindingCarries}
use Rattle.judge_means.specs.Shunts.{Shunted, OnBoard}
use Rattle.judge_means.specs.Exactness.{Judge, Keeps, AcceptedWinding, chains_of, ChainOf, IsShown, IsLive}
use Rattle.judge_means.specs.Exactness.{effort_of, TheChains, FirstShowing, EffortNumbers, OfEveryVerdict}
use Rattle.judge_means.specs.Exactness.{AsAfresh, LiveExactly, DeadExactly, UndecidedExactly, FirstChain}
use Rattle.judge_means.specs.Exactness.{LiveShows, ShowsNone, ShuntedDead, DeadCounts, UndecidedReports}
use Rattle.judge_means.specs.Exactness.{AsPublished}
use Rattle.judge_means.proofs.Circuits.{live_is_carrying}
use Rattle.judge_means.proofs.Shunts.{found-on_board, shunted_exactly}

-- ---- the list holds exactly the chains

pub chain_listed : (b : Board) (s : State) (c : List ℕ) → BoardFits b → ChainOf b s c → c ∈ chains_of b s
chain_listed b s c fits h =
    chains-complete (joined (neighbours b s)) b.counts.terminals c
    (chain_related (Joined b s) (Tested (joined (neighbours b s))) (λ x y j. part-joined b s x y fits j)
    b.counts.terminals c h)

pub listed_chain : (b : Board) (s : State) (c : List ℕ) → BoardFits b → c ∈ chains_of b s → ChainOf b s c
listed_chain b s c fits m =
    chain_related (Tested (joined (neighbours b s))) (Joined b s) (λ x y j. joined-part b s x y j)
    b.counts.terminals c
    (chains_correct (joined (neighbours b s)) b.counts.terminals c
    (omega (arith, fits.counts.terminals_enough)) m)

pub the_chains : TheChains
the_chains b s fits = record {
  exactly = λ c. (listed_chain b s c fits, chain_listed b s c fits);
  ordered = chains-sorted (joined (neighbours b s)) b.counts.terminals;
  once = chains-once (joined (neighbours b s)) b.counts.terminals;
}

-- ---- the three verdicts by a list of chains

abbrev pub live_verdict : ℕ → List ℕ → Verdict
live_verdict k c = record { finding = Ok said.Live; effort = k; length = length c; terminals = places c }

abbrev pub dead_verdict : ℕ → Verdict
dead_verdict k = record { finding = Ok said.Dead; effort = k; length = 0; terminals = places [] }

abbrev pub undecided_verdict : ℕ → Verdict
undecided_verdict w = record { finding = Ok said.Undecided; effort = w; length = 0; terminals = places [] }

-- by the chains cs, which t tests, and the allowance w, the verdict v is the one of finding f
pub data FindingBy (t : List ℕ → Bool) (cs : List (List ℕ)) (w : ℕ) (v : Verdict) : Result Finding Refusal
    → Type 0 where
  live_by : (c : List ℕ) → effort t cs ≤ w → first_shown t cs ≡ some c → v ≡ live_verdict (effort t cs) c
      → FindingBy t cs w v (Ok said.Live)
  dead_by : effort t cs ≤ w → first_shown t cs ≡ none → v ≡ dead_verdict (effort t cs)
      → FindingBy t cs w v (Ok said.Dead)
  undecided_by : w < effort t cs → v ≡ undecided_verdict w → FindingBy t cs w v (Ok said.Undecided)

weighed_finding : (t : List ℕ → Bool) (cs : List (List ℕ)) (w : ℕ) (v : Verdict) → told_verdict v ≡ weighed t cs w
    → FindingBy t cs w v v.finding
weighed_finding t cs w v told =
    by_test (leb (effort t cs) w)
    (λ within. by_first (first_shown t cs) refl (leb-true (effort t cs) w within))
    (λ below.
    let short = leb-false (effort t cs) w below in
    by_verdict (undecided_verdict w) (told ∙ weighed_short t cs w short) (undecided_by short))
  where
    by_verdict : (u : Verdict) → told_verdict v ≡ told_verdict u → (v ≡ u → FindingBy t cs w v u.finding)
        → FindingBy t cs w v v.finding
    by_verdict u e finding =
        let same = told_verdict_injective v u e in
        subst (FindingBy t cs w v) (sym (ap (λ (x : Verdict). x.finding) same)) (finding same)

    by_first : (o : Option (List ℕ)) → first_shown t cs ≡ o → effort t cs ≤ w → FindingBy t cs w v v.finding
    by_first (some c) e within =
        by_verdict (live_verdict (effort t cs) c)
        (told ∙ weighed-within t cs w within ∙ ap (settled (effort t cs)) e) (live_by c within e)
    by_first none e within =
        by_verdict (dead_verdict (effort t cs))
        (told ∙ weighed-within t cs w within ∙ ap (settled (effort t cs)) e) (dead_by within e)

-- ---- over the chains that are gone through for a winding: none, if it is shunted

abbrev pub chains_on : Board → State → Winding → List (List ℕ)
chains_on b s e = chains_for (sets_of b s) b.counts.terminals e

-- the effort is theirs
pub effort_on : (b : Board) (s : State) (e : Winding)
    → effort (shows e.a e.b) (chains_on b s e) ≡ effort_of b s e
unfolding effort_of chains_for
effort_on b s e =
    by_test (shunted (sets_of b s) e) (λ is. rw is (effort_nothing (shows e.a e.b))) (λ off. rw off refl)

pub verdict_finding : (b : Board) (h : Kept) (r : ℕ) (n : Which) (w : ℕ) (e : Winding) (v : Verdict)
    → Judges b h r n w v → AcceptedWinding b h r n e
    → FindingBy (shows e.a e.b) (chains_on b h.state e) w v v.finding
verdict_finding b h r n w e v told taken = weighed_finding _ _ w v (told ∙ judging-weighed b h r n w e taken)

-- ---- live and listed are one, and the effort is a number in the list

module _ (b : Board) (s : State) (e : Winding) (fits : BoardFits b) (inside : OnBoard b e) where
  abbrev test : List ℕ → Bool
  test = shows e.a e.b

  shunted_none : Shunted b s e → chains_on b s e ≡ []
  shunted_none is = chains_none (sets_of b s) b.counts.terminals e ((shunted_exactly b s e fits inside).1 is)

  unshunted_all : ¬ (Shunted b s e) → chains_on b s e ≡ chains_of b s
  unshunted_all apart =
      by_test (shunted (sets_of b s) e)
      (λ is. absurd (apart ((shunted_exactly b s e fits inside).0 is)))
      (chains_all (sets_of b s) b.counts.terminals e)

  -- a winding is shunted or not
  by-shunted : {A : Type 0} → (Shunted b s e → A) → (¬ (Shunted b s e) → A) → A
  by-shunted on off =
      by_test (shunted (sets_of b s) e)
      (λ is. on ((shunted_exactly b s e fits inside).0 is))
      (λ apart. off (λ is. false≢true (sym apart ∙ (shunted_exactly b s e fits inside).1 is)))

  -- where a chain is shown, the winding is not shunted
  shown_unshunted : (c : List ℕ) → first_shown test (chains_on b s e) ≡ some c → ¬ (Shunted b s e)
  unfolding first_shown
  shown_unshunted c first is =
      none-ne-some c (sym (ap (first_shown test) (shunted_none is)) ∙ first)

  first_of_all : (o : Option (List ℕ)) → ¬ (Shunted b s e) → first_shown test (chains_on b s e) ≡ o
      → first_shown test (chains_of b s) ≡ o
  first_of_all o apart first = sym (ap (first_shown test) (unshunted_all apart)) ∙ first

  pub effort_of_all : ¬ (Shunted b s e) → effort_of b s e ≡ effort test (chains_of b s)
  effort_of_all apart = sym (effort_on b s e) ∙ ap (effort test) (unshunted_all apart)

  effort-shunted : Shunted b s e → effort_of b s e ≡ 0
  effort-shunted is = sym (effort_on b s e) ∙ ap (effort test) (shunted_none is) ∙ effort_nothing test

  pub listed_live : (c : List ℕ) → first_shown test (chains_on b s e) ≡ some c → IsLive b s e
  listed_live c first =
      let apart = shown_unshunted c first in
      let shown = first_shown_some test (chains_of b s) c (first_of_all (some c) apart first) in (
        record {
          chain = c;
          is_chain = listed_chain b s c fits shown.0;
          showing = shows_true e.a e.b c shown.1;
        },
        apart,
      )

  unlisted_unshown : first_shown test (chains_of b s) ≡ none → ¬ (IsShown b s e)
  unlisted_unshown first shown =
      false≢true
      (sym (first_shown_none test (chains_of b s) first shown.chain (chain_listed b s shown.chain fits
      shown.is_chain)) ∙ true-shows e.a e.b shown.chain shown.showing)

  pub unlisted_dead : first_shown test (chains_on b s e) ≡ none → ¬ (IsLive b s e)
  unlisted_dead first live = unlisted_unshown (first_of_all none live.1 first) live.0

  first_numbered : (c : List ℕ) (k : ℕ) → k ≡ effort test (chains_of b s) → FirstAt test (chains_of b s) c
      → FirstShowing b s e k
  first_numbered c k is at =
      record {
        early = at.early;
        chain = c;
        late = at.late;
        all = at.split;
        showing = shows_true e.a e.b c at.shown;
        none_before = all_map (λ d. test d ≡ false) (λ d. ¬ (Shows e.a e.b d))
            (λ d failed shown. false≢true (sym failed ∙ true-shows e.a e.b d shown)) at.early at.failed;
        number = is ∙ at.counted;
      }

  -- by the first chain shown, if one is
  effort_numbered : (o : Option (List ℕ)) → first_shown test (chains_of b s) ≡ o
      → (IsLive b s e → FirstShowing b s e (effort_of b s e))
      × (¬ (Shunted b s e) → ¬ (IsShown b s e) → effort_of b s e ≡ length (chains_of b s))
  effort_numbered (some c) first = (
    λ live. first_numbered c (effort_of b s e) (effort_of_all live.1) (first_shown_at test (chains_of b s) c first),
    λ apart unshown. absurd (unshown (listed_live c (ap (first_shown test) (unshunted_all apart) ∙ first)).0),
  )
  effort_numbered none first = (
    λ live. absurd (unlisted_unshown first live.0),
    λ apart unshown. effort_of_all apart ∙ effort_none test (chains_of b s) first,
  )

pub effort_numbers : EffortNumbers
effort_numbers b s e fits inside =
    let numbered = effort_numbered b s e fits inside (first_shown _ _) refl in
    (effort-shunted b s e fits inside, numbered.0, numbered.1)

-- ---- what stands after a chain in the list comes after it

sorted_after : (k : List (List ℕ)) (c : List ℕ) (l : List (List ℕ)) → Sorted (k ++ (c ∷ l)) → All (Before c) l
sorted_after [] c l h = h.0
sorted_after (d ∷ k) c l h = sorted_after k c l h.1

-- ---- the theorems

module _ (b : Board) (k : Kept) (r : ℕ) (n : Which) (w : ℕ) (e : Winding) (v : Verdict) (told : Judges b k r n w v)
    (taken : AcceptedWinding b k r n e) where
  -- the state in which it is judged
  abbrev s : State
  s = k.state

  fits : BoardFits b
  fits = fine_fits b (winding_for_given b k r n e taken).0

  inside : OnBoard b e
  inside = found-on_board b r n e fits (winding_for_given b k r n e taken).2

  abbrev ComesTo : Result Finding Refusal → Type 0
  ComesTo f = FindingBy (shows e.a e.b) (chains_on b s e) w v f

  comes_to : ComesTo v.finding
  comes_to = verdict_finding b k r n w e v told taken

  comes_to_this : (f : Result Finding Refusal) → v.finding ≡ f → ComesTo f
  comes_to_this f h = subst ComesTo h comes_to

  -- the effort that is weighed
  weighs : effort (shows e.a e.b) (chains_on b s e) ≡ effort_of b s e
  weighs = effort_on b s e

  its_live : v.finding ≡ Ok said.Live ↔ IsLive b s e × (effort_of b s e ≤ w)
  its_live = (λ h. there (comes_to_this (Ok said.Live) h), back v.finding comes_to)
    where
      there : ComesTo (Ok said.Live) → IsLive b s e × (effort_of b s e ≤ w)
      there (live_by c within first is) = (listed_live b s e fits inside c first, omega (arith, weighs, within))

      back : (f : Result Finding Refusal) → ComesTo f → IsLive b s e × (effort_of b s e ≤ w) → f ≡ Ok said.Live
      back (Ok said.Live) (live_by c within first is) h = refl
      back (Ok said.Dead) (dead_by within first is) h = absurd (unlisted_dead b s e fits inside first h.0)
      back (Ok said.Undecided) (undecided_by short is) h = absurd (omega (arith, weighs, short, h.1))
      back (Err _) never h = elim never [ ]

  -- within the allowance what is not live is dead
  its_not_live : v.finding ≡ Ok said.Dead ↔ ¬ (IsLive b s e) × (effort_of b s e ≤ w)
  its_not_live = (λ h. there (comes_to_this (Ok said.Dead) h), back v.finding comes_to)
    where
      there : ComesTo (Ok said.Dead) → ¬ (IsLive b s e) × (effort_of b s e ≤ w)
      there (dead_by within first is) = (unlisted_dead b s e fits inside first, omega (arith, weighs, within))

      back : (f : Result Finding Refusal) → ComesTo f → ¬ (IsLive b s e) × (effort_of b s e ≤ w) → f ≡ Ok said.Dead
      back (Ok said.Live) (live_by c within first is) h = absurd (h.0 (listed_live b s e fits inside c first))
      back (Ok said.Dead) (dead_by within first is) h = refl
      back (Ok said.Undecided) (undecided_by short is) h = absurd (omega (arith, weighs, short, h.1))
      back (Err _) never h = elim never [ ]

  its-shunted : Shunted b s e → v.finding ≡ Ok said.Dead
  its-shunted is =
      its_not_live.1 (λ live. live.1 is, omega (arith, effort-shunted b s e fits inside is))

  its_dead : v.finding ≡ Ok said.Dead ↔ Shunted b s e ⊎ (¬ (IsShown b s e) × (length (chains_of b s) ≤ w))
  its_dead = (there, back)
    where
      all_counted : ¬ (Shunted b s e) → ¬ (IsShown b s e) → effort_of b s e ≡ length (chains_of b s)
      all_counted = (effort_numbers b s e fits inside).2

      there : v.finding ≡ Ok said.Dead → Shunted b s e ⊎ (¬ (IsShown b s e) × (length (chains_of b s) ≤ w))
      there h =
          by-shunted b s e fits inside inl
          (λ apart.
          let so = its_not_live.0 h in
          let unshown : ¬ (IsShown b s e) = λ shown. so.0 (shown, apart) in
          inr (unshown, omega (arith, so.1, all_counted apart unshown)))

      back : Shunted b s e ⊎ (¬ (IsShown b s e) × (length (chains_of b s) ≤ w)) → v.finding ≡ Ok said.Dead
      back (inl is) = its-shunted is
      back (inr (unshown, within)) =
          by-shunted b s e fits inside its-shunted
          (λ apart. its_not_live.1 (λ live. unshown live.0, omega (arith, within, all_counted apart unshown)))

  its_undecided : v.finding ≡ Ok said.Undecided ↔ w < effort_of b s e
  its_undecided = (λ h. there (comes_to_this (Ok said.Undecided) h), back v.finding comes_to)
    where
      there : ComesTo (Ok said.Undecided) → w < effort_of b s e
      there (undecided_by short is) = omega (arith, weighs, short)

      back : (f : Result Finding Refusal) → ComesTo f → w < effort_of b s e → f ≡ Ok said.Undecided
      back (Ok said.Live) (live_by c within first is) short = absurd (omega (arith, weighs, short, within))
      back (Ok said.Dead) (dead_by within first is) short = absurd (omega (arith, weighs, short, within))
      back (Ok said.Undecided) (undecided_by under is) short = refl
      back (Err _) never short = elim never [ ]

  -- of a chain that shows the winding: it is the first shown, or stands after it in the list
  shown_later : (c d : List ℕ) → FirstAt (shows e.a e.b) (chains_of b s) c → ChainOf b s d
      → Shows e.a e.b d → (d ≡ c) ⊎ Before c d
  shown_later c d at is shows-it =
      place
      (append-member d at.early (c ∷ at.late)
      (subst (λ (l : List (List ℕ)). d ∈ l) at.split (chain_listed b s d fits is)))
    where
      place : (d ∈ at.early) ⊎ (d ∈ (c ∷ at.late)) → (d ≡ c) ⊎ Before c d
      place (inl early) =
          absurd
          (false≢true
          (sym (all-member (λ (x : List ℕ). shows e.a e.b x ≡ false) at.early d at.failed early)
          ∙ true-shows e.a e.b d shows-it))
      place (inr (inl same)) = inl same
      place (inr (inr late)) =
          inr
          (all-member (Before c) at.late d
          (sorted_after at.early c at.late
          (subst Sorted at.split (chains-sorted (joined (neighbours b s)) b.counts.terminals))) late)

  its_first_chain : v.finding ≡ Ok said.Live → FirstChain b s e v
  unfolding first_numbered
  its_first_chain h = shown_by (comes_to_this (Ok said.Live) h)
    where
      shown_by : ComesTo (Ok said.Live) → FirstChain b s e v
      shown_by (live_by c within first is) =
          let apart = (listed_live b s e fits inside c first).1 in
          let of-all = first_of_all b s e fits inside (some c) apart first in
          let at = first_shown_at (shows e.a e.b) (chains_of b s) c of-all in
          record {
            numbered = first_numbered b s e fits inside c v.effort
                (ap (λ (u : Verdict). u.effort) is ∙ weighs ∙ effort_of_all b s e fits inside apart) at;
            its_length = ap (λ (u : Verdict). u.length) is;
            its_places = ap (λ (u : Verdict). u.terminals) is;
            is_chain =
                listed_chain b s c fits (first_shown_some (shows e.a e.b) (chains_of b s) c of-all).0;
            first = λ d chain shown. shown_later c d at chain shown;
          }

  -- dead reports the effort, and no chain
  its_dead_report : v.finding ≡ Ok said.Dead → (v.effort ≡ effort_of b s e) × ShowsNone v
  its_dead_report h = counted_by (comes_to_this (Ok said.Dead) h)
    where
      counted_by : ComesTo (Ok said.Dead) → (v.effort ≡ effort_of b s e) × ShowsNone v
      counted_by (dead_by within first is) = (
        ap (λ (u : Verdict). u.effort) is ∙ weighs,
        (ap (λ (u : Verdict). u.length) is, ap (λ (u : Verdict). u.terminals) is),
      )

  its-shunted_dead : Shunted b s e → (v.finding ≡ Ok said.Dead) × (v.effort ≡ 0) × ShowsNone v
  its-shunted_dead is =
      let report = its_dead_report (its-shunted is) in
      (its-shunted is, report.0 ∙ effort-shunted b s e fits inside is, report.1)

  its_count : v.finding ≡ Ok said.Dead → ¬ (Shunted b s e) → (v.effort ≡ length (chains_of b s)) × ShowsNone v
  its_count h apart =
      let report = its_dead_report h in
      let unshown : ¬ (IsShown b s e) = λ shown. (its_not_live.0 h).0 (shown, apart) in
      (report.0 ∙ (effort_numbers b s e fits inside).2 apart unshown, report.1)

  its_report : v.finding ≡ Ok said.Undecided → (v.effort ≡ w) × ShowsNone v
  its_report h = reported_by (comes_to_this (Ok said.Undecided) h)
    where
      reported_by : ComesTo (Ok said.Undecided) → (v.effort ≡ w) × ShowsNone v
      reported_by (undecided_by short is) = (
        ap (λ (u : Verdict). u.effort) is,
        (ap (λ (u : Verdict). u.length) is, ap (λ (u : Verdict). u.terminals) is),
      )

  -- live and dead by the published model's current
  its_current : ¬ (Shunted b s e)
      → (v.finding ≡ Ok said.Live ↔ WindingCarries b s e.a e.b × (effort_of b s e ≤ w))
      × (v.finding ≡ Ok said.Dead ↔ ¬ (WindingCarries b s e.a e.b) × (effort_of b s e ≤ w))
  its_current apart =
      let agree = live_is_carrying b s e.a e.b fits in (
        (
          λ live. let so = its_live.0 live in (agree.0 so.0.0, so.1),
          λ so. its_live.1 ((agree.1 so.0, apart), so.1),
        ),
        (
          λ dead. let so = its_not_live.0 dead in (λ carries. so.0 (agree.1 carries, apart), so.1),
          λ so. its_not_live.1 (λ live. so.0 (agree.0 live.0), so.1),
        ),
      )

-- ---- the theorems, of a judge that keeps the promise

pub judges_keep : Keeps Judges
judges_keep b h r n w v told = told

module _ (J : Judge) (keeps : Keeps J) where
  -- what holds of the verdicts that the promise allows holds of its verdicts
  kept : (P : Board → State → ℕ → Winding → Verdict → Type 0) → OfEveryVerdict Judges P → OfEveryVerdict J P
  kept P all b h r n w e v told = all b h r n w e v (keeps b h r n w v told)

  pub as_afresh : AsAfresh J
  as_afresh =
      kept _ (λ b h r n w e v told taken. told ∙ sym (judging_given b h r n w e (sets_of b h.state) taken refl))

  pub live_exactly : LiveExactly J
  live_exactly = kept _ its_live

  pub dead_exactly : DeadExactly J
  dead_exactly = kept _ its_dead

  pub undecided_exactly : UndecidedExactly J
  undecided_exactly = kept _ its_undecided

  pub live_shows : LiveShows J
  live_shows = kept _ its_first_chain

  pub shunted_dead : ShuntedDead J
  shunted_dead = kept _ its-shunted_dead

  pub dead_counts : DeadCounts J
  dead_counts = kept _ its_count

  pub undecided_reports : UndecidedReports J
  undecided_reports = kept _ its_report

  pub as_published : AsPublished J
  as_published = kept _ its_current

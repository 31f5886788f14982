-- Laws of judging by the sets: the winding is dead if it is shunted, else it goes by the chains; and of judging as a
-- call: refused by 15, 14, 18 or 11, in that order, or judged.
use Prim.Native.Nat.{ℕ, ◌≤◌}
use native.Mathlib.Omega.{arith}
use mathlib.Core.Path.{◌≡◌, refl, sym, ap, ap₂, subst, ◌∙◌}
use mathlib.Core.Bool.{Bool, true, false, cond}
use mathlib.Core.List.{List, [], ◌∷◌}
use mathlib.Core.Option.{Option, none, some}
use borrow.Author.Tests.{le-leb}
use Rattle.bits.specs.Sets.{member, including}
use Rattle.bits.proofs.BoolLaws.{by_test}
use Rattle.refusals.specs.Outcomes.{Outcome, given, refused, ◌>>◌, told}
use Rattle.std.specs.Prelude.{Result}
use Rattle.std.specs.Result.{IsErr, IsErrAnd}
use Rattle.refusals.specs.declared.Refusal.{Refusal}
use Rattle.refusals.specs.Refusals.{no_such_winding, number_of}
use Rattle.refusals.proofs.LineLaws.{ends_with}
use Rattle.refusals.specs.Order.{first_no, against}
use Rattle.refusals.specs.declared.No.TheVariants.{BrokenBoard, StateBeyondBoard, ForeignSets, NoSuchWinding}
use Rattle.refusals.proofs.OutcomeLaws.{both_given}
use Rattle.refusals.proofs.Tabled.{Tabled, gives, refuses, tabled_given, tabled_refused, tabled_both}
use Rattle.refusals.proofs.Tabled.{TabledLines, tabled_lines}
use Rattle.refusals.proofs.OrderLaws.{asks_append}
use Rattle.board.specs.declared.Board.{Board}
use Rattle.board.specs.Parts.{parts_of}
use Rattle.board.specs.Rules.{most_terminals, board_fine}
use Rattle.board.proofs.FineLaws.{fine_range}
use Rattle.state.specs.States.{state_fine}
use Rattle.neighbours.specs.declared.Sets.{Sets}
use Rattle.neighbours.specs.Neighbours.{joined, sets_of}
use Rattle.kept.specs.declared.Kept.{Kept}
use Rattle.kept.specs.Kept.{usable_lines, usable}
use Rattle.kept.proofs.KeptLaws.{kept_sets, usable_given, usable_lines_lem, usable_next}
use Rattle.chains.specs.ChainList.{chains, shows}
use Rattle.reach.specs.Floods.{flooded}
use Rattle.search.specs.declared.Winding.{Winding}
use Rattle.search.specs.Verdicts.{Verdict, first_shown, effort, settled, weighed, verdict_by, in_sets}
use Rattle.search.proofs.VerdictLaws.{in_sets_all, TabledVerdict, weighed-tabled}
use Rattle.judge.specs.declared.Which.{Which}
use Rattle.judge.specs.RelayWindings.{OfRelay, winding_of, windings_at, winding_named, is_there, or_no_such_winding}
use Rattle.judge.specs.Judging.{shunted, judged_by, judge_lines, winding_for, verdict_on, judging}
use Rattle.judge.proofs.ScannedLaws.{asked_given, asked_refused}
use Rattle.judge.proofs.WoundLaws.{windings_named}

-- ---- judging by the sets

-- the way through `is_shunted`
pub shunted_by_lem : (k : Sets) (v : Winding) (a b end reached : ℕ) (r : Bool) → a ≡ v.a → end ≡ including 0 a
    → reached ≡ flooded k.bare end 0 → b ≡ v.b → r ≡ member reached b → r ≡ shunted k v
unfolding shunted
shunted_by_lem k v a b end reached r at_a from flood at_b is =
    is ∙ ap₂ member (flood ∙ ap (λ (n : ℕ). flooded k.bare n 0) (from ∙ ap (including 0) at_a)) at_b

module _ (k : Sets) (t : ℕ) (v : Winding) (w : ℕ) where
  pub judged-shunted : shunted k v ≡ true → settled 0 none ≡ judged_by k t v w
  unfolding judged_by
  judged-shunted is = rw is refl

  pub judged_else : shunted k v ≡ false → verdict_by k.near (in_sets t) v w ≡ judged_by k t v w
  unfolding judged_by
  judged_else off = rw off refl

-- the chains that are gone through for winding v: none, if it is shunted
unfoldable pub chains_for : Sets → ℕ → Winding → List (List ℕ)
chains_for k t v = cond (shunted k v) [] (chains (joined k.near) t)

pub chains_none : (k : Sets) (t : ℕ) (v : Winding) → shunted k v ≡ true → chains_for k t v ≡ []
unfolding chains_for
chains_none k t v is = rw is refl

pub chains_all : (k : Sets) (t : ℕ) (v : Winding) → shunted k v ≡ false → chains_for k t v ≡ chains (joined k.near) t
unfolding chains_for
chains_all k t v off = rw off refl

-- so the verdict always goes by the chains that are gone through
pub effort_nothing : (s : List ℕ → Bool) → effort s [] ≡ 0
unfolding effort
effort_nothing s = refl

weighed_none : (s : List ℕ → Bool) (w : ℕ) → weighed s [] w ≡ settled 0 none
unfolding weighed effort first_shown
weighed_none s w = rw (le-leb 0 w (omega arith)) refl

module _ (k : Sets) (t : ℕ) (v : Winding) (w : ℕ) where
  -- of n terminals, where as many are looked at
  judged_of : (n : ℕ) → verdict_by k.near n v w ≡ verdict_by k.near (in_sets t) v w
      → judged_by k t v w ≡ weighed (shows v.a v.b) (chains_for k n v) w
  unfolding verdict_by
  judged_of n same =
      let by : List (List ℕ) → Verdict = λ cs. weighed (shows v.a v.b) cs w in
      by_test (shunted k v)
      (λ is. sym (ap by (chains_none k n v is) ∙ weighed_none _ w ∙ judged-shunted k t v w is))
      (λ off. sym (ap by (chains_all k n v off) ∙ same ∙ judged_else k t v w off))

  pub judged-weighed : judged_by k t v w ≡ weighed (shows v.a v.b) (chains_for k (in_sets t) v) w
  judged-weighed = judged_of (in_sets t) refl

  -- terminals that the sets have are all looked at
  pub judged_all : t ≤ most_terminals → judged_by k t v w ≡ weighed (shows v.a v.b) (chains_for k t v) w
  judged_all few = judged_of t (in_sets_all k.near t v w few)

-- ---- the winding that is judged

-- a winding that is asked for is asked for once
asked-once : (o : Option Winding)
    → (first_no ((is_there o, no_such_winding) ∷ []) >> or_no_such_winding o) ≡ or_no_such_winding o
unfolding first_no
asked-once (some v) = refl
asked-once none = refl

then-once : {A : Type 0} (o q : Outcome (Unit {0})) (x : Outcome A) → (q >> x) ≡ x → (o >> q >> x) ≡ (o >> x)
then-once (given u) q x once = once
then-once (refused n p) q x once = refl

-- 11 is asked as the last line, so the winding is there once it has passed
asked_last : (o : Outcome (Unit {0})) (v : Option Winding)
    → against ((o >> first_no ((is_there v, no_such_winding) ∷ [])) >> or_no_such_winding v)
    ≡ (o >> first_no ((is_there v, no_such_winding) ∷ []))
unfolding first_no
asked_last (given u) (some v) = refl
asked_last (given u) none = refl
asked_last (refused n p) v = refl

module _ (b : Board) (h : Kept) (r : ℕ) (n : Which) where
  -- what stands against a call that asks for a winding is the first of its lines whose test fails
  pub winding_for_lines : against (winding_for b h r n) ≡ first_no (judge_lines b h r n)
  unfolding winding_for
  winding_for_lines =
      ap (λ (o : Outcome (Unit {0})). against (o >> or_no_such_winding winding)) split
      ∙ asked_last (first_no (usable_lines b h)) winding ∙ sym split
    where
      winding : Option Winding
      winding = winding_of n r (parts_of b)

      split : first_no (judge_lines b h r n)
          ≡ (first_no (usable_lines b h) >> first_no ((is_there winding, no_such_winding) ∷ []))
      split = asks_append (usable_lines b h) ((is_there winding, no_such_winding) ∷ [])

  -- 11 is asked after 15, 14 and 18
  pub winding_for_asked : winding_for b h r n ≡ (usable b h >> or_no_such_winding (winding_of n r (parts_of b)))
  unfolding winding_for
  winding_for_asked =
      ap (λ (o : Outcome (Unit {0})). o >> or_no_such_winding (winding_of n r (parts_of b))) (usable_lines_lem b h _)
      ∙ then-once (usable b h) (first_no ((is_there (winding_of n r (parts_of b)), no_such_winding) ∷ []))
      (or_no_such_winding (winding_of n r (parts_of b))) (asked-once (winding_of n r (parts_of b)))

  pub winding_for_unusable : (k p : ℕ) → usable b h ≡ refused k p → winding_for b h r n ≡ refused k p
  winding_for_unusable k p unusable = winding_for_asked ∙ rw unusable refl

  pub winding_for_sought : (o : Option Winding) → usable b h ≡ given tt → winding_of n r (parts_of b) ≡ o
      → winding_for b h r n ≡ or_no_such_winding o
  winding_for_sought o taken is = winding_for_asked ∙ rw (taken, is) refl

  -- where a winding is judged, neither 15 nor 14 nor 18 holds, and the winding is the relay's
  pub winding_for_both : (e : Winding) → winding_for b h r n ≡ given e
      → (usable b h ≡ given tt) × (winding_of n r (parts_of b) ≡ some e)
  winding_for_both e taken =
      let both =
      both_given (usable b h) (or_no_such_winding (winding_of n r (parts_of b))) e (sym winding_for_asked ∙ taken) in
      (both.0, asked_given (winding_of n r (parts_of b)) e both.1)

  pub winding_for_given : (e : Winding) → winding_for b h r n ≡ given e → (board_fine b ≡ true)
      × (state_fine b.counts h.state ≡ true) × (winding_of n r (parts_of b) ≡ some e)
  winding_for_given e taken =
      let both = winding_for_both e taken in
      let fit = usable_given b h both.0 in (fit.0, fit.1, both.1)

  pub winding_for-kept : (e : Winding) → winding_for b h r n ≡ given e → h.sets ≡ sets_of b h.state
  winding_for-kept e taken = kept_sets b h (usable_given b h (winding_for_both e taken).0).2

  -- where 11 is given, neither 15 nor 14 nor 18 holds, and the winding is not there
  pub winding_for_eleven : winding_for b h r n ≡ refused no_such_winding 0
      → (usable b h ≡ given tt) × (winding_of n r (parts_of b) ≡ none)
  winding_for_eleven is =
      let next = usable_next b h (or_no_such_winding (winding_of n r (parts_of b))) no_such_winding 0 (λ e. omega arith)
      (λ e. omega arith) (λ e. omega arith) (sym winding_for_asked ∙ is) in
      (next.0, asked_refused (winding_of n r (parts_of b)) no_such_winding 0 next.1)

  -- ---- one law for each way out of `winding_for`

  pub asked_unusable : (e : Refusal) (x : Result Winding Refusal) → refused (number_of e.no) e.place ≡ usable b h
      → IsErr x × IsErrAnd x (λ (y : Refusal). y ≡ e) → told x ≡ winding_for b h r n
  asked_unusable e x unusable ends =
      ap told (ends_with x e ends) ∙ sym (winding_for_unusable (number_of e.no) e.place (sym unusable))

  pub asked-usable : (x : Outcome Winding) (ws : OfRelay Winding) → given tt ≡ usable b h
      → ws ≡ windings_at r (parts_of b) → x ≡ or_no_such_winding (winding_named n ws)
      → x ≡ winding_for b h r n
  asked-usable x ws taken found is =
      is ∙ ap (λ (q : OfRelay Winding). or_no_such_winding (winding_named n q)) found
      ∙ sym (winding_for_sought (winding_named n (windings_at r (parts_of b))) (sym taken)
      (sym (windings_named b r n (usable_given b h (sym taken)).0)))

  -- ---- the call

  -- its verdict goes by what is judged
  pub judging_by : (w : ℕ) (o : Outcome Winding) → winding_for b h r n ≡ o
      → verdict_on b h.state o w ≡ judging b h r n w
  unfolding judging
  judging_by w o e = ap (λ (q : Outcome Winding). verdict_on b h.state q w) (sym e)

  -- the verdict on the winding, by the sets k of the board in the state
  pub judging_given : (w : ℕ) (v : Winding) (k : Sets) → winding_for b h r n ≡ given v → k ≡ sets_of b h.state
      → judged_by k b.counts.terminals v w ≡ judging b h r n w
  judging_given w v k taken same =
      ap (λ (q : Sets). judged_by q b.counts.terminals v w) same ∙ judging_by w (given v) taken

  -- so by the kept sets
  pub judging-kept : (w : ℕ) (v : Winding) → winding_for b h r n ≡ given v
      → judged_by h.sets b.counts.terminals v w ≡ judging b h r n w
  judging-kept w v taken = judging_given w v h.sets taken (winding_for-kept v taken)

  -- all the board's terminals are looked at
  pub judging-weighed : (w : ℕ) (v : Winding) → winding_for b h r n ≡ given v
      → judging b h r n w ≡ weighed (shows v.a v.b) (chains_for (sets_of b h.state) b.counts.terminals v) w
  judging-weighed w v taken =
      sym (judging_by w (given v) taken)
      ∙ judged_all (sets_of b h.state) b.counts.terminals v w
      (fine_range b (winding_for_given v taken).0).terminals_few

-- ---- what is asked for, and judged, is refused by the table alone

sought-tabled : (o : Option Winding) → Tabled (or_no_such_winding o)
sought-tabled (some v) = tabled_given v
sought-tabled none = tabled_refused NoSuchWinding 0

pub winding_for-tabled : (b : Board) (h : Kept) (r : ℕ) (n : Which) → Tabled (winding_for b h r n)
unfolding winding_for TabledLines
winding_for-tabled b h r n =
    tabled_both _ _
    (tabled_lines (judge_lines b h r n)
    ((BrokenBoard, refl), ((StateBeyondBoard, refl), ((ForeignSets, refl), ((NoSuchWinding, refl), tt)))))
    (sought-tabled (winding_of n r (parts_of b)))

judged_by-tabled : (k : Sets) (t : ℕ) (v : Winding) (w : ℕ) → TabledVerdict (judged_by k t v w)
judged_by-tabled k t v w =
    subst TabledVerdict (sym (judged-weighed k t v w)) (weighed-tabled _ _ w)

verdict_on-tabled : (b : Board) (h : Kept) (w : ℕ) (o : Outcome Winding) → Tabled o
    → TabledVerdict (verdict_on b h.state o w)
verdict_on-tabled b h w o (gives v is) =
    subst (λ (q : Outcome Winding). TabledVerdict (verdict_on b h.state q w)) (sym is)
    (judged_by-tabled (sets_of b h.state) b.counts.terminals v w)
verdict_on-tabled b h w o (refuses k p is) =
    subst (λ (q : Outcome Winding). TabledVerdict (verdict_on b h.state q w)) (sym is) (tabled_refused k p)

pub judging-tabled : (b : Board) (h : Kept) (r : ℕ) (n : Which) (w : ℕ) → TabledVerdict (judging b h r n w)
unfolding judging
judging-tabled b h r n w = verdict_on-tabled b h w (winding_for b h r n) (winding_for-tabled b h r n)

-- The theorems of specs/Dividing.antt: what the floods with a terminal taken out say is what the request says, and by
-- the theorems of `dividing` the judge that goes by them agrees with the chains.
--     Saying b s e j    what a judgement j says of winding e is so
use Prim.Native.Nat.{ℕ, ◌<◌, ◌≤◌}
use native.Mathlib.Omega.{arith}
use mathlib.Core.Path.{◌≡◌, refl, sym, ap, subst, ◌∙◌}
use mathlib.Core.Logic.{◌↔◌, inl, inr, ⊎_elim}
use mathlib.Core.Bool.{Bool, true, false, not, false≢true}
use mathlib.Core.Option.{Option, none, some, none-ne-some}
use borrow.Author.Tests.{not-true}
use Rattle.bits.specs.Sets.{member}
use Rattle.bits.proofs.BoolLaws.{by_test, by_less, both_true}
use Rattle.bits.proofs.SetLaws.{member_none, member-including-same, member-including_other, member_below}
use Rattle.refusals.specs.Outcomes.{Outcome, given, refused, told, told_as}
use Rattle.refusals.specs.declared.Refusal.{Refusal}
use Rattle.std.specs.Prelude.{Result}
use Rattle.refusals.specs.Refusals.{terminal_beyond}
use Rattle.refusals.proofs.OutcomeLaws.{refused_never, given_injective}
use Rattle.board.specs.declared.Board.{Board}
use Rattle.board.specs.Parts.{parts_of}
use Rattle.board.specs.BreaksNoRule.{BoardFits}
use Rattle.board.proofs.BreaksNoRule.{fine_fits}
use Rattle.state.specs.declared.State.{State}
use Rattle.neighbours.specs.Neighbours.{Joined, joined, neighbours, bare_neighbours, sets_of}
use Rattle.neighbours.proofs.JoinedLaws.{joined-part, part-joined, joined_terminals, joined_apart, joined_turned}
use Rattle.kept.specs.declared.Kept.{Kept}
use Rattle.kept.specs.Kept.{CanUse}
use Rattle.kept.proofs.KeptLaws.{usable_can, can-usable, usable_next}
use Rattle.reach.specs.Links.{Reachable}
use Rattle.reach.proofs.FloodLaws.{flood-begins, flood_on_lem, flood_least}
use Rattle.reach.proofs.ReachedLaws.{reached-begins, reached_on, reached-within}
use Rattle.dividing.specs.Dividing.{Pole, WindingEnd, Is, WoundBetween, CanTell}
use Rattle.dividing.proofs.InnerRows.{reached_turned}
use Rattle.dividing.proofs.Dividing.{shown_or_divided, never_both, shown_by_served}
use Rattle.search.specs.declared.Winding.{Winding}
use Rattle.feed.specs.Feeds.{poles, alone, reached_without, served, linked, shunted_by, live_by}
use Rattle.feed.proofs.FeedLaws.{served_exactly, shunted-linked, live_by_exactly}
use Rattle.judge.specs.declared.Which.{Which}
use Rattle.judge.specs.RelayWindings.{winding_of, or_no_such_winding}
use Rattle.judge.specs.Judging as by-sets
use Rattle.judge.specs.Judging.{winding_for, Judges}
use Rattle.judge.proofs.JudgeLaws.{winding_for_asked, winding_for_both, winding_for_sought}
use Rattle.divide.specs.declared.Judgement as code-judgement
use Rattle.divide.specs.AtOnce.{divides, lowest_dividing, Judgement, live, shunted, dead, judged_at_once}
use Rattle.divide.specs.AtOnce.{told_judgement}
use Rattle.divide.specs.AtOnce.{checking, JudgesAtOnce}
use Rattle.divide.proofs.AtOnceLaws.{lowest-divides, lowest-before, lowest_none, told-shunted, told_dead, told_live}
use Rattle.divide.proofs.AtOnceLaws.{judging_of, checking_refused, checking-beyond, checking_of}
use Rattle.judge_means.specs.Shunts.{Shunted, OnBoard}
use Rattle.judge_means.specs.Exactness.{AcceptedWinding, IsShown, IsLive}
use Rattle.judge_means.specs.Eleven.{LineEleven, ItsWinding}
use Rattle.judge_means.specs.Dividing.{DividesOn, LowestOn, UndividedOn, DividedOn, ServedOn, ShownUndivided}
use Rattle.judge_means.specs.Dividing.{ServedExactly, LinkedExactly, LiveServed, ToldExactly, SaysDead}
use Rattle.judge_means.specs.Dividing.{AgreeWhereSettled, CheckedExactly}
use Rattle.judge_means.specs.Dividing.{NineteenExactly}
use Rattle.judge_means.proofs.Shunts.{winding-conducts, shunted_exactly}
use Rattle.judge_means.proofs.Exactness.{judges_keep, live_exactly, dead_exactly}
use Rattle.judge_means.proofs.Eleven.{found_its, fine_most, missing_exactly}

-- ---- the poles as a set, and one terminal taken out

pole-member : (y : ℕ) → member poles y ≡ true → Pole y
pole-member y is =
    by_less y 1 (λ low. inl (omega arith)) (λ up. inr (omega (arith, up, member_below 3 2 y (omega arith) is)))

member-pole : (y : ℕ) → Pole y → member poles y ≡ true
unfolding member
member-pole y (inl e) = rw e refl
member-pole y (inr e) = rw e refl

module _ (b : Board) (s : State) (fits : BoardFits b) where
  -- it can be told of any two terminals whether they are joined
  joined-told : CanTell (Joined b s)
  joined-told x y =
      by_test (joined (neighbours b s) x y) (λ on. yes (joined-part b s x y on))
      (λ off. no (λ j. false≢true (sym off ∙ part-joined b s x y fits j)))

  -- a relay's winding has two ends, which it joins
  its-wound : (r : ℕ) (n : Which) (e : Winding) → ItsWinding b r n e
      → WoundBetween (Joined b s) b.counts.terminals e.a e.b
  its-wound r n e i = record {
    a_inside = inside.0;
    b_inside = inside.1;
    two_ends = joined_apart b s e.a e.b fits join;
    ends_joined = join;
    either_side = joined_turned b s;
  }
    where
      join : Joined b s e.a e.b
      join = record {
        part = i.part;
        on_board = i.on_board;
        conducting = winding-conducts s n r i.part.kind i.is_its_winding;
        ends = inl i.ends;
      }

      inside : OnBoard b e
      inside = joined_terminals b s e.a e.b fits join

  -- ---- what the poles reach, with terminal x taken out

  module _ (x : ℕ) (below : x < b.counts.terminals) where
    abbrev ReachedFrom : (ℕ → Type 0) → ℕ → Type 0
    ReachedFrom From u = Reachable (Joined b s) b.counts.terminals From (Is x) u

    in_word : (u : ℕ) → u < b.counts.terminals → u < 64
    in_word u inside = omega (arith, fits.counts.terminals_few, inside)

    not_out : (u : ℕ) → member (alone x) u ≡ false → ¬ (u ≡ x)
    not_out u off same =
        false≢true (sym off ∙ ap (member (alone x)) same ∙ member-including-same 0 x (in_word x below))

    out_absent : (u : ℕ) → ¬ (u ≡ x) → member (alone x) u ≡ false
    out_absent u apart = member-including_other 0 x u apart ∙ member_none u

    flood_reached : (u : ℕ) → member (reached_without (neighbours b s) x) u ≡ true → ReachedFrom Pole u
    unfolding reached_without
    flood_reached =
        flood_least (neighbours b s) poles (alone x) (ReachedFrom Pole)
        (λ u begins left.
        reached-begins (Joined b s) b.counts.terminals Pole (Is x) u
        (⊎_elim (λ e. omega (arith, e, fits.counts.terminals_enough))
        (λ e. omega (arith, e, fits.counts.terminals_enough))
        (pole-member u begins))
        (pole-member u begins) (not_out u left))
        (λ u v inside r join left.
        let part = joined-part b s u v join in
        reached_on (Joined b s) b.counts.terminals Pole (Is x) u v r part
        (joined_terminals b s u v fits part).1 (not_out v left))

    reached_flood : (u : ℕ) → ReachedFrom Pole u → member (reached_without (neighbours b s) x) u ≡ true
    unfolding reached_without
    reached_flood =
        reached-within (Joined b s) b.counts.terminals Pole (Is x)
        (λ u. member (reached_without (neighbours b s) x) u ≡ true)
        (λ u inside pole apart.
        flood-begins (neighbours b s) poles (alone x) u (member-pole u pole) (out_absent u apart))
        (λ u v inside v-inside is j apart.
        flood_on_lem (neighbours b s) poles (alone x) u v (in_word u inside) is (part-joined b s u v fits j)
        (out_absent v apart))

    -- no end is reached from a pole exactly if no pole is reached from an end
    module _ (e : Winding) (inside : OnBoard b e) where
      end_unreached : DividesOn b s e x → (u : ℕ) → WindingEnd e.a e.b u → u < b.counts.terminals
          → member (reached_without (neighbours b s) x) u ≡ false
      end_unreached divided u end within =
          by_test (member (reached_without (neighbours b s) x) u)
          (λ on.
          let r = flood_reached u on in
          absurd (divided r.from r.begins
          (reached_turned (Joined b s) b.counts.terminals x u Pole (WindingEnd e.a e.b) (joined_turned b s) r
          within
          end)))
          (λ off. off)

      divides_there : divides (neighbours b s) e x ≡ true → DividesOn b s e x
      unfolding divides
      divides_there is p pole r =
          let both = both_true (not (member (reached_without (neighbours b s) x) e.a)) _ is in
          let back =
          reached_turned (Joined b s) b.counts.terminals x p (WindingEnd e.a e.b) Pole (joined_turned b s) r
          (⊎_elim (λ z. omega (arith, z, fits.counts.terminals_enough))
          (λ z. omega (arith, z, fits.counts.terminals_enough)) pole) pole in
          let reached = reached_flood r.from back in
          ⊎_elim
          (λ at. false≢true
          (sym (not-true _ both.0) ∙ ap (member (reached_without (neighbours b s) x)) (sym at) ∙ reached))
          (λ at. false≢true
          (sym (not-true _ both.1) ∙ ap (member (reached_without (neighbours b s) x)) (sym at) ∙ reached))
          r.begins

      divides_back : DividesOn b s e x → divides (neighbours b s) e x ≡ true
      unfolding divides
      divides_back divided =
          rw (end_unreached divided e.a (inl refl) inside.0, end_unreached divided e.b (inr refl) inside.1)
          refl

      undivided : divides (neighbours b s) e x ≡ false → ¬ (DividesOn b s e x)
      undivided off divided = false≢true (sym off ∙ divides_back divided)

  -- ---- the served terminals, and a winding that is live by them

  served_there : (u : ℕ) → u < b.counts.terminals
      → member (served (neighbours b s) b.counts.terminals) u ≡ true ↔ ServedOn b s u
  served_there u inside =
      let exactly =
      served_exactly (neighbours b s) b.counts.terminals u fits.counts.terminals_few
      (omega (arith, fits.counts.terminals_few, inside)) in (
        λ is x below other. flood_reached x below u (exactly.0 is x (omega arith) below other),
        λ all. exactly.1 (λ x from below other. reached_flood x below u (all x below other)),
      )

  -- the linked terminals
  pub links-shunted : (e : Winding) → OnBoard b e
      → shunted_by (linked (bare_neighbours b s) b.counts.terminals) e ≡ by-sets.shunted (sets_of b s) e
  unfolding by-sets.shunted
  links-shunted e inside =
      shunted-linked (linked (bare_neighbours b s) b.counts.terminals) e (bare_neighbours b s) b.counts.terminals
      refl fits.counts.terminals_few inside.0

  module _ (r : ℕ) (n : Which) (e : Winding) (i : ItsWinding b r n e) where
    wound : WoundBetween (Joined b s) b.counts.terminals e.a e.b
    wound = its-wound r n e i

    two : 1 < b.counts.terminals
    two = omega (arith, fits.counts.terminals_enough)

    its_undivided : (IsShown b s e ↔ UndividedOn b s e) × (¬ (IsShown b s e) ↔ DividedOn b s e)
    its_undivided =
        let either =
        shown_or_divided (Joined b s) b.counts.terminals e.a e.b joined-told two wound in
        let never = never_both (Joined b s) b.counts.terminals e.a e.b wound in (
          (
            λ shown x below divided. never shown (record { by = x; inside = below; divides = divided }),
            λ nowhere. ⊎_elim (λ shown. shown) (λ d. absurd (nowhere d.by d.inside d.divides)) either,
          ),
          (
            λ unshown. ⊎_elim (λ shown. absurd (unshown shown)) (λ d. d) either,
            λ divided shown. never shown divided,
          ),
        )

    its-served : IsShown b s e ↔ ServedOn b s e.a × ServedOn b s e.b
    its-served = shown_by_served (Joined b s) b.counts.terminals e.a e.b joined-told two wound

    -- by what a look works out
    pub its_live : live_by (served (neighbours b s) b.counts.terminals)
        (linked (bare_neighbours b s) b.counts.terminals) e ≡ true ↔ IsLive b s e
    its_live =
        let exactly =
        live_by_exactly (served (neighbours b s) b.counts.terminals)
        (linked (bare_neighbours b s) b.counts.terminals) e in (
          λ is.
              let so = exactly.0 is in (
                its-served.1 (
                  (served_there e.a wound.a_inside).0 so.1,
                  (served_there e.b wound.b_inside).0 so.2,
                ),
                λ shunt. false≢true (sym so.0 ∙ links-shunted e on_board ∙ (shunted_exactly b s e fits on_board).1
                    shunt),
              ),
          λ (shown, apart).
              let ends = its-served.0 shown in
              exactly.1 (
                by_test (by-sets.shunted (sets_of b s) e)
                    (λ on. absurd (apart ((shunted_exactly b s e fits on_board).0 on)))
                    (λ off. links-shunted e on_board ∙ off),
                (served_there e.a wound.a_inside).1 ends.0,
                (served_there e.b wound.b_inside).1 ends.1,
              ),
        )
      where
        on_board : OnBoard b e
        on_board = (wound.a_inside, wound.b_inside)

-- ---- the theorems of boards

pub shown_undivided : ShownUndivided
shown_undivided b s r n e fine i = its_undivided b s (fine_fits b fine) r n e i

pub served_exactly_on : ServedExactly
served_exactly_on b s u fine inside = served_there b s (fine_fits b fine) u inside

pub linked_exactly : LinkedExactly
linked_exactly b s e fine inside =
    let exactly = shunted_exactly b s e (fine_fits b fine) inside in
    let same = links-shunted b s (fine_fits b fine) e inside in
    (λ is. exactly.0 (sym same ∙ is), λ is. same ∙ exactly.1 is)

pub live_served : LiveServed
live_served b s r n e fine i apart =
    let served-shown = its-served b s (fine_fits b fine) r n e i in
    (λ is. served-shown.0 is.0, λ ends. (served-shown.1 ends, apart))

-- ---- what a judgement says is so

data Saying (b : Board) (s : State) (e : Winding) : Judgement → Type 0 where
  is_live : IsLive b s e → Saying b s e live
  is_shunted : Shunted b s e → Saying b s e shunted
  is_dead : (x : ℕ) → ¬ (Shunted b s e) → ¬ (IsShown b s e) → LowestOn b s e x → Saying b s e (dead x)

module _ (b : Board) (s : State) (r : ℕ) (n : Which) (e : Winding) (fits : BoardFits b) (i : ItsWinding b r n e) where
  abbrev terminals : ℕ
  terminals = b.counts.terminals

  abbrev lowest : ℕ
  lowest = lowest_dividing (neighbours b s) terminals e

  on_board : OnBoard b e
  on_board = let w = its-wound b s fits r n e i in (w.a_inside, w.b_inside)

  unshunted : by-sets.shunted (sets_of b s) e ≡ false → ¬ (Shunted b s e)
  unshunted off is = false≢true (sym off ∙ (shunted_exactly b s e fits on_board).1 is)

  lowest_on : lowest < terminals → LowestOn b s e lowest
  lowest_on found = record {
    inside = found;
    divides = divides_there b s fits lowest found e on_board (lowest-divides (neighbours b s) terminals e found);
    lowest = λ y before. undivided b s fits y (omega (arith, before, found)) e on_board
        (lowest-before (neighbours b s) terminals e y before);
  }

  judged-comes : Saying b s e (judged_at_once (sets_of b s) terminals e)
  judged-comes =
      by_test (by-sets.shunted (sets_of b s) e)
      (λ on. subst (Saying b s e) (told-shunted (sets_of b s) terminals e on)
      (is_shunted ((shunted_exactly b s e fits on_board).0 on)))
      (λ off. by_less lowest terminals
      (λ found. subst (Saying b s e) (told_dead (sets_of b s) terminals e lowest off refl found)
      (is_dead lowest (unshunted off)
      ((its_undivided b s fits r n e i).1.1
      (record { by = lowest; inside = found; divides = (lowest_on found).divides }))
      (lowest_on found)))
      (λ nowhere. subst (Saying b s e) (told_live (sets_of b s) terminals e lowest off refl nowhere)
      (is_live (
        (its_undivided b s fits r n e i).0.1
            (λ x below. undivided b s fits x below e on_board
            (lowest_none (neighbours b s) terminals e x nowhere below)),
        unshunted off,
      ))))

  -- there is one lowest
  lowest-once : (x y : ℕ) → LowestOn b s e x → LowestOn b s e y → x ≡ y
  lowest-once x y of-x of-y =
      by_less x y (λ less. absurd (of-y.lowest x less of-x.divides))
      (λ more. by_less y x (λ less. absurd (of-x.lowest y less of-y.divides)) (λ also. omega arith))

  comes_live : (j : Judgement) → Saying b s e j → given j ≡ given live ↔ IsLive b s e
  comes_live j so = (λ is. from (subst (Saying b s e) (given_injective j live is) so), to j so)
    where
      from : Saying b s e live → IsLive b s e
      from (is_live l) = l

      to : (j : Judgement) → Saying b s e j → IsLive b s e → given j ≡ given live
      to live (is_live l) is = refl
      to shunted (is_shunted h) is = absurd (is.1 h)
      to (dead x) (is_dead _ apart unshown at) is = absurd (unshown is.0)

  comes-shunted : (j : Judgement) → Saying b s e j → given j ≡ given shunted ↔ Shunted b s e
  comes-shunted j so = (λ is. from (subst (Saying b s e) (given_injective j shunted is) so), to j so)
    where
      from : Saying b s e shunted → Shunted b s e
      from (is_shunted h) = h

      to : (j : Judgement) → Saying b s e j → Shunted b s e → given j ≡ given shunted
      to live (is_live l) is = absurd (l.1 is)
      to shunted (is_shunted h) is = refl
      to (dead x) (is_dead _ apart unshown at) is = absurd (apart is)

  abbrev DeadBy : ℕ → Type 0
  DeadBy x = ¬ (Shunted b s e) × ¬ (IsShown b s e) × LowestOn b s e x

  comes_dead : (j : Judgement) → Saying b s e j → (x : ℕ) → given j ≡ given (dead x) ↔ DeadBy x
  comes_dead j so x = (λ is. from x (subst (Saying b s e) (given_injective j (dead x) is) so), to j so)
    where
      from : (x : ℕ) → Saying b s e (dead x) → DeadBy x
      from x (is_dead _ apart unshown at) = (apart, unshown, at)

      to : (j : Judgement) → Saying b s e j → DeadBy x → given j ≡ given (dead x)
      to live (is_live l) is = absurd (is.1 l.0)
      to shunted (is_shunted h) is = absurd (is.0 h)
      to (dead y) (is_dead _ apart unshown at) is = ap (λ (z : ℕ). given (dead z)) (lowest-once y x at is.2)

  -- what is not shown is called dead
  comes_unshown : (j : Judgement) → Saying b s e j → ¬ (IsLive b s e) → SaysDead (given j)
  comes_unshown live (is_live l) off = off l
  comes_unshown shunted (is_shunted h) off = tt
  comes_unshown (dead x) (is_dead _ apart unshown at) off = tt

-- ---- over the calls

module _ (b : Board) (h : Kept) (r : ℕ) (n : Which) (e : Winding) (taken : AcceptedWinding b h r n e) where
  board_fits : BoardFits b
  board_fits = fine_fits b (usable_can b h (winding_for_both b h r n e taken).0).0

  its : ItsWinding b r n e
  its =
      let both = winding_for_both b h r n e taken in
      found_its b r n (fine_most b r n (usable_can b h both.0).0) e both.1

  module _ (a : Result code-judgement.Judgement Refusal) (told : JudgesAtOnce b h r n a) where
    abbrev judgement : Judgement
    judgement = judged_at_once (sets_of b h.state) b.counts.terminals e

    said : told_as told_judgement a ≡ given judgement
    said = told ∙ sym (judging_of b h r n e taken)

    so : Saying b h.state e judgement
    so = judged-comes b h.state r n e board_fits its

    says : (o : Outcome Judgement) {P : Type 0} → given judgement ≡ o ↔ P → told_as told_judgement a ≡ o ↔ P
    says o both = (λ is. both.0 (sym said ∙ is), λ p. said ∙ both.1 p)

    its-told : (told_as told_judgement a ≡ given live ↔ IsLive b h.state e)
        × (told_as told_judgement a ≡ given shunted ↔ Shunted b h.state e)
        × ((x : ℕ) → told_as told_judgement a ≡ given (dead x) ↔ DeadBy b h.state r n e board_fits its x)
    its-told = (
      says (given live) (comes_live b h.state r n e board_fits its judgement so),
      says (given shunted) (comes-shunted b h.state r n e board_fits its judgement so),
      λ x. says (given (dead x)) (comes_dead b h.state r n e board_fits its judgement so x),
    )

    its_not_live : ¬ (IsLive b h.state e) → SaysDead (told_as told_judgement a)
    its_not_live off =
        subst SaysDead (sym said) (comes_unshown b h.state r n e board_fits its judgement so off)

pub told_exactly : ToldExactly
told_exactly b h r n e a told taken = its-told b h r n e taken a told

pub agree_where_settled : AgreeWhereSettled
agree_where_settled b h r n w e v a judged told taken = (
  λ is. (its-told b h r n e taken a told).0.1 ((live_exactly Judges judges_keep b h r n w e v judged taken).0 is).0,
  λ is. its_not_live b h r n e taken a told
      (⊎_elim (λ shunt l. l.1 shunt) (λ dead l. dead.0 l.0)
      ((dead_exactly Judges judges_keep b h r n w e v judged taken).0 is)),
)

pub checked_exactly : CheckedExactly
checked_exactly b h r n e x a promise taken below = (
  (
    λ is. there (given_injective _ true (sym said ∙ is)),
    λ divided. said ∙ ap given (divides_back b h.state fits x below e inside divided),
  ),
  (
    λ is. undivided b h.state fits x below e inside (given_injective _ false (sym said ∙ is)),
    λ off. said ∙ ap given (by_test (divides (neighbours b h.state) e x) (λ on. absurd (off (there on))) (λ is. is)),
  ),
)
  where
    fits : BoardFits b
    fits = board_fits b h r n e taken

    inside : OnBoard b e
    inside = on_board b h.state r n e fits (its b h r n e taken)

    said : told a ≡ given (divides (neighbours b h.state) e x)
    said = promise ∙ sym (checking_of b h r n x e taken below)

    there : divides (neighbours b h.state) e x ≡ true → DividesOn b h.state e x
    there = divides_there b h.state fits x below e inside

-- 19 is no number of those before it
not_nineteen : (b : Board) (h : Kept) (r : ℕ) (n : Which) (p : ℕ) → ¬ (winding_for b h r n ≡ refused terminal_beyond p)
not_nineteen b h r n p is =
    by (winding_of n r (parts_of b))
    (usable_next b h (or_no_such_winding (winding_of n r (parts_of b))) terminal_beyond p (λ e. omega arith)
    (λ e. omega arith)
    (λ e. omega arith) (sym (winding_for_asked b h r n) ∙ is)).1
  where
    by : (o : Option Winding) → or_no_such_winding o ≡ refused terminal_beyond p → ⊥
    by (some v) e = refused_never terminal_beyond p v (sym e)
    by none e = let z : ◌≡◌ {A = ℕ} 11 19 = cc in omega arith

abbrev LineNineteen : Board → Kept → ℕ → Which → ℕ → Type 0
LineNineteen b h r n x = CanUse b h × ¬ (LineEleven b r n) × (b.counts.terminals ≤ x)

pub nineteen_exactly : NineteenExactly
nineteen_exactly b h r n x a promise = (λ is. from (winding_for b h r n) refl (sym promise ∙ is), to)
  where
    from : (o : Outcome Winding) → winding_for b h r n ≡ o → checking b h r n x ≡ refused terminal_beyond 0
        → LineNineteen b h r n x
    from (refused m p) off is =
        let same : ◌≡◌ {A = Outcome Bool} (refused m p) (refused terminal_beyond 0) =
        checking_refused b h r n x m p off ∙ is in
        let number : m ≡ terminal_beyond = cc in
        absurd (not_nineteen b h r n p (off ∙ ap (λ (k : ℕ). refused k p) number))
    from (given e) taken is =
        by_less x b.counts.terminals
        (λ below. absurd (refused_never terminal_beyond 0 _ (sym is ∙ sym (checking_of b h r n x e taken below))))
        (λ past.
        let both = winding_for_both b h r n e taken in
        let can = usable_can b h both.0 in
        (can, λ line. none-ne-some e (sym ((missing_exactly b r n can.0).1 line) ∙ both.1), past))

    to : LineNineteen b h r n x → told a ≡ refused terminal_beyond 0
    to (can, there, past) =
        promise ∙ sym (found (winding_of n r (parts_of b)) refl)
      where
        found : (o : Option Winding) → winding_of n r (parts_of b) ≡ o → refused terminal_beyond 0 ≡ checking b h r n x
        found none missing = absurd (there ((missing_exactly b r n can.0).0 missing))
        found (some e) is =
            checking-beyond b h r n x e (winding_for_sought b h r n (some e) (can-usable b h can) is) past

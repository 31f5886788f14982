-- The theorems of specs/Eleven.antt, by how many parts are that winding: 1 or 0. Where it is 1, the winding is found,
-- and it is the relay's, of the kind that the relay's sort asks for.
use Prim.Native.Nat.{ℕ, ◌≤◌}
use native.Mathlib.Omega.{arith}
use mathlib.Core.Path.{◌≡◌, refl, sym, ap, ap₂, ◌∙◌}
use mathlib.Core.Logic.{◌⊎◌, ◌↔◌, inl, inr, ⊎_elim}
use mathlib.Core.Bool.{Bool, true}
use mathlib.Core.List.{List}
use mathlib.Core.Option.{none, some, some-injective}
use lib.Dec.{eqb, ltb}
use borrow.Author.Tests.{eqb-true, ltb-true, ltb-false}
use Rattle.lists.specs.Members.{◌∈◌}
use Rattle.bits.proofs.BoolLaws.{both_true, either_true, by_test}
use Rattle.refusals.specs.Outcomes.{Outcome, given, refused, told_as}
use Rattle.refusals.specs.declared.Refusal.{Refusal}
use Rattle.std.specs.Prelude.{Result, Ok, Err}
use Rattle.refusals.specs.Refusals.{no_such_winding}
use Rattle.refusals.proofs.OutcomeLaws.{refused_never}
use Rattle.kinds.specs.declared.Kind.{Kind}
use Rattle.kinds.specs.declared.Kind.TheVariants.{Regular, Drawing, Dropping}
use Rattle.kinds.specs.Kinds.{kind_number, name_of, kind_of, regular_kind, drawing_kind, dropping_kind}
use Rattle.kinds.proofs.KindLaws.{kind_of_parts}
use Rattle.board.specs.declared.Part.{Part}
use Rattle.board.specs.declared.Board.{Board}
use Rattle.board.specs.Parts.{parts_of}
use Rattle.board.specs.Rules.{board_fine}
use Rattle.board.specs.Sorts.{carries, count_of, IsRegular, IsSteel}
use Rattle.board.proofs.FineLaws.{fine_parts_fit, fine_relays_wound}
use Rattle.kept.specs.declared.Kept.{Kept}
use Rattle.kept.proofs.KeptLaws.{usable_can, can-usable}
use Rattle.search.specs.declared.Winding.{Winding}
use Rattle.search.specs.declared.Verdict.{Verdict}
use Rattle.search.specs.declared.Finding.{Finding}
use Rattle.search.specs.declared.Finding.TheVariants as said
use Rattle.search.specs.Verdicts as verdict
use Rattle.judge.specs.declared.Which.{Which}
use Rattle.judge.specs.declared.Which.TheVariants.{First, Second}
use Rattle.judge.specs.RelayWindings.{ends_of, winding_of}
use Rattle.judge.specs.Judging.{winding_for, Judges}
use Rattle.judge.proofs.WoundLaws.{its, these, first_sum, second_sum, windings_counted, sorted_most, sorted_none}
use Rattle.judge.proofs.WoundLaws.{regular_second, beyond_none, Found, sought, missing_counted, counted_missing}
use Rattle.judge.proofs.WoundLaws.{some-found}
use Rattle.judge.proofs.JudgeLaws.{winding_for_sought, winding_for_both, winding_for_eleven, judging_by}
use Rattle.judge_means.specs.Eleven.{LineEleven, ElevenExactly, ItsWinding, TheWinding, RegularWound, SteelWound}
use Rattle.judge_means.specs.Eleven.{EveryRelayWound}
use Rattle.judge_means.proofs.Exactness.{FindingBy, live_by, dead_by, undecided_by, verdict_finding}
use Rattle.lists.proofs.CountedLaws.{member_counted, counted_only}

-- ---- a winding of which there is at most one

module _ (b : Board) (r : ℕ) (n : Which) (most : these n r (parts_of b) ≤ 1) where
  -- the winding found is the relay's, and the only one
  pub found_its : (e : Winding) → winding_of n r (parts_of b) ≡ some e → ItsWinding b r n e
  found_its e answer =
      let f = some-found n r (parts_of b) e answer in
      let same = some-injective (ends_of f.part) e (sym f.found ∙ answer) in
      record {
        part = f.part;
        on_board = f.among;
        is_its_winding = f.is_its_winding;
        ends = (ap (λ (w : Winding). w.a) same, ap (λ (w : Winding). w.b) same);
        only =
            λ p among on. counted_only (its n r) (parts_of b) most p f.part among f.among on
            f.is_its_winding;
      }

  -- where some part is that winding, the relay has it
  counted_its : 1 ≤ these n r (parts_of b) → (e : Winding) × ItsWinding b r n e
  counted_its here =
      ⊎_elim (λ f. (ends_of f.part, found_its (ends_of f.part) f.found))
      (λ m. absurd (omega (arith, here, m.no_part))) (sought n r (parts_of b))

-- ---- of a board that breaks no rule

module _ (b : Board) (r : ℕ) (n : Which) (fine : board_fine b ≡ true) where
  -- at most one part is that winding
  pub fine_most : these n r (parts_of b) ≤ 1
  fine_most =
      by_test (ltb r b.counts.relays)
      (λ below. sorted_most r (parts_of b) n (fine_relays_wound b fine r (ltb-true r b.counts.relays below)))
      (λ past. omega (
        arith,
        beyond_none b.counts n r (parts_of b) (fine_parts_fit b fine)
            (ltb-false r b.counts.relays past),
      ))

  -- none of the parts is that winding exactly if the line of 11 holds
  none_line : these n r (parts_of b) ≡ 0 → LineEleven b r n
  none_line no_part =
      by_test (ltb r b.counts.relays)
      (λ below. inr (sorted_none r (parts_of b) n (fine_relays_wound b fine r (ltb-true r b.counts.relays below))
      no_part))
      (λ past. inl (ltb-false r b.counts.relays past))

  line_none : LineEleven b r n → these n r (parts_of b) ≡ 0
  line_none (inl past) = beyond_none b.counts n r (parts_of b) (fine_parts_fit b fine) past
  line_none (inr regular) = regular_second r (parts_of b) n regular

  -- the winding is missing exactly if the line of 11 holds
  pub missing_exactly : winding_of n r (parts_of b) ≡ none ↔ LineEleven b r n
  missing_exactly = (
    λ missing. none_line (missing_counted n r (parts_of b) missing),
    λ line. counted_missing n r (parts_of b) (line_none line),
  )

module _ (b : Board) (r : ℕ) (n : Which) where
  its_counted : (e : Winding) → ItsWinding b r n e → 1 ≤ these n r (parts_of b)
  its_counted e i = member_counted (its n r) (parts_of b) i.part i.on_board i.is_its_winding

  -- the relay's winding is found
  pub its-found : (e : Winding) → ItsWinding b r n e → winding_of n r (parts_of b) ≡ some e
  its-found e i =
      ⊎_elim (λ f. f.found ∙ ap some (same_ends f (i.only f.part f.among f.is_its_winding)))
      (λ m. absurd (omega (arith, m.no_part, its_counted e i))) (sought n r (parts_of b))
    where
      same_ends : (f : Found n r (parts_of b)) → f.part ≡ i.part → ends_of f.part ≡ e
      same_ends f same j =
          record {
            a = (ap (λ (p : Part). p.a) same ∙ i.ends.0) j;
            b = (ap (λ (p : Part). p.b) same ∙ i.ends.1) j;
          }

-- ---- the kind of a relay's winding, by the relay's sort

-- where no part of this kind carries the relay, this part does not
none-carries : (j r : ℕ) (ps : List Part) (p : Part) → count_of j r ps ≡ 0 → p ∈ ps
    → ¬ (carries j r p.kind ≡ true)
none-carries j r ps p no_part among on =
    omega (
      arith,
      no_part,
      windings_counted j r ps,
      member_counted (λ (q : Part). carries j r q.kind) ps p among on,
    )

carries_kind : (j r : ℕ) (k : Kind) → carries j r k ≡ true → k ≡ kind_of j r
unfolding carries
carries_kind j r k on =
    let both = both_true (eqb (kind_number k) j) (eqb (name_of k) r) on in
    sym (kind_of_parts k) ∙ ap₂ kind_of (eqb-true (kind_number k) j both.0) (eqb-true (name_of k) r both.1)

module _ (b : Board) (r : ℕ) where
  first-carries : (e : Winding) (i : ItsWinding b r First e)
      → (carries regular_kind r i.part.kind ≡ true) ⊎ (carries drawing_kind r i.part.kind ≡ true)
  first-carries e i =
      either_true (carries regular_kind r i.part.kind) (carries drawing_kind r i.part.kind) i.is_its_winding

  regular_kind_lem : IsRegular r (parts_of b) → (e : Winding) (i : ItsWinding b r First e) → i.part.kind ≡ Regular r
  unfolding kind_of
  regular_kind_lem regular e i =
      ⊎_elim (carries_kind regular_kind r i.part.kind)
      (λ on. absurd (none-carries drawing_kind r (parts_of b) i.part regular.1 i.on_board on))
      (first-carries e i)

  drawing_kind_lem : IsSteel r (parts_of b) → (e : Winding) (i : ItsWinding b r First e) → i.part.kind ≡ Drawing r
  unfolding kind_of
  drawing_kind_lem steel e i =
      ⊎_elim
      (λ on. absurd (none-carries regular_kind r (parts_of b) i.part steel.0 i.on_board on))
      (carries_kind drawing_kind r i.part.kind) (first-carries e i)

  dropping_kind_lem : (e : Winding) (i : ItsWinding b r Second e) → i.part.kind ≡ Dropping r
  unfolding kind_of
  dropping_kind_lem e i = carries_kind dropping_kind r i.part.kind i.is_its_winding

  -- a regular relay has one winding, a steel-core relay two
  pub regular-wound : IsRegular r (parts_of b) → RegularWound b r
  regular-wound regular =
      let most = sorted_most r (parts_of b) First (inl regular) in
      let there = counted_its b r First most (omega (arith, first_sum r (parts_of b), regular.0)) in
      record {
        winding = there.0;
        first = there.1;
        kind = regular_kind_lem regular there.0 there.1;
        no_second =
            λ e i. omega (arith, regular_second r (parts_of b) Second (refl, regular), its_counted b r Second e i);
      }

  pub steel-wound : IsSteel r (parts_of b) → SteelWound b r
  steel-wound steel =
      let most : (n : Which) → these n r (parts_of b) ≤ 1 = λ n. sorted_most r (parts_of b) n (inr steel) in
      let draws = counted_its b r First (most First) (omega (arith, first_sum r (parts_of b), steel.1)) in
      let drops = counted_its b r Second (most Second) (omega (arith, second_sum r (parts_of b), steel.2)) in
      record {
        drawing = draws.0;
        first = draws.1;
        first_kind = drawing_kind_lem steel draws.0 draws.1;
        dropping = drops.0;
        second = drops.1;
        second_kind = dropping_kind_lem drops.0 drops.1;
      }

-- ---- over the call

-- a finding by the chains is no refusal
finding_by_said : (t : List ℕ → Bool) (cs : List (List ℕ)) (w : ℕ) (v : Verdict) (f : Result Finding Refusal) (k p : ℕ)
    → FindingBy t cs w v f → ¬ (told_as verdict.told_finding f ≡ refused k p)
finding_by_said t cs w v (Ok said.Live) k p (live_by c within first is) says = refused_never k p verdict.live (sym says)
finding_by_said t cs w v (Ok said.Dead) k p (dead_by within first is) says = refused_never k p verdict.dead (sym says)
finding_by_said t cs w v (Ok said.Undecided) k p (undecided_by short is) says =
    refused_never k p verdict.undecided (sym says)
finding_by_said t cs w v (Err _) k p never says = elim never [ ]

-- what is judged is refused exactly as the call says
module _ (b : Board) (h : Kept) (r : ℕ) (n : Which) (w : ℕ) (v : Verdict) (told : Judges b h r n w v) where
  refused_said : (k p : ℕ) → winding_for b h r n ≡ refused k p → told_as verdict.told_finding v.finding ≡ refused k p
  refused_said k p off =
      ap (λ (j : verdict.Verdict). j.finding) (told ∙ sym (judging_by b h r n w (refused k p) off))

  said_refused : (k p : ℕ) → told_as verdict.told_finding v.finding ≡ refused k p → winding_for b h r n ≡ refused k p
  said_refused k p says = by_call (winding_for b h r n) refl
    where
      by_call : (o : Outcome Winding) → winding_for b h r n ≡ o → winding_for b h r n ≡ refused k p
      by_call (given e) taken =
          absurd (finding_by_said _ _ w v v.finding k p (verdict_finding b h r n w e v told taken) says)
      by_call (refused m q) off = let same = sym (refused_said m q off) ∙ says in cc

-- ---- the theorems

pub eleven_exactly : ElevenExactly
eleven_exactly b h r n w v told = (
  λ says.
      let last = winding_for_eleven b h r n (said_refused b h r n w v told no_such_winding 0 says) in
      let can = usable_can b h last.0 in
      (can, (missing_exactly b r n can.0).0 last.1),
  λ (can, line).
      refused_said b h r n w v told no_such_winding 0
      (winding_for_sought b h r n none (can-usable b h can) ((missing_exactly b r n can.0).1 line)),
)

pub the_winding : TheWinding
the_winding b h r n e = (
  λ accepted.
      let answer = winding_for_both b h r n e accepted in
      let can = usable_can b h answer.0 in
      (can, found_its b r n (fine_most b r n can.0) e answer.1),
  λ (can, i). winding_for_sought b h r n (some e) (can-usable b h can) (its-found b r n e i),
)

pub every_relay_wound : EveryRelayWound
every_relay_wound b r = (regular-wound b r, steel-wound b r)

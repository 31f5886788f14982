-- A stage that is reached by the numbers of the file is one that the reader comes to: it has found each number before
-- it. So what it comes to from there on is what it comes to at all: a refusal there is the refusal of the board, and
-- where no relay lacks a winding after the last part, the board is read.
--     behind ps o                what o gives, behind the parts ps
--     PartsSoFar e s c ps w at   the counts c and the parts ps were read, the parts give the windings and marks w, and
--                                the rest of the board is what is read from here on KindRead, FirstRead, EndsFound the
--                                kind of one more part, its first end, and both its ends, of which a mark has none
--     StageRead e s f at         what was read where stage f is reached
use Prim.Native.Nat.{ℕ, suc, ◌+◌, ◌<◌, ◌≤◌}
use native.Mathlib.Omega.{arith}
use mathlib.Core.Path.{◌≡◌, refl, sym, ap, subst, ◌∙◌}
use mathlib.Core.Bool.{true}
use mathlib.Core.List.{List, [], ◌∷◌, ◌++◌, append-nil, append_assoc}
use lib.Dec.{ltb}
use lib.ListN.{length, length-append}
use borrow.Author.Tests.{lt-ltb, ne_eqb}
use Rattle.refusals.specs.declared.Found.{Found}
use Rattle.refusals.specs.Outcomes.{Outcome, given, refused, found, ◌>>=◌, ◌>>◌, unless}
use Rattle.refusals.specs.Refusals.{out_of_range, no_such_kind, no_such_terminal, no_such_name, winding_lacking}
use Rattle.kinds.specs.Kinds.{wire_kind, button_kind, mark_kind, last_kind, kind_of}
use Rattle.windings.specs.declared.WoundSoFar.{WoundSoFar}
use Rattle.windings.specs.Windings.{none_wound, winding_free, unmarked, gained, wound, every, complete}
use Rattle.windings.proofs.EveryLaws.{below-every}
use Rattle.board.specs.declared.Counts.{Counts}
use Rattle.board.specs.declared.Part.{Part}
use Rattle.board.specs.Parts.{most_parts}
use Rattle.board.specs.Rules.{least_terminals, most_terminals, most_relays, most_buttons, in_range, terminal_fine}
use Rattle.board.specs.Rules.{limit_of}
use Rattle.board.specs.Rules.{gained_all}
use Rattle.board.specs.Sorts.{Wound}
use Rattle.board.proofs.RuleLaws.{gained_more}
use Rattle.board.proofs.TallyLaws.{Tallied, tallied_none, tallied-gained, wound_tallied}
use Rattle.board_reader.specs.Editions.{Edition}
use Rattle.board_reader.specs.Reading.{wanted, counts_at, name_at, ends_at, part_at, parts_at, board_of, board_from}
use Rattle.board_reader.specs.Reading.{board_at}
use Rattle.board_reader.proofs.EditionLaws.{Known}
use Rattle.board_reader.proofs.FieldLaws.{wanted_passes, wanted-found, wanted-below, range-within, range_bounds}
use Rattle.board_reader.proofs.FieldLaws.{name_wire, name-carried}
use Rattle.board_reader.proofs.CountsLaws.{count_at, count_most, counts_read}
use Rattle.board_reader.proofs.PartLaws.{ends_of-mark, ends_found, part-found}
use Rattle.file_means.specs.FileRefusals.{StandsAt, FileStage, at_T, at_R, at_B, at_C, at_part, at_first}
use Rattle.file_means.specs.FileRefusals.{at_second, at_name, Reached, start, T_fine, R_fine, B_fine, C_fine}
use Rattle.file_means.specs.FileRefusals.{kind_fine, mark_fine, first_fine, second_fine, wire_fine, button_fine}
use Rattle.file_means.specs.FileRefusals.{relay_fine}
use Rattle.file_means.proofs.GivesLaws.{Gives}
use Rattle.file_means.proofs.PartTrip.{PartIsFine, part_read}
use Rattle.file_means.proofs.TakenLaws.{untaken_free, untaken-unmarked}

pub relay_limit : (c : Counts) (k : ℕ) → ¬ (k ≡ button_kind) → limit_of c k ≡ c.relays
relay_limit c k relay = rw (ne_eqb k button_kind relay)

abbrev pub behind : List Part → Outcome (Found (List Part)) → Outcome (Found (List Part))
behind ps o = o >>= λ qs. found (ps ++ qs.value) qs.next

behind_none : (o : Outcome (Found (List Part))) → o ≡ behind [] o
behind_none (given qs) = refl
behind_none (refused n p) = refl

behind_more : (ps : List Part) (q : Part) (o : Outcome (Found (List Part)))
    → behind ps (o >>= λ qs. found (q ∷ qs.value) qs.next) ≡ behind (ps ++ (q ∷ [])) o
behind_more ps q (given qs) = ap (λ (l : List Part). found l qs.next) (sym (append_assoc ps (q ∷ []) qs.value))
behind_more ps q (refused n p) = refl

pub record PartsSoFar (e : Edition) (s : List ℕ) (c : Counts) (ps : List Part) (w : WoundSoFar) (at : ℕ) : Type 0 where
  pub few : c.relays ≤ most_relays
  pub so_far : (r : ℕ) → Tallied w ps r
  pub after : w ≡ gained_all none_wound ps
  pub whole : (m : ℕ) → c.parts ≡ length ps + m → board_at e s ≡ board_from c (behind ps (parts_at e c m w s at))

pub record KindRead (e : Edition) (s : List ℕ) (c : Counts) (ps : List Part) (w : WoundSoFar) (k at : ℕ) : Type 0 where
  pub part_place : ℕ
  pub before : PartsSoFar e s c ps w part_place
  pub one_more : length ps < c.parts
  pub kind_read : wanted e (in_range 0 e.last_kind) no_such_kind s part_place ≡ found k at

pub record FirstRead (e : Edition) (s : List ℕ) (c : Counts) (ps : List Part) (w : WoundSoFar)
    (k a at : ℕ) : Type 0 where
  pub a_at : ℕ
  pub before : KindRead e s c ps w k a_at
  pub joins : ¬ (k ≡ mark_kind)
  pub a_read : wanted e (terminal_fine c) no_such_terminal s a_at ≡ found a at

pub record EndsFound (e : Edition) (s : List ℕ) (c : Counts) (ps : List Part) (w : WoundSoFar)
    (k a b at : ℕ) : Type 0 where
  pub ends_place : ℕ
  pub before : KindRead e s c ps w k ends_place
  pub ends_come : ends_at e c k s ends_place ≡ found (a, b) at

abbrev pub StageRead : Edition → List ℕ → FileStage → ℕ → Type 0
StageRead e s at_T at = at ≡ 0
StageRead e s (at_R t) at = count_at e least_terminals most_terminals s 0 ≡ found t at
StageRead e s (at_B t r) at =
    (p : ℕ) × (count_at e least_terminals most_terminals s 0 ≡ found t p) × (count_at e 0 most_relays s p ≡ found r at)
StageRead e s (at_C t r b) at =
    (p : ℕ) × (q : ℕ) × (count_at e least_terminals most_terminals s 0 ≡ found t p)
    × (count_at e 0 most_relays s p ≡ found r q)
    × (count_at e 0 most_buttons s q ≡ found b at)
StageRead e s (at_part c ps) at = (w : WoundSoFar) × PartsSoFar e s c ps w at
StageRead e s (at_first c ps k) at = (w : WoundSoFar) × KindRead e s c ps w k at × ¬ (k ≡ mark_kind)
StageRead e s (at_second c ps k a) at = (w : WoundSoFar) × FirstRead e s c ps w k a at
StageRead e s (at_name c ps k a b) at = (w : WoundSoFar) × EndsFound e s c ps w k a b at

module _ (e : Edition) (known : Known e) (s : List ℕ) where
  -- ---- the counts

  count-found : (low high at v next : ℕ) → StandsAt e s at v next → low ≤ v → v ≤ high
      → count_at e low high s at ≡ found v next
  count-found low high at v next stands least most =
      wanted_passes e (in_range low high) out_of_range s at v next stands (range-within low high v least most)

  counts-onward : (c : Counts) (at : ℕ) → c.relays ≤ most_relays → found c at ≡ counts_at e s
      → PartsSoFar e s c [] none_wound at
  unfolding board_at board_from gained_all
  counts-onward c at few read =
      record {
        few = few;
        so_far = tallied_none;
        after = refl;
        whole = λ m all.
            (let left : c.parts ≡ m = omega (arith, all) in
            let parts =
            ap (λ (i : ℕ). parts_at e c i none_wound s at) left ∙ behind_none (parts_at e c m none_wound s at) in
            rw (← read, parts));
      }

  -- ---- one more part

  part-onward : (c : Counts) (ps : List Part) (w : WoundSoFar) (at : ℕ) (q : Part) (next : ℕ) → PartsSoFar e s c ps w at
      → found q next ≡ part_at e c w s at → PartsSoFar e s c (ps ++ (q ∷ [])) (gained w q.kind) next
  unfolding parts_at
  part-onward c ps w at q next x read =
      let fine : PartIsFine e c w s at (record { value = q; next = next }) =
      subst (λ (o : Outcome (Found Part)). Gives (PartIsFine e c w s at) o) (sym read) (part_read e known c w s at) in
      record {
        few = x.few;
        so_far = λ r. tallied-gained c x.few w ps q r fine.fine (x.so_far r);
        after = ap (λ (v : WoundSoFar). gained v q.kind) x.after ∙ sym (gained_more none_wound ps q);
        whole = λ m all.
            (let parts : behind ps (parts_at e c (suc m) w s at) ≡ behind (ps ++ (q ∷ []))
            (parts_at e c m (gained w q.kind) s next) =
            rw (← read) (behind_more ps q (parts_at e c m (gained w q.kind) s next)) in
            x.whole (suc m) (omega (arith, all, length-append ps (q ∷ []))) ∙ ap (board_from c) parts);
      }

  module _ (c : Counts) (ps : List Part) (w : WoundSoFar) (k a b at : ℕ) (x : EndsFound e s c ps w k a b at) where
    named-onward : (v next : ℕ) → name_at e c k s at ≡ found v next → winding_free w (kind_of k v) ≡ true
        → unmarked w (kind_of k v) ≡ true
        → PartsSoFar e s c (ps ++ (record { a = a; b = b; kind = kind_of k v } ∷ [])) (gained w (kind_of k v)) next
    named-onward v next named free once =
        let z = x.before in
        part-onward c ps w z.part_place (record { a = a; b = b; kind = kind_of k v }) next z.before
        (part-found e c w s z.part_place k x.ends_place z.kind_read (a, b) at x.ends_come v next named free once)

    kind_most : k ≤ last_kind
    kind_most =
        let z = x.before in
        let fine = (wanted-found e (in_range 0 e.last_kind) no_such_kind s z.part_place k _ z.kind_read).0 in
        omega (arith, (range_bounds 0 e.last_kind k fine).1, known)

  -- a relay or button below its limit
  pub name-found : (c : Counts) (k at limit v next : ℕ) → ¬ (k ≡ wire_kind) → limit_of c k ≡ limit
      → StandsAt e s at v next
      → v < limit → name_at e c k s at ≡ found v next
  name-found c k at limit v next carries same stands below =
      sym (name-carried e c k s at carries) ∙ wanted-below e no_such_name s at (limit_of c k) limit same
      ∙ wanted_passes e (λ n. ltb n limit) no_such_name s at v next stands (lt-ltb v limit below)

  -- ---- every stage

  kind-onward : (c : Counts) (ps : List Part) (w : WoundSoFar) (k at next : ℕ) → PartsSoFar e s c ps w at
      → length ps < c.parts → StandsAt e s at k next → k ≤ e.last_kind → KindRead e s c ps w k next
  kind-onward c ps w k at next before more stands most =
      record {
        part_place = at;
        before = before;
        one_more = more;
        kind_read = wanted_passes e (in_range 0 e.last_kind) no_such_kind s at k next stands
            (range-within 0 e.last_kind k (omega arith) most);
      }

  pub reached_read : (f : FileStage) (at : ℕ) → Reached e s f at → StageRead e s f at
  unfolding kind_of
  reached_read f at start = refl
  reached_read f at (T_fine {t} {p} x stands least most) =
      let here : p ≡ 0 = reached_read at_T p x in
      count-found least_terminals most_terminals 0 t at (rw here at stands) least most
  reached_read f at (R_fine {t} {r} {p} x stands most) =
      (p, reached_read (at_R t) p x, count-found 0 most_relays p r at stands (omega arith) most)
  reached_read f at (B_fine {t} {r} {b} {p} x stands most) =
      let before = reached_read (at_B t r) p x in
      (before.0, p, before.1, before.2, count-found 0 most_buttons p b at stands (omega arith) most)
  reached_read f at (C_fine {t} {r} {b} {c} {p} x stands most) =
      let before = reached_read (at_C t r b) p x in
      let counts : Counts = record { terminals = t; relays = r; buttons = b; parts = c } in
      let few = count_most e 0 most_relays s before.0 r before.1 before.3 in (
        none_wound,
        counts-onward counts at few
            (counts_read e s t before.0 r before.1 b p c at before.2 before.3 before.4
            (count-found 0 most_parts p c at stands (omega arith) most)),
      )
  reached_read f at (kind_fine {c} {ps} {k} {p} x more stands most joins) =
      let before = reached_read (at_part c ps) p x in
      (before.0, kind-onward c ps before.0 k p at before.1 more stands most, joins)
  reached_read f at (mark_fine {c} {ps} {p} x more stands known-mark) =
      let before = reached_read (at_part c ps) p x in (
        before.0,
        record {
          ends_place = at;
          before = kind-onward c ps before.0 mark_kind p at before.1 more stands known-mark;
          ends_come = sym (ends_of-mark e c mark_kind s at refl);
        },
      )
  reached_read f at (first_fine {c} {ps} {k} {a} {p} x stands below) =
      let before = reached_read (at_first c ps k) p x in (
        before.0,
        record {
          a_at = p;
          before = before.1;
          joins = before.2;
          a_read = wanted_passes e (terminal_fine c) no_such_terminal s p a at stands (lt-ltb a c.terminals below);
        },
      )
  reached_read f at (second_fine {c} {ps} {k} {a} {b} {p} x stands below apart) =
      let before = reached_read (at_second c ps k a) p x in
      let y = before.1 in (
        before.0,
        record {
          ends_place = y.a_at;
          before = y.before;
          ends_come =
              sym (ends_found e c k s y.a_at y.joins a p y.a_read b at
              (wanted_passes e (terminal_fine c) no_such_terminal s p b at stands (lt-ltb b c.terminals below)) apart);
        },
      )
  reached_read f at (wire_fine {c} {ps} {a} {b} x) =
      let before = reached_read (at_name c ps 0 a b) at x in
      let w = before.0 in
      (w, named-onward c ps w 0 a b at before.1 0 at (sym (name_wire e c 0 s at refl)) refl refl)
  reached_read f at (button_fine {c} {ps} {a} {b} {v} {p} x stands below) =
      let before = reached_read (at_name c ps button_kind a b) p x in
      let w = before.0 in
      let named = name-found c button_kind p c.buttons v at (λ e. omega (arith, e)) refl stands below in
      (w, named-onward c ps w button_kind a b p before.1 v at named refl refl)
  reached_read f at (relay_fine {c} {ps} {k} {a} {b} {v} {p} x carries relay stands below untaken once) =
      let before = reached_read (at_name c ps k a b) p x in
      let w = before.0 in
      let named = name-found c k p c.relays v at carries (relay_limit c k relay) stands below in
      let most = kind_most c ps w k a b p before.1 in
      let so_far = before.1.before.before.so_far v in (
        gained w (kind_of k v),
        named-onward c ps w k a b p before.1 v at named
            (untaken_free w ps v so_far k most untaken) (untaken-unmarked w ps v so_far k most once),
      )

  -- ---- what follows

  pub rest_refused : (c : Counts) (ps : List Part) (w : WoundSoFar) (at m n p : ℕ) → PartsSoFar e s c ps w at
      → c.parts ≡ length ps + m → parts_at e c m w s at ≡ refused n p → board_at e s ≡ refused n p
  unfolding board_from
  rest_refused c ps w at m n p x all stops = x.whole m all ∙ rw stops

  -- after the last part 9 is asked
  pub last-part : (c : Counts) (ps : List Part) (w : WoundSoFar) (at : ℕ) → PartsSoFar e s c ps w at
      → length ps ≡ c.parts
      → board_at e s ≡ (unless (complete c.relays w) winding_lacking at >> found (board_of c ps) at)
  unfolding board_from parts_at
  last-part c ps w at x all = x.whole 0 (omega (arith, all)) ∙ rw (append-nil ps, ← x.after)

  pub reached-board : (c : Counts) (ps : List Part) (at : ℕ) → Reached e s (at_part c ps) at → length ps ≡ c.parts
      → Wound c.relays ps → board_at e s ≡ found (board_of c ps) at
  unfolding complete
  reached-board c ps at here all wounds =
      let read = reached_read (at_part c ps) at here in
      let w = read.0 in
      let x = read.1 in
      let full : every c.relays (wound w) ≡ true =
      below-every (wound w) c.relays (λ r below. wound_tallied w ps r (x.so_far r) (wounds r below)) in
      last-part c ps w at x all ∙ rw full

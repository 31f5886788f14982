-- The round trip of one part: its bytes read back to it, and a part that was read breaks no rule of 5 to 8 and 17 and
-- stands there by its bytes.
--     ends_read k a b   what the ends a and b of a part of kind number k are read back as: those of a mark are not
--                       written
--     as_read p         what the part p is read back as
use Prim.Native.Nat.{ℕ, ◌+◌, ◌≤◌, ◌<◌}
use native.Mathlib.Omega.{arith}
use mathlib.Core.Path.{◌≡◌, refl, sym, ap, ◌∙◌}
use mathlib.Core.Bool.{Bool, true, false, cond, ◌||◌}
use mathlib.Core.List.{List, [], ◌∷◌, ◌++◌, append-nil, append_assoc}
use lib.Dec.{ltb, eqb}
use lib.ListN.{length}
use borrow.Author.Tests.{ltb-true, lt-ltb, eqb-true, eqb-false}
use Rattle.refusals.specs.declared.Found.{Found}
use Rattle.refusals.specs.Outcomes.{given, found}
use Rattle.refusals.specs.Refusals.{no_such_kind, no_such_terminal, ends_equal, no_such_name, winding_taken}
use Rattle.refusals.specs.Refusals.{marked_twice}
use Rattle.number.specs.Numbers.{number_at, number_bytes}
use Rattle.kinds.specs.declared.Kind.{Kind}
use Rattle.windings.specs.declared.WoundSoFar.{WoundSoFar}
use Rattle.kinds.specs.Kinds.{wire_kind, mark_kind, kind_number, name_of, kind_of, fields, last_kind}
use Rattle.kinds.specs.declared.Kind.TheVariants.{Wire, Upper, Lower, Button, Regular, Drawing, Dropping, Mark}
use Rattle.windings.specs.Windings.{winding_free, unmarked}
use Rattle.board.specs.declared.Part.{Part}
use Rattle.board.specs.declared.Counts.{Counts}
use Rattle.board.specs.Rules.{in_range, terminal_fine, ends_fine, limit_of, name_fine, ends_fit, part_fits}
use Rattle.board.specs.Rules.{part_fine}
use Rattle.board.specs.SameExactly.{compared}
use Rattle.bits.proofs.BoolLaws.{true_both, by_test}
use Rattle.kinds.proofs.KindLaws.{kind_of_parts, kind_number_of, kind_name_of, kind_of_wire, kind_number_most}
use Rattle.kinds.proofs.KindLaws.{end_fields, name_fields, fields_are}
use Rattle.board.proofs.RuleLaws.{InRange}
use Rattle.board.proofs.WindingLaws.{part_splits, part_named}
use Rattle.board.proofs.BreaksNoRule.{part_fits_lem}
use Rattle.board_reader.specs.Editions.{Edition, current_edition}
use Rattle.board_reader.specs.Reading.{wanted, name_at, no_ends, ends_at, part_at}
use Rattle.board_reader.proofs.EditionLaws.{Known}
use Rattle.board_reader.proofs.FieldLaws.{range-within, range_bounds}
use Rattle.board_reader.proofs.PartLaws.{ends_of-mark, ends_found, part_as, part-found}
use Rattle.board_writer.specs.File.{row_bytes, numbers_bytes, part_bytes}
use Rattle.board_writer.proofs.FileLaws.{limit_most}
use Rattle.file_means.proofs.StandLaws.{StandsTo, stands_none, stands-append, stands_first, stands_second}
use Rattle.file_means.proofs.StandLaws.{AsWritten, wanted-reads}
use Rattle.file_means.proofs.GivesLaws.{Gives, gives_then, gives-unless, wanted_gives, wanted_then}

-- ---- what a part is read back as

abbrev pub ends_read : ℕ → ℕ → ℕ → ℕ × ℕ
ends_read k a b = cond (eqb k mark_kind) no_ends (a, b)

abbrev pub as_read : Part → Part
as_read p =
    let ends = ends_read (kind_number p.kind) p.a p.b in record { a = ends.0; b = ends.1; kind = p.kind }

fields_as_read : (k : Kind) (a b : ℕ) → let ends = ends_read (kind_number k) a b in
    fields k ends.0 ends.1 ≡ fields k a b
fields_as_read Wire a b = refl
fields_as_read (Upper r) a b = refl
fields_as_read (Lower r) a b = refl
fields_as_read (Button n) a b = refl
fields_as_read (Regular r) a b = refl
fields_as_read (Drawing r) a b = refl
fields_as_read (Dropping r) a b = refl
fields_as_read (Mark r) a b = refl

-- it is compared by the same
pub compared_as_read : (p : Part) → compared (as_read p) ≡ compared p
compared_as_read p = ap (λ (vs : List ℕ). (p.kind, vs)) (fields_as_read p.kind p.a p.b)

-- ---- the bytes of a part: its kind, both ends, if it has any, and the relay or button that its kind carries, if any

unfoldable ends_bytes : ℕ → ℕ → ℕ → List ℕ
ends_bytes k a b = numbers_bytes (end_fields k a b)

unfoldable name_bytes : Kind → List ℕ
name_bytes k = numbers_bytes (name_fields k)

numbers-append : (vs ws : List ℕ) → numbers_bytes (vs ++ ws) ≡ numbers_bytes vs ++ numbers_bytes ws
unfolding row_bytes
numbers-append [] ws = refl
numbers-append (v ∷ vs) ws =
    ap (λ (l : List ℕ). number_bytes v ++ l) (numbers-append vs ws)
    ∙ sym (append_assoc (number_bytes v) (numbers_bytes vs) (numbers_bytes ws))

part_bytes_lem : (p : Part)
    → part_bytes p ≡ number_bytes (kind_number p.kind)
    ++ (ends_bytes (kind_number p.kind) p.a p.b ++ name_bytes p.kind)
unfolding part_bytes ends_bytes name_bytes row_bytes
part_bytes_lem p =
    ap (λ (vs : List ℕ). number_bytes (kind_number p.kind) ++ numbers_bytes vs) (fields_are p.kind p.a p.b)
    ∙ ap (λ (l : List ℕ). number_bytes (kind_number p.kind) ++ l)
    (numbers-append (end_fields (kind_number p.kind) p.a p.b) (name_fields p.kind))

-- two ends, one after the other
both_ends : (a b : ℕ) → numbers_bytes (a ∷ b ∷ []) ≡ number_bytes a ++ number_bytes b
unfolding row_bytes
both_ends a b = ap (λ (l : List ℕ). number_bytes a ++ l) (append-nil (number_bytes b))

-- a wire carries no name, which is told as 0
wire_name : (k : Kind) → kind_number k ≡ wire_kind → 0 ≡ name_of k
wire_name k wire =
    ap name_of (sym (kind_of_wire (name_of k)) ∙ ap (λ (n : ℕ). kind_of n (name_of k)) (sym wire) ∙ kind_of_parts k)

-- a name's bytes read back
name-reads : (c : Counts) (k : Kind) (s : List ℕ) (at next : ℕ) → InRange c → name_fine c k ≡ true
    → StandsTo s at next (name_bytes k) → name_at current_edition c (kind_number k) s at ≡ found (name_of k) next
unfolding name_at name_fine name_bytes row_bytes
name-reads c k s at next range = by (eqb (kind_number k) wire_kind) refl
  where
    limit : ℕ
    limit = limit_of c (kind_number k)

    by : (t : Bool) → eqb (kind_number k) wire_kind ≡ t → (t || ltb (name_of k) limit) ≡ true
        → StandsTo s at next (numbers_bytes (cond t [] (name_of k ∷ [])))
        → cond t (found 0 at) (wanted current_edition (λ v. ltb v limit) no_such_name s at) ≡ found (name_of k) next
    by true wire fine here =
        let same : at ≡ next = omega (arith, here.ends) in
        λ i. found (wire_name k (eqb-true (kind_number k) wire_kind wire) i) (same i)
    by false some below here =
        wanted-reads (λ v. ltb v limit) no_such_name s at next (name_of k)
        (omega (arith, ltb-true (name_of k) limit below, limit_most c (kind_number k) range)) below
        (rw (append-nil (number_bytes (name_of k))) at here)

-- and so do the ends'
terminal-reads : (c : Counts) (s : List ℕ) (at next v : ℕ) → InRange c → v < c.terminals
    → StandsTo s at next (number_bytes v)
    → wanted current_edition (terminal_fine c) no_such_terminal s at ≡ found v next
terminal-reads c s at next v range below =
    wanted-reads (terminal_fine c) no_such_terminal s at next v
    (omega (arith, below, range.terminals_few)) (lt-ltb v c.terminals below)

ends-reads : (c : Counts) (k a b : ℕ) (s : List ℕ) (at next : ℕ) → InRange c
    → (¬ (k ≡ mark_kind) → (a < c.terminals) × (b < c.terminals) × ¬ (a ≡ b))
    → StandsTo s at next (ends_bytes k a b) → ends_at current_edition c k s at ≡ found (ends_read k a b) next
unfolding ends_bytes row_bytes
ends-reads c k a b s at next range fit = by (eqb k mark_kind) refl
  where
    by : (t : Bool) → eqb k mark_kind ≡ t → StandsTo s at next (numbers_bytes (cond t [] (a ∷ b ∷ [])))
        → ends_at current_edition c k s at ≡ found (cond t no_ends (a, b)) next
    by true mark here =
        let same : at ≡ next = omega (arith, here.ends) in
        sym (ends_of-mark current_edition c k s at (eqb-true k mark_kind mark)) ∙ ap (found no_ends) same
    by false joins here =
        let apart = eqb-false k mark_kind joins in
        let fits = fit apart in
        let there = rw (both_ends a b) at here in
        let ab = at + length (number_bytes a) in
        sym (ends_found current_edition c k s at apart a ab
        (terminal-reads c s at ab a range fits.0 (stands_first s at next (number_bytes a) (number_bytes b) there))
        b next
        (terminal-reads c s ab next b range fits.1 (stands_second s at next (number_bytes a) (number_bytes b) there))
        fits.2)

pub part-reads : (c : Counts) (w : WoundSoFar) (p : Part) (s : List ℕ) (at next : ℕ) → InRange c
    → part_fine c w p ≡ true → StandsTo s at next (part_bytes p)
    → part_at current_edition c w s at ≡ found (as_read p) next
part-reads c w p s at next range fine stands =
    let here = rw (part_bytes_lem p) at stands in
    let part = part_splits c w p fine in
    let fits = part_fits_lem c p part.0 in
    let k = kind_number p.kind in
    let ka = at + length (number_bytes k) in
    let ends = ends_bytes k p.a p.b in
    let bn = ka + length ends in
    let after-ends = name_bytes p.kind in
    let from-ends = stands_second s at next (number_bytes k) (ends ++ after-ends) here in
    let most : k ≤ last_kind = kind_number_most p.kind in
    let kinds =
    wanted-reads (in_range 0 current_edition.last_kind) no_such_kind s at ka k (omega arith)
    (range-within 0 current_edition.last_kind k (omega arith) most)
    (stands_first s at next (number_bytes k) (ends ++ after-ends) here) in
    let as-ends =
    ends-reads c k p.a p.b s ka bn range
    (λ joins. let ends-fit = fits.ends joins in (ends-fit.a_below, ends-fit.b_below, ends-fit.ends_differ))
    (stands_first s ka next ends after-ends from-ends) in
    let names =
    name-reads c p.kind s bn next range (part_named c p part.0)
    (stands_second s ka next ends after-ends from-ends) in
    let same = kind_of_parts p.kind in
    sym (part-found current_edition c w s at k ka kinds (ends_read k p.a p.b) bn as-ends (name_of p.kind) next
    names (ap (winding_free w) same ∙ part.1) (ap (unmarked w) same ∙ part.2))
    ∙ part_as _ _ next refl refl same

-- a name that was read is below its limit and stands there by its bytes; a wire carries none
record NameRead (e : Edition) (c : Counts) (k : ℕ) (s : List ℕ) (at : ℕ) (n : Found ℕ) : Type 0 where
  fine : name_fine c (kind_of k n.value) ≡ true
  stands : AsWritten e s → StandsTo s at n.next (name_bytes (kind_of k n.value))

name_read : (e : Edition) (c : Counts) (k : ℕ) (s : List ℕ) (at : ℕ) → k ≤ last_kind
    → Gives (NameRead e c k s at) (name_at e c k s at)
unfolding name_at name_fine name_bytes row_bytes
name_read e c k s at most = by (eqb k wire_kind) refl
  where
    by : (t : Bool) → eqb k wire_kind ≡ t → Gives (NameRead e c k s at)
        (cond t (found 0 at) (wanted e (λ n. ltb n (limit_of c k)) no_such_name s at))
    by true wire =
        record {
          fine = rw (kind_number_of k 0 most, wire) refl;
          stands =
              λ written. rw (kind_number_of k 0 most, wire) (stands_none s at);
        }
    by false some =
        wanted_gives (NameRead e c k s at) e (λ n. ltb n (limit_of c k)) no_such_name s at (λ n read below.
        let number = kind_number_of k n.value most in
        let name = kind_name_of k n.value (let carried = eqb-false k wire_kind some in omega (arith, carried)) most in
        record {
          fine = rw (number, some, name) below;
          stands = λ written. rw (number, some, name, append-nil (number_bytes n.value)) (written at n read);
        })

-- ends that were read are below T and differ, and stand there by their bytes; a mark has none
record EndsWereRead (e : Edition) (c : Counts) (k : ℕ) (s : List ℕ) (at : ℕ) (ab : Found (ℕ × ℕ)) : Type 0 where
  fine : (kind : Kind) → kind_number kind ≡ k
      → ends_fit c (record { a = ab.value.0; b = ab.value.1; kind = kind }) ≡ true
  stands : AsWritten e s → StandsTo s at ab.next (ends_bytes k ab.value.0 ab.value.1)

-- the ends of a mark, and those of another part
mark_read : (e : Edition) (c : Counts) (k : ℕ) (s : List ℕ) (at : ℕ) → eqb k mark_kind ≡ true
    → EndsWereRead e c k s at (record { value = no_ends; next = at })
unfolding ends_fit ends_bytes row_bytes
mark_read e c k s at mark =
    record { fine = λ kind is. rw (is, mark) refl; stands = λ written. rw mark (stands_none s at) }

both_read : (e : Edition) (c : Counts) (k : ℕ) (s : List ℕ) (at : ℕ) (a b : Found ℕ) → eqb k mark_kind ≡ false
    → number_at e.width s at ≡ given a → terminal_fine c a.value ≡ true → number_at e.width s a.next ≡ given b
    → terminal_fine c b.value ≡ true → ends_fine a.value b.value ≡ true
    → EndsWereRead e c k s at (record { value = (a.value, b.value); next = b.next })
unfolding ends_fit ends_bytes
both_read e c k s at a b joins a_read a_below b-read b_below apart =
    record {
      fine = λ kind is. rw (is, joins) (true_both (true_both a_below b_below) apart);
      stands = λ written. rw (joins, both_ends a.value b.value)
          (stands-append s at a.next b.next _ _ (written at a a_read) (written a.next b b-read));
    }

ends_read_lem : (e : Edition) (c : Counts) (k : ℕ) (s : List ℕ) (at : ℕ)
    → Gives (EndsWereRead e c k s at) (ends_at e c k s at)
unfolding ends_at
ends_read_lem e c k s at =
    by_test (eqb k mark_kind)
    (λ mark. rw mark (mark_read e c k s at mark))
    (λ joins. rw joins
    (wanted_then _ e (terminal_fine c) no_such_terminal s at _ (λ a a_read a_below.
    wanted_then _ e (terminal_fine c) no_such_terminal s a.next _ (λ b b-read b_below.
    gives-unless _ (ends_fine a.value b.value) ends_equal a.next _
    (both_read e c k s at a b joins a_read a_below b-read b_below)))))

-- a part that was read breaks no rule of 5 to 8 and 17 and stands there by its bytes
pub record PartIsFine (e : Edition) (c : Counts) (w : WoundSoFar) (s : List ℕ) (at : ℕ) (p : Found Part) : Type 0 where
  pub fine : part_fine c w p.value ≡ true
  pub stands : AsWritten e s → StandsTo s at p.next (part_bytes p.value)

pub part_read : (e : Edition) → Known e → (c : Counts) (w : WoundSoFar) (s : List ℕ) (at : ℕ)
    → Gives (PartIsFine e c w s at) (part_at e c w s at)
unfolding part_at part_fine part_fits
part_read e known c w s at =
    wanted_then _ e (in_range 0 e.last_kind) no_such_kind s at _ (λ k k-read kind.
    gives_then (EndsWereRead e c k.value s k.next) _ (ends_at e c k.value s k.next) _
    (ends_read_lem e c k.value s k.next) (λ ab ends.
    let most : k.value ≤ last_kind = omega (arith, (range_bounds 0 e.last_kind k.value kind).1, known) in
    gives_then (NameRead e c k.value s ab.next) _ (name_at e c k.value s ab.next) _
    (name_read e c k.value s ab.next most) (λ n name.
    gives-unless _ (winding_free w (kind_of k.value n.value)) winding_taken ab.next _ (λ free.
    gives-unless _ (unmarked w (kind_of k.value n.value)) marked_twice ab.next _ (λ once.
    let number = kind_number_of k.value n.value most in
    let part : Part = record { a = ab.value.0; b = ab.value.1; kind = kind_of k.value n.value } in
    record {
      fine = true_both (true_both (true_both (ends.fine part.kind number) name.fine) free) once;
      stands = λ written.
          rw (part_bytes_lem part, number)
          (stands-append s at k.next n.next _ _ (written at k k-read)
          (stands-append s k.next ab.next n.next _ _ (ends.stands written) (name.stands written)));
    })))))

-- A read to the table: whatever the reader of a board is refused by, that line of the table holds there and none before
-- it; and what it gives is reached by the numbers that stand in the file.
use Prim.Native.Nat.{ℕ, zero, suc, ◌+◌, ◌<◌, ◌≤◌}
use native.Mathlib.Omega.{arith}
use mathlib.Core.Path.{◌≡◌, sym, subst, ◌∙◌}
use mathlib.Core.Logic.{◌⊎◌, inl, inr}
use mathlib.Core.Bool.{Bool, true, false, false≢true}
use mathlib.Core.List.{List, [], ◌∷◌, ◌++◌, append-nil, append_assoc}
use lib.Dec.{ltb, eqb}
use lib.ListN.{length, length-append}
use borrow.Author.Tests.{ltb-true, ltb-false, le-leb, leb-false, eqb-true, eqb-false, eq-eqb, ne_eqb, not-false}
use borrow.Author.Tests.{not-true}
use Rattle.bits.proofs.BoolLaws.{by_test, by_less}
use Rattle.refusals.specs.declared.Found.{Found}
use Rattle.refusals.specs.Outcomes.{Outcome, given, refused, found, ◌>>=◌, ◌>>◌, unless}
use Rattle.refusals.specs.Refusals.{input_ends, bad_form, out_of_range, no_such_kind, no_such_terminal, ends_equal}
use Rattle.refusals.specs.Refusals.{no_such_name}
use Rattle.refusals.specs.Refusals.{winding_taken, winding_lacking, marked_twice}
use Rattle.number.specs.Numbers.{number_at}
use Rattle.number.proofs.NumberLaws.{number_refusal}
use Rattle.kinds.specs.Kinds.{wire_kind, button_kind, mark_kind, last_kind, kind_of}
use Rattle.windings.specs.declared.WoundSoFar.{WoundSoFar}
use Rattle.windings.specs.Windings.{none_wound, winding_free, unmarked, gained, wound, every, complete}
use Rattle.windings.proofs.EveryLaws.{every-below, every_lacks}
use Rattle.board.specs.declared.Counts.{Counts}
use Rattle.board.specs.declared.Part.{Part}
use Rattle.board.specs.Parts.{most_parts, parts_of}
use Rattle.board.specs.Rules.{least_terminals, most_terminals, most_relays, most_buttons, in_range, terminal_fine}
use Rattle.board.specs.Rules.{ends_fine}
use Rattle.board.specs.Rules.{gained_all, start_of}
use Rattle.board.specs.Sorts.{IsRegular, IsSteel, Wound}
use Rattle.board.proofs.PaddedLaws.{padded_parts}
use Rattle.board.proofs.TallyLaws.{Tallied, tallied_none, tallied-gained, tallied-wound, wound_tallied}
use Rattle.board_reader.specs.Editions.{Edition}
use Rattle.board_reader.specs.Reading.{wanted, counts_at, name_at, ends_at, part_at, parts_at, board_of, board_from}
use Rattle.board_reader.specs.Reading.{board_at}
use Rattle.board_reader.proofs.EditionLaws.{Known}
use Rattle.board_reader.proofs.FieldLaws.{range_bounds}
use Rattle.board_reader.proofs.CountsLaws.{count_most, counts-found}
use Rattle.file_means.specs.FileRefusals.{StandsAt, FileStage, at_T, at_R, at_B, at_C, at_part, at_first}
use Rattle.file_means.specs.FileRefusals.{at_second, at_name, NumberWanted, Reached, start, T_fine, R_fine}
use Rattle.file_means.specs.FileRefusals.{B_fine, C_fine, kind_fine, mark_fine, first_fine, second_fine}
use Rattle.file_means.specs.FileRefusals.{wire_fine, button_fine, relay_fine, NumberStands, LineHolds, line1}
use Rattle.file_means.specs.FileRefusals.{line2, line3_T, line3_R, line3_B, line3_C, line4, line5_first}
use Rattle.file_means.specs.FileRefusals.{line5_second, line6, line7_button, line7_relay, line8, line9}
use Rattle.file_means.specs.FileRefusals.{line17}
use Rattle.file_means.proofs.GivesLaws.{Gives}
use Rattle.file_means.proofs.PartTrip.{PartIsFine, part_read}
use Rattle.file_means.proofs.TakenLaws.{taken_barred, barred_taken, marked_barred, barred-marked}
use Rattle.file_means.proofs.LeadsLaws.{Leads, leads_each, leads_then, leads-unless}

-- a board of counts c and parts ps is reached up to a place, and no relay of it lacks a winding
pub record BoardReached (e : Edition) (s : List ℕ) (c : Counts) (ps : List Part) (at : ℕ) : Type 0 where
  pub reached : Reached e s (at_part c ps) at
  pub counted : length ps ≡ c.parts
  pub all_wound : Wound c.relays ps

-- parts ps that give the windings and marks w are reached up to a place, and they are C
record RowReached (e : Edition) (s : List ℕ) (c : Counts) (w : WoundSoFar) (ps : List Part) (at : ℕ) : Type 0 where
  reached : Reached e s (at_part c ps) at
  counted : length ps ≡ c.parts
  so_far : (r : ℕ) → Tallied w ps r

range_over : (high v : ℕ) → in_range 0 high v ≡ false → high < v
unfolding in_range
range_over high v off = leb-false v high (rw (le-leb 0 v (omega arith)) at off)

range_outside : (low high v : ℕ) → in_range low high v ≡ false → (v < low) ⊎ (high < v)
unfolding in_range
range_outside low high v off =
    by_less v low inl (λ least. inr (leb-false v high (rw (le-leb low v least) at off)))

module _ (e : Edition) (known : Known e) (s : List ℕ) where
  -- ---- 1 and 2, the form of a wanted number, and then the line of its test

  module _ (f : FileStage) (at : ℕ) (here : Reached e s f at) (asked : NumberWanted f) where
    form_holds : (n p : ℕ) → number_at e.width s at ≡ refused n p
        → ((n ≡ input_ends) × (p ≡ length s)) ⊎ ((n ≡ bad_form) × (p ≡ at)) → LineHolds e s n p
    form_holds n p stops (inl (one, end)) = rw (one, end) (line1 here asked (rw (one, end) at stops))
    form_holds n p stops (inr (two, place)) = rw (two, place) (line2 here asked (rw (two, place) at stops))

    wanted_leads : (ok : ℕ → Bool) (n : ℕ) → ((v : ℕ) → NumberStands e s f at v → ok v ≡ false → LineHolds e s n at)
        → Leads (LineHolds e s) (λ v. StandsAt e s at v.value v.next × (ok v.value ≡ true))
        (wanted e ok n s at)
    unfolding wanted
    wanted_leads ok n fails =
        leads_then (LineHolds e s) (λ v. number_at e.width s at ≡ given v) _ (number_at e.width s at) _
        (leads_each (LineHolds e s) _ (number_at e.width s at)
        (λ m p stops. form_holds m p stops (number_refusal e.width s at m p stops)) (λ v read. read))
        (λ v read _. leads-unless (LineHolds e s) _ (ok v.value) n at (given v)
        (fails v.value (here, asked, v.next, read)) (λ fine. (read, fine)))

    field_leads : {B : Type 0} (Q : B → Type 0) (ok : ℕ → Bool) (n : ℕ) (g : Found ℕ → Outcome B)
        → ((v : ℕ) → NumberStands e s f at v → ok v ≡ false → LineHolds e s n at)
        → ((v : Found ℕ) → StandsAt e s at v.value v.next → ok v.value ≡ true → Leads (LineHolds e s) Q (g v))
        → Leads (LineHolds e s) Q (wanted e ok n s at >>= g)
    field_leads Q ok n g fails later =
        leads_then (LineHolds e s) _ Q (wanted e ok n s at) g (wanted_leads ok n fails)
        (λ v _ so. later v so.0 so.1)

  -- ---- 3, the counts

  counts_lead : Leads (LineHolds e s) (λ c. Reached e s (at_part c.value []) c.next) (counts_at e s)
  unfolding counts_at
  counts_lead =
      field_leads at_T 0 start tt _ (in_range least_terminals most_terminals) out_of_range _
      (λ v comes off. line3_T comes (range_outside least_terminals most_terminals v off)) (λ t t-stands t-fine.
      let t-range = range_bounds least_terminals most_terminals t.value t-fine in
      let r-at = T_fine start t-stands t-range.0 t-range.1 in
      field_leads (at_R t.value) t.next r-at tt _ (in_range 0 most_relays) out_of_range _
      (λ v comes off. line3_R comes (range_over most_relays v off)) (λ r r-stands r-fine.
      let b_at = R_fine r-at r-stands (range_bounds 0 most_relays r.value r-fine).1 in
      field_leads (at_B t.value r.value) r.next b_at tt _ (in_range 0 most_buttons) out_of_range _
      (λ v comes off. line3_B comes (range_over most_buttons v off)) (λ b b-stands b-fine.
      let c-at = B_fine b_at b-stands (range_bounds 0 most_buttons b.value b-fine).1 in
      field_leads (at_C t.value r.value b.value) b.next c-at tt _ (in_range 0 most_parts) out_of_range _
      (λ v comes off. line3_C comes (range_over most_parts v off)) (λ c c-stands c-fine.
      C_fine c-at c-stands (range_bounds 0 most_parts c.value c-fine).1))))

  -- ---- 4 to 8 and 17, the fields of one more part

  module _ (c : Counts) (ps : List Part) (w : WoundSoFar) (so_far : (r : ℕ) → Tallied w ps r) where
    abbrev PartGiven : Found Part → Type 0
    PartGiven p = Reached e s (at_part c (ps ++ (p.value ∷ []))) p.next

    -- what is left of a part after its relay or button n was read: 8 and 17 are tested
    abbrev named_on : ℕ → ℕ → ℕ → ℕ → Found ℕ → Outcome (Found Part)
    named_on k a b at n =
        unless (winding_free w (kind_of k n.value)) winding_taken at
        >> (unless (unmarked w (kind_of k n.value)) marked_twice at
        >> found (record { a = a; b = b; kind = kind_of k n.value }) n.next)

    -- and after its ends
    abbrev name_on : ℕ → ℕ → ℕ → ℕ → Outcome (Found Part)
    name_on k a b at = name_at e c k s at >>= named_on k a b at

    relay_leads : (k a b at : ℕ) → k ≤ last_kind → ¬ (k ≡ wire_kind) → ¬ (k ≡ button_kind)
        → Reached e s (at_name c ps k a b) at
        → Leads (LineHolds e s) PartGiven (name_on k a b at)
    unfolding name_at
    relay_leads k a b at most carries relay here =
        rw (ne_eqb k wire_kind carries, ne_eqb k button_kind relay)
        (field_leads (at_name c ps k a b) at here carries PartGiven (λ v. ltb v c.relays) no_such_name _
        (λ v comes off. line7_relay comes relay (ltb-false v c.relays off)) (λ n stands fine.
        let v = n.value in
        let below = ltb-true v c.relays fine in
        let comes : NumberStands e s (at_name c ps k a b) at v = (here, carries, n.next, stands) in
        leads-unless (LineHolds e s) PartGiven (winding_free w (kind_of k v)) winding_taken at _
        (λ off. line8 comes below (barred_taken w ps v (so_far v) k most off)) (λ free.
        leads-unless (LineHolds e s) PartGiven (unmarked w (kind_of k v)) marked_twice at _
        (λ off. line17 comes below (barred-marked w ps v (so_far v) k most off)) (λ once.
        relay_fine here carries relay stands below
        (λ taken. false≢true (sym (taken_barred w ps v (so_far v) k taken) ∙ free))
        (λ twice. false≢true (sym (marked_barred w ps v (so_far v) k twice) ∙ once))))))

    name_leads : (k a b at : ℕ) → k ≤ last_kind → Reached e s (at_name c ps k a b) at
        → Leads (LineHolds e s) PartGiven (name_on k a b at)
    unfolding name_at kind_of
    name_leads zero a b at most here = wire_fine here
    name_leads (suc (suc (suc zero))) a b at most here =
        field_leads (at_name c ps button_kind a b) at here (λ e. omega (arith, e)) PartGiven (λ v. ltb v c.buttons)
        no_such_name _ (λ v comes off. line7_button comes (ltb-false v c.buttons off)) (λ n stands fine.
        button_fine here stands (ltb-true n.value c.buttons fine))
    name_leads (suc zero) a b at most here =
        relay_leads 1 a b at most (λ e. omega (arith, e)) (λ e. omega (arith, e)) here
    name_leads (suc (suc zero)) a b at most here =
        relay_leads 2 a b at most (λ e. omega (arith, e)) (λ e. omega (arith, e)) here
    name_leads (suc (suc (suc (suc k)))) a b at most here =
        relay_leads (suc (suc (suc (suc k)))) a b at most (λ e. omega (arith, e)) (λ e. omega (arith, e)) here

    -- the ends, of which a mark has none
    ends_lead : (k at : ℕ)
        → (Reached e s (at_first c ps k) at × ¬ (k ≡ mark_kind))
        ⊎ ((k ≡ mark_kind) × Reached e s (at_name c ps k 0 0) at)
        → Leads (LineHolds e s) (λ ab. Reached e s (at_name c ps k ab.value.0 ab.value.1) ab.next)
        (ends_at e c k s at)
    unfolding ends_at
    ends_lead k at (inr (mark, here)) = rw (eq-eqb k mark_kind mark) here
    ends_lead k at (inl (a_at, joins)) =
        rw (ne_eqb k mark_kind joins)
        (field_leads (at_first c ps k) at a_at tt _ (terminal_fine c) no_such_terminal _
        (λ v comes off. line5_first comes (ltb-false v c.terminals off)) (λ a a-stands a-fine.
        let b_at = first_fine a_at a-stands (ltb-true a.value c.terminals a-fine) in
        field_leads (at_second c ps k a.value) a.next b_at tt _ (terminal_fine c) no_such_terminal _
        (λ v comes off. line5_second comes (ltb-false v c.terminals off)) (λ b b-stands b-fine.
        leads-unless (LineHolds e s) _ (ends_fine a.value b.value) ends_equal a.next _
        (λ equal.
        let same = eqb-true a.value b.value (not-false _ equal) in
        line6 (b_at, tt, b.next, rw same b-stands))
        (λ apart. second_fine b_at b-stands (ltb-true b.value c.terminals b-fine)
        (eqb-false _ _ (not-true _ apart))))))

    -- after the kind come the ends, or at once the relay of a mark
    kind_leads_to : (k at next : ℕ) → Reached e s (at_part c ps) at → length ps < c.parts → StandsAt e s at k next
        → k ≤ e.last_kind
        → (Reached e s (at_first c ps k) next × ¬ (k ≡ mark_kind))
        ⊎ ((k ≡ mark_kind) × Reached e s (at_name c ps k 0 0) next)
    kind_leads_to k at next here more stands most =
        by_test (eqb k mark_kind)
        (λ on.
        let mark = eqb-true k mark_kind on in
        inr (mark, rw mark (mark_fine here more (rw mark at stands) (rw mark at most))))
        (λ off.
        let joins = eqb-false k mark_kind off in inl (kind_fine here more stands most joins, joins))

    part_leads : (at : ℕ) → Reached e s (at_part c ps) at → length ps < c.parts
        → Leads (LineHolds e s) PartGiven (part_at e c w s at)
    unfolding part_at
    part_leads at here more =
        field_leads (at_part c ps) at here more PartGiven (in_range 0 e.last_kind) no_such_kind _
        (λ v comes off. line4 comes (range_over e.last_kind v off)) (λ k k-stands k-fine.
        let most = (range_bounds 0 e.last_kind k.value k-fine).1 in
        leads_then (LineHolds e s) _ PartGiven (ends_at e c k.value s k.next) _
        (ends_lead k.value k.next (kind_leads_to k.value at k.next here more k-stands most))
        (λ ab _ named. name_leads k.value ab.value.0 ab.value.1 ab.next (omega (arith, most, known))
        named))

  -- ---- 9, the parts one after the other

  module _ (c : Counts) (few : c.relays ≤ most_relays) where
    parts_lead : (n : ℕ) (ps : List Part) (w : WoundSoFar) (at : ℕ) → ((r : ℕ) → Tallied w ps r)
        → Reached e s (at_part c ps) at → length ps + n ≡ c.parts
        → Leads (LineHolds e s) (λ qs. RowReached e s c (gained_all w qs.value) (ps ++ qs.value) qs.next)
        (parts_at e c n w s at)
    unfolding parts_at gained_all
    parts_lead zero ps w at so_far here all =
        rw (append-nil ps) (record { reached = here; counted = omega arith; so_far = so_far })
    parts_lead (suc n) ps w at so_far here all =
        leads_then (LineHolds e s) _ _ (part_at e c w s at) _ (part_leads c ps w so_far at here (omega arith))
        (λ p read there.
        let w' = gained w p.value.kind in
        let more = ps ++ (p.value ∷ []) in
        let fine : PartIsFine e c w s at p =
        subst (λ (o : Outcome (Found Part)). Gives (PartIsFine e c w s at) o) read (part_read e known c w s at) in
        leads_then (LineHolds e s) _ _ (parts_at e c n w' s p.next) _
        (parts_lead n more w' p.next
        (λ r. tallied-gained c few w ps p.value r fine.fine (so_far r)) there
        (omega (arith, length-append ps (p.value ∷ []))))
        (λ qs _ rest. subst (λ (l : List Part). RowReached e s c (gained_all w' qs.value) l qs.next)
        (append_assoc ps (p.value ∷ []) qs.value) rest))

    -- after the last part
    end_leads : (ps : List Part) (w : WoundSoFar) (at : ℕ) → RowReached e s c w ps at
        → Leads (LineHolds e s) (λ b. BoardReached e s b.value.counts (parts_of b.value) b.next)
        (unless (complete c.relays w) winding_lacking at >> found (board_of c ps) at)
    unfolding complete
    end_leads ps w at row =
        leads-unless (LineHolds e s) _ (every c.relays (wound w)) winding_lacking at (found (board_of c ps) at)
        (λ lacks.
        let some = every_lacks (wound w) c.relays lacks in
        let r = some.0 in
        let never : ¬ (IsRegular r ps ⊎ IsSteel r ps) =
        λ sort. false≢true (sym some.2 ∙ wound_tallied w ps r (row.so_far r) sort) in
        line9 row.reached row.counted some.1 (λ regular. never (inl regular)) (λ steel. never (inr steel)))
        (λ full.
        rw (padded_parts c ps (start_of ps) (sym row.counted)) (record {
          reached = row.reached;
          counted = row.counted;
          all_wound = λ r below. tallied-wound w ps r (row.so_far r) (every-below (wound w) c.relays r full below);
        }))

  -- ---- a board

  pub board_leads : Leads (LineHolds e s) (λ b. BoardReached e s b.value.counts (parts_of b.value) b.next)
      (board_at e s)
  unfolding board_at board_from
  board_leads =
      leads_then (LineHolds e s) _ _ (counts_at e s) _ counts_lead (λ c read start.
      let counts = counts-found e s c.value c.next read in
      let few =
      count_most e 0 most_relays s counts.relays_at c.value.relays counts.buttons_at counts.relays in
      leads_then (LineHolds e s) _ _ (parts_at e c.value c.value.parts none_wound s c.next) _
      (parts_lead c.value few c.value.parts [] none_wound c.next tallied_none start (omega arith))
      (λ ps _ row. end_leads c.value few ps.value (gained_all none_wound ps.value) ps.next row))

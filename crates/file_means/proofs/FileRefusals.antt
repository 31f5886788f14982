-- The theorems over the call: a board file is refused by n at p exactly if line n of the table holds there and none
-- before it, and accepted exactly if the numbers of the board stand in the file.
use Prim.Native.Nat.{ℕ, ◌<◌, ◌≤◌}
use mathlib.Core.Path.{◌≡◌, refl, sym, ap, ◌∙◌}
use mathlib.Core.Logic.{◌⊎◌, ◌↔◌, inl, inr}
use mathlib.Core.List.{List}
use lib.Dec.{leb}
use lib.ListN.{length}
use borrow.Author.Tests.{leb-true, leb-false, le-leb, lt-leb}
use Rattle.refusals.specs.declared.Found.{Found}
use Rattle.refusals.specs.Outcomes.{Outcome, given, refused}
use Rattle.refusals.specs.Refusals.{input_too_long}
use Rattle.board.specs.declared.Board.{Board}
use Rattle.board.specs.declared.Counts.{Counts}
use Rattle.board.specs.declared.Part.{Part}
use Rattle.board.specs.Parts.{parts_of}
use Rattle.board.specs.Rules.{start_of}
use Rattle.board.specs.Sorts.{Wound}
use Rattle.board.proofs.PaddedLaws.{padded_parts}
use Rattle.board_reader.specs.Editions.{Edition, current_edition}
use Rattle.board_reader.specs.Reading.{board_of, board_at, answered, reading, longest_input}
use Rattle.board_reader.proofs.EditionLaws.{Known, current_known}
use Rattle.board_reader.proofs.ReadLaws.{board_within, answered_given, answered_refused}
use Rattle.file_means.specs.FileRefusals.{at_part, Reached, LineHolds, FileRefused, FileAccepted}
use Rattle.file_means.proofs.LeadsLaws.{Leads, leads_refused, leads_given, leads_each, leads-unless}
use Rattle.file_means.proofs.ReadLeads.{BoardReached, board_leads}
use Rattle.file_means.proofs.ReachedRead.{reached-board}
use Rattle.file_means.proofs.HoldsRefused.{holds-board}

-- what reading by an edition answers, by the table of that edition
module _ (e : Edition) (known : Known e) (s : List ℕ) where
  abbrev Line : ℕ → ℕ → Type 0
  Line n p =
      ((longest_input < length s) × (n ≡ input_too_long) × (p ≡ 0)) ⊎ ((length s ≤ longest_input) × LineHolds e s n p)

  abbrev BoardGiven : Found Board → Type 0
  BoardGiven b = (length s ≤ longest_input) × BoardReached e s b.value.counts (parts_of b.value) b.next

  read_leads : Leads Line BoardGiven (board_within e s)
  read_leads =
      leads-unless Line BoardGiven (leb (length s) longest_input) input_too_long 0 (board_at e s)
      (λ long. inl (leb-false _ _ long, refl, refl))
      (λ short. leads_each Line BoardGiven (board_at e s)
      (λ n p no. inr (
        leb-true _ _ short,
        leads_refused (LineHolds e s) _ (board_at e s) n p (board_leads e known s) no,
      ))
      (λ b went. (leb-true _ _ short, leads_given (LineHolds e s) _ (board_at e s) b (board_leads e known s) went)))

  holds_read : (n p : ℕ) → Line n p → board_within e s ≡ refused n p
  holds_read n p (inl (long, ten, place)) = rw (lt-leb (length s) longest_input long, ten, place)
  holds_read n p (inr (short, holds)) = rw (le-leb (length s) longest_input short, holds-board e known s n p holds)

  pub table_refused : (n p : ℕ) → ((reading e s).1 ≡ refused n p) ↔ Line n p
  unfolding reading answered
  table_refused n p = (
    λ no. leads_refused Line BoardGiven (board_within e s) n p read_leads (answered_refused (board_within e s) n p no),
    λ line. ap (λ (o : Outcome (Found Board)). (answered o).1) (holds_read n p line),
  )

  pub table_accepted : (b : Board) (n : ℕ) → reading e s ≡ (b, given n)
      → (length s ≤ longest_input) × BoardReached e s b.counts (parts_of b) n
  unfolding reading
  table_accepted b n went =
      leads_given Line BoardGiven (board_within e s) (record { value = b; next = n }) read_leads
      (answered_given (board_within e s) b n went)

  -- what is read where the board stands there by its numbers
  pub reached-reading : (c : Counts) (ps : List Part) (n : ℕ) → length s ≤ longest_input → Reached e s (at_part c ps) n
      → length ps ≡ c.parts → Wound c.relays ps → reading e s ≡ (board_of c ps, given n)
  unfolding reading answered
  reached-reading c ps n short here all wounds =
      rw (le-leb (length s) longest_input short, reached-board e known s c ps n here all wounds)

pub file_refused : FileRefused
file_refused s r n p was =
    let answer = ap (λ (x : Board × Outcome ℕ). x.1) was in
    let exactly = table_refused current_edition current_known s n p in
    (λ no. exactly.0 (sym answer ∙ no), λ line. answer ∙ exactly.1 line)

pub file_accepted : FileAccepted
file_accepted s r c ps n was = (
  λ so.
      (let there =
      table_accepted current_edition current_known s r.board n
      (sym was ∙ ap (λ (o : Outcome ℕ). (r.board, o)) so.0) in
      rw (← so.1, ← so.2) (there.0, there.1.reached, there.1.counted, there.1.all_wound)),
  λ (short, here, all, wounds).
      (let answer = was ∙ reached-reading current_edition current_known s c ps n short here all wounds in (
        ap (λ (x : Board × Outcome ℕ). x.1) answer,
        ap (λ (x : Board × Outcome ℕ). x.0.counts) answer,
        ap (λ (x : Board × Outcome ℕ). parts_of x.0) answer ∙ padded_parts c ps (start_of ps) (sym all),
        ap (λ (x : Board × Outcome ℕ). x.0.start) answer,
      )),
)

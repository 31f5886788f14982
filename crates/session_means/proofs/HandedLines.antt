-- The theorems: what the calls have handed out so far are the first of the session's lines, and the next call hands out
-- the next.
use Prim.Native.Nat.{ℕ, ◌≤◌}
use mathlib.Core.Path.{◌≡◌, refl, sym, ap, ap₂, subst, ◌∙◌}
use mathlib.Core.List.{List, [], ◌∷◌, ◌++◌, append-nil}
use lib.ListN.{length}
use Rattle.board.specs.declared.Board.{Board}
use Rattle.board_reader.specs.Editions.{current_edition}
use Rattle.lines.specs.Lines.{Line, longest_line}
use Rattle.session.specs.declared.Session as code-session
use Rattle.session.specs.declared.Handed as code-handed
use Rattle.std.specs.Prelude.{Result, None}
use Rattle.session.specs.HandingOut.{nothing, told_hand_out, NextLine}
use Rattle.session.specs.Sessions.{line_texts}
use Rattle.session.specs.Carried.{Ahead, Coming, line, no_line, next_in, told_ahead}
use Rattle.session.proofs.CallLaws.{over_never, call-room, call_over, call-lent, call_line, call_stays}
use Rattle.session.proofs.CallLaws.{call-board, came}
use Rattle.session_means.specs.HandedLines.{Hands, HandsOut, Tells, LinesHandedOut, AllHandedOut}
use Rattle.session_means.proofs.StillLaws.{still, still_in, NumberedIn, still_next, numbered_next}
use Rattle.session_means.proofs.BeginningLaws.{beginning_still, beginning_numbered}

-- the texts of the lines that z has still to tell
abbrev ahead : code-session.Session → List ℕ → List (List ℕ)
ahead z s = line_texts (still_in z s)

record From (s : List ℕ) (z : code-session.Session) (ts : List (List ℕ)) (z' : code-session.Session) : Type 0 where
  pub told : ahead z s ≡ ts ++ ahead z' s
  pub numbered : NumberedIn z' s

module _ (s : List ℕ) where
  hands_first : (z y : code-session.Session) (t : List ℕ) → NumberedIn z s → Hands NextLine s z t y
      → From s z (t ∷ []) y
  unfolding line_texts
  hands_first z y t numbered h =
      let c = came z s h.out h.out' h.answer h.called h.bytes h.wrote in
      let after : Ahead = told_ahead h.answer.session.ahead in
      let rest : still current_edition z.board after s ≡ still_in y s =
      ap (λ (k : Board). still current_edition k after s)
      (sym (call-board z s h.out h.out' h.answer h.called))
      ∙ ap (λ (x : code-session.Session). still_in x s) h.after in
      record {
        told =
            ap line_texts (still_next current_edition _ (told_ahead z.ahead) s numbered _ c.next)
            ∙ ap₂ {C = List (List ℕ)} (λ (x : List ℕ) (ls : List Line). x ∷ line_texts ls) (sym c.text ∙ h.text)
            rest;
        numbered =
            subst (λ (x : code-session.Session). NumberedIn x s) h.after
            (numbered_next current_edition _ (told_ahead z.ahead) s numbered _ _ c.next);
      }

  from_start : (ts : List (List ℕ)) (z z' : code-session.Session) → NumberedIn z s
      → HandsOut NextLine s z ts z' → From s z ts z'
  from_start [] z z' numbered same =
      record {
        told = ap (λ (x : code-session.Session). ahead x s) same;
        numbered = subst (λ (x : code-session.Session). NumberedIn x s) same numbered;
      }
  from_start (t ∷ ts) z z' numbered (y, (h, after)) =
      let one = hands_first z y t numbered h in
      let rest = from_start ts y z' one.numbered after in
      record { told = one.told ∙ ap {B = List (List ℕ)} (λ ls. t ∷ ls) rest.told; numbered = rest.numbered }

  tells_by : (z : code-session.Session) (out out' : List ℕ) (r : code-handed.Handed) → NumberedIn z s
      → longest_line ≤ length out → NextLine z s out r out' → (x : Ahead × Coming) → next_in z s ≡ x
      → Tells (ahead z s) out r out'
  unfolding line_texts
  tells_by z out out' r numbered room called (y, no_line) is =
      rw (still_next current_edition _ (told_ahead z.ahead) s numbered _ is) (
        call_over z s out out' r called room y is,
        call-lent z s out out' r called room y is,
      )
  tells_by z out out' r numbered room called (y, line l) is =
      let handed = call_line z s out out' r called room y l is in
      rw (still_next current_edition _ (told_ahead z.ahead) s numbered _ is)
      (record {
        answer = handed.0;
        begins = handed.1;
        stays = call_stays z s out out' r called room y l is;
      })

pub lines_handed_out : LinesHandedOut
lines_handed_out s z z' ts begun out =
    let so = from_start s ts z z' (beginning_numbered s z begun) out in
    record {
      rest = ahead z' s;
      all = ap line_texts (sym (beginning_still s z begun)) ∙ so.told;
      next =
          λ out out' r room called. tells_by s z' out out' r so.numbered room called (next_in z' s) refl;
    }

none_left : (rest : List (List ℕ)) (out out' : List ℕ) (r : code-handed.Handed) → Tells rest out r out'
    → r.answer ≡ Result.Ok None → rest ≡ []
none_left [] out out' r tells over = refl
none_left (t ∷ ts) out out' r tells over = absurd (over_never (length t) (sym over ∙ tells.answer))

pub all_handed_out : AllHandedOut
all_handed_out s z z' ts out out' r begun handed called over =
    let so = lines_handed_out s z z' ts begun handed in
    let room = call-room z' s out out' r called nothing (ap told_hand_out over) in
    let none = none_left so.rest out out' r (so.next out out' r room called) over in
    sym (so.all ∙ ap (λ (rest : List (List ℕ)). ts ++ rest) none ∙ append-nil ts)

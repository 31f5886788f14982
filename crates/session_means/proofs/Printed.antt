-- A program that prints what it is handed has printed all that the session prints, once a call says that there is none.
-- For programs that hand the texts to a writer; what the writer holds is known, or not.
use Rattle.std.proofs.Common.{ℕ, ◌≡◌, ◌≤◌, List, [], ◌∷◌, ◌++◌, ◌⊎◌, length, take}
use Rattle.std.proofs.Common.{refl, sym, ap, subst, ◌∙◌, inl, inr, append-nil, append_assoc}
use Rattle.std.specs.declared.option.Option.{Option}
use Rattle.std.specs.Prelude.{Result, None, Some}
use Rattle.std.specs.Io.KnownBytes.{Appends}
use Rattle.board_reader.specs.Editions.{current_edition}
use Rattle.lines.specs.Lines.{longest_line}
use Rattle.session.specs.declared.Session.{Session}
use Rattle.session.specs.declared.Handed.{Handed}
use Rattle.session.specs.Carried.{Ahead, Coming, line, no_line, next_in, Begins}
use Rattle.session.specs.HandingOut.{NextLine}
use Rattle.session.specs.Filling.{NextLines}
use Rattle.session.specs.Sessions.{printed, session_text}
use Rattle.session.proofs.CallLaws.{call_over, call_line}
use Rattle.session.proofs.FilledCalls.{filled_answers}
use Rattle.session_means.specs.HandedLines.{Call, Hands, HandsOut}
use Rattle.session_means.proofs.HandedLines.{all_handed_out}
use Rattle.session_means.proofs.FilledBuffers.{all_filled}

-- such calls on the input s from z on handed out texts and left y, and these took a writer from what it held to what it
-- holds
pub record SoPrinted (C : Call) (s : List ℕ) (z y : Session) (old new : Option (List ℕ)) : Type 0 where
  pub texts : List (List ℕ)
  pub handed : HandsOut C s z texts y
  pub appended : Appends old new (printed texts)

-- one text more is handed out
hands_on : (C : Call) (s : List ℕ) (ts : List (List ℕ)) (t : List ℕ) (z y x : Session) → HandsOut C s z ts y
    → Hands C s y t x → HandsOut C s z (ts ++ t ∷ []) x
hands_on C s [] t z y x is hands = (x, (subst (λ (w : Session). Hands C s w t x) (sym is) hands, refl))
hands_on C s (u ∷ us) t z y x (w, (first, rest)) hands = (w, (first, hands_on C s us t w y x rest hands))

printed-append_one : (ts : List (List ℕ)) (t : List ℕ) → printed (ts ++ t ∷ []) ≡ printed ts ++ t
unfolding printed
printed-append_one [] t = append-nil t
printed-append_one (u ∷ us) t =
    ap (λ (xs : List ℕ). u ++ xs) (printed-append_one us t) ∙ sym (append_assoc u (printed us) t)

-- ---- what a writer holds

appends_none : (old : Option (List ℕ)) → Appends old old (printed [])
unfolding printed
appends_none None = tt
appends_none (Some o) = sym (append-nil o)

appends_on : (old mid new : Option (List ℕ)) (xs ys : List ℕ) → Appends old mid xs → Appends mid new ys
    → Appends old new (xs ++ ys)
appends_on None mid new xs ys a b = tt
appends_on (Some o) None new xs ys a b = absurd a
appends_on (Some o) (Some m) None xs ys a b = absurd b
appends_on (Some o) (Some m) (Some n) xs ys a b =
    b ∙ ap (λ (zs : List ℕ). zs ++ ys) a ∙ append_assoc o xs ys

-- ---- from the beginning on, call by call

pub none_printed : (C : Call) (s : List ℕ) (z : Session) (old : Option (List ℕ)) → SoPrinted C s z z old old
none_printed C s z old = record { texts = []; handed = refl; appended = appends_none old }

pub more_printed : (C : Call) (s : List ℕ) (z y : Session) (old mid new : Option (List ℕ)) (out out' : List ℕ)
    (r : Handed) (n : ℕ) → SoPrinted C s z y old mid → C y s out r out' → r.answer ≡ Result.Ok (Some n)
    → Appends mid new (take n out') → SoPrinted C s z r.session old new
more_printed C s z y old mid new out out' r n so called wrote appended =
    let hands : Hands C s y (take n out') r.session =
    record {
      out = out;
      out' = out';
      answer = r;
      bytes = n;
      called = called;
      wrote = wrote;
      text = refl;
      after = refl;
    } in
    record {
      texts = so.texts ++ take n out' ∷ [];
      handed = hands_on C s so.texts (take n out') z y r.session so.handed hands;
      appended =
          subst (λ (xs : List ℕ). Appends old new xs) (sym (printed-append_one so.texts (take n out')))
          (appends_on old mid new (printed so.texts) (take n out') so.appended appended);
    }

-- ---- and once a call hands out nothing more

pub all_buffers_printed : (s : List ℕ) (z y : Session) (old new : Option (List ℕ)) (out out' : List ℕ) (r : Handed)
    → Begins s z → SoPrinted NextLines s z y old new → longest_line ≤ length out → NextLines y s out r out'
    → ((n : ℕ) → r.answer ≡ Result.Ok (Some n) → ⊥) → Appends old new (session_text current_edition s)
all_buffers_printed s z y old new out out' r begun so room called never =
    by (filled_answers y s out out' r called room)
  where
    by : (r.answer ≡ Result.Ok None) ⊎ ((n : ℕ) × (r.answer ≡ Result.Ok (Some n)))
        → Appends old new (session_text current_edition s)
    by (inl over) =
        subst (λ (xs : List ℕ). Appends old new xs) (all_filled s z y so.texts out out' r begun so.handed called over)
        so.appended
    by (inr (n, is)) = absurd (never n is)

pub all_lines_printed : (s : List ℕ) (z y : Session) (old new : Option (List ℕ)) (out out' : List ℕ) (r : Handed)
    → Begins s z → SoPrinted NextLine s z y old new → longest_line ≤ length out → NextLine y s out r out'
    → ((n : ℕ) → r.answer ≡ Result.Ok (Some n) → ⊥) → Appends old new (session_text current_edition s)
unfolding session_text
all_lines_printed s z y old new out out' r begun so room called never = by (next_in y s) refl
  where
    by : (c : Ahead × Coming) → next_in y s ≡ c → Appends old new (session_text current_edition s)
    by (w, no_line) is =
        let over = call_over y s out out' r called room w is in
        subst (λ (xs : List ℕ). Appends old new xs)
        (ap printed (all_handed_out s z y so.texts out out' r begun so.handed called over)) so.appended
    by (w, line l) is = absurd (never _ (call_line y s out out' r called room w l is).0)

-- Each promise allows exactly one answer: one that is told as it is, by `one_itself`; one that is told by a definition,
-- by `one_told`, because each answer can be had from what it tells, and where it can be refused by `one_tells`,
-- because the definition refuses by numbers of the table alone; one that leaves something in a lent log or buffer, by
-- `one_lent`.
use Prim.Native.Nat.{ℕ}
use mathlib.Core.Path.{◌≡◌, refl, sym, ap, ◌∙◌}
use mathlib.Core.List.{List}
use Rattle.refusals.proofs.Told.{Told, told_injective, list-told}
use Rattle.refusals.proofs.Tabled.{Tells, tells_injective, result-tells, result-tells_as}
use Rattle.number.proofs.NumberLaws.{number_tabled, number_writing_tabled}
use Rattle.kept.proofs.KeptLaws.{usable_tabled}
use Rattle.presses.proofs.PressLaws.{pressed-tells, pushing-tabled, releasing-tabled}
use Rattle.board_reader.proofs.ToldLaws.{board_read_tells}
use Rattle.board_reader.proofs.TabledLaws.{reading_tabled}
use Rattle.board_writer.proofs.FileLaws.{writing_tabled}
use Rattle.search.proofs.VerdictLaws.{verdict-tells, verdict_by-tabled}
use Rattle.judge.proofs.ScannedLaws.{windings-told}
use Rattle.judge.proofs.JudgeLaws.{winding_for-tabled, judging-tabled}
use Rattle.divide.proofs.AtOnceLaws.{judgement-told, judging_at_once-tabled, checking-tabled}
use Rattle.moves.proofs.MovingLaws.{move-told, moved-tells, moving-tabled}
use Rattle.runs.proofs.RunningLaws.{ran-tells, running-tabled}
use Rattle.report.proofs.ReportLaws.{reported-tells, reporting-tabled}
use Rattle.lines.proofs.ToldLaws.{written-tells, writing-tabled}
use Rattle.events.proofs.ToldLaws.{shown-told}
use Rattle.session.proofs.ToldLaws.{session-told, handed-tells}
use Rattle.demands.proofs.TabledLaws.{next_line_tabled, next_lines_tabled}
use Rattle.demands.specs.OneAnswer.{One, OneLent, OneAnswer}

pub one_itself : {A : Type 0} (a : A) → One (λ (x : A). x ≡ a)
one_itself a = record { answer = a; allowed = refl; only = λ x y e f. e ∙ sym f }

one_told : {A R : Type 0} (told : R → A) → Told told → (a : A) → One (λ x. told x ≡ a)
one_told told both a =
    record {
      answer = both.untold a;
      allowed = both.onto a;
      only = λ x y e f. told_injective told both x y (e ∙ sym f);
    }

one_tells : {A R : Type 0} {Good : A → Type 0} (told : R → A) → Tells Good told → (a : A) → Good a
    → One (λ x. told x ≡ a)
one_tells told both a good =
    record {
      answer = both.untold a;
      allowed = both.onto a good;
      only = λ x y e f. tells_injective told both x y (e ∙ sym f);
    }

one_lent : {A R : Type 0} {Good : A → Type 0} (told : R → List ℕ → A)
    → Tells Good (λ (x : R × List ℕ). told x.0 x.1) → (a : A) → Good a → OneLent (λ x k. told x k ≡ a)
one_lent {A} {R} told both a good =
    record {
      answer = (both.untold a).0;
      left = (both.untold a).1;
      allowed = both.onto a good;
      only = λ x y k l e f.
          let same : ◌≡◌ {A = R × List ℕ} (x, k) (y, l) = tells_injective _ both (x, k) (y, l) (e ∙ sym f) in
          (ap (λ (p : R × List ℕ). p.0) same, ap (λ (p : R × List ℕ). p.1) same);
    }

pub one_answer : OneAnswer
one_answer = record {
  bits_has = λ s n. one_itself _;
  bits_with = λ s n. one_itself _;
  bits_without = λ s n. one_itself _;
  bits_flip = λ s n. one_itself _;
  bits_remaining = λ s t. one_itself _;
  bits_together = λ s t. one_itself _;
  bits_lowest_from = λ s n. one_itself _;
  bits_all_below = λ s n. one_itself _;
  bits_wide = λ x byte. record { answer = x; allowed = (refl, byte); only = λ p q e f. e.0 ∙ sym f.0 };
  refusals_unless = λ t e. one_itself _;
  number_read_number = λ s at. one_tells _ result-tells _ (number_tabled _ s at);
  number_number_length = λ v. one_itself _;
  number_write_number = λ v out at. one_lent _ written-tells _ (number_writing_tabled v out at);
  kinds_of = λ k n. one_itself _;
  kinds_number = λ k. one_itself _;
  kinds_name = λ k. one_itself _;
  kinds_fields = λ k a b. one_itself _;
  windings_none = one_itself _;
  windings_free = λ w k. one_itself _;
  windings_unmarked = λ w k. one_itself _;
  windings_with = λ w k. one_itself _;
  windings_complete = λ w n. one_itself _;
  board_limit = λ c k. one_itself _;
  board_blank = one_itself _;
  board_empty = one_itself _;
  board_parts = λ b. one_itself _;
  board_check = λ b. one_itself _;
  board_same = λ b c. one_itself _;
  state_fresh = λ b. one_itself _;
  state_draw = λ s r. one_itself _;
  state_drop = λ s r. one_itself _;
  state_push = λ s n. one_itself _;
  state_release = λ s n. one_itself _;
  state_is_drawn = λ s r. one_itself _;
  state_is_pushed = λ s n. one_itself _;
  state_fits = λ s c. one_itself _;
  board_reader_read = λ s. one_tells _ board_read_tells _ (reading_tabled _ s);
  board_writer_write = λ b out. one_lent _ written-tells _ (writing_tabled b out);
  neighbours_conducts = λ k s. one_itself _;
  neighbours_neighbours = λ b s. one_itself _;
  neighbours_renew = λ k at b s. one_itself _;
  kept_of = λ b s. one_itself _;
  kept_fresh = λ b. one_itself _;
  kept_changed = λ h b c t. one_itself _;
  kept_usable = λ b h. one_tells _ result-tells _ (usable_tabled b h);
  reach_flood = λ near from out. one_itself _;
  search_search = λ near t v w. one_tells _ verdict-tells _ (verdict_by-tabled near _ v w);
  feed_reached_without = λ near x. one_itself _;
  feed_feed_by = λ k t. one_itself _;
  feed_is_live = λ f v. one_itself _;
  judge_find_windings = λ b r. one_told _ windings-told _;
  judge_find_all_windings = λ b. one_told _ (list-told _ windings-told) _;
  judge_winding_for = λ b h r k. one_tells _ result-tells _ (winding_for-tabled b h r k);
  judge_is_shunted = λ k v. one_itself _;
  judge_judge = λ b h r k w. one_tells _ verdict-tells _ (judging-tabled b h r k w);
  divide_judge = λ b h r k.
      one_tells _ (result-tells_as _ judgement-told) _ (judging_at_once-tabled b h r k);
  divide_check = λ b h r k x. one_tells _ result-tells _ (checking-tabled b h r k x);
  presses_push = λ b h n. one_tells _ pressed-tells _ (pushing-tabled b h n);
  presses_release = λ b h n. one_tells _ pressed-tells _ (releasing-tabled b h n);
  moves_step = λ f x d. one_told _ move-told _;
  moves_after = λ b h r m. one_itself _;
  moves_move_relay = λ b h r. one_tells _ moved-tells _ (moving-tabled b h r);
  runs_run = λ b h log. one_lent _ ran-tells _ (running-tabled b h log);
  report_report = λ b n. one_tells _ reported-tells _ (reporting-tabled b n);
  report_one_run = λ w m. one_itself _;
  report_followed = λ f g. one_itself _;
  lines_write_line = λ l out. one_lent _ written-tells _ (writing-tabled _ out);
  events_run_line = λ b e h. one_told _ shown-told _;
  events_event_line = λ b e h v. one_told _ shown-told _;
  session_begin = λ s. one_told _ session-told _;
  session_next_line = λ z s out. one_lent _ handed-tells _ (next_line_tabled _ s out);
  session_next_lines = λ z s out. one_lent _ handed-tells _ (next_lines_tabled _ s out);
}

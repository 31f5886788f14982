-- What upkeep leaves alone, over the call `changed`. Request A5: "A move or a button changes only the sets at the ends
-- of that relay's contacts or that button's parts."
--     EndOf b c x        terminal x is an end of a part of board b that goes by what changed, c
--     SetsSame k l x     both sets of terminal x are the same in k and in l
--     ElseSets b c h t   every terminal that is no such end has the same sets in t as in h
--     OnlyEnds           so it is of what the call answers, whatever was kept
use Rattle.std.specs.Prelude.{ℕ, ◌<◌, ◌≡◌, ◌⊎◌, true, get_or}
use Rattle.lists.specs.Members.{◌∈◌}
use Rattle.board.specs.declared.Part.{Part}
use Rattle.board.specs.declared.Board.{Board}
use Rattle.board.specs.Parts.{parts_of}
use Rattle.board.specs.Rules.{most_terminals}
use Rattle.state.specs.declared.State.{State}
use Rattle.neighbours.specs.declared.Sets.{Sets}
use Rattle.kept.specs.declared.Kept.{Kept}
use Rattle.kept.specs.declared.Change.{Change}
use Rattle.kept.specs.Upkeep.{follows, KeptChanged}

pub record EndOf (b : Board) (c : Change) (x : ℕ) : Type 0 where
  pub part : Part
  pub on_board : part ∈ parts_of b
  pub goes : follows c part.kind ≡ true
  pub ends : (x ≡ part.a) ⊎ (x ≡ part.b)

abbrev pub SetsSame : Sets → Sets → ℕ → Type 0
SetsSame k l x = (get_or k.near x 0 ≡ get_or l.near x 0) × (get_or k.bare x 0 ≡ get_or l.bare x 0)

abbrev pub ElseSets : Board → Change → Kept → Kept → Type 0
ElseSets b c h t = (x : ℕ) → x < most_terminals → ¬ (EndOf b c x) → SetsSame t.sets h.sets x

abbrev pub OnlyEnds : Type 0
OnlyEnds = (h : Kept) (b : Board) (c : Change) (t : State) (r : Kept) → KeptChanged h b c t r → ElseSets b c h r

-- The rule book's "Numbers for no": a name for each line of its table, and the number of each of the code's cases.
use Rattle.std.specs.Prelude.{ℕ}
use Rattle.refusals.specs.declared.No.{No}
use Rattle.refusals.specs.declared.No.TheVariants.{InputEnds, BadForm, OutOfRange, NoSuchKind, NoSuchTerminal}
use Rattle.refusals.specs.declared.No.TheVariants.{EndsEqual, NoSuchName, WindingTaken, WindingLacking, InputTooLong}
use Rattle.refusals.specs.declared.No.TheVariants.{NoSuchWinding, AlreadySo, LogTooLong, StateBeyondBoard, BrokenBoard}
use Rattle.refusals.specs.declared.No.TheVariants.{BufferTooShort, MarkedTwice, ForeignSets, TerminalBeyond}
use Rattle.refusals.specs.declared.No.TheVariants.{TooManyButtons}

-- 1: input ends inside or before a wanted number; place: input length
abbrev pub input_ends : ℕ
input_ends = 1

-- 2: number longer than five bytes, of a value too large, or not shortest (request A1); place: its first byte
abbrev pub bad_form : ℕ
bad_form = 2

-- 3: T, R, B or C outside its range; place: that number
abbrev pub out_of_range : ℕ
out_of_range = 3

-- 4: kind above 7 (request A2); place: that number
abbrev pub no_such_kind : ℕ
no_such_kind = 4

-- 5: terminal not below T; place: that number
abbrev pub no_such_terminal : ℕ
no_such_terminal = 5

-- 6: both ends equal; place: second end
abbrev pub ends_equal : ℕ
ends_equal = 6

-- 7: relay or button not below R or B; place: that number
abbrev pub no_such_name : ℕ
no_such_name = 7

-- 8: relay already has this winding, or is of the other sort; place: relay number
abbrev pub winding_taken : ℕ
winding_taken = 8

-- 9: after the last part some relay lacks a winding; place: after the board
abbrev pub winding_lacking : ℕ
winding_lacking = 9

-- 10: input longer than 65,536 bytes; place: 0
abbrev pub input_too_long : ℕ
input_too_long = 10

-- 11: no such relay, or a second winding asked of a regular one
abbrev pub no_such_winding : ℕ
no_such_winding = 11

-- 12: push of a pushed button, release of a released one
abbrev pub already_so : ℕ
already_so = 12

-- 13: log longer than 65,536
abbrev pub log_too_long : ℕ
log_too_long = 13

-- 14: state has a relay or button the board lacks
abbrev pub state_beyond_board : ℕ
state_beyond_board = 14

-- 15: board handed in breaks a rule of refusals 3 to 9 or 17, or does not carry the start its marks give (request A2)
abbrev pub broken_board : ℕ
broken_board = 15

-- 16: output buffer shorter than the file
abbrev pub buffer_too_short : ℕ
buffer_too_short = 16

-- 17: relay marked twice (request A2); place: relay number
abbrev pub marked_twice : ℕ
marked_twice = 17

-- 18: kept sets that don't belong to this board and state (request A5)
abbrev pub foreign_sets : ℕ
foreign_sets = 18

-- 19: terminal handed in is not below T (request A6)
abbrev pub terminal_beyond : ℕ
terminal_beyond = 19

-- 20: a report is asked of a board with more than 12 buttons (request A10)
abbrev pub too_many_buttons : ℕ
too_many_buttons = 20

abbrev pub number_of : No → ℕ
number_of InputEnds = input_ends
number_of BadForm = bad_form
number_of OutOfRange = out_of_range
number_of NoSuchKind = no_such_kind
number_of NoSuchTerminal = no_such_terminal
number_of EndsEqual = ends_equal
number_of NoSuchName = no_such_name
number_of WindingTaken = winding_taken
number_of WindingLacking = winding_lacking
number_of InputTooLong = input_too_long
number_of NoSuchWinding = no_such_winding
number_of AlreadySo = already_so
number_of LogTooLong = log_too_long
number_of StateBeyondBoard = state_beyond_board
number_of BrokenBoard = broken_board
number_of BufferTooShort = buffer_too_short
number_of MarkedTwice = marked_twice
number_of ForeignSets = foreign_sets
number_of TerminalBeyond = terminal_beyond
number_of TooManyButtons = too_many_buttons

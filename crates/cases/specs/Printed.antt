-- A refusal as the programs of cases print it.
--     by_call r    that of a call: its number; and its place, which is 0, only if it is not
--     of_file r    that of a file: its number and its place
use Rattle.std.specs.Prelude.{ℕ, List, [], ◌++◌, codes, cond, eqb}
use Rattle.std.specs.Fmt.{decimal}
use Rattle.refusals.specs.declared.Refusal.{Refusal}
use Rattle.refusals.specs.Refusals.{number_of}

abbrev pub by_call : Refusal → List ℕ
by_call r = decimal (number_of r.no) ++ cond (eqb r.place 0) [] (codes " " ++ decimal r.place)

abbrev pub of_file : Refusal → List ℕ
of_file r = codes "refused " ++ decimal (number_of r.no) ++ codes " " ++ decimal r.place

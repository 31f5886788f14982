-- The theorems of specs/FilesKept.antt: what reading comes to stands, or it was 2 (`only_by`).
use mathlib.Core.Path.{◌∙◌}
use Rattle.refusals.specs.Refusals.{bad_form}
use Rattle.board_reader.specs.Editions.{three_byte_edition, first_edition}
use Rattle.board_reader.specs.Reading.{reading}
use Rattle.file_means.specs.FilesKept.{FilesKept, OnlyByTwo}
use Rattle.file_means.proofs.KeptLaws.{first_changed, only_by}
use Rattle.file_means.proofs.SecondEdition.{accepted_never, first_files_kept}

pub only_by_two : OnlyByTwo
only_by_two = only_by three_byte_edition first_edition first_changed

pub files_kept : FilesKept
files_kept s b n read =
    (first_files_kept s b n (only_by_two s (accepted_never bad_form (reading three_byte_edition s) b n read) ∙ read)).0

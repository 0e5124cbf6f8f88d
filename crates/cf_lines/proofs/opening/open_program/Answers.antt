use Rattle.std.proofs.Common.{map, string_bytes}
use Rattle.cf_words.specs.Commands.{file_command}
use Rattle.cf_words.specs.Words.{command_of}
use Rattle.cf_lines.proofs.OpenLemmas.{words_shut}
use Rattle.cf_lines.proofs.opening.open_program.Goals as goal

pub returns-in-Ok : goal.returns-in-Ok
returns-in-Ok g c = rw c.in-Ok.ensures.0 c.open_file.ensures

pub returns-in-Err : goal.returns-in-Err
returns-in-Err g c =
    words_shut (command_of (map string_bytes c.args.words.now)) (g.F.Shelf.seen c.args.shelf.now) _ c.in-Err.fault _ c.in-Err.ensures c.plain.ensures.answer
    c.plain.ensures.message

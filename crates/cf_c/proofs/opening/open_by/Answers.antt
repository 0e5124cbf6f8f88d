use Rattle.std.proofs.Common.{map, string_bytes}
use Rattle.cf_words.specs.Words.{command_of}
use Rattle.cf_memory.specs.Files.{fresh_files}
use Rattle.cf_c.proofs.opening.open_by.Goals as goal

pub returns-clause-opened : goal.returns-clause-opened
returns-clause-opened g c =
    c.conclude.ensures.opened (command_of (map string_bytes c.args.words.now)) _ _ (fresh_files c.args.files.now) _
    (rw c.new-shelf.ensures at c.open_program-opening.ensures)

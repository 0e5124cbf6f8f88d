-- What a shelf of files tells.
use Rattle.std.specs.Prelude.{List, [], Some}
use Rattle.cf_io.specs.Seen.{ShelfSeen}
use Rattle.cf_memory.specs.Texts.{text_under, faults_of}
use Rattle.cf_memory.specs.declared.file.File.{File}
use Rattle.cf_memory.specs.declared.files.Files.{Files}

abbrev pub files_seen : Files → ShelfSeen
files_seen s =
    record {
      texts = λ name. text_under s.files.now name;
      left = Some s.left.now;
      faults = λ name. faults_of (text_under s.files.now name) s.missed;
      fetches = s.fetches;
      given = s.given;
      ends = s.ends;
    }

-- what such a shelf tells before the first call
abbrev pub fresh_files : List File → ShelfSeen
fresh_files files =
    record {
      texts = λ name. text_under files name;
      left = Some [];
      faults = λ name. faults_of (text_under files name) 0;
      fetches = 0;
      given = 0;
      ends = 0;
    }

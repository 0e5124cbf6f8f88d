-- The words and rows that values of the program stand for.
use Rattle.cf_help.specs.Faults.{Words}
use Rattle.cf_help.specs.Rows.{Row, ◌gives◌}
use Rattle.cf_help.specs.declared.words.FaultWords.{FaultWords}
use Rattle.cf_help.specs.declared.rows.HelpRow.{HelpRow}

abbrev pub words_of : FaultWords → Words
words_of w = record { what = w.what; help = w.help }

abbrev pub row_of : HelpRow → Row
row_of r = r.fits gives r.help.now

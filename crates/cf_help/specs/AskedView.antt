-- What a walk asks, as the program has it.
use Rattle.std.specs.Prelude.{map, Option, option_map}
use Rattle.cf_help.specs.Faults.{Words, seen_at}
use Rattle.cf_help.specs.ScopeView.{around_of}
use Rattle.cf_help.specs.Spots.{Look}
use Rattle.cf_help.specs.WordsView.{words_of}
use Rattle.cf_help.specs.declared.looks.Asked.{Asked}
use Rattle.cf_help.specs.ValuedView.{constant_seen}
use Rattle.cf_help.specs.declared.words.FaultWords.{FaultWords}

abbrev pub found_seen : Option FaultWords → Option Words
found_seen found = option_map words_of found

-- no walk has to see inside of it
unfoldable pub look_of : Asked → Look Words
look_of asked = seen_at asked.how (map constant_seen asked.values.now) asked.fault (around_of asked.around)

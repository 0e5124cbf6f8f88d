-- What a source of one text and a sink that grows tell.
use Rattle.std.specs.Prelude.{ℕ, List, [], Some}
use Rattle.cf_io.specs.Seen.{SinkSeen, SourceSeen}
use Rattle.cf_memory.specs.declared.growing.Growing.{Growing}
use Rattle.cf_memory.specs.declared.text.TextSource.{TextSource}

abbrev pub text_seen : TextSource → SourceSeen
text_seen s = record { left = Some s.left.now; faults = 0; given = s.given; ends = s.ends }

-- what a source of these bytes tells before the first read
abbrev pub fresh_text : List ℕ → SourceSeen
fresh_text bytes = record { left = Some bytes; faults = 0; given = 0; ends = 0 }

abbrev pub growing_seen : Growing → SinkSeen
growing_seen s = record { held = Some s.bytes.items; faults = s.faults }

-- what a sink tells that took nothing yet
abbrev pub fresh_sink : SinkSeen
fresh_sink = record { held = Some []; faults = 0 }

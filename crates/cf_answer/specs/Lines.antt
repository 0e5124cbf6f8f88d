-- What the lines of faults say, and how a line goes to the sink of errors.
use Rattle.std.specs.Prelude.{◌≡◌, ℕ, List, Result, OnOk, OnErr}
use Rattle.std.specs.Io.KnownBytes.{Appends}
use Rattle.cf_io.specs.Bytes.{TookPrefix}
use Rattle.cf_io.specs.Causes.{one_more}
use Rattle.cf_io.specs.Seen.{SinkSeen}
use Rattle.cf_answer.specs.Texts.{words_line, place_line_behind, count_line, choose_line, rejected_line, answers_line}
use Rattle.cf_answer.specs.declared.telling.Line.{Line}
use Rattle.cf_answer.specs.declared.telling.Line.TheVariants as line

abbrev pub line_text : Line → List ℕ
line_text (line.Words words) = words_line words.now
line_text (line.At head place words) = place_line_behind head.now place words.now
line_text (line.Count name n) = count_line name.now n
line_text (line.Choose n r) = choose_line n r
line_text (line.Rejected n i j w) = rejected_line n i j w
line_text (line.Answers n so) = answers_line n so.now

-- the sink took the line, or it failed and took a prefix of it
pub record Puts {S E : Type 0} (line : List ℕ) (old new : SinkSeen) (result : Result S E) : Type 0 where
  pub all : OnOk result (Appends old.held new.held line)
  pub prefix : TookPrefix old.held new.held line
  pub failed : OnErr result (new.faults ≡ one_more old.faults)
  pub same : OnOk result (new.faults ≡ old.faults)

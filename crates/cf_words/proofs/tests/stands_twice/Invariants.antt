use Rattle.std.proofs.Common.{◌≡◌, length, map, string_bytes}
use Rattle.cf_words.specs.Words.{stands_twice}
use Rattle.cf_words.proofs.tests.stands_twice.Given as goal

abbrev pub invariant-words : goal.invariant-words
invariant-words l = stands_twice l.word (map string_bytes l.rest) ≡ stands_twice l.word (map string_bytes l.words)

abbrev pub decreases-words : goal.decreases-words
decreases-words l = length l.rest

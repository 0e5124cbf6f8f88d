use Rattle.std.proofs.Common.{◌≡◌, map, drop, string_bytes}
use Rattle.cf_words.specs.Words.{stands}
use Rattle.cf_words.proofs.tests.stands.Given as goal

abbrev pub invariant-loop-other : goal.invariant-loop-other
invariant-loop-other l = stands l.word (map string_bytes (drop l.other-index l.words)) ≡ stands l.word (map string_bytes l.words)

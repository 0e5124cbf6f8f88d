use Rattle.std.proofs.Common.{◌≡◌}
use Rattle.cf_words.specs.Words.{size_of}
use Rattle.cf_words.proofs.SizeLemmas.{size_from}
use Rattle.cf_words.proofs.size.size_of.Given as goal

abbrev pub invariant-loop-i : goal.invariant-loop-i
invariant-loop-i l = size_from l.word l.i ≡ size_of l.word

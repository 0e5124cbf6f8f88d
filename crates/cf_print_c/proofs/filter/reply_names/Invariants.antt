use Rattle.std.proofs.Common.{◌≡◌, ◌++◌, drop}
use Rattle.cf_print_c.specs.Files.{reply_names}
use Rattle.cf_print_c.proofs.filter.reply_names.Given as goal

abbrev pub invariant-loop-k : goal.invariant-loop-k
invariant-loop-k l = l.all.items ++ reply_names l.name l.letter l.k (drop l.k l.bases) ≡ reply_names l.name l.letter 0 l.bases

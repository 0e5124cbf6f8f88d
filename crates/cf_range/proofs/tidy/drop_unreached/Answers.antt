use Rattle.std.proofs.Common.{rules}
use Rattle.cf_range.proofs.TidiedLists.{reached_taken}
use Rattle.cf_range.proofs.tidy.drop_unreached.Goals as goal

pub returns : goal.returns
returns c = search (rules, reached_taken)

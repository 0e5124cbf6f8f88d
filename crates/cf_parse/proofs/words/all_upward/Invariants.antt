use Rattle.std.proofs.Common.{◌≡◌, length}
use Rattle.std.specs.List.{list_all}
use Rattle.cf_parse.specs.Spelling.{is_upward}
use Rattle.cf_parse.proofs.words.all_upward.Given as goal

abbrev pub decreases-loop-order : goal.decreases-loop-order
decreases-loop-order l = length l.rest

abbrev pub invariant-loop-order : goal.invariant-loop-order
invariant-loop-order l = list_all is_upward l.rest ≡ list_all is_upward l.fn.orders

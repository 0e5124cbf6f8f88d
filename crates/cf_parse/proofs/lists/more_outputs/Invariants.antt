use Rattle.std.proofs.Common.{◌≡◌, ◌-◌, length}
use Rattle.cf_parse.specs.Reading.{more_outputs}
use Rattle.cf_parse.proofs.lists.more_outputs.Given as goal

abbrev pub invariant-loop : goal.invariant-loop
invariant-loop l =
    more_outputs l.edition (length l.fn.tokens - l.counter) l.done.items l.rest ≡ more_outputs l.edition (length l.fn.tokens) l.fn.first.items l.fn.tokens

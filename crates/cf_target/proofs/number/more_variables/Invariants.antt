use Rattle.std.proofs.Common.{◌≡◌, ◌-◌, length}
use Rattle.cf_target.specs.Reading.{variables_of}
use Rattle.cf_target.proofs.number.more_variables.Given as goal

abbrev pub invariant-loop : goal.invariant-loop
invariant-loop l = variables_of (length l.fn.tokens - l.counter) l.last l.rest ≡ variables_of (length l.fn.tokens) l.fn.first l.fn.tokens

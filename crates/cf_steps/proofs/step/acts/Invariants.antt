use Rattle.std.proofs.Common.{◌≡◌, ◌-◌, [], length}
use Rattle.cf_steps.specs.Reading.{acts_of}
use Rattle.cf_steps.proofs.step.acts.Given as goal

abbrev pub invariant-loop : goal.invariant-loop
invariant-loop l = acts_of (length l.fn.tokens - l.counter) l.done.items l.rest ≡ acts_of (length l.fn.tokens) [] l.fn.tokens

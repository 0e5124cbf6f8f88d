use Rattle.std.proofs.Common.{◌≡◌, ◌++◌, drop, map}
use Rattle.cf_steps.specs.Printed.{cases_text}
use Rattle.cf_steps.proofs.print.put_cases.Given as goal

abbrev pub invariant-loop-acts : goal.invariant-loop-acts
invariant-loop-acts l = l.out.items ++ cases_text (map (λ c. c.items) (drop l.acts-index l.cases)) ≡ l.fn.out.items ++ cases_text (map (λ c. c.items) l.cases)

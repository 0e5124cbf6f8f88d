use Rattle.std.proofs.Common.{◌≡◌, ◌^◌}
use Rattle.cf_tree.specs.RelSize.{capped}
use Rattle.cf_form.proofs.count.power_of_two.Given as goal

abbrev pub invariant-loop-step : goal.invariant-loop-step
invariant-loop-step l = l.power ≡ capped (2 ^ l._step)

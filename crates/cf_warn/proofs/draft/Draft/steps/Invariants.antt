use Rattle.std.proofs.Common.{◌≡◌, map, take}
use Rattle.std.specs.List.{fold}
use Rattle.cf_linear.specs.Views.{step_of}
use Rattle.cf_warn.specs.Writing.{draft_of, step_written}
use Rattle.cf_warn.proofs.draft.Draft.steps.Given as goal

abbrev pub invariant-loop-step : goal.invariant-loop-step
invariant-loop-step l = record {
  written : draft_of l.self ≡ fold step_written (draft_of l.initial.self) (map step_of (take l.step-index l.steps));
  first : l.self.forms.first ≡ l.initial.self.forms.first;
}

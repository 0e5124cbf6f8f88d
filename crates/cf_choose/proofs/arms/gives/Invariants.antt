use Rattle.std.proofs.Common.{◌≡◌, map}
use Rattle.std.specs.List.{range_with_len}
use Rattle.cf_tree.specs.CodeView.{code_tree}
use Rattle.cf_linear.specs.Views.{plain_layout}
use Rattle.cf_choose.specs.ArmBuilders.{output_code}
use Rattle.cf_choose.proofs.arms.gives.Given as goal

abbrev pub invariant-loop-i : goal.invariant-loop-i
invariant-loop-i l = map code_tree l.codes.items ≡ map (output_code (plain_layout l.layout) l.names l.sources.regions l.sources.fresh)
    (range_with_len l.layout.scope l.i)

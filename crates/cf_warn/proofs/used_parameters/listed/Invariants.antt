use Rattle.std.proofs.Common.{◌≡◌, ◌-◌, ◌++◌, filter}
use Rattle.std.specs.List.{range_with_len}
use Rattle.cf_linear.specs.Views.{plain_layout}
use Rattle.cf_warn.specs.Writing.{is_parameter}
use Rattle.cf_warn.proofs.used_parameters.listed.Given as goal

abbrev pub invariant-loop-x : goal.invariant-loop-x
invariant-loop-x l =
    l.params.items ++ filter (is_parameter (plain_layout l.layout)) (range_with_len l.x (l.layout.scope - l.x)) ≡
    filter (is_parameter (plain_layout l.layout)) (range_with_len 0 l.layout.scope)

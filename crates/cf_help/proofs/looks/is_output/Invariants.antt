use Rattle.std.proofs.Common.{◌≡◌, map, drop}
use Rattle.cf_program.specs.Names.{is_among}
use Rattle.cf_help.specs.ScopeView.{bindings_seen}
use Rattle.cf_help.proofs.looks.is_output.Given as goal

abbrev pub invariant-loop-out : goal.invariant-loop-out
invariant-loop-out l =
    is_among (map (λ v. v.name) (bindings_seen (drop l.out-index l.outs))) l.name ≡ is_among (map (λ v. v.name) (bindings_seen l.outs)) l.name

use Rattle.std.proofs.Common.{◌≡◌, ◌++◌, drop, map}
use Rattle.cf_answer.specs.Checks.{unused_lines}
use Rattle.cf_answer.proofs.beside.unused_lines.Given as goal

abbrev pub invariant-loop-param : goal.invariant-loop-param
invariant-loop-param l =
    l.lines.items ++ unused_lines l.name (map (λ p. p.now) (drop l.param-index l.params)) ≡ unused_lines l.name (map (λ p. p.now) l.params)

use Rattle.std.proofs.Common.{◌≡◌, get_or, map, rules, arith}
use Rattle.cf_answer.specs.Checks.{unused_lines}
use Rattle.cf_answer.proofs.BesideLemmas.{unused_on}
use Rattle.cf_answer.proofs.beside.unused_lines.Goals as goal

pub loop-param-preserved : goal.loop-param-preserved
loop-param-preserved c =
    let item : c.param-item.result ≡ get_or c.args.params.now c.loop-param.param-index c.param-item.result = search rules in
    unused_on c.args.name.now (λ p. p.now) c.args.params.now c.loop-param.param-index c.param-item.result _ _
    (unused_lines c.args.name.now (map (λ p. p.now) c.args.params.now)) (omega arith) item c.in_ok-put_unused.ensures c.loop-param.invariant

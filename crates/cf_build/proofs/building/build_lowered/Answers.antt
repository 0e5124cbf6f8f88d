use Rattle.std.proofs.Common.{◌≡◌, Err, map, rules}
use Rattle.cf_tree.specs.DefView.{def_tree}
use Rattle.cf_build.proofs.Rewriting.{rewritten_built}
use Rattle.cf_build.proofs.building.build_lowered.Goals as goal

pub rewritten-requires : goal.rewritten-requires
rewritten-requires g c = c.in_ok-raw.ensures.typed

pub returns-in_err-solves-clause-answer : goal.returns-in_err-solves-clause-answer
returns-in_err-solves-clause-answer g c =
    let e : c.from_residual.result ≡ Err c.in_err-solves.field-0.0 = search rules in rw e c.in_err-solves.ensures.refused

pub returns-clause-answer : goal.returns-clause-answer
returns-clause-answer g c =
    let defs = map def_tree c.args.typed.now.defs.items in
    rewritten_built defs c.args.typed.now.main _ _ c.in_ok-raw.raw c.in_ok-rewritten.field-0 c.in_ok-raw.ensures
    c.in_ok-rewritten.ensures.target

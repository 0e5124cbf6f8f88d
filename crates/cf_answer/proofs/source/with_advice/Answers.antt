use Rattle.std.proofs.lemmas.Result.{err_from_is_err_and}
use Rattle.cf_program.specs.Typed.{typed_tree}
use Rattle.cf_program.specs.declared.linearity.Linearity.TheVariants.{Plain}
use Rattle.cf_answer.proofs.RuleLemmas.{unformed}
use Rattle.cf_answer.proofs.source.with_advice.Goals as goal

pub returns-in_err-formed : goal.returns-in_err-formed
returns-in_err-formed c =
    let p = err_from_is_err_and c.from_residual-in_err-formed.result c.from_residual-in_err-formed.ensures.1 in
    rw (p.1, p.2) (unformed Plain _ (typed_tree c.args.source.now) _ c.requires c.in_err-formed.ensures)

pub returns : goal.returns
returns c =
    let params = rw c.defs.ensures.value at c.in_ok-params.ensures in
    let unused = rw (c.deref.ensures.value, params) at c.in_ok-unused.ensures in
    record {
      formed = (typed_tree c.args.source.now, c.requires, c.in_ok-formed.ensures);
      spots = c.in_ok-spots.ensures;
      unused = (typed_tree c.args.source.now, c.requires, unused);
    }

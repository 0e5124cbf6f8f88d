use Rattle.std.proofs.Common.{◌≡◌, ◌∙◌, ap, rules}
use Rattle.cf_formula.specs.declared.formula.Formula.{Either, the_lemmas}
use Rattle.cf_formula.specs.Formulas.{either}
use Rattle.cf_formula.specs.FormulaView.{formula_tree}
use Rattle.cf_formula.proofs.RewritingCode.{either_rewritten}
use Rattle.cf_formula.proofs.formula.Formula.+rewritten.Goals as goal

pub returns-in-Ok-rewritten-3 : goal.returns-in-Ok-rewritten-3
returns-in-Ok-rewritten-3 g t c =
    let tree : formula_tree (Either c.in-Either.a c.in-Either.b) ≡ either (formula_tree c.in-Either.a.value) (formula_tree c.in-Either.b.value) =
    search (rules, the_lemmas) in
    let whole : formula_tree c.args.self.now ≡ either (formula_tree c.deref-in-Either.result.now) (formula_tree c.deref-in-Ok-rewritten-2.result.now) =
    rw (c.deref-in-Either.ensures, c.deref-in-Ok-rewritten-2.ensures) (ap formula_tree c.in-Either.is ∙ tree) in
    either_rewritten (g.R.Rewriting.passes c.args.by.now) (g.R.Rewriting.low c.args.by.now) (g.R.Rewriting.zero c.args.by.now)
    (formula_tree c.args.self.now) (formula_tree c.deref-in-Either.result.now) (formula_tree c.deref-in-Ok-rewritten-2.result.now)
    (formula_tree c.in-Ok-rewritten-2.first) (formula_tree c.in-Ok-rewritten-3.second) c.disj_two.result whole
    c.in-Ok-rewritten-2.ensures.0 c.in-Ok-rewritten-2.ensures.1 c.in-Ok-rewritten-3.ensures.0 c.in-Ok-rewritten-3.ensures.1 c.disj_two.ensures

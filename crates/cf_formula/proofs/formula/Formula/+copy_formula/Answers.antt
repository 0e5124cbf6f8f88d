use Rattle.std.proofs.Common.{◌≡◌, ◌≤◌, ◌+◌, suc, ◌∙◌, ap, arith, rules}
use Rattle.cf_formula.specs.declared.formula.Formula.{Both, Either, the_lemmas}
use Rattle.cf_formula.specs.Formulas.{both, either}
use Rattle.cf_formula.specs.FormulaView.{formula_tree, size}
use Rattle.cf_formula.proofs.CopyCode.{and_next, or_next}
use Rattle.cf_formula.proofs.formula.Formula.+copy_formula.Goals as goal

pub copy_and-loop-left-preserved : goal.copy_and-loop-left-preserved
copy_and-loop-left-preserved t c =
    let tree : formula_tree (Both c.in-Both.a c.in-Both.b) ≡ both (formula_tree c.in-Both.a.value) (formula_tree c.in-Both.b.value) =
    search (rules, the_lemmas) in
    let whole : formula_tree c.loop-left.left.now ≡ both (formula_tree c.in-Both.a.value) (formula_tree c.deref-left.result.now) =
    rw c.deref-left.ensures (ap formula_tree c.in-Both.is ∙ tree) in
    let parts : size (formula_tree c.loop-left.left.now) ≡ suc (size (formula_tree c.in-Both.a.value) + size (formula_tree c.deref-left.result.now)) =
    ap size whole in
    let before : size (formula_tree c.loop-left.left.now) ≤ size (formula_tree c.args.second.now) = c.loop-left.invariant.smaller in record {
      whole =
          and_next c.loop-left.parts.items c.push-in-Both.new.self.items c.in_ok-try_copy-2.field-0 (formula_tree c.in-Both.a.value)
          (formula_tree c.deref-left.result.now) (formula_tree c.loop-left.left.now) (both (formula_tree c.args.first.now) (formula_tree c.args.second.now))
          whole (c.in_ok-try_copy-2.ensures ∙ ap formula_tree c.deref.ensures) c.in_ok-push-2.ensures.items c.loop-left.invariant.whole;
      smaller = omega arith;
    }

pub copy_or-loop-left-preserved : goal.copy_or-loop-left-preserved
copy_or-loop-left-preserved t c =
    let tree : formula_tree (Either c.in-Either.a c.in-Either.b) ≡ either (formula_tree c.in-Either.a.value) (formula_tree c.in-Either.b.value) =
    search (rules, the_lemmas) in
    let whole : formula_tree c.loop-left.left.now ≡ either (formula_tree c.in-Either.a.value) (formula_tree c.deref-left.result.now) =
    rw c.deref-left.ensures (ap formula_tree c.in-Either.is ∙ tree) in
    let parts : size (formula_tree c.loop-left.left.now) ≡ suc (size (formula_tree c.in-Either.a.value) + size (formula_tree c.deref-left.result.now)) =
    ap size whole in
    let before : size (formula_tree c.loop-left.left.now) ≤ size (formula_tree c.args.second.now) = c.loop-left.invariant.smaller in record {
      whole =
          or_next c.loop-left.parts.items c.push-in-Either.new.self.items c.in_ok-try_copy-2.field-0 (formula_tree c.in-Either.a.value)
          (formula_tree c.deref-left.result.now) (formula_tree c.loop-left.left.now) (either (formula_tree c.args.first.now) (formula_tree c.args.second.now))
          whole (c.in_ok-try_copy-2.ensures ∙ ap formula_tree c.deref.ensures) c.in_ok-push-2.ensures.items c.loop-left.invariant.whole;
      smaller = omega arith;
    }

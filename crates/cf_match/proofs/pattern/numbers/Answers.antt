use Rattle.std.proofs.Common.{[], ◌∷◌, ◌++◌, pos, arith, sym, ap, ◌∙◌}
use Rattle.std.proofs.lemmas.List.{map_more}
use Rattle.cf_tree.specs.declared.base.Base.TheVariants.{Int}
use Rattle.cf_match.proofs.pattern.numbers.Goals as goal

pub loop-factor-preserved : goal.loop-factor-preserved
loop-factor-preserved c =
    c.in_ok-push.ensures.items ∙ ap (λ all. all ++ Int ∷ []) c.loop-factor.invariant
    ∙ sym (map_more (λ _. Int) c.args.factors.now c.loop-factor._factor-index (pos 0) (omega (arith, c.loop-factor-test.true)))

use Rattle.std.proofs.Common.{◌≡◌, ◌∙◌, ℤ, pos, Option, Some, None, unwrap_or, refl, subst}
use Rattle.cf_num.specs.Limit.{within}
use Rattle.cf_tree.specs.Meaning.{chosen}
use Rattle.cf_eval.specs.Quick.{Finds}
use Rattle.cf_eval.specs.Reached.{met}
use Rattle.cf_eval.proofs.NarrowLemmas.{widened}
use Rattle.cf_eval.proofs.quick.chosen_of.Goals as goal

chosen_is : (o : Option ℤ) → unwrap_or o (pos 0) ≡ chosen o
chosen_is None = refl
chosen_is (Some z) = refl

pub returns : goal.returns
returns c =
    let wide = widened c.from.result c.unwrap_or.result (record { sfits = c.from.type_inv }) c.from.ensures (record { sfits = c.unwrap_or.type_inv }) in
    subst (λ v. Finds c.narrow.result (met (within v))) (wide ∙ c.unwrap_or.ensures ∙ chosen_is c.args.best) c.narrow.ensures

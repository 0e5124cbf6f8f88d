use Rattle.std.proofs.Common.{◌≡◌, false, subst, sym, ◌∙◌}
use Rattle.std.specs.Prelude.{IfOk}
use Rattle.cf_linear.specs.Views.{system_of}
use Rattle.cf_linear.proofs.MapLemmas.{back}
use Rattle.cf_equation.specs.Equations.{reduced}
use Rattle.cf_equation.proofs.MergeValues.{merge_is, merge_passes_is}
use Rattle.cf_equation.proofs.merge.merge.Goals as goal

pub returns-clause-value : goal.returns-clause-value
returns-clause-value c =
    let e = rw (
      back c.first_entry-a.result c.first_entry-a.ensures.fits,
      back c.first_entry-b.result c.first_entry-b.ensures.fits,
      c.first_entry-a.ensures.value,
      c.first_entry-b.ensures.value,
    ) at c.factors.ensures.value in
    subst (λ z. IfOk c.mix.result (λ r. reduced r ≡ z)) (merge_is (system_of c.args.system) c.args.x c.args.y c.factors.result e) c.mix.ensures.value

pub returns-clause-fits : goal.returns-clause-fits
returns-clause-fits c =
    let e = rw (
      back c.first_entry-a.result c.first_entry-a.ensures.fits,
      back c.first_entry-b.result c.first_entry-b.ensures.fits,
      c.first_entry-a.ensures.value,
      c.first_entry-b.ensures.value,
    ) at c.factors.ensures.value in
    subst (λ z. IfOk c.mix.result (λ r. z ≡ false)) (merge_passes_is (system_of c.args.system) c.args.x c.args.y c.factors.result e)
    c.mix.ensures.fits

pub returns-clause-past : goal.returns-clause-past
returns-clause-past c q =
    let e = rw (
      back c.first_entry-a.result c.first_entry-a.ensures.fits,
      back c.first_entry-b.result c.first_entry-b.ensures.fits,
      c.first_entry-a.ensures.value,
      c.first_entry-b.ensures.value,
    ) at c.factors.ensures.value in
    sym (merge_passes_is (system_of c.args.system) c.args.x c.args.y c.factors.result e) ∙ c.mix.ensures.past q

-- The block of a choose on a worked example, which is computed.
use Rattle.std.proofs.Common.{◌≡◌, refl, [], ◌∷◌}
use Rattle.cf_num.specs.Divisors.{gcd_by, factors_by}
use Rattle.cf_num.specs.Parts.{parts_of}
use Rattle.cf_linear.specs.Arm.{arm}
use Rattle.cf_linear.specs.Cases.{disjuncts, system_of_case, first_systems, write_atom}
use Rattle.cf_linear.specs.Chooses.{arms}
use Rattle.cf_linear.specs.Stages.{run, run_for, clean_stage, equation_stage, bound_stage, unknown_stage, row_stage, stage}
use Rattle.cf_linear.specs.Steps.{clean, mix, factors_of, merge, merge_passes, merge_factor, last, pick, searched, dropped, searched_by, bound, bound_passes}
use Rattle.cf_linear.specs.Steps.{bound_factor}
use Rattle.cf_elim.specs.declared.act.Act.TheVariants.{Clean, Drop}
use Rattle.cf_elim.specs.Acts.{acts_at, acts_for, traced}
use Rattle.cf_prove.specs.Tracing.{traced_block}
use Rattle.cf_cert.proofs.CertificateExamples.{choose, block, rounded}

-- the whole block of a choose
pub rounding-traced : traced_block choose ≡ block ((Clean ∷ Drop 3 ∷ Clean ∷ []) ∷ []) rounded
unfolding first_systems disjuncts system_of_case write_atom stage clean_stage equation_stage bound_stage unknown_stage row_stage clean mix factors_of merge merge_passes merge_factor last pick searched dropped searched_by bound bound_passes bound_factor gcd_by factors_by parts_of acts_at acts_for traced run run_for arms arm
rounding-traced = refl

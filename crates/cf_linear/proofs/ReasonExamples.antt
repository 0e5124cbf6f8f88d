-- Worked examples that hold down why a choose is refused, in words.
use Rattle.std.specs.Prelude.{◌≡◌, codes}
use Rattle.std.specs.Fmt.{digits}
use Rattle.std.proofs.Common.{refl}
use Rattle.cf_linear.specs.declared.refusal.LimitKind.TheVariants.{Sets, Cases, Rows, Columns, Search}
use Rattle.cf_linear.specs.declared.refusal.Refusal.TheVariants.{Past, Limit}
use Rattle.cf_linear.specs.Reasons.{refusal_text}

past : refusal_text Past ≡ codes "coefficient past 128 bits"
past = refl

limits : (refusal_text (Limit Sets 7) ≡ codes "Sets 7") × (refusal_text (Limit Cases 1025) ≡ codes "Cases 1025")
    × (refusal_text (Limit Rows 1001) ≡ codes "Rows 1001") × (refusal_text (Limit Columns 1002) ≡ codes "Columns 1002")
    × (refusal_text (Limit Search 2097152) ≡ codes "Search 2097152")
unfolding digits
limits = (refl, refl, refl, refl, refl)

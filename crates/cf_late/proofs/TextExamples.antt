-- The replies of late programs.
use Rattle.std.proofs.Common.{◌≡◌, pos, negsuc, [], ◌∷◌, refl}
use Rattle.std.specs.Prelude.{codes, true}
use Rattle.std.specs.Fmt.{digits}
use Rattle.cf_tree.specs.Values.{number, truth, values, no_solution}
use Rattle.cf_linear.specs.declared.refusal.LimitKind.TheVariants.{Sets, Cases, Rows, Columns, Search}
use Rattle.cf_linear.specs.declared.refusal.Refusal.TheVariants.{Past, Limit}
use Rattle.cf_late.specs.ChooseRun.{comes_to, overflow, refused}
use Rattle.cf_late.specs.Texts.{late_text}

text-values : late_text (comes_to (values (number (pos 14) ∷ number (negsuc 6) ∷ truth true ∷ []))) ≡ codes "14 -7 true"
unfolding digits
text-values = refl

text-none : late_text (comes_to (no_solution 2)) ≡ codes "no solution at choose 2"
unfolding digits
text-none = refl

text-overflow : late_text overflow ≡ codes "overflow"
text-overflow = refl

text-past : late_text (refused 3 Past) ≡ codes "choose 3: coefficient past 128 bits"
unfolding digits
text-past = refl

text-search : late_text (refused 1 (Limit Search 2097152)) ≡ codes "choose 1: Search 2097152"
unfolding digits
text-search = refl

text-kinds : (late_text (refused 1 (Limit Sets 7)) ≡ codes "choose 1: Sets 7") × (late_text (refused 1 (Limit Cases 2)) ≡ codes "choose 1: Cases 2")
    × (late_text (refused 1 (Limit Rows 2)) ≡ codes "choose 1: Rows 2") × (late_text (refused 1 (Limit Columns 2)) ≡ codes "choose 1: Columns 2")
unfolding digits
text-kinds = (refl, refl, refl, refl)

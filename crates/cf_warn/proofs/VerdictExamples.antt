-- Worked verdicts of small chooses: unique, two solutions, and two doubts.
use Rattle.std.proofs.Common.{◌≡◌, ◌≤◌, ◌<◌, ◌^◌, ◌-◌, pos, negsuc, sym, subst, [], ◌∷◌, Vec, Global, arith}
use Rattle.cf_tree.specs.declared.base.Base.TheVariants.{Int, Bool}
use Rattle.cf_linear.specs.declared.refusal.LimitKind.TheVariants.{Cases}
use Rattle.cf_linear.specs.declared.refusal.Refusal.TheVariants.{Limit}
use Rattle.cf_eval.specs.declared.value.Value.{Value as RunValue}
use Rattle.cf_eval.specs.declared.value.Value.TheVariants as ran
use Rattle.cf_warn.proofs.Examples.{three, three-limit, three-peak, three-unique, above, above-limit, above-peak, above-run, above-two, not_few, not_few-limit, most, most-limit, most-run}
use Rattle.cf_warn.specs.declared.answer.Doubt.TheVariants.{Refused, Overflow}
use Rattle.cf_warn.specs.declared.answer.UniquenessAnswer.TheVariants.{Unique, Two, Undecided}
use Rattle.cf_warn.specs.Verdicts.{IsUniqueness}

-- ---- the number 3 alone is the only one
three-verdict : IsUniqueness [] (Int ∷ []) 1 three Unique
three-verdict = (record { within = three-limit; fits = subst (λ n. n ≤ 2 ^ 127 - 1) (sym three-peak) (omega arith) }, three-unique)

-- ---- from -1 on there are -1 and 0
above-verdict : (sample first second : Vec RunValue Global) → sample.items ≡ ran.Int (negsuc 0) ∷ [] → first.items ≡ ran.Int (negsuc 0) ∷ [] →
    second.items ≡ ran.Int (pos 0) ∷ [] → IsUniqueness (Bool ∷ Int ∷ []) (Int ∷ []) 1 above (Two sample first second)
above-verdict sample first second a b c =
    rw (a, b, c) (record { within = above-limit; fits = subst (λ n. n ≤ 2 ^ 127 - 1) (sym above-peak) (omega arith) }, above-run, above-two)

-- ---- too many cases; a number past the limit
not_few-verdict : IsUniqueness [] (Int ∷ []) 1 not_few (Undecided (Refused (Limit Cases 2048)))
not_few-verdict = not_few-limit

most-verdict : IsUniqueness [] (Int ∷ []) 1 most (Undecided Overflow)
most-verdict = (most-limit, subst (λ n. 2 ^ 127 - 1 < n) (sym most-run) (omega arith))

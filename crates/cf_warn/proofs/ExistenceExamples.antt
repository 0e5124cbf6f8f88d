-- Worked verdicts of small chooses: outputs always, outputs missing, and a doubt.
use Rattle.std.proofs.Common.{inl, ◌≡◌, ◌≤◌, ◌<◌, ◌^◌, ◌-◌, pos, negsuc, refl, sym, subst, [], ◌∷◌, Vec, Global, arith}
use Rattle.cf_tree.specs.declared.base.Base.TheVariants.{Int}
use Rattle.cf_tree.specs.Values.{number}
use Rattle.cf_linear.specs.declared.refusal.LimitKind.TheVariants.{Search}
use Rattle.cf_linear.specs.declared.refusal.Refusal.TheVariants.{Limit}
use Rattle.cf_eval.specs.declared.value.Value.{Value as RunValue}
use Rattle.cf_eval.specs.declared.value.Value.TheVariants as ran
use Rattle.cf_warn.proofs.MissingExamples.{three, three-limit, three-tuples, three-peak, three-always, between, between-limit, between-tuples, between-peak, between-run, between-missing, many, many-tuples}
use Rattle.cf_warn.specs.declared.answer.Doubt.TheVariants.{Refused}
use Rattle.cf_warn.specs.declared.answer.ExistenceAnswer.TheVariants.{Always, Missing, Undecided}
use Rattle.cf_warn.specs.declared.no_outputs.TheConstants.{MOST_TUPLES}
use Rattle.cf_warn.specs.Verdicts.{IsExistence}

-- ---- the number 3 always exists
three-verdict : IsExistence [] (Int ∷ []) three Always
three-verdict = (
  record {
    few = subst (λ n. n ≤ MOST_TUPLES) (sym three-tuples) (omega arith);
    clear = record { within = three-limit; fits = subst (λ n. n ≤ 2 ^ 127 - 1) (sym three-peak) (omega arith) };
  },
  three-always,
)

-- ---- no double lies between 1 and 0
between-verdict : (sample : Vec RunValue Global) → sample.items ≡ ran.Int (pos 1) ∷ ran.Int (pos 0) ∷ [] → IsExistence (Int ∷ Int ∷ []) (Int ∷ []) between
    (Missing sample)
between-verdict sample e =
    rw e (
      record { few = subst (λ n. n ≤ MOST_TUPLES) (sym between-tuples) (omega arith); clear = record { within = between-limit; fits = between-peak } },
      ((number (negsuc 0) ∷ number (pos 0) ∷ []), between-run),
      between-missing,
    )

-- ---- too many tuples
many-verdict : IsExistence (Int ∷ []) (Int ∷ Int ∷ []) many (Undecided (Refused (Limit Search 1009)))
many-verdict = inl (
  subst (λ n. MOST_TUPLES < n) (sym many-tuples) (omega arith),
  subst (λ n. Refused (Limit Search 1009) ≡ Refused (Limit Search n))
      (sym many-tuples) refl,
)

-- Worked answers whether classes hold every number: they do, they miss one, the question is refused, the question is in doubt.
use Rattle.std.proofs.Common.{inl, inr, ◌≡◌, ◌≤◌, pos, refl, sym, subst, [], ◌∷◌, Vec, Global, arith}
use Rattle.cf_tree.specs.Values.{number}
use Rattle.cf_linear.specs.declared.refusal.LimitKind.TheVariants.{Cases}
use Rattle.cf_linear.specs.declared.refusal.Refusal.TheVariants.{Past, Limit}
use Rattle.cf_eval.specs.declared.value.Value.{Value}
use Rattle.cf_eval.specs.declared.value.Value.TheVariants as value
use Rattle.cf_warn.proofs.ClassExamples.{doubles, doubles-are, doubles-solved, doubles-tuples, doubles-limit, doubles-peak, doubles-always, mixed, mixed-are, mixed-solved, mixed-tuples, mixed-limit, mixed-peak, mixed-run, mixed-missing, many, many-refused, greatest, greatest-solved, greatest-tuples, greatest-limit}
use Rattle.cf_warn.proofs.ClassLaws.{every_number, no_class}
use Rattle.cf_warn.specs.declared.answer.Doubt.TheVariants.{Refused}
use Rattle.cf_warn.specs.declared.coverage.Cover.TheVariants as cover
use Rattle.cf_warn.specs.declared.no_outputs.TheConstants.{MOST_TUPLES}
use Rattle.cf_warn.specs.Covers.{IsCover}

-- ---- the even and the odd numbers are all numbers
doubles-cover : IsCover doubles cover.All
doubles-cover = (
  (
    doubles-solved,
    (
      record { few = subst (λ n. n ≤ MOST_TUPLES) (sym doubles-tuples) (omega arith); clear = record { within = doubles-limit; fits = doubles-peak } },
      doubles-always,
    ),
  ),
  every_number doubles doubles-are doubles-always,
)

-- ---- the even numbers and 3: the number 1 is missed
mixed-cover : (sample : Vec Value Global) → sample.items ≡ value.Int (pos 1) ∷ [] → IsCover mixed (cover.Misses (pos 1))
mixed-cover sample e = (
  (
    sample,
    e,
    (
      mixed-solved,
      (
        record {
          few = subst (λ n. n ≤ MOST_TUPLES) (sym mixed-tuples) (omega arith);
          clear = record { within = mixed-limit; fits = mixed-peak };
        },
        ((number (pos 0) ∷ []), rw e mixed-run),
        rw e mixed-missing,
      ),
    ),
  ),
  no_class mixed mixed-are (pos 1) mixed-missing,
)

-- ---- more classes than cases: the question itself is refused
many-cover : IsCover many (cover.Undecided (Refused (Limit Cases 1025)))
many-cover = inl (Limit Cases 1025, refl, many-refused)

-- ---- the greatest number: the question is solved, and whether its output exists is in doubt
greatest-cover : IsCover greatest (cover.Undecided (Refused Past))
greatest-cover = inr (greatest-solved, inr (subst (λ n. n ≤ MOST_TUPLES) (sym greatest-tuples) (omega arith), greatest-limit))

-- What a step of a steps file makes of a system, or why it does not apply.
use Rattle.std.specs.Prelude.{ℕ, suc, ◌==◌, nat_lt, ℤ, ◌*ℤ◌, ◌-ℤ◌, List, [], ◌∷◌, ◌++◌, take, drop, slice_get, Bool, not, ◌&&◌, ◌||◌, Option, Some, None}
use Rattle.std.specs.Prelude.{Result, Ok, Err, if◌then◌else◌}
use Rattle.std.specs.List.{list_any, fold}
use Rattle.cf_num.specs.Limit.{IsWithin}
use Rattle.cf_linear.specs.declared.refusal.LimitKind.TheVariants.{Search}
use Rattle.cf_linear.specs.declared.refusal.Refusal.{Refusal}
use Rattle.cf_linear.specs.declared.refusal.Refusal.TheVariants.{Past, Limit}
use Rattle.cf_linear.specs.Rows.{Row, entry, is_zero, passes}
use Rattle.cf_linear.specs.Systems.{System, Answer}
use Rattle.cf_linear.specs.Steps.{has_column, present, is_unit, lowers, uppers, clean, mix, mix_passes, last, last_passes, searched, dropped, drop_passes}
use Rattle.cf_linear.specs.Stages.{Limits, first_count, times_bound}
use Rattle.cf_elim.specs.declared.act.Act.{Act}
use Rattle.cf_elim.specs.declared.act.Act.TheVariants.{Clean, Mix, Last, Search as SearchAct, Drop}
use Rattle.cf_cert.specs.declared.verdict.Why.{Why}
use Rattle.cf_cert.specs.declared.verdict.Why.TheVariants.{Unknown, Factor, Single, Held, Exact, Refused}

-- each number of a Mix is within the limit
abbrev pub IsWithinAct : Act → Type 0
IsWithinAct Clean = Unit {0}
IsWithinAct (Mix x y a b c d) = IsWithin a × IsWithin b × IsWithin c × IsWithin d
IsWithinAct (Last e) = Unit {0}
IsWithinAct (SearchAct x lower) = Unit {0}
IsWithinAct (Drop x) = Unit {0}

-- what the step makes, or why it does not apply
abbrev pub Applied : Type 0
Applied = Result Answer Why

abbrev pub rejected_if : Bool → Why → Applied → Applied
rejected_if b w a = (if b then Err w else a)

abbrev pub refused_by : Option Refusal → Applied → Applied
refused_by (Some r) a = Err (Refused r)
refused_by None a = a

-- whether an equation holds x
abbrev pub is_held : System → ℕ → Bool
is_held m x = list_any (λ r. not (is_zero (entry r x))) m.equations

-- whether a lower and an upper bound of x both have a coefficient above 1
abbrev pub has_inexact : List Row → ℕ → Bool
has_inexact rows x = list_any (λ l. list_any (λ u. not (is_unit (entry l x) || is_unit (entry u x))) (uppers x rows)) (lowers x rows)

abbrev pub determinant : ℤ → ℤ → ℤ → ℤ → ℤ
determinant a b c d = a *ℤ d -ℤ b *ℤ c

-- whether a product or the difference passes the limit of numbers
abbrev pub determinant_passes : ℤ → ℤ → ℤ → ℤ → Bool
determinant_passes a b c d = passes (a *ℤ d) || passes (b *ℤ c) || passes (determinant a b c d)

-- the end of the equation e, which has these unknowns and stands beside the others: Rows, Columns, Past
abbrev pub last_of : Limits → System → Row → List Row → List ℕ → Applied
last_of l m e rest [] = Err Single
last_of l m e rest (u ∷ []) =
    refused_by (first_count l (last m e rest u).system) (
    rejected_if (last_passes m e rest u) (Refused Past) (
    Ok (last m e rest u)))
last_of l m e rest (u ∷ w ∷ us) = Err Single

-- equation number i, and those beside it
abbrev pub last_at : Limits → System → ℕ → Option Row → Applied
last_at l m i None = Err Single
last_at l m i (Some e) = last_of l m e (take i m.equations ++ drop (suc i) m.equations) (present m.unknown e)

-- what Clean leaves is counted
abbrev pub clean_applied : Limits → System → Applied
clean_applied l m = refused_by (first_count l (clean m).system) (Ok (clean m))

-- the mix, if its rows are within the limit of numbers
abbrev pub mix_kept : System → ℕ → ℕ → ℤ → ℤ → ℤ → ℤ → Applied
mix_kept m x y a b c d = rejected_if (mix_passes m x y a b c d) (Refused Past) (Ok (mix m x y a b c d))

-- x and y give way to two new unknowns
abbrev pub mix_applied : System → ℕ → ℕ → ℤ → ℤ → ℤ → ℤ → Applied
mix_applied m x y a b c d =
    rejected_if (not (has_column m.unknown x && has_column m.unknown y) || (x == y)) Unknown (
    rejected_if (determinant_passes a b c d) (Refused Past) (
    rejected_if (not (is_unit (determinant a b c d))) Factor (
    mix_kept m x y a b c d)))

-- a step on x, which is to be an unknown that no equation holds
abbrev pub on_unheld : System → ℕ → Applied → Applied
on_unheld m x a = rejected_if (not (has_column m.unknown x)) Unknown (rejected_if (is_held m x) Held a)

-- what a search leaves, if its tuples, behind n of those before it, are within their limit
abbrev pub search_kept : Limits → ℕ → Answer → Applied
search_kept l n a =
    rejected_if (nat_lt l.search (fold times_bound n a.bounds)) (Refused (Limit Search (fold times_bound n a.bounds))) (Ok a)

-- the search of x on a side, where the searches before it have n tuples
abbrev pub search_applied : Limits → ℕ → System → ℕ → Bool → Applied
search_applied l n m x lower = on_unheld m x (search_kept l n (searched m x lower))

-- the drop of x
abbrev pub drop_applied : Limits → System → ℕ → Applied
drop_applied l m x =
    on_unheld m x (
    rejected_if (has_inexact m.inequalities x) Exact (
    refused_by (first_count l (dropped m x).system) (
    rejected_if (drop_passes m x) (Refused Past) (
    Ok (dropped m x)))))

-- the step, where the searches before it have n tuples
unfoldable pub apply : Limits → ℕ → System → Act → Applied
apply l n m Clean = clean_applied l m
apply l n m (Mix x y a b c d) = mix_applied m x y a b c d
apply l n m (Last i) = last_at l m i (slice_get m.equations i)
apply l n m (SearchAct x lower) = search_applied l n m x lower
apply l n m (Drop x) = drop_applied l m x

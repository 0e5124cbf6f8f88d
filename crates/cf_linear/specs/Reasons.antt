-- Why a choose is refused, in words.
use Rattle.std.specs.Prelude.{List, ℕ, [], ◌∷◌, codes, decimal}
use Rattle.std.specs.List.{concat}
use Rattle.cf_linear.specs.declared.reason.Reason.{Reason}
use Rattle.cf_linear.specs.declared.refusal.LimitKind.{LimitKind}
use Rattle.cf_linear.specs.declared.refusal.LimitKind.TheVariants as kind
use Rattle.cf_linear.specs.declared.refusal.Refusal.{Refusal}
use Rattle.cf_linear.specs.declared.refusal.Refusal.TheVariants as refusal

abbrev pub kind_text : LimitKind → List ℕ
kind_text kind.Sets = codes "Sets"
kind_text kind.Cases = codes "Cases"
kind_text kind.Rows = codes "Rows"
kind_text kind.Columns = codes "Columns"
kind_text kind.Search = codes "Search"

-- why a choose is refused
abbrev pub refusal_text : Refusal → List ℕ
refusal_text refusal.Past = codes "coefficient past 128 bits"
refusal_text (refusal.Limit kind number) = concat (kind_text kind ∷ codes " " ∷ decimal number ∷ [])

abbrev pub reason_text : Reason → List ℕ
reason_text r = concat (r.words.now ∷ r.gap.now ∷ r.count.now ∷ [])

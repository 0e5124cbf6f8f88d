-- How a choose ends.
use Rattle.std.proofs.Common.{◌≡◌, pos, [], ◌∷◌, refl}
use Rattle.std.specs.Prelude.{Some, None}
use Rattle.cf_tree.specs.CodeTree.{code_lit}
use Rattle.cf_tree.specs.Values.{number}
use Rattle.cf_linear.specs.declared.refusal.LimitKind.TheVariants.{Search}
use Rattle.cf_linear.specs.declared.refusal.Refusal.TheVariants.{Limit}
use Rattle.cf_late.specs.ChooseRun.{overflow, refused, gives, solve_run, choose_run}

-- 2^127 - 1, and one more
solve-values : solve_run (code_lit (pos 170141183460469231731687303715884105727)) [] ≡ gives (number (pos 170141183460469231731687303715884105727) ∷ [])
solve-values = refl

solve-past : solve_run (code_lit (pos 170141183460469231731687303715884105728)) [] ≡ overflow
solve-past = refl

choose-refused : choose_run (Some (Limit Search 5)) 7 (code_lit (pos 1)) [] ≡ refused 7 (Limit Search 5)
choose-refused = refl

choose-runs : choose_run None 7 (code_lit (pos 1)) [] ≡ gives (number (pos 1) ∷ [])
choose-runs = refl

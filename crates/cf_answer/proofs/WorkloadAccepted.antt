-- The source of each workload spells a program that breaks no rule, and each choose of which passes no limit.
use Rattle.std.proofs.Common.{◌≡◌, ℕ, zero, suc, ◌-◌, ◌≤◌, List, [], ◌∷◌, ◌++◌, length, map, All, None, refl, ap, ap₂, ◌∙◌, sym, subst, arith}
use Rattle.std.specs.List.{range_with_len}
use Rattle.std.proofs.lemmas.List.{length-map}
use Rattle.std.proofs.lemmas.List.FromFn.{length-range_with_len}
use Rattle.std.proofs.lemmas.List.Elements.{All-nil, All-cons, All-head, All-tail, All-contains}
use Rattle.cf_tree.specs.ChooseTree.{ChooseTree}
use Rattle.cf_tree.specs.DefView.{DefTree, item_def}
use Rattle.cf_tree.specs.ExprTree.{ExprTree}
use Rattle.cf_tree.specs.declared.base.Base.TheVariants.{Int}
use Rattle.cf_linear.specs.Chooses.{limit as first_limit}
use Rattle.cf_parse.specs.Programs.{IsProgram}
use Rattle.cf_program.specs.Lowered.{lowered}
use Rattle.cf_program.specs.declared.linearity.Linearity.TheVariants.{Plain}
use Rattle.cf_build.specs.Chooses.{chooses_in, all_chooses, limit_of}
use Rattle.cf_gen.specs.Workload.{coefficient, coefficients, gen_source}
use Rattle.cf_gen.proofs.ShortSources.{source_is_short}
use Rattle.cf_answer.specs.Limits.{text_limit, of_source}
use Rattle.cf_answer.specs.Sources.{Spelled, IsTypedBy, IsTypedSource}
use Rattle.cf_answer.specs.Workloads.{GenIsAccepted}
use Rattle.cf_answer.proofs.SourceLemmas.{typed_unrefused}
use Rattle.cf_answer.proofs.WorkloadLaw.{is_program, coefficients_are}
use Rattle.cf_answer.proofs.WorkloadPicks.{IsCoefficient, coefficient_within}
use Rattle.cf_answer.proofs.WorkloadShapes.{AreDefs, IsFunction, calls_of, function_rel}
use Rattle.cf_answer.proofs.WorkloadSource.{source_spelled, gen_edition}
use Rattle.cf_answer.proofs.WorkloadTyped.{AreTyped, IsChecked, workload_checked}

-- ---- limits
abbrev IsWithin : ChooseTree → Type 0
IsWithin q = limit_of q ≡ None

all_within : (qs rs : List ChooseTree) → All IsWithin qs → All IsWithin rs → All IsWithin (qs ++ rs)
all_within [] rs h k = k
all_within (q ∷ qs) rs h k = All-cons IsWithin q (qs ++ rs) (All-head IsWithin q qs h) (all_within qs rs (All-tail IsWithin q qs h) k)

-- a function has the one choose with its coefficient
function_within : (c : ℕ) (e : ExprTree) → IsCoefficient c → IsFunction c e → All IsWithin (chooses_in (lowered e))
function_within c e fit is =
    subst (λ x. All IsWithin (chooses_in (lowered x))) (sym is.3)
    (All-cons IsWithin _ [] (ap (λ bs. first_limit bs (Int ∷ Int ∷ []) (function_rel c)) is.2 ∙ coefficient_within c fit) (All-nil IsWithin))

-- main has none
calls_choose_nothing : (m : ℕ) → chooses_in (lowered (calls_of m)) ≡ []
calls_choose_nothing zero = refl
calls_choose_nothing (suc m) = ap (λ qs. qs ++ []) (calls_choose_nothing m)

chooses_within : (m : ℕ) (cs : List ℕ) (gs : List DefTree) → AreTyped m cs gs → All IsCoefficient cs → All IsWithin (all_chooses gs)
chooses_within m cs [] are fit = absurd are
chooses_within m [] (d ∷ ds) are fit =
    let none : all_chooses (d ∷ ds) ≡ [] =
    ap₂ (λ e gs. chooses_in (lowered e) ++ all_chooses gs) are.0 are.2 ∙ ap (λ qs. qs ++ []) (calls_choose_nothing m) in
    subst (All IsWithin) (sym none) (All-nil IsWithin)
chooses_within m (c ∷ cs) (d ∷ ds) are fit =
    all_within (chooses_in (lowered d.body)) (all_chooses ds) (function_within c d.body (All-head IsCoefficient c cs fit) are.0)
    (chooses_within m cs ds are.2 (All-tail IsCoefficient c cs fit))

-- ---- the text
short_source : (n : ℕ) → 1 ≤ n → n ≤ 100 → length (gen_source n) ≤ text_limit
unfolding text_limit
short_source n l h = source_is_short n l h

module _ (n : ℕ) (l : 1 ≤ n) (h : n ≤ 100) where
  many : length (coefficients n) ≡ n
  many = length-map (range_with_len 1 n) (coefficient n) ∙ length-range_with_len 1 n

  -- the program that it spells breaks no rule
  workload_is_checked : IsChecked (coefficients n) (source_spelled n l h).3
  workload_is_checked =
      let e = many in
      let m : n - 1 ≡ length (coefficients n) - 1 = omega arith in
      workload_checked (coefficients n) (source_spelled n l h).3 (omega arith) (omega arith)
      (subst (λ k. AreDefs k 1 (coefficients n) (source_spelled n l h).3) m (source_spelled n l h).4)

  typed_source : IsTypedSource (gen_source n) workload_is_checked.typed
  typed_source =
      let k = source_spelled n l h in
      let two = sym (gen_edition n l) in
      let program = map item_def k.3 in (
        program,
        subst (λ e. Spelled (of_source e) (IsProgram e) (gen_source n) program) two
            (k.0, k.1, (short_source n l h, ([], k.2, refl)), is_program (n - 1) 1 (coefficients n) k.3 k.0 k.4 k.5),
        subst (λ e. IsTypedBy e Plain program workload_is_checked.typed) two workload_is_checked.is,
      )

  workload_within : All IsWithin (all_chooses workload_is_checked.typed.defs)
  workload_within =
      let w = workload_is_checked in
      chooses_within (length (coefficients n) - 1) (coefficients n) w.typed.defs w.defs (coefficients_are n 1 n)

pub gen_accepted : GenIsAccepted
gen_accepted n l h = record {
  typed = (workload_is_checked n l h).typed;
  spelled = typed_source n l h;
  accepted = λ f r. typed_unrefused (gen_source n) (workload_is_checked n l h).typed f (typed_source n l h)
      (λ q m. All-contains IsWithin (all_chooses (workload_is_checked n l h).typed.defs) q (workload_within n l h) m) r;
}

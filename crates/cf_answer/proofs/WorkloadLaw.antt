-- The sum that a workload writes is that of quotients and remainders.
use Rattle.std.proofs.Common.{◌≡◌, ℕ, zero, suc, ◌+◌, ◌-◌, ◌*◌, ◌^◌, ◌≤◌, ℤ, List, [], ◌∷◌, length, map, All, Ok, refl, sym, ap, ◌∙◌, subst, arith}
use Rattle.std.specs.List.{range_with_len}
use Rattle.std.proofs.lemmas.List.{length-map}
use Rattle.std.proofs.lemmas.List.FromFn.{length-range_with_len}
use Rattle.std.proofs.lemmas.List.Elements.{All-nil, All-cons}
use Rattle.cf_lex.specs.declared.token.Token.{Token}
use Rattle.cf_lex.specs.Tokens.{at_end}
use Rattle.cf_lex.proofs.StepLemmas.{LexesTo-once}
use Rattle.cf_tree.specs.declared.target.RawTarget.{RawTarget}
use Rattle.cf_tree.specs.declared.base.Edition.TheVariants.{Two}
use Rattle.cf_tree.specs.DefView.{RawDefTree, RawItemTree, item_def}
use Rattle.cf_io.specs.Lines.{lines}
use Rattle.cf_parse.specs.Programs.{SpellsAll, IsProgram}
use Rattle.cf_parse.proofs.Programs.{one_law}
use Rattle.cf_program.specs.Checked.{TypedTree, checked}
use Rattle.cf_program.specs.declared.linearity.Linearity.TheVariants.{Plain}
use Rattle.cf_gen.specs.Workload.{coefficient, coefficients, gen_source, gen_lines, gen_sum}
use Rattle.cf_answer.specs.Limits.{of_source}
use Rattle.cf_answer.specs.Owed.{IsSum, sum_line}
use Rattle.cf_answer.specs.Sources.{Spelled, IsTypedBy, IsTypedSource}
use Rattle.cf_answer.specs.Workloads.{SumsAreOfQuotients}
use Rattle.cf_answer.proofs.WorkloadPicks.{IsCoefficient, workload_picks}
use Rattle.cf_answer.proofs.WorkloadShapes.{AreDefs}
use Rattle.cf_answer.proofs.WorkloadSource.{source_spelled, gen_edition}
use Rattle.cf_answer.proofs.WorkloadSum.{workload_sum}
use Rattle.cf_answer.proofs.WorkloadTyped.{workload_typed}

pub is_program : (m i : ℕ) (cs : List ℕ) (ds : List RawDefTree) (ts : List Token) → AreDefs m i cs ds → SpellsAll Two 200 (map item_def ds) ts →
    IsProgram Two (map item_def ds) ts
is_program m i cs [] ts are h = absurd are
is_program m i cs (d ∷ ds) ts are h = h

-- the program that the source of a workload spells has its functions
record IsOfDefs (n : ℕ) (program : List RawItemTree) : Type 0 where
  defs : List RawDefTree
  is : program ≡ map item_def defs
  are : AreDefs (n - 1) 1 (coefficients n) defs

only_program : (n : ℕ) → 1 ≤ n → n ≤ 100 → (program : List RawItemTree) → Spelled (of_source Two) (IsProgram Two) (gen_source n) program → IsOfDefs n program
only_program n l h program s =
    let k = source_spelled n l h in
    let same = LexesTo-once Two (2 ^ 127 - 1) (gen_source n) k.0 s.0 k.1 s.1 at_end at_end ([], k.2, refl) s.2.1 in
    record {
      defs = k.3;
      is = sym (one_law Two s.0 (map item_def k.3) program (subst (IsProgram Two (map item_def k.3)) same.0
          (is_program (n - 1) 1 (coefficients n) k.3 k.0 k.4 k.5)) s.3);
      are = k.4;
    }

pub coefficients_are : (n i k : ℕ) → All IsCoefficient (map (coefficient n) (range_with_len i k))
coefficients_are n i zero = All-nil IsCoefficient
coefficients_are n i (suc k) = All-cons IsCoefficient (coefficient n i) (map (coefficient n) (range_with_len (i + 1) k)) (omega arith, omega arith)
    (coefficients_are n (i + 1) k)

typed_in : (n : ℕ) → 1 ≤ n → (typed : TypedTree) → IsTypedSource (gen_source n) typed →
    (program : List RawItemTree) × Spelled (of_source Two) (IsProgram Two) (gen_source n) program × (checked Two Plain program ≡ Ok typed)
typed_in n l typed (program, s, is) =
    let two = gen_edition n l in
    (program, subst (λ e. Spelled (of_source e) (IsProgram e) (gen_source n) program) two s, subst (λ e. IsTypedBy e Plain program typed) two is)

sum_is : (n passes : ℕ) (t : RawTarget) (typed : TypedTree) (sum : ℤ) → 1 ≤ n → n ≤ 100 → IsTypedSource (gen_source n) typed →
    IsSum t typed passes (lines (gen_lines n)) sum → sum ≡ gen_sum n
sum_is n passes t typed sum l h spelled is =
    let many : length (coefficients n) ≡ n = length-map (range_with_len 1 n) (coefficient n) ∙ length-range_with_len 1 n in
    let m : n - 1 ≡ length (coefficients n) - 1 = omega arith in
    let s = typed_in n l typed spelled in
    let p = only_program n l h s.0 s.1 in
    let w = workload_typed (coefficients n) p.defs typed (omega arith) (omega arith)
    (subst (λ k. AreDefs k 1 (coefficients n) p.defs) m p.are) (subst (λ items. checked Two Plain items ≡ Ok typed) p.is s.2) in
    workload_sum n passes t typed sum w.1
    (λ a near. workload_picks (coefficients n) typed.defs typed.main a (omega arith) (omega arith) near (coefficients_are n 1 n) w.0) is

pub sums_are : SumsAreOfQuotients
sums_are n given passes ls text l h o = o.6 ∙ ap (sum_line (n * n)) (sum_is n (length passes) o.0 o.2 o.4 l h o.3 o.5)

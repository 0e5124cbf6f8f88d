-- Blocks for whole chooses: certified ones, and the first fault of others.
use Rattle.std.proofs.Common.{◌≡◌, ◌-◌, ◌^◌, ℕ, pos, negsuc, refl, List, [], ◌∷◌, true, Some, None, Ok, Err, inl, inr, map, ap}
use Rattle.cf_num.specs.Divisors.{gcd_by, factors_by}
use Rattle.cf_tree.specs.declared.base.Base.TheVariants.{Int, Set}
use Rattle.cf_tree.specs.declared.base.Order.TheVariants.{Ne, Le, Ge}
use Rattle.cf_tree.specs.CodeTree.{CodeTree, ArmTree, arm_more, code_lit, code_var, code_sum, code_mul, code_div, code_compare, code_divides, code_solve}
use Rattle.cf_tree.specs.CodeTree.{let_item, need_item, arm_of, arms_of, codes_of, items_of}
use Rattle.cf_tree.specs.DefView.{TargetTree}
use Rattle.cf_tree.specs.RelTree.{term_lit, term_var, term_sub, term_mul, RelTree, rel_true, rel_compare, rel_and}
use Rattle.cf_linear.specs.declared.refusal.LimitKind.TheVariants.{Cases, Sets}
use Rattle.cf_linear.specs.declared.refusal.Refusal.TheVariants.{Past, Limit}
use Rattle.cf_linear.specs.Arm.{arm}
use Rattle.cf_linear.specs.Cases.{disjuncts, case_count, system_of_case, first_systems, write_atom, written_passes}
use Rattle.cf_linear.specs.Stages.{limits}
use Rattle.cf_linear.specs.Steps.{clean, last, searched, dropped}
use Rattle.cf_linear.specs.Systems.{System, Answer, no_answer}
use Rattle.cf_elim.specs.declared.act.Act.{Act}
use Rattle.cf_elim.specs.declared.act.Act.TheVariants.{Clean, Last, Search, Drop}
use Rattle.cf_steps.specs.Blocks.{BlockTree}
use Rattle.cf_cert.specs.declared.verdict.Verdict.TheVariants.{Yes, Rejected}
use Rattle.cf_cert.specs.declared.verdict.Why.TheVariants.{Exact, Left, Blocks, Code, Refused}
use Rattle.cf_cert.specs.Applying.{apply}
use Rattle.cf_tree.specs.ChooseTree.{ChooseTree}
use Rattle.cf_cert.specs.Certifying.{layout, Followed, follow, eliminated, Certifies}
use Rattle.cf_cert.proofs.JudgeLaws.{code_differs}
use Rattle.cf_cert.specs.Judging.{case_fault, fault_before_code, IsVerdict}

-- a <= 2 * x && 2 * x <= b
abbrev rounding : RelTree
rounding = rel_and (rel_compare Le (term_var 0) (term_mul (term_lit (pos 2)) (term_var 2))) (rel_compare Le (term_mul (term_lit (pos 2)) (term_var 2))
    (term_var 1))

abbrev pub choose : ChooseTree
choose = record { number = 1; names = []; scope = Int ∷ Int ∷ []; outputs = Int ∷ []; relation = rounding }

abbrev pub block : List (List Act) → ArmTree → BlockTree
block cases a = record { number = 1; truths = []; cases = cases; target = record { params = Int ∷ Int ∷ []; results = Int ∷ []; code = code_solve 1 (arms_of (a ∷ [])) } }

-- what the steps make
abbrev made_by : System → Followed → Answer
made_by m (Ok a) = a
made_by m (Err f) = no_answer m

abbrev answers : ChooseTree → List Act → List Answer
answers q acts = map (λ m. made_by m (eliminated limits m acts)) (first_systems (layout q) q.relation)

-- ---- the steps of the trace
abbrev pub rounded : ArmTree
rounded = arm_of [] (items_of (
    let_item (code_div (code_mul (code_lit (negsuc 0)) (code_var 0)) (pos 2)) ∷
    let_item (code_div (code_var 1) (pos 2)) ∷
    need_item (code_compare Ge (code_sum (codes_of (code_var 2 ∷ code_var 3 ∷ []))) (code_lit (pos 0))) ∷
    let_item (code_mul (code_lit (negsuc 0)) (code_var 2)) ∷ []))
    (codes_of (code_var 4 ∷ []))

abbrev traced : List Act
traced = Clean ∷ Drop 3 ∷ Clean ∷ []

pub rounding-certified : Certifies choose (block (traced ∷ []) rounded)
unfolding first_systems disjuncts system_of_case write_atom case_count written_passes eliminated follow apply clean dropped arm gcd_by factors_by
rounding-certified = record { number = refl; counts = refl; written = refl; answers = answers choose traced; cases = (refl, tt); target = refl }

-- ---- other steps for the same choose
abbrev searched_arm : ArmTree
searched_arm = arm_of (2 ∷ []) (items_of (
    need_item (code_divides (pos 2) (code_sum (codes_of (code_var 0 ∷ code_var 2 ∷ [])))) ∷
    let_item (code_div (code_sum (codes_of (code_var 0 ∷ code_var 2 ∷ []))) (pos 2)) ∷
    need_item (code_compare Ge (code_sum (codes_of (code_var 1 ∷ code_mul (code_lit (negsuc 1)) (code_var 3) ∷ []))) (code_lit (pos 0))) ∷
    let_item (code_var 3) ∷
    let_item (code_var 4) ∷ []))
    (codes_of (code_var 5 ∷ []))

abbrev searching : List Act
searching = Search 3 true ∷ Drop 3 ∷ Last 0 ∷ Clean ∷ []

pub search-certified : Certifies choose (block (searching ∷ []) searched_arm)
unfolding first_systems disjuncts system_of_case write_atom case_count written_passes eliminated follow apply clean searched dropped last arm gcd_by factors_by
search-certified = record { number = refl; counts = refl; written = refl; answers = answers choose searching; cases = (refl, tt); target = refl }

-- ---- faults
-- without its first Clean
pub early-drop : fault_before_code choose (block ((Drop 3 ∷ Clean ∷ []) ∷ []) rounded) ≡ Some (1, 1, Exact)
unfolding fault_before_code case_fault first_systems disjuncts system_of_case write_atom case_count written_passes eliminated follow apply clean dropped gcd_by factors_by
early-drop = refl

pub early-drop-verdict : IsVerdict (choose ∷ []) (block ((Drop 3 ∷ Clean ∷ []) ∷ []) rounded ∷ []) (Rejected 1 1 1 Exact)
early-drop-verdict = inr ((1, 1, Exact), inl early-drop, refl)

pub unfinished : fault_before_code choose (block ((Clean ∷ Drop 3 ∷ []) ∷ []) rounded) ≡ Some (1, 3, Left)
unfolding fault_before_code case_fault first_systems disjuncts system_of_case write_atom case_count written_passes eliminated follow apply clean dropped gcd_by factors_by
unfinished = refl

pub no-fault : fault_before_code choose (block (traced ∷ []) searched_arm) ≡ None
unfolding fault_before_code case_fault first_systems disjuncts system_of_case write_atom case_count written_passes eliminated follow apply clean dropped gcd_by factors_by
no-fault = refl

-- the bounds of a code's first arm
abbrev bounds_in : CodeTree → List ℕ
bounds_in (code_solve n (arm_more (arm_of bounds is gs) arms)) = bounds
bounds_in c = []

other-code : Certifies choose (block (traced ∷ []) searched_arm) → ⊥
unfolding first_systems disjuncts system_of_case write_atom case_count written_passes eliminated follow apply clean dropped arm gcd_by factors_by
other-code c =
    code_differs choose (block (traced ∷ []) searched_arm) (record {
      number = refl;
      counts = refl;
      written = refl;
      answers = answers choose traced;
      cases = (refl, tt);
    })
    (λ e. let g : ◌≡◌ {A = List ℕ} (2 ∷ []) [] = ap (λ (t : TargetTree). bounds_in t.code) e in cc) c

pub other-code-verdict : IsVerdict (choose ∷ []) (block (traced ∷ []) searched_arm ∷ []) (Rejected 1 0 0 Code)
other-code-verdict = inr ((0, 0, Code), inr (no-fault, other-code, refl), refl)

pub too-many-cases : fault_before_code choose (block (traced ∷ traced ∷ []) rounded) ≡ Some (0, 0, Blocks)
unfolding fault_before_code case_fault first_systems disjuncts system_of_case write_atom case_count written_passes
too-many-cases = refl

pub no-cases : fault_before_code choose (block [] rounded) ≡ Some (0, 0, Blocks)
unfolding fault_before_code case_fault first_systems disjuncts system_of_case write_atom case_count written_passes
no-cases = refl

pub cases-before-steps : fault_before_code choose (block ((Drop 9 ∷ []) ∷ [] ∷ []) rounded) ≡ Some (0, 0, Blocks)
unfolding fault_before_code case_fault first_systems disjuncts system_of_case write_atom case_count written_passes
cases-before-steps = refl

-- the second of two cases: x != a
abbrev apart : ChooseTree
apart = record { number = 1; names = []; scope = Int ∷ []; outputs = Int ∷ []; relation = rel_compare Ne (term_var 0) (term_var 1) }

pub second-case : fault_before_code apart (block ((Drop 2 ∷ []) ∷ [] ∷ []) rounded) ≡ Some (2, 1, Left)
unfolding fault_before_code case_fault first_systems disjuncts system_of_case write_atom case_count written_passes eliminated follow apply dropped
second-case = refl

-- ---- the order of faults of the choose as a whole
abbrev all_sets : ℕ → RelTree → ChooseTree
all_sets n rel = record { number = n; names = []; scope = []; outputs = Set ∷ Set ∷ Set ∷ Set ∷ Set ∷ Set ∷ Set ∷ []; relation = rel }

abbrev doubled : RelTree → RelTree
doubled r = rel_and r r

-- 2^16 cases of rows past the limit
abbrev wide : RelTree
wide = doubled (doubled (doubled (doubled (rel_compare Ne (term_sub (term_var 0) (term_lit (pos (2 ^ 127 - 1)))) (term_lit (pos 0))))))

pub number-first : fault_before_code (all_sets 2 wide) (block [] rounded) ≡ Some (0, 0, Blocks)
unfolding fault_before_code
number-first = refl

pub then-sets : fault_before_code (all_sets 1 wide) (block [] rounded) ≡ Some (0, 0, Refused (Limit Sets 7))
unfolding fault_before_code
then-sets = refl

pub then-cases : fault_before_code (record { number = 1; names = []; scope = []; outputs = Int ∷ []; relation = wide }) (block [] rounded) ≡
    Some (0, 0, Refused (Limit Cases 65536))
unfolding fault_before_code case_count
then-cases = refl

pub then-rows : fault_before_code (record {
  number = 1;
  names = [];
  scope = [];
  outputs = Int ∷ [];
  relation = rel_compare Ne (term_sub (term_var 0) (term_lit (pos (2 ^ 127 - 1)))) (term_lit (pos 0));
}) (block [] rounded) ≡ Some (0, 0, Refused Past)
unfolding fault_before_code case_count written_passes write_atom
then-rows = refl

-- ---- blocks that are missing or too many
pub missing : IsVerdict (choose ∷ []) [] (Rejected 1 0 0 Blocks)
missing = refl

pub second-missing : IsVerdict (choose ∷ record {
  number = 5;
  names = [];
  scope = [];
  outputs = [];
  relation = rel_true;
} ∷ []) (block (traced ∷ []) rounded ∷ []) (Rejected 5 0 0 Blocks)
second-missing = inl (rounding-certified, refl)

pub beyond : IsVerdict [] (record {
  number = 7;
  truths = [];
  cases = [];
  target = record {
    params = [];
    results = [];
    code = code_lit (pos 0);
  };
} ∷ []) (Rejected 7 0 0 Blocks)
beyond = refl

pub nothing : IsVerdict [] [] Yes
nothing = refl

pub verified : IsVerdict (choose ∷ []) (block (traced ∷ []) rounded ∷ []) Yes
verified = inl (rounding-certified, refl)

-- The text of a choose: its relation, what each arm needs and gives, and goals of which none has a solution.
use Rattle.std.specs.Prelude.{ℕ, suc, ◌+◌, Bool, true, false, ◌&&◌, List, [], ◌∷◌, ◌++◌, length, map, nat_eq, decimal, codes, slice_index_or, Option, Some, None, if◌then◌else◌}
use Rattle.std.specs.List.{concat}
use Rattle.cf_tree.specs.CodeTree.{CodeTree, CodeTrees, no_codes, code_more, ItemTrees, ArmTree, arm_of, ArmTrees, no_arms, arm_more}
use Rattle.cf_tree.specs.RelTree.{RelTree}
use Rattle.cf_print.specs.Pieces.{repeated}
use Rattle.cf_smt.specs.declared.goals.TheConstants.{ASKED, ABOUT_GIVEN, ABOUT_NEEDS}
use Rattle.cf_smt.specs.declared.functions.TheConstants.{ABOUT_FUNCTIONS}
use Rattle.cf_smt.specs.declared.claims.TheConstants.{ABOUT_CLAIM}
use Rattle.cf_smt.specs.Commands.{each, dotted, all_declared, call_text, denied, all_of, define_text, constants, asserted, all_asserted, all_below, few_below, tuple_texts}
use Rattle.cf_smt.specs.Forms.{rel_has_form, arms_have_forms}
use Rattle.cf_smt.specs.Lets.{needs_of, lets_kept, in_lets}
use Rattle.cf_smt.specs.Names.{Claim, Setting, setting_of, branch_text, search_names}
use Rattle.cf_smt.specs.Terms.{rel_text, code_text}

abbrev pub below_it : List ℕ
below_it = codes "\n  "

-- ---- arms
-- what stands in the text of an arm: its name, the names of its variables by level but for those of its lets, and its parameters
pub record Frame : Type 0 where
  pub name : List ℕ
  pub names : List (List ℕ)
  pub params : List (List ℕ)

abbrev pub numbered_arm : List ℕ → List ℕ → List ℕ
numbered_arm name digits = concat (name ∷ codes ".arm" ∷ digits ∷ [])

abbrev pub arm_name : List ℕ → ℕ → List ℕ
arm_name name k = numbered_arm name (decimal (suc k))

abbrev pub frame_of : Setting → ℕ → List ℕ → Frame
frame_of s k bounds = record {
  name = arm_name s.name k;
  names = s.scope ++ search_names 0 bounds;
  params = s.params ++ search_names 0 bounds;
}

-- a term in those of the lets without which some codes cannot be read
abbrev pub in_lets_read : List (List ℕ) → ItemTrees → List CodeTree → List ℕ → List ℕ
in_lets_read names items cs term = in_lets names (lets_kept (length names) items cs) term

-- whether all needs hold, and what is given
abbrev pub need_text : List (List ℕ) → ItemTrees → List ℕ
need_text names items = in_lets_read names items (needs_of items) (all_of (map (code_text names) (needs_of items)))

abbrev pub give_text : List (List ℕ) → ItemTrees → CodeTree → List ℕ
give_text names items g = in_lets_read names items (g ∷ []) (code_text names g)

unfoldable pub needs_defined : Frame → ItemTrees → List ℕ
needs_defined f items = define_text f.name f.params (codes "Bool") below_it (need_text f.names items)

unfoldable pub give_defined : Frame → ItemTrees → List ℕ → CodeTree → List ℕ
give_defined f items output g = define_text (dotted f.name output) f.params (codes "Int") below_it (give_text f.names items g)

abbrev pub gives_defined : Frame → ItemTrees → List (List ℕ) → ℕ → CodeTrees → List ℕ
gives_defined f items outputs j no_codes = []
gives_defined f items outputs j (code_more g gs) = give_defined f items (slice_index_or outputs j []) g ++ gives_defined f items outputs (j + 1) gs

abbrev pub arm_defined : Setting → ℕ → ArmTree → List ℕ
arm_defined s k (arm_of bounds items gs) = needs_defined (frame_of s k bounds) items ++ gives_defined (frame_of s k bounds) items s.outputs 0 gs

abbrev pub arms_defined : Setting → ℕ → ArmTrees → List ℕ
arms_defined s k no_arms = []
arms_defined s k (arm_more a arms) = arm_defined s k a ++ arms_defined s (k + 1) arms

-- ---- the relation
abbrev pub relation_name : Setting → List ℕ
relation_name s = dotted s.name (codes "relation")

unfoldable pub relation_defined : Setting → RelTree → List ℕ
relation_defined s r = define_text (relation_name s) (s.params ++ s.outputs) (codes "Bool") below_it (rel_text s.all r)

-- ---- the choose as functions, where no arm searches: whether there are outputs, and which
abbrev pub has_no_search : ArmTree → Bool
has_no_search (arm_of bounds items gs) = nat_eq (length bounds) 0

abbrev pub have_no_search : ArmTrees → Bool
have_no_search no_arms = true
have_no_search (arm_more a arms) = has_no_search a && have_no_search arms

abbrev pub arm_called : Setting → ℕ → List ℕ
arm_called s k = call_text (arm_name s.name k) s.params

abbrev pub arm_gives : Setting → List ℕ → ℕ → List ℕ
arm_gives s output k = call_text (dotted (arm_name s.name k) output) s.params

abbrev pub spaced_arm : Setting → ℕ → List ℕ
spaced_arm s k = codes " " ++ arm_called s k

abbrev pub has_text : Setting → ℕ → List ℕ
has_text s n = codes "(or" ++ each (spaced_arm s) 0 n ++ codes " false)"

abbrev pub test_with : List ℕ → List ℕ → List ℕ
test_with holds gives = concat (codes "(ite " ∷ holds ∷ codes " " ∷ gives ∷ codes " " ∷ [])

abbrev pub test_text : Setting → List ℕ → ℕ → List ℕ
test_text s output k = test_with (arm_called s k) (arm_gives s output k)

-- what the first arm whose needs hold gives, where n arms stand before the last, which needs no test
abbrev pub first_gives : Setting → ℕ → List ℕ → List ℕ
first_gives s n output = each (test_text s output) 0 n ++ arm_gives s output n ++ repeated n (codes ")")

unfoldable pub output_defined : Setting → ℕ → List ℕ → List ℕ
output_defined s n output = define_text (dotted s.name output) s.params (codes "Int") (codes " ") (first_gives s n output)

abbrev pub outputs_defined : Setting → ℕ → List (List ℕ) → List ℕ
outputs_defined s n [] = []
outputs_defined s n (output ∷ outputs) = output_defined s n output ++ outputs_defined s n outputs

unfoldable pub about_functions : List ℕ → List ℕ
about_functions number = concat (codes "; Choose " ∷ number ∷ ABOUT_FUNCTIONS.now ∷ [])

unfoldable pub has_defined : Setting → ℕ → List ℕ
has_defined s n = define_text (dotted s.name (codes "has")) s.params (codes "Bool") (codes " ") (has_text s n)

abbrev pub functions_text : Setting → List ℕ → ℕ → List ℕ
functions_text s number n = about_functions number ++ has_defined s (suc n) ++ outputs_defined s n s.outputs

abbrev pub arm_count : ArmTrees → ℕ
arm_count no_arms = 0
arm_count (arm_more a arms) = suc (arm_count arms)

abbrev pub functions_if : Bool → Setting → List ℕ → ℕ → List ℕ
functions_if wanted s number n = if wanted then functions_text s number n else []

abbrev pub functions_defined : Setting → List ℕ → ArmTrees → List ℕ
functions_defined s number no_arms = []
functions_defined s number (arm_more a arms) = functions_if (have_no_search (arm_more a arms)) s number (arm_count arms)

-- ---- goals
abbrev pub call_of_give : Frame → List ℕ → List ℕ
call_of_give f output = call_text (dotted f.name output) f.params

abbrev pub gives_called : Frame → List (List ℕ) → List (List ℕ)
gives_called f outputs = map (call_of_give f) outputs

-- what an arm gives does not satisfy the relation
abbrev pub unsatisfied : Setting → Frame → List ℕ
unsatisfied s f = denied (call_text (relation_name s) (s.params ++ gives_called f s.outputs))

unfoldable pub given_digits : List ℕ → List ℕ
given_digits digits = concat (codes "; What arm " ∷ digits ∷ ABOUT_GIVEN.now ∷ [])

abbrev pub bounds_asserted : List ℕ → List ℕ
bounds_asserted bounds = all_asserted (all_below (search_names 0 bounds) bounds)

unfoldable pub given_in : Setting → Frame → List ℕ → List ℕ
given_in s f bounds = constants f.params ++ bounds_asserted bounds ++ asserted (call_text f.name f.params) ++ asserted (unsatisfied s f) ++ ASKED.now

abbrev pub given_goal : Setting → ℕ → List ℕ → List ℕ
given_goal s k bounds = given_digits (decimal (suc k)) ++ given_in s (frame_of s k bounds) bounds

abbrev pub arm_goal : Setting → ℕ → ArmTree → List ℕ
arm_goal s k (arm_of bounds items gs) = given_goal s k bounds

abbrev pub arm_goals : Setting → ℕ → ArmTrees → List ℕ
arm_goals s k no_arms = []
arm_goals s k (arm_more a arms) = arm_goal s k a ++ arm_goals s (k + 1) arms

-- the needs of an arm do not all hold at some numbers of its searches: those of a tuple, or any
abbrev pub denied_of : Setting → List ℕ → List (List ℕ) → List ℕ
denied_of s name terms = denied (call_text name (s.params ++ terms))

abbrev pub denied_at : Setting → List ℕ → List ℕ → ℕ → List ℕ
denied_at s name bounds i = asserted (denied_of s name (tuple_texts bounds i))

abbrev pub forall_text : List ℕ → List ℕ → List ℕ → List ℕ
forall_text searches below fails = concat (codes "(forall (" ∷ searches ∷ codes ") (=> " ∷ below ∷ codes " " ∷ fails ∷ codes "))" ∷ [])

abbrev pub denied_at_all : Setting → List ℕ → List ℕ → List ℕ
denied_at_all s name bounds =
    asserted (forall_text (all_declared (search_names 0 bounds)) (all_of (all_below (search_names 0 bounds) bounds)) (denied_of s name (search_names 0 bounds)))

abbrev pub denied_below : Setting → List ℕ → List ℕ → Option ℕ → List ℕ
denied_below s name bounds (Some n) = each (denied_at s name bounds) 0 n
denied_below s name bounds None = denied_at_all s name bounds

abbrev pub arm_denied : Setting → ℕ → ArmTree → List ℕ
arm_denied s k (arm_of bounds items gs) = denied_below s (arm_name s.name k) bounds (few_below 1 bounds)

abbrev pub arms_denied : Setting → ℕ → ArmTrees → List ℕ
arms_denied s k no_arms = []
arms_denied s k (arm_more a arms) = arm_denied s k a ++ arms_denied s (k + 1) arms

unfoldable pub needs_in : Setting → ArmTrees → List ℕ
needs_in s arms =
    constants (s.params ++ s.outputs) ++ asserted (call_text (relation_name s) (s.params ++ s.outputs)) ++ arms_denied s 0 arms ++ ASKED.now

unfoldable pub needs_goal : Setting → ArmTrees → List ℕ
needs_goal s arms = ABOUT_NEEDS.now ++ needs_in s arms

-- ---- all of it
abbrev pub digits_of : Claim → List ℕ
digits_of c = decimal c.number ++ branch_text c.branch

unfoldable pub about_claim : List ℕ → List ℕ
about_claim number = concat (codes "; Choose " ∷ number ∷ ABOUT_CLAIM.now ∷ [])

abbrev pub text_in : Setting → List ℕ → Claim → List ℕ
text_in s number c =
    about_claim number ++ relation_defined s c.relation ++ arms_defined s 0 c.arms ++ functions_defined s number c.arms ++ arm_goals s 0 c.arms
    ++ needs_goal s c.arms

abbrev pub claim_text : Claim → List ℕ
claim_text c = text_in (setting_of c) (digits_of c) c

abbrev pub claim_has_form : Claim → Bool
claim_has_form c = rel_has_form c.relation && arms_have_forms c.arms

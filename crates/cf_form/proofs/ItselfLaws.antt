-- A body without new forms is formed to itself.
use Rattle.std.proofs.Common.{◌≡◌, ℕ, zero, suc, ◌+◌, pos, Bool, true, false, ◌||◌, Some, None, List, [], ◌∷◌, ◌++◌, length, map, filter, slice_get, append-nil, refl, ap, ◌∙◌, arith}
use Rattle.std.specs.List.{slice_index_or}
use Rattle.std.specs.Prelude.{All, if◌then◌else◌}
use Rattle.std.proofs.lemmas.List.Elements.{All-head, All-tail}
use Rattle.cf_tree.specs.declared.base.Base.{Base}
use Rattle.cf_tree.specs.declared.base.Base.TheVariants.{Int, Bool as Truth, Set}
use Rattle.cf_tree.specs.declared.raw.BinOp.{BinOp}
use Rattle.cf_tree.specs.declared.raw.BinOp.TheVariants.{Add, Sub, Mul, And, Or, Implies, Union, Inter, Diff, Subset, Compare}
use Rattle.cf_tree.specs.declared.raw.Param.{Param}
use Rattle.cf_tree.specs.ExprTree.{ExprTree, expr_lit, expr_truth, expr_var, expr_set_of, expr_tuple, expr_neg, expr_not, expr_abs, expr_binary, expr_divides, expr_div, expr_mod, expr_card, expr_if, expr_call, expr_let, expr_choose, expr_match, expr_chain, expr_min, expr_max, expr_choose_where, ExprTrees, no_exprs, expr_more, match_arm, MatchArmTrees, no_match_arms, match_arm_more}
use Rattle.cf_tree.specs.Params.{bases_of}
use Rattle.cf_tree.specs.Relation.{IsTypedSet, IsTypedTerm, IsTyped}
use Rattle.cf_tree.specs.RelTree.{SetTree, empty_set, set_var, union_of, inter_of, diff_of, TermTree, term_lit, term_var, term_card, term_neg, term_add, term_sub, term_mul, term_div, term_mod, term_abs, RelTree, rel_true, rel_false, rel_compare, rel_same_set, rel_other_set, rel_subset, rel_divides, rel_and, rel_or, rel_not}
use Rattle.cf_program.specs.TypedProgram.{IsOutput}
use Rattle.cf_form.specs.Alternatives.{alone}
use Rattle.cf_form.specs.Branches.{WideChoose, branched, truth_levels, truth_bounds}
use Rattle.cf_form.specs.Expansion.{Part, of_number, of_set, of_truth, truth_in, first_part, variable_part, variables_from, Calls, expanded, call_expanded}
use Rattle.cf_form.specs.Formed.{as_number, branching, formed, all_formed, arms_formed, binary_formed, has_truths, choose_form}
use Rattle.cf_form.specs.Laws.{FormsToItself}
use Rattle.cf_form.specs.Polarity.{Truths, set_alternatives, alternatives, holding, failing}
use Rattle.cf_form.specs.Wide.{WideTerm, wide_lit, wide_var, wide_card, wide_neg, wide_add, wide_sub, wide_mul, wide_div, wide_mod, wide_abs, WideSet, wide_empty, wide_set, wide_union, wide_inter, wide_diff, WideRel, wide_true, wide_false, wide_compare, wide_same_set, wide_other_set, wide_subset, wide_divides, wide_not, wide_and, wide_or, is_plain_set, is_plain_term, is_plain, set_has_truth, term_has_truth, has_truth}
use Rattle.cf_form.specs.Widened.{set_expr, term_expr, rel_expr, widened, all_widened, arms_widened, IsOldOperation, IsOfLanguageTwo, AreOfLanguageTwo, ArmsAreOfLanguageTwo}

-- ---- relations of language 2 as wide ones
abbrev wide_of_set : SetTree → WideSet
wide_of_set empty_set = wide_empty
wide_of_set (set_var x) = wide_set x
wide_of_set (union_of a b) = wide_union (wide_of_set a) (wide_of_set b)
wide_of_set (inter_of a b) = wide_inter (wide_of_set a) (wide_of_set b)
wide_of_set (diff_of a b) = wide_diff (wide_of_set a) (wide_of_set b)

abbrev wide_of_term : TermTree → WideTerm
wide_of_term (term_lit k) = wide_lit k
wide_of_term (term_var x) = wide_var x
wide_of_term (term_card s) = wide_card (wide_of_set s)
wide_of_term (term_neg a) = wide_neg (wide_of_term a)
wide_of_term (term_add a b) = wide_add (wide_of_term a) (wide_of_term b)
wide_of_term (term_sub a b) = wide_sub (wide_of_term a) (wide_of_term b)
wide_of_term (term_mul a b) = wide_mul (wide_of_term a) (wide_of_term b)
wide_of_term (term_div a k) = wide_div (wide_of_term a) k
wide_of_term (term_mod a k) = wide_mod (wide_of_term a) k
wide_of_term (term_abs a) = wide_abs (wide_of_term a)

abbrev wide_of_rel : RelTree → WideRel
wide_of_rel rel_true = wide_true
wide_of_rel rel_false = wide_false
wide_of_rel (rel_compare o a b) = wide_compare o (wide_of_term a) (wide_of_term b)
wide_of_rel (rel_same_set a b) = wide_same_set (wide_of_set a) (wide_of_set b)
wide_of_rel (rel_other_set a b) = wide_other_set (wide_of_set a) (wide_of_set b)
wide_of_rel (rel_subset a b) = wide_subset (wide_of_set a) (wide_of_set b)
wide_of_rel (rel_divides k t) = wide_divides k (wide_of_term t)
wide_of_rel (rel_and p q) = wide_and (wide_of_rel p) (wide_of_rel q)
wide_of_rel (rel_or p q) = wide_or (wide_of_rel p) (wide_of_rel q)
wide_of_rel (rel_not p) = wide_not (wide_of_rel p)

-- ---- what they are expanded to
part_at : (x y : ℕ) (scope : List Base) (b : Base) (d : Part) → slice_get scope y ≡ Some b → slice_index_or (variables_from x scope) y d ≡ variable_part b (x + y)
part_at x y [] b d e = cc
part_at x zero (c ∷ scope) b d e =
    let same : c ≡ b = cc in
    let here : x + 0 ≡ x = omega arith in rw (same, here) refl
part_at x (suc y) (c ∷ scope) b d e =
    let later : x + suc y ≡ suc x + y = omega arith in rw later (part_at (suc x) y scope b d e)

module _ (calls : Calls) (scope : List Base) where
  abbrev env : List Part
  env = variables_from 0 scope

  variable_is : (x : ℕ) (b : Base) → slice_get scope x ≡ Some b → expanded calls env (expr_var x) ≡ variable_part b x ∷ []
  variable_is x b e = ap (λ p. p ∷ []) (part_at 0 x scope b (of_number (wide_lit (pos 0))) e ∙ ap (variable_part b) (omega arith))

  set_is : (s : SetTree) → IsTypedSet scope s → expanded calls env (set_expr s) ≡ of_set (wide_of_set s) ∷ []
  set_is empty_set h = refl
  set_is (set_var x) h = variable_is x Set h
  set_is (union_of a b) h = rw (set_is a h.0, set_is b h.1) refl
  set_is (inter_of a b) h = rw (set_is a h.0, set_is b h.1) refl
  set_is (diff_of a b) h = rw (set_is a h.0, set_is b h.1) refl

  term_is : (t : TermTree) → IsTypedTerm scope t → expanded calls env (term_expr t) ≡ of_number (wide_of_term t) ∷ []
  term_is (term_lit k) h = refl
  term_is (term_var x) h = variable_is x Int h
  term_is (term_card s) h = rw (set_is s h) refl
  term_is (term_neg a) h = rw (term_is a h) refl
  term_is (term_add a b) h = rw (term_is a h.0, term_is b h.1) refl
  term_is (term_sub a b) h = rw (term_is a h.0, term_is b h.1) refl
  term_is (term_mul a b) h = rw (term_is a h.0, term_is b h.1) refl
  term_is (term_div a k) h = rw (term_is a h.0) refl
  term_is (term_mod a k) h = rw (term_is a h.0) refl
  term_is (term_abs a) h = rw (term_is a h) refl

  pub rel_is : (r : RelTree) → IsTyped scope r → expanded calls env (rel_expr r) ≡ of_truth (wide_of_rel r) ∷ []
  rel_is rel_true h = refl
  rel_is rel_false h = refl
  rel_is (rel_compare o a b) h = rw (term_is a h.0, term_is b h.1) refl
  rel_is (rel_same_set a b) h = rw (set_is a h.0, set_is b h.1) refl
  rel_is (rel_other_set a b) h = rw (set_is a h.0, set_is b h.1) refl
  rel_is (rel_subset a b) h = rw (set_is a h.0, set_is b h.1) refl
  rel_is (rel_divides k t) h = rw (term_is t h.1) refl
  rel_is (rel_and p q) h = rw (rel_is p h.0, rel_is q h.1) refl
  rel_is (rel_or p q) h = rw (rel_is p h.0, rel_is q h.1) refl
  rel_is (rel_not p) h = rw (rel_is p h) refl

-- ---- what they are in a branch
set_once : (truths : Truths) (s : SetTree) → set_alternatives truths (wide_of_set s) ≡ alone s
set_once truths empty_set = refl
set_once truths (set_var x) = refl
set_once truths (union_of a b) = rw (set_once truths a, set_once truths b) refl
set_once truths (inter_of a b) = rw (set_once truths a, set_once truths b) refl
set_once truths (diff_of a b) = rw (set_once truths a, set_once truths b) refl

term_once : (truths : Truths) (t : TermTree) → alternatives truths (wide_of_term t) ≡ alone t
term_once truths (term_lit k) = refl
term_once truths (term_var x) = refl
term_once truths (term_card s) = rw (set_once truths s) refl
term_once truths (term_neg a) = rw (term_once truths a) refl
term_once truths (term_add a b) = rw (term_once truths a, term_once truths b) refl
term_once truths (term_sub a b) = rw (term_once truths a, term_once truths b) refl
term_once truths (term_mul a b) = rw (term_once truths a, term_once truths b) refl
term_once truths (term_div a k) = rw (term_once truths a) refl
term_once truths (term_mod a k) = rw (term_once truths a) refl
term_once truths (term_abs a) = rw (term_once truths a) refl

plain_set : (s : SetTree) → is_plain_set (wide_of_set s) ≡ true
plain_set empty_set = refl
plain_set (set_var x) = refl
plain_set (union_of a b) = rw (plain_set a, plain_set b) refl
plain_set (inter_of a b) = rw (plain_set a, plain_set b) refl
plain_set (diff_of a b) = rw (plain_set a, plain_set b) refl

plain_term : (t : TermTree) → is_plain_term (wide_of_term t) ≡ true
plain_term (term_lit k) = refl
plain_term (term_var x) = refl
plain_term (term_card s) = plain_set s
plain_term (term_neg a) = plain_term a
plain_term (term_add a b) = rw (plain_term a, plain_term b) refl
plain_term (term_sub a b) = rw (plain_term a, plain_term b) refl
plain_term (term_mul a b) = rw (plain_term a, plain_term b) refl
plain_term (term_div a k) = plain_term a
plain_term (term_mod a k) = plain_term a
plain_term (term_abs a) = plain_term a

plain_rel : (r : RelTree) → is_plain (wide_of_rel r) ≡ true
plain_rel rel_true = refl
plain_rel rel_false = refl
plain_rel (rel_compare o a b) = rw (plain_term a, plain_term b) refl
plain_rel (rel_same_set a b) = rw (plain_set a, plain_set b) refl
plain_rel (rel_other_set a b) = rw (plain_set a, plain_set b) refl
plain_rel (rel_subset a b) = rw (plain_set a, plain_set b) refl
plain_rel (rel_divides k t) = plain_term t
plain_rel (rel_and p q) = rw (plain_rel p, plain_rel q) refl
plain_rel (rel_or p q) = rw (plain_rel p, plain_rel q) refl
plain_rel (rel_not p) = plain_rel p

mutual
  pub holding_is : (truths : Truths) (r : RelTree) → holding truths (wide_of_rel r) ≡ r
  holding_is truths rel_true = refl
  holding_is truths rel_false = refl
  holding_is truths (rel_compare o a b) = rw (term_once truths a, term_once truths b) refl
  holding_is truths (rel_same_set a b) = rw (set_once truths a, set_once truths b) refl
  holding_is truths (rel_other_set a b) = rw (set_once truths a, set_once truths b) refl
  holding_is truths (rel_subset a b) = rw (set_once truths a, set_once truths b) refl
  holding_is truths (rel_divides k t) = rw (term_once truths t) refl
  holding_is truths (rel_and p q) = rw (holding_is truths p, holding_is truths q) refl
  holding_is truths (rel_or p q) = rw (holding_is truths p, holding_is truths q) refl
  holding_is truths (rel_not p) = failing_is truths p

  failing_is : (truths : Truths) (r : RelTree) → failing truths (wide_of_rel r) ≡ rel_not r
  failing_is truths rel_true = refl
  failing_is truths rel_false = refl
  failing_is truths (rel_compare o a b) = rw (term_once truths a, term_once truths b) refl
  failing_is truths (rel_same_set a b) = rw (set_once truths a, set_once truths b) refl
  failing_is truths (rel_other_set a b) = rw (set_once truths a, set_once truths b) refl
  failing_is truths (rel_subset a b) = rw (set_once truths a, set_once truths b) refl
  failing_is truths (rel_divides k t) = rw (term_once truths t) refl
  failing_is truths (rel_and p q) = rw (plain_rel p, plain_rel q, holding_is truths p, holding_is truths q) refl
  failing_is truths (rel_or p q) = rw (plain_rel p, plain_rel q, holding_is truths p, holding_is truths q) refl
  failing_is truths (rel_not p) = rw (plain_rel p, failing_is truths p) refl

-- ---- no truth variable stands there
set_no_truth : (x : ℕ) (s : SetTree) → set_has_truth x (wide_of_set s) ≡ false
set_no_truth x empty_set = refl
set_no_truth x (set_var y) = refl
set_no_truth x (union_of a b) = rw (set_no_truth x a, set_no_truth x b) refl
set_no_truth x (inter_of a b) = rw (set_no_truth x a, set_no_truth x b) refl
set_no_truth x (diff_of a b) = rw (set_no_truth x a, set_no_truth x b) refl

term_no_truth : (x : ℕ) (t : TermTree) → term_has_truth x (wide_of_term t) ≡ false
term_no_truth x (term_lit k) = refl
term_no_truth x (term_var y) = refl
term_no_truth x (term_card s) = set_no_truth x s
term_no_truth x (term_neg a) = term_no_truth x a
term_no_truth x (term_add a b) = rw (term_no_truth x a, term_no_truth x b) refl
term_no_truth x (term_sub a b) = rw (term_no_truth x a, term_no_truth x b) refl
term_no_truth x (term_mul a b) = rw (term_no_truth x a, term_no_truth x b) refl
term_no_truth x (term_div a k) = term_no_truth x a
term_no_truth x (term_mod a k) = term_no_truth x a
term_no_truth x (term_abs a) = term_no_truth x a

rel_no_truth : (x : ℕ) (r : RelTree) → has_truth x (wide_of_rel r) ≡ false
rel_no_truth x rel_true = refl
rel_no_truth x rel_false = refl
rel_no_truth x (rel_compare o a b) = rw (term_no_truth x a, term_no_truth x b) refl
rel_no_truth x (rel_same_set a b) = rw (set_no_truth x a, set_no_truth x b) refl
rel_no_truth x (rel_other_set a b) = rw (set_no_truth x a, set_no_truth x b) refl
rel_no_truth x (rel_subset a b) = rw (set_no_truth x a, set_no_truth x b) refl
rel_no_truth x (rel_divides k t) = term_no_truth x t
rel_no_truth x (rel_and p q) = rw (rel_no_truth x p, rel_no_truth x q) refl
rel_no_truth x (rel_or p q) = rw (rel_no_truth x p, rel_no_truth x q) refl
rel_no_truth x (rel_not p) = rel_no_truth x p

filter_none : (test : ℕ → Bool) → ((x : ℕ) → test x ≡ false) → (xs : List ℕ) → filter test xs ≡ []
filter_none test none [] = refl
filter_none test none (x ∷ xs) = rw (none x) (filter_none test none xs)

-- ---- outputs without truth values
as_numbers : (bs : List Base) → All IsOutput bs → map as_number bs ≡ bs
as_numbers [] h = refl
as_numbers (Int ∷ bs) h = ap (λ cs. Int ∷ cs) (as_numbers bs (All-tail IsOutput Int bs h))
as_numbers (Truth ∷ bs) h = absurd (All-head IsOutput Truth bs h)
as_numbers (Set ∷ bs) h = ap (λ cs. Set ∷ cs) (as_numbers bs (All-tail IsOutput Set bs h))

no_truths : (bs : List Base) → All IsOutput bs → has_truths bs ≡ false
no_truths [] h = refl
no_truths (Int ∷ bs) h = no_truths bs (All-tail IsOutput Int bs h)
no_truths (Truth ∷ bs) h = absurd (All-head IsOutput Truth bs h)
no_truths (Set ∷ bs) h = no_truths bs (All-tail IsOutput Set bs h)

no_bounds : (x : ℕ) (bs : List Base) → All IsOutput bs → truth_bounds x bs ≡ []
no_bounds x [] h = refl
no_bounds x (Int ∷ bs) h = no_bounds (suc x) bs (All-tail IsOutput Int bs h)
no_bounds x (Truth ∷ bs) h = absurd (All-head IsOutput Truth bs h)
no_bounds x (Set ∷ bs) h = no_bounds (suc x) bs (All-tail IsOutput Set bs h)

-- ---- a choose
abbrev choose_of : ℕ → List Param → List Base → WideRel → WideChoose
choose_of n scope outputs r = record { number = n; scope = scope; outputs = outputs; hidden = []; given = None; relation = r; aims = [] }

no_branches : (n : ℕ) (scope : List Param) (outputs : List Base) (r : RelTree) → branched (choose_of n scope outputs (wide_of_rel r)) ≡ []
no_branches n scope outputs r =
    filter_none (λ x. has_truth x (wide_of_rel r) || false) (λ x. ap (λ b. b || false) (rel_no_truth x r)) (truth_levels 0 (bases_of scope))

form_by : (q : WideChoose) (given_out : ExprTree) (b : Bool) (xs : List ℕ) → b ≡ false → xs ≡ [] →
    (if (if b then false else true) then branching q xs [] else given_out) ≡ branching q [] []
form_by q given_out b xs e f = rw (e, f) refl

alone_is : (n : ℕ) (scope : List Param) (outputs : List Base) (r : RelTree) → All IsOutput outputs →
    branching (choose_of n scope outputs (wide_of_rel r)) [] [] ≡ expr_choose n scope outputs r
alone_is n scope outputs r h = rw (append-nil outputs, as_numbers outputs h, no_bounds (length scope) outputs h, holding_is (λ x. None) r) refl

simple_form : (n : ℕ) (scope : List Param) (outputs : List Base) (r : RelTree) → All IsOutput outputs →
    choose_form (choose_of n scope outputs (wide_of_rel r)) ≡ expr_choose n scope outputs r
simple_form n scope outputs r h =
    form_by (choose_of n scope outputs (wide_of_rel r)) _ (has_truths outputs) (branched (choose_of n scope outputs (wide_of_rel r))) (no_truths outputs h)
    (no_branches n scope outputs r)
    ∙ alone_is n scope outputs r h

-- ---- expressions
old_operation : (op : BinOp) (p q : ExprTree) → IsOldOperation op → binary_formed op p q ≡ expr_binary op p q
old_operation Add p q h = refl
old_operation Sub p q h = refl
old_operation Mul p q h = refl
old_operation And p q h = refl
old_operation Or p q h = refl
old_operation Implies p q h = absurd h
old_operation Union p q h = refl
old_operation Inter p q h = refl
old_operation Diff p q h = refl
old_operation Subset p q h = refl
old_operation (Compare o) p q h = refl

module _ (calls : Calls) where
  mutual
    is_itself : (s : ℕ) (e : ExprTree) → IsOfLanguageTwo e → formed calls s (widened e) ≡ e
    is_itself s (expr_lit k) h = refl
    is_itself s (expr_truth t) h = refl
    is_itself s (expr_var x) h = refl
    is_itself s (expr_set_of es) h = ap (λ fs. expr_set_of fs) (are_themselves s es h)
    is_itself s (expr_tuple es) h = ap (λ fs. expr_tuple fs) (are_themselves s es h)
    is_itself s (expr_neg a) h = ap (λ f. expr_neg f) (is_itself s a h)
    is_itself s (expr_not a) h = ap (λ f. expr_not f) (is_itself s a h)
    is_itself s (expr_abs a) h = ap (λ f. expr_abs f) (is_itself s a h)
    is_itself s (expr_binary op a b) h =
        old_operation op (formed calls s (widened a)) (formed calls s (widened b)) h.0
        ∙ ap (λ f. expr_binary op f (formed calls s (widened b))) (is_itself s a h.1) ∙ ap (λ f. expr_binary op a f) (is_itself s b h.2)
    is_itself s (expr_divides k a) h = ap (λ f. expr_divides k f) (is_itself s a h)
    is_itself s (expr_div a k) h = ap (λ f. expr_div f k) (is_itself s a h)
    is_itself s (expr_mod a k) h = ap (λ f. expr_mod f k) (is_itself s a h)
    is_itself s (expr_card a) h = ap (λ f. expr_card f) (is_itself s a h)
    is_itself s (expr_if t a b) h =
        ap (λ f. expr_if f (formed calls s (widened a)) (formed calls s (widened b))) (is_itself s t h.0)
        ∙ ap (λ f. expr_if t f (formed calls s (widened b))) (is_itself s a h.1) ∙ ap (λ f. expr_if t a f) (is_itself s b h.2)
    is_itself s (expr_call f es) h = ap (λ fs. expr_call f fs) (are_themselves s es h)
    is_itself s (expr_let n a b) h =
        ap (λ f. expr_let n f (formed calls (s + n) (widened b))) (is_itself s a h.0) ∙ ap (λ f. expr_let n a f) (is_itself (s + n) b h.1)
    is_itself s (expr_choose n scope outputs rel) h =
        let bases : (bases_of scope ++ outputs) ++ [] ≡ bases_of scope ++ outputs = append-nil (bases_of scope ++ outputs) in
        let r : expanded calls (variables_from 0 (bases_of scope ++ outputs ++ [])) (rel_expr rel) ≡ of_truth (wide_of_rel rel) ∷ [] =
        ap (λ bs. expanded calls (variables_from 0 bs) (rel_expr rel)) bases ∙ rel_is calls (bases_of scope ++ outputs) rel h.1 in
        ap (λ parts. choose_form (choose_of n scope outputs (truth_in (first_part parts)))) r ∙ simple_form n scope outputs rel h.0
    is_itself s (expr_match n scope a arms) h =
        ap (λ f. expr_match n scope f (arms_formed calls (suc s) (arms_widened arms))) (is_itself s a h.0)
        ∙ ap (λ fs. expr_match n scope a fs) (arms_are_themselves (suc s) arms h.1)
    is_itself s (expr_chain orders es) h = absurd h
    is_itself s (expr_min es) h = absurd h
    is_itself s (expr_max es) h = absurd h
    is_itself s (expr_choose_where n scope outputs hidden given rel aim) h = absurd h

    are_themselves : (s : ℕ) (es : ExprTrees) → AreOfLanguageTwo es → all_formed calls s (all_widened es) ≡ es
    are_themselves s no_exprs h = refl
    are_themselves s (expr_more e es) h =
        ap (λ f. expr_more f (all_formed calls s (all_widened es))) (is_itself s e h.0) ∙ ap (λ fs. expr_more e fs) (are_themselves s es h.1)

    arms_are_themselves : (s : ℕ) (arms : MatchArmTrees) → ArmsAreOfLanguageTwo arms → arms_formed calls s (arms_widened arms) ≡ arms
    arms_are_themselves s no_match_arms h = refl
    arms_are_themselves s (match_arm_more (match_arm m factors k body) arms) h =
        ap (λ f. match_arm_more (match_arm m factors k f) (arms_formed calls s (arms_widened arms))) (is_itself (s + length factors) body h.0)
        ∙ ap (λ fs. match_arm_more (match_arm m factors k body) fs) (arms_are_themselves s arms h.1)

pub forms_to_itself : FormsToItself
forms_to_itself before s e h = is_itself (call_expanded before) s e h

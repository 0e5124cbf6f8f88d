-- Worked examples: every form of a relation and of a code, as a term.
use Rattle.std.proofs.Common.{◌≡◌, ℕ, pos, [], ◌∷◌, List, true, refl, codes}
use Rattle.std.specs.Prelude.{negsuc, map}
use Rattle.std.specs.Fmt.{digits}
use Rattle.cf_tree.specs.declared.base.Order.TheVariants.{Eq, Ne, Lt, Le, Gt, Ge}
use Rattle.cf_tree.specs.RelTree.{TermTree, term_lit, term_var, term_neg, term_add, term_sub, term_mul, term_div, term_mod, term_abs, RelTree, rel_true, rel_false, rel_compare, rel_divides, rel_and, rel_or, rel_not}
use Rattle.cf_tree.specs.CodeTree.{CodeTree, code_lit, code_truth, code_var, code_sum, code_sub, code_mul, code_neg, code_div, code_mod, code_min, code_max, code_compare, code_divides, code_and, code_or, code_not, code_if, code_let, codes_of}
use Rattle.cf_smt.specs.Terms.{term_text, rel_text, code_text, least_word, greatest_word}

abbrev names : List (List ℕ)
names = codes "a" ∷ codes "b" ∷ []

abbrev a : TermTree
a = term_var 0

abbrev b : TermTree
b = term_var 1

abbrev less : RelTree
less = rel_compare Lt a b

numbers : map (term_text names)
    (term_lit (pos 10) ∷ term_lit (negsuc 9) ∷ b ∷ term_neg a ∷ term_add a b ∷ term_sub a b ∷ term_mul (term_lit (negsuc 1)) b ∷ term_div a (pos 3) ∷ term_mod a
    (pos 4)
    ∷ term_abs a ∷ []) ≡
    codes "10" ∷ codes "(- 10)" ∷ codes "b" ∷ codes "(- a)" ∷ codes "(+ a b)" ∷ codes "(- a b)" ∷ codes "(* (- 2) b)" ∷ codes "(div a 3)" ∷ codes "(mod a 4)"
    ∷ codes "(abs a)" ∷ []
unfolding digits
numbers = refl

comparisons : map (λ o. rel_text names (rel_compare o a b)) (Eq ∷ Ne ∷ Lt ∷ Le ∷ Gt ∷ Ge ∷ []) ≡
    codes "(= a b)" ∷ codes "(distinct a b)" ∷ codes "(< a b)" ∷ codes "(<= a b)" ∷ codes "(> a b)" ∷ codes "(>= a b)" ∷ []
comparisons = refl

relations : map (rel_text names)
    (rel_true ∷ rel_false ∷ rel_divides (pos 3) (term_sub a b) ∷ rel_and less rel_true ∷ rel_or less rel_true ∷ rel_not less ∷ []) ≡
    codes "true" ∷ codes "false" ∷ codes "(= (mod (- a b) 3) 0)" ∷ codes "(and (< a b) true)" ∷ codes "(or (< a b) true)" ∷ codes "(not (< a b))" ∷ []
unfolding digits
relations = refl

abbrev x : CodeTree
x = code_var 0

abbrev y : CodeTree
y = code_var 1

-- the first variable behind those with names
abbrev z : CodeTree
z = code_var 2

sums : map (code_text names)
    (code_lit (negsuc 0) ∷ x ∷ z ∷ code_sum (codes_of (x ∷ y ∷ z ∷ [])) ∷ code_sub x y ∷ code_mul x y ∷ code_neg x ∷ code_div x (pos 3) ∷ code_mod x (pos 4) ∷
    []) ≡
    codes "(- 1)" ∷ codes "a" ∷ codes "n1." ∷ codes "(+ a b n1.)" ∷ codes "(- a b)" ∷ codes "(* a b)" ∷ codes "(- a)" ∷ codes "(div a 3)" ∷ codes "(mod a 4)" ∷
    []
unfolding digits
sums = refl

-- one alone, and others two at a time
choices : map (code_text names)
    (code_min (codes_of (x ∷ [])) ∷ code_min (codes_of (x ∷ y ∷ [])) ∷ code_max (codes_of (x ∷ y ∷ z ∷ [])) ∷ []) ≡
    codes "a" ∷ codes "(least. a b)" ∷ codes "(greatest. (greatest. a b) n1.)" ∷ []
unfolding digits least_word greatest_word
choices = refl

truths : map (code_text names)
    (code_truth true ∷ code_compare Ge x y ∷ code_divides (pos 2) x ∷ code_and x y ∷ code_or x y ∷ code_not x ∷ code_if x y z ∷ code_let 2 1 x z ∷ []) ≡
    codes "true" ∷ codes "(>= a b)" ∷ codes "(= (mod a 2) 0)" ∷ codes "(and a b)" ∷ codes "(or a b)" ∷ codes "(not a)" ∷ codes "(ite a b n1.)"
    ∷ codes "(let ((n1. a)) n1.)" ∷ []
unfolding digits
truths = refl

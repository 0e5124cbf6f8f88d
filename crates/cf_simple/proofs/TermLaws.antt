-- The line of a number form has its value.
use Rattle.std.proofs.Common.{◌≡◌, ℕ, ℤ, pos, negsuc, neg_ℤ, ◌+ℤ◌, ◌*ℤ◌, Bool, true, false, List, [], ◌∷◌, refl, ◌∙◌, ap, arith}
use Rattle.std.specs.Prelude.{◌-ℤ◌, ◌≤ℤ◌, int_le, if◌then◌else◌}
use Rattle.std.proofs.lemmas.Int.{ints}
use Rattle.cf_num.proofs.Ring.{ring, mul_comm_z}
use Rattle.cf_tree.specs.Numbers.{quotient}
use Rattle.cf_tree.specs.Relation.{val}
use Rattle.cf_tree.specs.RelTree.{TermTree, term_lit, term_var, term_card, term_neg, term_add, term_sub, term_mul, term_div, term_mod, term_abs}
use Rattle.cf_tree.specs.Values.{Value}
use Rattle.cf_simple.specs.Lines.{Part, Line, parts_value, line_value, just, alone, plus, times}
use Rattle.cf_simple.specs.Quotients.{line_term, line_quotient}
use Rattle.cf_simple.specs.Terms.{product_by, product, line_of}
use Rattle.cf_simple.proofs.LineLaws.{plus_value, times_value, just_value, alone_value, line_term_value}
use Rattle.cf_simple.proofs.QuotientLaws.{line_quotient_value}

by_zero : (x d : ℤ) → d *ℤ x ≡ x *ℤ (pos 0 +ℤ d)
by_zero x d = let e : pos 0 +ℤ d ≡ d = omega (arith, ints) in rw e (mul_comm_z d x)

product_value : (ps qs : List Part) (c d : ℤ) (env : List Value) →
    line_value (product_by ps qs (record { parts = ps; constant = c }) (record { parts = qs; constant = d })) env ≡
    (parts_value ps env +ℤ c) *ℤ (parts_value qs env +ℤ d)
product_value [] qs c d env = times_value c (record { parts = qs; constant = d }) env ∙ simp ring (omega (arith, ints))
product_value (p ∷ ps) [] c d env = times_value d (record { parts = p ∷ ps; constant = c }) env ∙ by_zero (parts_value (p ∷ ps) env +ℤ c) d
product_value (p ∷ ps) (q ∷ qs) c d env =
    alone_value (term_mul (line_term (record { parts = p ∷ ps; constant = c })) (line_term (record { parts = q ∷ qs; constant = d }))) env
    ∙ rw (line_term_value (record { parts = p ∷ ps; constant = c }) env, line_term_value (record { parts = q ∷ qs; constant = d }) env) refl

pub one_at_most : (k : ℤ) → int_le (pos 1) k ≡ true → pos 1 ≤ℤ k
one_at_most k e = grind (arith, ints)

pub line_of_value : (t : TermTree) (env : List Value) → line_value (line_of t) env ≡ val t env
line_of_value (term_lit k) env = just_value k env
line_of_value (term_var x) env = alone_value (term_var x) env
line_of_value (term_card s) env = alone_value (term_card s) env
line_of_value (term_neg a) env = times_value (negsuc 0) (line_of a) env ∙ rw (line_of_value a env) (omega (arith, ints))
line_of_value (term_add a b) env =
    plus_value (line_of a) (pos 1) (line_of b) env ∙ rw (line_of_value a env, line_of_value b env) (omega (arith, ints))
line_of_value (term_sub a b) env =
    plus_value (line_of a) (negsuc 0) (line_of b) env ∙ rw (line_of_value a env, line_of_value b env) (omega (arith, ints))
line_of_value (term_mul a b) env =
    product_value (line_of a).parts (line_of b).parts (line_of a).constant (line_of b).constant env ∙ rw (line_of_value a env, line_of_value b env) refl
line_of_value (term_div a k) env = by (int_le (pos 1) k) refl (line_of_value a env)
  where
    by : (b : Bool) → int_le (pos 1) k ≡ b → line_value (line_of a) env ≡ val a env →
        line_value (if b then line_quotient (line_of a) k else alone (term_div a k)) env ≡ quotient (val a env) k
    by true e h = line_quotient_value (line_of a) k env (one_at_most k e) ∙ ap (λ z. quotient z k) h
    by false e h = alone_value (term_div a k) env
line_of_value (term_mod a k) env =
    alone_value (term_mod (line_term (line_of a)) k) env ∙ rw (line_term_value (line_of a) env, line_of_value a env) refl
line_of_value (term_abs a) env =
    alone_value (term_abs (line_term (line_of a))) env ∙ rw (line_term_value (line_of a) env, line_of_value a env) refl

-- The parameters of a function differ from each other.
use Rattle.std.proofs.Common.{◌≡◌, ℕ, Bool, true, false, not, ◌&&◌, List, [], ◌∷◌, ◌++◌, refl, sym, ap, subst, if◌then◌else◌}
use Rattle.std.proofs.lemmas.List.{append_assoc}
use Rattle.cf_tree.specs.declared.base.Base.{Base}
use Rattle.cf_print.specs.Names.{is_one_of}
use Rattle.cf_print_shape.specs.Shapes.{those_read}
use Rattle.cf_print_block.specs.Statements.{Parameters, with_parameter, with_parameters, differ_behind, ParametersDiffer, function_of}

append_none : (xs : List (List ℕ)) → xs ++ [] ≡ xs
append_none [] = refl
append_none (x ∷ xs) = ap (λ u. x ∷ u) (append_none xs)

both_true : (b c : Bool) → b ≡ false → c ≡ true → (not b && c) ≡ true
both_true false true e f = refl
both_true true c e f = cc e
both_true false false e f = cc f

pub second_true : (b c : Bool) → (b && c) ≡ true → c ≡ true
second_true true c e = e
second_true false c e = cc e

pub first_true : (b c : Bool) → (b && c) ≡ true → b ≡ true
first_true true c e = refl
first_true false c e = cc e

pub true_and : (b c : Bool) → b ≡ true → c ≡ true → (b && c) ≡ true
true_and true true e f = refl
true_and false c e f = cc e
true_and true false e f = cc f

-- a name behind others, of which it is none
pub new_last : (seen xs : List (List ℕ)) (y : List ℕ) → differ_behind seen xs ≡ true → is_one_of y (seen ++ xs) ≡ false →
    differ_behind seen (xs ++ (y ∷ [])) ≡ true
new_last seen [] y e f = both_true (is_one_of y seen) true (subst (λ u. is_one_of y u ≡ false) (append_none seen) f) refl
new_last seen (x ∷ xs) y e f =
    let is_new = not (is_one_of x seen) in
    let seen_next = seen ++ (x ∷ []) in
    true_and is_new (differ_behind seen_next (xs ++ (y ∷ []))) (first_true is_new (differ_behind seen_next xs) e)
    (new_last seen_next xs y (second_true is_new (differ_behind seen_next xs) e)
    (subst (λ u. is_one_of y u ≡ false) (sym (append_assoc seen (x ∷ []) xs)) f))

one_differs : (x : List ℕ) (b : Base) (ps : Parameters) (is_old : Bool) → is_one_of x ps.names ≡ is_old → differ_behind [] ps.names ≡ true →
    differ_behind [] (if is_old then ps else record { names = ps.names ++ (x ∷ []); bases = ps.bases ++ (b ∷ []) }).names ≡ true
one_differs x b ps true is e = e
one_differs x b ps false is e = new_last [] ps.names x e is

all_differ : (xs : List (List ℕ)) (bs : List Base) (ps : Parameters) → differ_behind [] ps.names ≡ true →
    differ_behind [] (with_parameters xs bs ps).names ≡ true
all_differ [] bs ps e = e
all_differ (x ∷ xs) [] ps e = e
all_differ (x ∷ xs) (b ∷ bs) ps e = all_differ xs bs (with_parameter x b ps) (one_differs x b ps (is_one_of x ps.names) refl e)

pub parameters_differ : ParametersDiffer
unfolding function_of
parameters_differ s w a numbers =
    all_differ (those_read 0 a w.names) (those_read 0 a w.bases) (record { names = []; bases = [] }) refl

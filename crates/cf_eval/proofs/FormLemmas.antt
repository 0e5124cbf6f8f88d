-- What the forms of numbers, of truth values and of sets give, and how numbers are compared.
use Rattle.std.proofs.Common.{Result, Ok, Err, OnOk, IfErr, ◌++◌, ◌≡◌, if◌then◌else◌, ℤ, pos, Bool, true, false, not, List, [], ◌∷◌, Option, Some, None, refl, ap, ◌∙◌, length, neg_ℤ, ◌+ℤ◌, ◌-ℤ◌, ◌*ℤ◌, ◌-◌, ◌^◌, nat_le}
use Rattle.std.specs.Int.{int_max, int_min}
use Rattle.std.proofs.lemmas.List.{map-append}
use Rattle.cf_num.specs.Limit.{within}
use Rattle.cf_tree.specs.CodeTree.{CodeTree, code_lit, code_truth, code_var, code_set_of, code_tuple, code_sum, code_sub, code_mul, code_neg, code_div, code_mod, code_min, code_max, code_compare, code_divides, code_and, code_or, code_not, code_union, code_inter, code_diff, code_subset, code_card, code_slice, code_fresh, code_if, code_let, code_solve, CodeTrees, no_codes, code_more}
use Rattle.cf_tree.specs.Values.{Value, number, truth, elements, number_of, truth_of, elements_of, first_of, same_value, compared}
use Rattle.cf_tree.specs.Meaning.{chosen, choose_with, joined_with, greatest}
use Rattle.cf_tree.specs.declared.base.Order.{Order}
use Rattle.cf_tree.specs.declared.base.Order.TheVariants.{Eq, Ne, Lt, Le, Gt, Ge}
use Rattle.cf_tree.specs.Sets.{set_fresh, set_put, set_diff, set_slice, set_union, set_inter, is_subset}
use Rattle.cf_tree.specs.Numbers.{count_of, quotient, remainder, is_multiple}
use Rattle.cf_eval.specs.declared.given.Stop.{Stop}
use Rattle.cf_eval.specs.declared.given.Stop.TheVariants.{NoMemory, Past, Unsolved}
use Rattle.cf_eval.specs.declared.kind.Kind.{Kind}
use Rattle.cf_eval.specs.declared.kind.Kind.TheVariants.{Number, Truth, Elements, Other}
use Rattle.cf_eval.specs.Forms.{kind_of_tree, is_number_kind, is_numeric}
use Rattle.cf_eval.specs.Reached.{Reached, given, none_from, past, then_reached, seen, as_first, as_number, as_truth, as_set, met, gives_truth, gives_set, reached, set_reached, sum_reached, best_reached, join_reached}
use Rattle.cf_eval.specs.Seen.{plains}
use Rattle.cf_eval.specs.RunAnswers.{StopIs, MoreAnswer}
use Rattle.cf_eval.specs.declared.value.Value.{Value as RunValue}
use Rattle.cf_eval.specs.declared.value.Value.TheVariants.{Int}

-- what is given, if anything is, has the property
abbrev Only : (List Value → Type 0) → Reached (List Value) → Type 0
Only P (given vs) = P vs
Only P (none_from n) = Unit {0}
Only P past = Unit {0}

abbrev IsNumber : List Value → Type 0
IsNumber vs = vs ≡ number (number_of (first_of vs)) ∷ []

abbrev IsTruth : List Value → Type 0
IsTruth vs = vs ≡ truth (truth_of (first_of vs)) ∷ []

abbrev IsElements : List Value → Type 0
IsElements vs = vs ≡ elements (elements_of (first_of vs)) ∷ []

then_only : {A : Type 0} (P : List Value → Type 0) (r : Reached A) (go : A → Reached (List Value)) → ((x : A) → Only P (go x)) → Only P (then_reached r go)
then_only P (given x) go h = h x
then_only P (none_from n) go h = tt
then_only P past go h = tt

met_only : (o : Option ℤ) → Only IsNumber (met o)
met_only None = tt
met_only (Some z) = refl

truth_is : (b : Bool) → Only IsTruth (gives_truth b)
truth_is b = refl

elements_is : (zs : List ℤ) → Only IsElements (gives_set zs)
elements_is zs = refl

fresh_only : (t : Bool) (zs : List ℤ) → Only IsElements (if t then given (elements zs ∷ []) else past)
fresh_only true zs = refl
fresh_only false zs = tt

sum_only : (cs : CodeTrees) (env : List Value) (z : ℤ) → Only IsNumber (sum_reached cs env z)
sum_only no_codes env z = refl
sum_only (code_more c cs) env z = then_only {A = ℤ} IsNumber (as_number (reached c env)) _
    (λ x. then_only {A = ℤ} IsNumber (as_number (met (within (z +ℤ x)))) _ (λ s. sum_only cs env s))

best_only : (better : ℤ → ℤ → ℤ) (cs : CodeTrees) (env : List Value) (z : Option ℤ) → Only IsNumber (best_reached better cs env z)
best_only better no_codes env z = met_only (within (chosen z))
best_only better (code_more c cs) env z =
    then_only {A = ℤ} IsNumber (as_number (reached c env)) _ (λ x. best_only better cs env (Some (choose_with better z x)))

set_only : (cs : CodeTrees) (env : List Value) (zs : List ℤ) → Only IsElements (set_reached cs env zs)
set_only no_codes env zs = refl
set_only (code_more c cs) env zs = then_only {A = ℤ} IsElements (as_number (reached c env)) _ (λ x. set_only cs env (set_put x zs))

join_only : (join : List ℤ → List ℤ → List ℤ) (cs : CodeTrees) (env : List Value) (zs : Option (List ℤ)) → Only IsElements (join_reached join cs env zs)
join_only join no_codes env zs = refl
join_only join (code_more c cs) env zs =
    then_only {A = List ℤ} IsElements (as_set (reached c env)) _ (λ x. join_only join cs env (Some (joined_with join zs x)))

number_only : (c : CodeTree) (env : List Value) → kind_of_tree c ≡ Number → Only IsNumber (reached c env)
number_only (code_lit k) env h = met_only (within k)
number_only (code_truth t) env h = cc
number_only (code_var x) env h = cc
number_only (code_set_of cs) env h = cc
number_only (code_tuple cs) env h = cc
number_only (code_sum cs) env h = sum_only cs env (pos 0)
number_only (code_sub a b) env h = then_only {A = ℤ} IsNumber (as_number (reached a env)) _
    (λ x. then_only {A = ℤ} IsNumber (as_number (reached b env)) _ (λ y. met_only (within (x -ℤ y))))
number_only (code_mul a b) env h = then_only {A = ℤ} IsNumber (as_number (reached a env)) _
    (λ x. then_only {A = ℤ} IsNumber (as_number (reached b env)) _ (λ y. met_only (within (x *ℤ y))))
number_only (code_neg a) env h = then_only {A = ℤ} IsNumber (as_number (reached a env)) _ (λ x. met_only (within (neg_ℤ x)))
number_only (code_div a k) env h = then_only {A = ℤ} IsNumber (as_number (reached a env)) _ (λ x. met_only (within (quotient x k)))
number_only (code_mod a k) env h = then_only {A = ℤ} IsNumber (as_number (reached a env)) _ (λ x. met_only (within (remainder x k)))
number_only (code_min cs) env h = best_only int_min cs env None
number_only (code_max cs) env h = best_only int_max cs env None
number_only (code_compare o a b) env h = cc
number_only (code_divides k a) env h = cc
number_only (code_and a b) env h = cc
number_only (code_or a b) env h = cc
number_only (code_not a) env h = cc
number_only (code_union cs) env h = cc
number_only (code_inter cs) env h = cc
number_only (code_diff a b) env h = cc
number_only (code_subset a b) env h = cc
number_only (code_card a) env h = then_only {A = List ℤ} IsNumber (as_set (reached a env)) _ (λ x. met_only (within (pos (length x))))
number_only (code_slice a b c) env h = cc
number_only (code_fresh a b) env h = cc
number_only (code_if t a b) env h = cc
number_only (code_let first count a b) env h = cc
number_only (code_solve n arms) env h = cc

truth_only : (c : CodeTree) (env : List Value) → kind_of_tree c ≡ Truth → Only IsTruth (reached c env)
truth_only (code_lit k) env h = cc
truth_only (code_truth t) env h = refl
truth_only (code_var x) env h = cc
truth_only (code_set_of cs) env h = cc
truth_only (code_tuple cs) env h = cc
truth_only (code_sum cs) env h = cc
truth_only (code_sub a b) env h = cc
truth_only (code_mul a b) env h = cc
truth_only (code_neg a) env h = cc
truth_only (code_div a k) env h = cc
truth_only (code_mod a k) env h = cc
truth_only (code_min cs) env h = cc
truth_only (code_max cs) env h = cc
truth_only (code_compare o a b) env h = then_only {A = Value} IsTruth (as_first (reached a env)) _
    (λ x. then_only {A = Value} IsTruth (as_first (reached b env)) _ (λ y. truth_is (compared o x y)))
truth_only (code_divides k a) env h = then_only {A = ℤ} IsTruth (as_number (reached a env)) _ (λ x. truth_is (is_multiple k x))
truth_only (code_and a b) env h = cc
truth_only (code_or a b) env h = cc
truth_only (code_not a) env h = then_only {A = Bool} IsTruth (as_truth (reached a env)) _ (λ x. truth_is (not x))
truth_only (code_union cs) env h = cc
truth_only (code_inter cs) env h = cc
truth_only (code_diff a b) env h = cc
truth_only (code_subset a b) env h = then_only {A = List ℤ} IsTruth (as_set (reached a env)) _
    (λ x. then_only {A = List ℤ} IsTruth (as_set (reached b env)) _ (λ y. truth_is (is_subset x y)))
truth_only (code_card a) env h = cc
truth_only (code_slice a b c) env h = cc
truth_only (code_fresh a b) env h = cc
truth_only (code_if t a b) env h = cc
truth_only (code_let first count a b) env h = cc
truth_only (code_solve n arms) env h = cc

elements_only : (c : CodeTree) (env : List Value) → kind_of_tree c ≡ Elements → Only IsElements (reached c env)
elements_only (code_lit k) env h = cc
elements_only (code_truth t) env h = cc
elements_only (code_var x) env h = cc
elements_only (code_set_of cs) env h = set_only cs env []
elements_only (code_tuple cs) env h = cc
elements_only (code_sum cs) env h = cc
elements_only (code_sub a b) env h = cc
elements_only (code_mul a b) env h = cc
elements_only (code_neg a) env h = cc
elements_only (code_div a k) env h = cc
elements_only (code_mod a k) env h = cc
elements_only (code_min cs) env h = cc
elements_only (code_max cs) env h = cc
elements_only (code_compare o a b) env h = cc
elements_only (code_divides k a) env h = cc
elements_only (code_and a b) env h = cc
elements_only (code_or a b) env h = cc
elements_only (code_not a) env h = cc
elements_only (code_union cs) env h = join_only set_union cs env None
elements_only (code_inter cs) env h = join_only set_inter cs env None
elements_only (code_diff a b) env h = then_only {A = List ℤ} IsElements (as_set (reached a env)) _
    (λ x. then_only {A = List ℤ} IsElements (as_set (reached b env)) _ (λ y. elements_is (set_diff x y)))
elements_only (code_subset a b) env h = cc
elements_only (code_card a) env h = cc
elements_only (code_slice a b c) env h =
    then_only {A = List ℤ} IsElements (as_set (reached a env)) _
    (λ x. then_only {A = ℤ} IsElements (as_number (reached b env)) _
    (λ y. then_only {A = ℤ} IsElements (as_number (reached c env)) _ (λ z. elements_is (set_slice x (count_of y) (count_of z)))))
elements_only (code_fresh a b) env h = then_only {A = List ℤ} IsElements (as_set (reached a env)) _
    (λ x. then_only {A = ℤ} IsElements (as_number (reached b env)) _
    (λ y. fresh_only (nat_le (greatest (set_fresh x (count_of y))) (2 ^ 127 - 1)) (set_fresh x (count_of y))))
elements_only (code_if t a b) env h = cc
elements_only (code_let first count a b) env h = cc
elements_only (code_solve n arms) env h = cc

one_number : (r : Reached (List Value)) (z : ℤ) → Only IsNumber r → as_number r ≡ given z → r ≡ given (number z ∷ [])
one_number (given vs) z p e = let v : number_of (first_of vs) ≡ z = cc in ap given p ∙ rw v refl
one_number (none_from n) z p e = cc
one_number past z p e = cc

one_truth : (r : Reached (List Value)) (b : Bool) → Only IsTruth r → as_truth r ≡ given b → r ≡ given (truth b ∷ [])
one_truth (given vs) b p e = let v : truth_of (first_of vs) ≡ b = cc in ap given p ∙ rw v refl
one_truth (none_from n) b p e = cc
one_truth past b p e = cc

one_set : (r : Reached (List Value)) (zs : List ℤ) → Only IsElements r → as_set r ≡ given zs → r ≡ given (elements zs ∷ [])
one_set (given vs) zs p e = let v : elements_of (first_of vs) ≡ zs = cc in ap given p ∙ rw v refl
one_set (none_from n) zs p e = cc
one_set past zs p e = cc

pub number_ok : (c : CodeTree) (env : List Value) (z : ℤ) → kind_of_tree c ≡ Number → as_number (reached c env) ≡ given z →
    reached c env ≡ given (number z ∷ [])
number_ok c env z k e = one_number (reached c env) z (number_only c env k) e

pub truth_ok : (c : CodeTree) (env : List Value) (b : Bool) → kind_of_tree c ≡ Truth → as_truth (reached c env) ≡ given b → reached c env ≡ given (truth b ∷ [])
truth_ok c env b k e = one_truth (reached c env) b (truth_only c env k) e

pub set_ok : (c : CodeTree) (env : List Value) (zs : List ℤ) → kind_of_tree c ≡ Elements → as_set (reached c env) ≡ given zs →
    reached c env ≡ given (elements zs ∷ [])
set_ok c env zs k e = one_set (reached c env) zs (elements_only c env k) e

-- what stops the seen stops what is seen
seen_stop : {A : Type 0} (f : Value → A) (e : Stop) (r : Reached (List Value)) → StopIs e (seen f (as_first r)) → StopIs e r
seen_stop f NoMemory r h = tt
seen_stop f Past (given vs) h = cc
seen_stop f Past (none_from n) h = cc
seen_stop f Past past h = refl
seen_stop f (Unsolved m) (given vs) h = cc
seen_stop f (Unsolved m) (none_from n) h = cc
seen_stop f (Unsolved m) past h = cc

pub number_stop : (e : Stop) (r : Reached (List Value)) → StopIs e (as_number r) → StopIs e r
number_stop e r h = seen_stop number_of e r h

pub truth_stop : (e : Stop) (r : Reached (List Value)) → StopIs e (as_truth r) → StopIs e r
truth_stop e r h = seen_stop truth_of e r h

pub set_stop : (e : Stop) (r : Reached (List Value)) → StopIs e (as_set r) → StopIs e r
set_stop e r h = seen_stop elements_of e r h

-- numbers are compared as the values are
kind_is : (k : Kind) → is_number_kind k ≡ true → k ≡ Number
kind_is Number e = refl
kind_is Truth e = cc
kind_is Elements e = cc
kind_is Other e = cc

same_by : (v w : Value) → v ≡ number (number_of v) → same_value v w ≡ same_value (number (number_of v)) (number (number_of w))
same_by (number z) w e = refl
same_by (truth b) w e = cc
same_by (elements zs) w e = cc

compared_by : (o : Order) (k : Kind) (v w : Value) → is_numeric o k ≡ true → (k ≡ Number → v ≡ number (number_of v)) →
    compared o v w ≡ compared o (number (number_of v)) (number (number_of w))
compared_by Eq k v w t h = same_by v w (h (kind_is k t))
compared_by Ne k v w t h = ap not (same_by v w (h (kind_is k t)))
compared_by Lt k v w t h = refl
compared_by Le k v w t h = refl
compared_by Gt k v w t h = refl
compared_by Ge k v w t h = refl

compare_both : (o : Order) (k : Kind) (r s : Reached (List Value)) (x y : ℤ) → is_numeric o k ≡ true → (k ≡ Number → Only IsNumber r) → as_number r ≡ given x →
    as_number s ≡ given y →
    as_truth (then_reached (as_first r) (λ v. then_reached (as_first s) (λ w. gives_truth (compared o v w)))) ≡ given (compared o (number x) (number y))
compare_both o k (given vs) (given ws) x y t h e f =
    let v : number_of (first_of vs) ≡ x = cc in
    let w : number_of (first_of ws) ≡ y = cc in
    ap given (compared_by o k (first_of vs) (first_of ws) t (λ i. ap first_of (h i))) ∙ rw (v, w) refl
compare_both o k (given vs) (none_from n) x y t h e f = cc
compare_both o k (given vs) past x y t h e f = cc
compare_both o k (none_from n) s x y t h e f = cc
compare_both o k past s x y t h e f = cc

pub compare_ok : (o : Order) (a b : CodeTree) (env : List Value) (x y : ℤ) → is_numeric o (kind_of_tree a) ≡ true → as_number (reached a env) ≡ given x →
    as_number (reached b env) ≡ given y →
    as_truth (reached (code_compare o a b) env) ≡ given (compared o (number x) (number y))
compare_ok o a b env x y t e f = compare_both o (kind_of_tree a) (reached a env) (reached b env) x y t (number_only a env) e f

stop_first : (e : Stop) (r : Reached (List Value)) (go : Value → Reached (List Value)) → StopIs e (as_number r) →
    StopIs e (as_truth (then_reached (as_first r) go))
stop_first NoMemory r go h = tt
stop_first Past (given vs) go h = cc
stop_first Past (none_from n) go h = cc
stop_first Past past go h = refl
stop_first (Unsolved m) (given vs) go h = cc
stop_first (Unsolved m) (none_from n) go h = cc
stop_first (Unsolved m) past go h = cc

pub compare_left : (e : Stop) (o : Order) (a b : CodeTree) (env : List Value) → StopIs e (as_number (reached a env)) →
    StopIs e (as_truth (reached (code_compare o a b) env))
compare_left e o a b env h = stop_first e (reached a env) _ h

stop_second : (e : Stop) (r s : Reached (List Value)) (x : ℤ) (go : Value → Value → Reached (List Value)) → as_number r ≡ given x → StopIs e (as_number s) →
    StopIs e (as_truth (then_reached (as_first r) (λ v. then_reached (as_first s) (go v))))
stop_second e (given vs) s x go f h = stop_first e s (go (first_of vs)) h
stop_second e (none_from n) s x go f h = cc
stop_second e past s x go f h = cc

pub compare_right : (e : Stop) (o : Order) (a b : CodeTree) (env : List Value) (x : ℤ) → as_number (reached a env) ≡ given x →
    StopIs e (as_number (reached b env)) → StopIs e (as_truth (reached (code_compare o a b) env))
compare_right e o a b env x f h = stop_second e (reached a env) (reached b env) x _ f h

-- values that are appended
pub more_items : {A : Type 0} (r : Result A Stop) (old new items : List RunValue) → OnOk r (new ≡ old ++ items) → IfErr r (λ e. e ≡ NoMemory) →
    MoreAnswer r (plains old) (plains new) (given (plains items))
more_items (Ok u) old new items ok err = (plains items, refl, rw (ok, map-append) refl)
more_items (Err s) old new items ok err = rw err tt

-- a number that a form of numbers gives, appended
pub more_number : {A : Type 0} (c : CodeTree) (env : List Value) (z : ℤ) (r : Result A Stop) (old new : List RunValue) → kind_of_tree c ≡ Number →
    as_number (reached c env) ≡ given z →
    OnOk r (new ≡ old ++ (Int z ∷ [])) → IfErr r (λ e. e ≡ NoMemory) → MoreAnswer r (plains old) (plains new) (reached c env)
more_number c env z (Ok u) old new k e ok err = (number z ∷ [], number_ok c env z k e, rw (ok, map-append) refl)
more_number c env z (Err s) old new k e ok err = rw err tt

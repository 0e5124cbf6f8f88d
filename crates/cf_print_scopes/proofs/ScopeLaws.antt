-- The names in one scope of a printed function differ, and none of them is reserved.
use Rattle.std.proofs.Common.{◌≡◌, ◌∙◌, ◌⊎◌, inl, inr, ℕ, zero, suc, ◌+◌, ◌%◌, ◌^◌, ◌<◌, Bool, true, false, not, ◌||◌, List, [], ◌∷◌, ◌++◌, length, take, nat_eq, slice_index_or, Option, Some, None, refl, sym, ap, subst, arith, codes, decimal, if◌then◌else◌}
use Rattle.std.specs.List.{list_all}
use Rattle.std.proofs.lemmas.Bool.Decides.{nat_tests}
use Rattle.std.proofs.lemmas.Fmt.{decimal_by_steps}
use Rattle.std.proofs.lemmas.List.{append_assoc, append-nil}
use Rattle.cf_tree.specs.declared.base.Base.{Base}
use Rattle.cf_tree.specs.declared.base.Base.TheVariants.{Int}
use Rattle.cf_tree.specs.CodeTree.{CodeTree, code_var, code_tuple, CodeTrees, no_codes, code_more}
use Rattle.cf_range.specs.Ranges.{whole}
use Rattle.cf_stmt.specs.Blocks.{Block, give, none, leave, bind, part, join, test, arm}
use Rattle.cf_print_term.specs.Expressions.{Sight}
use Rattle.cf_print_term.specs.declared.table.Table.{Table}
use Rattle.cf_print.specs.Names.{is_one_of, is_digit, may_name, names_function}
use Rattle.cf_print.specs.Words.{words_of}
use Rattle.cf_print.specs.declared.language.Language.{Language}
use Rattle.cf_print.specs.declared.language.Language.TheVariants.{C, Python, JavaScript, Rust}
use Rattle.cf_print.proofs.NameLaws.{new_name_is_free}
use Rattle.cf_print_line.specs.Heads.{all_parameters, part_opening, part_closing}
use Rattle.cf_print_line.specs.Layout.{line, comment_text, read_lines, let_lines, call_lines, if_text, else_lines, end_lines, scope_lines, search_text}
use Rattle.cf_print_shape.specs.Shapes.{block_reads, number_of, is_none, is_leave, is_if, exit_of, gives, is_straight, can_fall, is_plain, those_read, results_of}
use Rattle.cf_print_shape.specs.declared.exit.Exit.{Exit}
use Rattle.cf_print_shape.specs.declared.exit.Exit.TheVariants.{Falls, GoesOn, Ends}
use Rattle.cf_print_block.specs.Places.{Setting, table, words, name_in, deeper, leaving_by, behind_arm, outputs_at, giving_of, giving, Draft, put, taking, freed, at_hand, all_at_hand, given, variable, first_at_hand, behind_one, behind, ahead, Held}
use Rattle.cf_print_scopes.specs.Scopes.{IsNew, AreNew, is_fit, AreNames, IsSilent, no_lines, a_comment, an_unread, a_guard, an_exit, an_end, AreScoped, silent, chained, a_variable, a_call, a_side, two_sides, an_arm, a_search, IsFunction, no_functions, one_function, more_functions, Grows, NamesDiffer}
use Rattle.cf_print_block.specs.Statements.{Parameters, with_parameter, with_parameters, parameters_of, given_texts, with_value, with_let, with_variable, in_variables, no_values, all_in_variables, no_wish, never_read, wish_for, as_variables, bound_for, inner_behind, inner_ahead, kept, role_wish, names_for, has_pointers, Function, function_of, inside, begun, variables, results_held, called, in_place, exit_lines, guard_lines, give_back, arm_text, arm_comment, arm_lines, first_side, second_side, branched, tested_by, tested, guarded_by, guarded, has_scope, arm_place, plain_arm, search_name, with_loop, loops_of, loop_ends, searched_arm, last_arm_lines, told_behind, block, held, differ_behind}
use Rattle.cf_print_block.specs.declared.naming.Role.{Role}
use Rattle.cf_print_block.specs.declared.naming.Role.TheVariants.{Value as AValue, Pointer}
use Rattle.cf_print_block.specs.declared.place.Place.{Place}
use Rattle.cf_print_block.proofs.ParameterLaws.{new_last, first_true, second_true, true_and, parameters_differ}

-- ---- types that `cf_print_block` does not export, by what gives them
abbrev type_of : {A : Type 0} → A → Type 0
type_of {A = A} a = A

abbrev result_of : {A B : Type 0} → (A → B) → Type 0
result_of {B = B} f = B

-- a value that is at hand, what is wished for its variable, and the draft in some loops
abbrev AtHand : Type 0
AtHand = type_of (first_at_hand [])

abbrev Wish : Type 0
Wish = type_of no_wish

abbrev Loops : Setting → Type 0
Loops s = result_of (with_loop s 0 0)

-- ---- truth values and lists
not_true : (b : Bool) → not b ≡ true → b ≡ false
not_true true e = cc e
not_true false e = refl

not_false : (b : Bool) → not b ≡ false → b ≡ true
not_false true e = refl
not_false false e = cc e

or_first : (b c : Bool) → b ≡ true → (b || c) ≡ true
or_first true c e = refl
or_first false c e = cc e

or_second : (b c : Bool) → c ≡ true → (b || c) ≡ true
or_second true c e = refl
or_second false c e = e

-- what is told of variables alone
of_variable : (is fits : Bool) → (not is || fits) ≡ true → is ≡ true → fits ≡ true
of_variable true fits e f = e
of_variable false fits e f = cc f

all_and_one : {A : Type 0} (f : A → Bool) (xs : List A) (y : A) → list_all f xs ≡ true → f y ≡ true → list_all f (xs ++ (y ∷ [])) ≡ true
all_and_one f [] y e h = true_and (f y) true h refl
all_and_one f (x ∷ xs) y e h =
    true_and (f x) (list_all f (xs ++ (y ∷ []))) (first_true (f x) (list_all f xs) e) (all_and_one f xs y (second_true (f x) (list_all f xs) e) h)

all_and_all : {A : Type 0} (f : A → Bool) (xs ys : List A) → list_all f xs ≡ true → list_all f ys ≡ true → list_all f (xs ++ ys) ≡ true
all_and_all f [] ys e h = h
all_and_all f (x ∷ xs) ys e h =
    true_and (f x) (list_all f (xs ++ ys)) (first_true (f x) (list_all f xs) e) (all_and_all f xs ys (second_true (f x) (list_all f xs) e) h)

taken_first : (xs ys : List (List ℕ)) → take (length xs) (xs ++ ys) ≡ xs
taken_first [] ys = refl
taken_first (x ∷ xs) ys = ap (λ u. x ∷ u) (taken_first xs ys)

none_more : (xs ys zs : List (List ℕ)) → take (length xs) zs ≡ xs ++ ys → ys ≡ []
none_more [] ys zs e = sym e
none_more (x ∷ xs) ys [] e = cc e
none_more (x ∷ xs) ys (z ∷ zs) e = none_more xs ys zs (cc e)

-- a text between two others, behind one
around : (x a t b e : List ℕ) → e ≡ (x ++ a) ++ t → e ++ b ≡ x ++ (a ++ t ++ b)
around x a t b e is = ap (λ u. u ++ b) (is ∙ append_assoc x a t) ∙ append_assoc x (a ++ t) b

twice_around : (x a t b u c e f : List ℕ) → e ≡ (x ++ a) ++ t → f ≡ (e ++ b) ++ u → f ++ c ≡ x ++ (a ++ t ++ b ++ u ++ c)
twice_around x a t b u c e f is same = around x (a ++ t ++ b) u c f (same ∙ ap (λ v. v ++ u) (around x a t b e is))

nested : (a h t e z : List ℕ) → (a ++ (h ++ t ++ e)) ++ z ≡ (a ++ h) ++ t ++ (e ++ z)
nested a h t e z =
    ap (λ u. u ++ z) (sym (append_assoc a (h ++ t) e) ∙ ap (λ u. u ++ e) (sym (append_assoc a h t))) ∙ append_assoc ((a ++ h) ++ t) e z

nothing_around : (c o t z : List ℕ) → o ≡ [] → z ≡ [] → c ++ o ++ t ++ z ≡ c ++ t
nothing_around c o t z e f =
    ap (λ u. c ++ u ++ t ++ z) e ∙ ap (λ u. c ++ [] ++ t ++ u) f ∙ append-nil (c ++ [] ++ t) ∙ ap (λ u. u ++ t) (append-nil c)

-- ---- names
new_fit : (l : Language) (scope : List (List ℕ)) (x : List ℕ) → IsNew l scope x → is_fit l x ≡ true
new_fit l scope x new =
    or_second (nat_eq (length x) 0) (may_name (words_of l) x) (second_true (not (is_one_of x scope)) (may_name (words_of l) x) new)

with_new : (l : Language) (scope : List (List ℕ)) (x : List ℕ) → IsNew l scope x → AreNames l scope → AreNames l (scope ++ (x ∷ []))
with_new l scope x new a = record {
  differ = new_last [] scope x a.differ (not_true (is_one_of x scope) (first_true (not (is_one_of x scope)) (may_name (words_of l) x) new));
  fit = all_and_one (is_fit l) scope x a.fit (new_fit l scope x new);
}

with_all_new : (l : Language) (scope xs : List (List ℕ)) → AreNew l scope xs → AreNames l scope → AreNames l (scope ++ xs)
with_all_new l scope [] new a = subst (λ u. AreNames l u) (sym (append-nil scope)) a
with_all_new l scope (x ∷ xs) new a =
    subst (λ u. AreNames l u) (append_assoc scope (x ∷ []) xs) (with_all_new l (scope ++ (x ∷ [])) xs new.1 (with_new l scope x new.0 a))

pub all_new_fit : (l : Language) (scope xs : List (List ℕ)) → AreNew l scope xs → list_all (is_fit l) xs ≡ true
all_new_fit l scope [] new = refl
all_new_fit l scope (x ∷ xs) new =
    true_and (is_fit l x) (list_all (is_fit l) xs) (new_fit l scope x new.0) (all_new_fit l (scope ++ (x ∷ [])) xs new.1)

one_more_new : (l : Language) (scope xs : List (List ℕ)) (y : List ℕ) → AreNew l scope xs → IsNew l (scope ++ xs) y → AreNew l scope (xs ++ (y ∷ []))
one_more_new l scope [] y new last = (subst (λ u. IsNew l u y) (append-nil scope) last, tt)
one_more_new l scope (x ∷ xs) y new last =
    (new.0, one_more_new l (scope ++ (x ∷ [])) xs y new.1 (subst (λ u. IsNew l u y) (sym (append_assoc scope (x ∷ []) xs)) last))

-- a name that is made where these are taken
made_new : (s : Setting) (taken : List (List ℕ)) (b : Base) (wish : Option (List ℕ)) → IsNew s.language taken (name_in s taken b wish)
unfolding name_in
made_new s taken b wish = new_name_is_free (words s) taken b wish

pub all_made_new : (s : Setting) (r : Role) (asked : List (List ℕ)) (k : ℕ) (bs : List Base) (taken : List (List ℕ)) →
    AreNew s.language taken (names_for s r asked k bs taken)
all_made_new s r asked k [] taken = tt
all_made_new s r asked k (b ∷ bs) taken =
    (made_new s taken b (role_wish r asked k), all_made_new s r asked (suc k) bs (taken ++ (name_in s taken b (role_wish r asked k) ∷ [])))

keep : (l : Language) {scope end : List (List ℕ)} {t : List ℕ} → AreScoped l scope t end → AreNames l scope → AreNames l end
keep l (silent q) a = a
keep l (chained g h) a = keep l h (keep l g a)
keep l (a_variable {scope = before} x d is_read is_small b value new) a = with_new l before x new a
keep l (a_call {scope = before} d status bs xs f args new) a = with_all_new l before (xs ++ (status ∷ [])) new a
keep l (a_side d condition g) a = a
keep l (two_sides d condition g h) a = a
keep l (an_arm d comment g) a = a
keep l (a_search x d k new g) a = a

-- ---- lines that declare nothing
silent_read : (l : Language) (d : ℕ) (is_read : Bool) (x : List ℕ) → IsSilent l (read_lines l d is_read x)
silent_read l d true x = no_lines
silent_read l d false x = an_unread d x

silent_if : (l : Language) (is : Bool) (t : List ℕ) → IsSilent l t → IsSilent l (if is then [] else t)
silent_if l true t q = no_lines
silent_if l false t q = q

silent_comment : (l : Language) (p : Place) → IsSilent l (arm_comment l p)
silent_comment l p = a_comment p.depth (arm_text p.arms)

silent_arm : (l : Language) (p : Place) (last : Option ℕ) → IsSilent l (arm_lines l p last)
silent_arm l p (Some n) = silent_if l (nat_eq p.arms 0) (arm_comment l p) (silent_comment l p)
silent_arm l p None = silent_comment l p

silent_last : (l : Language) (p : Place) (b : Block) → IsSilent l (last_arm_lines l p b)
silent_last l p (arm ks a b) = no_lines
silent_last l p (none n) = no_lines
silent_last l p leave = no_lines
silent_last l p b = silent_comment l p

-- ---- drafts behind drafts
grows_self : (s : Setting) (d : Draft) → Grows s d d
grows_self s d = record {
  text = [];
  lines = sym (append-nil d.lines);
  more = [];
  taken = sym (append-nil d.taken);
  scoped = silent no_lines;
  made = [];
  functions = sym (append-nil d.functions);
  are = no_functions;
}

grows_then : (s : Setting) (d e f : Draft) → Grows s d e → Grows s e f → Grows s d f
grows_then s d e f g h = record {
  text = g.text ++ h.text;
  lines = h.lines ∙ ap (λ u. u ++ h.text) g.lines ∙ append_assoc d.lines g.text h.text;
  more = g.more ++ h.more;
  taken = h.taken ∙ ap (λ u. u ++ h.more) g.taken ∙ append_assoc d.taken g.more h.more;
  scoped = chained g.scoped h.scoped;
  made = g.made ++ h.made;
  functions = h.functions ∙ ap (λ u. u ++ h.made) g.functions ∙ append_assoc d.functions g.made h.made;
  are = more_functions g.are h.are;
}

put_one : (s : Setting) (t : List ℕ) (d : Draft) → IsSilent s.language t → Grows s d (put t d)
unfolding put
put_one s t d q = record {
  text = t;
  lines = refl;
  more = [];
  taken = sym (append-nil d.taken);
  scoped = silent q;
  made = [];
  functions = sym (append-nil d.functions);
  are = no_functions;
}

-- a line behind a draft, and a draft behind a line
put_grows : (s : Setting) (t : List ℕ) (d e : Draft) → IsSilent s.language t → Grows s d e → Grows s d (put t e)
put_grows s t d e q g = grows_then s d e (put t e) g (put_one s t e q)

behind_line : (s : Setting) (t : List ℕ) (d e : Draft) → IsSilent s.language t → Grows s (put t d) e → Grows s d e
behind_line s t d e q g = grows_then s d (put t d) e (put_one s t d q) g

-- a line that declares a variable
named_grows : (s : Setting) (depth : ℕ) (is_read is_small : Bool) (b : Base) (value : List ℕ) (wish : Option (List ℕ)) (d : Draft) →
    Grows s d (taking (name_in s d.taken b wish) (put (let_lines s.language depth is_read is_small b (name_in s d.taken b wish) value) d))
unfolding taking put
named_grows s depth is_read is_small b value wish d = record {
  text = let_lines s.language depth is_read is_small b (name_in s d.taken b wish) value;
  lines = refl;
  more = name_in s d.taken b wish ∷ [];
  taken = refl;
  scoped = a_variable (name_in s d.taken b wish) depth is_read is_small b value (made_new s d.taken b wish);
  made = [];
  functions = sym (append-nil d.functions);
  are = no_functions;
}

still_taken : (d e : Draft) (more : List (List ℕ)) → e.taken ≡ d.taken ++ more → take (length d.taken) e.taken ≡ d.taken
still_taken d e more is = ap (λ u. take (length d.taken) u) is ∙ taken_first d.taken more

if_grows : (s : Setting) (d : Draft) (is : Bool) (a b : Draft) → Grows s d a → Grows s d b → Grows s d (if is then a else b)
if_grows s d true a b g h = g
if_grows s d false a b g h = h

-- ---- values at hand
abbrev text_fits : Language → AtHand → Bool
text_fits l v = is_fit l v.text

abbrev value_fits : Language → AtHand → Bool
value_fits l v = not v.is_variable || is_fit l v.text

abbrev TextsFit : Language → List AtHand → Type 0
TextsFit l vs = list_all (text_fits l) vs ≡ true

abbrev ValuesFit : Language → List AtHand → Type 0
ValuesFit l vs = list_all (value_fits l) vs ≡ true

abbrev NamesFit : Setting → Sight → Type 0
NamesFit s w = list_all (is_fit s.language) w.names ≡ true

texts_are_values : (l : Language) (vs : List AtHand) → TextsFit l vs → ValuesFit l vs
texts_are_values l [] e = refl
texts_are_values l (v ∷ vs) e =
    true_and (value_fits l v) (list_all (value_fits l) vs)
    (or_second (not v.is_variable) (is_fit l v.text) (first_true (text_fits l v) (list_all (text_fits l) vs) e))
    (texts_are_values l vs (second_true (text_fits l v) (list_all (text_fits l) vs) e))

name_at_fits : (l : Language) (xs : List (List ℕ)) (x : ℕ) → list_all (is_fit l) xs ≡ true → is_fit l (slice_index_or xs x []) ≡ true
name_at_fits l [] x e = refl
name_at_fits l (y ∷ ys) zero e = first_true (is_fit l y) (list_all (is_fit l) ys) e
name_at_fits l (y ∷ ys) (suc x) e = name_at_fits l ys x (second_true (is_fit l y) (list_all (is_fit l) ys) e)

at_hand_fits : (l : Language) (t : Table) (w : Sight) (c : CodeTree) → list_all (is_fit l) w.names ≡ true → value_fits l (at_hand t w c) ≡ true
unfolding at_hand
at_hand_fits l t w (code_var x) e = name_at_fits l w.names x e
at_hand_fits l t w c e = refl

all_at_hand_fit : (l : Language) (t : Table) (w : Sight) (cs : CodeTrees) → list_all (is_fit l) w.names ≡ true → ValuesFit l (all_at_hand t w cs)
all_at_hand_fit l t w no_codes e = refl
all_at_hand_fit l t w (code_more c cs) e =
    true_and (value_fits l (at_hand t w c)) (list_all (value_fits l) (all_at_hand t w cs)) (at_hand_fits l t w c e) (all_at_hand_fit l t w cs e)

given_fit : (l : Language) (t : Table) (w : Sight) (c : CodeTree) → list_all (is_fit l) w.names ≡ true → ValuesFit l (given t w c)
given_fit l t w (code_tuple cs) e = all_at_hand_fit l t w cs e
given_fit l t w c e = true_and (value_fits l (at_hand t w c)) true (at_hand_fits l t w c e) refl

-- ---- values in variables
let_grows : (s : Setting) (depth : ℕ) (wish : Wish) (v : AtHand) (h : Held) → Grows s h.draft (with_let s depth wish v h).draft
unfolding with_let
let_grows s depth wish v h = named_grows s depth wish.is_read v.is_small v.base v.text wish.name h.draft

let_texts : (s : Setting) (depth : ℕ) (wish : Wish) (v : AtHand) (h : Held) → TextsFit s.language h.values →
    TextsFit s.language (with_let s depth wish v h).values
unfolding with_let
let_texts s depth wish v h e =
    let name = name_in s h.draft.taken v.base wish.name in
    all_and_one (text_fits s.language) h.values (variable (table s) v.base v.range name) e
    (new_fit s.language h.draft.taken name (made_new s h.draft.taken v.base wish.name))

if_held : (s : Setting) (d : Draft) (is : Bool) (a b : Held) → Grows s d a.draft → Grows s d b.draft → Grows s d (if is then a else b).draft
if_held s d true a b g h = g
if_held s d false a b g h = h

if_texts : (l : Language) (is : Bool) (a b : Held) → (is ≡ true → TextsFit l a.values) → TextsFit l b.values → TextsFit l (if is then a else b).values
if_texts l true a b e f = e refl
if_texts l false a b e f = f

variable_grows : (s : Setting) (depth : ℕ) (wish : Wish) (v : AtHand) (h : Held) → Grows s h.draft (with_variable s depth wish v h).draft
unfolding with_variable
variable_grows s depth wish v h =
    let lines = read_lines s.language depth wish.is_read v.text in
    if_held s h.draft v.is_variable (with_value v (put lines h.draft) h) (with_let s depth wish v h)
    (put_one s lines h.draft (silent_read s.language depth wish.is_read v.text)) (let_grows s depth wish v h)

variable_texts : (s : Setting) (depth : ℕ) (wish : Wish) (v : AtHand) (h : Held) → TextsFit s.language h.values → value_fits s.language v ≡ true →
    TextsFit s.language (with_variable s depth wish v h).values
unfolding with_variable
variable_texts s depth wish v h e f =
    let lines = read_lines s.language depth wish.is_read v.text in
    if_texts s.language v.is_variable (with_value v (put lines h.draft) h) (with_let s depth wish v h)
    (λ is. all_and_one (text_fits s.language) h.values v e (of_variable v.is_variable (is_fit s.language v.text) f is)) (let_texts s depth wish v h e)

variables_grow : (s : Setting) (depth : ℕ) (wish : Wish) (vs : List AtHand) (h : Held) → Grows s h.draft (in_variables s depth wish vs h).draft
variables_grow s depth wish [] h = grows_self s h.draft
variables_grow s depth wish (v ∷ vs) h =
    let next = with_variable s depth wish v h in
    grows_then s h.draft next.draft (in_variables s depth wish vs next).draft (variable_grows s depth wish v h) (variables_grow s depth wish vs next)

variables_texts : (s : Setting) (depth : ℕ) (wish : Wish) (vs : List AtHand) (h : Held) → TextsFit s.language h.values → ValuesFit s.language vs →
    TextsFit s.language (in_variables s depth wish vs h).values
variables_texts s depth wish [] h e f = e
variables_texts s depth wish (v ∷ vs) h e f =
    let l = s.language in
    variables_texts s depth wish vs (with_variable s depth wish v h)
    (variable_texts s depth wish v h e (first_true (value_fits l v) (list_all (value_fits l) vs) f)) (second_true (value_fits l v) (list_all (value_fits l) vs) f)

-- what is held, behind a draft: it grows, and names of variables among the values are fit
abbrev Holds : Setting → Draft → Held → Type 0
Holds s d h = Grows s d h.draft × ValuesFit s.language h.values

-- and all values are variables
abbrev Binds : Setting → Draft → Held → Type 0
Binds s d h = Grows s d h.draft × TextsFit s.language h.values

all_bind : (s : Setting) (depth : ℕ) (wish : Wish) (d : Draft) (h : Held) → Holds s d h → Binds s d (all_in_variables s depth wish h)
unfolding all_in_variables
all_bind s depth wish d h g = (
  grows_then s d h.draft (in_variables s depth wish h.values (no_values h.draft)).draft g.0 (variables_grow s depth wish h.values (no_values h.draft)),
  variables_texts s depth wish h.values (no_values h.draft) refl g.1,
)

those_grow : (s : Setting) (p : Place) (b : Block) (x : ℕ) (vs : List AtHand) (h : Held) → Grows s h.draft (as_variables s p b x vs h).draft
those_grow s p b x [] h = grows_self s h.draft
those_grow s p b x (v ∷ vs) h =
    let next = with_variable s p.depth (wish_for s p b x) v h in
    grows_then s h.draft next.draft (as_variables s p b (suc x) vs next).draft (variable_grows s p.depth (wish_for s p b x) v h)
    (those_grow s p b (suc x) vs next)

those_texts : (s : Setting) (p : Place) (b : Block) (x : ℕ) (vs : List AtHand) (h : Held) → TextsFit s.language h.values → ValuesFit s.language vs →
    TextsFit s.language (as_variables s p b x vs h).values
those_texts s p b x [] h e f = e
those_texts s p b x (v ∷ vs) h e f =
    let l = s.language in
    those_texts s p b (suc x) vs (with_variable s p.depth (wish_for s p b x) v h)
    (variable_texts s p.depth (wish_for s p b x) v h e (first_true (value_fits l v) (list_all (value_fits l) vs) f))
    (second_true (value_fits l v) (list_all (value_fits l) vs) f)

bound_binds : (s : Setting) (p : Place) (x : ℕ) (b : Block) (d : Draft) (h : Held) → Holds s d h → Binds s d (bound_for s p x b h)
unfolding bound_for
bound_binds s p x b d h g = (
  grows_then s d h.draft (as_variables s p b x h.values (no_values h.draft)).draft g.0 (those_grow s p b x h.values (no_values h.draft)),
  those_texts s p b x h.values (no_values h.draft) refl g.1,
)

one_behind_fits : (s : Setting) (w : Sight) (v : AtHand) → NamesFit s w → text_fits s.language v ≡ true → NamesFit s (behind_one w v)
unfolding behind_one
one_behind_fits s w v e f = all_and_one (is_fit s.language) w.names v.text e f

behind_fits : (s : Setting) (w : Sight) (vs : List AtHand) → NamesFit s w → TextsFit s.language vs → NamesFit s (behind w vs)
behind_fits s w [] e f = e
behind_fits s w (v ∷ vs) e f =
    let l = s.language in
    behind_fits s (behind_one w v) vs (one_behind_fits s w v e (first_true (text_fits l v) (list_all (text_fits l) vs) f))
    (second_true (text_fits l v) (list_all (text_fits l) vs) f)

first_fits : (l : Language) (vs : List AtHand) → TextsFit l vs → is_fit l (first_at_hand vs).text ≡ true
first_fits l [] e = refl
first_fits l (v ∷ vs) e = first_true (text_fits l v) (list_all (text_fits l) vs) e

ahead_fits : (s : Setting) (w : Sight) (vs : List AtHand) → NamesFit s w → TextsFit s.language vs → NamesFit s (ahead (first_at_hand vs) w)
unfolding ahead
ahead_fits s w vs e f = true_and (is_fit s.language (first_at_hand vs).text) (list_all (is_fit s.language) w.names) (first_fits s.language vs f) e

behind_grows : (s : Setting) (p : Place) (w : Sight) (b : Block) (d : Draft) (h : Held) → Holds s d h → Grows s d (inner_behind s p w b h).draft
unfolding inner_behind
behind_grows s p w b d h g = (bound_binds s p (length w.names) b d h g).0

behind_names : (s : Setting) (p : Place) (w : Sight) (b : Block) (d : Draft) (h : Held) → NamesFit s w → Holds s d h →
    NamesFit s (inner_behind s p w b h).scope
unfolding inner_behind
behind_names s p w b d h e g = behind_fits s w (bound_for s p (length w.names) b h).values e (bound_binds s p (length w.names) b d h g).1

ahead_grows : (s : Setting) (p : Place) (w : Sight) (b : Block) (d : Draft) (h : Held) → Holds s d h → Grows s d (inner_ahead s p w b h).draft
unfolding inner_ahead
ahead_grows s p w b d h g = (bound_binds s p 0 b d h g).0

ahead_names : (s : Setting) (p : Place) (w : Sight) (b : Block) (d : Draft) (h : Held) → NamesFit s w → Holds s d h →
    NamesFit s (inner_ahead s p w b h).scope
unfolding inner_ahead
ahead_names s p w b d h e g = ahead_fits s w (bound_for s p 0 b h).values e (bound_binds s p 0 b d h g).1

if_holds : (s : Setting) (d : Draft) (is : Bool) (a b : Held) → Holds s d a → Holds s d b → Holds s d (if is then a else b)
if_holds s d true a b g h = g
if_holds s d false a b g h = h

binds_hold : (s : Setting) (d : Draft) (h : Held) → Binds s d h → Holds s d h
binds_hold s d h g = (g.0, texts_are_values s.language h.values g.1)

kept_holds : (s : Setting) (depth : ℕ) (is : Bool) (d : Draft) (h : Held) → Holds s d h → Holds s d (kept s depth is h)
unfolding kept
kept_holds s depth is d h g =
    let all = all_in_variables s depth no_wish h in if_holds s d is h all g (binds_hold s d all (all_bind s depth no_wish d h g))

-- ---- what a function begins with
one_read_fits : (f : List ℕ → Bool) (y : List ℕ) (rest : List (List ℕ)) (is : Bool) → f y ≡ true → list_all f rest ≡ true →
    list_all f (if is then y ∷ rest else rest) ≡ true
one_read_fits f y rest true h e = true_and (f y) (list_all f rest) h e
one_read_fits f y rest false h e = e

read_fit : (f : List ℕ → Bool) (x : ℕ) (b : Block) (ys : List (List ℕ)) → list_all f ys ≡ true → list_all f (those_read x b ys) ≡ true
read_fit f x b [] e = refl
read_fit f x b (y ∷ ys) e =
    one_read_fits f y (those_read (suc x) b ys) (block_reads x b) (first_true (f y) (list_all f ys) e)
    (read_fit f (suc x) b ys (second_true (f y) (list_all f ys) e))

one_fits : (f : List ℕ → Bool) (x : List ℕ) (b : Base) (ps : Parameters) (is_old : Bool) → f x ≡ true → list_all f ps.names ≡ true →
    list_all f (if is_old then ps else record { names = ps.names ++ (x ∷ []); bases = ps.bases ++ (b ∷ []) }).names ≡ true
one_fits f x b ps true h e = e
one_fits f x b ps false h e = all_and_one f ps.names x e h

parameters_fit : (f : List ℕ → Bool) (xs : List (List ℕ)) (bs : List Base) (ps : Parameters) → list_all f xs ≡ true → list_all f ps.names ≡ true →
    list_all f (with_parameters xs bs ps).names ≡ true
parameters_fit f [] bs ps h e = e
parameters_fit f (x ∷ xs) [] ps h e = e
parameters_fit f (x ∷ xs) (b ∷ bs) ps h e =
    parameters_fit f xs bs (with_parameter x b ps) (second_true (f x) (list_all f xs) h)
    (one_fits f x b ps (is_one_of x ps.names) (first_true (f x) (list_all f xs) h) e)

with_pointers : (s : Setting) (is : Bool) (asked : List (List ℕ)) (bs : List Base) (taken : List (List ℕ)) → AreNames s.language taken →
    AreNames s.language (taken ++ (if is then names_for s Pointer asked 0 bs taken else []))
with_pointers s true asked bs taken a =
    with_all_new s.language taken (names_for s Pointer asked 0 bs taken) (all_made_new s Pointer asked 0 bs taken) a
with_pointers s false asked bs taken a = subst (λ u. AreNames s.language u) (sym (append-nil taken)) a

params_differ : (s : Setting) (w : Sight) (a : Block) (numbers : List ℕ) →
    differ_behind [] (parameters_of (those_read 0 a w.names) (those_read 0 a w.bases)).names ≡ true
unfolding function_of
params_differ s w a numbers = parameters_differ s w a numbers

begun_with : (s : Setting) (w : Sight) (a : Block) (numbers : List ℕ) → NamesFit s w →
    AreNames s.language ((function_of s w a numbers).params ++ (function_of s w a numbers).pointers)
unfolding function_of
begun_with s w a numbers e =
    let read = parameters_of (those_read 0 a w.names) (those_read 0 a w.bases) in
    let fit : list_all (is_fit s.language) read.names ≡ true =
    parameters_fit (is_fit s.language) (those_read 0 a w.names) (those_read 0 a w.bases) (record { names = []; bases = [] })
    (read_fit (is_fit s.language) 0 a w.names e) refl in
    with_pointers s (has_pointers s.language) (s.outputs (number_of a)) (results_of w.bases a) read.names
    (record { differ = params_differ s w a numbers; fit = fit })

-- ---- functions for parts
variables_fit : (s : Setting) (xs : List (List ℕ)) (bs : List Base) → list_all (is_fit s.language) xs ≡ true → ValuesFit s.language (variables s xs bs)
variables_fit s [] bs e = refl
variables_fit s (x ∷ xs) [] e = refl
variables_fit s (x ∷ xs) (b ∷ bs) e =
    let l = s.language in
    true_and (value_fits l (variable (table s) b whole x)) (list_all (value_fits l) (variables s xs bs)) (first_true (is_fit l x) (list_all (is_fit l) xs) e)
    (variables_fit s xs bs (second_true (is_fit l x) (list_all (is_fit l) xs) e))

function_behind : (f m o t c : List ℕ) → ((f ++ m) ++ (o ++ t)) ++ c ≡ f ++ (m ++ (o ++ t ++ c))
function_behind f m o t c = append_assoc (f ++ m) (o ++ t) c ∙ append_assoc f m (o ++ t ++ c)

results_hold : (s : Setting) (depth : ℕ) (f : Function) (d done : Draft) → AreNames s.language (f.params ++ f.pointers) →
    Grows s (begun s f d.functions d.numbers) done → Holds s d (results_held s depth f d.lines d.pointers d.taken done)
unfolding results_held begun
results_hold s depth f d done names g =
    let l = s.language in
    let asked = outputs_at s (giving_of f.number) in
    let xs = names_for s AValue asked 0 f.results d.taken in
    let new : AreNew l d.taken xs = all_made_new s AValue asked 0 f.results d.taken in
    let status = name_in s (d.taken ++ xs) Int (Some (codes "status")) in
    let opening = part_opening l f.number f.name (all_parameters l f.params f.bases f.pointers f.results) f.results in
    let call = call_lines l depth status f.results xs f.name f.params in
    let same : (d.taken ++ xs) ++ (status ∷ []) ≡ d.taken ++ (xs ++ (status ∷ [])) = append_assoc d.taken xs (status ∷ []) in
    let own : IsFunction l (opening ++ g.text ++ part_closing l) = record {
      number = f.number;
      name = f.name;
      params = f.params;
      bases = f.bases;
      pointers = f.pointers;
      results = f.results;
      body = g.text;
      end = done.taken;
      is = refl;
      names = names;
      scoped = g.scoped;
    } in
    let grown : Grows s d (results_held s depth f d.lines d.pointers d.taken done).draft = record {
      text = call;
      lines = refl;
      more = xs ++ (status ∷ []);
      taken = same;
      scoped = subst (λ u. AreScoped l d.taken call u) (sym same)
          (a_call depth status f.results xs f.name f.params
          (one_more_new l d.taken xs status new (made_new s (d.taken ++ xs) Int (Some (codes "status")))));
      made = g.made ++ (opening ++ g.text ++ part_closing l);
      functions = ap (λ u. (u ++ done.lines) ++ part_closing l) g.functions ∙
          ap (λ u. ((d.functions ++ g.made) ++ u) ++ part_closing l) g.lines ∙
          function_behind d.functions g.made opening g.text (part_closing l);
      are = more_functions g.are (one_function own);
    } in
    (grown, variables_fit s xs f.results (all_new_fit l d.taken xs new))

abbrev PartGrows : Setting → (Place → Draft → Draft) → Type 0
PartGrows s body = (p : Place) (d : Draft) → Grows s d (body p d)

abbrev ValuesGrow : Setting → (Place → Draft → Held) → Type 0
ValuesGrow s body = (p : Place) (d : Draft) → Holds s d (body p d)

called_holds : (s : Setting) (p : Place) (w : Sight) (a : Block) (body : Place → Draft → Draft) (d : Draft) → NamesFit s w → PartGrows s body →
    Holds s d (called s p w a body d)
unfolding called
called_holds s p w a body d e g =
    let f = function_of s w a d.numbers in
    let start = begun s f d.functions d.numbers in
    results_hold s p.depth f d (body (inside f) start) (begun_with s w a d.numbers e) (g (inside f) start)

place_holds : (s : Setting) (p : Place) (w : Sight) (a : Block) (straight : Place → Draft → Held) (body : Place → Draft → Draft) (d : Draft) →
    NamesFit s w → PartGrows s body → ValuesGrow s straight → Holds s d (in_place s p w a straight body d)
unfolding in_place
place_holds s p w a straight body d e g h =
    if_holds s d (is_straight p.exit a) (straight p d) (called s p w a body d) (h p d) (called_holds s p w a body d e g)

-- ---- tests
give_grows : (s : Setting) (p : Place) (d : Draft) (h : Held) → Grows s d h.draft → Grows s d (give_back s p h)
unfolding give_back
give_grows s p d h g = put_grows s _ d h.draft (an_end p.depth h.draft.pointers (given_texts s.language h.values)) g

-- behind a side alone, and behind two, whose names are free again
one_side : (s : Setting) (depth : ℕ) (condition : List ℕ) (d e : Draft) → Grows s (put (line s.language depth (if_text s.language condition)) d) e →
    Grows s d (put (end_lines s.language depth) (freed (length d.taken) e))
unfolding put freed
one_side s depth condition d e g =
    let l = s.language in
    let opening = line l depth (if_text l condition) in
    let text = opening ++ g.text ++ end_lines l depth in
    let same : take (length d.taken) e.taken ≡ d.taken = still_taken d e g.more g.taken in
    record {
      text = text;
      lines = around d.lines opening g.text (end_lines l depth) e.lines g.lines;
      more = [];
      taken = same ∙ sym (append-nil d.taken);
      scoped = subst (λ u. AreScoped l d.taken text u) (sym same) (a_side depth condition g.scoped);
      made = g.made;
      functions = g.functions;
      are = g.are;
    }

both_sides : (s : Setting) (depth : ℕ) (condition : List ℕ) (d e f : Draft) → Grows s (put (line s.language depth (if_text s.language condition)) d) e →
    Grows s (put (else_lines s.language depth) (freed (length d.taken) e)) f → Grows s d (put (end_lines s.language depth) (freed (length d.taken) f))
unfolding put freed
both_sides s depth condition d e f g h =
    let l = s.language in
    let opening = line l depth (if_text l condition) in
    let text = opening ++ g.text ++ else_lines l depth ++ h.text ++ end_lines l depth in
    let first : take (length d.taken) e.taken ≡ d.taken = still_taken d e g.more g.taken in
    let same : take (length d.taken) f.taken ≡ d.taken = still_taken d f h.more (h.taken ∙ ap (λ u. u ++ h.more) first) in
    record {
      text = text;
      lines = twice_around d.lines opening g.text (else_lines l depth) h.text (end_lines l depth) e.lines f.lines g.lines h.lines;
      more = [];
      taken = same ∙ sym (append-nil d.taken);
      scoped = subst (λ u. AreScoped l d.taken text u) (sym same)
          (two_sides depth condition g.scoped (subst (λ u. AreScoped l u h.text f.taken) first h.scoped));
      made = g.made ++ h.made;
      functions = h.functions ∙ ap (λ u. u ++ h.made) g.functions ∙ append_assoc d.functions g.made h.made;
      are = more_functions g.are h.are;
    }

branches_grow : (s : Setting) (p : Place) (a b : Block) (v : AtHand) (yes_side no_side : Place → Draft → Draft) (d : Draft) → PartGrows s yes_side →
    PartGrows s no_side → Grows s d (branched s p a b v yes_side no_side d)
unfolding branched first_side second_side
branches_grow s p a b v yes_side no_side d g h =
    let l = s.language in
    let start = put (line l p.depth (if_text l v.text)) d in
    let yes_end = yes_side (deeper p) start in
    let behind_yes = freed (length d.taken) yes_end in
    let other = put (else_lines l p.depth) behind_yes in
    let closed = put (end_lines l p.depth) behind_yes in
    let alone : Grows s d closed = one_side s p.depth v.text d yes_end (g (deeper p) start) in
    if_grows s d (is_leave b) _ _ alone
    (if_grows s d (can_fall a) _ _ (both_sides s p.depth v.text d yes_end (no_side (deeper p) other) (g (deeper p) start) (h (deeper p) other))
    (grows_then s d closed (no_side p closed) alone (h p closed)))

tested_grows : (e f : Option Exit) (s : Setting) (p : Place) (a b : Block) (v : AtHand) (yes_side no_side : Place → Draft → Draft) (d : Draft) →
    PartGrows s yes_side → PartGrows s no_side → Grows s d (tested_by e f s p a b v yes_side no_side d)
tested_grows (Some e) f s p a b v yes_side no_side d g h = behind_line s (guard_lines s.language p.depth v.denied e) d _ (a_guard p.depth v.denied e) (g p _)
tested_grows None (Some e) s p a b v yes_side no_side d g h = behind_line s (guard_lines s.language p.depth v.text e) d _ (a_guard p.depth v.text e) (h p _)
tested_grows None None s p a b v yes_side no_side d g h = branches_grow s p a b v yes_side no_side d g h

test_grows : (s : Setting) (p : Place) (a b : Block) (d : Draft) (c : Held) (yes_side no_side : Place → Draft → Draft) → Grows s d c.draft →
    PartGrows s yes_side → PartGrows s no_side → Grows s d (tested s p a b c yes_side no_side)
unfolding tested
test_grows s p a b d c yes_side no_side before g h =
    grows_then s d c.draft _ before
    (tested_grows (exit_of p.exit b) (exit_of p.exit a) s p a b (first_at_hand c.values) yes_side no_side c.draft g h)

-- values behind a line
values_behind_line : (s : Setting) (t : List ℕ) (d : Draft) (h : Held) → IsSilent s.language t → Holds s (put t d) h → Holds s d h
values_behind_line s t d h q g = (behind_line s t d h.draft q g.0, g.1)

guard_holds : (e f : Option Exit) (s : Setting) (p : Place) (v : AtHand) (yes_side no_side : Place → Draft → Held) (d : Draft) →
    ValuesGrow s yes_side → ValuesGrow s no_side → Holds s d (guarded_by e f s p v yes_side no_side d)
guard_holds (Some e) f s p v yes_side no_side d g h =
    let t = guard_lines s.language p.depth v.denied e in values_behind_line s t d (yes_side p (put t d)) (a_guard p.depth v.denied e) (g p (put t d))
guard_holds None (Some e) s p v yes_side no_side d g h =
    let t = guard_lines s.language p.depth v.text e in values_behind_line s t d (no_side p (put t d)) (a_guard p.depth v.text e) (h p (put t d))
guard_holds None None s p v yes_side no_side d g h = (grows_self s d, refl)

guards_hold : (s : Setting) (p : Place) (a b : Block) (d : Draft) (c : Held) (yes_side no_side : Place → Draft → Held) → Grows s d c.draft →
    ValuesGrow s yes_side → ValuesGrow s no_side → Holds s d (guarded s p a b c yes_side no_side)
unfolding guarded
guards_hold s p a b d c yes_side no_side before g h =
    let k : Holds s c.draft (guarded_by (exit_of p.exit b) (exit_of p.exit a) s p (first_at_hand c.values) yes_side no_side c.draft) =
    guard_holds (exit_of p.exit b) (exit_of p.exit a) s p (first_at_hand c.values) yes_side no_side c.draft g h in
    (grows_then s d c.draft _ before k.0, k.1)

-- ---- arms
-- with a scope of its own
scoped_arm : (s : Setting) (depth : ℕ) (comment : List ℕ) (d e : Draft) →
    Grows s (put (scope_lines s.language depth) (put (line s.language depth (comment_text s.language comment)) d)) e →
    Grows s d (put (end_lines s.language depth) (freed (length d.taken) e))
unfolding put freed
scoped_arm s depth comment d e g =
    let l = s.language in
    let told = line l depth (comment_text l comment) in
    let opening = told ++ scope_lines l depth in
    let text = opening ++ g.text ++ end_lines l depth in
    let same : take (length d.taken) e.taken ≡ d.taken = still_taken d e g.more g.taken in
    record {
      text = text;
      lines = around d.lines opening g.text (end_lines l depth) e.lines
          (g.lines ∙ ap (λ u. u ++ g.text) (append_assoc d.lines told (scope_lines l depth)));
      more = [];
      taken = same ∙ sym (append-nil d.taken);
      scoped = subst (λ u. AreScoped l d.taken text u) (sym same) (an_arm depth comment g.scoped);
      made = g.made;
      functions = g.functions;
      are = g.are;
    }

-- where nothing stands around a scope
bare_arm : (s : Setting) (depth : ℕ) (comment : List ℕ) (d e : Draft) → scope_lines s.language depth ≡ [] → end_lines s.language depth ≡ [] →
    Grows s (put (line s.language depth (comment_text s.language comment)) d) e → Grows s d (freed (length d.taken) e)
unfolding put freed
bare_arm s depth comment d e none_before none_behind g =
    let l = s.language in
    let told = line l depth (comment_text l comment) in
    let same : take (length d.taken) e.taken ≡ d.taken = still_taken d e g.more g.taken in
    let own : AreScoped l d.taken (told ++ g.text) d.taken =
    subst (λ u. AreScoped l d.taken u d.taken) (nothing_around told (scope_lines l depth) g.text (end_lines l depth) none_before none_behind)
    (an_arm depth comment g.scoped) in
    record {
      text = told ++ g.text;
      lines = g.lines ∙ append_assoc d.lines told g.text;
      more = [];
      taken = same ∙ sym (append-nil d.taken);
      scoped = subst (λ u. AreScoped l d.taken (told ++ g.text) u) (sym same) own;
      made = g.made;
      functions = g.functions;
      are = g.are;
    }

-- where no name is taken
same_taken : (s : Setting) (d e : Draft) → e.taken ≡ d.taken → Grows s d e → Grows s d (freed (length d.taken) e)
unfolding freed
same_taken s d e is g =
    let same : take (length d.taken) e.taken ≡ d.taken = still_taken d e g.more g.taken in
    record {
      text = g.text;
      lines = g.lines;
      more = [];
      taken = same ∙ sym (append-nil d.taken);
      scoped = subst (λ u. AreScoped s.language d.taken g.text u) (is ∙ sym same) g.scoped;
      made = g.made;
      functions = g.functions;
      are = g.are;
    }

-- an arm without a scope of its own: the language has none, or no name is taken
abbrev IsBare : Setting → Place → (Place → Draft → Draft) → Type 0
IsBare s p body =
    ((scope_lines s.language p.depth ≡ []) × (end_lines s.language p.depth ≡ [])) ⊎ ((d : Draft) → (body (arm_place false p) d).taken ≡ d.taken)

put_taken : (t : List ℕ) (d : Draft) → (put t d).taken ≡ d.taken
unfolding put
put_taken t d = refl

bare_grows : (s : Setting) (p : Place) (body : Place → Draft → Draft) (d : Draft) → IsBare s p body → PartGrows s body →
    Grows s d (freed (length d.taken) (body (arm_place false p) (put (arm_comment s.language p) d)))
bare_grows s p body d (inl without) g =
    bare_arm s p.depth (arm_text p.arms) d (body (arm_place false p) (put (arm_comment s.language p) d)) without.0 without.1
    (g (arm_place false p) (put (arm_comment s.language p) d))
bare_grows s p body d (inr same) g =
    let told = put (arm_comment s.language p) d in
    let ended = body (arm_place false p) told in
    same_taken s d ended (same told ∙ put_taken (arm_comment s.language p) d)
    (behind_line s (arm_comment s.language p) d ended (silent_comment s.language p) (g (arm_place false p) told))

plain_grows : (s : Setting) (p : Place) (last : Option ℕ) (scoped : Bool) (body later : Place → Draft → Draft) (d : Draft) →
    (scoped ≡ false → IsBare s p body) → PartGrows s body → PartGrows s later → Grows s d (plain_arm s p last scoped body later d)
unfolding plain_arm
plain_grows s p (Some n) scoped body later d how g h =
    behind_line s (arm_lines s.language p (Some n)) d _ (silent_arm s.language p (Some n)) (g (leaving_by (Ends n) p) _)
plain_grows s p None true body later d how g h =
    let l = s.language in
    let start = put (scope_lines l p.depth) (put (arm_comment l p) d) in
    let ended = body (arm_place true p) start in
    let closed = put (end_lines l p.depth) (freed (length d.taken) ended) in
    grows_then s d closed (later (behind_arm p) closed) (scoped_arm s p.depth (arm_text p.arms) d ended (g (arm_place true p) start)) (h (behind_arm p) closed)
plain_grows s p None false body later d how g h =
    let closed = freed (length d.taken) (body (arm_place false p) (put (arm_comment s.language p) d)) in
    grows_then s d closed (later (behind_arm p) closed) (bare_grows s p body d (how refl) g) (h (behind_arm p) closed)

by_language : (l : Language) (a : Block) (d : ℕ) → has_scope l a ≡ false → ((scope_lines l d ≡ []) × (end_lines l d ≡ [])) ⊎ (is_if a ≡ true)
by_language Python a d e = inl (refl, refl)
by_language C a d e = inr (not_false (is_if a) e)
by_language JavaScript a d e = inr (not_false (is_if a) e)
by_language Rust a d e = inr (not_false (is_if a) e)

-- behind an `if` no name is taken that was not before it
one_if : (f : Option Exit) (s : Setting) (w : Sight) (p : Place) (a : Block) (v : AtHand) (yes_side : Place → Draft → Draft) (d : Draft) →
    Grows s d (tested_by None f s p a leave v yes_side (block s w leave) d) →
    (tested_by None f s p a leave v yes_side (block s w leave) d).taken ≡ d.taken
unfolding branched first_side put freed
one_if (Some e) s w p a v yes_side d g = refl
one_if None s w p a v yes_side d g =
    g.taken ∙ ap (λ u. d.taken ++ u) (none_more d.taken g.more _ g.taken) ∙ append-nil d.taken

if_keeps : (s : Setting) (w : Sight) (a : Block) (p : Place) (d : Draft) → is_if a ≡ true → Grows s d (block s w a (leaving_by Falls p) d) →
    (block s w a (leaving_by Falls p) d).taken ≡ d.taken
unfolding tested in_place leaving_by
if_keeps s w (test (give c) a leave) p d is g =
    one_if (exit_of Falls a) s w (leaving_by Falls p) a (first_at_hand (given (table s) w c)) (block s w a) d g
if_keeps s w (test (give c) a b) p d is g = cc is
if_keeps s w (test t a b) p d is g = cc is
if_keeps s w a p d is g = cc is

is_bare : (s : Setting) (w : Sight) (a : Block) (p : Place) → PartGrows s (block s w a) →
    ((scope_lines s.language p.depth ≡ []) × (end_lines s.language p.depth ≡ [])) ⊎ (is_if a ≡ true) → IsBare s p (block s w a)
is_bare s w a p g (inl without) = inl without
is_bare s w a p g (inr is) = inr (λ d. if_keeps s w a p d is (g (leaving_by Falls p) d))

-- behind an arm, where the last one may be told
told_grows : (s : Setting) (b : Block) (later : Place → Draft → Draft) → PartGrows s later → PartGrows s (told_behind s b later)
told_grows s b later g p d =
    let lines = last_arm_lines s.language p b in behind_line s lines d (later p (put lines d)) (silent_last s.language p b) (g p (put lines d))

-- ---- searches
loop_fits : (s : Setting) (j k : ℕ) (l : Loops s) → NamesFit s l.scope → NamesFit s (with_loop s j k l).scope
unfolding with_loop
loop_fits s j k l e =
    one_behind_fits s l.scope _ e (new_fit s.language l.draft.taken (name_in s l.draft.taken Int (Some (search_name j)))
    (made_new s l.draft.taken Int (Some (search_name j))))

loops_fit : (s : Setting) (j : ℕ) (ks : List ℕ) (l : Loops s) → NamesFit s l.scope → NamesFit s (loops_of s j ks l).scope
loops_fit s j [] l e = e
loops_fit s j (k ∷ ks) l e = loops_fit s (suc j) ks (with_loop s j k l) (loop_fits s j k l e)

-- the lines with which a search begins, and those of several
abbrev head_of : (s : Setting) → ℕ → ℕ → Loops s → List ℕ
head_of s j k l = line s.language l.depth (search_text s.language (name_in s l.draft.taken Int (Some (search_name j))) k)

abbrev heads_of : (s : Setting) → ℕ → List ℕ → Loops s → List ℕ
heads_of s j [] l = []
heads_of s j (k ∷ ks) l = head_of s j k l ++ heads_of s (suc j) ks (with_loop s j k l)

-- what is known of a draft in loops
record Opened (s : Setting) (heads : List ℕ) (before after : Draft) : Type 0 where
  pub lines : after.lines ≡ before.lines ++ heads
  pub more : List (List ℕ)
  pub taken : after.taken ≡ before.taken ++ more
  pub functions : after.functions ≡ before.functions

loop_opens : (s : Setting) (j k : ℕ) (l : Loops s) → Opened s (head_of s j k l) l.draft (with_loop s j k l).draft
unfolding with_loop taking put
loop_opens s j k l = record { lines = refl; more = name_in s l.draft.taken Int (Some (search_name j)) ∷ []; taken = refl; functions = refl }

loops_open : (s : Setting) (j : ℕ) (ks : List ℕ) (l : Loops s) → Opened s (heads_of s j ks l) l.draft (loops_of s j ks l).draft
loops_open s j [] l = record { lines = sym (append-nil l.draft.lines); more = []; taken = sym (append-nil l.draft.taken); functions = refl }
loops_open s j (k ∷ ks) l =
    let first : Opened s (head_of s j k l) l.draft (with_loop s j k l).draft = loop_opens s j k l in
    let rest : Opened s (heads_of s (suc j) ks (with_loop s j k l)) (with_loop s j k l).draft (loops_of s (suc j) ks (with_loop s j k l)).draft =
    loops_open s (suc j) ks (with_loop s j k l) in
    let heads = heads_of s (suc j) ks (with_loop s j k l) in
    record {
      lines = rest.lines ∙ ap (λ u. u ++ heads) first.lines ∙ append_assoc l.draft.lines (head_of s j k l) heads;
      more = first.more ++ rest.more;
      taken = rest.taken ∙ ap (λ u. u ++ rest.more) first.taken ∙ append_assoc l.draft.taken first.more rest.more;
      functions = rest.functions ∙ first.functions;
    }

-- the last end is that of the first search
ends_of : (l : Language) (d n : ℕ) → loop_ends l d (suc n) ≡ loop_ends l (suc d) n ++ end_lines l d
ends_of l d zero =
    let same : d + 0 ≡ d = omega arith in append-nil (end_lines l (d + 0)) ∙ ap (λ x. end_lines l x) same
ends_of l d (suc n) =
    let next : d + suc n ≡ suc d + n = omega arith in
    ap (λ u. end_lines l (d + suc n) ++ u) (ends_of l d n) ∙ ap (λ x. end_lines l x ++ (loop_ends l (suc d) n ++ end_lines l d)) next ∙
    sym (append_assoc (end_lines l (suc d + n)) (loop_ends l (suc d) n) (end_lines l d))

loop_depth : (s : Setting) (j k : ℕ) (l : Loops s) → (with_loop s j k l).depth ≡ suc l.depth
unfolding with_loop
loop_depth s j k l = refl

loop_taken : (s : Setting) (j k : ℕ) (l : Loops s) →
    (with_loop s j k l).draft.taken ≡ l.draft.taken ++ (name_in s l.draft.taken Int (Some (search_name j)) ∷ [])
unfolding with_loop taking put
loop_taken s j k l = refl

-- statements in one search, from its first line to its end
in_search : (s : Setting) (j k : ℕ) (l : Loops s) (inner : List (List ℕ)) (h t : List ℕ) (n : ℕ) →
    AreScoped s.language (with_loop s j k l).draft.taken (h ++ t ++ loop_ends s.language (with_loop s j k l).depth n) inner →
    AreScoped s.language l.draft.taken ((head_of s j k l ++ h) ++ t ++ loop_ends s.language l.depth (suc n)) l.draft.taken
in_search s j k l inner h t n g =
    let x = name_in s l.draft.taken Int (Some (search_name j)) in
    let ends = loop_ends s.language (suc l.depth) n in
    let here : AreScoped s.language (l.draft.taken ++ (x ∷ [])) (h ++ t ++ ends) inner =
    subst (λ u. AreScoped s.language u (h ++ t ++ ends) inner) (loop_taken s j k l)
    (subst (λ u. AreScoped s.language (with_loop s j k l).draft.taken (h ++ t ++ loop_ends s.language u n) inner) (loop_depth s j k l) g) in
    subst (λ u. AreScoped s.language l.draft.taken u l.draft.taken)
    (nested (head_of s j k l) h t ends (end_lines s.language l.depth) ∙ ap (λ u. (head_of s j k l ++ h) ++ t ++ u) (sym (ends_of s.language l.depth n)))
    (a_search x l.depth k (made_new s l.draft.taken Int (Some (search_name j))) here)

in_searches : (s : Setting) (j : ℕ) (ks : List ℕ) (l : Loops s) (t : List ℕ) (inner : List (List ℕ)) →
    AreScoped s.language (loops_of s j ks l).draft.taken t inner →
    (end : List (List ℕ)) × AreScoped s.language l.draft.taken (heads_of s j ks l ++ t ++ loop_ends s.language l.depth (length ks)) end
in_searches s j [] l t inner g = (inner, subst (λ u. AreScoped s.language l.draft.taken u inner) (sym (append-nil t)) g)
in_searches s j (k ∷ ks) l t inner g =
    let r = in_searches s (suc j) ks (with_loop s j k l) t inner g in
    (l.draft.taken, in_search s j k l r.0 (heads_of s (suc j) ks (with_loop s j k l)) t (length ks) r.1)

all_searches : (s : Setting) (j k : ℕ) (ks : List ℕ) (l : Loops s) (t : List ℕ) (inner : List (List ℕ)) →
    AreScoped s.language (loops_of s j (k ∷ ks) l).draft.taken t inner →
    AreScoped s.language l.draft.taken (heads_of s j (k ∷ ks) l ++ t ++ loop_ends s.language l.depth (suc (length ks))) l.draft.taken
all_searches s j k ks l t inner g =
    let r = in_searches s (suc j) ks (with_loop s j k l) t inner g in
    in_search s j k l r.0 (heads_of s (suc j) ks (with_loop s j k l)) t (length ks) r.1

closed_loops : (s : Setting) (k : ℕ) (ks : List ℕ) (l : Loops s) (e : Draft) → Grows s (loops_of s 0 (k ∷ ks) l).draft e →
    Grows s l.draft (put (loop_ends s.language l.depth (suc (length ks))) (freed (length l.draft.taken) e))
unfolding put freed
closed_loops s k ks l e g =
    let heads = heads_of s 0 (k ∷ ks) l in
    let ends = loop_ends s.language l.depth (suc (length ks)) in
    let open_ : Opened s heads l.draft (loops_of s 0 (k ∷ ks) l).draft = loops_open s 0 (k ∷ ks) l in
    let same : take (length l.draft.taken) e.taken ≡ l.draft.taken =
    still_taken l.draft e (open_.more ++ g.more) (g.taken ∙ ap (λ u. u ++ g.more) open_.taken ∙ append_assoc l.draft.taken open_.more g.more) in
    record {
      text = heads ++ g.text ++ ends;
      lines = around l.draft.lines heads g.text ends e.lines (g.lines ∙ ap (λ u. u ++ g.text) open_.lines);
      more = [];
      taken = same ∙ sym (append-nil l.draft.taken);
      scoped = subst (λ u. AreScoped s.language l.draft.taken (heads ++ g.text ++ ends) u) (sym same) (all_searches s 0 k ks l g.text e.taken g.scoped);
      made = g.made;
      functions = g.functions ∙ ap (λ u. u ++ g.made) open_.functions;
      are = g.are;
    }

searched_grows : (s : Setting) (p : Place) (w : Sight) (k : ℕ) (ks : List ℕ) (last : Option ℕ) (body : Sight → Place → Draft → Draft)
    (later : Place → Draft → Draft) (d : Draft) → NamesFit s w → ((v : Sight) → NamesFit s v → PartGrows s (body v)) → PartGrows s later →
    Grows s d (searched_arm s p w (k ∷ ks) last body later d)
unfolding searched_arm
searched_grows s p w k ks last body later d e g h =
    let lines = arm_lines s.language p last in
    let outside : Loops s = record { draft = put lines d; scope = w; depth = p.depth } in
    let l = loops_of s 0 (k ∷ ks) outside in
    let q : Place = record { depth = l.depth; exit = GoesOn; arms = 0; giving = p.giving } in
    let ended = body l.scope q l.draft in
    let inner : Grows s l.draft ended = g l.scope (loops_fit s 0 (k ∷ ks) outside e) q l.draft in
    let ends = loop_ends s.language p.depth (suc (length ks)) in
    let closed : Grows s (put lines d) (put ends (freed (length (put lines d).taken) ended)) = closed_loops s k ks outside ended inner in
    let same : length (put lines d).taken ≡ length d.taken = ap length (put_taken lines d) in
    let own : Grows s (put lines d) (put ends (freed (length d.taken) ended)) =
    subst (λ n. Grows s (put lines d) (put ends (freed n ended))) same closed in
    let done = put ends (freed (length d.taken) ended) in
    grows_then s d done (later (behind_arm p) done) (behind_line s lines d done (silent_arm s.language p last) own) (h (behind_arm p) done)

-- ---- blocks
abbrev BlockGrows : Setting → Block → Type 0
BlockGrows s b = (w : Sight) → NamesFit s w → PartGrows s (block s w b) × ValuesGrow s (held s w b)

-- the values of a block in its place
here : (s : Setting) (w : Sight) (a : Block) (p : Place) (d : Draft) → NamesFit s w → BlockGrows s a →
    Holds s d (in_place s p w a (held s w a) (block s w a) d)
here s w a p d e g = place_holds s p w a (held s w a) (block s w a) d e (g w e).0 (g w e).1

-- where values are bound behind the variables or before them
bind_values : (s : Setting) (a b : Block) → BlockGrows s a → BlockGrows s b → (w : Sight) → NamesFit s w → ValuesGrow s (held s w (bind a b))
bind_values s a b g h w e p d =
    let first = in_place s p w a (held s w a) (block s w a) d in
    let known : Holds s d first = here s w a p d e g in
    let i = inner_behind s p w b first in
    let rest : Holds s i.draft (held s i.scope b p i.draft) = (h i.scope (behind_names s p w b d first e known)).1 p i.draft in
    (grows_then s d i.draft (held s i.scope b p i.draft).draft (behind_grows s p w b d first known) rest.0, rest.1)

bind_draft : (s : Setting) (a b : Block) → BlockGrows s a → BlockGrows s b → (w : Sight) → NamesFit s w → PartGrows s (block s w (bind a b))
bind_draft s a b g h w e p d =
    let first = in_place s p w a (held s w a) (block s w a) d in
    let known : Holds s d first = here s w a p d e g in
    let i = inner_behind s p w b first in
    if_grows s d (gives a) (block s i.scope b p i.draft) (block s w a p d)
    (grows_then s d i.draft (block s i.scope b p i.draft) (behind_grows s p w b d first known)
    ((h i.scope (behind_names s p w b d first e known)).0 p i.draft)) ((g w e).0 p d)

part_values : (s : Setting) (a b : Block) → BlockGrows s a → BlockGrows s b → (w : Sight) → NamesFit s w → ValuesGrow s (held s w (part a b))
part_values s a b g h w e p d =
    let first = in_place s p w a (held s w a) (block s w a) d in
    let known : Holds s d first = here s w a p d e g in
    let i = inner_ahead s p w b first in
    let rest : Holds s i.draft (held s i.scope b p i.draft) = (h i.scope (ahead_names s p w b d first e known)).1 p i.draft in
    (grows_then s d i.draft (held s i.scope b p i.draft).draft (ahead_grows s p w b d first known) rest.0, rest.1)

part_draft : (s : Setting) (a b : Block) → BlockGrows s a → BlockGrows s b → (w : Sight) → NamesFit s w → PartGrows s (block s w (part a b))
part_draft s a b g h w e p d =
    let first = in_place s p w a (held s w a) (block s w a) d in
    let known : Holds s d first = here s w a p d e g in
    let i = inner_ahead s p w b first in
    if_grows s d (gives a) (block s i.scope b p i.draft) (block s w a p d)
    (grows_then s d i.draft (block s i.scope b p i.draft) (ahead_grows s p w b d first known)
    ((h i.scope (ahead_names s p w b d first e known)).0 p i.draft)) ((g w e).0 p d)

-- where values are joined
join_values : (s : Setting) (a b : Block) → BlockGrows s a → BlockGrows s b → (w : Sight) → NamesFit s w → ValuesGrow s (held s w (join a b))
join_values s a b g h w e p d =
    let first = in_place s p w a (held s w a) (block s w a) d in
    let before = kept s p.depth (is_plain b) first in
    let known : Holds s d before = kept_holds s p.depth (is_plain b) d first (here s w a p d e g) in
    let second = in_place s p w b (held s w b) (block s w b) before.draft in
    let rest : Holds s before.draft second = here s w b p before.draft e h in
    (grows_then s d before.draft second.draft known.0 rest.0, all_and_all (value_fits s.language) before.values second.values known.1 rest.1)

join_draft : (s : Setting) (a b : Block) → BlockGrows s a → BlockGrows s b → (w : Sight) → NamesFit s w → PartGrows s (block s w (join a b))
join_draft s a b g h w e p d =
    let first = in_place s p w a (held s w a) (block s w a) d in
    let unread = all_in_variables s p.depth never_read first in
    let known : Binds s d unread = all_bind s p.depth never_read d first (here s w a p d e g) in
    if_grows s d (gives a) _ (block s w a p d)
    (if_grows s d (gives b) (give_back s p (held s w (join a b) p d)) (block s w b p unread.draft)
    (give_grows s p d (held s w (join a b) p d) (join_values s a b g h w e p d).0)
    (grows_then s d unread.draft (block s w b p unread.draft) known.0 ((h w e).0 p unread.draft)))
    ((g w e).0 p d)

test_values : (s : Setting) (t a b : Block) → BlockGrows s t → BlockGrows s a → BlockGrows s b → (w : Sight) → NamesFit s w →
    ValuesGrow s (held s w (test t a b))
test_values s t a b f g h w e p d =
    guards_hold s p a b d (in_place s p w t (held s w t) (block s w t) d) (held s w a) (held s w b) (here s w t p d e f).0 (g w e).1 (h w e).1

test_draft : (s : Setting) (t a b : Block) → BlockGrows s t → BlockGrows s a → BlockGrows s b → (w : Sight) → NamesFit s w →
    PartGrows s (block s w (test t a b))
test_draft s t a b f g h w e p d =
    if_grows s d (gives t) _ (block s w t p d)
    (test_grows s p a b d (in_place s p w t (held s w t) (block s w t) d) (block s w a) (block s w b) (here s w t p d e f).0 (g w e).0 (h w e).0)
    ((f w e).0 p d)

plain_draft : (s : Setting) (a b : Block) → BlockGrows s a → BlockGrows s b → (w : Sight) → NamesFit s w → (q : Place) (d : Draft) →
    Grows s d (plain_arm s q (is_none b) (has_scope s.language a) (block s w a) (told_behind s b (block s w b)) d)
plain_draft s a b g h w e q d =
    plain_grows s q (is_none b) (has_scope s.language a) (block s w a) (told_behind s b (block s w b)) d
    (λ without. is_bare s w a q (g w e).0 (by_language s.language a q.depth without)) (g w e).0 (told_grows s b (block s w b) (h w e).0)

arm_draft : (s : Setting) (ks : List ℕ) (a b : Block) → BlockGrows s a → BlockGrows s b → (w : Sight) → NamesFit s w → PartGrows s (block s w (arm ks a b))
arm_draft s [] a b g h w e p d = plain_draft s a b g h w e (giving s (number_of b) p) d
arm_draft s (k ∷ ks) a b g h w e p d =
    let q = giving s (number_of b) p in
    let later = told_behind s b (block s w b) in
    if_grows s d (nat_eq (length (k ∷ ks)) 0) (plain_arm s q (is_none b) (has_scope s.language a) (block s w a) later d)
    (searched_arm s q w (k ∷ ks) (is_none b) (λ v. block s v a) later d) (plain_draft s a b g h w e q d)
    (searched_grows s q w k ks (is_none b) (λ v. block s v a) later d e (λ v f. (g v f).0) (told_grows s b (block s w b) (h w e).0))

none_draft : (s : Setting) (n : ℕ) (w : Sight) → PartGrows s (block s w (none n))
none_draft s n w p d = put_one s (exit_lines s.language p.depth (Ends n)) d (an_exit p.depth (Ends n))

leave_draft : (s : Setting) (w : Sight) → PartGrows s (block s w leave)
leave_draft s w p d = put_one s (exit_lines s.language p.depth p.exit) d (an_exit p.depth p.exit)

give_values : (s : Setting) (c : CodeTree) (w : Sight) → NamesFit s w → ValuesGrow s (held s w (give c))
give_values s c w e p d = (grows_self s d, given_fit s.language (table s) w c e)

give_draft : (s : Setting) (c : CodeTree) (w : Sight) → PartGrows s (block s w (give c))
give_draft s c w p d = give_grows s p d (held s w (give c) p d) (grows_self s d)

blocks_grow : (s : Setting) (b : Block) → BlockGrows s b
blocks_grow s (give c) = λ w e. (give_draft s c w, give_values s c w e)
blocks_grow s (none n) = λ w e. (none_draft s n w, λ p d. (grows_self s d, refl))
blocks_grow s leave = λ w e. (leave_draft s w, λ p d. (grows_self s d, refl))
blocks_grow s (bind a b) = λ w e.
    (bind_draft s a b (blocks_grow s a) (blocks_grow s b) w e, bind_values s a b (blocks_grow s a) (blocks_grow s b) w e)
blocks_grow s (part a b) = λ w e.
    (part_draft s a b (blocks_grow s a) (blocks_grow s b) w e, part_values s a b (blocks_grow s a) (blocks_grow s b) w e)
blocks_grow s (join a b) = λ w e.
    (join_draft s a b (blocks_grow s a) (blocks_grow s b) w e, join_values s a b (blocks_grow s a) (blocks_grow s b) w e)
blocks_grow s (test t a b) = λ w e. (
  test_draft s t a b (blocks_grow s t) (blocks_grow s a) (blocks_grow s b) w e,
  test_values s t a b (blocks_grow s t) (blocks_grow s a) (blocks_grow s b) w e,
)
blocks_grow s (arm ks a b) = λ w e. (
  arm_draft s ks a b (blocks_grow s a) (blocks_grow s b) w e,
  λ p d. (blocks_grow s a w e).1 (leaving_by (Ends (number_of b)) (giving s (number_of b) p)) d,
)

-- ---- names of functions
first_kept : (ds xs : List ℕ) → is_digit (slice_index_or ds 0 0) ≡ true → is_digit (slice_index_or (ds ++ xs) 0 0) ≡ true
first_kept [] xs e = cc e
first_kept (d ∷ ds) xs e = e

below_ten : (d : ℕ) → d < 10 → is_digit (48 + d) ≡ true
below_ten d h = grind (arith, nat_tests)

begins_with_digit : (n : ℕ) → n < 2 ^ 64 → is_digit (slice_index_or (decimal n) 0 0) ≡ true
begins_with_digit n small =
    decimal_by_steps (λ m ds. is_digit (slice_index_or ds 0 0) ≡ true) below_ten (λ m ds l e. first_kept ds ((48 + m % 10) ∷ []) e) n small

function_kept : (n k : ℕ) (is_part is_first : Bool) → n < 2 ^ 64 → suc k < 2 ^ 64 →
    names_function (if is_first then (if is_part then codes "part" else codes "choose_" ++ decimal n)
    else (if is_part then codes "part" else codes "choose_" ++ decimal n) ++ codes "_" ++ decimal (suc k)) ≡ true
function_kept n k true true h i = refl
function_kept n k true false h i = or_first (is_digit (slice_index_or (decimal (suc k)) 0 0)) _ (begins_with_digit (suc k) i)
function_kept n k false true h i = begins_with_digit n h
function_kept n k false false h i =
    first_kept (decimal n ++ codes "_") (decimal (suc k)) (first_kept (decimal n) (codes "_") (begins_with_digit n h))

pub names_differ : NamesDiffer
names_differ = record {
  behind = λ s w b p d e. (blocks_grow s b w e).0 p d;
  keep = λ l scope end t g a. keep l g a;
  functions = λ n k h i. function_kept n k (nat_eq n 0) (nat_eq k 0) h i;
}

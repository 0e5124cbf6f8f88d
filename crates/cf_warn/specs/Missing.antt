-- The question whether outputs are missing, as a relation without parameters.
use Rattle.std.specs.Prelude.{ℕ, ◌+◌, ◌==◌, ℤ, pos, List, [], ◌∷◌, ◌++◌, length, map, replicate, slice_index_or, cond, if◌then◌else◌}
use Rattle.std.specs.List.{range_with_len, fold, flat_map}
use Rattle.std.specs.Ordering.{int_eq}
use Rattle.cf_tree.specs.declared.base.Base.{Base}
use Rattle.cf_tree.specs.declared.base.Base.TheVariants.{Int}
use Rattle.cf_tree.specs.declared.base.Order.TheVariants.{Eq, Ge}
use Rattle.cf_tree.specs.Meaning.{count_below, tuple_at}
use Rattle.cf_tree.specs.RelTree.{SetTree, empty_set, set_var, inter_of, diff_of, TermTree, term_lit, term_var, term_card, term_neg, term_add, term_sub, term_mul, RelTree, rel_true, rel_false, rel_compare, rel_divides, rel_and, rel_or, rel_not}
use Rattle.cf_linear.specs.Arm.{sets_in, sets_out}
use Rattle.cf_linear.specs.Cases.{first_systems}
use Rattle.cf_linear.specs.Layout.{Layout, layout_of, masks, place}
use Rattle.cf_linear.specs.Rows.{Row}
use Rattle.cf_linear.specs.Solved.{let_columns}
use Rattle.cf_linear.specs.Systems.{Step, floor_of, need_nonneg, need_zero, need_divides, Answer}
use Rattle.cf_choose.specs.Eliminations.{made}
use Rattle.cf_warn.specs.Questions.{parameters, parameter_bases, halves}

-- ---- known columns
-- the number form of each known column
abbrev pub Forms : Type 0
Forms = ℕ → TermTree

abbrev pub with_form : Forms → ℕ → TermTree → Forms
with_form forms c t d = cond (d == c) t (forms d)

-- the sets by `inter`, one alone as it is
abbrev pub inter_of_all : List SetTree → SetTree
inter_of_all [] = empty_set
inter_of_all (s ∷ ss) = fold (λ a b. inter_of a b) s ss

-- the sets of the mask by `inter`, then `diff` by each other input set, each set at its level in the question
abbrev pub region_form : Layout → (ℕ → ℕ) → ℕ → SetTree
region_form l to m =
    fold (λ a b. diff_of a b) (inter_of_all (map (λ x. set_var (to x)) (sets_in l m))) (map (λ x. set_var (to x)) (sets_out l m))

-- the constant, the number parameters, and the counts of the input regions
abbrev pub first_forms : Layout → (ℕ → ℕ) → Forms
first_forms l to c =
    slice_index_or (term_lit (pos 1) ∷ (map (λ x. term_var (to x)) l.numbers ++ map (λ m. term_card (region_form l to m)) (masks (length l.inputs)))) c
    (term_lit (pos 0))

-- and then the search variables of a tuple, as literals
abbrev pub search_forms : Forms → List (ℕ × ℕ) → List ℕ → Forms
search_forms forms [] ks = forms
search_forms forms ((c, b) ∷ bs) [] = forms
search_forms forms ((c, b) ∷ bs) (k ∷ ks) = search_forms (with_form forms c (term_lit (pos k))) bs ks

-- ---- rows
abbrev pub entry_form : Forms → (ℕ × ℤ) → TermTree
entry_form forms (c, k) =
    (if c == 0 then term_lit k
    else (if int_eq k (pos 1) then forms c else term_mul (term_lit k) (forms c)))

-- the sum of the entries, in rising order of columns
abbrev pub row_form : Forms → Row → TermTree
row_form forms r = halves (λ a b. term_add a b) (term_lit (pos 0)) (map (entry_form forms) r)

abbrev pub is_nonneg : TermTree → RelTree
is_nonneg t = rel_compare Ge t (term_lit (pos 0))

-- ---- one tuple
-- d = floor(r / g): r - g * d >= 0 and -r + g * d + g - 1 >= 0
abbrev pub let_says : TermTree → ℤ → TermTree → List RelTree
let_says r g d =
    is_nonneg (term_sub r (term_mul (term_lit g) d))
    ∷ is_nonneg (term_sub (term_add (term_add (term_neg r) (term_mul (term_lit g) d)) (term_lit g)) (term_lit (pos 1)))
    ∷ []

-- what the lets say, the first of them having this level
abbrev pub lets_say : Forms → ℕ → List Step → List RelTree
lets_say forms n [] = []
lets_say forms n (floor_of c r g ∷ ms) = let_says (row_form forms r) g (term_var n) ++ lets_say (with_form forms c (term_var n)) (n + 1) ms
lets_say forms n (need_nonneg r ∷ ms) = lets_say forms n ms
lets_say forms n (need_zero r ∷ ms) = lets_say forms n ms
lets_say forms n (need_divides g r ∷ ms) = lets_say forms n ms

-- the negated needs, the first let having this level
abbrev pub needs_fail : Forms → ℕ → List Step → List RelTree
needs_fail forms n [] = []
needs_fail forms n (floor_of c r g ∷ ms) = needs_fail (with_form forms c (term_var n)) (n + 1) ms
needs_fail forms n (need_nonneg r ∷ ms) = rel_not (is_nonneg (row_form forms r)) ∷ needs_fail forms n ms
needs_fail forms n (need_zero r ∷ ms) = rel_not (rel_compare Eq (row_form forms r) (term_lit (pos 0))) ∷ needs_fail forms n ms
needs_fail forms n (need_divides g r ∷ ms) = rel_not (rel_divides g (row_form forms r)) ∷ needs_fail forms n ms

-- the lets, and then that some need fails
abbrev pub tuple_says : Forms → ℕ → List Step → List RelTree
tuple_says forms n ms = lets_say forms n ms ++ (halves (λ a b. rel_or a b) rel_false (needs_fail forms n ms) ∷ [])

-- ---- all tuples of all arms
abbrev pub bounds_of : Answer → List ℕ
bounds_of a = map (λ (c, b). b) a.bounds

abbrev pub let_count : Answer → ℕ
let_count a = length (let_columns a.steps)

-- an arm with one of its tuples
abbrev pub Turn : Type 0
Turn = Answer × List ℕ

-- the tuples of each arm in order
abbrev pub turns_of : Answer → List Turn
turns_of a = map (λ i. (a, tuple_at (bounds_of a) i)) (range_with_len 0 (count_below (bounds_of a)))

abbrev pub turns : List Answer → List Turn
turns as_ = flat_map turns_of as_

-- how many lets they have
abbrev pub lets_in : List Turn → ℕ
lets_in [] = 0
lets_in ((a, ks) ∷ ts) = let_count a + lets_in ts

-- what is said of each, the lets of the first having levels from n on
abbrev pub turns_say : Forms → ℕ → List Turn → List RelTree
turns_say first n [] = []
turns_say first n ((a, ks) ∷ ts) = tuple_says (search_forms first a.bounds ks) n a.steps ++ turns_say first (n + let_count a) ts

-- ---- none
-- the lets and needs of the arms of a choose, and their bounds
abbrev pub traced : List Base → List Base → RelTree → List Answer
traced scope outputs rel = map made (first_systems (layout_of scope outputs rel) rel)

-- the parameters, and one number for each let of each tuple of each arm
abbrev pub none_outputs : List Base → List Base → RelTree → List Base
none_outputs scope outputs rel = parameter_bases scope rel ++ replicate (lets_in (turns (traced scope outputs rel))) Int

-- no tuple of no arm meets all needs
abbrev pub none : List Base → List Base → RelTree → RelTree
none scope outputs rel =
    let params = parameters scope rel in
    halves (λ a b. rel_and a b) rel_true
    (turns_say (first_forms (layout_of scope outputs rel) (λ x. place x params)) (length params) (turns (traced scope outputs rel)))

-- how many tuples the arms have
abbrev pub tuple_count : List Base → List Base → RelTree → ℕ
tuple_count scope outputs rel = fold (λ n a. n + count_below (bounds_of a)) 0 (traced scope outputs rel)

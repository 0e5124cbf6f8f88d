-- Alternatives: what a number form or set form may be, each with guards, which are relations that hold exactly where it is so; and how many there are.
use Rattle.std.specs.Prelude.{ℕ, zero, suc, ◌+◌, ◌*◌, ◌-◌, ◌/◌, ◌^◌, List, [], ◌∷◌, ◌++◌, length, map, take, drop}
use Rattle.cf_tree.specs.declared.base.Order.{Order}
use Rattle.cf_tree.specs.RelTree.{TermTree, RelTree, rel_true, rel_false, rel_compare, rel_and, rel_or}
use Rattle.cf_form.specs.Wide.{WideTerm, wide_lit, wide_var, wide_card, wide_neg, wide_add, wide_sub, wide_mul, wide_div, wide_mod, wide_abs, wide_if, wide_min, wide_max, WideTerms, no_wides, wide_more, WideSet, wide_empty, wide_set, wide_union, wide_inter, wide_diff, wide_if_set}

-- the parts joined, the first floor(n / 2) of n parts to the left; at least as many as the number are not joined
abbrev pub halves_within : {A : Type 0} → ℕ → (A → A → A) → A → List A → A
halves_within zero join empty ps = empty
halves_within (suc n) join empty [] = empty
halves_within (suc n) join empty (p ∷ []) = p
halves_within (suc n) join empty (p ∷ q ∷ ps) =
    let half = length (p ∷ q ∷ ps) / 2 in
    join (halves_within n join empty (take half (p ∷ q ∷ ps))) (halves_within n join empty (drop half (p ∷ q ∷ ps)))

-- a tree of halves
abbrev pub halves : {A : Type 0} → (A → A → A) → A → List A → A
halves join empty ps = halves_within (length ps) join empty ps

abbrev pub all_of : List RelTree → RelTree
all_of = halves rel_and rel_true

abbrev pub some_of : List RelTree → RelTree
some_of = halves rel_or rel_false

pub record Guarded (A : Type 0) : Type 0 where
  pub guards : List RelTree
  pub form : A

abbrev pub alone : {A : Type 0} → A → List (Guarded A)
alone a = record { guards = []; form = a } ∷ []

abbrev pub over_one : {A B : Type 0} → (A → B) → List (Guarded A) → List (Guarded B)
over_one f xs = map (λ x. record { guards = x.guards; form = f x.form }) xs

-- each of the first with each of the second, the second's alternatives faster
abbrev pub over_two : {A B C : Type 0} → (A → B → C) → List (Guarded A) → List (Guarded B) → List (Guarded C)
over_two f [] ys = []
over_two f (x ∷ xs) ys = map (λ y. record { guards = x.guards ++ y.guards; form = f x.form y.form }) ys ++ over_two f xs ys

-- with a first guard
abbrev pub behind : {A : Type 0} → RelTree → List (Guarded A) → List (Guarded A)
behind guard xs = map (λ x. record { guards = guard ∷ x.guards; form = x.form }) xs

-- the first where `first` holds of both, and else the second, where `other` does
abbrev pub one_of : Order → Order → Guarded TermTree → Guarded TermTree → List (Guarded TermTree)
one_of first other x y =
    record { guards = x.guards ++ y.guards ++ rel_compare first x.form y.form ∷ []; form = x.form }
    ∷ record { guards = x.guards ++ y.guards ++ rel_compare other x.form y.form ∷ []; form = y.form } ∷ []

abbrev pub one_of_each : Order → Order → Guarded TermTree → List (Guarded TermTree) → List (Guarded TermTree)
one_of_each first other x [] = []
one_of_each first other x (y ∷ ys) = one_of first other x y ++ one_of_each first other x ys

abbrev pub best_of_two : Order → Order → List (Guarded TermTree) → List (Guarded TermTree) → List (Guarded TermTree)
best_of_two first other [] ys = []
best_of_two first other (x ∷ xs) ys = one_of_each first other x ys ++ best_of_two first other xs ys

-- the least or greatest of the parts so far and of those that follow
abbrev pub best_behind : Order → Order → List (Guarded TermTree) → List (List (Guarded TermTree)) → List (Guarded TermTree)
best_behind first other xs [] = xs
best_behind first other xs (ys ∷ more) = best_behind first other (best_of_two first other xs ys) more

abbrev pub best_of : Order → Order → List (List (Guarded TermTree)) → List (Guarded TermTree)
best_of first other [] = []
best_of first other (xs ∷ more) = best_behind first other xs more

-- some alternative holds: its guards, and `last` of its atom
abbrev pub some_atom : (RelTree → RelTree) → List (Guarded RelTree) → RelTree
some_atom last xs = some_of (map (λ x. all_of (x.guards ++ last x.form ∷ [])) xs)

-- the comparisons of a chain, each side by its alternatives
abbrev pub links : (RelTree → RelTree) → List Order → List (List (Guarded TermTree)) → List RelTree
links last [] parts = []
links last (o ∷ orders) [] = []
links last (o ∷ orders) (xs ∷ []) = []
links last (o ∷ orders) (xs ∷ ys ∷ parts) = some_atom last (over_two (rel_compare o) xs ys) ∷ links last orders (ys ∷ parts)

-- how many alternatives a set form has
abbrev pub set_count : WideSet → ℕ
set_count wide_empty = 1
set_count (wide_set x) = 1
set_count (wide_union a b) = set_count a * set_count b
set_count (wide_inter a b) = set_count a * set_count b
set_count (wide_diff a b) = set_count a * set_count b
set_count (wide_if_set c a b) = set_count a + set_count b

abbrev pub parts_of : WideTerms → ℕ
parts_of no_wides = 0
parts_of (wide_more t ts) = suc (parts_of ts)

-- how many a number form has: two for each further part of a `min` or `max`
abbrev mutual
  pub term_count : WideTerm → ℕ
  term_count (wide_lit k) = 1
  term_count (wide_var x) = 1
  term_count (wide_card s) = set_count s
  term_count (wide_neg a) = term_count a
  term_count (wide_add a b) = term_count a * term_count b
  term_count (wide_sub a b) = term_count a * term_count b
  term_count (wide_mul a b) = term_count a * term_count b
  term_count (wide_div a k) = term_count a
  term_count (wide_mod a k) = term_count a
  term_count (wide_abs a) = term_count a
  term_count (wide_if c a b) = term_count a + term_count b
  term_count (wide_min ts) = product_count ts * 2 ^ (parts_of ts - 1)
  term_count (wide_max ts) = product_count ts * 2 ^ (parts_of ts - 1)

  pub product_count : WideTerms → ℕ
  product_count no_wides = 1
  product_count (wide_more t ts) = term_count t * product_count ts

-- The questions of a choose, as relations without parameters.
use Rattle.std.specs.Prelude.{ℕ, zero, suc, ◌+◌, ◌-◌, ◌/◌, nat_lt, List, [], ◌∷◌, ◌++◌, length, map, filter, take, drop, slice_index_or, if◌then◌else◌}
use Rattle.std.specs.List.{range_with_len}
use Rattle.cf_tree.specs.declared.base.Base.{Base}
use Rattle.cf_tree.specs.declared.base.Base.TheVariants.{Int, Bool as Truth, Set}
use Rattle.cf_tree.specs.declared.base.Order.TheVariants.{Ne}
use Rattle.cf_tree.specs.Leaves.{set_with, term_with, rel_with}
use Rattle.cf_tree.specs.Occurs.{rel_holds}
use Rattle.cf_tree.specs.RelTree.{SetTree, set_var, TermTree, term_var, RelTree, rel_true, rel_false, rel_compare, rel_other_set, rel_and, rel_or}
use Rattle.cf_linear.specs.Layout.{place}

-- ---- parameters
-- the levels of the variables in scope that occur in the relation
abbrev pub parameters : List Base → RelTree → List ℕ
parameters scope rel = filter (λ x. rel_holds x rel) (range_with_len 0 (length scope))

abbrev pub base_at : List Base → ℕ → Base
base_at scope x = slice_index_or scope x Int

-- their bases
abbrev pub parameter_bases : List Base → RelTree → List Base
parameter_bases scope rel = map (base_at scope) (parameters scope rel)

-- ---- lists of parts
-- the parts joined, the first floor(n / 2) of n parts to the left; at least as many as the number are not joined
abbrev pub halves_within : {A : Type 0} → ℕ → (A → A → A) → A → List A → A
halves_within zero join empty ps = empty
halves_within (suc n) join empty [] = empty
halves_within (suc n) join empty (p ∷ []) = p
halves_within (suc n) join empty (p ∷ q ∷ ps) =
    let half = length (p ∷ q ∷ ps) / 2 in
    join (halves_within n join empty (take half (p ∷ q ∷ ps))) (halves_within n join empty (drop half (p ∷ q ∷ ps)))

-- a tree of halves
abbrev pub halves : {A : Type 0} → (A → A → A) → A → List A → A
halves join empty ps = halves_within (length ps) join empty ps

-- ---- other levels
abbrev pub set_at : (ℕ → ℕ) → SetTree → SetTree
set_at to s = set_with (λ x. set_var (to x)) s

abbrev pub term_at : (ℕ → ℕ) → TermTree → TermTree
term_at to t = term_with (λ x. term_var (to x)) (λ x. set_var (to x)) t

-- the relation with each variable at another level
abbrev pub rel_at : (ℕ → ℕ) → RelTree → RelTree
rel_at to r = rel_with (λ x. term_var (to x)) (λ x. set_var (to x)) r

-- the level in a question of a variable of a choose with so many variables in scope: the parameters stand first, and so many levels behind them the outputs
abbrev pub level_in : ℕ → List ℕ → ℕ → ℕ → ℕ
level_in scope params gap x = (if nat_lt x scope then place x params else length params + gap + (x - scope))

-- ---- twice
-- the values at two levels differ
abbrev pub other : Base → ℕ → ℕ → RelTree
other Int x y = rel_compare Ne (term_var x) (term_var y)
other Truth x y = rel_compare Ne (term_var x) (term_var y)
other Set x y = rel_other_set (set_var x) (set_var y)

-- the outputs from two levels on differ, one by one
abbrev pub others : List Base → ℕ → ℕ → List RelTree
others [] x y = []
others (b ∷ bs) x y = other b x y ∷ others bs (x + 1) (y + 1)

-- the parameters, the outputs and a copy of them
abbrev pub twice_outputs : List Base → List Base → RelTree → List Base
twice_outputs scope outputs rel = parameter_bases scope rel ++ (outputs ++ outputs)

-- the relation for the outputs, the relation for the copy, and that one of the first so many outputs, which are shown, differs
abbrev pub twice : List Base → List Base → ℕ → RelTree → RelTree
twice scope outputs shown rel =
    let params = parameters scope rel in
    let n = length params in
    let k = length outputs in
    halves rel_and rel_true (
    rel_at (level_in (length scope) params 0) rel ∷
    rel_at (level_in (length scope) params k) rel ∷
    halves rel_or rel_false (others (take shown outputs) n (n + k)) ∷ [])

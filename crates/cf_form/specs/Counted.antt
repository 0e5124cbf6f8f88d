-- Counts of alternatives as they are made, which stand still at the greatest 64-bit number at each step.
use Rattle.std.specs.Prelude.{ℕ, ◌+◌, ◌*◌, ◌-◌, ◌^◌, Option, Some, None, List, [], ◌∷◌}
use Rattle.cf_tree.specs.RelSize.{capped}
use Rattle.cf_form.specs.declared.count.Side.{Side}
use Rattle.cf_form.specs.Alternatives.{product_count, parts_of}
use Rattle.cf_form.specs.Passed.{above, earlier, term_passed}
use Rattle.cf_form.specs.Wide.{WideTerm, wide_lit, wide_var, wide_card, wide_neg, wide_add, wide_sub, wide_mul, wide_div, wide_mod, wide_abs, wide_if, wide_min, wide_max, WideTerms, no_wides, wide_more, WideSet, wide_empty, wide_set, wide_union, wide_inter, wide_diff, wide_if_set}

abbrev pub set_counted : WideSet → ℕ
set_counted wide_empty = 1
set_counted (wide_set x) = 1
set_counted (wide_union a b) = capped (set_counted a * set_counted b)
set_counted (wide_inter a b) = capped (set_counted a * set_counted b)
set_counted (wide_diff a b) = capped (set_counted a * set_counted b)
set_counted (wide_if_set c a b) = capped (set_counted a + set_counted b)

abbrev pub best_counted : WideTerms → ℕ
best_counted ts = capped (capped (product_count ts) * capped (2 ^ (parts_of ts - 1)))

abbrev pub term_counted : WideTerm → ℕ
term_counted (wide_lit k) = 1
term_counted (wide_var x) = 1
term_counted (wide_card s) = set_counted s
term_counted (wide_neg a) = term_counted a
term_counted (wide_add a b) = capped (term_counted a * term_counted b)
term_counted (wide_sub a b) = capped (term_counted a * term_counted b)
term_counted (wide_mul a b) = capped (term_counted a * term_counted b)
term_counted (wide_div a k) = term_counted a
term_counted (wide_mod a k) = term_counted a
term_counted (wide_abs a) = term_counted a
term_counted (wide_if c a b) = capped (term_counted a + term_counted b)
term_counted (wide_min ts) = best_counted ts
term_counted (wide_max ts) = best_counted ts

-- ---- the sides of a chain, one after the other
abbrev pub side_counted : WideTerm → Option ℕ → Side
side_counted t inner = record { count = term_counted t; inner = inner }

abbrev pub sides_counted : WideTerms → List Side
sides_counted no_wides = []
sides_counted (wide_more t ts) = side_counted t (term_passed t) ∷ sides_counted ts

-- what a comparison with the side before has above the limit
abbrev pub link_passed : Option Side → Side → Option ℕ
link_passed None b = None
link_passed (Some a) b = earlier (above (a.count * b.count)) (earlier a.inner b.inner)

-- what the comparisons of sides have, of which the first has a side before it
abbrev pub links_behind : Option Side → List Side → Option ℕ
links_behind before [] = None
links_behind before (b ∷ sides) = earlier (link_passed before b) (links_behind (Some b) sides)

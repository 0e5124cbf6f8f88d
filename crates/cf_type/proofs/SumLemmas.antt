-- Steps of a sum.
use Rattle.std.proofs.Common.{◌≡◌, ◌<◌, ◌+◌, ℕ, ℤ, ◌+ℤ◌, List, length, drop, get_or, sym, ap, ◌∙◌}
use Rattle.std.proofs.lemmas.List.{drop_more}
use Rattle.cf_program.specs.Walk.{sum_with}

pub sum_next : (k d whole : ℤ) (more : List ℤ) (i : ℕ) → i < length more → sum_with k (drop i more) ≡ whole →
    sum_with (k +ℤ get_or more i d) (drop (i + 1) more) ≡ whole
sum_next k d whole more i within is = ap (sum_with k) (sym (drop_more more i d within)) ∙ is

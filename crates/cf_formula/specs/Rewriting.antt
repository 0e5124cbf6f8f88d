-- Formulas with other atoms, in normal form.
use Rattle.std.specs.Prelude.{ℕ, [], ◌∷◌, Bool, false, ◌||◌}
use Rattle.cf_linear.specs.Rows.{Row, subst_row}
use Rattle.cf_formula.specs.Formulas.{Formula, always, never, at_least, equal, both, either}
use Rattle.cf_formula.specs.Atoms.{ge, eq}
use Rattle.cf_formula.specs.Members.{conj, disj}

-- with these formulas in the place of r >= 0 and of r == 0
abbrev pub rewritten : (Row → Formula) → (Row → Formula) → Formula → Formula
rewritten low zero always = always
rewritten low zero never = never
rewritten low zero (at_least r) = low r
rewritten low zero (equal r) = zero r
rewritten low zero (both f g) = conj (rewritten low zero f ∷ rewritten low zero g ∷ [])
rewritten low zero (either f g) = disj (rewritten low zero f ∷ rewritten low zero g ∷ [])

-- with rows in the place of rows
abbrev pub with_rows : (Row → Row) → Formula → Formula
with_rows change f = rewritten (λ r. ge (change r)) (λ r. eq (change r)) f

-- with the row s in the place of column x
abbrev pub substituted : ℕ → Row → Formula → Formula
substituted x s f = with_rows (subst_row x s) f

-- an atom whose row passes the test
abbrev pub some_atom : (Row → Bool) → Formula → Bool
some_atom p always = false
some_atom p never = false
some_atom p (at_least r) = p r
some_atom p (equal r) = p r
some_atom p (both f g) = some_atom p f || some_atom p g
some_atom p (either f g) = some_atom p f || some_atom p g

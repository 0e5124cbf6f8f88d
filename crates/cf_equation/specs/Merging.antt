-- What the private calls of a Merge do.
use Rattle.std.specs.Prelude.{ℕ, ◌+◌, Bool, ◌||◌, List, [], ◌∷◌}
use Rattle.cf_linear.specs.Rows.{Row, subst_row, subst_passes}
use Rattle.cf_linear.specs.Systems.{System, How, row_how, Answer}
use Rattle.cf_linear.specs.Steps.{subst_all, replaced}

-- whether a row passes the limit as the row s comes in the place of y, and then the row r in the place of x
abbrev pub mix_row_passes : ℕ → Row → ℕ → Row → Row → Bool
mix_row_passes x r y s e = subst_passes y s e || subst_passes x r (subst_row y s e)

-- the first new column stands in the place of x and the second in that of y, and so do the rows r and s
abbrev pub mixed_system : System → ℕ → Row → ℕ → Row → System
mixed_system m x r y s = record {
  known = m.known;
  unknown = replaced x m.next (replaced y (m.next + 1) m.unknown);
  next = m.next + 2;
  equations = subst_all x r (subst_all y s m.equations);
  inequalities = subst_all x r (subst_all y s m.inequalities);
  needs = m.needs;
}

-- the system, where the unknowns are computed so
abbrev pub with_back : System → List (ℕ × How) → Answer
with_back m back = record { system = m; steps = []; back = back; bounds = [] }

-- the mixed system, where x and y are computed by the rows r and s
abbrev pub mixed_answer : System → ℕ → Row → ℕ → Row → Answer
mixed_answer m x r y s = with_back (mixed_system m x r y s) ((x, row_how r) ∷ (y, row_how s) ∷ [])

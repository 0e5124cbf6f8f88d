-- What the private calls of the end of an equation do.
use Rattle.std.specs.Prelude.{◌≡◌, ℕ, ◌+◌, ◌==◌, ℤ, pos, [], ◌∷◌, ◌++◌, not, filter, map, unsigned_abs, if◌then◌else◌}
use Rattle.cf_linear.specs.Rows.{Row}
use Rattle.cf_linear.specs.Systems.{System, need_divides, floor_of}
use Rattle.cf_linear.specs.Steps.{subst_all, is_unit, solved_row}
use Rattle.cf_linear.specs.Views.{step_of}
use Rattle.cf_equation.specs.Equations.{rest_of}
use Rattle.cf_equation.specs.declared.replace.Left.{Left}
use Rattle.cf_equation.specs.declared.end.Solution.{Solution}

-- u is gone from the unknowns, and the row s stands in its place in all rows but the first equation
pub record IsLeft (m : System) (u : ℕ) (s : Row) (l : Left) : Type 0 where
  pub unknown : l.unknown.items ≡ filter (λ w. not (w == u)) m.unknown
  pub equations : l.equations.items ≡ subst_all u s (rest_of m)
  pub inequalities : l.inequalities.items ≡ subst_all u s m.inequalities

-- u of c * u + r = 0: its row, and the columns, needs and steps that come with it
pub record IsSolution (m : System) (c : ℤ) (r : Row) (s : Solution) : Type 0 where
  pub row : s.row ≡ solved_row c r m.next
  pub known : s.known.items ≡ (if is_unit c then m.known else m.known ++ (m.next ∷ []))
  pub next : s.next ≡ (if is_unit c then m.next else m.next + 1)
  pub needs : s.needs ≡ (if is_unit c then m.needs else m.needs + 1)
  pub steps : map step_of s.steps.items ≡ (if is_unit c then [] else need_divides (pos (unsigned_abs c)) r ∷ floor_of m.next r (pos (unsigned_abs c)) ∷ [])

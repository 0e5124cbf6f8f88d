-- The plain data that layouts, systems, relations over rows and what steps make stand for.
use Rattle.std.specs.Prelude.{ℕ, map}
use Rattle.cf_linear.specs.declared.system.Layout.{Layout as DeclaredLayout}
use Rattle.cf_linear.specs.declared.system.System.{System as DeclaredSystem}
use Rattle.cf_linear.specs.declared.system.Step.{Step as DeclaredStep}
use Rattle.cf_linear.specs.declared.system.Step.TheVariants.{Let, NeedNonneg, NeedZero, NeedDivides}
use Rattle.cf_linear.specs.declared.system.How.{How as DeclaredHow}
use Rattle.cf_linear.specs.declared.system.How.TheVariants.{Row as RowHow, Greatest, Least}
use Rattle.cf_linear.specs.declared.system.Back.{Back}
use Rattle.cf_linear.specs.declared.system.Search.{Search}
use Rattle.cf_linear.specs.declared.written.Guard.{Guard}
use Rattle.cf_linear.specs.declared.written.Guard.TheVariants.{Sign, Quotient}
use Rattle.cf_linear.specs.Layout.{Layout}
use Rattle.cf_linear.specs.Systems.{System, Step, floor_of, need_nonneg, need_zero, need_divides, How, row_how, greatest, least}
use Rattle.cf_linear.specs.Written.{GuardTree, sign_guard, quotient_guard}

abbrev pub plain_layout : DeclaredLayout → Layout
plain_layout l = record { scope = l.scope; numbers = l.numbers.items; inputs = l.inputs.items; out_numbers = l.out_numbers.items; out_sets = l.out_sets.items }

abbrev pub system_of : DeclaredSystem → System
system_of s = record {
  known = s.known.items;
  unknown = s.unknown.items;
  next = s.next;
  equations = s.equations.items;
  inequalities =
      s.inequalities.items;
  needs = s.needs;
}

abbrev pub step_of : DeclaredStep → Step
step_of (Let c r g) = floor_of c r g
step_of (NeedNonneg r) = need_nonneg r
step_of (NeedZero r) = need_zero r
step_of (NeedDivides g r) = need_divides g r

abbrev pub how_of : DeclaredHow → How
how_of (RowHow r) = row_how r
how_of (Greatest bs) = greatest (map (λ b. (b.row, b.k)) bs.items)
how_of (Least bs) = least (map (λ b. (b.row, b.k)) bs.items)

abbrev pub back_of : Back → ℕ × How
back_of b = (b.unknown, how_of b.how)

abbrev pub bound_of : Search → ℕ × ℕ
bound_of s = (s.column, s.bound)

abbrev pub guard_of : Guard → GuardTree
guard_of (Sign r) = sign_guard r
guard_of (Quotient c r k) = quotient_guard c r k

-- What the calls answer, as answers of steps.
use Rattle.std.specs.Prelude.{[], map, Option}
use Rattle.std.specs.Option.{option_map}
use Rattle.cf_bounds.specs.declared.cleaning.Cleaned.{Cleaned}
use Rattle.cf_bounds.specs.declared.cleaning.Tight.{Tight}
use Rattle.cf_bounds.specs.declared.cleaning.TightenedRows.{TightenedRows}
use Rattle.cf_linear.specs.Rows.{Row}
use Rattle.cf_linear.specs.Systems.{Step, Answer}
use Rattle.cf_linear.specs.Steps.{Tightened}
use Rattle.cf_linear.specs.Views.{system_of, step_of}

abbrev pub cleaned : Cleaned → Answer
cleaned c = record { system = system_of c.system; steps = map step_of c.steps.items; back = []; bounds = [] }

-- a tightened row
abbrev pub tight_of : Tight → Option Step × Row
tight_of t = (option_map step_of t.step, t.row)

-- what the tightening has so far
abbrev pub tightened_of : TightenedRows → Tightened
tightened_of t = record { next = t.next; made = t.made.items; steps = map step_of t.steps.items; rows = t.rows.items }

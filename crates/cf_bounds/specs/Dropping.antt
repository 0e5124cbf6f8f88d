-- What `drop_output` and its private calls answer.
use Rattle.std.specs.Prelude.{ℕ, ℤ, ◌==◌, not, filter, Bool, List, [], ◌∷◌}
use Rattle.std.specs.List.{list_any}
use Rattle.cf_bounds.specs.declared.dropping.Dropped.{Dropped}
use Rattle.cf_linear.specs.declared.system.Divided.{Divided}
use Rattle.cf_linear.specs.Rows.{Row}
use Rattle.cf_linear.specs.Systems.{System, How, Answer}
use Rattle.cf_linear.specs.Steps.{pair_passes}
use Rattle.cf_linear.specs.Views.{system_of, back_of}

abbrev pub dropped_answer : Dropped → Answer
dropped_answer d = record { system = system_of d.system; steps = []; back = back_of d.back ∷ []; bounds = [] }

abbrev pub bound_pair : Divided → Row × ℤ
bound_pair b = (b.row, b.k)

-- the system without its inequalities
abbrev pub without_inequalities : System → System
without_inequalities m = record { known = m.known; unknown = m.unknown; next = m.next; equations = m.equations; inequalities = []; needs = m.needs }

-- whether a pair passes the limit
unfoldable pub pairs_pass : ℕ → List Row → List Row → Bool
pairs_pass x low high = list_any (λ l. list_any (pair_passes x l) high) low

-- the system with these inequalities, without x, which is computed so
abbrev pub with_rows : System → ℕ → List Row → How → Answer
with_rows m x rows how = record {
  system = record {
    known = m.known;
    unknown = filter (λ w. not (w == x)) m.unknown;
    next = m.next;
    equations = m.equations;
    inequalities = rows;
    needs =
        m.needs;
  };
  steps = [];
  back = (x, how) ∷ [];
  bounds = [];
}

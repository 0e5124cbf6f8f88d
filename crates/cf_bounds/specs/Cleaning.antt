-- What the private calls of `clean` answer.
use Rattle.std.specs.Prelude.{ℕ, ◌+◌, List, [], ◌∷◌, ◌++◌, length, map, filter, not}
use Rattle.cf_linear.specs.Rows.{Row}
use Rattle.cf_linear.specs.Systems.{System, Step, need_zero, need_nonneg, Answer}
use Rattle.cf_linear.specs.Steps.{has_unknown, Tightened, tighten_all, distinct_after}

-- the needs of the equations without these unknowns, and then of the inequalities
abbrev pub needs_of : List ℕ → System → List Step
needs_of us m = map need_zero (filter (λ r. not (has_unknown us r)) m.equations) ++ map need_nonneg
    (filter (λ r. not (has_unknown us r)) m.inequalities)

-- the inequalities that hold one of these unknowns, tightened
abbrev pub tightened : List ℕ → System → Tightened
tightened us m = tighten_all us m.next (filter (has_unknown us) m.inequalities)

-- the system with its rows that hold one of these unknowns
abbrev pub held_of : List ℕ → System → System
held_of us m = record {
  known = m.known;
  unknown = m.unknown;
  next = m.next;
  equations = filter (has_unknown us) m.equations;
  inequalities = filter (has_unknown us) m.inequalities;
  needs = m.needs;
}

-- the new system of these parts
abbrev pub joined : System → List Row → Tightened → List Step → Answer
joined m equations t needs = record {
  system = record {
    known = m.known ++ t.made;
    unknown = m.unknown;
    next = t.next;
    equations = equations;
    inequalities = distinct_after [] t.rows;
    needs = m.needs + length needs;
  };
  steps = needs ++ t.steps;
  back = [];
  bounds = [];
}

-- with the let of the next column
abbrev pub with_let : Tightened → Step → Tightened
with_let t m = record { next = t.next + 1; made = t.made ++ (t.next ∷ []); steps = t.steps ++ (m ∷ []); rows = t.rows }

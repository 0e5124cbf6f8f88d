-- What `remainder_step` and its private calls answer.
use Rattle.std.specs.Prelude.{ℕ, ◌+◌, ◌∷◌, ◌++◌, ℤ, unsigned_abs, nat_lt, ◌&&◌, map, [], Bool}
use Rattle.cf_bounds.specs.declared.searching.Searched.{Searched}
use Rattle.cf_bounds.specs.declared.searching.SearchBuilder.{SearchBuilder}
use Rattle.cf_linear.specs.Rows.{Row}
use Rattle.cf_linear.specs.Systems.{Answer}
use Rattle.cf_linear.specs.Steps.{Found}
use Rattle.cf_linear.specs.Views.{system_of, bound_of}
use Rattle.cf_bounds.specs.Sides.{is_side}

abbrev pub searched_answer : Searched → Answer
searched_answer s = record { system = system_of s.system; steps = []; back = []; bounds = map bound_of s.bounds.items }

abbrev pub found_of : SearchBuilder → Found
found_of f = record {
  next = f.next;
  columns = f.columns.items;
  unknowns = f.unknowns.items;
  equations = f.equations.items;
  rows = f.rows.items;
  bounds =
      map bound_of f.bounds.items;
}

-- nothing is found yet
abbrev pub found_from : ℕ → Found
found_from n = record { next = n; columns = []; unknowns = []; equations = []; rows = []; bounds = [] }

-- with the next column and unknown, and these
abbrev pub found_with : Found → Row → Row → ℕ → Found
found_with s equation rest bound = record {
  next = s.next + 2;
  columns = s.columns ++ (s.next ∷ []);
  unknowns = s.unknowns ++ ((s.next + 1) ∷ []);
  equations = s.equations ++ (equation ∷ []);
  rows = s.rows ++ (rest ∷ []);
  bounds = s.bounds ++ ((s.next, bound) ∷ []);
}

-- a coefficient above 1 of a bound on the side
abbrev pub is_searched : Bool → ℤ → Bool
is_searched lower k = nat_lt 1 (unsigned_abs k) && is_side lower k

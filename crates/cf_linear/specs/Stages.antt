-- The elimination of a system, one step after the other, with its refusals.
use Rattle.std.specs.Prelude.{◌≡◌, ℕ, zero, suc, ◌*◌, ◌-◌, ◌^◌, nat_lt, List, [], ◌∷◌, map, min, max, Bool, true, false, Option, Some, None, if◌then◌else◌}
use Rattle.std.specs.List.{fold}
use Rattle.cf_linear.specs.declared.refusal.TheConstants.{MOST_TUPLES, MOST_ROWS, MOST_COLUMNS}
use Rattle.cf_linear.specs.declared.refusal.LimitKind.TheVariants.{Rows, Columns, Search}
use Rattle.cf_linear.specs.declared.refusal.Refusal.{Refusal}
use Rattle.cf_linear.specs.declared.refusal.Refusal.TheVariants.{Past, Limit}
use Rattle.cf_linear.specs.Rows.{Row, norm, without}
use Rattle.cf_linear.specs.Systems.{System, Answer, no_answer, rows_of, columns_of}
use Rattle.cf_linear.specs.Steps.{present, clean, merge, merge_passes, merge_factor, last, last_passes, Pick, pick, bound, bound_passes, bound_factor, searched_by, greatest_of, let_norm}

-- the greatest number of search tuples, of rows and of columns
pub record Limits : Type 0 where
  pub search : ℕ
  pub rows : ℕ
  pub columns : ℕ

-- a system, the product of the search bounds so far, and whether the next step is not a Clean
pub record State : Type 0 where
  pub system : System
  pub tuples : ℕ
  pub is_past_clean : Bool

pub data End : Type 0 where
  solved : End
  refused : Refusal → End

-- what a step makes, and how much greater numbers may be after it
pub record Taken : Type 0 where
  pub answer : Answer
  pub factor : ℕ

-- the end, or the next state with what the step makes
pub data Stage : Type 0 where
  ends : End → Stage
  goes : State → Taken → Stage

-- Rows, then Columns
abbrev pub first_count : Limits → System → Option Refusal
first_count l m =
    (if nat_lt l.rows (rows_of m) then Some (Limit Rows (rows_of m))
    else (if nat_lt l.columns (columns_of m) then Some (Limit Columns (columns_of m)) else None))

abbrev pub ends_or : Option Refusal → Stage → Stage
ends_or (Some r) s = ends (refused r)
ends_or None s = s

abbrev pub refused_if : Bool → Refusal → Stage → Stage
refused_if b r s = (if b then ends (refused r) else s)

-- a step to a counted system: Rows, Columns, Past
abbrev pub within_counts : Limits → Bool → State → Taken → Stage
within_counts l passes t a = ends_or (first_count l t.system) (refused_if passes Past (goes t a))

-- Clean, between counted systems
unfoldable pub clean_stage : Limits → State → Stage
clean_stage l s =
    let a = clean s.system in
    ends_or (first_count l s.system)
    (within_counts l false (record { system = a.system; tuples = s.tuples; is_past_clean = true })
    (record { answer = a; factor = max 1 (greatest_of (map let_norm a.steps)) }))

-- a Merge of the first two unknowns of the first equation, or its end; where it has no unknown, a Clean comes first
unfoldable pub equation_stage : Limits → State → Row → List Row → List ℕ → Stage
equation_stage l s e rest [] = goes (record { system = s.system; tuples = s.tuples; is_past_clean = false })
    (record { answer = no_answer s.system; factor = 1 })
equation_stage l s e rest (u ∷ []) =
    let a = last s.system e rest u in
    within_counts l (last_passes s.system e rest u) (record { system = a.system; tuples = s.tuples; is_past_clean = false })
    (record { answer = a; factor = max 1 (norm (without u e)) })
equation_stage l s e rest (u ∷ w ∷ us) =
    let a = merge s.system e u w in
    within_counts l (merge_passes s.system e u w) (record { system = a.system; tuples = s.tuples; is_past_clean = true })
    (record { answer = a; factor = merge_factor e u w })

abbrev pub times_bound : ℕ → (ℕ × ℕ) → ℕ
times_bound n (k, p) = min (n * p) (2 ^ 64 - 1)

-- a Bound step: Search, then Rows, Columns, Past
unfoldable pub bound_stage : Limits → State → Pick → Stage
bound_stage l s c =
    let tuples = fold times_bound s.tuples (searched_by s.system c).bounds in
    let a = bound s.system c in
    refused_if (nat_lt l.search tuples) (Limit Search tuples)
    (within_counts l (bound_passes s.system c) (record { system = a.system; tuples = tuples; is_past_clean = false })
    (record { answer = a; factor = max 1 (bound_factor s.system c) }))

-- while an unknown is left, a Bound step
unfoldable pub unknown_stage : Limits → State → List ℕ → Stage
unknown_stage l s [] = ends solved
unknown_stage l s (x ∷ us) = bound_stage l s (pick s.system.inequalities x us)

-- while an equation is left, an equation step
unfoldable pub row_stage : Limits → State → List Row → Stage
row_stage l s [] = unknown_stage l s s.system.unknown
row_stage l s (e ∷ rest) = equation_stage l s e rest (present s.system.unknown e)

-- one step of the elimination
unfoldable pub stage : Limits → State → Stage
stage l s = (if s.is_past_clean then row_stage l s s.system.equations else clean_stage l s)

-- the steps from a state, and the end
pub data Trace (l : Limits) : State → List Taken → End → Type 0 where
  stop : {s : State} {e : End} → stage l s ≡ ends e → Trace l s [] e
  more : {s t : State} {a : Taken} {as_ : List Taken} {e : End} → stage l s ≡ goes t a → Trace l t as_ e → Trace l s (a ∷ as_) e

abbrev pub first_state : System → State
first_state m = record { system = m; tuples = 1; is_past_clean = false }

pub record Run : Type 0 where
  pub taken : List Taken
  pub end : End

abbrev pub run_more : Taken → Run → Run
run_more a r = record { taken = a ∷ r.taken; end = r.end }

-- at most n steps from a state
unfoldable pub run_for : ℕ → Limits → State → Run
run_for zero l s = record { taken = []; end = refused Past }
run_for (suc n) l s = elim (stage l s) [ ends e ↦ record { taken = []; end = e } | goes t a ↦ run_more a (run_for n l t) ]

-- the elimination of a system; no trace has as many as 2^64 steps
unfoldable pub run : Limits → System → Run
run l m = run_for (2 ^ 64) l (first_state m)

-- what the whole run makes
abbrev pub answers_of : Run → List Answer
answers_of r = map (λ a. a.answer) r.taken

-- the limits of the program
abbrev pub limits : Limits
limits = record { search = MOST_TUPLES; rows = MOST_ROWS; columns = MOST_COLUMNS }

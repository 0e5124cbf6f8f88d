-- One step of an elimination as the code takes it.
use Rattle.std.specs.Prelude.{◌≡◌, ℕ, ◌<◌, ◌≤◌, ◌^◌, nat_lt, true, false, map, reverse, Option, Some, None, Result, Ok, Err, if◌then◌else◌, []}
use Rattle.cf_linear.specs.declared.refusal.LimitKind.{LimitKind}
use Rattle.cf_linear.specs.declared.refusal.LimitKind.TheVariants.{Rows, Columns}
use Rattle.cf_linear.specs.declared.refusal.Refusal.{Refusal}
use Rattle.cf_linear.specs.declared.refusal.Refusal.TheVariants.{Past, Limit}
use Rattle.cf_linear.specs.Systems.{System, Answer, rows_of, columns_of}
use Rattle.cf_linear.specs.Keep.{Formed, Differ}
use Rattle.cf_linear.specs.Solved.{Owes}
use Rattle.cf_linear.specs.Stages.{Limits, limits, State, Stage, ends, goes, solved, refused}
use Rattle.cf_linear.specs.Views.{system_of, step_of, back_of, bound_of}
use Rattle.cf_elim.specs.declared.fault.ElimFault.{ElimFault}
use Rattle.cf_elim.specs.declared.fault.ElimFault.TheVariants.{Refused, NoMemory}
use Rattle.cf_elim.specs.declared.output.StepOutput.{StepOutput}
use Rattle.cf_elim.specs.declared.output.RunOutput.{RunOutput}
use Rattle.cf_elim.specs.declared.stage.State.{State as DeclaredState}
use Rattle.cf_elim.specs.declared.stage.Stage.{Stage as DeclaredStage}
use Rattle.cf_elim.specs.declared.stage.Stage.TheVariants.{Goes, Ends}

abbrev pub state_of : DeclaredState → State
state_of c = record { system = system_of c.system; tuples = c.tuples; is_past_clean = c.is_past_clean }

-- a state that is to be cleaned, and one that is not
abbrev pub before_clean : System → ℕ → State
before_clean m n = record { system = m; tuples = n; is_past_clean = false }

abbrev pub past_clean : System → ℕ → State
past_clean m n = record { system = m; tuples = n; is_past_clean = true }

-- what a step made, and the system that it left
abbrev pub made_answer : System → StepOutput → Answer
made_answer m p = record { system = m; steps = map step_of p.steps.items; back = map back_of p.back.items; bounds = map bound_of p.bounds.items }

-- the same of all steps so far, whose ways back are kept in the opposite order
abbrev pub whole_answer : System → RunOutput → Answer
whole_answer m w = record { system = m; steps = map step_of w.steps.items; back = map back_of (reverse w.later.items); bounds = map bound_of w.bounds.items }

-- the condition of each step
pub record IsReady (m : System) : Type 0 where
  pub formed : Formed m
  pub differ : Differ m.unknown

-- where a clean state has neither equations nor unknowns, it has no inequalities
abbrev pub Settled : State → Type 0
Settled s = s.is_past_clean ≡ true → s.system.equations ≡ [] → s.system.unknown ≡ [] → s.system.inequalities ≡ []

-- the stage g goes on to t, by a step that made p
pub record GoesOn (m : System) (g : Stage) (t : DeclaredState) (p : StepOutput) : Type 0 where
  pub factor : ℕ
  pub is : g ≡ goes (state_of t) (record { answer = made_answer (system_of t.system) p; factor = factor })
  pub owes : Owes m (made_answer (system_of t.system) p)
  pub ready : IsReady (system_of t.system)
  pub settled : Settled (state_of t)

-- the stage g ends solved, at a clean state without equations and unknowns
pub record IsEnd (s : State) (g : Stage) : Type 0 where
  pub is : g ≡ ends solved
  pub clean : s.is_past_clean ≡ true
  pub equations : s.system.equations ≡ []
  pub unknown : s.system.unknown ≡ []

-- the stage g from s, or want of memory
abbrev pub StageIs : State → Stage → Result DeclaredStage ElimFault → Type 0
StageIs s g (Ok (Goes t p)) = GoesOn s.system g t p
StageIs s g (Ok Ends) = IsEnd s g
StageIs s g (Err (Refused r)) = g ≡ ends (refused r)
StageIs s g (Err NoMemory) = Unit {0}

-- ---- counts
-- Rows, then Columns
abbrev pub count_refusal : Limits → ℕ → ℕ → Option Refusal
count_refusal l rows columns =
    (if nat_lt l.rows rows then Some (Limit Rows rows)
    else (if nat_lt l.columns columns then Some (Limit Columns columns) else None))

-- want of memory may come where no count passes its limit, or the one that does has more than 64 bits
abbrev pub MayLackAt : Option Refusal → Type 0
MayLackAt None = Unit {0}
MayLackAt (Some (Limit kind n)) = 2 ^ 64 ≤ n
MayLackAt (Some Past) = ⊥

-- the refusal, or none, or want of memory
abbrev pub CountIs : Option Refusal → Result (Unit {0}) ElimFault → Type 0
CountIs o (Ok u) = o ≡ None
CountIs o (Err (Refused r)) = o ≡ Some r
CountIs o (Err NoMemory) = MayLackAt o

-- a count in 64 bits, or none where it has more
abbrev pub IsCount : ℕ → Option ℕ → Type 0
IsCount n (Some k) = (k ≡ n) × (k < 2 ^ 64)
IsCount n None = 2 ^ 64 ≤ n

-- a count of a kind against the most of it, and then what is counted later
abbrev pub counted_one : LimitKind → ℕ → Option ℕ → Result (Unit {0}) ElimFault → Result (Unit {0}) ElimFault
counted_one kind most None later = Err NoMemory
counted_one kind most (Some n) later = (if nat_lt most n then Err (Refused (Limit kind n)) else later)

-- such rows, and then such columns
abbrev pub counted : Option ℕ → Option ℕ → Result (Unit {0}) ElimFault
counted rows columns = counted_one Rows limits.rows rows (counted_one Columns limits.columns columns (Ok tt))

-- the rows and the columns of the system
pub record CountsAre (m : System) (rows columns : ℕ) : Type 0 where
  pub rows_are : rows ≡ rows_of m
  pub columns_are : columns ≡ columns_of m

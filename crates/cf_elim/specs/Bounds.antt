-- What the private calls of a Bound step do.
use Rattle.std.specs.Prelude.{◌≡◌, ℕ, ◌⊎◌, true, false, None, Some, Result, Ok, Err, List, [], ◌∷◌}
use Rattle.cf_linear.specs.declared.refusal.Refusal.{Refusal}
use Rattle.cf_linear.specs.declared.refusal.Refusal.TheVariants.{Past}
use Rattle.cf_linear.specs.Systems.{System}
use Rattle.cf_linear.specs.Steps.{Pick, searched_by, dropped, drop_passes}
use Rattle.cf_linear.specs.Stages.{first_count, limits}
use Rattle.cf_linear.specs.Keep.{In, Formed, Differ}
use Rattle.cf_linear.specs.Solved.{Owes}
use Rattle.cf_linear.specs.Views.{system_of}
use Rattle.cf_bounds.specs.Exact.{IsFree, AreExact}
use Rattle.cf_bounds.specs.Dropping.{dropped_answer}
use Rattle.cf_bounds.specs.Searching.{searched_answer}
use Rattle.cf_bounds.specs.declared.searching.Searched.{Searched}
use Rattle.cf_bounds.specs.declared.dropping.Dropped.{Dropped}
use Rattle.cf_elim.specs.declared.fault.ElimFault.{ElimFault}
use Rattle.cf_elim.specs.declared.fault.ElimFault.TheVariants.{Refused, NoMemory}
use Rattle.cf_elim.specs.Stages.{MayLackAt}
use Rattle.cf_linear.specs.declared.system.Search.{Search}
use Rattle.cf_elim.specs.declared.stage.Stage.{Stage}
use Rattle.cf_elim.specs.declared.stage.Stage.TheVariants.{Goes, Ends}

-- the search that the pick asks for, after which its unknown may be dropped
pub record IsSearched (m : System) (c : Pick) (s : Searched) : Type 0 where
  pub is : searched_answer s ≡ searched_by m c
  pub owes : Owes m (searched_answer s)
  pub formed : Formed (system_of s.system)
  pub differ : Differ s.system.unknown.items
  pub unknown : In c.unknown s.system.unknown.items
  pub free : IsFree c.unknown s.system.equations.items
  pub exact : AreExact c.unknown s.system.inequalities.items

-- x is dropped, within the limits
pub record IsDropped (m : System) (x : ℕ) (d : Dropped) : Type 0 where
  pub within_counts : first_count limits (dropped m x).system ≡ None
  pub fits : drop_passes m x ≡ false
  pub is : dropped_answer d ≡ dropped m x
  pub owes : Owes m (dropped_answer d)
  pub formed : Formed (system_of d.system)

-- a count passes its limit, or else a number does
abbrev pub DropRefused : System → ℕ → Refusal → Type 0
DropRefused m x r = (first_count limits (dropped m x).system ≡ Some r) ⊎
    ((first_count limits (dropped m x).system ≡ None) × (drop_passes m x ≡ true) × (r ≡ Past))

abbrev pub DropIs : System → ℕ → Result Dropped ElimFault → Type 0
DropIs m x (Ok d) = IsDropped m x d
DropIs m x (Err (Refused r)) = DropRefused m x r
DropIs m x (Err NoMemory) = MayLackAt (first_count limits (dropped m x).system)

-- on to what the drop leaves, or want of memory
abbrev pub GoesDropped : List Search → Dropped → ℕ → Result Stage ElimFault → Type 0
GoesDropped bounds d tuples (Ok (Goes t p)) =
    (t.system ≡ d.system) × (t.tuples ≡ tuples) × (t.is_past_clean ≡ false) × (p.bounds.items ≡ bounds) × (p.steps.items ≡ []) × (p.back.items ≡ d.back ∷ [])
GoesDropped bounds d tuples (Ok Ends) = ⊥
GoesDropped bounds d tuples (Err (Refused r)) = ⊥
GoesDropped bounds d tuples (Err NoMemory) = Unit {0}

-- the unknown x is dropped after its search, or why it is not
abbrev pub SearchedIs : Searched → ℕ → ℕ → Result Stage ElimFault → Type 0
SearchedIs r x n (Ok (Goes t p)) = (d : Dropped) × IsDropped (system_of r.system) x d × GoesDropped r.bounds.items d n (Ok (Goes t p))
SearchedIs r x n (Ok Ends) = ⊥
SearchedIs r x n (Err e) = DropIs (system_of r.system) x (Err e)

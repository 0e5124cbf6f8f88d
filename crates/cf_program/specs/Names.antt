-- Names, and the variables and functions that they stand for.
use Rattle.std.specs.Prelude.{ℕ, suc, Bool, List, [], ◌∷◌, ◌++◌, Option, Some, None, nat_lt, if◌then◌else◌}
use Rattle.std.specs.List.{list_any}
use Rattle.std.specs.Str.{bytes_eq}
use Rattle.cf_tree.specs.Params.{bases_of}
use Rattle.cf_tree.specs.declared.base.Base.{Base}
use Rattle.cf_tree.specs.declared.base.Place.{Place}
use Rattle.cf_tree.specs.declared.raw.Param.{Param}
use Rattle.cf_tree.specs.DefView.{RawDefTree}
use Rattle.cf_program.specs.declared.variable.Variable.{Variable}

abbrev pub is_among : List (List ℕ) → List ℕ → Bool
is_among names x = list_any (λ y. bytes_eq y x) names

-- the place of the first name that equals one before it, where `before` stand before these
abbrev pub repeated : List (List ℕ) → List (List ℕ) → List Place → Option Place
repeated before [] places = None
repeated before (x ∷ xs) [] = None
repeated before (x ∷ xs) (p ∷ places) = if is_among before x then Some p else repeated (before ++ x ∷ []) xs places

abbrev pub or_outer : Option Variable → Option Variable → Option Variable
or_outer (Some v) outer = Some v
or_outer None outer = outer

-- the innermost variable of that name, where the variables stand by level and the first has level n
abbrev pub variable_from : ℕ → List Param → List ℕ → Option Variable
variable_from n [] x = None
variable_from n (p ∷ ps) x =
    or_outer (variable_from (suc n) ps x) (if bytes_eq p.name x then Some (record { level = n; base = p.base }) else None)

abbrev pub variable_of : List Param → List ℕ → Option Variable
variable_of scope x = variable_from 0 scope x

-- what a name of a function stands for
pub record Callee : Type 0 where
  pub number : ℕ
  pub params : List Base
  pub results : List Base
  pub is_earlier : Bool

-- function number i, as function number `caller` sees it
abbrev pub callee : ℕ → ℕ → RawDefTree → Callee
callee caller i d = record { number = i; params = bases_of d.params; results = d.results; is_earlier = nat_lt i caller }

-- the first function of that name, where the first of these has number i
abbrev pub callee_from : ℕ → ℕ → List RawDefTree → List ℕ → Option Callee
callee_from caller i [] x = None
callee_from caller i (d ∷ ds) x = if bytes_eq d.name x then Some (callee caller i d) else callee_from caller (suc i) ds x

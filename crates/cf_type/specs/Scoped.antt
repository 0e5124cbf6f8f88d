-- The table of the innermost variable of each name, and what the variables in scope hide.
use Rattle.std.specs.Prelude.{◌≡◌, ℕ, cond, List, [], ◌∷◌, ◌++◌, Option, None, Vec}
use Rattle.std.specs.Str.{bytes_eq}
use Rattle.std.specs.Global.{Global}
use Rattle.cf_tree.specs.declared.raw.Param.{Param}
use Rattle.cf_program.specs.declared.variable.Variable.{Variable}
use Rattle.cf_program.specs.Names.{variable_of}

-- the variable that a table has for a name
abbrev pub held : List (Vec ℕ Global × Option Variable) → List ℕ → Option Variable
held [] x = None
held (e ∷ es) x = cond (bytes_eq x e.0.items) e.1 (held es x)

-- the variables that these hide, one by one, where `outer` stand before them
abbrev pub hidden_by : List Param → List Param → List (Option Variable)
hidden_by outer [] = []
hidden_by outer (p ∷ ps) = variable_of outer p.name ∷ hidden_by (outer ++ p ∷ []) ps

-- the table has the innermost variable of each name, and these variables are the hidden ones
pub record TableAnswer (table : List (Vec ℕ Global × Option Variable)) (scope : List Param) (hidden : List (Option Variable)) : Type 0 where
  pub innermost : (x : List ℕ) → held table x ≡ variable_of scope x
  pub outer : hidden ≡ hidden_by [] scope

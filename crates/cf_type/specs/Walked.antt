-- The walk of a program, declaration by declaration.
use Rattle.std.specs.Prelude.{ℕ, ℤ, List, [], ◌∷◌, ◌++◌, Option, Some, None, Result, Ok}
use Rattle.cf_tree.specs.declared.base.Base.TheVariants.{Int}
use Rattle.cf_tree.specs.declared.base.Edition.{Edition}
use Rattle.cf_tree.specs.declared.raw.RawDef.{RawDef}
use Rattle.cf_tree.specs.declared.raw.RawItem.{RawItem}
use Rattle.cf_tree.specs.declared.raw.RawItem.TheVariants.{Const, Def as Function}
use Rattle.cf_tree.specs.DefView.{RawDefTree, DefTree, RawItemTree, item_const, item_def}
use Rattle.cf_tree.specs.RawTree.{RawTree, place_of}
use Rattle.cf_program.specs.Checked.{walk_const, walk_def}
use Rattle.cf_program.specs.Constants.{Constant, value}
use Rattle.cf_program.specs.declared.fault.TypeFault.{TypeFault}
use Rattle.cf_program.specs.declared.fault.TypeFault.TheVariants.{Mismatch}
use Rattle.cf_program.specs.declared.linearity.Linearity.{Linearity}
use Rattle.cf_program.specs.Then.{◌>>=◌}
use Rattle.cf_program.specs.Walk.{Form, where_kept, is_one}

-- these constants and one more
abbrev pub with_constant : List Constant → List ℕ → ℤ → List Constant
with_constant cs x k = cs ++ record { name = x; value = k } ∷ []

-- a constant x behind these, over the form of its expression: a number without variables
abbrev pub const_form : List Constant → List ℕ → RawTree → Form → Result (List Constant) TypeFault
const_form cs x e f = where_kept (is_one Int f.bases) (Mismatch (place_of e)) (value cs e >>= λ k. Ok (with_constant cs x k))

-- the functions of a program
abbrev pub functions_in : List RawItem → List RawDef
functions_in [] = []
functions_in (Const c ∷ items) = functions_in items
functions_in (Function d ∷ items) = d ∷ functions_in items

-- what is known behind some declarations: the constants, the trees of the functions, and the next number of a choose
pub record Walked : Type 0 where
  pub constants : List Constant
  pub defs : List DefTree
  pub next : ℕ

abbrev pub with_constants : Walked → List Constant → Walked
with_constants w more = record { constants = more; defs = w.defs; next = w.next }

-- with a function, and the next number behind it
abbrev pub with_function : Walked → DefTree × ℕ → Walked
with_function w r = record { constants = w.constants; defs = w.defs ++ r.0 ∷ []; next = r.1 }

-- a declaration behind those functions and all that is known
abbrev pub walk_item : Edition → Linearity → List RawDefTree → List RawDefTree → Walked → RawItemTree → Result Walked TypeFault
walk_item edition how all before w (item_const p x e) =
    walk_const edition how all w.constants before w.next p x e >>= λ more. Ok (with_constants w more)
walk_item edition how all before w (item_def d) =
    walk_def edition how all w.constants before w.next d >>= λ r. Ok (with_function w r)

-- the functions before what stands behind a declaration
abbrev pub functions_to : List RawDefTree → RawItemTree → List RawDefTree
functions_to before (item_const p x e) = before
functions_to before (item_def d) = before ++ d ∷ []

-- the first of two faults, if any
abbrev pub first_fault : Option TypeFault → Option TypeFault → Option TypeFault
first_fault (Some fault) later = Some fault
first_fault None later = later

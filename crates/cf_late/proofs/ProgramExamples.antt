-- The values on which a late program may be run, and outcomes that its source allows.
use Rattle.std.proofs.Common.{◌≡◌, pos, List, [], ◌∷◌, refl, sym, subst}
use Rattle.std.specs.Prelude.{Some, codes, true}
use Rattle.cf_tree.specs.declared.base.Base.{Base}
use Rattle.cf_tree.specs.declared.base.Base.TheVariants.{Int, Bool as Truth}
use Rattle.cf_tree.specs.declared.raw.Param.{Param}
use Rattle.cf_tree.specs.DefView.{DefTree}
use Rattle.cf_tree.specs.ExprTree.{expr_lit, expr_var}
use Rattle.cf_tree.specs.Values.{Value, number, truth, values, HaveBases}
use Rattle.cf_tree.specs.Params.{bases_of}
use Rattle.cf_late.specs.ChooseRun.{gives, overflow}
use Rattle.cf_late.specs.ProgramLaw.{HaveMainTypes, IsAllowedIn}

abbrev param : Base → Param
param b = record { place = record { line = 1; column = 1 }; name = codes "a"; base = b }

-- main gives the number that it takes; the function before it takes a truth value
abbrev main : DefTree
main = record { name = codes "main"; params = param Int ∷ []; results = Int ∷ []; body = expr_var 0 }

abbrev defs : List DefTree
defs = record { name = codes "one"; params = param Truth ∷ []; results = Int ∷ []; body = expr_lit (pos 1) } ∷ main ∷ []

abbrev seven : List Value
seven = number (pos 7) ∷ []

types-of_main : HaveMainTypes defs 1 seven
types-of_main = (main, refl, ((pos 7, refl), tt))

-- of another function, and of too few values
not_of_main : (vs : List Value) → (HaveBases (Int ∷ []) vs → ⊥) → HaveMainTypes defs 1 vs → ⊥
not_of_main vs none h = by h.0 h.1 h.2
  where
    by : (d : DefTree) → Some main ≡ Some d → HaveBases (bases_of d.params) vs → ⊥
    by d e g = let same : main ≡ d = cc in none (subst (λ c. HaveBases (bases_of c.params) vs) (sym same) g)

types-of_another : HaveMainTypes defs 1 (truth true ∷ []) → ⊥
types-of_another = not_of_main (truth true ∷ []) (λ g. absurd (let e = g.0.1 in cc))

types-missing : HaveMainTypes defs 1 [] → ⊥
types-missing = not_of_main [] (λ g. g)

allowed-outcome : IsAllowedIn defs 1 seven (gives seven)
allowed-outcome o e = let same : o ≡ values seven = cc in same

allowed-not : IsAllowedIn defs 1 seven (gives (number (pos 8) ∷ [])) → ⊥
allowed-not h = absurd (let e = h (values (number (pos 8) ∷ [])) refl in cc)

allowed-without_outcome : IsAllowedIn defs 1 seven overflow
allowed-without_outcome o e = absurd (cc)

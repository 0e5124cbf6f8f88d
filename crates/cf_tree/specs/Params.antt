-- Names with their bases: the parameters of a function, and the variables in the scope of a choose.
use Rattle.std.specs.Prelude.{ℕ, List, map}
use Rattle.cf_tree.specs.declared.base.Base.{Base}
use Rattle.cf_tree.specs.declared.raw.Param.{Param}

abbrev pub bases_of : List Param → List Base
bases_of ps = map (λ p. p.base) ps

abbrev pub names_of : List Param → List (List ℕ)
names_of ps = map (λ p. p.name) ps

-- The parameters of main of a late program.
use Rattle.std.proofs.Common.{◌≡◌, subst, ℕ, zero, suc, ◌<◌, List, [], ◌∷◌, length, map, get_or, arith, refl}
use Rattle.std.proofs.lemmas.List.{length-map}
use Rattle.std.proofs.lemmas.Option.{slice_get_within}
use Rattle.cf_tree.specs.declared.base.Base.{Base}
use Rattle.cf_tree.specs.declared.expr.Def.{Def}
use Rattle.cf_tree.specs.DefView.{def_tree}
use Rattle.cf_tree.specs.Values.{Value, HaveBases}
use Rattle.cf_program.specs.Checked.{TypedTree}
use Rattle.cf_tree.specs.Params.{bases_of}
use Rattle.cf_program.specs.TypedProgram.{IsLateProgram}
use Rattle.cf_late.specs.ProgramLaw.{HaveMainTypes}
use Rattle.cf_answer.specs.Picked.{main_bases}
use Rattle.cf_answer.proofs.PickedLemmas.{parameters_at}

-- ---- the parameters of main
pub main_below : (ds : List Def) (main : ℕ) → IsLateProgram (map def_tree ds) main → main < length ds
main_below ds main t = let h = t.has_main in omega (arith, slice_get_within (map def_tree ds) main h.0 h.1, length-map ds def_tree)

pub bases_at : (ds : List Def) (i : ℕ) (d : Def) → i < length ds →
    bases_of (get_or ds i d).params.items ≡ get_or (map (λ e. bases_of e.params) (map def_tree ds)) i []
bases_at [] i d lt = absurd (omega (arith, lt))
bases_at (e ∷ ds) zero d lt = refl
bases_at (e ∷ ds) (suc i) d lt = bases_at ds i d (omega (arith, lt))

-- values of the bases of its parameters are of main's types
pub main_types : (typed : TypedTree) (vs : List Value) → IsLateProgram typed.defs typed.main → HaveBases (main_bases typed) vs →
    HaveMainTypes typed.defs typed.main vs
main_types typed vs kept h =
    let main = kept.has_main in (main.0, main.1, subst (λ bs. HaveBases bs vs) (parameters_at typed.defs typed.main main.0 main.1) h)

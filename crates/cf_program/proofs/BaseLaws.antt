-- What the tests on bases and names say.
use Rattle.std.proofs.Common.{◌≡◌, ℕ, suc, ◌+◌, Bool, true, false, ◌==◌, List, [], ◌∷◌, ◌++◌, length, map, slice_get, Option, Some, None, All, refl, ap, cond, arith}
use Rattle.std.proofs.lemmas.Bool.{eqb-true}
use Rattle.std.proofs.lemmas.List.Elements.{All-nil, All-cons}
use Rattle.std.specs.Str.{bytes_eq}
use Rattle.cf_tree.specs.declared.base.Base.{Base}
use Rattle.cf_tree.specs.declared.base.Base.TheVariants.{Int, Bool as Truth, Set}
use Rattle.cf_tree.specs.declared.base.Edition.TheVariants.{Two}
use Rattle.cf_tree.specs.declared.base.Place.{Place}
use Rattle.cf_tree.specs.declared.raw.Param.{Param}
use Rattle.cf_program.specs.declared.fault.TypeFault.TheVariants.{DuplicateName, Mismatch}
use Rattle.cf_program.specs.declared.variable.Variable.{Variable}
use Rattle.cf_program.specs.Names.{is_among, variable_from, or_outer}
use Rattle.cf_tree.specs.Params.{bases_of}
use Rattle.cf_program.specs.TypedProgram.{IsOutput}
use Rattle.cf_program.specs.Walk.{bound, Summand, variables_of, is_output, output_fault}
use Rattle.cf_tree.specs.Typing.{one}

-- one list of length 1 is one base
pub single_is : (bs : List Base) → (length bs == 1) ≡ true → (b : Base) × (bs ≡ one b)
single_is [] h = cc
single_is (b ∷ []) h = (b, refl)
single_is (b ∷ c ∷ bs) h = absurd (omega (arith, eqb-true (length (b ∷ c ∷ bs)) 1 h))

abbrev pub Found : ℕ → List Param → Variable → Type 0
Found n ps v = (k : ℕ) × (v.level ≡ n + k) × (slice_get (bases_of ps) k ≡ Some v.base)

found_here : (n : ℕ) (p : Param) (ps : List Param) (b : Bool) (v : Variable) → cond b (Some (record { level = n; base = p.base })) None ≡ Some v → Found n
    (p ∷ ps) v
found_here n p ps true v e =
    let same : record { level = n; base = p.base } ≡ v = cc in
    rw (← same) (0, omega arith, refl)
found_here n p ps false v e = cc

pub variable_found : (n : ℕ) (ps : List Param) (x : List ℕ) (v : Variable) → variable_from n ps x ≡ Some v → Found n ps v
variable_found n [] x v e = cc
variable_found n (p ∷ ps) x v e = by (variable_from (suc n) ps x) (variable_found (suc n) ps x v) e
  where
    by : (o : Option Variable) → (o ≡ Some v → Found (suc n) ps v) → or_outer o (cond (bytes_eq p.name x) (Some
        (record { level = n; base = p.base })) None) ≡ Some v → Found n (p ∷ ps) v
    by None inner h = found_here n p ps (bytes_eq p.name x) v h
    by (Some w) inner h =
        let found : Found (suc n) ps v = inner h in
        (suc found.0, omega (arith, found.1), found.2)

pub bound_bases : (xs : List (List ℕ)) (places : List Place) (bs : List Base) → length places ≡ length xs → length xs ≡ length bs → bases_of
    (bound xs places bs) ≡ bs
bound_bases [] places [] h k = refl
bound_bases [] places (b ∷ bs) h k = absurd (omega arith)
bound_bases (x ∷ xs) [] bs h k = absurd (omega arith)
bound_bases (x ∷ xs) (p ∷ places) [] h k = absurd (omega arith)
bound_bases (x ∷ xs) (p ∷ places) (b ∷ bs) h k = ap (λ cs. b ∷ cs) (bound_bases xs places bs (omega arith) (omega arith))

pub variables_bases : (parts : List Summand) → bases_of (variables_of parts) ≡ map (λ _. Int) (map (λ x. x.factor) parts)
variables_bases [] = refl
variables_bases (x ∷ parts) = ap (λ cs. Int ∷ cs) (variables_bases parts)

is_output_is : (b : Base) → is_output b ≡ true → IsOutput b
is_output_is Int h = tt
is_output_is Truth h = cc
is_output_is Set h = tt

pub outputs_are : (before : List (List ℕ)) (os : List Param) → output_fault Two before os ≡ None → All IsOutput (bases_of os)
outputs_are before [] h = All-nil IsOutput
outputs_are before (o ∷ os) h = by (is_among before o.name) (is_output o.base) refl (outputs_are (before ++ o.name ∷ []) os) h
  where
    by : (twice fits : Bool) → is_output o.base ≡ fits → (output_fault Two (before ++ o.name ∷ []) os ≡ None → All IsOutput (bases_of os)) → cond twice (Some
        (DuplicateName o.place)) (cond fits (output_fault Two (before ++ o.name ∷ []) os) (Some (Mismatch o.place))) ≡ None → All IsOutput (bases_of (o ∷ os))
    by true fits q rest e = cc
    by false false q rest e = cc
    by false true q rest e = All-cons IsOutput o.base (bases_of os) (is_output_is o.base q) (rest e)

-- Steps of the walk through the parts of a pattern.
use Rattle.std.proofs.Common.{◌≡◌, ◌<◌, ◌≤◌, ◌+◌, ℕ, ℤ, List, ◌∷◌, length, map, drop, get_or, drop_of_length-le, Option, Some, None, Result, Ok, Err, refl, sym, ap, subst, ◌∙◌}
use Rattle.cf_tree.specs.declared.base.Place.{Place}
use Rattle.std.proofs.lemmas.List.{drop_more}
use Rattle.cf_tree.specs.declared.raw.Param.{Param}
use Rattle.cf_tree.specs.declared.raw.Part.{Part}
use Rattle.cf_tree.specs.RawView.{part_tree, part_trees, factor_tree}
use Rattle.cf_program.specs.declared.fault.TypeFault.{TypeFault}
use Rattle.cf_program.specs.declared.fault.TypeFault.TheVariants.{DuplicateName}
use Rattle.cf_program.specs.CheckAnswers.{CheckFault}
use Rattle.cf_program.specs.Names.{repeated}
use Rattle.cf_program.specs.Walk.{Context, Pattern, where_no_fault, taken, constant_fault, sum_with, with_part, with_parts}
use Rattle.cf_type.specs.FormParts.{summed, summed_to}
use Rattle.cf_type.proofs.WalkSteps.{fails_then, goes_on}

-- part i of these, behind those that make m
module _ (context : Context) (scope : List Param) (parts : List Part) (i : ℕ) (m : Pattern) (whole : Result Pattern TypeFault)
    (is : with_parts context scope m (part_trees (drop i parts)) ≡ whole) where
  module _ (x : Part) (within : i < length parts) (at : x ≡ get_or parts i x) where
    here : with_parts context scope m (part_tree x ∷ part_trees (drop (i + 1) parts)) ≡ whole
    here = ap (λ ys. with_parts context scope m (part_trees ys)) (ap (λ y. y ∷ drop (i + 1) parts) at ∙ sym (drop_more parts i x within)) ∙ is

    pub part_fails : (fault : TypeFault) → CheckFault fault (with_part context scope m (part_tree x) (factor_tree x.factor)) → CheckFault fault whole
    part_fails fault h =
        subst (λ r. CheckFault fault r) here (fails_then fault (with_part context scope m (part_tree x) (factor_tree x.factor)) _ h)

    pub part_goes_on : (more : Pattern) → with_part context scope m (part_tree x) (factor_tree x.factor) ≡ Ok more →
        with_parts context scope more (part_trees (drop (i + 1) parts)) ≡ whole
    part_goes_on more h = sym (goes_on (with_part context scope m (part_tree x) (factor_tree x.factor)) more _ h) ∙ here

  pub parts_end : length parts ≤ i → whole ≡ Ok m
  parts_end end = sym is ∙ ap (λ ys. with_parts context scope m (part_trees ys)) (drop_of_length-le parts {i = i} end)

-- a pattern whose names differ is summed
sum_fails : (o : Option TypeFault) (s : ℤ) (m : Pattern) (fault : TypeFault) → CheckFault {Y = ℤ} fault (where_no_fault o (Ok s)) →
    CheckFault {Y = Pattern} fault (where_no_fault o (Ok (summed_to m s)))
sum_fails None s m fault h = fails_then {A = ℤ} fault (Ok s) (λ k. Ok (summed_to m k)) h
sum_fails (Some e) s m fault h = fails_then {A = ℤ} fault (Err e) (λ k. Ok (summed_to m k)) h

sum_goes_on : (o : Option TypeFault) (s total : ℤ) (m : Pattern) → where_no_fault {A = ℤ} o (Ok s) ≡ Ok total →
    where_no_fault {A = Pattern} o (Ok (summed_to m s)) ≡ Ok (summed_to m total)
sum_goes_on None s total m h = let same : s ≡ total = cc in ap (λ k. Ok (summed_to m k)) same
sum_goes_on (Some e) s total m h = cc

module _ (context : Context) (start : Option Place) (k : ℤ) (m : Pattern) where
  abbrev twice : Option Place
  twice = repeated (taken context) (map (λ x. x.name) m.summands) (map (λ x. x.place) m.summands)

  abbrev total : Result ℤ TypeFault
  total = where_no_fault (constant_fault start m.constants k) (Ok (sum_with k m.constants))

  pub summed_repeats : (p : Place) → Some p ≡ twice → summed context start k m ≡ Err (DuplicateName p)
  summed_repeats p h = rw (sym h) refl

  pub summed_fails : (fault : TypeFault) → None ≡ twice → CheckFault fault total → CheckFault fault (summed context start k m)
  summed_fails fault none h = rw (sym none) (sum_fails (constant_fault start m.constants k) (sum_with k m.constants) m fault h)

  pub summed_goes_on : (s : ℤ) → None ≡ twice → total ≡ Ok s → summed context start k m ≡ Ok (summed_to m s)
  summed_goes_on s none h = rw (sym none) (sum_goes_on (constant_fault start m.constants k) (sum_with k m.constants) s m h)

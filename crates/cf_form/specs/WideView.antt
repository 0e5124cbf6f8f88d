-- The plain trees that wide relations and their parts stand for.
use Rattle.std.specs.Prelude.{List, [], ◌∷◌, map, Option, Some, None, Box}
use Rattle.std.specs.declared.alloc.Global.{Global}
use Rattle.cf_form.specs.declared.wide.WideRel.{WideRel as DeclaredRel}
use Rattle.cf_form.specs.declared.wide.WideSet.{WideSet as DeclaredSet}
use Rattle.cf_form.specs.declared.wide.WideTerm.{WideTerm as DeclaredTerm}
use Rattle.cf_form.specs.declared.wide.WideRel.TheOpen.{WideRel-F, WideSet-F, WideTerm-F}
use Rattle.cf_form.specs.declared.wide.WideRel.TheFolds.{fold-WideRel, fold-WideSet, fold-WideTerm}
use Rattle.cf_form.specs.declared.wide.Part.{Part as DeclaredPart}
use Rattle.cf_form.specs.declared.wide.Part.TheVariants.{Number, Set, Truth}
use Rattle.cf_form.specs.Expansion.{Part, of_number, of_set, of_truth}
use Rattle.cf_form.specs.Wide.{WideTerm, wide_lit, wide_var, wide_card, wide_neg, wide_add, wide_sub, wide_mul, wide_div, wide_mod, wide_abs, wide_if, wide_min, wide_max, WideTerms, no_wides, wide_more, WideSet, wide_empty, wide_set, wide_union, wide_inter, wide_diff, wide_if_set, WideRel, wide_true, wide_false, wide_truth, wide_compare, wide_same_set, wide_other_set, wide_subset, wide_divides, wide_not, wide_and, wide_or, wide_implies, wide_same, wide_other, wide_if_truth, wide_chain}

abbrev pub wides_of : List WideTerm → WideTerms
wides_of [] = no_wides
wides_of (t ∷ ts) = wide_more t (wides_of ts)

-- one level, with the trees of the parts in their places
abbrev pub term_step : WideTerm-F WideRel WideSet WideTerm → WideTerm
term_step (WideTerm-F.Lit k) = wide_lit k
term_step (WideTerm-F.Var x) = wide_var x
term_step (WideTerm-F.Card s) = wide_card s.value
term_step (WideTerm-F.Neg a) = wide_neg a.value
term_step (WideTerm-F.Add a b) = wide_add a.value b.value
term_step (WideTerm-F.Sub a b) = wide_sub a.value b.value
term_step (WideTerm-F.Mul a b) = wide_mul a.value b.value
term_step (WideTerm-F.Div a k) = wide_div a.value k
term_step (WideTerm-F.Mod a k) = wide_mod a.value k
term_step (WideTerm-F.Abs a) = wide_abs a.value
term_step (WideTerm-F.If c a b) = wide_if c.value a.value b.value
term_step (WideTerm-F.Min ts) = wide_min (wides_of ts.items)
term_step (WideTerm-F.Max ts) = wide_max (wides_of ts.items)

abbrev pub set_step : WideSet-F WideRel WideSet WideTerm → WideSet
set_step WideSet-F.Empty = wide_empty
set_step (WideSet-F.SetVar x) = wide_set x
set_step (WideSet-F.Union a b) = wide_union a.value b.value
set_step (WideSet-F.Inter a b) = wide_inter a.value b.value
set_step (WideSet-F.Diff a b) = wide_diff a.value b.value
set_step (WideSet-F.IfSet c a b) = wide_if_set c.value a.value b.value

abbrev pub rel_step : WideRel-F WideRel WideSet WideTerm → WideRel
rel_step WideRel-F.True = wide_true
rel_step WideRel-F.False = wide_false
rel_step (WideRel-F.Truth x) = wide_truth x
rel_step (WideRel-F.Compare o a b) = wide_compare o a.value b.value
rel_step (WideRel-F.SameSet a b) = wide_same_set a.value b.value
rel_step (WideRel-F.OtherSet a b) = wide_other_set a.value b.value
rel_step (WideRel-F.Subset a b) = wide_subset a.value b.value
rel_step (WideRel-F.Divides k a) = wide_divides k a.value
rel_step (WideRel-F.Not p) = wide_not p.value
rel_step (WideRel-F.And p q) = wide_and p.value q.value
rel_step (WideRel-F.Or p q) = wide_or p.value q.value
rel_step (WideRel-F.Implies p q) = wide_implies p.value q.value
rel_step (WideRel-F.Same p q) = wide_same p.value q.value
rel_step (WideRel-F.Other p q) = wide_other p.value q.value
rel_step (WideRel-F.IfTruth c p q) = wide_if_truth c.value p.value q.value
rel_step (WideRel-F.Chain orders ts) = wide_chain orders.items (wides_of ts.items)

abbrev pub wide_term : DeclaredTerm → WideTerm
wide_term = fold-WideTerm WideRel WideSet WideTerm rel_step set_step term_step

abbrev pub wide_set_of : DeclaredSet → WideSet
wide_set_of = fold-WideSet WideRel WideSet WideTerm rel_step set_step term_step

abbrev pub wide_rel : DeclaredRel → WideRel
wide_rel = fold-WideRel WideRel WideSet WideTerm rel_step set_step term_step

abbrev pub wide_terms : List DeclaredTerm → WideTerms
wide_terms ts = wides_of (map wide_term ts)

abbrev pub part : DeclaredPart → Part
part (Number t) = of_number (wide_term t.value)
part (Set s) = of_set (wide_set_of s.value)
part (Truth r) = of_truth (wide_rel r.value)

abbrev pub given_rel : Option (Box DeclaredRel Global) → Option WideRel
given_rel None = None
given_rel (Some p) = Some (wide_rel p.value)

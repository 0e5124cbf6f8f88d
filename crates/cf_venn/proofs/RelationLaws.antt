-- A relation holds at values of its variables exactly where it holds over the numbers and the counts of the regions.
use Rattle.std.proofs.Common.{inl, inr, List, ◌++◌, sym, ◌∙◌, refl}
use Rattle.std.specs.Prelude.{◌↔◌}
use Rattle.cf_tree.specs.RelTree.{RelTree, rel_true, rel_false, rel_compare, rel_same_set, rel_other_set, rel_subset, rel_divides, rel_and, rel_or, rel_not}
use Rattle.cf_tree.specs.Relation.{Holds}
use Rattle.cf_tree.specs.Values.{Value}
use Rattle.cf_linear.specs.Layout.{Layout, layout_of}
use Rattle.cf_linear.specs.Rows.{Values}
use Rattle.cf_cases.specs.Holding.{IsPlacedRel}
use Rattle.cf_cases.proofs.AgreeLaws.{FormsAgree, val-agrees}
use Rattle.cf_cases.proofs.PlacedLaws.{placed-rel}
use Rattle.cf_venn.specs.Columns.{column_values}
use Rattle.cf_venn.specs.Relations.{HoldsAt, HoldsByCounts}
use Rattle.cf_venn.proofs.OutputLaws.{sets_have_counts, forms_at}

module _ (l : Layout) (env : List Value) (v : Values) (g : FormsAgree l env v) where
  mutual
    there : (rel : RelTree) → IsPlacedRel l rel → Holds rel env → HoldsAt l v rel
    there rel_true p h = h
    there rel_false p h = h
    there (rel_compare o a b) p h = rw (val-agrees l env v g a p.0.0, val-agrees l env v g b p.1.0) at h
    there (rel_same_set a b) p h = (g.same a b p.0 p.1).0 h
    there (rel_other_set a b) p h = (g.other a b p.0 p.1).0 h
    there (rel_subset a b) p h = (g.subset a b p.0 p.1).0 h
    there (rel_divides k t) p h = (h.0, sym (val-agrees l env v g t p.1) ∙ h.1)
    there (rel_and a b) p h = (there a p.0 h.0, there b p.1 h.1)
    there (rel_or a b) p (inl h) = inl (there a p.0 h)
    there (rel_or a b) p (inr h) = inr (there b p.1 h)
    there (rel_not a) p h = λ k. h (back a p k)

    back : (rel : RelTree) → IsPlacedRel l rel → HoldsAt l v rel → Holds rel env
    back rel_true p h = h
    back rel_false p h = h
    back (rel_compare o a b) p h = rw (val-agrees l env v g a p.0.0, val-agrees l env v g b p.1.0) h
    back (rel_same_set a b) p h = (g.same a b p.0 p.1).1 h
    back (rel_other_set a b) p h = (g.other a b p.0 p.1).1 h
    back (rel_subset a b) p h = (g.subset a b p.0 p.1).1 h
    back (rel_divides k t) p h = (h.0, val-agrees l env v g t p.1 ∙ h.1)
    back (rel_and a b) p h = (back a p.0 h.0, back b p.1 h.1)
    back (rel_or a b) p (inl h) = inl (back a p.0 h)
    back (rel_or a b) p (inr h) = inr (back b p.1 h)
    back (rel_not a) p h = λ k. h (there a p k)

  pub over_counts : (rel : RelTree) → IsPlacedRel l rel → Holds rel env ↔ HoldsAt l v rel
  over_counts rel p = (there rel p, back rel p)

pub holds_by_counts : HoldsByCounts
holds_by_counts scope outs rel typed linear env xs h k =
    let l = layout_of scope outs rel in
    let v = column_values l (env ++ xs) in
    let s = sets_have_counts scope outs rel env xs h k v (λ c i. refl) in
    over_counts l (env ++ xs) v (forms_at scope outs env xs h k l v s.0) rel (placed-rel scope outs rel typed linear)

-- A relation never holds where it never does over the counts of the regions of its sets.
use Rattle.std.proofs.Common.{◌≡◌, List, [], ◌∷◌, ◌++◌, length}
use Rattle.std.specs.Prelude.{Result, Ok, Err, IfOk}
use Rattle.cf_tree.specs.declared.base.Base.{Base}
use Rattle.cf_tree.specs.RelTree.{RelTree}
use Rattle.cf_tree.specs.Relation.{Holds, IsTyped, IsLinear}
use Rattle.cf_tree.specs.Values.{Value, HaveBases}
use Rattle.cf_linear.specs.Layout.{Layout, layout_of}
use Rattle.cf_choose.specs.declared.fault.ChooseFault.{ChooseFault}
use Rattle.cf_guide.specs.declared.guide.Outcome.{Outcome}
use Rattle.cf_guide.specs.declared.guide.Outcome.TheVariants.{Closed}
use Rattle.cf_counts.specs.Counted.{over_counts, count_bases}
use Rattle.cf_counts.proofs.CountLaws.{counts_hold}
use Rattle.cf_read.specs.Reading.{NeverHolds}

never_over : (bases : List Base) (rel : RelTree) → IsTyped bases rel → IsLinear rel →
    NeverHolds bases (count_bases (layout_of bases [] rel)) (over_counts (layout_of bases [] rel) (length bases) rel) → NeverHolds [] bases rel
never_over bases rel typed linear n = record { never = from }
  where
    from : (env xs : List Value) → HaveBases [] env → HaveBases bases xs → Holds rel (env ++ xs) → ⊥
    from [] xs e h holds = let c = counts_hold bases rel typed linear xs h holds in n.never xs c.0 h c.1 c.2
    from (v ∷ env) xs e h holds = absurd e

module _ (bases : List Base) (rel counted : RelTree) (l : Layout) where
  pub counted_never : IsTyped bases rel → IsLinear rel → l ≡ layout_of bases [] rel → counted ≡ over_counts l (length bases) rel →
      NeverHolds bases (count_bases l) counted → NeverHolds [] bases rel
  counted_never typed linear same is n = never_over bases rel typed linear (rw (is, same) at n)

  -- what a search over counts says
  pub counted_outcome : IsTyped bases rel → IsLinear rel → l ≡ layout_of bases [] rel → counted ≡ over_counts l (length bases) rel →
      (r : Result Outcome ChooseFault) → IfOk r (λ o. o ≡ Closed → NeverHolds bases (count_bases l) counted) →
      IfOk r (λ o. o ≡ Closed → NeverHolds [] bases rel)
  counted_outcome typed linear same is (Ok o) h = λ e. counted_never typed linear same is (h e)
  counted_outcome typed linear same is (Err f) h = tt

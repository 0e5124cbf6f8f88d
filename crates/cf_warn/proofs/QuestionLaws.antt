-- The written question is that of the definition.
use Rattle.std.proofs.Common.{◌≡◌, ℕ, ◌+◌, ◌-◌, List, [], ◌++◌, length, map, take, replicate, ap, ap₂, ◌∙◌, take_all, arith}
use Rattle.std.proofs.lemmas.List.{length-map}
use Rattle.cf_tree.specs.declared.base.Base.{Base}
use Rattle.cf_tree.specs.declared.base.Base.TheVariants.{Int}
use Rattle.cf_tree.specs.RelTree.{RelTree}
use Rattle.cf_tree.specs.RelView.{term_tree, rel_tree}
use Rattle.cf_linear.specs.Layout.{Layout, layout_of, place}
use Rattle.cf_warn.specs.declared.draft.Draft.{Draft as DeclaredDraft}
use Rattle.cf_warn.specs.Missing.{Forms, first_forms, turns, lets_in, turns_say, traced, none_outputs}
use Rattle.cf_warn.specs.Questions.{parameters, base_at}
use Rattle.cf_warn.specs.Writing.{first_list, listed, first_of, IsWritten, all_say}

module _ (scope outputs : List Base) (rel : RelTree) where
  abbrev params : List ℕ
  params = parameters scope rel

  abbrev all : ℕ
  all = lets_in (turns (traced scope outputs rel))

  -- what is said from nothing on
  pub said_all : (d e : DeclaredDraft) (l : Layout) (ps : List ℕ) → ps ≡ params → l ≡ layout_of scope outputs rel →
      map term_tree d.forms.first.items ≡ first_list l (λ x. place x ps) → d.level ≡ length ps → d.says.items ≡ [] →
      IsWritten d e (turns (traced scope outputs rel)) → map rel_tree e.says.items ≡ all_say scope outputs rel
  said_all d e l ps p k f n z w =
      let ts = turns (traced scope outputs rel) in
      let forms : first_of d.forms ≡ first_forms (layout_of scope outputs rel) (λ x. place x params) =
      ap listed (f ∙ ap (λ qs. first_list l (λ x. place x qs)) p ∙ ap (λ m. first_list m (λ x. place x params)) k) in
      w.says ∙ ap (λ rs. map rel_tree rs ++ turns_say (first_of d.forms) d.level ts) z
      ∙ ap (λ (g : Forms). turns_say g d.level ts) forms
      ∙ ap (λ m. turns_say (first_forms (layout_of scope outputs rel) (λ x. place x params)) m ts) (n ∙ ap (λ qs. length qs) p)

  -- the bases of the parameters, and one number for each let
  pub outputs_are : (ps : List ℕ) (bases next : List Base) (level : ℕ) → ps ≡ params → bases ≡ map (base_at scope) ps → level ≡ length ps + all →
      next ≡ take level bases ++ replicate (level - length bases) Int → next ≡ none_outputs scope outputs rel
  outputs_are ps bases next level p b l n =
      let size : length bases ≡ length ps = ap (λ bs. length bs) b ∙ length-map ps (base_at scope) in
      let k : level - length bases ≡ all = omega arith in
      n ∙ ap₂ (λ bs cs. bs ++ cs) (take_all level bases (omega arith) ∙ b ∙ ap (map (base_at scope)) p) (ap (λ m. replicate m Int) k)

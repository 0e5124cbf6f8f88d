-- Copies of a formula's members, one after the other.
use Rattle.std.proofs.Common.{◌≡◌, List, [], ◌∷◌, ◌++◌, refl, sym, ◌∙◌, ap, append_assoc}
use Rattle.cf_formula.specs.declared.formula.Formula.{Formula as DeclaredFormula}
use Rattle.cf_formula.specs.Formulas.{Formula, both, either}
use Rattle.cf_formula.specs.FormulaView.{formula_tree, formula_trees}
use Rattle.cf_formula.specs.Members.{all_of, any_of}
use Rattle.cf_formula.proofs.FormulaLists.{all_last, any_last, trees-append}

module _ (join : List Formula → Formula) (two : Formula → Formula → Formula)
    (joins : (fs : List Formula) (f g : Formula) → join (fs ++ (two f g ∷ [])) ≡ join (fs ++ (f ∷ g ∷ []))) where
  next_part : (parts next : List DeclaredFormula) (x : DeclaredFormula) (a b left target : Formula) → left ≡ two a b → formula_tree x ≡ a →
      next ≡ parts ++ (x ∷ []) → join (formula_trees parts ++ (left ∷ [])) ≡ target → join (formula_trees next ++ (b ∷ [])) ≡ target
  next_part parts next x a b left target l e n inv =
      ap (λ ts. join (ts ++ (b ∷ []))) (ap formula_trees n ∙ trees-append parts (x ∷ []) ∙ ap (λ t. formula_trees parts ++ (t ∷ [])) e) ∙
      ap join (append_assoc (formula_trees parts) (a ∷ []) (b ∷ [])) ∙ sym (joins (formula_trees parts) a b) ∙
      ap (λ t. join (formula_trees parts ++ (t ∷ []))) (sym l) ∙ inv

pub and_first : (none parts : List DeclaredFormula) (x : DeclaredFormula) (a b : Formula) → none ≡ [] → parts ≡ none ++ (x ∷ []) → formula_tree x ≡ a →
    all_of (formula_trees parts ++ (b ∷ [])) ≡ both a b
and_first none parts x a b e n h = rw (n, e, h) refl

pub or_first : (none parts : List DeclaredFormula) (x : DeclaredFormula) (a b : Formula) → none ≡ [] → parts ≡ none ++ (x ∷ []) → formula_tree x ≡ a →
    any_of (formula_trees parts ++ (b ∷ [])) ≡ either a b
or_first none parts x a b e n h = rw (n, e, h) refl

pub and_next : (parts next : List DeclaredFormula) (x : DeclaredFormula) (a b left target : Formula) → left ≡ both a b → formula_tree x ≡ a →
    next ≡ parts ++ (x ∷ []) → all_of (formula_trees parts ++ (left ∷ [])) ≡ target → all_of (formula_trees next ++ (b ∷ [])) ≡ target
and_next = next_part all_of both all_last

pub or_next : (parts next : List DeclaredFormula) (x : DeclaredFormula) (a b left target : Formula) → left ≡ either a b → formula_tree x ≡ a →
    next ≡ parts ++ (x ∷ []) → any_of (formula_trees parts ++ (left ∷ [])) ≡ target → any_of (formula_trees next ++ (b ∷ [])) ≡ target
or_next = next_part any_of either any_last

-- Members of formulas, one behind the other.
use Rattle.std.proofs.Common.{◌≡◌, ℕ, suc, ◌<◌, arith, List, [], ◌∷◌, ◌++◌, map, Bool, false, not, refl, sym, ◌∙◌, ap, append_assoc, get_or, take, length, ◌+◌, reverse}
use Rattle.std.specs.Prelude.{filter}
use Rattle.std.specs.List.{flat_map}
use Rattle.std.proofs.lemmas.List.{append-nil}
use Rattle.cf_formula.specs.declared.formula.Formula.{Formula as DeclaredFormula}
use Rattle.cf_formula.specs.Formulas.{Formula, always, never, at_least, equal, both, either}
use Rattle.cf_formula.specs.FormulaView.{formula_tree, formula_trees, size, size_of_all, IsSplit}
use Rattle.cf_formula.specs.Members.{conjuncts, disjuncts, is_among, is_needless_or, and_of, is_needless_and, is_covered, or_of, unmarked, all_of, any_of}
use Rattle.cf_formula.proofs.FormulaLists.{last_next, all_left, place_tree, unmarked_are}

pub some_size : (f : Formula) → 0 < size f
some_size always = omega arith
some_size never = omega arith
some_size (at_least r) = omega arith
some_size (equal r) = omega arith
some_size (both f g) = omega arith
some_size (either f g) = omega arith

-- ---- one formula, or its parts
module _ (members : Formula → List Formula) where
  pub none_left : (f : Formula) (left out : List DeclaredFormula) → members f ≡ [] → IsSplit members f left left out out
  none_left f left out e =
      let p = some_size f in record {
        same = ap (λ s. formula_trees out ++ (s ++ flat_map members (formula_trees (reverse left)))) (sym e);
        fewer = omega arith;
      }

  pub one_out : (f : Formula) (left out next : List DeclaredFormula) → members f ≡ f ∷ [] → formula_trees next ≡ formula_trees out ++ (f ∷ []) →
      IsSplit members f left left out next
  one_out f left out next e n =
      let p = some_size f in
      let rest = flat_map members (formula_trees (reverse left)) in record {
        same = ap (λ s. s ++ rest) n ∙ append_assoc (formula_trees out) (f ∷ []) rest ∙ ap (λ s. formula_trees out ++ (s ++ rest)) (sym e);
        fewer = omega arith;
      }

  two_left : (f : Formula) (x y : DeclaredFormula) (before mid left out : List DeclaredFormula) →
      members f ≡ members (formula_tree x) ++ members (formula_tree y) → size f ≡ suc (size (formula_tree x) + size (formula_tree y)) →
      mid ≡ before ++ (y ∷ []) → left ≡ mid ++ (x ∷ []) → IsSplit members f before left out out
  two_left f x y before mid left out e s m l =
      let ts = formula_trees (reverse before) in
      let k : formula_trees (reverse left) ≡ formula_tree x ∷ formula_tree y ∷ ts =
      last_next left mid x l ∙ ap (λ gs. formula_tree x ∷ gs) (last_next mid before y m) in
      let n : size_of_all (formula_trees (reverse left)) ≡ size (formula_tree x) + (size (formula_tree y) + size_of_all ts) = ap size_of_all k in record {
        same = ap (λ gs. formula_trees out ++ flat_map members gs) k ∙
            ap (λ gs. formula_trees out ++ gs)
            (sym (append_assoc (members (formula_tree x)) (members (formula_tree y)) (flat_map members ts)) ∙ ap (λ gs. gs ++ flat_map members ts) (sym e));
        fewer = omega arith;
      }

pub both_and : (x y : DeclaredFormula) (before mid left out : List DeclaredFormula) → mid ≡ before ++ (y ∷ []) → left ≡ mid ++ (x ∷ []) →
    IsSplit conjuncts (both (formula_tree x) (formula_tree y)) before left out out
both_and x y before mid left out m l = two_left conjuncts (both (formula_tree x) (formula_tree y)) x y before mid left out refl refl m l

pub either_or : (x y : DeclaredFormula) (before mid left out : List DeclaredFormula) → mid ≡ before ++ (y ∷ []) → left ≡ mid ++ (x ∷ []) →
    IsSplit disjuncts (either (formula_tree x) (formula_tree y)) before left out out
either_or x y before mid left out m l = two_left disjuncts (either (formula_tree x) (formula_tree y)) x y before mid left out refl refl m l

-- ---- the members of part after part
pub one_disjuncts : (f : DeclaredFormula) (parts : List DeclaredFormula) → parts ≡ f ∷ [] →
    flat_map disjuncts (formula_trees parts) ≡ disjuncts (formula_tree f)
one_disjuncts f parts e = ap (λ fs. flat_map disjuncts (formula_trees fs)) e ∙ append-nil (disjuncts (formula_tree f))

module _ (members : Formula → List Formula) where
  pub flat_start : (parts left : List DeclaredFormula) (out : List DeclaredFormula) → left ≡ reverse parts → out ≡ [] →
      formula_trees out ++ flat_map members (formula_trees (reverse left)) ≡ flat_map members (formula_trees parts)
  flat_start parts left out e f = rw (f, all_left parts left e) refl

  pub flat_step : (before popped left out next : List DeclaredFormula) (f : DeclaredFormula) (target : List Formula) → before ≡ popped ++ (f ∷ []) →
      IsSplit members (formula_tree f) popped left out next →
      formula_trees out ++ flat_map members (formula_trees (reverse before)) ≡ target →
      formula_trees next ++ flat_map members (formula_trees (reverse left)) ≡ target
  flat_step before popped left out next f target e n inv =
      n.same ∙ ap (λ s. formula_trees out ++ flat_map members s) (sym (last_next before popped f e)) ∙ inv

  pub flat_done : (left out : List DeclaredFormula) (target : List Formula) → left ≡ [] →
      formula_trees out ++ flat_map members (formula_trees (reverse left)) ≡ target → formula_trees out ≡ target
  flat_done left out target e inv =
      sym (append-nil (formula_trees out)) ∙ ap (λ s. formula_trees out ++ flat_map members (formula_trees (reverse s))) (sym e) ∙ inv

-- ---- of each member a mark
pub mark_step : (p : Formula → Bool) (fs : List DeclaredFormula) (marks next : List Bool) (i : ℕ) (f : DeclaredFormula) (b : Bool) → i < length fs →
    f ≡ get_or fs i f →
    next ≡ marks ++ (b ∷ []) → b ≡ p (formula_tree f) → marks ≡ map p (formula_trees (take i fs)) → next ≡ map p (formula_trees (take (i + 1) fs))
mark_step p fs marks next i f b h e n g inv =
    n ∙ ap (λ s. s ++ (b ∷ [])) inv ∙ ap (λ c. map p (formula_trees (take i fs)) ++ (c ∷ [])) g ∙
    one_more (formula_trees (take i fs)) (formula_tree f) ∙ ap (map p) (sym (place_tree fs i f h e))
  where
    one_more : (ts : List Formula) (t : Formula) → map p ts ++ (p t ∷ []) ≡ map p (ts ++ (t ∷ []))
    one_more [] t = refl
    one_more (u ∷ ts) t = ap (λ s. p u ∷ s) (one_more ts t)

-- ---- without those that are marked
pub kept_are : (p : List Formula → Formula → Bool) (fs same : List DeclaredFormula) (ns : List Formula) (marks given : List Bool) → same ≡ fs →
    given ≡ map (p (formula_trees same)) (formula_trees same) → marks ≡ given → ns ≡ unmarked marks (formula_trees fs) →
    ns ≡ filter (λ f. not (p (formula_trees fs) f)) (formula_trees fs)
kept_are p fs same ns marks given e m d n =
    n ∙ ap (λ bs. unmarked bs (formula_trees fs)) (d ∙ m ∙ ap (λ gs. map (p (formula_trees gs)) (formula_trees gs)) e) ∙
    unmarked_are (p (formula_trees fs)) (formula_trees fs)

pub needed_or : (ts : List Formula) → is_among ts never ≡ false → all_of (filter (λ h. not (is_needless_or ts h)) ts) ≡ and_of ts
needed_or ts e = rw e refl

pub needed_and : (ts : List Formula) → is_covered ts ≡ false → any_of (filter (λ h. not (is_needless_and ts h)) ts) ≡ or_of ts
needed_and ts e = rw e refl

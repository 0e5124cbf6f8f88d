-- Conditions that are written anew, list by list.
use Rattle.std.proofs.Common.{◌≡◌, ◌+◌, arith, reverse, List, [], ◌∷◌, ◌++◌, map, Bool, false, refl, sym, ◌∙◌, ap}
use Rattle.std.specs.List.{list_any}
use Rattle.cf_linear.specs.Rows.{Row}
use Rattle.cf_formula.specs.Atoms.{ge, eq}
use Rattle.cf_formula.specs.declared.formula.Formula.{Formula as DeclaredFormula}
use Rattle.cf_formula.specs.ConditionsView.{IsAdded}
use Rattle.cf_formula.specs.FormulaView.{formula_tree, formula_trees, size, size_of_all}
use Rattle.cf_formula.specs.Formulas.{Formula, both}
use Rattle.cf_formula.specs.Rewriting.{with_rows, some_atom}
use Rattle.cf_formula.specs.States.{Conditions, add, add_all, changed, some_row, nothing_but}
use Rattle.cf_formula.proofs.FormulaLists.{last_next}
use Rattle.cf_formula.proofs.MemberCode.{some_size}

add_all-append : (fs gs : List Formula) (c : Conditions) → add_all (fs ++ gs) c ≡ add_all gs (add_all fs c)
add_all-append [] gs c = refl
add_all-append (f ∷ fs) gs c = add_all-append fs gs (add f c)

-- equations, inequalities and then formulas
pub all_put : (change : Row → Row) (c a b d n : Conditions) → n ≡ nothing_but c.dead →
    a ≡ add_all (map (λ r. eq (change r)) c.equations) n → b ≡ add_all (map (λ r. ge (change r)) c.inequalities) a →
    d ≡ add_all (map (with_rows change) c.pending) b → d ≡ changed change c
all_put change c a b d n e f g h =
    let es = map (λ r. eq (change r)) c.equations in
    let is = map (λ r. ge (change r)) c.inequalities in
    let ps = map (with_rows change) c.pending in
    h ∙ ap (add_all ps) (g ∙ ap (add_all is) (f ∙ ap (add_all es) e)) ∙
    sym (add_all-append es (is ++ ps) (nothing_but c.dead) ∙ add_all-append is ps (add_all es (nothing_but c.dead)))

pub all_lists_put : (change : Row → Row) (p : Row → Bool) (c n a b d : Conditions) (es is : List Row) (ps : List Formula) → n ≡ nothing_but c.dead →
    es ≡ c.equations → is ≡ c.inequalities → ps ≡ c.pending →
    (a ≡ add_all (map (λ r. eq (change r)) es) n) × (list_any p es ≡ false) →
    (b ≡ add_all (map (λ r. ge (change r)) is) a) × (list_any p is ≡ false) →
    (d ≡ add_all (map (with_rows change) ps) b) × (list_any (some_atom p) ps ≡ false) →
    (d ≡ changed change c) × (some_row p c ≡ false)
all_lists_put change p c n a b d es is ps k e f g x y z =
    let u : list_any p c.equations ≡ false = ap (list_any p) (sym e) ∙ x.1 in
    let v : list_any p c.inequalities ≡ false = ap (list_any p) (sym f) ∙ y.1 in
    let w : list_any (some_atom p) c.pending ≡ false = ap (list_any (some_atom p)) (sym g) ∙ z.1 in (
      all_put change c a b d n k (x.0 ∙ ap (λ s. add_all (map (λ r. eq (change r)) s) n) e) (y.0 ∙ ap (λ s. add_all (map (λ r. ge (change r)) s) a) f)
          (z.0 ∙ ap (λ s. add_all (map (with_rows change) s) b) g),
      rw (u, v, w) refl,
    )

-- ---- part after part of what is added
pub part_added : (f : Formula) (left : List DeclaredFormula) (c d : Conditions) → d ≡ add f c → IsAdded f left left c d
part_added f left c d e = let p = some_size f in record { same = ap (add_all (formula_trees (reverse left))) e; fewer = omega arith }

pub parts_left : (x y : DeclaredFormula) (before mid left : List DeclaredFormula) (c : Conditions) → mid ≡ before ++ (y ∷ []) → left ≡ mid ++ (x ∷ []) →
    IsAdded (both (formula_tree x) (formula_tree y)) before left c c
parts_left x y before mid left c m l =
    let ts = formula_trees (reverse before) in
    let k : formula_trees (reverse left) ≡ formula_tree x ∷ formula_tree y ∷ ts =
    last_next left mid x l ∙ ap (λ gs. formula_tree x ∷ gs) (last_next mid before y m) in
    let n : size_of_all (formula_trees (reverse left)) ≡ size (formula_tree x) + (size (formula_tree y) + size_of_all ts) = ap size_of_all k in
    record { same = ap (λ gs. add_all gs c) k; fewer = omega arith }

pub parts_start : (f : Formula) (before left : List DeclaredFormula) (c d : Conditions) → before ≡ [] → IsAdded f before left c d →
    add_all (formula_trees (reverse left)) d ≡ add f c
parts_start f before left c d e n = n.same ∙ ap (λ fs. add_all (formula_trees (reverse fs)) (add f c)) e

pub parts_done : (left : List DeclaredFormula) (c target : Conditions) → left ≡ [] → add_all (formula_trees (reverse left)) c ≡ target → c ≡ target
parts_done left c target e inv = ap (λ fs. add_all (formula_trees (reverse fs)) c) (sym e) ∙ inv

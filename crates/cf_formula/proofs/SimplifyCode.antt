-- Rounds, one after the other.
use Rattle.std.proofs.Common.{◌≡◌, ℕ, zero, suc, ◌+◌, ◌-◌, ◌<◌, ◌≤◌, ◌≢◌, List, [], ◌∷◌, ◌++◌, true, false, ◌&&◌, ◌||◌, refl, sym, ◌∙◌, ap, arith, append_assoc, add-one, get_or, length, drop, drop-cons, reverse}
use Rattle.std.proofs.Math.ListN.{drop_of_length-le}
use Rattle.cf_linear.specs.Rows.{Row}
use Rattle.cf_linear.proofs.BoolLemmas.{on_bool}
use Rattle.cf_formula.specs.declared.formula.Formula.{Formula as DeclaredFormula}
use Rattle.cf_formula.specs.FormulaView.{formula_tree, formula_trees}
use Rattle.cf_formula.specs.Members.{same_formula}
use Rattle.cf_formula.specs.Simplifying.{add_while, same_formulas, settled_once, settled_all, is_refuted, round, is_last, atoms_of_all, simplified, simplified_within}
use Rattle.cf_formula.specs.States.{Conditions, add, killed}
use Rattle.cf_formula.proofs.FormulaLists.{last_next, all_left}

-- ---- rounds
pub as_many : (facts : List Row) (c : Conditions) (n : ℕ) → n ≡ atoms_of_all c.pending + 1 → simplified_within n facts c ≡ simplified facts c
as_many facts c n e = rw (e, add-one) refl

pub no_round : (facts : List Row) (c : Conditions) (n : ℕ) → n ≡ 0 → simplified_within n facts c ≡ c
no_round facts c n e = rw e refl

pub last_round : (facts : List Row) (c : Conditions) (n : ℕ) → 0 < n → is_last facts c ≡ true → simplified_within n facts c ≡ round facts c
last_round facts c zero h e = absurd (omega arith)
last_round facts c (suc n) h e =
    on_bool (is_refuted facts c) (λ t. rw t refl)
    (λ t. let l : ((settled_once facts c).dead || same_formulas (settled_all facts c) c.pending) ≡ true = rw t at e in rw (t, l) refl)

pub next_round : (facts : List Row) (c : Conditions) (n : ℕ) → 0 < n → is_last facts c ≡ false →
    simplified_within n facts c ≡ simplified_within (n - 1) facts (round facts c)
next_round facts c zero h e = absurd (omega arith)
next_round facts c (suc n) h e =
    let s : suc n - 1 ≡ n = omega arith in
    on_bool (is_refuted facts c) (λ t. let f : true ≡ false = rw t at e in cc f)
    (λ t. let l : ((settled_once facts c).dead || same_formulas (settled_all facts c) c.pending) ≡ false = rw t at e in rw (s, t, l) refl)

pub refuted_round : (facts : List Row) (c : Conditions) → is_refuted facts c ≡ true → (killed c ≡ round facts c) × (true ≡ is_last facts c)
refuted_round facts c e = (rw e refl, rw e refl)

pub settled_round : (facts : List Row) (c : Conditions) → is_refuted facts c ≡ false → (settled_once facts c ≡ round facts c) ×
    (((settled_once facts c).dead || same_formulas (settled_all facts c) c.pending) ≡ is_last facts c)
settled_round facts c e = (rw e refl, rw e refl)

-- ---- rows that are known
pub all_known : (facts is es ns : List Row) (a b d f : List Row) → a ≡ facts → b ≡ a ++ is → d ≡ b ++ es → f ≡ d ++ ns → f ≡ facts ++ (is ++ (es ++ ns))
all_known facts is es ns a b d f e g h i =
    i ∙ ap (λ s. s ++ ns) (h ∙ ap (λ s. s ++ es) (g ∙ ap (λ s. s ++ is) e)) ∙
    append_assoc (facts ++ is) es ns ∙ append_assoc facts is (es ++ ns)

-- ---- lists of formulas compared
both_at : (fs gs : List DeclaredFormula) (i : ℕ) (f g : DeclaredFormula) → i < length fs → i < length gs → f ≡ get_or fs i f → g ≡ get_or gs i g →
    same_formulas (formula_trees (drop i fs)) (formula_trees (drop i gs)) ≡
    (same_formula (formula_tree f) (formula_tree g) && same_formulas (formula_trees (drop (i + 1) fs)) (formula_trees (drop (i + 1) gs)))
both_at fs gs i f g h k e n =
    rw (add-one, drop-cons fs i f, drop-cons gs i g)
    (ap (λ a. same_formula (formula_tree a) (formula_tree (get_or gs i g)) && same_formulas (formula_trees (drop (suc i) fs)) (formula_trees (drop (suc i) gs)))
    (sym e) ∙
    ap (λ b. same_formula (formula_tree f) (formula_tree b) && same_formulas (formula_trees (drop (suc i) fs)) (formula_trees (drop (suc i) gs))) (sym n))

pub same_next : (fs gs : List DeclaredFormula) (i : ℕ) (f g : DeclaredFormula) → i < length fs → i < length gs → f ≡ get_or fs i f → g ≡ get_or gs i g →
    same_formulas (formula_trees (drop i fs)) (formula_trees (drop i gs)) ≡
    (same_formula (formula_tree f) (formula_tree g) && same_formulas (formula_trees (drop (i + 1) fs)) (formula_trees (drop (i + 1) gs)))
same_next = both_at

pub same_end : (fs gs : List DeclaredFormula) (i : ℕ) → length fs ≤ i → length fs ≡ length gs →
    true ≡ same_formulas (formula_trees (drop i fs)) (formula_trees (drop i gs))
same_end fs gs i h e = let k : length gs ≤ i = omega arith in rw (drop_of_length-le fs h, drop_of_length-le gs k) refl

pub other_length : (fs gs : List DeclaredFormula) → length fs ≢ length gs → false ≡ same_formulas (formula_trees fs) (formula_trees gs)
other_length [] [] n = absurd (n refl)
other_length [] (g ∷ gs) n = refl
other_length (f ∷ fs) [] n = refl
other_length (f ∷ fs) (g ∷ gs) n =
    let i = other_length fs gs (λ e. n (ap suc e)) in
    on_bool (same_formula (formula_tree f) (formula_tree g)) (λ t. rw t i) (λ t. rw t refl)

-- ---- up to the first that is never true
pub while_start : (fs left : List DeclaredFormula) (c : Conditions) → left ≡ reverse fs →
    add_while (formula_trees (reverse left)) c ≡ add_while (formula_trees fs) c
while_start fs left c e = ap (λ ts. add_while ts c) (all_left fs left e)

pub while_next : (before left : List DeclaredFormula) (f : DeclaredFormula) (c d target : Conditions) → before ≡ left ++ (f ∷ []) →
    d ≡ add (formula_tree f) c → d.dead ≡ false → add_while (formula_trees (reverse before)) c ≡ target →
    add_while (formula_trees (reverse left)) d ≡ target
while_next before left f c d target e n a inv =
    let b : (add (formula_tree f) c).dead ≡ false = ap (λ k. k.dead) (sym n) ∙ a in
    let s : add_while (formula_tree f ∷ formula_trees (reverse left)) c ≡ add_while (formula_trees (reverse left)) (add (formula_tree f) c) = rw b refl in
    ap (add_while (formula_trees (reverse left))) n ∙ sym s ∙ sym (ap (λ ts. add_while ts c) (last_next before left f e)) ∙ inv

pub while_dead : (before left : List DeclaredFormula) (f : DeclaredFormula) (c d target : Conditions) → before ≡ left ++ (f ∷ []) →
    d ≡ add (formula_tree f) c → d.dead ≡ true → add_while (formula_trees (reverse before)) c ≡ target → d ≡ target
while_dead before left f c d target e n a inv =
    let b : (add (formula_tree f) c).dead ≡ true = ap (λ k. k.dead) (sym n) ∙ a in
    let s : add_while (formula_tree f ∷ formula_trees (reverse left)) c ≡ add (formula_tree f) c = rw b refl in
    n ∙ sym s ∙ sym (ap (λ ts. add_while ts c) (last_next before left f e)) ∙ inv

pub while_done : (left : List DeclaredFormula) (c target : Conditions) → left ≡ [] → add_while (formula_trees (reverse left)) c ≡ target → c ≡ target
while_done left c target e inv = ap (λ fs. add_while (formula_trees (reverse fs)) c) (sym e) ∙ inv

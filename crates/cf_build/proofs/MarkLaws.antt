-- Chooses with the same marks have the same solve.
use Rattle.std.proofs.Common.{◌≡◌, List, [], ◌∷◌, ◌++◌, refl, sym, ◌∙◌, ap, ap₂, subst, append_assoc}
use Rattle.std.proofs.lemmas.List.{append-nil}
use Rattle.cf_tree.specs.declared.base.Base.{Base}
use Rattle.cf_tree.specs.ChooseTree.{ChooseTree}
use Rattle.cf_tree.specs.RelTree.{SetTree, empty_set, set_var, union_of, inter_of, diff_of, TermTree, term_lit, term_var, term_card, term_neg, term_add, term_sub, term_mul, term_div, term_mod, term_abs, RelTree, rel_true, rel_false, rel_compare, rel_same_set, rel_other_set, rel_subset, rel_divides, rel_and, rel_or, rel_not}
use Rattle.cf_build.specs.declared.same.Mark.{Mark}
use Rattle.cf_build.specs.declared.same.Form.TheVariants.{True, False, SameSet, OtherSet, Subset, And, Or, Not, Card, Neg, Add, Sub, Mul, Abs, Empty, Union, Inter, Diff, End}
use Rattle.cf_build.specs.declared.same.Mark.TheVariants.{Form, Number, Of, Lit, Var, SetVar, Div, Mod, Compare, Divides}
use Rattle.cf_build.specs.Chooses.{solve_of}
use Rattle.cf_build.specs.Marks.{set_marks, term_marks, rel_marks, bases_marks, choose_marks}

-- ---- what begins with a mark, where s stands behind it
abbrev Leaf : {T : Type 0} → T → T → List Mark → List Mark → Type 0
Leaf c whole s ms = (c ≡ whole) × (ms ≡ s)

-- a form with one part, and with two, where the parts have these marks
abbrev One : {P T : Type 0} → (P → List Mark) → (P → T) → T → List Mark → List Mark → Type 0
One {P} marks f c s ms = (a : P) × (c ≡ f a) × (ms ≡ marks a ++ s)

abbrev Two : {P T : Type 0} → (P → List Mark) → (P → P → T) → T → List Mark → List Mark → Type 0
Two {P} marks f c s ms = (a : P) × (b : P) × (c ≡ f a b) × (ms ≡ (marks a ++ marks b) ++ s)

abbrev SetBegins : Mark → SetTree → List Mark → List Mark → Type 0
SetBegins (Form Empty) c s ms = Leaf c empty_set s ms
SetBegins (SetVar x) c s ms = Leaf c (set_var x) s ms
SetBegins (Form Union) c s ms = Two set_marks union_of c s ms
SetBegins (Form Inter) c s ms = Two set_marks inter_of c s ms
SetBegins (Form Diff) c s ms = Two set_marks diff_of c s ms
SetBegins n c s ms = ⊥

abbrev TermBegins : Mark → TermTree → List Mark → List Mark → Type 0
TermBegins (Lit x) c s ms = Leaf c (term_lit x) s ms
TermBegins (Var x) c s ms = Leaf c (term_var x) s ms
TermBegins (Form Card) c s ms = One set_marks term_card c s ms
TermBegins (Form Neg) c s ms = One term_marks term_neg c s ms
TermBegins (Form Add) c s ms = Two term_marks term_add c s ms
TermBegins (Form Sub) c s ms = Two term_marks term_sub c s ms
TermBegins (Form Mul) c s ms = Two term_marks term_mul c s ms
TermBegins (Div k) c s ms = One term_marks (λ a. term_div a k) c s ms
TermBegins (Mod k) c s ms = One term_marks (λ a. term_mod a k) c s ms
TermBegins (Form Abs) c s ms = One term_marks term_abs c s ms
TermBegins n c s ms = ⊥

abbrev RelBegins : Mark → RelTree → List Mark → List Mark → Type 0
RelBegins (Form True) c s ms = Leaf c rel_true s ms
RelBegins (Form False) c s ms = Leaf c rel_false s ms
RelBegins (Compare k) c s ms = Two term_marks (rel_compare k) c s ms
RelBegins (Form SameSet) c s ms = Two set_marks rel_same_set c s ms
RelBegins (Form OtherSet) c s ms = Two set_marks rel_other_set c s ms
RelBegins (Form Subset) c s ms = Two set_marks rel_subset c s ms
RelBegins (Divides k) c s ms = One term_marks (rel_divides k) c s ms
RelBegins (Form And) c s ms = Two rel_marks rel_and c s ms
RelBegins (Form Or) c s ms = Two rel_marks rel_or c s ms
RelBegins (Form Not) c s ms = One rel_marks rel_not c s ms
RelBegins n c s ms = ⊥

abbrev BasesBegin : Mark → List Base → List Mark → List Mark → Type 0
BasesBegin (Of b) bs s ms = (rest : List Base) × (bs ≡ b ∷ rest) × (ms ≡ bases_marks rest ++ s)
BasesBegin (Form End) bs s ms = (bs ≡ []) × (ms ≡ s)
BasesBegin n bs s ms = ⊥

-- what holds of a mark and what follows it holds of equal ones
carried : (P : Mark → List Mark → Type 0) (m n : Mark) (ms ns : List Mark) → m ∷ ms ≡ n ∷ ns → P m ms → P n ns
carried P m n ms ns e h = let q : m ≡ n = cc in let r : ms ≡ ns = cc in subst (λ x. P x ns) q (subst (λ xs. P m xs) r h)

set_begins : (c : SetTree) (s : List Mark) (n : Mark) (ns : List Mark) → set_marks c ++ s ≡ n ∷ ns → SetBegins n c s ns
set_begins empty_set s n ns e = carried (λ y xs. SetBegins y empty_set s xs) (Form Empty) n _ ns e (refl, refl)
set_begins (set_var x) s n ns e = carried (λ y xs. SetBegins y (set_var x) s xs) (SetVar x) n _ ns e (refl, refl)
set_begins (union_of a b) s n ns e = carried (λ y xs. SetBegins y (union_of a b) s xs) (Form Union) n _ ns e (a, b, refl, refl)
set_begins (inter_of a b) s n ns e = carried (λ y xs. SetBegins y (inter_of a b) s xs) (Form Inter) n _ ns e (a, b, refl, refl)
set_begins (diff_of a b) s n ns e = carried (λ y xs. SetBegins y (diff_of a b) s xs) (Form Diff) n _ ns e (a, b, refl, refl)

term_begins : (c : TermTree) (s : List Mark) (n : Mark) (ns : List Mark) → term_marks c ++ s ≡ n ∷ ns → TermBegins n c s ns
term_begins (term_lit x) s n ns e = carried (λ y xs. TermBegins y (term_lit x) s xs) (Lit x) n _ ns e (refl, refl)
term_begins (term_var x) s n ns e = carried (λ y xs. TermBegins y (term_var x) s xs) (Var x) n _ ns e (refl, refl)
term_begins (term_card a) s n ns e = carried (λ y xs. TermBegins y (term_card a) s xs) (Form Card) n _ ns e (a, refl, refl)
term_begins (term_neg a) s n ns e = carried (λ y xs. TermBegins y (term_neg a) s xs) (Form Neg) n _ ns e (a, refl, refl)
term_begins (term_add a b) s n ns e = carried (λ y xs. TermBegins y (term_add a b) s xs) (Form Add) n _ ns e (a, b, refl, refl)
term_begins (term_sub a b) s n ns e = carried (λ y xs. TermBegins y (term_sub a b) s xs) (Form Sub) n _ ns e (a, b, refl, refl)
term_begins (term_mul a b) s n ns e = carried (λ y xs. TermBegins y (term_mul a b) s xs) (Form Mul) n _ ns e (a, b, refl, refl)
term_begins (term_div a k) s n ns e = carried (λ y xs. TermBegins y (term_div a k) s xs) (Div k) n _ ns e (a, refl, refl)
term_begins (term_mod a k) s n ns e = carried (λ y xs. TermBegins y (term_mod a k) s xs) (Mod k) n _ ns e (a, refl, refl)
term_begins (term_abs a) s n ns e = carried (λ y xs. TermBegins y (term_abs a) s xs) (Form Abs) n _ ns e (a, refl, refl)

rel_begins : (c : RelTree) (s : List Mark) (n : Mark) (ns : List Mark) → rel_marks c ++ s ≡ n ∷ ns → RelBegins n c s ns
rel_begins rel_true s n ns e = carried (λ y xs. RelBegins y rel_true s xs) (Form True) n _ ns e (refl, refl)
rel_begins rel_false s n ns e = carried (λ y xs. RelBegins y rel_false s xs) (Form False) n _ ns e (refl, refl)
rel_begins (rel_compare k a b) s n ns e = carried (λ y xs. RelBegins y (rel_compare k a b) s xs) (Compare k) n _ ns e (a, b, refl, refl)
rel_begins (rel_same_set a b) s n ns e = carried (λ y xs. RelBegins y (rel_same_set a b) s xs) (Form SameSet) n _ ns e (a, b, refl, refl)
rel_begins (rel_other_set a b) s n ns e = carried (λ y xs. RelBegins y (rel_other_set a b) s xs) (Form OtherSet) n _ ns e (a, b, refl, refl)
rel_begins (rel_subset a b) s n ns e = carried (λ y xs. RelBegins y (rel_subset a b) s xs) (Form Subset) n _ ns e (a, b, refl, refl)
rel_begins (rel_divides k a) s n ns e = carried (λ y xs. RelBegins y (rel_divides k a) s xs) (Divides k) n _ ns e (a, refl, refl)
rel_begins (rel_and a b) s n ns e = carried (λ y xs. RelBegins y (rel_and a b) s xs) (Form And) n _ ns e (a, b, refl, refl)
rel_begins (rel_or a b) s n ns e = carried (λ y xs. RelBegins y (rel_or a b) s xs) (Form Or) n _ ns e (a, b, refl, refl)
rel_begins (rel_not a) s n ns e = carried (λ y xs. RelBegins y (rel_not a) s xs) (Form Not) n _ ns e (a, refl, refl)

bases_begin : (bs : List Base) (s : List Mark) (n : Mark) (ns : List Mark) → bases_marks bs ++ s ≡ n ∷ ns → BasesBegin n bs s ns
bases_begin [] s n ns e = carried (λ x xs. BasesBegin x [] s xs) (Form End) n _ ns e (refl, refl)
bases_begin (b ∷ bs) s n ns e = carried (λ x xs. BasesBegin x (b ∷ bs) s xs) (Of b) n _ ns e (bs, refl, refl)

-- ---- the first part of two equal lists of marks, and the rest
parted : (a r s b q t : List Mark) → (a ++ r) ++ s ≡ (b ++ q) ++ t → a ++ (r ++ s) ≡ b ++ (q ++ t)
parted a r s b q t e = sym (append_assoc a r s) ∙ e ∙ append_assoc b q t

same_set : (c w : SetTree) (s t : List Mark) → set_marks c ++ s ≡ set_marks w ++ t → (c ≡ w) × (s ≡ t)
same_set empty_set w s t e = let f = set_begins w t (Form Empty) s (sym e) in (sym f.0, f.1)
same_set (set_var x) w s t e = let f = set_begins w t (SetVar x) s (sym e) in (sym f.0, f.1)
same_set (union_of a b) w s t e =
    let f = set_begins w t (Form Union) ((set_marks a ++ set_marks b) ++ s) (sym e) in
    let p = parted (set_marks a) (set_marks b) s (set_marks f.0) (set_marks f.1) t f.3 in
    let g = same_set a f.0 (set_marks b ++ s) (set_marks f.1 ++ t) p in
    let h = same_set b f.1 s t g.1 in
    (ap₂ union_of g.0 h.0 ∙ sym f.2, h.1)
same_set (inter_of a b) w s t e =
    let f = set_begins w t (Form Inter) ((set_marks a ++ set_marks b) ++ s) (sym e) in
    let p = parted (set_marks a) (set_marks b) s (set_marks f.0) (set_marks f.1) t f.3 in
    let g = same_set a f.0 (set_marks b ++ s) (set_marks f.1 ++ t) p in
    let h = same_set b f.1 s t g.1 in
    (ap₂ inter_of g.0 h.0 ∙ sym f.2, h.1)
same_set (diff_of a b) w s t e =
    let f = set_begins w t (Form Diff) ((set_marks a ++ set_marks b) ++ s) (sym e) in
    let p = parted (set_marks a) (set_marks b) s (set_marks f.0) (set_marks f.1) t f.3 in
    let g = same_set a f.0 (set_marks b ++ s) (set_marks f.1 ++ t) p in
    let h = same_set b f.1 s t g.1 in
    (ap₂ diff_of g.0 h.0 ∙ sym f.2, h.1)

same_term : (c w : TermTree) (s t : List Mark) → term_marks c ++ s ≡ term_marks w ++ t → (c ≡ w) × (s ≡ t)
same_term (term_lit x) w s t e = let f = term_begins w t (Lit x) s (sym e) in (sym f.0, f.1)
same_term (term_var x) w s t e = let f = term_begins w t (Var x) s (sym e) in (sym f.0, f.1)
same_term (term_card a) w s t e =
    let f = term_begins w t (Form Card) (set_marks a ++ s) (sym e) in let g = same_set a f.0 s t f.2 in (ap term_card g.0 ∙ sym f.1, g.1)
same_term (term_neg a) w s t e =
    let f = term_begins w t (Form Neg) (term_marks a ++ s) (sym e) in let g = same_term a f.0 s t f.2 in (ap term_neg g.0 ∙ sym f.1, g.1)
same_term (term_add a b) w s t e =
    let f = term_begins w t (Form Add) ((term_marks a ++ term_marks b) ++ s) (sym e) in
    let p = parted (term_marks a) (term_marks b) s (term_marks f.0) (term_marks f.1) t f.3 in
    let g = same_term a f.0 (term_marks b ++ s) (term_marks f.1 ++ t) p in
    let h = same_term b f.1 s t g.1 in
    (ap₂ term_add g.0 h.0 ∙ sym f.2, h.1)
same_term (term_sub a b) w s t e =
    let f = term_begins w t (Form Sub) ((term_marks a ++ term_marks b) ++ s) (sym e) in
    let p = parted (term_marks a) (term_marks b) s (term_marks f.0) (term_marks f.1) t f.3 in
    let g = same_term a f.0 (term_marks b ++ s) (term_marks f.1 ++ t) p in
    let h = same_term b f.1 s t g.1 in
    (ap₂ term_sub g.0 h.0 ∙ sym f.2, h.1)
same_term (term_mul a b) w s t e =
    let f = term_begins w t (Form Mul) ((term_marks a ++ term_marks b) ++ s) (sym e) in
    let p = parted (term_marks a) (term_marks b) s (term_marks f.0) (term_marks f.1) t f.3 in
    let g = same_term a f.0 (term_marks b ++ s) (term_marks f.1 ++ t) p in
    let h = same_term b f.1 s t g.1 in
    (ap₂ term_mul g.0 h.0 ∙ sym f.2, h.1)
same_term (term_div a k) w s t e =
    let f = term_begins w t (Div k) (term_marks a ++ s) (sym e) in let g = same_term a f.0 s t f.2 in (ap (λ a. term_div a k) g.0 ∙ sym f.1, g.1)
same_term (term_mod a k) w s t e =
    let f = term_begins w t (Mod k) (term_marks a ++ s) (sym e) in let g = same_term a f.0 s t f.2 in (ap (λ a. term_mod a k) g.0 ∙ sym f.1, g.1)
same_term (term_abs a) w s t e =
    let f = term_begins w t (Form Abs) (term_marks a ++ s) (sym e) in let g = same_term a f.0 s t f.2 in (ap term_abs g.0 ∙ sym f.1, g.1)

same_rel : (c w : RelTree) (s t : List Mark) → rel_marks c ++ s ≡ rel_marks w ++ t → (c ≡ w) × (s ≡ t)
same_rel rel_true w s t e = let f = rel_begins w t (Form True) s (sym e) in (sym f.0, f.1)
same_rel rel_false w s t e = let f = rel_begins w t (Form False) s (sym e) in (sym f.0, f.1)
same_rel (rel_compare k a b) w s t e =
    let f = rel_begins w t (Compare k) ((term_marks a ++ term_marks b) ++ s) (sym e) in
    let p = parted (term_marks a) (term_marks b) s (term_marks f.0) (term_marks f.1) t f.3 in
    let g = same_term a f.0 (term_marks b ++ s) (term_marks f.1 ++ t) p in
    let h = same_term b f.1 s t g.1 in
    (ap₂ (rel_compare k) g.0 h.0 ∙ sym f.2, h.1)
same_rel (rel_same_set a b) w s t e =
    let f = rel_begins w t (Form SameSet) ((set_marks a ++ set_marks b) ++ s) (sym e) in
    let p = parted (set_marks a) (set_marks b) s (set_marks f.0) (set_marks f.1) t f.3 in
    let g = same_set a f.0 (set_marks b ++ s) (set_marks f.1 ++ t) p in
    let h = same_set b f.1 s t g.1 in
    (ap₂ rel_same_set g.0 h.0 ∙ sym f.2, h.1)
same_rel (rel_other_set a b) w s t e =
    let f = rel_begins w t (Form OtherSet) ((set_marks a ++ set_marks b) ++ s) (sym e) in
    let p = parted (set_marks a) (set_marks b) s (set_marks f.0) (set_marks f.1) t f.3 in
    let g = same_set a f.0 (set_marks b ++ s) (set_marks f.1 ++ t) p in
    let h = same_set b f.1 s t g.1 in
    (ap₂ rel_other_set g.0 h.0 ∙ sym f.2, h.1)
same_rel (rel_subset a b) w s t e =
    let f = rel_begins w t (Form Subset) ((set_marks a ++ set_marks b) ++ s) (sym e) in
    let p = parted (set_marks a) (set_marks b) s (set_marks f.0) (set_marks f.1) t f.3 in
    let g = same_set a f.0 (set_marks b ++ s) (set_marks f.1 ++ t) p in
    let h = same_set b f.1 s t g.1 in
    (ap₂ rel_subset g.0 h.0 ∙ sym f.2, h.1)
same_rel (rel_divides k a) w s t e =
    let f = rel_begins w t (Divides k) (term_marks a ++ s) (sym e) in let g = same_term a f.0 s t f.2 in (ap (rel_divides k) g.0 ∙ sym f.1, g.1)
same_rel (rel_and a b) w s t e =
    let f = rel_begins w t (Form And) ((rel_marks a ++ rel_marks b) ++ s) (sym e) in
    let p = parted (rel_marks a) (rel_marks b) s (rel_marks f.0) (rel_marks f.1) t f.3 in
    let g = same_rel a f.0 (rel_marks b ++ s) (rel_marks f.1 ++ t) p in
    let h = same_rel b f.1 s t g.1 in
    (ap₂ rel_and g.0 h.0 ∙ sym f.2, h.1)
same_rel (rel_or a b) w s t e =
    let f = rel_begins w t (Form Or) ((rel_marks a ++ rel_marks b) ++ s) (sym e) in
    let p = parted (rel_marks a) (rel_marks b) s (rel_marks f.0) (rel_marks f.1) t f.3 in
    let g = same_rel a f.0 (rel_marks b ++ s) (rel_marks f.1 ++ t) p in
    let h = same_rel b f.1 s t g.1 in
    (ap₂ rel_or g.0 h.0 ∙ sym f.2, h.1)
same_rel (rel_not a) w s t e =
    let f = rel_begins w t (Form Not) (rel_marks a ++ s) (sym e) in let g = same_rel a f.0 s t f.2 in (ap rel_not g.0 ∙ sym f.1, g.1)

same_bases : (bs cs : List Base) (s t : List Mark) → bases_marks bs ++ s ≡ bases_marks cs ++ t → (bs ≡ cs) × (s ≡ t)
same_bases [] cs s t e = let f = bases_begin cs t (Form End) s (sym e) in (sym f.0, f.1)
same_bases (b ∷ bs) cs s t e =
    let f = bases_begin cs t (Of b) (bases_marks bs ++ s) (sym e) in let g = same_bases bs f.0 s t f.2 in (ap (λ xs. b ∷ xs) g.0 ∙ sym f.1, g.1)

marks_tell : (r q : RelTree) → rel_marks r ≡ rel_marks q → r ≡ q
marks_tell r q e = (same_rel r q [] [] (append-nil (rel_marks r) ∙ e ∙ sym (append-nil (rel_marks q)))).0

pub marks_number : (p q : ChooseTree) → choose_marks p ≡ choose_marks q → p.number ≡ q.number
marks_number p q e = let n : ◌≡◌ {A = Mark} (Number p.number) (Number q.number) = cc in cc

solves_same : (p q : ChooseTree) → p.number ≡ q.number → p.scope ≡ q.scope → p.outputs ≡ q.outputs → p.relation ≡ q.relation → solve_of p ≡ solve_of q
solves_same p q n s o r = rw (n, s, o, r) refl

pub marks_solve : (p q : ChooseTree) → choose_marks p ≡ choose_marks q → solve_of p ≡ solve_of q
marks_solve p q e =
    let behind : bases_marks p.scope ++ (bases_marks p.outputs ++ rel_marks p.relation)
    ≡ bases_marks q.scope ++ (bases_marks q.outputs ++ rel_marks q.relation) = cc in
    let s = same_bases p.scope q.scope (bases_marks p.outputs ++ rel_marks p.relation) (bases_marks q.outputs ++ rel_marks q.relation) behind in
    let o = same_bases p.outputs q.outputs (rel_marks p.relation) (rel_marks q.relation) s.1 in
    solves_same p q (marks_number p q e) s.0 o.0 (marks_tell p.relation q.relation o.1)

-- Codes with the same marks are the same.
use Rattle.std.proofs.Common.{◌≡◌, ◌↔◌, ℕ, Bool, true, List, [], ◌∷◌, ◌++◌, refl, sym, ◌∙◌, ap, ap₂, subst, append_assoc}
use Rattle.std.proofs.lemmas.List.{append-nil}
use Rattle.cf_tree.specs.CodeTree.{CodeTree, code_lit, code_truth, code_var, code_set_of, code_tuple, code_sum, code_sub, code_mul, code_neg, code_div, code_mod, code_min, code_max, code_compare, code_divides, code_and, code_or, code_not, code_union, code_inter, code_diff, code_subset, code_card, code_slice, code_fresh, code_if, code_let, code_solve, CodeTrees, no_codes, code_more, let_item, need_item, ItemTrees, no_items, item_more, arm_of, ArmTrees, no_arms, arm_more}
use Rattle.cf_cert.specs.declared.marks.Mark.{Mark}
use Rattle.cf_cert.specs.declared.marks.Form.TheVariants.{SetOf, Tuple, Sum, Sub, Mul, Neg, Min, Max, And, Or, Not, Union, Inter, Diff, Subset, Card, Slice, Fresh, If, LetItem, NeedItem, More, End}
use Rattle.cf_cert.specs.declared.marks.Mark.TheVariants.{Form, Lit, Truth, Var, Div, Mod, Compare, Divides, Let, Solve, Bound}
use Rattle.cf_cert.specs.Marks.{bounds_marks, code_marks, codes_marks, items_marks, arms_marks}

-- ---- what begins with a mark, where s stands behind it
abbrev Leaf : CodeTree → CodeTree → List Mark → List Mark → Type 0
Leaf c whole s ms = (c ≡ whole) × (ms ≡ s)

abbrev One : (CodeTree → CodeTree) → CodeTree → List Mark → List Mark → Type 0
One f c s ms = (a : CodeTree) × (c ≡ f a) × (ms ≡ code_marks a ++ s)

abbrev Two : (CodeTree → CodeTree → CodeTree) → CodeTree → List Mark → List Mark → Type 0
Two f c s ms = (a : CodeTree) × (b : CodeTree) × (c ≡ f a b) × (ms ≡ (code_marks a ++ code_marks b) ++ s)

abbrev Three : (CodeTree → CodeTree → CodeTree → CodeTree) → CodeTree → List Mark → List Mark → Type 0
Three f c s ms = (a : CodeTree) × (b : CodeTree) × (d : CodeTree) × (c ≡ f a b d) × (ms ≡ (code_marks a ++ code_marks b ++ code_marks d) ++ s)

abbrev Listed : (CodeTrees → CodeTree) → CodeTree → List Mark → List Mark → Type 0
Listed f c s ms = (cs : CodeTrees) × (c ≡ f cs) × (ms ≡ codes_marks cs ++ s)

abbrev CodeBegins : Mark → CodeTree → List Mark → List Mark → Type 0
CodeBegins (Lit k) c s ms = Leaf c (code_lit k) s ms
CodeBegins (Truth t) c s ms = Leaf c (code_truth t) s ms
CodeBegins (Var x) c s ms = Leaf c (code_var x) s ms
CodeBegins (Form SetOf) c s ms = Listed code_set_of c s ms
CodeBegins (Form Tuple) c s ms = Listed code_tuple c s ms
CodeBegins (Form Sum) c s ms = Listed code_sum c s ms
CodeBegins (Form Sub) c s ms = Two code_sub c s ms
CodeBegins (Form Mul) c s ms = Two code_mul c s ms
CodeBegins (Form Neg) c s ms = One code_neg c s ms
CodeBegins (Div k) c s ms = One (λ a. code_div a k) c s ms
CodeBegins (Mod k) c s ms = One (λ a. code_mod a k) c s ms
CodeBegins (Form Min) c s ms = Listed code_min c s ms
CodeBegins (Form Max) c s ms = Listed code_max c s ms
CodeBegins (Compare o) c s ms = Two (code_compare o) c s ms
CodeBegins (Divides k) c s ms = One (code_divides k) c s ms
CodeBegins (Form And) c s ms = Two code_and c s ms
CodeBegins (Form Or) c s ms = Two code_or c s ms
CodeBegins (Form Not) c s ms = One code_not c s ms
CodeBegins (Form Union) c s ms = Listed code_union c s ms
CodeBegins (Form Inter) c s ms = Listed code_inter c s ms
CodeBegins (Form Diff) c s ms = Two code_diff c s ms
CodeBegins (Form Subset) c s ms = Two code_subset c s ms
CodeBegins (Form Card) c s ms = One code_card c s ms
CodeBegins (Form Slice) c s ms = Three code_slice c s ms
CodeBegins (Form Fresh) c s ms = Two code_fresh c s ms
CodeBegins (Form If) c s ms = Three code_if c s ms
CodeBegins (Let first n) c s ms = Two (code_let first n) c s ms
CodeBegins (Solve n) c s ms = (arms : ArmTrees) × (c ≡ code_solve n arms) × (ms ≡ arms_marks arms ++ s)
CodeBegins n c s ms = ⊥

abbrev CodesBegin : Mark → CodeTrees → List Mark → List Mark → Type 0
CodesBegin (Form More) cs s ms = (c : CodeTree) × (rest : CodeTrees) × (cs ≡ code_more c rest) × (ms ≡ (code_marks c ++ codes_marks rest) ++ s)
CodesBegin (Form End) cs s ms = (cs ≡ no_codes) × (ms ≡ s)
CodesBegin n cs s ms = ⊥

abbrev ItemsBegin : Mark → ItemTrees → List Mark → List Mark → Type 0
ItemsBegin (Form LetItem) is s ms = (c : CodeTree) × (rest : ItemTrees) × (is ≡ item_more (let_item c) rest) × (ms ≡ (code_marks c ++ items_marks rest) ++ s)
ItemsBegin (Form NeedItem) is s ms = (c : CodeTree) × (rest : ItemTrees) × (is ≡ item_more (need_item c) rest) × (ms ≡ (code_marks c ++ items_marks rest) ++ s)
ItemsBegin (Form End) is s ms = (is ≡ no_items) × (ms ≡ s)
ItemsBegin n is s ms = ⊥

abbrev ArmsBegin : Mark → ArmTrees → List Mark → List Mark → Type 0
ArmsBegin (Form More) arms s ms = (bounds : List ℕ) × (is : ItemTrees) × (gives : CodeTrees) × (rest : ArmTrees) × (arms ≡ arm_more (arm_of bounds is gives) rest) ×
    (ms ≡ ((bounds_marks bounds ++ items_marks is ++ codes_marks gives) ++ arms_marks rest) ++ s)
ArmsBegin (Form End) arms s ms = (arms ≡ no_arms) × (ms ≡ s)
ArmsBegin n arms s ms = ⊥

abbrev BoundsBegin : Mark → List ℕ → List Mark → List Mark → Type 0
BoundsBegin (Bound n) bs s ms = (rest : List ℕ) × (bs ≡ n ∷ rest) × (ms ≡ bounds_marks rest ++ s)
BoundsBegin (Form End) bs s ms = (bs ≡ []) × (ms ≡ s)
BoundsBegin n bs s ms = ⊥

-- what holds of a mark and what follows it holds of equal ones
carried : (P : Mark → List Mark → Type 0) (m n : Mark) (ms ns : List Mark) → m ∷ ms ≡ n ∷ ns → P m ms → P n ns
carried P m n ms ns e h = let q : m ≡ n = cc in let r : ms ≡ ns = cc in subst (λ x. P x ns) q (subst (λ xs. P m xs) r h)

code_begins : (c : CodeTree) (s : List Mark) (n : Mark) (ns : List Mark) → code_marks c ++ s ≡ n ∷ ns → CodeBegins n c s ns
code_begins (code_lit k) s n ns e = carried (λ y xs. CodeBegins y (code_lit k) s xs) (Lit k) n _ ns e (refl, refl)
code_begins (code_truth k) s n ns e = carried (λ y xs. CodeBegins y (code_truth k) s xs) (Truth k) n _ ns e (refl, refl)
code_begins (code_var x) s n ns e = carried (λ y xs. CodeBegins y (code_var x) s xs) (Var x) n _ ns e (refl, refl)
code_begins (code_set_of cs) s n ns e = carried (λ y xs. CodeBegins y (code_set_of cs) s xs) (Form SetOf) n _ ns e (cs, refl, refl)
code_begins (code_tuple cs) s n ns e = carried (λ y xs. CodeBegins y (code_tuple cs) s xs) (Form Tuple) n _ ns e (cs, refl, refl)
code_begins (code_sum cs) s n ns e = carried (λ y xs. CodeBegins y (code_sum cs) s xs) (Form Sum) n _ ns e (cs, refl, refl)
code_begins (code_sub a b) s n ns e = carried (λ y xs. CodeBegins y (code_sub a b) s xs) (Form Sub) n _ ns e (a, b, refl, refl)
code_begins (code_mul a b) s n ns e = carried (λ y xs. CodeBegins y (code_mul a b) s xs) (Form Mul) n _ ns e (a, b, refl, refl)
code_begins (code_neg a) s n ns e = carried (λ y xs. CodeBegins y (code_neg a) s xs) (Form Neg) n _ ns e (a, refl, refl)
code_begins (code_div a k) s n ns e = carried (λ y xs. CodeBegins y (code_div a k) s xs) (Div k) n _ ns e (a, refl, refl)
code_begins (code_mod a k) s n ns e = carried (λ y xs. CodeBegins y (code_mod a k) s xs) (Mod k) n _ ns e (a, refl, refl)
code_begins (code_min cs) s n ns e = carried (λ y xs. CodeBegins y (code_min cs) s xs) (Form Min) n _ ns e (cs, refl, refl)
code_begins (code_max cs) s n ns e = carried (λ y xs. CodeBegins y (code_max cs) s xs) (Form Max) n _ ns e (cs, refl, refl)
code_begins (code_compare o a b) s n ns e = carried (λ y xs. CodeBegins y (code_compare o a b) s xs) (Compare o) n _ ns e (a, b, refl, refl)
code_begins (code_divides k a) s n ns e = carried (λ y xs. CodeBegins y (code_divides k a) s xs) (Divides k) n _ ns e (a, refl, refl)
code_begins (code_and a b) s n ns e = carried (λ y xs. CodeBegins y (code_and a b) s xs) (Form And) n _ ns e (a, b, refl, refl)
code_begins (code_or a b) s n ns e = carried (λ y xs. CodeBegins y (code_or a b) s xs) (Form Or) n _ ns e (a, b, refl, refl)
code_begins (code_not a) s n ns e = carried (λ y xs. CodeBegins y (code_not a) s xs) (Form Not) n _ ns e (a, refl, refl)
code_begins (code_union cs) s n ns e = carried (λ y xs. CodeBegins y (code_union cs) s xs) (Form Union) n _ ns e (cs, refl, refl)
code_begins (code_inter cs) s n ns e = carried (λ y xs. CodeBegins y (code_inter cs) s xs) (Form Inter) n _ ns e (cs, refl, refl)
code_begins (code_diff a b) s n ns e = carried (λ y xs. CodeBegins y (code_diff a b) s xs) (Form Diff) n _ ns e (a, b, refl, refl)
code_begins (code_subset a b) s n ns e = carried (λ y xs. CodeBegins y (code_subset a b) s xs) (Form Subset) n _ ns e (a, b, refl, refl)
code_begins (code_card a) s n ns e = carried (λ y xs. CodeBegins y (code_card a) s xs) (Form Card) n _ ns e (a, refl, refl)
code_begins (code_slice a b d) s n ns e = carried (λ y xs. CodeBegins y (code_slice a b d) s xs) (Form Slice) n _ ns e (a, b, d, refl, refl)
code_begins (code_fresh a b) s n ns e = carried (λ y xs. CodeBegins y (code_fresh a b) s xs) (Form Fresh) n _ ns e (a, b, refl, refl)
code_begins (code_if a b d) s n ns e = carried (λ y xs. CodeBegins y (code_if a b d) s xs) (Form If) n _ ns e (a, b, d, refl, refl)
code_begins (code_let first k a b) s n ns e = carried (λ y xs. CodeBegins y (code_let first k a b) s xs) (Let first k) n _ ns e (a, b, refl, refl)
code_begins (code_solve k arms) s n ns e = carried (λ y xs. CodeBegins y (code_solve k arms) s xs) (Solve k) n _ ns e (arms, refl, refl)

codes_begin : (cs : CodeTrees) (s : List Mark) (n : Mark) (ns : List Mark) → codes_marks cs ++ s ≡ n ∷ ns → CodesBegin n cs s ns
codes_begin no_codes s n ns e = carried (λ x xs. CodesBegin x no_codes s xs) (Form End) n _ ns e (refl, refl)
codes_begin (code_more c cs) s n ns e = carried (λ x xs. CodesBegin x (code_more c cs) s xs) (Form More) n _ ns e (c, cs, refl, refl)

items_begin : (is : ItemTrees) (s : List Mark) (n : Mark) (ns : List Mark) → items_marks is ++ s ≡ n ∷ ns → ItemsBegin n is s ns
items_begin no_items s n ns e = carried (λ x xs. ItemsBegin x no_items s xs) (Form End) n _ ns e (refl, refl)
items_begin (item_more (let_item c) is) s n ns e = carried (λ x xs. ItemsBegin x (item_more (let_item c) is) s xs) (Form LetItem) n _ ns e (c, is, refl, refl)
items_begin (item_more (need_item c) is) s n ns e = carried (λ x xs. ItemsBegin x (item_more (need_item c) is) s xs) (Form NeedItem) n _ ns e (c, is, refl, refl)

arms_begin : (arms : ArmTrees) (s : List Mark) (n : Mark) (ns : List Mark) → arms_marks arms ++ s ≡ n ∷ ns → ArmsBegin n arms s ns
arms_begin no_arms s n ns e = carried (λ x xs. ArmsBegin x no_arms s xs) (Form End) n _ ns e (refl, refl)
arms_begin (arm_more (arm_of bounds is gives) arms) s n ns e =
    carried (λ x xs. ArmsBegin x (arm_more (arm_of bounds is gives) arms) s xs) (Form More) n _ ns e (bounds, is, gives, arms, refl, refl)

bounds_begin : (bs : List ℕ) (s : List Mark) (n : Mark) (ns : List Mark) → bounds_marks bs ++ s ≡ n ∷ ns → BoundsBegin n bs s ns
bounds_begin [] s n ns e = carried (λ x xs. BoundsBegin x [] s xs) (Form End) n _ ns e (refl, refl)
bounds_begin (b ∷ bs) s n ns e = carried (λ x xs. BoundsBegin x (b ∷ bs) s xs) (Bound b) n _ ns e (bs, refl, refl)

-- ---- the first part of two equal lists of marks, and the rest
parted : (a r s b q t : List Mark) → (a ++ r) ++ s ≡ (b ++ q) ++ t → a ++ (r ++ s) ≡ b ++ (q ++ t)
parted a r s b q t e = sym (append_assoc a r s) ∙ e ∙ append_assoc b q t

parted_twice : (a p r s b o q t : List Mark) → ((a ++ p) ++ r) ++ s ≡ ((b ++ o) ++ q) ++ t → a ++ (p ++ (r ++ s)) ≡ b ++ (o ++ (q ++ t))
parted_twice a p r s b o q t e = parted a p (r ++ s) b o (q ++ t) (parted (a ++ p) r s (b ++ o) q t e)

-- ---- both lists are of one code, and the same stands behind them
same_bounds : (as_ bs : List ℕ) (s t : List Mark) → bounds_marks as_ ++ s ≡ bounds_marks bs ++ t → (as_ ≡ bs) × (s ≡ t)
same_bounds [] bs s t e = let f = bounds_begin bs t (Form End) s (sym e) in (sym f.0, f.1)
same_bounds (a ∷ as_) bs s t e =
    let f = bounds_begin bs t (Bound a) (bounds_marks as_ ++ s) (sym e) in
    let g = same_bounds as_ f.0 s t f.2 in
    (ap (λ z. a ∷ z) g.0 ∙ sym f.1, g.1)

mutual
  same_code : (c d : CodeTree) (s t : List Mark) → code_marks c ++ s ≡ code_marks d ++ t → (c ≡ d) × (s ≡ t)
  same_code (code_lit k) w s t e = let f = code_begins w t (Lit k) s (sym e) in (sym f.0, f.1)
  same_code (code_truth k) w s t e = let f = code_begins w t (Truth k) s (sym e) in (sym f.0, f.1)
  same_code (code_var x) w s t e = let f = code_begins w t (Var x) s (sym e) in (sym f.0, f.1)
  same_code (code_set_of cs) w s t e =
      let f = code_begins w t (Form SetOf) (codes_marks cs ++ s) (sym e) in let g = same_codes cs f.0 s t f.2 in (ap code_set_of g.0 ∙ sym f.1, g.1)
  same_code (code_tuple cs) w s t e =
      let f = code_begins w t (Form Tuple) (codes_marks cs ++ s) (sym e) in let g = same_codes cs f.0 s t f.2 in (ap code_tuple g.0 ∙ sym f.1, g.1)
  same_code (code_sum cs) w s t e =
      let f = code_begins w t (Form Sum) (codes_marks cs ++ s) (sym e) in let g = same_codes cs f.0 s t f.2 in (ap code_sum g.0 ∙ sym f.1, g.1)
  same_code (code_sub a b) w s t e =
      let f = code_begins w t (Form Sub) ((code_marks a ++ code_marks b) ++ s) (sym e) in
      let g = same_code a f.0 (code_marks b ++ s) (code_marks f.1 ++ t) (parted (code_marks a) (code_marks b) s (code_marks f.0) (code_marks f.1) t f.3) in
      let h = same_code b f.1 s t g.1 in
      (ap₂ code_sub g.0 h.0 ∙ sym f.2, h.1)
  same_code (code_mul a b) w s t e =
      let f = code_begins w t (Form Mul) ((code_marks a ++ code_marks b) ++ s) (sym e) in
      let g = same_code a f.0 (code_marks b ++ s) (code_marks f.1 ++ t) (parted (code_marks a) (code_marks b) s (code_marks f.0) (code_marks f.1) t f.3) in
      let h = same_code b f.1 s t g.1 in
      (ap₂ code_mul g.0 h.0 ∙ sym f.2, h.1)
  same_code (code_neg a) w s t e =
      let f = code_begins w t (Form Neg) (code_marks a ++ s) (sym e) in let g = same_code a f.0 s t f.2 in (ap code_neg g.0 ∙ sym f.1, g.1)
  same_code (code_div a k) w s t e =
      let f = code_begins w t (Div k) (code_marks a ++ s) (sym e) in let g = same_code a f.0 s t f.2 in (ap (λ z. code_div z k) g.0 ∙ sym f.1, g.1)
  same_code (code_mod a k) w s t e =
      let f = code_begins w t (Mod k) (code_marks a ++ s) (sym e) in let g = same_code a f.0 s t f.2 in (ap (λ z. code_mod z k) g.0 ∙ sym f.1, g.1)
  same_code (code_min cs) w s t e =
      let f = code_begins w t (Form Min) (codes_marks cs ++ s) (sym e) in let g = same_codes cs f.0 s t f.2 in (ap code_min g.0 ∙ sym f.1, g.1)
  same_code (code_max cs) w s t e =
      let f = code_begins w t (Form Max) (codes_marks cs ++ s) (sym e) in let g = same_codes cs f.0 s t f.2 in (ap code_max g.0 ∙ sym f.1, g.1)
  same_code (code_compare o a b) w s t e =
      let f = code_begins w t (Compare o) ((code_marks a ++ code_marks b) ++ s) (sym e) in
      let g = same_code a f.0 (code_marks b ++ s) (code_marks f.1 ++ t) (parted (code_marks a) (code_marks b) s (code_marks f.0) (code_marks f.1) t f.3) in
      let h = same_code b f.1 s t g.1 in
      (ap₂ (code_compare o) g.0 h.0 ∙ sym f.2, h.1)
  same_code (code_divides k a) w s t e =
      let f = code_begins w t (Divides k) (code_marks a ++ s) (sym e) in let g = same_code a f.0 s t f.2 in (ap (code_divides k) g.0 ∙ sym f.1, g.1)
  same_code (code_and a b) w s t e =
      let f = code_begins w t (Form And) ((code_marks a ++ code_marks b) ++ s) (sym e) in
      let g = same_code a f.0 (code_marks b ++ s) (code_marks f.1 ++ t) (parted (code_marks a) (code_marks b) s (code_marks f.0) (code_marks f.1) t f.3) in
      let h = same_code b f.1 s t g.1 in
      (ap₂ code_and g.0 h.0 ∙ sym f.2, h.1)
  same_code (code_or a b) w s t e =
      let f = code_begins w t (Form Or) ((code_marks a ++ code_marks b) ++ s) (sym e) in
      let g = same_code a f.0 (code_marks b ++ s) (code_marks f.1 ++ t) (parted (code_marks a) (code_marks b) s (code_marks f.0) (code_marks f.1) t f.3) in
      let h = same_code b f.1 s t g.1 in
      (ap₂ code_or g.0 h.0 ∙ sym f.2, h.1)
  same_code (code_not a) w s t e =
      let f = code_begins w t (Form Not) (code_marks a ++ s) (sym e) in let g = same_code a f.0 s t f.2 in (ap code_not g.0 ∙ sym f.1, g.1)
  same_code (code_union cs) w s t e =
      let f = code_begins w t (Form Union) (codes_marks cs ++ s) (sym e) in let g = same_codes cs f.0 s t f.2 in (ap code_union g.0 ∙ sym f.1, g.1)
  same_code (code_inter cs) w s t e =
      let f = code_begins w t (Form Inter) (codes_marks cs ++ s) (sym e) in let g = same_codes cs f.0 s t f.2 in (ap code_inter g.0 ∙ sym f.1, g.1)
  same_code (code_diff a b) w s t e =
      let f = code_begins w t (Form Diff) ((code_marks a ++ code_marks b) ++ s) (sym e) in
      let g = same_code a f.0 (code_marks b ++ s) (code_marks f.1 ++ t) (parted (code_marks a) (code_marks b) s (code_marks f.0) (code_marks f.1) t f.3) in
      let h = same_code b f.1 s t g.1 in
      (ap₂ code_diff g.0 h.0 ∙ sym f.2, h.1)
  same_code (code_subset a b) w s t e =
      let f = code_begins w t (Form Subset) ((code_marks a ++ code_marks b) ++ s) (sym e) in
      let g = same_code a f.0 (code_marks b ++ s) (code_marks f.1 ++ t) (parted (code_marks a) (code_marks b) s (code_marks f.0) (code_marks f.1) t f.3) in
      let h = same_code b f.1 s t g.1 in
      (ap₂ code_subset g.0 h.0 ∙ sym f.2, h.1)
  same_code (code_card a) w s t e =
      let f = code_begins w t (Form Card) (code_marks a ++ s) (sym e) in let g = same_code a f.0 s t f.2 in (ap code_card g.0 ∙ sym f.1, g.1)
  same_code (code_slice a b d) w s t e =
      let f = code_begins w t (Form Slice) ((code_marks a ++ code_marks b ++ code_marks d) ++ s) (sym e) in
      let p = parted_twice (code_marks a) (code_marks b) (code_marks d) s (code_marks f.0) (code_marks f.1) (code_marks f.2) t f.4 in
      let g = same_code a f.0 (code_marks b ++ (code_marks d ++ s)) (code_marks f.1 ++ (code_marks f.2 ++ t)) p in
      let h = same_code b f.1 (code_marks d ++ s) (code_marks f.2 ++ t) g.1 in
      let k = same_code d f.2 s t h.1 in
      (ap₂ (λ y z. code_slice y z d) g.0 h.0 ∙ ap (λ z. code_slice f.0 f.1 z) k.0 ∙ sym f.3, k.1)
  same_code (code_fresh a b) w s t e =
      let f = code_begins w t (Form Fresh) ((code_marks a ++ code_marks b) ++ s) (sym e) in
      let g = same_code a f.0 (code_marks b ++ s) (code_marks f.1 ++ t) (parted (code_marks a) (code_marks b) s (code_marks f.0) (code_marks f.1) t f.3) in
      let h = same_code b f.1 s t g.1 in
      (ap₂ code_fresh g.0 h.0 ∙ sym f.2, h.1)
  same_code (code_if a b d) w s t e =
      let f = code_begins w t (Form If) ((code_marks a ++ code_marks b ++ code_marks d) ++ s) (sym e) in
      let p = parted_twice (code_marks a) (code_marks b) (code_marks d) s (code_marks f.0) (code_marks f.1) (code_marks f.2) t f.4 in
      let g = same_code a f.0 (code_marks b ++ (code_marks d ++ s)) (code_marks f.1 ++ (code_marks f.2 ++ t)) p in
      let h = same_code b f.1 (code_marks d ++ s) (code_marks f.2 ++ t) g.1 in
      let k = same_code d f.2 s t h.1 in
      (ap₂ (λ y z. code_if y z d) g.0 h.0 ∙ ap (λ z. code_if f.0 f.1 z) k.0 ∙ sym f.3, k.1)
  same_code (code_let first k a b) w s t e =
      let f = code_begins w t (Let first k) ((code_marks a ++ code_marks b) ++ s) (sym e) in
      let g = same_code a f.0 (code_marks b ++ s) (code_marks f.1 ++ t) (parted (code_marks a) (code_marks b) s (code_marks f.0) (code_marks f.1) t f.3) in
      let h = same_code b f.1 s t g.1 in
      (ap₂ (code_let first k) g.0 h.0 ∙ sym f.2, h.1)
  same_code (code_solve k arms) w s t e =
      let f = code_begins w t (Solve k) (arms_marks arms ++ s) (sym e) in let g = same_arms arms f.0 s t f.2 in (ap (code_solve k) g.0 ∙ sym f.1, g.1)

  same_codes : (cs ds : CodeTrees) (s t : List Mark) → codes_marks cs ++ s ≡ codes_marks ds ++ t → (cs ≡ ds) × (s ≡ t)
  same_codes no_codes ds s t e = let f = codes_begin ds t (Form End) s (sym e) in (sym f.0, f.1)
  same_codes (code_more c cs) ds s t e =
      let f = codes_begin ds t (Form More) ((code_marks c ++ codes_marks cs) ++ s) (sym e) in
      let g = same_code c f.0 (codes_marks cs ++ s) (codes_marks f.1 ++ t) (parted (code_marks c) (codes_marks cs) s (code_marks f.0) (codes_marks f.1) t f.3)
      in
      let h = same_codes cs f.1 s t g.1 in
      (ap₂ code_more g.0 h.0 ∙ sym f.2, h.1)

  same_items : (is js : ItemTrees) (s t : List Mark) → items_marks is ++ s ≡ items_marks js ++ t → (is ≡ js) × (s ≡ t)
  same_items no_items js s t e = let f = items_begin js t (Form End) s (sym e) in (sym f.0, f.1)
  same_items (item_more (let_item c) is) js s t e =
      let f = items_begin js t (Form LetItem) ((code_marks c ++ items_marks is) ++ s) (sym e) in
      let g = same_code c f.0 (items_marks is ++ s) (items_marks f.1 ++ t) (parted (code_marks c) (items_marks is) s (code_marks f.0) (items_marks f.1) t f.3)
      in
      let h = same_items is f.1 s t g.1 in
      (ap₂ (λ y z. item_more (let_item y) z) g.0 h.0 ∙ sym f.2, h.1)
  same_items (item_more (need_item c) is) js s t e =
      let f = items_begin js t (Form NeedItem) ((code_marks c ++ items_marks is) ++ s) (sym e) in
      let g = same_code c f.0 (items_marks is ++ s) (items_marks f.1 ++ t) (parted (code_marks c) (items_marks is) s (code_marks f.0) (items_marks f.1) t f.3)
      in
      let h = same_items is f.1 s t g.1 in
      (ap₂ (λ y z. item_more (need_item y) z) g.0 h.0 ∙ sym f.2, h.1)

  same_arms : (as_ bs : ArmTrees) (s t : List Mark) → arms_marks as_ ++ s ≡ arms_marks bs ++ t → (as_ ≡ bs) × (s ≡ t)
  same_arms no_arms bs s t e = let f = arms_begin bs t (Form End) s (sym e) in (sym f.0, f.1)
  same_arms (arm_more (arm_of bounds is gives) as_) bs s t e =
      let f = arms_begin bs t (Form More) (((bounds_marks bounds ++ items_marks is ++ codes_marks gives) ++ arms_marks as_) ++ s) (sym e) in
      let p = parted (bounds_marks bounds ++ items_marks is ++ codes_marks gives) (arms_marks as_) s
      (bounds_marks f.0 ++ items_marks f.1 ++ codes_marks f.2) (arms_marks f.3) t f.5 in
      let q = parted_twice (bounds_marks bounds) (items_marks is) (codes_marks gives) (arms_marks as_ ++ s) (bounds_marks f.0) (items_marks f.1)
      (codes_marks f.2) (arms_marks f.3 ++ t) p in
      let g = same_bounds bounds f.0 (items_marks is ++ (codes_marks gives ++ (arms_marks as_ ++ s)))
      (items_marks f.1 ++ (codes_marks f.2 ++ (arms_marks f.3 ++ t))) q in
      let h = same_items is f.1 (codes_marks gives ++ (arms_marks as_ ++ s)) (codes_marks f.2 ++ (arms_marks f.3 ++ t)) g.1 in
      let k = same_codes gives f.2 (arms_marks as_ ++ s) (arms_marks f.3 ++ t) h.1 in
      let l = same_arms as_ f.3 s t k.1 in
      (ap₂ (λ y z. arm_more (arm_of y z gives) as_) g.0 h.0 ∙ ap₂ (λ y z. arm_more (arm_of f.0 f.1 y) z) k.0 l.0 ∙ sym f.4, l.1)

pub marks_tell : (c d : CodeTree) → code_marks c ≡ code_marks d → c ≡ d
marks_tell c d e = (same_code c d [] [] (append-nil (code_marks c) ∙ e ∙ sym (append-nil (code_marks d)))).0

-- the marks decide whether codes are the same
pub marks_decide : (c d : CodeTree) (xs ys : List Mark) (r : Bool) → xs ≡ code_marks c → ys ≡ code_marks d → (r ≡ true) ↔ (xs ≡ ys) → (r ≡ true) ↔ (c ≡ d)
marks_decide c d xs ys r e f h = (λ t. marks_tell c d (sym e ∙ h.0 t ∙ f), λ q. h.1 (e ∙ ap code_marks q ∙ sym f))

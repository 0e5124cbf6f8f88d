-- Forms that are told to be the same have the same value.
use Rattle.std.proofs.Common.{◌≡◌, ℕ, Bool, true, false, List, refl}
use Rattle.std.proofs.lemmas.Bool.{and_parts, eqb-true}
use Rattle.std.specs.Ordering.{int_eq}
use Rattle.cf_tree.specs.Relation.{val, members}
use Rattle.cf_tree.specs.RelTree.{SetTree, empty_set, set_var, union_of, inter_of, diff_of, TermTree, term_lit, term_var, term_card, term_neg, term_add, term_sub, term_mul, term_div, term_mod, term_abs}
use Rattle.cf_tree.specs.Values.{Value}
use Rattle.cf_tree.proofs.SetLemmas.{eq_is}
use Rattle.cf_simple.specs.Lines.{same_set, same_term}

pub same_members : (s t : SetTree) (env : List Value) → same_set s t ≡ true → members s env ≡ members t env
same_members empty_set empty_set env e = refl
same_members empty_set (set_var y) env e = absurd (cc)
same_members empty_set (union_of c d) env e = absurd (cc)
same_members empty_set (inter_of c d) env e = absurd (cc)
same_members empty_set (diff_of c d) env e = absurd (cc)
same_members (set_var x) empty_set env e = absurd (cc)
same_members (set_var x) (set_var y) env e = rw (eqb-true x y e) refl
same_members (set_var x) (union_of c d) env e = absurd (cc)
same_members (set_var x) (inter_of c d) env e = absurd (cc)
same_members (set_var x) (diff_of c d) env e = absurd (cc)
same_members (union_of a b) empty_set env e = absurd (cc)
same_members (union_of a b) (set_var y) env e = absurd (cc)
same_members (union_of a b) (union_of c d) env e =
    let h = and_parts (same_set a c) (same_set b d) e in rw (same_members a c env h.0, same_members b d env h.1) refl
same_members (union_of a b) (inter_of c d) env e = absurd (cc)
same_members (union_of a b) (diff_of c d) env e = absurd (cc)
same_members (inter_of a b) empty_set env e = absurd (cc)
same_members (inter_of a b) (set_var y) env e = absurd (cc)
same_members (inter_of a b) (union_of c d) env e = absurd (cc)
same_members (inter_of a b) (inter_of c d) env e =
    let h = and_parts (same_set a c) (same_set b d) e in rw (same_members a c env h.0, same_members b d env h.1) refl
same_members (inter_of a b) (diff_of c d) env e = absurd (cc)
same_members (diff_of a b) empty_set env e = absurd (cc)
same_members (diff_of a b) (set_var y) env e = absurd (cc)
same_members (diff_of a b) (union_of c d) env e = absurd (cc)
same_members (diff_of a b) (inter_of c d) env e = absurd (cc)
same_members (diff_of a b) (diff_of c d) env e =
    let h = and_parts (same_set a c) (same_set b d) e in rw (same_members a c env h.0, same_members b d env h.1) refl

pub same_value : (t u : TermTree) (env : List Value) → same_term t u ≡ true → val t env ≡ val u env
same_value (term_lit k) (term_lit n) env e = eq_is k n e
same_value (term_lit k) (term_var y) env e = absurd (cc)
same_value (term_lit k) (term_card t) env e = absurd (cc)
same_value (term_lit k) (term_neg c) env e = absurd (cc)
same_value (term_lit k) (term_add c d) env e = absurd (cc)
same_value (term_lit k) (term_sub c d) env e = absurd (cc)
same_value (term_lit k) (term_mul c d) env e = absurd (cc)
same_value (term_lit k) (term_div c n) env e = absurd (cc)
same_value (term_lit k) (term_mod c n) env e = absurd (cc)
same_value (term_lit k) (term_abs c) env e = absurd (cc)
same_value (term_var x) (term_lit n) env e = absurd (cc)
same_value (term_var x) (term_var y) env e = rw (eqb-true x y e) refl
same_value (term_var x) (term_card t) env e = absurd (cc)
same_value (term_var x) (term_neg c) env e = absurd (cc)
same_value (term_var x) (term_add c d) env e = absurd (cc)
same_value (term_var x) (term_sub c d) env e = absurd (cc)
same_value (term_var x) (term_mul c d) env e = absurd (cc)
same_value (term_var x) (term_div c n) env e = absurd (cc)
same_value (term_var x) (term_mod c n) env e = absurd (cc)
same_value (term_var x) (term_abs c) env e = absurd (cc)
same_value (term_card s) (term_lit n) env e = absurd (cc)
same_value (term_card s) (term_var y) env e = absurd (cc)
same_value (term_card s) (term_card t) env e = rw (same_members s t env e) refl
same_value (term_card s) (term_neg c) env e = absurd (cc)
same_value (term_card s) (term_add c d) env e = absurd (cc)
same_value (term_card s) (term_sub c d) env e = absurd (cc)
same_value (term_card s) (term_mul c d) env e = absurd (cc)
same_value (term_card s) (term_div c n) env e = absurd (cc)
same_value (term_card s) (term_mod c n) env e = absurd (cc)
same_value (term_card s) (term_abs c) env e = absurd (cc)
same_value (term_neg a) (term_lit n) env e = absurd (cc)
same_value (term_neg a) (term_var y) env e = absurd (cc)
same_value (term_neg a) (term_card t) env e = absurd (cc)
same_value (term_neg a) (term_neg c) env e = rw (same_value a c env e) refl
same_value (term_neg a) (term_add c d) env e = absurd (cc)
same_value (term_neg a) (term_sub c d) env e = absurd (cc)
same_value (term_neg a) (term_mul c d) env e = absurd (cc)
same_value (term_neg a) (term_div c n) env e = absurd (cc)
same_value (term_neg a) (term_mod c n) env e = absurd (cc)
same_value (term_neg a) (term_abs c) env e = absurd (cc)
same_value (term_add a b) (term_lit n) env e = absurd (cc)
same_value (term_add a b) (term_var y) env e = absurd (cc)
same_value (term_add a b) (term_card t) env e = absurd (cc)
same_value (term_add a b) (term_neg c) env e = absurd (cc)
same_value (term_add a b) (term_add c d) env e = let h = and_parts (same_term a c) (same_term b d) e in rw (same_value a c env h.0, same_value b d env h.1) refl
same_value (term_add a b) (term_sub c d) env e = absurd (cc)
same_value (term_add a b) (term_mul c d) env e = absurd (cc)
same_value (term_add a b) (term_div c n) env e = absurd (cc)
same_value (term_add a b) (term_mod c n) env e = absurd (cc)
same_value (term_add a b) (term_abs c) env e = absurd (cc)
same_value (term_sub a b) (term_lit n) env e = absurd (cc)
same_value (term_sub a b) (term_var y) env e = absurd (cc)
same_value (term_sub a b) (term_card t) env e = absurd (cc)
same_value (term_sub a b) (term_neg c) env e = absurd (cc)
same_value (term_sub a b) (term_add c d) env e = absurd (cc)
same_value (term_sub a b) (term_sub c d) env e = let h = and_parts (same_term a c) (same_term b d) e in rw (same_value a c env h.0, same_value b d env h.1) refl
same_value (term_sub a b) (term_mul c d) env e = absurd (cc)
same_value (term_sub a b) (term_div c n) env e = absurd (cc)
same_value (term_sub a b) (term_mod c n) env e = absurd (cc)
same_value (term_sub a b) (term_abs c) env e = absurd (cc)
same_value (term_mul a b) (term_lit n) env e = absurd (cc)
same_value (term_mul a b) (term_var y) env e = absurd (cc)
same_value (term_mul a b) (term_card t) env e = absurd (cc)
same_value (term_mul a b) (term_neg c) env e = absurd (cc)
same_value (term_mul a b) (term_add c d) env e = absurd (cc)
same_value (term_mul a b) (term_sub c d) env e = absurd (cc)
same_value (term_mul a b) (term_mul c d) env e = let h = and_parts (same_term a c) (same_term b d) e in rw (same_value a c env h.0, same_value b d env h.1) refl
same_value (term_mul a b) (term_div c n) env e = absurd (cc)
same_value (term_mul a b) (term_mod c n) env e = absurd (cc)
same_value (term_mul a b) (term_abs c) env e = absurd (cc)
same_value (term_div a k) (term_lit n) env e = absurd (cc)
same_value (term_div a k) (term_var y) env e = absurd (cc)
same_value (term_div a k) (term_card t) env e = absurd (cc)
same_value (term_div a k) (term_neg c) env e = absurd (cc)
same_value (term_div a k) (term_add c d) env e = absurd (cc)
same_value (term_div a k) (term_sub c d) env e = absurd (cc)
same_value (term_div a k) (term_mul c d) env e = absurd (cc)
same_value (term_div a k) (term_div c n) env e = let h = and_parts (int_eq k n) (same_term a c) e in rw (eq_is k n h.0, same_value a c env h.1) refl
same_value (term_div a k) (term_mod c n) env e = absurd (cc)
same_value (term_div a k) (term_abs c) env e = absurd (cc)
same_value (term_mod a k) (term_lit n) env e = absurd (cc)
same_value (term_mod a k) (term_var y) env e = absurd (cc)
same_value (term_mod a k) (term_card t) env e = absurd (cc)
same_value (term_mod a k) (term_neg c) env e = absurd (cc)
same_value (term_mod a k) (term_add c d) env e = absurd (cc)
same_value (term_mod a k) (term_sub c d) env e = absurd (cc)
same_value (term_mod a k) (term_mul c d) env e = absurd (cc)
same_value (term_mod a k) (term_div c n) env e = absurd (cc)
same_value (term_mod a k) (term_mod c n) env e = let h = and_parts (int_eq k n) (same_term a c) e in rw (eq_is k n h.0, same_value a c env h.1) refl
same_value (term_mod a k) (term_abs c) env e = absurd (cc)
same_value (term_abs a) (term_lit n) env e = absurd (cc)
same_value (term_abs a) (term_var y) env e = absurd (cc)
same_value (term_abs a) (term_card t) env e = absurd (cc)
same_value (term_abs a) (term_neg c) env e = absurd (cc)
same_value (term_abs a) (term_add c d) env e = absurd (cc)
same_value (term_abs a) (term_sub c d) env e = absurd (cc)
same_value (term_abs a) (term_mul c d) env e = absurd (cc)
same_value (term_abs a) (term_div c n) env e = absurd (cc)
same_value (term_abs a) (term_mod c n) env e = absurd (cc)
same_value (term_abs a) (term_abs c) env e = rw (same_value a c env e) refl

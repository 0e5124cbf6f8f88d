-- Lines: sums of numbers times number forms, and a constant.
use Rattle.std.specs.Prelude.{ℕ, ℤ, pos, negsuc, ◌+ℤ◌, ◌*ℤ◌, Bool, true, false, ◌&&◌, ◌==◌, List, [], ◌∷◌, if◌then◌else◌}
use Rattle.std.specs.Ordering.{int_eq}
use Rattle.cf_tree.specs.Relation.{val}
use Rattle.cf_tree.specs.RelTree.{SetTree, empty_set, set_var, union_of, inter_of, diff_of, TermTree, term_lit, term_var, term_card, term_neg, term_add, term_sub, term_mul, term_div, term_mod, term_abs}
use Rattle.cf_tree.specs.Values.{Value}

pub record Part : Type 0 where
  pub factor : ℤ
  pub of : TermTree

pub record Line : Type 0 where
  pub parts : List Part
  pub constant : ℤ

-- ---- what they are worth
abbrev pub parts_value : List Part → List Value → ℤ
parts_value [] env = pos 0
parts_value (p ∷ ps) env = p.factor *ℤ val p.of env +ℤ parts_value ps env

abbrev pub line_value : Line → List Value → ℤ
line_value l env = parts_value l.parts env +ℤ l.constant

-- ---- the same forms
abbrev pub same_set : SetTree → SetTree → Bool
same_set empty_set empty_set = true
same_set (set_var x) (set_var y) = x == y
same_set (union_of a b) (union_of c d) = same_set a c && same_set b d
same_set (inter_of a b) (inter_of c d) = same_set a c && same_set b d
same_set (diff_of a b) (diff_of c d) = same_set a c && same_set b d
same_set s t = false

abbrev pub same_term : TermTree → TermTree → Bool
same_term (term_lit k) (term_lit n) = int_eq k n
same_term (term_var x) (term_var y) = x == y
same_term (term_card s) (term_card t) = same_set s t
same_term (term_neg a) (term_neg b) = same_term a b
same_term (term_add a b) (term_add c d) = same_term a c && same_term b d
same_term (term_sub a b) (term_sub c d) = same_term a c && same_term b d
same_term (term_mul a b) (term_mul c d) = same_term a c && same_term b d
same_term (term_div a k) (term_div b n) = int_eq k n && same_term a b
same_term (term_mod a k) (term_mod b n) = int_eq k n && same_term a b
same_term (term_abs a) (term_abs b) = same_term a b
same_term t u = false

-- ---- sums
abbrev pub nothing : Line
nothing = record { parts = []; constant = pos 0 }

abbrev pub just : ℤ → Line
just k = record { parts = []; constant = k }

abbrev pub alone : TermTree → Line
alone t = record { parts = record { factor = pos 1; of = t } ∷ []; constant = pos 0 }

-- no part has the factor 0
abbrev pub put_part : ℤ → TermTree → List Part → List Part
put_part k t ps = if int_eq k (pos 0) then ps else record { factor = k; of = t } ∷ ps

-- k times a form more: it joins the part of the same form, and stands last where there is none
abbrev pub add_part : ℤ → TermTree → List Part → List Part
add_part k t [] = put_part k t []
add_part k t (p ∷ ps) = if same_term t p.of then put_part (p.factor +ℤ k) p.of ps else p ∷ add_part k t ps

-- k times the first parts, behind the others
abbrev pub add_parts : ℤ → List Part → List Part → List Part
add_parts k [] qs = qs
add_parts k (p ∷ ps) qs = add_parts k ps (add_part (k *ℤ p.factor) p.of qs)

-- m and k times l
abbrev pub plus : Line → ℤ → Line → Line
plus m k l = record { parts = add_parts k l.parts m.parts; constant = m.constant +ℤ k *ℤ l.constant }

abbrev pub times : ℤ → Line → Line
times k l = plus nothing k l

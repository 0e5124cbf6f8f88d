-- What tokens spell has a spelling: its numbers are within the limit where those of the literals are, and its lists are as long as the grammar asks.
use Rattle.std.proofs.Common.{◌≡◌, inl, inr, ℕ, zero, suc, ◌+◌, ◌-◌, ◌^◌, ◌≤◌, List, [], length, sym, subst, arith}
use Rattle.std.specs.Prelude.{ℤ, pos, negsuc, neg_ℤ, ◌≤ℤ◌}
use Rattle.cf_num.specs.Limit.{IsWithin}
use Rattle.cf_lex.specs.Tokens.{AreWithin}
use Rattle.cf_tree.specs.declared.base.Edition.{Edition}
use Rattle.cf_lex.specs.declared.token.Token.{Token}
use Rattle.cf_lex.specs.declared.token.TokenKind.{TokenKind}
use Rattle.cf_tree.specs.declared.target.RawTarget.{RawTarget}
use Rattle.cf_tree.specs.CodeTree.{CodeTree, code_lit, code_truth, code_var, code_set_of, code_tuple, code_sum, code_sub, code_mul, code_neg, code_div, code_mod, code_min, code_max, code_compare, code_divides, code_and, code_or, code_not, code_union, code_inter, code_diff, code_subset, code_card, code_slice, code_fresh, code_if, code_let, code_solve, CodeTrees, no_codes, code_more, let_item, need_item, ItemTrees, no_items, item_more, arm_of, ArmTrees, no_arms, arm_more, count}
use Rattle.cf_tree.specs.CodeView.{code_tree}
use Rattle.cf_tree.specs.Spelled.{IsNumeral, IsSpelled, AreSpelled, AreItemsSpelled, AreArmsSpelled, AreGives, HasSpelling}
use Rattle.cf_reader.specs.Kinds.{SpellsBase}
use Rattle.cf_reader.proofs.Keeps.{Small, Keeps, behind, both, given, never, one, skip, closed, next_literal_keeps, any_keeps, one_or_tuple_keeps, base_keeps}
use Rattle.cf_target.specs.Spelling.{SpellsMoreVariables, SpellsVariables, SpellsNumber, SpellsNumeral, SpellsCode, SpellsCodes, SpellsOthers, SpellsArms, SpellsItems, SpellsGives, SpellsHeader, SpellsMain, target_tree, IsTarget}

-- numbers and variables

negated : (n : ℤ) → pos 1 ≤ℤ n → IsWithin n → IsWithin (neg_ℤ n)
negated (pos zero) l h = h
negated (pos (suc n)) l h = h
negated (negsuc n) l h = absurd l.le

number_on : (k : ℤ) (ts us : List Token) → Small ts → SpellsNumber k ts us → IsWithin k × Small us
number_on k ts us s (inl w) = let h = (next_literal_keeps (pos 0) k).keeps ts us s w in (h.0.1, h.1)
number_on k ts us s (inr (n, w, e)) =
    let h = (skip (next_literal_keeps (pos 1) n)).keeps ts us s w in
    (subst IsWithin (sym e) (negated n h.0.0 h.0.1), h.1)

number_keeps : (k : ℤ) → Keeps (SpellsNumber k) (IsWithin k)
number_keeps k = record { keeps = number_on k }

numeral_keeps : (n : ℕ) → Keeps (SpellsNumeral n) (IsNumeral n)
numeral_keeps n = behind (λ k. k.0) (given (one _))

further : (x n : ℕ) → suc x ≤ 2 ^ 32 → (suc x ≤ 2 ^ 32 → suc x + n ≤ 2 ^ 32) → x + suc n ≤ 2 ^ 32
further x n l h = let m : suc x + n ≤ 2 ^ 32 = h l in omega (arith, m)

more_keep : (x n : ℕ) → Keeps (SpellsMoreVariables x n) (x ≤ 2 ^ 32 → x + n ≤ 2 ^ 32)
more_keep x zero = behind (λ u l. omega (arith, l)) (one _)
more_keep x (suc n) = behind (λ k l. further x n k.0.0 k.1) (skip (both (given (one _)) (more_keep (suc x) n)))

variables_keep : (x n : ℕ) → Keeps (SpellsVariables x n) ((1 ≤ n) × (x + n ≤ 2 ^ 32))
variables_keep x zero = never
variables_keep x (suc zero) = behind (λ k. let l : suc x ≤ 2 ^ 32 = k.0 in (omega arith, omega (arith, l))) (given (one _))
variables_keep x (suc (suc n)) = behind (λ k. (omega arith, further x (suc n) k.0.0 k.1)) (skip (both (given (one _)) (more_keep (suc x) (suc n))))

-- codes

mutual
  code_keeps : (c : CodeTree) → Keeps (SpellsCode c) (IsSpelled c)
  code_keeps (code_lit k) = number_keeps k
  code_keeps (code_truth t) = one _
  code_keeps (code_var x) = behind (λ k. k.0) (given (one _))
  code_keeps (code_set_of no_codes) = skip (one _)
  code_keeps (code_set_of (code_more c cs)) = skip (both (code_keeps c) (others_codes cs _ _))
  code_keeps (code_tuple cs) = behind (λ k. (k.0, k.1.1)) (given (skip (codes_keep cs _ _)))
  code_keeps (code_sum cs) = behind (λ k. (k.0, k.1.1)) (given (skip (codes_keep cs _ _)))
  code_keeps (code_union cs) = behind (λ k. (k.0, k.1.1)) (given (skip (codes_keep cs _ _)))
  code_keeps (code_inter cs) = behind (λ k. (k.0, k.1.1)) (given (skip (codes_keep cs _ _)))
  code_keeps (code_sub c d) = skip (both (code_keeps c) (skip (closed (code_keeps d))))
  code_keeps (code_mul c d) = skip (both (code_keeps c) (skip (closed (code_keeps d))))
  code_keeps (code_diff c d) = skip (both (code_keeps c) (skip (closed (code_keeps d))))
  code_keeps (code_compare o c d) = skip (both (code_keeps c) (skip (closed (code_keeps d))))
  code_keeps (code_subset c d) = skip (both (code_keeps c) (skip (closed (code_keeps d))))
  code_keeps (code_and c d) = skip (both (code_keeps c) (skip (closed (code_keeps d))))
  code_keeps (code_or c d) = skip (both (code_keeps c) (skip (closed (code_keeps d))))
  code_keeps (code_divides k c) = skip (both (next_literal_keeps (pos 1) k) (skip (closed (code_keeps c))))
  code_keeps (code_neg c) = skip (skip (closed (code_keeps c)))
  code_keeps (code_not c) = skip (skip (closed (code_keeps c)))
  code_keeps (code_card c) = skip (skip (closed (code_keeps c)))
  code_keeps (code_div c k) = behind (λ h. (h.1, h.0)) (skip (skip (both (code_keeps c) (skip (closed (next_literal_keeps (pos 1) k))))))
  code_keeps (code_mod c k) = behind (λ h. (h.1, h.0)) (skip (skip (both (code_keeps c) (skip (closed (next_literal_keeps (pos 1) k))))))
  code_keeps (code_min cs) = skip (skip (codes_keep cs _ _))
  code_keeps (code_max cs) = skip (skip (codes_keep cs _ _))
  code_keeps (code_slice c d e) = behind (λ h. (h.0, h.1.0, h.1.1))
      (skip (skip (both (code_keeps c) (skip (both (code_keeps d) (skip (closed (code_keeps e))))))))
  code_keeps (code_fresh c d) = skip (skip (both (code_keeps c) (skip (closed (code_keeps d)))))
  code_keeps (code_if t c d) = behind (λ h. (h.0, h.1.0, h.1.1)) (skip (skip (both (code_keeps t) (skip (both (code_keeps c) (skip (closed (code_keeps d))))))))
  code_keeps (code_let first n c d) =
      behind (λ h. (h.0.0, h.0.1, h.1.0, h.1.1)) (skip (skip (both (variables_keep first n) (skip (both (code_keeps c) (skip (closed (code_keeps d))))))))
  code_keeps (code_solve n arms) = skip (both (numeral_keeps n) (skip (arms_keep arms)))

  codes_keep : (cs : CodeTrees) (separator close : TokenKind) → Keeps (SpellsCodes cs separator close) ((1 ≤ count cs) × AreSpelled cs)
  codes_keep no_codes separator close = never
  codes_keep (code_more c cs) separator close = behind (λ h. (omega arith, h)) (both (code_keeps c) (others_codes cs separator close))

  others_codes : (cs : CodeTrees) (separator close : TokenKind) → Keeps (SpellsOthers cs separator close) (AreSpelled cs)
  others_codes no_codes separator close = one close
  others_codes (code_more c cs) separator close = skip (both (code_keeps c) (others_codes cs separator close))

  arms_keep : (arms : ArmTrees) → Keeps (SpellsArms arms) (AreArmsSpelled arms)
  arms_keep no_arms = one _
  arms_keep (arm_more (arm_of bounds is gs) arms) =
      behind (λ h. (h.0.0, h.0.1.0, h.0.1.1.0, h.0.1.1.1, h.1))
      (both (skip (skip (both (any_keeps SpellsNumeral IsNumeral _ _ numeral_keeps bounds) (skip (both (items_keep is) (closed (gives_keep gs)))))))
      (arms_keep arms))

  items_keep : (is : ItemTrees) → Keeps (SpellsItems is) (AreItemsSpelled is)
  items_keep no_items = one _
  items_keep (item_more (let_item c) is) = both (skip (closed (code_keeps c))) (items_keep is)
  items_keep (item_more (need_item c) is) = both (skip (closed (code_keeps c))) (items_keep is)

  gives_keep : (gs : CodeTrees) → Keeps (SpellsGives gs) (AreGives gs × AreSpelled gs)
  gives_keep no_codes = never
  gives_keep (code_more c no_codes) = behind (λ h. (h.0, (h.1, tt))) (given (code_keeps c))
  gives_keep (code_more c (code_more d cs)) = behind (λ h. (tt, h)) (skip (both (code_keeps c) (others_codes (code_more d cs) _ _)))

-- targets

header_on : (edition : Edition) (ts us : List Token) → Small ts → SpellsHeader edition ts us → Unit {0} × Small us
header_on edition ts us s (inl h) = (tt, subst Small h.1 s)
header_on edition ts us s (inr w) = (skip (one _)).keeps ts us s w

pub header_keeps : (edition : Edition) → Keeps (SpellsHeader edition) (Unit {0})
header_keeps edition = record { keeps = header_on edition }

pub main_keeps : (t : RawTarget) → Keeps (SpellsMain (target_tree t)) ((1 ≤ length t.results.items) × IsSpelled (code_tree t.code))
main_keeps t =
    behind (λ h. h.1)
    (skip (skip (both (any_keeps SpellsBase (λ b. Unit {0}) _ _ base_keeps t.params.items)
    (skip (both (one_or_tuple_keeps SpellsBase base_keeps t.results.items) (skip (code_keeps (code_tree t.code))))))))

pub spelled_law : (edition : Edition) (t : RawTarget) (ts : List Token) → AreWithin (2 ^ 127 - 1) ts → IsTarget edition (target_tree t) ts → HasSpelling t
spelled_law edition t ts s w = let h = (both (header_keeps edition) (main_keeps t)).keeps ts [] s w.0 in (w.1, h.0.1.1, h.0.1.0)

pub spelled_from : (edition : Edition) (t : RawTarget) (ts items : List Token) → ts ≡ items → IsTarget edition (target_tree t) ts →
    AreWithin (2 ^ 127 - 1) items → HasSpelling t
spelled_from edition t ts items same w s = spelled_law edition t items s (subst (IsTarget edition (target_tree t)) same w)

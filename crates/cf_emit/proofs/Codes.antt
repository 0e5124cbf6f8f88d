-- Printed code is spelled by its tokens.
use Rattle.std.proofs.Common.{ℕ, ◌≤◌, List, ◌++◌, map, refl, codes, arith}
use Rattle.std.specs.Prelude.{decimal}
use Rattle.std.specs.Fmt.{signed_decimal}
use Rattle.cf_lex.specs.Bytes.{is_in_word}
use Rattle.cf_lex.specs.Runs.{StopsAt}
use Rattle.cf_lex.specs.declared.token.TokenKind.{TokenKind}
use Rattle.cf_lex.specs.declared.token.TokenKind.TheVariants.{Sign}
use Rattle.cf_tree.specs.CodeTree.{CodeTree, code_lit, code_truth, code_var, code_set_of, code_tuple, code_sum, code_sub, code_mul, code_neg, code_div, code_mod, code_min, code_max, code_compare, code_divides, code_and, code_or, code_not, code_union, code_inter, code_diff, code_subset, code_card, code_slice, code_fresh, code_if, code_let, code_solve, CodeTrees, no_codes, code_more, let_item, need_item, ItemTrees, no_items, item_more, arm_of, ArmTrees, no_arms, arm_more, count}
use Rattle.cf_tree.specs.Spelled.{IsSpelled, AreSpelled, AreItemsSpelled, AreArmsSpelled, AreGives}
use Rattle.cf_reader.specs.Tokens.{Form, If}
use Rattle.cf_target.specs.Spelling.{SpellsCode, SpellsCodes, SpellsOthers, SpellsArms, SpellsItems, SpellsGives, InBrackets}
use Rattle.cf_emit.specs.Printed.{order_text, variables_text, listed, code_text, codes_text, more_codes, items_text, item_text, gives_text, arm_text, arms_text}
use Rattle.cf_emit.proofs.Spans.{Spans, Says, then, as_form, spaced, Mark, closing, opening_brace, closing_brace, comma, spaced_sign, spaced_word}
use Rattle.cf_emit.proofs.Forms.{joined_parts, first_part, next_part, next_begins, bracketed, set_form, gives_form, pair_form, list_called, one_called, two_called, three_called, headed_form, solve_form, item_form, arm_form}
use Rattle.cf_emit.proofs.Words.{number_says, divisor_says, numeral_says, variable_says, variables_say, truth_says, order_mark, bounds_say}

plus : Mark (Sign (codes "+")) (codes " + ")
plus = spaced_sign (codes "+") (λ rest. (refl, refl))

less : Mark (Sign (codes "-")) (codes " - ")
less = spaced_sign (codes "-") (λ rest. (refl, refl))

times : Mark (Sign (codes "*")) (codes " * ")
times = spaced_sign (codes "*") (λ rest. (refl, refl))

pub equals : Mark (Sign (codes "=")) (codes " = ")
equals = spaced_sign (codes "=") (λ rest. (refl, refl))

both_hold : Mark (Sign (codes "&&")) (codes " && ")
both_hold = spaced_sign (codes "&&") (λ rest. refl)

one_holds : Mark (Sign (codes "||")) (codes " || ")
one_holds = spaced_sign (codes "||") (λ rest. refl)

-- codes with a separator between each two, in brackets
listed_form : {X : Form} (cs : CodeTrees) (t : List ℕ) → 2 ≤ count cs → ((rest : List ℕ) → Spans X (t ++ (codes ")" ++ rest)) rest) →
    Says (If (2 ≤ count cs) (InBrackets X)) (codes "(" ++ t ++ codes ")")
listed_form cs t two s rest stops = as_form (λ ts more h. (two, h)) (bracketed t rest (s rest))

others_begin : {k close : TokenKind} (cs : CodeTrees) (o w rest : List ℕ) → Mark k o → Mark close w → StopsAt is_in_word (more_codes o cs ++ (w ++ rest))
others_begin no_codes o w rest between end = end.begins rest
others_begin (code_more c cs) o w rest between end = next_begins o (code_text c) (more_codes o cs) (w ++ rest) between

mutual
  pub code_says : (c : CodeTree) → IsSpelled c → Says (SpellsCode c) (code_text c)
  code_says (code_lit k) h = number_says k h
  code_says (code_truth t) h = truth_says t
  code_says (code_var x) h = variable_says x h
  code_says (code_set_of no_codes) h = λ rest stops. then (opening_brace.gives (codes "}" ++ rest)) (closing_brace.gives rest)
  code_says (code_set_of (code_more c cs)) h = λ rest stops.
      set_form (code_text c) (more_codes (codes ", ") cs) rest (code_says c h.0) (others_begin cs (codes ", ") (codes "}") rest comma closing_brace)
      (others_say cs h.1 (codes ", ") (codes "}") comma closing_brace rest)
  code_says (code_tuple cs) h = listed_form cs (codes_text (codes ", ") cs) h.0 (codes_say cs (omega arith) h.1 (codes ", ") (codes ")") comma closing)
  code_says (code_sum cs) h = listed_form cs (codes_text (codes " + ") cs) h.0 (codes_say cs (omega arith) h.1 (codes " + ") (codes ")") plus closing)
  code_says (code_union cs) h = listed_form cs (codes_text (codes " union ") cs) h.0
      (codes_say cs (omega arith) h.1 (codes " union ") (codes ")") (spaced_word (codes "union") refl) closing)
  code_says (code_inter cs) h = listed_form cs (codes_text (codes " inter ") cs) h.0
      (codes_say cs (omega arith) h.1 (codes " inter ") (codes ")") (spaced_word (codes "inter") refl) closing)
  code_says (code_sub a b) h = pair_form (code_text a) (codes " - ") (code_text b) (code_says a h.0) less (code_says b h.1)
  code_says (code_mul a b) h = pair_form (code_text a) (codes " * ") (code_text b) (code_says a h.0) times (code_says b h.1)
  code_says (code_diff a b) h = pair_form (code_text a) (codes " diff ") (code_text b) (code_says a h.0) (spaced_word (codes "diff") refl) (code_says b h.1)
  code_says (code_compare o a b) h = pair_form (code_text a) (order_text o) (code_text b) (code_says a h.0) (order_mark o) (code_says b h.1)
  code_says (code_subset a b) h = pair_form (code_text a) (codes " subset ") (code_text b) (code_says a h.0) (spaced_word (codes "subset") refl)
      (code_says b h.1)
  code_says (code_and a b) h = pair_form (code_text a) (codes " && ") (code_text b) (code_says a h.0) both_hold (code_says b h.1)
  code_says (code_or a b) h = pair_form (code_text a) (codes " || ") (code_text b) (code_says a h.0) one_holds (code_says b h.1)
  code_says (code_divides k a) h = pair_form (signed_decimal k) (codes " divides ") (code_text a) (divisor_says k h.0) (spaced_word (codes "divides") refl)
      (code_says a h.1)
  code_says (code_neg a) h = one_called (codes "neg") (code_text a) refl (code_says a h)
  code_says (code_not a) h = one_called (codes "not") (code_text a) refl (code_says a h)
  code_says (code_card a) h = one_called (codes "card") (code_text a) refl (code_says a h)
  code_says (code_div a k) h = two_called (codes "div") (code_text a) (signed_decimal k) refl (code_says a h.1) (divisor_says k h.0)
  code_says (code_mod a k) h = two_called (codes "mod") (code_text a) (signed_decimal k) refl (code_says a h.1) (divisor_says k h.0)
  code_says (code_min cs) h = λ rest stops.
      list_called (codes "min") (codes_text (codes ", ") cs) rest refl (codes_say cs h.0 h.1 (codes ", ") (codes ")") comma closing rest)
  code_says (code_max cs) h = λ rest stops.
      list_called (codes "max") (codes_text (codes ", ") cs) rest refl (codes_say cs h.0 h.1 (codes ", ") (codes ")") comma closing rest)
  code_says (code_slice a b c) h = three_called (codes "slice") (code_text a) (code_text b) (code_text c) refl (code_says a h.0) (code_says b h.1)
      (code_says c h.2)
  code_says (code_fresh a b) h = two_called (codes "fresh") (code_text a) (code_text b) refl (code_says a h.0) (code_says b h.1)
  code_says (code_if t a b) h =
      headed_form (codes "if") (code_text t) (codes " then ") (code_text a) (codes " else ") (code_text b) refl (code_says t h.0)
      (spaced_word (codes "then") refl) (code_says a h.1)
      (spaced_word (codes "else") refl) (code_says b h.2)
  code_says (code_let first n a b) h =
      headed_form (codes "let") (variables_text first n) (codes " = ") (code_text a) (codes " in ") (code_text b) refl (variables_say first n h.0 h.1) equals
      (code_says a h.2)
      (spaced_word (codes "in") refl) (code_says b h.3)
  code_says (code_solve n arms) h = solve_form (decimal n) (arms_text arms) (numeral_says n h.0) (arms_say arms h.1)

  codes_say : {k close : TokenKind} (cs : CodeTrees) → 1 ≤ count cs → AreSpelled cs → (o w : List ℕ) → Mark k o → Mark close w → (rest : List ℕ) →
      Spans (SpellsCodes cs k close) (codes_text o cs ++ (w ++ rest)) rest
  codes_say no_codes some h o w between end rest = absurd (omega arith)
  codes_say (code_more c cs) some h o w between end rest =
      first_part (code_text c) (more_codes o cs) (w ++ rest) (code_says c h.0) (others_begin cs o w rest between end) (others_say cs h.1 o w between end rest)

  others_say : {k close : TokenKind} (cs : CodeTrees) → AreSpelled cs → (o w : List ℕ) → Mark k o → Mark close w → (rest : List ℕ) →
      Spans (SpellsOthers cs k close) (more_codes o cs ++ (w ++ rest)) rest
  others_say no_codes h o w between end rest = end.gives rest
  others_say (code_more c cs) h o w between end rest =
      next_part o (code_text c) (more_codes o cs) (w ++ rest) between (code_says c h.0) (others_begin cs o w rest between end)
      (others_say cs h.1 o w between end rest)

  arms_say : (arms : ArmTrees) → AreArmsSpelled arms → (rest : List ℕ) → Spans (SpellsArms arms) (arms_text arms ++ (codes "}" ++ rest)) rest
  arms_say no_arms h rest = closing_brace.gives rest
  arms_say (arm_more (arm_of bounds is gs) arms) h rest =
      joined_parts (arm_text (arm_of bounds is gs)) (arms_text arms) (codes "}" ++ rest)
      (arm_form (listed (map decimal bounds)) (items_text is) (gives_text gs) (arms_text arms ++ (codes "}" ++ rest)) (bounds_say bounds h.0) (items_say is h.1)
      (gives_say gs h.2 h.3))
      (arms_say arms h.4 rest)

  items_say : (is : ItemTrees) → AreItemsSpelled is → (rest : List ℕ) → Spans (SpellsItems is) (items_text is ++ (codes "give " ++ rest)) rest
  items_say no_items h rest = spaced (codes "give") rest refl
  items_say (item_more (let_item c) is) h rest =
      joined_parts (item_text (let_item c)) (items_text is) (codes "give " ++ rest)
      (item_form (codes "let") (code_text c) (items_text is ++ (codes "give " ++ rest)) refl (code_says c h.0))
      (items_say is h.1 rest)
  items_say (item_more (need_item c) is) h rest =
      joined_parts (item_text (need_item c)) (items_text is) (codes "give " ++ rest)
      (item_form (codes "need") (code_text c) (items_text is ++ (codes "give " ++ rest)) refl (code_says c h.0))
      (items_say is h.1 rest)

  gives_say : (gs : CodeTrees) → AreGives gs → AreSpelled gs → Says (SpellsGives gs) (gives_text gs)
  gives_say no_codes some h = absurd some
  gives_say (code_more c no_codes) some h = λ rest stops. as_form (λ ts more s. (some, s)) (code_says c h.0 rest stops)
  gives_say (code_more c (code_more d cs)) some h = λ rest stops.
      gives_form (code_text c) (code_text d) (more_codes (codes ", ") cs) rest (code_says c h.0)
      (others_say (code_more d cs) h.1 (codes ", ") (codes ")") comma closing rest)

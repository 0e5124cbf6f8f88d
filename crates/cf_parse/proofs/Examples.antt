-- Worked examples of source texts: each production, and what is refused beside it.
use Rattle.std.proofs.Common.{◌≡◌, ℕ, true, false, List, [], ◌∷◌, map, Some, None, Ok, Err, refl, codes}
use Rattle.std.specs.Prelude.{pos, negsuc}
use Rattle.cf_tree.specs.declared.base.Edition.TheVariants.{Two}
use Rattle.cf_lex.specs.declared.token.Token.{Token}
use Rattle.cf_tree.specs.declared.base.Base.TheVariants.{Int, Set}
use Rattle.cf_tree.specs.declared.base.Order.TheVariants.{Eq, Lt, Ge}
use Rattle.cf_tree.specs.declared.raw.BinOp.TheVariants.{Add, Sub, Mul, And, Or, Union, Inter, Diff, Subset, Compare}
use Rattle.cf_tree.specs.RawTree.{RawTree, raw_lit, raw_truth, raw_name, raw_set_of, raw_group, raw_tuple, raw_neg, raw_not, raw_abs, raw_binary, raw_divides, raw_div, raw_mod, raw_card, raw_call, raw_if, raw_let, raw_choose, raw_match, raw_arm, no_raws, raws_of, raw_arms_of, number_lit, no_given, no_aim}
use Rattle.cf_tree.specs.DefView.{RawItemTree, item_def}
use Rattle.cf_reader.specs.Readers.{at, pure, refuse, must, bind, first, deep, at_end, more_of, others_of, several_of, one_or_tuple}
use Rattle.cf_reader.specs.Kinds.{results_of}
use Rattle.cf_reader.specs.Operations.{op_of}
use Rattle.cf_reader.proofs.Sample.{here, word, sign, literal}
use Rattle.cf_parse.specs.declared.tier.Tier.TheVariants.{Whole}
use Rattle.cf_parse.specs.Reading.{next_op, next_order, divides_by, number_of, param_of, params_of, hidden_of, more_outputs, outputs_of, names_of, named_term, term_of, terms_of, all_terms, pattern_of, chain_of, list_of, items_of, one_of, divided_of, two_or_more_of, operation_of, behind_name, named_of, word_of, atom_of, unary_of, muls_of, sums_of, links_of, linked_of, compared_of, cmps_of, ands_of, ors_of, implied_of, imps_of, let_of, if_of, given_of, aim_of, choose_of, arm_of, match_of, whole_of, step, read}
use Rattle.cf_parse.specs.Programs.{IsProgram, def_from, def_of, item_of, items_from, all_items, some_items, program_of}
use Rattle.cf_parse.proofs.Programs.{found_law}

abbrev x : RawTree
x = raw_name here (codes "x")

abbrev y : RawTree
y = raw_name here (codes "y")

abbrev z : RawTree
z = raw_name here (codes "z")

-- expressions and their tokens
abbrev spelled : List (RawTree × List Token)
spelled =
    -- literals, truth values and names
    (raw_lit here (pos 7), literal 7 ∷ []) ∷
    (raw_truth here true, word (codes "true") ∷ []) ∷
    (raw_name here (codes "x"), word (codes "x") ∷ []) ∷
    -- sets
    (raw_set_of here no_raws, sign (codes "{") ∷ sign (codes "}") ∷ []) ∷
    (raw_set_of here (raws_of (x ∷ y ∷ [])), sign (codes "{") ∷ word (codes "x") ∷ sign (codes ",") ∷ word (codes "y") ∷ sign (codes "}") ∷ []) ∷
    -- parentheses and tuples
    (raw_group here x, sign (codes "(") ∷ word (codes "x") ∷ sign (codes ")") ∷ []) ∷ (
      raw_tuple here (raws_of (x ∷ y ∷ z ∷ [])),
      sign (codes "(") ∷ word (codes "x") ∷ sign (codes ",") ∷ word (codes "y") ∷ sign (codes ",") ∷ word (codes "z")
          ∷ sign (codes ")") ∷ [],
    ) ∷
    -- one part
    (raw_neg here x, sign (codes "-") ∷ word (codes "x") ∷ []) ∷
    (raw_not here x, sign (codes "!") ∷ word (codes "x") ∷ []) ∷
    (raw_neg here (raw_neg here x), sign (codes "-") ∷ sign (codes "-") ∷ word (codes "x") ∷ []) ∷
    (raw_abs here x, word (codes "abs") ∷ sign (codes "(") ∷ word (codes "x") ∷ sign (codes ")") ∷ []) ∷
    (raw_card here x, word (codes "card") ∷ sign (codes "(") ∷ word (codes "x") ∷ sign (codes ")") ∷ []) ∷
    -- a part and a literal
    (raw_div here x (number_lit (pos 2)), word (codes "div") ∷ sign (codes "(") ∷ word (codes "x") ∷ sign (codes ",") ∷ literal 2 ∷ sign (codes ")") ∷ []) ∷
    (raw_mod here x (number_lit (pos 2)), word (codes "mod") ∷ sign (codes "(") ∷ word (codes "x") ∷ sign (codes ",") ∷ literal 2 ∷ sign (codes ")") ∷ []) ∷
    (raw_divides here (number_lit (pos 2)) x, literal 2 ∷ word (codes "divides") ∷ word (codes "x") ∷ []) ∷
    (raw_divides here (number_lit (pos 2)) (raw_binary here Add x y), literal 2 ∷ word (codes "divides") ∷ word (codes "x") ∷ sign (codes "+") ∷ word (codes "y") ∷ []) ∷
    -- calls
    (raw_call here (codes "f") no_raws, word (codes "f") ∷ sign (codes "(") ∷ sign (codes ")") ∷ []) ∷ (
      raw_call here (codes "f") (raws_of (x ∷ y ∷ [])),
      word (codes "f") ∷ sign (codes "(") ∷ word (codes "x") ∷ sign (codes ",") ∷ word (codes "y") ∷ sign
          (codes ")") ∷ [],
    ) ∷
    -- chains group to the left, and each operation has its tier
    (raw_binary here Sub (raw_binary here Sub x y) z, word (codes "x") ∷ sign (codes "-") ∷ word (codes "y") ∷ sign (codes "-") ∷ word (codes "z") ∷ []) ∷
    (raw_binary here Add x (raw_binary here Mul y z), word (codes "x") ∷ sign (codes "+") ∷ word (codes "y") ∷ sign (codes "*") ∷ word (codes "z") ∷ []) ∷
    (raw_binary here Add (raw_binary here Mul x y) z, word (codes "x") ∷ sign (codes "*") ∷ word (codes "y") ∷ sign (codes "+") ∷ word (codes "z") ∷ []) ∷
    (raw_binary here Mul (raw_binary here Mul x y) z, word (codes "x") ∷ sign (codes "*") ∷ word (codes "y") ∷ sign (codes "*") ∷ word (codes "z") ∷ []) ∷ (
      raw_binary here Union x (raw_binary here Inter y z),
      word (codes "x") ∷ word (codes "union") ∷ word (codes "y") ∷ word (codes "inter") ∷ word (codes "z") ∷
          [],
    ) ∷ (
      raw_binary here Diff (raw_binary here Union x y) z,
      word (codes "x") ∷ word (codes "union") ∷ word (codes "y") ∷ word (codes "diff") ∷ word (codes "z") ∷
          [],
    ) ∷ (
      raw_binary here (Compare Lt) (raw_binary here Add x y) z,
      word (codes "x") ∷ sign (codes "+") ∷ word (codes "y") ∷ sign (codes "<") ∷ word (codes "z") ∷
          [],
    ) ∷ (
      raw_binary here (Compare Ge) x (raw_binary here Add y z),
      word (codes "x") ∷ sign (codes ">=") ∷ word (codes "y") ∷ sign (codes "+") ∷ word (codes "z") ∷
          [],
    ) ∷ (
      raw_binary here Subset x (raw_binary here Union y z),
      word (codes "x") ∷ word (codes "subset") ∷ word (codes "y") ∷ word (codes "union") ∷ word (codes "z")
          ∷ [],
    ) ∷ (
      raw_binary here And (raw_binary here (Compare Eq) x y) z,
      word (codes "x") ∷ sign (codes "==") ∷ word (codes "y") ∷ sign (codes "&&") ∷ word (codes "z") ∷
          [],
    ) ∷
    (raw_binary here And (raw_binary here And x y) z, word (codes "x") ∷ sign (codes "&&") ∷ word (codes "y") ∷ sign (codes "&&") ∷ word (codes "z") ∷ []) ∷
    (raw_binary here Or x (raw_binary here And y z), word (codes "x") ∷ sign (codes "||") ∷ word (codes "y") ∷ sign (codes "&&") ∷ word (codes "z") ∷ []) ∷
    (raw_binary here Or (raw_binary here And x y) z, word (codes "x") ∷ sign (codes "&&") ∷ word (codes "y") ∷ sign (codes "||") ∷ word (codes "z") ∷ []) ∷
    (raw_binary here Or (raw_binary here Or x y) z, word (codes "x") ∷ sign (codes "||") ∷ word (codes "y") ∷ sign (codes "||") ∷ word (codes "z") ∷ []) ∷
    (raw_binary here Mul (raw_neg here x) y, sign (codes "-") ∷ word (codes "x") ∷ sign (codes "*") ∷ word (codes "y") ∷ []) ∷
    -- forms of the outermost tier
    (raw_if here x y z, word (codes "if") ∷ word (codes "x") ∷ word (codes "then") ∷ word (codes "y") ∷ word (codes "else") ∷ word (codes "z") ∷ []) ∷ (
      raw_let here (codes "x" ∷ []) (here ∷ []) y x,
      word (codes "let") ∷ word (codes "x") ∷ sign (codes "=") ∷ word (codes "y") ∷ word (codes "in") ∷ word
          (codes "x") ∷ [],
    ) ∷ (
      raw_let here (codes "x" ∷ codes "y" ∷ []) (here ∷ here ∷ []) z x,
      word (codes "let") ∷ sign (codes "(") ∷ word (codes "x") ∷ sign (codes ",") ∷ word
          (codes "y") ∷ sign (codes ")") ∷ sign (codes "=") ∷ word (codes "z") ∷ word (codes "in") ∷ word (codes "x") ∷ [],
    ) ∷ (
      raw_choose here (record { place = here; name = codes "x"; base = Int } ∷ record { place = here; name = codes "y"; base = Set } ∷ []) []
          no_given (raw_binary here Or x y) no_aim,
      word (codes "choose") ∷ sign (codes "(") ∷ word (codes "x") ∷ sign (codes ":") ∷ word (codes "int") ∷ sign (codes ",") ∷ word
          (codes "y") ∷ sign (codes ":") ∷ word (codes "set") ∷ sign (codes ")") ∷ word (codes "where") ∷ word (codes "x") ∷ sign (codes "||") ∷ word
          (codes "y")
          ∷ [],
    ) ∷ (
      raw_match here x (raw_arms_of (raw_arm (record { start = here; is_negative = false; factor = None; place = here; name = codes "a" } ∷ []) (pos 0) y ∷ raw_arm [] (pos 3) z ∷ [])),
      word (codes "match") ∷ word (codes "x") ∷ word (codes "with") ∷ sign (codes "{") ∷ word (codes "a") ∷ word (codes "then") ∷ word (codes "y") ∷ sign
          (codes ";") ∷ literal 3 ∷ word (codes "then") ∷ word (codes "z") ∷ sign (codes "}") ∷ [],
    ) ∷ (
      raw_match here x (raw_arms_of (raw_arm (record { start = here; is_negative = true; factor = Some (number_lit (pos 2)); place = here; name = codes "a" } ∷ record
          { start = here; is_negative = false; factor = Some (number_lit (pos 3)); place = here; name = codes "b" } ∷ record
          { start = here; is_negative = true; factor = None; place = here; name = codes "c" } ∷ []) (negsuc 3) y ∷ [])),
      word (codes "match") ∷ word (codes "x") ∷ word (codes "with") ∷ sign (codes "{") ∷ sign (codes "-") ∷ literal 2 ∷ sign (codes "*") ∷ word (codes "a") ∷
          sign (codes "+") ∷ literal 3 ∷ sign (codes "*") ∷ word (codes "b") ∷ sign (codes "-") ∷ word (codes "c") ∷ sign (codes "-") ∷ literal 4 ∷ word
          (codes "then") ∷ word (codes "y") ∷ sign (codes "}") ∷ [],
    ) ∷ (
      raw_match here x (raw_arms_of (raw_arm [] (negsuc 2) y ∷ [])),
      word (codes "match") ∷ word (codes "x") ∷ word (codes "with") ∷ sign (codes "{") ∷ sign
          (codes "-") ∷ literal 3 ∷ word (codes "then") ∷ word (codes "y") ∷ sign (codes "}") ∷ [],
    ) ∷
    []

spelled-read : map (λ e. read Two 4 Whole e.1) spelled ≡ map (λ e. Ok (e.0, [])) spelled
unfolding at pure refuse must bind first deep at_end more_of others_of several_of one_or_tuple op_of results_of next_op next_order divides_by number_of param_of params_of hidden_of more_outputs outputs_of names_of named_term term_of terms_of all_terms pattern_of chain_of list_of items_of one_of divided_of two_or_more_of operation_of behind_name named_of word_of atom_of unary_of muls_of sums_of links_of linked_of compared_of cmps_of ands_of ors_of implied_of imps_of let_of if_of given_of aim_of choose_of arm_of match_of whole_of step read
spelled-read = refl

-- tokens that do not spell an expression to their end, by how many are left from the fault on, or behind what was read
abbrev refused : List (ℕ × List Token)
refused =
    -- no tuple of none
    (1, sign (codes "(") ∷ sign (codes ")") ∷ []) ∷
    -- a tuple has no comma at its end
    (1, sign (codes "(") ∷ word (codes "x") ∷ sign (codes ",") ∷ sign (codes ")") ∷ []) ∷
    -- a divisor is at least 1
    (2, word (codes "div") ∷ sign (codes "(") ∷ word (codes "x") ∷ sign (codes ",") ∷ literal 0 ∷ sign (codes ")") ∷ []) ∷
    -- forms of the outermost tier stand inside others only in parentheses
    (
      6,
      word (codes "x") ∷ sign (codes "+") ∷ word (codes "if") ∷ word (codes "x") ∷ word (codes "then") ∷ word (codes "y") ∷ word (codes "else") ∷ word
          (codes "z") ∷ [],
    ) ∷ (
      6,
      word (codes "choose") ∷ sign (codes "(") ∷ word (codes "x") ∷ sign (codes ":") ∷ word (codes "int") ∷ sign (codes ")") ∷ word (codes "where") ∷ word
          (codes "let") ∷ word (codes "x") ∷ sign (codes "=") ∷ word (codes "y") ∷ word (codes "in") ∷ word (codes "x") ∷ [],
    ) ∷
    -- a choose has outputs
    (
      7,
      word (codes "choose") ∷ sign (codes "(") ∷ sign (codes ")") ∷ word (codes "where") ∷ word (codes "x") ∷ sign (codes "==") ∷ word (codes "y") ∷ sign
          (codes "&&") ∷ word (codes "z") ∷ [],
    ) ∷
    -- a match has arms, without a semicolon at the end
    (1, word (codes "match") ∷ word (codes "x") ∷ word (codes "with") ∷ sign (codes "{") ∷ sign (codes "}") ∷ []) ∷ (
      1,
      word (codes "match") ∷ word (codes "x") ∷ word (codes "with") ∷ sign (codes "{") ∷ literal 1 ∷ word (codes "then") ∷ word (codes "x") ∷ sign (codes ";")
          ∷ sign (codes "}") ∷ [],
    ) ∷
    -- a constant comes last in a pattern
    (
      5,
      word (codes "match") ∷ word (codes "x") ∷ word (codes "with") ∷ sign (codes "{") ∷ literal 1 ∷ sign (codes "+") ∷ word (codes "a") ∷ word (codes "then")
          ∷ word (codes "y") ∷ sign (codes "}") ∷ [],
    ) ∷
    -- a reserved word is no name
    (1, word (codes "where") ∷ []) ∷
    -- an expression past the depth
    (4, sign (codes "-") ∷ sign (codes "(") ∷ sign (codes "-") ∷ sign (codes "(") ∷ word (codes "x") ∷ sign (codes ")") ∷ sign (codes ")") ∷ []) ∷ (
      3,
      sign (codes "(") ∷ word (codes "x") ∷ sign (codes "+") ∷ word (codes "x") ∷ sign (codes "+") ∷ word (codes "x") ∷ sign (codes "+") ∷ word (codes "x") ∷
          sign (codes ")") ∷ [],
    ) ∷
    []

refused-read : map (λ e. read Two 4 Whole e.1) refused ≡ map (λ e. Err e.0) refused
unfolding at pure refuse must bind first deep at_end more_of others_of several_of one_or_tuple op_of results_of next_op next_order divides_by number_of param_of params_of hidden_of more_outputs outputs_of names_of named_term term_of terms_of all_terms pattern_of chain_of list_of items_of one_of divided_of two_or_more_of operation_of behind_name named_of word_of atom_of unary_of muls_of sums_of links_of linked_of compared_of cmps_of ands_of ors_of implied_of imps_of let_of if_of given_of aim_of choose_of arm_of match_of whole_of step read
refused-read = refl

-- a program of two functions
abbrev two : List RawItemTree
two =
    item_def (record { place = here; name = codes "f"; params = record { place = here; name = codes "x"; base = Int } ∷ []; results = Int ∷ Set ∷ []; body = x })
    ∷ item_def (record { place = here; name = codes "main"; params = []; results = Int ∷ []; body = raw_lit here (pos 1) }) ∷ []

abbrev two_spelled : List Token
two_spelled = word (codes "def") ∷ word (codes "f") ∷ sign (codes "(") ∷ word (codes "x") ∷ sign (codes ":") ∷ word (codes "int") ∷ sign (codes ")") ∷ sign
    (codes ":") ∷ sign (codes "(") ∷ word (codes "int") ∷ sign (codes ",") ∷ word (codes "set") ∷ sign (codes ")") ∷ sign (codes "=") ∷ word (codes "x") ∷ word
    (codes "def") ∷ word (codes "main") ∷ sign (codes "(") ∷ sign (codes ")") ∷ sign (codes ":") ∷ word (codes "int") ∷ sign (codes "=") ∷ literal 1 ∷ []

two-functions : IsProgram Two two two_spelled
unfolding def_from def_of item_of items_from all_items some_items program_of at pure refuse must bind first deep at_end more_of others_of several_of one_or_tuple op_of results_of next_op next_order divides_by number_of param_of params_of hidden_of more_outputs outputs_of names_of named_term term_of terms_of all_terms pattern_of chain_of list_of items_of one_of divided_of two_or_more_of operation_of behind_name named_of word_of atom_of unary_of muls_of sums_of links_of linked_of compared_of cmps_of ands_of ors_of implied_of imps_of let_of if_of given_of aim_of choose_of arm_of match_of whole_of step read
two-functions = found_law Two two_spelled two [] refl

-- a comparison is no chain; only a literal of at least 1 divides, and what it divides is no such form again
no-chain : program_of Two 200 (word (codes "def") ∷ word (codes "main") ∷ sign (codes "(") ∷ sign (codes ")") ∷ sign (codes ":") ∷ word (codes "int") ∷ sign
    (codes "=") ∷ word (codes "x") ∷ sign (codes "==") ∷ word (codes "y") ∷ sign (codes "==") ∷ word (codes "z") ∷ []) ≡ Err 2
unfolding def_from def_of item_of items_from all_items some_items program_of at pure refuse must bind first deep at_end more_of others_of several_of one_or_tuple op_of results_of next_op next_order divides_by number_of param_of params_of hidden_of more_outputs outputs_of names_of named_term term_of terms_of all_terms pattern_of chain_of list_of items_of one_of divided_of two_or_more_of operation_of behind_name named_of word_of atom_of unary_of muls_of sums_of links_of linked_of compared_of cmps_of ands_of ors_of implied_of imps_of let_of if_of given_of aim_of choose_of arm_of match_of whole_of step read
no-chain = refl

name-divides : program_of Two 200 (word (codes "def") ∷ word (codes "main") ∷ sign (codes "(") ∷ sign (codes ")") ∷ sign (codes ":") ∷ word (codes "int") ∷ sign
    (codes "=") ∷ word (codes "x") ∷ word (codes "divides") ∷ word (codes "y") ∷ []) ≡ Err 2
unfolding def_from def_of item_of items_from all_items some_items program_of at pure refuse must bind first deep at_end more_of others_of several_of one_or_tuple op_of results_of next_op next_order divides_by number_of param_of params_of hidden_of more_outputs outputs_of names_of named_term term_of terms_of all_terms pattern_of chain_of list_of items_of one_of divided_of two_or_more_of operation_of behind_name named_of word_of atom_of unary_of muls_of sums_of links_of linked_of compared_of cmps_of ands_of ors_of implied_of imps_of let_of if_of given_of aim_of choose_of arm_of match_of whole_of step read
name-divides = refl

zero-divides : program_of Two 200 (word (codes "def") ∷ word (codes "main") ∷ sign (codes "(") ∷ sign (codes ")") ∷ sign (codes ":") ∷ word (codes "int") ∷ sign
    (codes "=") ∷ literal 0 ∷ word (codes "divides") ∷ word (codes "y") ∷ []) ≡ Err 2
unfolding def_from def_of item_of items_from all_items some_items program_of at pure refuse must bind first deep at_end more_of others_of several_of one_or_tuple op_of results_of next_op next_order divides_by number_of param_of params_of hidden_of more_outputs outputs_of names_of named_term term_of terms_of all_terms pattern_of chain_of list_of items_of one_of divided_of two_or_more_of operation_of behind_name named_of word_of atom_of unary_of muls_of sums_of links_of linked_of compared_of cmps_of ands_of ors_of implied_of imps_of let_of if_of given_of aim_of choose_of arm_of match_of whole_of step read
zero-divides = refl

divides-divides : program_of Two 200 (word (codes "def") ∷ word (codes "main") ∷ sign (codes "(") ∷ sign (codes ")") ∷ sign (codes ":") ∷ word (codes "int") ∷ sign
    (codes "=") ∷ literal 1 ∷ word (codes "divides") ∷ word (codes "y") ∷ word (codes "divides") ∷ word (codes "z") ∷ []) ≡ Err 2
unfolding def_from def_of item_of items_from all_items some_items program_of at pure refuse must bind first deep at_end more_of others_of several_of one_or_tuple op_of results_of next_op next_order divides_by number_of param_of params_of hidden_of more_outputs outputs_of names_of named_term term_of terms_of all_terms pattern_of chain_of list_of items_of one_of divided_of two_or_more_of operation_of behind_name named_of word_of atom_of unary_of muls_of sums_of links_of linked_of compared_of cmps_of ands_of ors_of implied_of imps_of let_of if_of given_of aim_of choose_of arm_of match_of whole_of step read
divides-divides = refl

no-functions : program_of Two 200 ([]) ≡ Err 0
unfolding def_from def_of item_of items_from all_items some_items program_of at pure refuse must bind first deep at_end more_of others_of several_of one_or_tuple op_of results_of next_op next_order divides_by number_of param_of params_of hidden_of more_outputs outputs_of names_of named_term term_of terms_of all_terms pattern_of chain_of list_of items_of one_of divided_of two_or_more_of operation_of behind_name named_of word_of atom_of unary_of muls_of sums_of links_of linked_of compared_of cmps_of ands_of ors_of implied_of imps_of let_of if_of given_of aim_of choose_of arm_of match_of whole_of step read
no-functions = refl

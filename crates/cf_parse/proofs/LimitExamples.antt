-- The limit of the depth of a source as a number: on both sides of it.
use Rattle.std.proofs.Common.{ℕ, zero, suc, List, [], ◌∷◌, refl, codes, arith}
use Rattle.std.specs.Prelude.{pos}
use Rattle.cf_tree.specs.declared.base.Edition.TheVariants.{Two}
use Rattle.cf_lex.specs.declared.token.Token.{Token}
use Rattle.cf_tree.specs.declared.base.Base.TheVariants.{Int}
use Rattle.cf_tree.specs.RawTree.{RawTree, raw_lit, raw_neg}
use Rattle.cf_tree.specs.DefView.{RawItemTree, item_def}
use Rattle.cf_reader.specs.Readers.{at, pure, refuse, must, bind, first, deep, at_end, more_of, others_of, several_of, one_or_tuple}
use Rattle.cf_reader.specs.Kinds.{results_of}
use Rattle.cf_reader.specs.Operations.{op_of}
use Rattle.cf_reader.proofs.Sample.{here, word, sign, literal}
use Rattle.cf_parse.specs.Reading.{next_op, next_order, divides_by, number_of, param_of, params_of, hidden_of, more_outputs, outputs_of, names_of, named_term, term_of, terms_of, all_terms, pattern_of, chain_of, list_of, items_of, one_of, divided_of, two_or_more_of, operation_of, behind_name, named_of, word_of, atom_of, unary_of, muls_of, sums_of, links_of, linked_of, compared_of, cmps_of, ands_of, ors_of, implied_of, imps_of, let_of, if_of, given_of, aim_of, choose_of, arm_of, match_of, whole_of, step, read}
use Rattle.cf_parse.specs.Programs.{IsProgram, def_from, def_of, item_of, items_from, all_items, some_items, program_of}
use Rattle.cf_parse.proofs.Programs.{found_law}

-- so many signs before 1
abbrev negated : ℕ → RawTree
negated zero = raw_lit here (pos 1)
negated (suc n) = raw_neg here (negated n)

abbrev signs : ℕ → List Token
signs zero = literal 1 ∷ []
signs (suc n) = sign (codes "-") ∷ signs n

abbrev program : ℕ → List RawItemTree
program n = item_def (record { place = here; name = codes "main"; params = []; results = Int ∷ []; body = negated n }) ∷ []

abbrev tokens : ℕ → List Token
tokens n = word (codes "def") ∷ word (codes "main") ∷ sign (codes "(") ∷ sign (codes ")") ∷ sign (codes ":") ∷ word (codes "int") ∷ sign (codes "=") ∷ signs n

-- 199 signs and the number make a depth of 200
deepest-program : IsProgram Two (program 199) (tokens 199)
unfolding def_from def_of item_of items_from all_items some_items program_of at pure refuse must bind first deep at_end more_of others_of several_of one_or_tuple op_of results_of next_op next_order divides_by number_of param_of params_of hidden_of more_outputs outputs_of names_of named_term term_of terms_of all_terms pattern_of chain_of list_of items_of one_of divided_of two_or_more_of operation_of behind_name named_of word_of atom_of unary_of muls_of sums_of links_of linked_of compared_of cmps_of ands_of ors_of implied_of imps_of let_of if_of given_of aim_of choose_of arm_of match_of whole_of step read
deepest-program = found_law Two (tokens 199) (program 199) [] refl

one-level_more : (ts : List Token) → IsProgram Two (program 200) ts → ⊥
one-level_more ts h = omega (arith, h.1.2.2.2.2.2.2.2.0)

-- A worked example: the functions of a file, by their statements.
use Rattle.std.specs.Prelude.{false, [], ◌∷◌, refl, codes}
use Rattle.std.specs.Fmt.{digits}
use Rattle.cf_tree.specs.declared.base.Base.TheVariants.{Int}
use Rattle.cf_print.specs.declared.language.Language.TheVariants.{C}
use Rattle.cf_print_c.specs.Files.{comment_by, beginning_by}
use Rattle.cf_print_block.specs.Places.{deeper, leaving_by, behind_arm, giving, name_in, put, taking, freed, behind_one, at_hand}
use Rattle.cf_print_block.specs.Statements.{with_let, with_variable, bound_for, inner_behind, function_of, begun, results_held, called, in_place, give_back, first_side, branched, tested, plain_arm, function_name}
use Rattle.cf_print_program.specs.Printed.{Printing, Names, setting_of, called_of, first_draft, functions_of}
use Rattle.cf_print_scopes.specs.Scopes.{silent, chained, an_end, a_call, one_function}
use Rattle.cf_print_scopes.specs.Files.{IsScoped}
use Rattle.cf_print_scopes.proofs.ScopeExamples.{two_ways, picking, picks}

abbrev names : Names
names = record { params = codes "x" ∷ []; outputs = λ n. []; results = [] }

abbrev program : Printing
program = record {
  language = C;
  has_main = false;
  name = codes "ten";
  source = codes "def";
  params = Int ∷ [];
  results = Int ∷ [];
  body = two_ways;
}

-- one function for a part, and the one that is called
of_a_file : IsScoped names program
unfolding digits with_let with_variable bound_for inner_behind function_of begun results_held called in_place give_back first_side branched tested plain_arm function_name deeper leaving_by behind_arm giving name_in put taking freed behind_one at_hand setting_of called_of first_draft functions_of comment_by beginning_by
of_a_file = record {
  parts = picking;
  are = one_function picks;
  body =
      codes "    if (past)\n        return COMFUSY_OVERFLOW;\n    whole n1 = 0;\n    int status = choose_7(x, &n1);\n    if (status)\n        return status;\n    *out = n1;\n    return past ? COMFUSY_OVERFLOW : 0;\n";
  end = codes "x" ∷ codes "out" ∷ codes "n1" ∷ codes "status" ∷ [];
  is = refl;
  new = (refl, (refl, tt));
  scoped = chained (a_call 1 (codes "status") (Int ∷ []) (codes "n1" ∷ []) (codes "choose_7") (codes "x" ∷ []) (refl, (refl, tt)))
      (silent (an_end 1 (codes "out" ∷ []) (codes "n1" ∷ [])));
}

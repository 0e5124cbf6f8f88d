-- Worked examples: names of one scope, and statements in which they are declared.
use Rattle.std.specs.Prelude.{◌≡◌, ℕ, pos, true, false, List, [], ◌∷◌, ◌++◌, codes, refl}
use Rattle.std.specs.Fmt.{digits}
use Rattle.cf_tree.specs.declared.base.Base.TheVariants.{Int}
use Rattle.cf_tree.specs.declared.base.Order.TheVariants.{Ge}
use Rattle.cf_tree.specs.CodeTree.{code_lit, code_var, code_compare}
use Rattle.cf_range.specs.Ranges.{whole}
use Rattle.cf_stmt.specs.Blocks.{Block, give, none, leave, bind, test, arm}
use Rattle.cf_print_term.specs.Expressions.{Sight}
use Rattle.cf_print.specs.declared.language.Language.TheVariants.{C, Python, JavaScript, Rust}
use Rattle.cf_print_shape.specs.declared.exit.Exit.TheVariants.{Falls, GoesOn, Ends}
use Rattle.cf_print_block.specs.declared.place.Giving.TheVariants.{Results}
use Rattle.cf_print_block.specs.declared.place.Place.{Place}
use Rattle.cf_print_block.specs.Places.{Setting, Draft, deeper, leaving_by, behind_arm, giving, name_in, put, taking, freed, behind_one, at_hand}
use Rattle.cf_print_block.specs.Statements.{block, with_let, with_variable, bound_for, inner_behind, function_of, begun, results_held, called, in_place, give_back, first_side, branched, tested, plain_arm, function_name}
use Rattle.cf_print_scopes.specs.Scopes.{IsNew, AreNew, is_fit, AreNames, IsSilent, no_lines, a_comment, an_unread, a_guard, an_exit, an_end, AreScoped, silent, chained, a_variable, a_call, a_side, two_sides, an_arm, a_search, IsFunction, AreFunctions, no_functions, one_function, more_functions, Grows}

-- ---- names
of_a_scope : AreNames C (codes "x" ∷ codes "out" ∷ codes "n1" ∷ [])
of_a_scope = record { differ = refl; fit = refl }

-- twice the same, or a word of the language
twice : AreNames C (codes "x" ∷ codes "out" ∷ codes "x" ∷ []) → ⊥
twice a = cc a.differ

reserved : AreNames Python (codes "x" ∷ codes "lambda" ∷ []) → ⊥
reserved a = cc a.fit

named_as_a_function : is_fit C (codes "choose_7") ≡ false
named_as_a_function = refl

not_bound : is_fit C [] ≡ true
not_bound = refl

new_ones : AreNew C (codes "x" ∷ []) (codes "n1" ∷ codes "status" ∷ [])
new_ones = (refl, (refl, tt))

-- a name is not new where it is in scope, behind itself, or where it is a word of the language
in_scope : IsNew C (codes "x" ∷ codes "n1" ∷ []) (codes "n1") → ⊥
in_scope new = cc new

a_word : IsNew Python (codes "x" ∷ []) (codes "lambda") → ⊥
a_word new = cc new

in_scope_behind : AreNew C (codes "x" ∷ []) (codes "n1" ∷ codes "x" ∷ []) → ⊥
in_scope_behind new = cc new.1.0

behind_itself : AreNew C (codes "x" ∷ []) (codes "n1" ∷ codes "n1" ∷ []) → ⊥
behind_itself new = cc new.1.0

-- ---- lines that declare nothing
comment : IsSilent Rust (codes "    // Arm 1.\n")
comment = a_comment 1 (codes "Arm 1.")

unread : IsSilent C (codes "    (void)n1;\n")
unread = an_unread 1 (codes "n1")

guard : IsSilent JavaScript (codes "  if (x < 3n) {\n    continue;\n  }\n")
guard = a_guard 1 (codes "x < 3n") GoesOn

exit : IsSilent Python (codes "    raise NoSolution(7)\n")
unfolding digits
exit = an_exit 1 (Ends 7)

end : IsSilent C (codes "    *out = n1;\n    return past ? COMFUSY_OVERFLOW : 0;\n")
end = an_end 1 (codes "out" ∷ []) (codes "n1" ∷ [])

nothing : AreScoped C (codes "x" ∷ []) [] (codes "x" ∷ [])
nothing = silent no_lines

-- ---- statements
-- in whatever scope its name is new
variable : (scope : List (List ℕ)) → IsNew C scope (codes "n1") → AreScoped C scope (codes "    whole n1 = 5;\n") (scope ++ (codes "n1" ∷ []))
variable scope new = a_variable (codes "n1") 1 true true Int (codes "5") new

two_variables : AreScoped Python (codes "x" ∷ []) (codes "    n1 = 5\n    n2 = n1\n") (codes "x" ∷ codes "n1" ∷ codes "n2" ∷ [])
two_variables = chained (a_variable (codes "n1") 1 true true Int (codes "5") refl) (a_variable (codes "n2") 1 true false Int (codes "n1") refl)

call : (scope : List (List ℕ)) → AreNew C scope (codes "n1" ∷ codes "status" ∷ []) → AreScoped C scope
    (codes "    if (past)\n        return COMFUSY_OVERFLOW;\n    whole n1 = 0;\n    int status = choose_7(x, &n1);\n    if (status)\n        return status;\n")
    (scope ++ (codes "n1" ∷ codes "status" ∷ []))
call scope new = a_call 1 (codes "status") (Int ∷ []) (codes "n1" ∷ []) (codes "choose_7") (codes "x" ∷ []) new

-- names of a side, of an arm and of a search are free behind it
side : (scope : List (List ℕ)) → IsNew Rust scope (codes "n1") →
    AreScoped Rust scope (codes "    if x < 3 {\n        let n1 = x + 1;\n    }\n") scope
side scope new = a_side 1 (codes "x < 3") (a_variable (codes "n1") 2 true false Int (codes "x + 1") new)

-- the same name in both
sides : (scope : List (List ℕ)) → IsNew Python scope (codes "n1") →
    AreScoped Python scope (codes "    if x < 3:\n        n1 = 5\n    else:\n        n1 = 6\n") scope
sides scope new =
    two_sides 1 (codes "x < 3") (a_variable (codes "n1") 2 true true Int (codes "5") new) (a_variable (codes "n1") 2 true true Int (codes "6") new)

arm_of_c : (scope : List (List ℕ)) → IsNew C scope (codes "n1") →
    AreScoped C scope (codes "    // Arm 1.\n    {\n        whole n1 = 5;\n    }\n") scope
arm_of_c scope new = an_arm 1 (codes "Arm 1.") (a_variable (codes "n1") 2 true true Int (codes "5") new)

arm_of_python : (scope : List (List ℕ)) → IsNew Python scope (codes "n1") → AreScoped Python scope (codes "    # Arm 1.\n    n1 = 5\n") scope
arm_of_python scope new = an_arm 1 (codes "Arm 1.") (a_variable (codes "n1") 1 true true Int (codes "5") new)

in_a_search : (scope : List (List ℕ)) → IsNew JavaScript scope (codes "i") → IsNew JavaScript (scope ++ (codes "i" ∷ [])) (codes "n1") →
    AreScoped JavaScript scope (codes "  for (let i = 0n; i < 3n; i++) {\n    const n1 = x + i;\n  }\n") scope
unfolding digits
in_a_search scope new inner = a_search (codes "i") 1 3 new (a_variable (codes "n1") 2 true false Int (codes "x + i") inner)

-- ---- functions
of_parameters : AreNames C (codes "x" ∷ codes "out" ∷ [])
of_parameters = record { differ = refl; fit = refl }

abbrev pub picking : List ℕ
picking =
    codes "/* Gives what choose 7 picks. */\nstatic int choose_7(whole x, whole *out)\n{\n    bool past = false;\n    // Arm 1.\n    if (x >= 10) {\n        *out = x;\n        return past ? COMFUSY_OVERFLOW : 0;\n    }\n    // Arm 2.\n    *out = 3;\n    return past ? COMFUSY_OVERFLOW : 0;\n}\n\n"

pub picks : IsFunction C picking
unfolding digits
picks = record {
  number = 7;
  name = codes "choose_7";
  params = codes "x" ∷ [];
  bases = Int ∷ [];
  pointers = codes "out" ∷ [];
  results = Int ∷ [];
  body =
      codes "    // Arm 1.\n    if (x >= 10) {\n        *out = x;\n        return past ? COMFUSY_OVERFLOW : 0;\n    }\n    // Arm 2.\n    *out = 3;\n    return past ? COMFUSY_OVERFLOW : 0;\n";
  end = codes "x" ∷ codes "out" ∷ [];
  is = refl;
  names = of_parameters;
  scoped = chained (silent (a_comment 1 (codes "Arm 1.")))
      (chained (a_side 1 (codes "x >= 10") (silent (an_end 2 (codes "out" ∷ []) (codes "x" ∷ []))))
      (chained (silent (a_comment 1 (codes "Arm 2."))) (silent (an_end 1 (codes "out" ∷ []) (codes "3" ∷ [])))));
}

without : AreFunctions C []
without = no_functions

functions : (t : List ℕ) → AreFunctions C t → AreFunctions C (picking ++ t)
functions t are = more_functions (one_function picks) are

-- ---- a draft behind another
abbrev setting : Setting
setting = record { language = C; results = []; outputs = λ n. [] }

abbrev before : Draft
before = record { lines = codes "{\n"; pointers = codes "out" ∷ []; taken = codes "x" ∷ codes "out" ∷ []; functions = codes "/* before */\n"; numbers = [] }

abbrev sight : Sight
sight = record { names = codes "x" ∷ []; bases = Int ∷ []; ranges = whole ∷ [] }

abbrev place : Place
place = record { depth = 1; exit = Falls; arms = 0; giving = Results }

-- the number where it is 10 or more, or else 3
abbrev pub two_ways : Block
two_ways =
    bind (arm [] (test (give (code_compare Ge (code_var 0) (code_lit (pos 10)))) (give (code_var 0)) leave) (arm [] (give (code_lit (pos 3))) (none 7)))
    (give (code_var 1))

picked : Grows setting before (block setting sight two_ways place before)
unfolding digits with_let with_variable bound_for inner_behind function_of begun results_held called in_place give_back first_side branched tested plain_arm function_name deeper leaving_by behind_arm giving name_in put taking freed behind_one at_hand
picked = record {
  text =
      codes "    if (past)\n        return COMFUSY_OVERFLOW;\n    whole n1 = 0;\n    int status = choose_7(x, &n1);\n    if (status)\n        return status;\n    *out = n1;\n    return past ? COMFUSY_OVERFLOW : 0;\n";
  lines = refl;
  more = codes "n1" ∷ codes "status" ∷ [];
  taken = refl;
  scoped = chained (a_call 1 (codes "status") (Int ∷ []) (codes "n1" ∷ []) (codes "choose_7") (codes "x" ∷ []) (refl, (refl, tt)))
      (silent (an_end 1 (codes "out" ∷ []) (codes "n1" ∷ [])));
  made = picking;
  functions = refl;
  are = one_function picks;
}

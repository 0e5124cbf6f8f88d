-- Worked examples of variables that are not read, of statuses, and of sets that a language lacks.
use Rattle.std.specs.Prelude.{◌≡◌, true, false, List, [], ◌∷◌, codes, refl}
use Rattle.cf_tree.specs.declared.base.Base.{Base}
use Rattle.cf_tree.specs.declared.base.Base.TheVariants.{Int, Bool as Truth, Set}
use Rattle.cf_tree.specs.CodeTree.{code_var, code_set_of, code_card, codes_of}
use Rattle.cf_stmt.specs.Blocks.{Block, give, none, leave, test}
use Rattle.cf_print_shape.specs.Nones.{nones_of}
use Rattle.cf_print_program.specs.Printed.{Printing, unread_in, are_statuses, lacks_sets}
use Rattle.cf_print.specs.declared.language.Language.{Language}
use Rattle.cf_print.specs.declared.language.Language.TheVariants.{C, Python, JavaScript, Rust}

-- ---- variables that are not read
-- a number is read by its check, a truth value is not; and where nothing is given, no pointer is
unread_truth : unread_in (give (code_var 0)) (codes "x" ∷ codes "p" ∷ []) (Int ∷ Truth ∷ []) (codes "out" ∷ []) ≡ codes "p" ∷ []
unread_truth = refl

nothing_given : unread_in (none 1) (codes "x" ∷ []) (Int ∷ []) (codes "out" ∷ []) ≡ codes "out" ∷ []
nothing_given = refl

-- ---- statuses
fitting : are_statuses C (nones_of (none 2147483647) []) ≡ true
fitting = refl

past_int : are_statuses C (nones_of (none 2147483648) []) ≡ false
past_int = refl

not_in_python : are_statuses Python (nones_of (none 2147483648) []) ≡ true
not_in_python = refl

not_in_rust : are_statuses Rust (nones_of (none 2147483648) []) ≡ true
not_in_rust = refl

-- ---- sets
abbrev printing : Language → List Base → List Base → Block → Printing
printing l params results b = record {
  language = l;
  has_main = false;
  name = codes "f";
  source = [];
  params = params;
  results = results;
  body = b;
}

set_taken : lacks_sets (printing C (Set ∷ []) [] (none 1)) ≡ true
set_taken = refl

set_given : lacks_sets (printing C [] (Set ∷ []) (none 1)) ≡ true
set_given = refl

set_within : lacks_sets (printing C [] [] (test (none 1) leave (give (code_card (code_set_of (codes_of [])))))) ≡ true
set_within = refl

no_set : lacks_sets (printing C (Int ∷ []) (Int ∷ []) (give (code_var 0))) ≡ false
no_set = refl

set_in_javascript : lacks_sets (printing JavaScript (Set ∷ []) [] (none 1)) ≡ false
set_in_javascript = refl

set_in_rust : lacks_sets (printing Rust (Set ∷ []) [] (none 1)) ≡ false
set_in_rust = refl

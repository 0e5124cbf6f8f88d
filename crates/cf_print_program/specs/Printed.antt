-- The printed text of a program.
use Rattle.std.specs.Prelude.{◌≡◌, ℕ, suc, Bool, true, false, List, [], ◌∷◌, ◌++◌, map, length, nat_eq, nat_lt, not, ◌||◌, ◌&&◌, if◌then◌else◌}
use Rattle.std.specs.List.{list_all, list_any}
use Rattle.cf_tree.specs.declared.base.Base.{Base}
use Rattle.cf_range.specs.Ranges.{param_range}
use Rattle.cf_tree.specs.declared.base.Base.TheVariants.{Int, Bool as Truth, Set}
use Rattle.cf_stmt.specs.Blocks.{Block}
use Rattle.cf_print_shape.specs.Sets.{block_uses_sets, is_set}
use Rattle.cf_print_shape.specs.Shapes.{block_reads, gives, leaves_at_ends}
use Rattle.cf_print_term.specs.Expressions.{Sight}
use Rattle.cf_print_block.specs.declared.place.Place.{Place}
use Rattle.cf_print_block.specs.Places.{Setting, Draft}
use Rattle.cf_print_block.specs.Statements.{block, names_for, pointers_for}
use Rattle.cf_print_line.specs.Called.{Called, end_of}
use Rattle.cf_print_program.specs.Files.{opening_of, file_of}
use Rattle.cf_print_shape.specs.Nones.{nones_of}
use Rattle.cf_print_term.specs.declared.numeral.TheConstants.{INT_END}
use Rattle.cf_print_shape.specs.declared.exit.Exit.TheVariants.{Falls}
use Rattle.cf_print_block.specs.declared.naming.Role.TheVariants.{Value, Pointer}
use Rattle.cf_print_block.specs.declared.place.Giving.TheVariants.{Results}
use Rattle.cf_print.specs.declared.language.Language.{Language}
use Rattle.cf_print.specs.declared.language.Language.TheVariants.{C, Python, JavaScript, Rust}

-- what is printed: in which language, whether as a filter of lines too, the name of its function, the source of which it comes, the bases of its
-- parameters and results, and its statements
pub record Printing : Type 0 where
  pub language : Language
  pub has_main : Bool
  pub name : List ℕ
  pub source : List ℕ
  pub params : List Base
  pub results : List Base
  pub body : Block

-- names that are wished for: those of parameters, of outputs by the number of their choose, and of results
pub record Names : Type 0 where
  pub params : List (List ℕ)
  pub outputs : ℕ → List (List ℕ)
  pub results : List (List ℕ)

-- wishes for results count where there is one for each
abbrev pub fitting : List Base → List (List ℕ) → List (List ℕ)
fitting bs names = if nat_eq (length bs) (length names) then names else []

unfoldable pub setting_of : Names → Printing → Setting
setting_of names p = record { language = p.language; results = fitting p.results names.results; outputs = names.outputs }

-- truth values that are not read; each number is checked, and so is named
abbrev pub is_unread : ℕ → Block → Base → Bool
is_unread x b Truth = not (block_reads x b)
is_unread x b Int = false
is_unread x b Set = false

abbrev pub unread_truths : ℕ → Block → List (List ℕ) → List Base → List (List ℕ)
unread_truths x b (y ∷ ys) (c ∷ bs) = if is_unread x b c then y ∷ unread_truths (suc x) b ys bs else unread_truths (suc x) b ys bs
unread_truths x b _ _ = []

abbrev pub unread_in : Block → List (List ℕ) → List Base → List (List ℕ) → List (List ℕ)
unread_in b params bases pointers = unread_truths 0 b params bases ++ (if gives b then [] else pointers)

-- the function that is called
unfoldable pub called_of : Names → Printing → Called
called_of names p =
    let s = setting_of names p in
    let params = names_for s Value names.params 0 p.params [] in
    let pointers = pointers_for s s.results p.results params in
    record {
      name = p.name;
      params = params;
      bases = p.params;
      results = p.results;
      result_names = s.results;
      pointers = pointers;
      unread = unread_in p.body params p.params pointers;
      nones = nones_of p.body [];
    }

-- before the first statement of that function: what is known, where it stands, and what is written
abbrev pub first_sight : Called → Sight
first_sight f = record { names = f.params; bases = f.bases; ranges = map param_range f.bases }

abbrev pub first_place : Place
first_place = record { depth = 1; exit = Falls; arms = 0; giving = Results }

unfoldable pub first_draft : Setting → Bool → Called → Draft
first_draft s has_main f =
    record { lines = opening_of s.language has_main f; pointers = f.pointers; taken = f.params ++ f.pointers; functions = []; numbers = [] }

-- the functions of a draft that is done, of which the last is its own
abbrev pub all_functions : Setting → Draft → List ℕ
all_functions s d = (d.functions ++ d.lines) ++ end_of s.language

-- the functions of a program, of which the last is the one that is called
unfoldable pub functions_of : Setting → Bool → Called → Block → List ℕ
functions_of s has_main f body = all_functions s (block s (first_sight f) body first_place (first_draft s has_main f))

abbrev pub printed : Names → Printing → List ℕ
printed names p =
    let f = called_of names p in
    file_of p.language p.has_main p.source f (functions_of (setting_of names p) p.has_main f p.body)

-- in C the number of a choose is a status, which is an int
abbrev pub are_statuses : Language → List ℕ → Bool
are_statuses C ns = list_all (λ n. nat_lt n INT_END) ns
are_statuses Python ns = true
are_statuses JavaScript ns = true
are_statuses Rust ns = true

-- the text is the print of a program, by some names; arms are left at their ends alone, as statements of a code are, since else the text is of no meaning
pub record IsPrint (p : Printing) (text : List ℕ) : Type 0 where
  pub names : Names
  pub is : text ≡ printed names p
  pub leaves : leaves_at_ends false p.body ≡ true
  pub statuses : are_statuses p.language (nones_of p.body []) ≡ true

-- ---- sets

abbrev pub has_sets : Language → Bool
has_sets C = false
has_sets Python = true
has_sets JavaScript = true
has_sets Rust = true

-- a parameter, a result or a part of the statements is a set
abbrev pub has_a_set : Printing → Bool
has_a_set p = list_any is_set p.params || (list_any is_set p.results || block_uses_sets p.body)

-- the language has no sets, and one stands in the program
abbrev pub lacks_sets : Printing → Bool
lacks_sets p = not (has_sets p.language) && has_a_set p

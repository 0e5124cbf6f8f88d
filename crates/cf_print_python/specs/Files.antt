-- Whole files of Python: helpers, the function that is called, and filters.
use Rattle.std.specs.Prelude.{ℕ, Bool, List, [], ◌∷◌, ◌++◌, length, codes, nat_eq, if◌then◌else◌}
use Rattle.std.specs.List.{concat}
use Rattle.cf_tree.specs.declared.base.Base.{Base}
use Rattle.cf_tree.specs.declared.base.Base.TheVariants.{Int, Bool as Truth, Set}
use Rattle.cf_print_line.specs.Heads.{head_text, parameter_text}
use Rattle.cf_print.specs.declared.language.Language.TheVariants.{Python}
use Rattle.cf_print_python.specs.declared.texts.TheConstants.{PAST, AS_NUMBERS, ITERABLE, MAX, NONE, FIT, SUM_OF, WHOLE, TRUTH, NUMBERS, SLICE, FRESH, IMPORTS, FILTER, REPLY, OUTCOME, FILTER_MAIN}
use Rattle.cf_print.specs.Helpers.{when, with_helper}
use Rattle.cf_print.specs.Sources.{head_of}
use Rattle.cf_print_line.specs.Called.{about_main, about_nones, Called}
use Rattle.cf_print_line.specs.Patterns.{line_text}

abbrev pub with_numbers : List ℕ → List ℕ
with_numbers text =
    with_helper (codes "Iterable[") ITERABLE.now
    (with_helper (codes "-MAX <=") MAX.now
    (with_helper (codes "NoSolution") NONE.now (with_helper (codes "fit(") FIT.now (with_helper (codes "sum_of(") SUM_OF.now text))))

abbrev pub with_arguments : List ℕ → List ℕ
with_arguments text =
    with_helper (codes "whole(") WHOLE.now
    (with_helper (codes "truth(") TRUTH.now
    (with_helper (codes "numbers(") NUMBERS.now (with_helper (codes "cut(") SLICE.now (with_helper (codes "fresh(") FRESH.now text))))

abbrev pub with_helpers : List ℕ → List ℕ
with_helpers text = with_numbers (with_arguments text)

-- the check of an argument
abbrev pub check : List ℕ → Base → List ℕ
check x Int = concat (codes "    whole(" ∷ x ∷ codes ")\n" ∷ [])
check x Truth = concat (codes "    truth(" ∷ x ∷ codes ")\n" ∷ [])
check x Set = concat (codes "    " ∷ x ∷ AS_NUMBERS.now ∷ x ∷ codes ")\n" ∷ [])

abbrev pub checks : List (List ℕ) → List Base → List ℕ
checks (x ∷ xs) (b ∷ bs) = check x b ++ checks xs bs
checks _ _ = []

-- parameters as callers see them: any iterable for a set
abbrev pub called_parameter : List ℕ → Base → List ℕ
called_parameter x Set = x ++ codes ": Iterable[int]"
called_parameter x Int = parameter_text Python x Int
called_parameter x Truth = parameter_text Python x Truth

abbrev pub called_parameters : List (List ℕ) → List Base → List (List ℕ)
called_parameters (x ∷ xs) (b ∷ bs) = called_parameter x b ∷ called_parameters xs bs
called_parameters _ _ = []

-- its first line
abbrev pub first_line : Called → List ℕ
first_line f = head_text Python f.name (called_parameters f.params f.bases) f.results

-- its lines before its first statement: its first line, what it gives and where it gives nothing, and the checks of its arguments
unfoldable pub opening_by : List ℕ → List ℕ → List ℕ → List ℕ → List ℕ
opening_by head about nones checks =
    concat (codes "\n\n" ∷ head ∷ codes "    \"\"\"" ∷ about ∷ codes "\n\n" ∷ nones ∷ PAST.now ∷ checks ∷ [])

abbrev pub opening : Called → List ℕ
opening f =
    opening_by (first_line f) (about_main f.result_names) (about_nones (codes "    ") (codes "NoSolution") f.nones) (checks f.params f.bases)

abbrev pub reply : List Base → List ℕ
reply bs = if nat_eq (length bs) 1 then codes "written(outcome)" else codes "\" \".join(map(written, outcome))"

unfoldable pub filter_by : List ℕ → List ℕ → List ℕ → List ℕ
filter_by line name reply = concat (FILTER.now ∷ line ∷ REPLY.now ∷ name ∷ OUTCOME.now ∷ reply ∷ FILTER_MAIN.now ∷ [])

abbrev pub filter : Called → List ℕ
filter f = filter_by (line_text f.bases) f.name (reply f.results)

-- the file around functions, and what stands behind them
abbrev pub around : Bool → List ℕ → List ℕ → List ℕ
around has_main source text = (head_of Python source ++ when has_main IMPORTS.now) ++ with_helpers text

-- the file of a function, whose text this is with that of those before it
abbrev pub file : Bool → List ℕ → Called → List ℕ → List ℕ
file has_main source f functions = around has_main source (functions ++ when has_main (filter f))

-- Whole files of JavaScript: helpers, the function that is called, and filters.
use Rattle.std.specs.Prelude.{ℕ, Bool, List, [], ◌∷◌, ◌++◌, length, codes, nat_eq, if◌then◌else◌}
use Rattle.std.specs.List.{concat}
use Rattle.cf_tree.specs.declared.base.Base.{Base}
use Rattle.cf_tree.specs.declared.base.Base.TheVariants.{Int, Bool as Truth, Set}
use Rattle.cf_print_line.specs.Layout.{base_text}
use Rattle.cf_print_line.specs.Heads.{all_parameters, head_text, results_text}
use Rattle.cf_print.specs.declared.language.Language.TheVariants.{JavaScript}
use Rattle.cf_print_js.specs.declared.texts.TheConstants.{PAST, RETURNS, THROWS, AS_NUMBERS, MAX, NONE, OVERFLOW, FIT, SUM_OF, WHOLE, TRUTH, RISING, NUMBERS, SET_OF, DIV, MOD, LEAST, GREATEST, UNION, INTER, DIFF, SUBSET, SAME, CARD, SLICE, FRESH, FILTER, REPLY, FILTER_MAIN}
use Rattle.cf_print.specs.Helpers.{when, with_helper}
use Rattle.cf_print.specs.Sources.{head_of}
use Rattle.cf_print_line.specs.Called.{about_main, about_nones, Called}
use Rattle.cf_print_line.specs.Patterns.{line_text}

abbrev pub with_numbers : List ℕ → List ℕ
with_numbers text =
    with_helper (codes "MAX") MAX.now (with_helper (codes "NoSolution") NONE.now
    (with_helper (codes "Overflow") OVERFLOW.now (with_helper (codes "fit(") FIT.now (with_helper (codes "sum_of(") SUM_OF.now text))))

abbrev pub with_arguments : List ℕ → List ℕ
with_arguments text =
    with_helper (codes "whole(") WHOLE.now
    (with_helper (codes "truth(") TRUTH.now
    (with_helper (codes "rising(") RISING.now (with_helper (codes "numbers(") NUMBERS.now (with_helper (codes "set_of(") SET_OF.now text))))

abbrev pub with_operations : List ℕ → List ℕ
with_operations text =
    with_helper (codes "div(") DIV.now (with_helper (codes "mod(") MOD.now
    (with_helper (codes "least(") LEAST.now (with_helper (codes "greatest(") GREATEST.now text)))

abbrev pub with_sets : List ℕ → List ℕ
with_sets text =
    with_helper (codes "union(") UNION.now
    (with_helper (codes "inter(") INTER.now (with_helper (codes "diff(") DIFF.now (with_helper (codes "subset(") SUBSET.now text)))

abbrev pub with_parts : List ℕ → List ℕ
with_parts text =
    with_helper (codes "same(") SAME.now (with_helper (codes "card(") CARD.now
    (with_helper (codes "cut(") SLICE.now (with_helper (codes "fresh(") FRESH.now text)))

abbrev pub with_helpers : List ℕ → List ℕ
with_helpers text = with_numbers (with_arguments (with_operations (with_sets (with_parts text))))

-- what a caller gives: any iterable for a set
abbrev pub given_base : Base → List ℕ
given_base Int = base_text JavaScript Int
given_base Truth = base_text JavaScript Truth
given_base Set = codes "Iterable<bigint>"

abbrev pub param : List ℕ → Base → List ℕ
param x b = concat (codes " * @param {" ∷ given_base b ∷ codes "} " ∷ x ∷ codes "\n" ∷ [])

abbrev pub params : List (List ℕ) → List Base → List ℕ
params (x ∷ xs) (b ∷ bs) = param x b ++ params xs bs
params _ _ = []

abbrev pub check : List ℕ → Base → List ℕ
check x Int = concat (codes "  whole(" ∷ x ∷ codes ");\n" ∷ [])
check x Truth = concat (codes "  truth(" ∷ x ∷ codes ");\n" ∷ [])
check x Set = concat (codes "  " ∷ x ∷ AS_NUMBERS.now ∷ x ∷ codes ");\n" ∷ [])

abbrev pub checks : List (List ℕ) → List Base → List ℕ
checks (x ∷ xs) (b ∷ bs) = check x b ++ checks xs bs
checks _ _ = []

-- its first line
abbrev pub first_line : Called → List ℕ
first_line f =
    concat (codes "export " ∷ head_text JavaScript f.name (all_parameters JavaScript f.params f.bases f.pointers f.results) f.results ∷ [])

-- the comment before it: what it gives and where it gives nothing, its parameters, and its results
unfoldable pub comment_by : List ℕ → List ℕ → List ℕ → List ℕ → List ℕ
comment_by about nones params results =
    concat (codes "\n/**\n * " ∷ about ∷ codes "\n" ∷ nones ∷ PAST.now ∷ params ∷ RETURNS.now ∷ results ∷ THROWS.now ∷ [])

abbrev pub comment : Called → List ℕ
comment f =
    comment_by (about_main f.result_names) (about_nones (codes " * ") (codes "NoSolution") f.nones) (params f.params f.bases)
    (results_text JavaScript f.results)

-- its lines before its first statement
abbrev pub opening : Called → List ℕ
opening f = concat (comment f ∷ first_line f ∷ checks f.params f.bases ∷ [])

-- what a reply holds, on the values of a line
abbrev pub reply : List ℕ → List Base → List ℕ
reply name bs =
    if nat_eq (length bs) 1 then concat (codes "written(" ∷ name ∷ codes "(...values))" ∷ [])
    else concat (name ∷ codes "(...values).map(written).join(\" \")" ∷ [])

unfoldable pub filter_by : List ℕ → List ℕ → List ℕ
filter_by line reply = concat (FILTER.now ∷ line ∷ REPLY.now ∷ reply ∷ FILTER_MAIN.now ∷ [])

abbrev pub filter : Called → List ℕ
filter f = filter_by (line_text f.bases) (reply f.name f.results)

-- the file around functions, and what stands behind them
abbrev pub around : List ℕ → List ℕ → List ℕ
around source text = head_of JavaScript source ++ with_helpers text

-- the file of a function, whose text this is with that of those before it
abbrev pub file : Bool → List ℕ → Called → List ℕ → List ℕ
file has_main source f functions = around source (functions ++ when has_main (filter f))

-- Whole files of Rust: helpers, the function that is called, and filters.
use Rattle.std.specs.Prelude.{ℕ, suc, Bool, List, [], ◌∷◌, ◌++◌, length, decimal, codes, nat_eq, if◌then◌else◌}
use Rattle.std.specs.List.{concat}
use Rattle.cf_tree.specs.declared.base.Base.{Base}
use Rattle.cf_tree.specs.declared.base.Base.TheVariants.{Int, Bool as Truth, Set}
use Rattle.cf_print.specs.Pieces.{joined}
use Rattle.cf_print_line.specs.Heads.{all_parameters, head_text}
use Rattle.cf_print.specs.declared.language.Language.TheVariants.{Rust}
use Rattle.cf_print_rust.specs.declared.texts.TheConstants.{PAST, SETS, LENT, ERROR, FIT, ADD, SUB, MUL, SUM_OF, UNION, INTER, DIFF, SUBSET, SAME, CARD, SLICE, FRESH, FITS, EACH_ITEM, FILTER, REPLY, WRITTEN, JOINED, FILTER_MAIN}
use Rattle.cf_print.specs.Helpers.{when, with_helper}
use Rattle.cf_print.specs.Sources.{head_of}
use Rattle.cf_print_line.specs.Called.{about_main, about_nones, Called}

abbrev pub with_numbers : List ℕ → List ℕ
with_numbers text =
    with_helper (codes "fit(") FIT.now (with_helper (codes "add(") ADD.now (with_helper (codes "sub(") SUB.now
    (with_helper (codes "mul(") MUL.now (with_helper (codes "sum_of(") SUM_OF.now text))))

abbrev pub with_sets : List ℕ → List ℕ
with_sets text =
    with_helper (codes "union(") UNION.now
    (with_helper (codes "inter(") INTER.now (with_helper (codes "diff(") DIFF.now (with_helper (codes "subset(") SUBSET.now text)))

abbrev pub with_parts : List ℕ → List ℕ
with_parts text =
    with_helper (codes "same(") SAME.now (with_helper (codes "card(") CARD.now
    (with_helper (codes "cut(") SLICE.now (with_helper (codes "fresh(") FRESH.now text)))

-- what is taken from the library
abbrev pub with_uses : List ℕ → List ℕ
with_uses text =
    with_helper (codes "use std::collections") (codes "\n") (with_helper (codes "Borrow<") LENT.now (with_helper (codes "BTreeSet<") SETS.now text))

-- behind the error that is told
unfoldable pub with_error : List ℕ → List ℕ
with_error text = ERROR.now ++ text

abbrev pub with_helpers : List ℕ → List ℕ
with_helpers text = with_uses (with_error (with_numbers (with_sets (with_parts text))))

-- the check of an argument: no number is past the limit, and none in a set
abbrev pub check : List ℕ → Base → List ℕ
check x Int = concat (codes "    fit(Some(" ∷ x ∷ FITS.now ∷ [])
check x Truth = []
check x Set = concat (codes "    for item in " ∷ x ∷ EACH_ITEM.now ∷ [])

abbrev pub checks : List (List ℕ) → List Base → List ℕ
checks (x ∷ xs) (b ∷ bs) = check x b ++ checks xs bs
checks _ _ = []

-- its first line, from its word on
abbrev pub first_line : Called → List ℕ
first_line f = head_text Rust f.name (all_parameters Rust f.params f.bases f.pointers f.results) f.results

-- the comment before it: what it gives and where it gives nothing
unfoldable pub comment_by : List ℕ → List ℕ → List ℕ
comment_by about nones = concat (codes "\n/// " ∷ about ∷ codes "\n///\n" ∷ nones ∷ PAST.now ∷ [])

abbrev pub comment : Called → List ℕ
comment f = comment_by (about_main f.result_names) (about_nones (codes "/// ") (codes "`NoSolution`") f.nones)

-- its lines before its first statement
abbrev pub opening : Called → List ℕ
opening f = concat (comment f ∷ first_line f ∷ checks f.params f.bases ∷ [])

-- a text for each of some bases and its number, from the k-th on
abbrev pub numbered : (Base → ℕ → List ℕ) → ℕ → List Base → List (List ℕ)
numbered text k [] = []
numbered text k (b ∷ bs) = text b k ∷ numbered text (suc k) bs

-- how the k-th value of a line is read: white space may stand before the first
abbrev pub read_call : ℕ → List ℕ
read_call k = if nat_eq k 0 then codes "value(&mut rest, true)?" else codes "value(&mut rest, false)?"

abbrev pub reader : Base → ℕ → List ℕ
reader b k = read_call k

-- one value alone has a comma behind it, to be told from what stands in parentheses
abbrev pub behind_values : List Base → List ℕ
behind_values bs = if nat_eq (length bs) 1 then codes "," else []

abbrev pub reads : List Base → List ℕ
reads bs = joined (codes ", ") (numbered reader 0 bs) ++ behind_values bs

-- the call of a reply: sets are lent
abbrev pub before_argument : Base → List ℕ
before_argument Set = codes "&values."
before_argument Int = codes "values."
before_argument Truth = codes "values."

abbrev pub argument : Base → ℕ → List ℕ
argument b k = before_argument b ++ decimal k

unfoldable pub call : List ℕ → List Base → List ℕ
call name bs = concat (name ∷ codes "(" ∷ joined (codes ", ") (numbered argument 0 bs) ∷ codes ")" ∷ [])

-- what a reply holds
abbrev pub output : Base → ℕ → List ℕ
output b k = concat (codes "outputs." ∷ decimal k ∷ codes ".written()" ∷ [])

unfoldable pub several_written : List Base → List ℕ
several_written bs = concat (codes "[" ∷ joined (codes ", ") (numbered output 0 bs) ∷ JOINED.now ∷ [])

abbrev pub written : List Base → List ℕ
written bs = if nat_eq (length bs) 1 then codes "outputs.written()" else several_written bs

unfoldable pub filter_by : List ℕ → List ℕ → List ℕ → List ℕ
filter_by reads call written = concat (FILTER.now ∷ reads ∷ REPLY.now ∷ call ∷ WRITTEN.now ∷ written ∷ FILTER_MAIN.now ∷ [])

abbrev pub filter : Called → List ℕ
filter f = filter_by (reads f.bases) (call f.name f.bases) (written f.results)

-- the file around functions, and what stands behind them
abbrev pub around : List ℕ → List ℕ → List ℕ
around source text = head_of Rust source ++ with_helpers text

-- the file of a function, whose text this is with that of those before it
abbrev pub file : Bool → List ℕ → Called → List ℕ → List ℕ
file has_main source f functions = around source (functions ++ when has_main (filter f))

-- Whole files of C: what is taken from the library, helpers, the function that is called, and filters.
use Rattle.std.specs.Prelude.{ℕ, suc, Bool, true, false, not, ◌&&◌, ◌||◌, List, [], ◌∷◌, ◌++◌, length, decimal, codes, nat_eq, if◌then◌else◌}
use Rattle.std.specs.List.{concat, list_any}
use Rattle.cf_tree.specs.declared.base.Base.{Base}
use Rattle.cf_tree.specs.declared.base.Base.TheVariants.{Int, Bool as Truth, Set}
use Rattle.cf_print.specs.Names.{is_numbered}
use Rattle.cf_print.specs.Pieces.{joined}
use Rattle.cf_print_line.specs.Layout.{base_text, unread_lines, addresses}
use Rattle.cf_print_line.specs.Heads.{all_parameters, head_text}
use Rattle.cf_print.specs.declared.language.Language.TheVariants.{C}
use Rattle.cf_print_c.specs.declared.texts.TheConstants.{PAST, RETURN_PAST, PUT_NUMBER, TRUE_OR_FALSE, ADD, SUM_OF, SUB, MUL, DIV_DOWN, MOD_UP, LEAST, GREATEST, HALVES, POSIX, STANDARD, STRING, NUMBERS, STATUS, INCLUDES, PUT, READ_NUMBER, READ_TRUTH, REPLY, LONG_LINE, BAD_INPUT, TOLD, FILTER_MAIN}
use Rattle.cf_print.specs.Helpers.{when, with_helper}
use Rattle.cf_print.specs.Sources.{head_of}
use Rattle.cf_print_line.specs.declared.heads.TheConstants.{C_BODY}
use Rattle.cf_print_line.specs.Called.{about_main, about_nones, Called}

abbrev pub is_number : Base → Bool
is_number Int = true
is_number Truth = false
is_number Set = false

abbrev pub is_truth : Base → Bool
is_truth Truth = true
is_truth Int = false
is_truth Set = false

abbrev pub with_sums : List ℕ → List ℕ
with_sums text =
    with_helper (codes "add(") ADD.now (with_helper (codes "sum_of(") SUM_OF.now
    (with_helper (codes "sub(") SUB.now (with_helper (codes "mul(") MUL.now text)))

abbrev pub with_quotients : List ℕ → List ℕ
with_quotients text =
    with_helper (codes "div_down(") DIV_DOWN.now
    (with_helper (codes "mod_up(") MOD_UP.now (with_helper (codes "least(") LEAST.now (with_helper (codes "greatest(") GREATEST.now text)))

-- the macro that a text calls
abbrev pub with_definitions : List ℕ → List ℕ
with_definitions text =
    with_helper (codes "from_halves(") HALVES.now text

abbrev pub with_helpers : List ℕ → List ℕ
with_helpers text = with_sums (with_quotients text)

-- the status that tells of no solution
abbrev pub status_text : List ℕ → List ℕ
status_text [] = codes "Status N"
status_text (n ∷ ns) = if nat_eq (length ns) 0 then codes "Status " ++ decimal n else codes "Status N"

-- a number is past where this holds: the other side of the limit is its type's end
abbrev pub below_text : List ℕ → Base → List (List ℕ)
below_text x Int = (x ++ codes " < -MAX") ∷ []
below_text x Truth = []
below_text x Set = []

abbrev pub below_texts : List (List ℕ) → List Base → List (List ℕ)
below_texts (x ∷ xs) (b ∷ bs) = below_text x b ++ below_texts xs bs
below_texts _ _ = []

-- the check of all arguments
abbrev pub checks : List (List ℕ) → List ℕ
checks tests =
    if nat_eq (length tests) 0 then []
    else concat (codes "    if (" ∷ joined (codes " || ") tests ∷ RETURN_PAST.now ∷ [])

-- a line for each variable that no statement reads
abbrev pub all_unread : List (List ℕ) → List ℕ
all_unread [] = []
all_unread (x ∷ xs) = unread_lines C 1 x ++ all_unread xs

-- its first line
abbrev pub first_line : Called → List ℕ
first_line f = head_text C f.name (all_parameters C f.params f.bases f.pointers f.results) f.results

-- the comment before it: what it gives, and where it gives nothing
unfoldable pub comment_by : List ℕ → List ℕ → List ℕ
comment_by about nones = concat (codes "/*\n * " ∷ about ∷ codes "\n" ∷ nones ∷ PAST.now ∷ [])

abbrev pub comment : Called → List ℕ
comment f = comment_by (about_main f.result_names) (about_nones (codes " * ") (status_text f.nones) f.nones)

-- its lines before its first statement; in a filter no other file calls it
unfoldable pub beginning_by : Bool → List ℕ → List ℕ → List ℕ → List ℕ
beginning_by is_filter head checks unread = concat (when is_filter (codes "static ") ∷ head ∷ C_BODY.now ∷ checks ∷ unread ∷ [])

abbrev pub beginning : Bool → Called → List ℕ
beginning is_filter f = beginning_by is_filter (first_line f) (checks (below_texts f.params f.bases)) (all_unread f.unread)

abbrev pub opening : Bool → Called → List ℕ
opening is_filter f = comment f ++ beginning is_filter f

-- what is taken from the library: a filter reads and writes, and compares with the words of truth values
unfoldable pub includes_by : Bool → Bool → List ℕ
includes_by is_filter compares =
    concat (when is_filter POSIX.now ∷ STANDARD.now ∷ when is_filter INCLUDES.now ∷ when compares STRING.now ∷ NUMBERS.now ∷ [])

abbrev pub includes : Bool → List Base → List ℕ
includes is_filter bs = includes_by is_filter (is_filter && list_any is_truth bs)

-- the variables of a reply: p0, p1, .. and o0, o1, .., where none of these is the name of the function
abbrev pub numbers_a_value : List ℕ → Bool
numbers_a_value name = is_numbered (codes "p") name || is_numbered (codes "o") name

abbrev pub reply_name : List ℕ → List ℕ → ℕ → List ℕ
reply_name name letter k = when (numbers_a_value name) (codes "the_") ++ letter ++ decimal k

abbrev pub reply_names : List ℕ → List ℕ → ℕ → List Base → List (List ℕ)
reply_names name letter k [] = []
reply_names name letter k (b ∷ bs) = reply_name name letter k ∷ reply_names name letter (suc k) bs

abbrev pub declared_line : Base → List ℕ → List ℕ
declared_line b x = concat (codes "    " ∷ base_text C b ∷ codes " " ∷ x ∷ codes " = 0;\n" ∷ [])

-- a line for each value, by its name and its base
abbrev pub declared_lines : List (List ℕ) → List Base → List ℕ
declared_lines (x ∷ xs) (b ∷ bs) = declared_line b x ++ declared_lines xs bs
declared_lines _ _ = []

abbrev pub readers : List Base → List ℕ
readers bs = when (list_any is_number bs) READ_NUMBER.now ++ when (list_any is_truth bs) READ_TRUTH.now

abbrev pub reader : Base → List ℕ
reader Truth = codes "read_truth"
reader Int = codes "read_number"
reader Set = codes "read_number"

-- white space may stand before the first value, and has to stand before each other
abbrev pub gap : Bool → List ℕ
gap true = codes "    white(&at, end);\n    ok = ok && "
gap false = codes "    ok = ok && white(&at, end) && "

abbrev pub read_one : Bool → Base → List ℕ → List ℕ
read_one is_first b x = concat (gap is_first ∷ reader b ∷ codes "(&at, end, &" ∷ x ∷ codes ");\n" ∷ [])

abbrev pub reads : Bool → List (List ℕ) → List Base → List ℕ
reads is_first (x ∷ xs) (b ∷ bs) = read_one is_first b x ++ reads false xs bs
reads is_first _ _ = []

unfoldable pub call_by : List ℕ → List ℕ → List ℕ
call_by name args = concat (name ∷ codes "(" ∷ args ∷ codes ")" ∷ [])

unfoldable pub call : List ℕ → List (List ℕ) → List (List ℕ) → List ℕ
call name args pointers = call_by name (joined (codes ", ") (args ++ addresses pointers))

abbrev pub space : Bool → List ℕ
space true = []
space false = codes "        put(' ');\n"

abbrev pub written : Base → List ℕ → List ℕ
written Truth x = concat (codes "        put_text(" ∷ x ∷ TRUE_OR_FALSE.now ∷ [])
written Int x = concat (PUT_NUMBER.now ∷ x ∷ codes ");\n" ∷ [])
written Set x = concat (PUT_NUMBER.now ∷ x ∷ codes ");\n" ∷ [])

abbrev pub writes : Bool → List (List ℕ) → List Base → List ℕ
writes is_first (x ∷ xs) (b ∷ bs) = (space is_first ++ written b x) ++ writes false xs bs
writes is_first _ _ = []

-- the functions that write and read, and the first line of the one that replies
unfoldable pub functions : List Base → List ℕ
functions bs = concat (PUT.now ∷ readers bs ∷ REPLY.now ∷ [])

-- its variables, for what is read and for what is given
unfoldable pub variables : List (List ℕ) → List Base → List (List ℕ) → List Base → List ℕ
variables params bs outputs rs = concat (declared_lines params bs ∷ declared_lines outputs rs ∷ LONG_LINE.now ∷ [])

-- how the values of a line are read, up to the call
unfoldable pub asked : List (List ℕ) → List Base → List ℕ
asked params bs = concat (reads true params bs ∷ BAD_INPUT.now ∷ [])

-- what is told of the outcome, how what is given is written, and the end of the file
unfoldable pub told : List (List ℕ) → List Base → List ℕ
told outputs rs = concat (TOLD.now ∷ writes true outputs rs ∷ FILTER_MAIN.now ∷ [])

unfoldable pub filter_by : List ℕ → List (List ℕ) → List Base → List (List ℕ) → List Base → List ℕ
filter_by name params bs outputs rs =
    concat (functions bs ∷ variables params bs outputs rs ∷ asked params bs ∷ call name params outputs ∷ told outputs rs ∷ [])

abbrev pub filter : Called → List ℕ
filter f =
    filter_by f.name (reply_names f.name (codes "p") 0 f.bases) f.bases (reply_names f.name (codes "o") 0 f.results) f.results

-- in a file that is no filter the function has a prototype
abbrev pub prototype : Bool → Called → List ℕ
prototype wanted f = when wanted (first_line f ++ codes ";\n\n")

-- what stands behind the type of numbers
abbrev pub body : Bool → Called → List ℕ → List ℕ
body has_main f text = with_definitions ((STATUS.now ++ prototype (not has_main) f) ++ with_helpers text)

-- the file around functions, and what stands behind them
abbrev pub around : Bool → List ℕ → Called → List ℕ → List ℕ
around has_main source f text = (head_of C source ++ includes has_main f.bases) ++ body has_main f text

-- the file of a function, whose text this is with that of those before it
abbrev pub file : Bool → List ℕ → Called → List ℕ → List ℕ
file has_main source f functions = around has_main source f (functions ++ when has_main (filter f))

-- How each language writes statements: a row for each construct.
use Rattle.std.specs.Prelude.{ℕ, suc, Bool, false, if◌then◌else◌, List, [], ◌∷◌, ◌++◌, map, length, nat_eq, decimal, codes}
use Rattle.std.specs.List.{concat}
use Rattle.cf_tree.specs.declared.base.Base.{Base}
use Rattle.cf_tree.specs.declared.base.Base.TheVariants.{Int, Bool as Truth, Set}
use Rattle.cf_print.specs.Pieces.{repeated, joined}
use Rattle.cf_print.specs.declared.language.Language.{Language}
use Rattle.cf_print.specs.declared.language.Language.TheVariants.{C, Python, JavaScript, Rust}
use Rattle.cf_print_line.specs.declared.layout.TheConstants.{LENT, NO_SOLUTION}

-- what stands before a line in a block
abbrev pub step_of : Language → List ℕ
step_of JavaScript = codes "  "
step_of C = codes "    "
step_of Python = codes "    "
step_of Rust = codes "    "

abbrev pub indented : Language → ℕ → List ℕ
indented l d = repeated d (step_of l)

abbrev pub line : Language → ℕ → List ℕ → List ℕ
line l d text = indented l d ++ text ++ codes "\n"

-- the base of a value
abbrev pub base_text : Language → Base → List ℕ
base_text C Truth = codes "bool"
base_text C b = codes "whole"
base_text Python Int = codes "int"
base_text Python Truth = codes "bool"
base_text Python Set = codes "frozenset[int]"
base_text JavaScript Int = codes "bigint"
base_text JavaScript Truth = codes "boolean"
base_text JavaScript Set = codes "Set<bigint>"
base_text Rust Int = codes "i128"
base_text Rust Truth = codes "bool"
base_text Rust Set = codes "BTreeSet<i128>"

-- a variable of Rust and its value: a set is lent, and a number of numerals alone is told its type
abbrev pub before_value : Bool → Base → List ℕ
before_value is_small Set = LENT.now
before_value is_small Truth = codes " = "
before_value is_small Int = if is_small then codes ": i128 = " else codes " = "

abbrev pub lent_text : Bool → Base → List ℕ → List ℕ → List ℕ
lent_text is_small base x e = concat (codes "let " ∷ x ∷ before_value is_small base ∷ e ∷ codes ";" ∷ [])

-- a variable and its value, which may be made of numerals alone
abbrev pub let_text : Language → Bool → Base → List ℕ → List ℕ → List ℕ
let_text C is_small base x e = concat (base_text C base ∷ codes " " ∷ x ∷ codes " = " ∷ e ∷ codes ";" ∷ [])
let_text Python is_small base x e = concat (x ∷ codes " = " ∷ e ∷ [])
let_text JavaScript is_small base x e = concat (codes "const " ∷ x ∷ codes " = " ∷ e ∷ codes ";" ∷ [])
let_text Rust is_small base x e = lent_text is_small base x e

-- a variable that no statement reads is named once more, so that compilers do not warn of it
abbrev pub unread_lines : Language → ℕ → List ℕ → List ℕ
unread_lines C d x = line C d (concat (codes "(void)" ∷ x ∷ codes ";" ∷ []))
unread_lines Python d x = []
unread_lines JavaScript d x = []
unread_lines Rust d x = []

abbrev pub read_lines : Language → ℕ → Bool → List ℕ → List ℕ
read_lines l d is_read x = if is_read then [] else unread_lines l d x

abbrev pub let_lines : Language → ℕ → Bool → Bool → Base → List ℕ → List ℕ → List ℕ
let_lines l d is_read is_small base x e = line l d (let_text l is_small base x e) ++ read_lines l d is_read x

abbrev pub comment_text : Language → List ℕ → List ℕ
comment_text Python t = concat (codes "# " ∷ t ∷ [])
comment_text l t = concat (codes "// " ∷ t ∷ [])

-- what stands around the value of a function of Rust: nothing around its last statement, which alone stands so far to the left
abbrev pub before_end : ℕ → List ℕ
before_end d = if nat_eq d 1 then [] else codes "return "

abbrev pub behind_end : ℕ → List ℕ
behind_end d = if nat_eq d 1 then [] else codes ";"

-- no solution at a number
abbrev pub none_text : Language → ℕ → ℕ → List ℕ
none_text C d n = concat (codes "return past ? COMFUSY_OVERFLOW : " ∷ decimal n ∷ codes ";" ∷ [])
none_text Python d n = concat (codes "raise NoSolution(" ∷ decimal n ∷ codes ")" ∷ [])
none_text JavaScript d n = concat (codes "throw new NoSolution(" ∷ decimal n ∷ codes ");" ∷ [])
none_text Rust d n = concat (before_end d ∷ NO_SOLUTION.now ∷ decimal n ∷ codes "))" ∷ behind_end d ∷ [])

-- the next round of a search
abbrev pub next_text : Language → List ℕ
next_text Python = codes "continue"
next_text l = codes "continue;"

-- what stands behind is next: in Python no block is empty
abbrev pub fall_lines : Language → ℕ → List ℕ
fall_lines Python d = line Python d (codes "pass")
fall_lines l d = []

-- what follows stands deeper, where a condition holds
abbrev pub if_text : Language → List ℕ → List ℕ
if_text Python e = concat (codes "if " ∷ e ∷ codes ":" ∷ [])
if_text Rust e = concat (codes "if " ∷ e ∷ codes " {" ∷ [])
if_text l e = concat (codes "if (" ∷ e ∷ codes ") {" ∷ [])

-- the same before one statement that leaves
abbrev pub guard_text : Language → List ℕ → List ℕ
guard_text C e = concat (codes "if (" ∷ e ∷ codes ")" ∷ [])
guard_text l e = if_text l e

-- the line behind what stood deeper, and behind a guarded statement
abbrev pub end_lines : Language → ℕ → List ℕ
end_lines Python d = []
end_lines l d = line l d (codes "}")

abbrev pub guard_end : Language → ℕ → List ℕ
guard_end C d = []
guard_end l d = end_lines l d

abbrev pub else_lines : Language → ℕ → List ℕ
else_lines Python d = line Python d (codes "else:")
else_lines l d = line l d (codes "} else {")

-- an arm without searches, whose variables are its own
abbrev pub scope_lines : Language → ℕ → List ℕ
scope_lines Python d = []
scope_lines l d = line l d (codes "{")

-- a search below a bound, of which these are the digits
abbrev pub search_below : Language → List ℕ → List ℕ → List ℕ
search_below C i end = concat (codes "for (whole " ∷ i ∷ codes " = 0; " ∷ i ∷ codes " < " ∷ end ∷ codes "; " ∷ i ∷ codes "++) {" ∷ [])
search_below Python i end = concat (codes "for " ∷ i ∷ codes " in range(" ∷ end ∷ codes "):" ∷ [])
search_below JavaScript i end = concat (codes "for (let " ∷ i ∷ codes " = 0n; " ∷ i ∷ codes " < " ∷ end ∷ codes "n; " ∷ i ∷ codes "++) {" ∷ [])
search_below Rust i end = concat (codes "for " ∷ i ∷ codes " in 0.." ∷ end ∷ codes "_i128 {" ∷ [])

abbrev pub search_text : Language → List ℕ → ℕ → List ℕ
search_text l i k = search_below l i (decimal k)

-- the values that a function gives; in C through pointers of these names
abbrev pub through_text : List ℕ → List ℕ → List ℕ
through_text p e = concat (codes "*" ∷ p ∷ codes " = " ∷ e ∷ codes ";" ∷ [])

abbrev pub through : ℕ → List (List ℕ) → List (List ℕ) → List ℕ
through d (p ∷ ps) (e ∷ es) = line C d (through_text p e) ++ through d ps es
through d _ _ = []

-- one value alone, and several in brackets
abbrev pub bracketed : List ℕ → List ℕ → List (List ℕ) → List ℕ
bracketed opening closing xs =
    if nat_eq (length xs) 1 then joined (codes ", ") xs else opening ++ joined (codes ", ") xs ++ closing

-- several values as they stand behind `return` or before an equality sign
abbrev pub all_text : Language → List (List ℕ) → List ℕ
all_text JavaScript xs = bracketed (codes "[") (codes "]") xs
all_text Rust xs = bracketed (codes "(") (codes ")") xs
all_text l xs = joined (codes ", ") xs

abbrev pub return_text : Language → ℕ → List ℕ → List ℕ
return_text C d all = codes "return past ? COMFUSY_OVERFLOW : 0;"
return_text Python d all = concat (codes "return " ∷ all ∷ [])
return_text JavaScript d all = concat (codes "return " ∷ all ∷ codes ";" ∷ [])
return_text Rust d all = concat (before_end d ∷ codes "Ok(" ∷ all ∷ codes ")" ∷ behind_end d ∷ [])

-- a variable that is given: in Rust one that is a set is copied
abbrev pub copying : Language → Base → List ℕ
copying Rust Set = codes ".clone()"
copying l base = []

abbrev pub owned_text : Language → Base → List ℕ → List ℕ
owned_text l base x = x ++ copying l base

abbrev pub give_lines : Language → ℕ → List (List ℕ) → List (List ℕ) → List ℕ
give_lines C d pointers es = through d pointers es ++ line C d (return_text C d [])
give_lines l d pointers es = line l d (return_text l d (all_text l es))

-- in C a variable for each result, before a call: it has a value in any case, or compilers warn of it
abbrev pub zero_text : Base → List ℕ
zero_text Truth = codes "false"
zero_text b = codes "0"

abbrev pub declared_text : Base → List ℕ → List ℕ
declared_text b x = let_text C false b x (zero_text b)

abbrev pub declared_lines : ℕ → List (List ℕ) → List Base → List ℕ
declared_lines d (x ∷ xs) (b ∷ bs) = line C d (declared_text b x) ++ declared_lines d xs bs
declared_lines d _ _ = []

-- the lines of C around a call: what is past is told before it, and its status behind it
abbrev pub past_lines : ℕ → List ℕ
past_lines d = line C d (codes "if (past)") ++ line C (suc d) (codes "return COMFUSY_OVERFLOW;")

abbrev pub status_lines : ℕ → List ℕ → List ℕ → List ℕ → List ℕ
status_lines d status f args =
    line C d (concat (codes "int " ∷ status ∷ codes " = " ∷ f ∷ codes "(" ∷ args ∷ codes ");" ∷ [])) ++
    line C d (concat (codes "if (" ∷ status ∷ codes ")" ∷ [])) ++ line C (suc d) (concat (codes "return " ∷ status ∷ codes ";" ∷ []))

abbrev pub addresses : List (List ℕ) → List (List ℕ)
addresses xs = map (λ x. codes "&" ++ x) xs

-- the results of a function of the file in variables, by its name, on arguments
abbrev pub result_text : Language → List ℕ → List ℕ → List ℕ → List ℕ
result_text C xs f args = []
result_text Python xs f args = concat (xs ∷ codes " = " ∷ f ∷ codes "(" ∷ args ∷ codes ")" ∷ [])
result_text JavaScript xs f args = concat (codes "const " ∷ xs ∷ codes " = " ∷ f ∷ codes "(" ∷ args ∷ codes ");" ∷ [])
result_text Rust xs f args = concat (codes "let " ∷ xs ∷ codes " = " ∷ f ∷ codes "(" ∷ args ∷ codes ")?;" ∷ [])

-- in Rust each result that is a set is lent from there on
abbrev pub lent_line : ℕ → List ℕ → Base → List ℕ
lent_line d x Set = line Rust d (concat (codes "let " ∷ x ∷ codes " = &" ∷ x ∷ codes ";" ∷ []))
lent_line d x Int = []
lent_line d x Truth = []

abbrev pub lent_lines : ℕ → List (List ℕ) → List Base → List ℕ
lent_lines d (x ∷ xs) (b ∷ bs) = lent_line d x b ++ lent_lines d xs bs
lent_lines d _ _ = []

-- in C its status has a name
abbrev pub call_lines : Language → ℕ → List ℕ → List Base → List (List ℕ) → List ℕ → List (List ℕ) → List ℕ
call_lines C d status bases xs f args =
    past_lines d ++ declared_lines d xs bases ++ status_lines d status f (joined (codes ", ") (args ++ addresses xs))
call_lines Rust d status bases xs f args =
    line Rust d (result_text Rust (all_text Rust xs) f (joined (codes ", ") args)) ++ lent_lines d xs bases
call_lines l d status bases xs f args = line l d (result_text l (all_text l xs) f (joined (codes ", ") args))

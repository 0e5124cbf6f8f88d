-- How functions begin and end.
use Rattle.std.specs.Prelude.{ℕ, List, [], ◌∷◌, ◌++◌, map, length, decimal, codes, nat_eq, if◌then◌else◌}
use Rattle.std.specs.List.{concat}
use Rattle.cf_tree.specs.declared.base.Base.{Base}
use Rattle.cf_tree.specs.declared.base.Base.TheVariants.{Int, Bool as Truth, Set}
use Rattle.cf_print.specs.Pieces.{joined}
use Rattle.cf_print_line.specs.Layout.{base_text}
use Rattle.cf_print_line.specs.declared.heads.TheConstants.{C_BODY, MAY_FAIL, FAILURE}
use Rattle.cf_print.specs.declared.language.Language.{Language}
use Rattle.cf_print.specs.declared.language.Language.TheVariants.{C, Python, JavaScript, Rust}

-- the base of what a function of Rust is given: sets are lent
abbrev pub lent_base_text : Base → List ℕ
lent_base_text Set = codes "&BTreeSet<i128>"
lent_base_text Int = codes "i128"
lent_base_text Truth = codes "bool"

abbrev pub parameter_text : Language → List ℕ → Base → List ℕ
parameter_text Python x b = concat (x ∷ codes ": " ∷ base_text Python b ∷ [])
parameter_text C x b = concat (base_text C b ∷ codes " " ∷ x ∷ [])
parameter_text JavaScript x b = x
parameter_text Rust x b = concat (x ∷ codes ": " ∷ lent_base_text b ∷ [])

abbrev pub parameter_texts : Language → List (List ℕ) → List Base → List (List ℕ)
parameter_texts l (x ∷ xs) (b ∷ bs) = parameter_text l x b ∷ parameter_texts l xs bs
parameter_texts l _ _ = []

abbrev pub pointer_text : List ℕ → Base → List ℕ
pointer_text x b = concat (base_text C b ∷ codes " *" ∷ x ∷ [])

abbrev pub pointer_texts : List (List ℕ) → List Base → List (List ℕ)
pointer_texts (x ∷ xs) (b ∷ bs) = pointer_text x b ∷ pointer_texts xs bs
pointer_texts _ _ = []

abbrev pub all_base_texts : Language → List Base → List (List ℕ)
all_base_texts l bs = map (base_text l) bs

-- what a function gives, as its first line says it: one value alone, several as a tuple
abbrev pub results_with : Language → List ℕ → List ℕ
results_with Python all = concat (codes "tuple[" ∷ all ∷ codes "]" ∷ [])
results_with C all = concat (codes "tuple[" ∷ all ∷ codes "]" ∷ [])
results_with JavaScript all = concat (codes "[" ∷ all ∷ codes "]" ∷ [])
results_with Rust all = concat (codes "(" ∷ all ∷ codes ")" ∷ [])

abbrev pub results_text : Language → List Base → List ℕ
results_text l [] = results_with l []
results_text l (b ∷ bs) =
    if nat_eq (length bs) 0 then base_text l b else results_with l (joined (codes ", ") (all_base_texts l (b ∷ bs)))

-- the first line of a function, by its parameters and results
abbrev pub head_with : Language → List ℕ → List ℕ → List ℕ → List ℕ
head_with Python name params results = concat (codes "def " ∷ name ∷ codes "(" ∷ params ∷ codes ") -> " ∷ results ∷ codes ":\n" ∷ [])
head_with C name params results = concat (codes "int " ∷ name ∷ codes "(" ∷ params ∷ codes ")" ∷ [])
head_with JavaScript name params results = concat (codes "function " ∷ name ∷ codes "(" ∷ params ∷ codes ") {\n" ∷ [])
head_with Rust name params results =
    concat (codes "fn " ∷ name ∷ codes "(" ∷ params ∷ MAY_FAIL.now ∷ results ∷ FAILURE.now ∷ [])

abbrev pub head_text : Language → List ℕ → List (List ℕ) → List Base → List ℕ
head_text l name params results = head_with l name (joined (codes ", ") params) (results_text l results)

-- all parameters; in C with the pointers to the results
abbrev pub all_parameters : Language → List (List ℕ) → List Base → List (List ℕ) → List Base → List (List ℕ)
all_parameters C names bases pointers results = parameter_texts C names bases ++ pointer_texts pointers results
all_parameters Python names bases pointers results = parameter_texts Python names bases
all_parameters JavaScript names bases pointers results = parameter_texts JavaScript names bases
all_parameters Rust names bases pointers results = parameter_texts Rust names bases

-- what a function gives that is not called from outside
abbrev pub about_part : ℕ → List ℕ
about_part n = if nat_eq n 0 then codes "Gives a part of main." else concat (codes "Gives what choose " ∷ decimal n ∷ codes " picks." ∷ [])

-- the lines of such a function before its first statement, by what it gives and its head
abbrev pub opening_with : Language → List ℕ → List ℕ → List ℕ
opening_with Python about head = concat (codes "\n\n" ∷ head ∷ codes "    \"\"\"" ∷ about ∷ codes "\"\"\"\n" ∷ [])
opening_with C about head = concat (codes "/* " ∷ about ∷ codes " */\nstatic " ∷ head ∷ C_BODY.now ∷ [])
opening_with JavaScript about head = concat (codes "\n// " ∷ about ∷ codes "\n" ∷ head ∷ [])
opening_with Rust about head = concat (codes "\n/// " ∷ about ∷ codes "\n" ∷ head ∷ [])

abbrev pub part_opening : Language → ℕ → List ℕ → List (List ℕ) → List Base → List ℕ
part_opening l n name params results = opening_with l (about_part n) (head_text l name params results)

-- its last line
abbrev pub part_closing : Language → List ℕ
part_closing Python = []
part_closing C = codes "}\n\n"
part_closing JavaScript = codes "}\n"
part_closing Rust = codes "}\n"

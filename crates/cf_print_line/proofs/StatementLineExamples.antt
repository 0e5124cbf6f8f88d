-- Worked examples of the lines of Rust: what differs from the other languages. And calls of C.
use Rattle.std.specs.Prelude.{◌≡◌, true, false, List, [], ◌∷◌, ◌++◌, codes, refl}
use Rattle.std.specs.Fmt.{digits}
use Rattle.cf_tree.specs.declared.base.Base.TheVariants.{Int, Bool as Truth, Set}
use Rattle.cf_print.specs.declared.language.Language.TheVariants.{C, Python, Rust}
use Rattle.cf_print_line.specs.Called.{end_of}
use Rattle.cf_print_line.specs.Heads.{all_parameters, part_opening, part_closing}
use Rattle.cf_print_line.specs.Layout.{let_lines, none_text, give_lines, owned_text, call_lines, if_text, else_lines, scope_lines, search_text, comment_text, next_text}

-- ---- variables: a number of numerals alone is told its type, and a set is lent
number : let_lines Rust 1 true false Int (codes "n1") (codes "t / 60") ≡ codes "    let n1 = t / 60;\n"
number = refl

numeral : let_lines Rust 1 true true Int (codes "n1") (codes "5") ≡ codes "    let n1: i128 = 5;\n"
numeral = refl

truth : let_lines Rust 2 false false Truth (codes "b1") (codes "true") ≡ codes "        let b1 = true;\n"
truth = refl

set : let_lines Rust 1 true false Set (codes "s1") (codes "union(s, t)") ≡ codes "    let s1: &BTreeSet<i128> = &union(s, t);\n"
set = refl

-- ---- the last statement of a function is its value
none_deeper : none_text Rust 2 7 ≡ codes "return Err(ComfusyError::NoSolution(7));"
unfolding digits
none_deeper = refl

none_last : none_text Rust 1 7 ≡ codes "Err(ComfusyError::NoSolution(7))"
unfolding digits
none_last = refl

one_given : give_lines Rust 1 [] (codes "h" ∷ []) ≡ codes "    Ok(h)\n"
one_given = refl

two_given : give_lines Rust 2 [] (codes "h" ∷ codes "m" ∷ []) ≡ codes "        return Ok((h, m));\n"
two_given = refl

none_given : give_lines Rust 1 [] [] ≡ codes "    Ok(())\n"
none_given = refl

own_set : owned_text Rust Set (codes "s") ≡ codes "s.clone()"
own_set = refl

own_number : owned_text Rust Int (codes "n") ≡ codes "n"
own_number = refl

set_of_python : owned_text Python Set (codes "s") ≡ codes "s"
set_of_python = refl

-- ---- calls of functions of the file
call_for_one : call_lines Rust 1 (codes "status") (Int ∷ []) (codes "x" ∷ []) (codes "choose_1") (codes "t" ∷ []) ≡ codes "    let x = choose_1(t)?;\n"
call_for_one = refl

call_for_sets : call_lines Rust 1 (codes "status") (Set ∷ Int ∷ []) (codes "s" ∷ codes "n" ∷ []) (codes "part") (codes "t" ∷ codes "u" ∷ []) ≡
    codes "    let (s, n) = part(t, u)?;\n    let s = &s;\n"
call_for_sets = refl

-- in C each result has a value before the call
call_of_c : call_lines C 1 (codes "status") (Int ∷ Truth ∷ []) (codes "n1" ∷ codes "b1" ∷ []) (codes "part") (codes "t" ∷ []) ≡
    codes "    if (past)\n        return COMFUSY_OVERFLOW;\n    whole n1 = 0;\n    bool b1 = false;\n    int status = part(t, &n1, &b1);\n    if (status)\n        return status;\n"
call_of_c = refl

part : part_opening Rust 3 (codes "choose_3") (all_parameters Rust (codes "n" ∷ codes "b" ∷ codes "s" ∷ []) (Int ∷ Truth ∷ Set ∷ []) [] []) (Set ∷ Truth ∷ []) ≡
    codes "\n/// Gives what choose 3 picks.\nfn choose_3(n: i128, b: bool, s: &BTreeSet<i128>) -> Result<(BTreeSet<i128>, bool), ComfusyError> {\n"
unfolding digits
part = refl

one_result : part_opening Rust 0 (codes "part") [] (Int ∷ []) ≡ codes "\n/// Gives a part of main.\nfn part() -> Result<i128, ComfusyError> {\n"
one_result = refl

ends : part_closing Rust ++ end_of Rust ≡ codes "}\n}\n"
ends = refl

-- ---- conditions, arms and searches
condition : if_text Rust (codes "n < 0") ≡ codes "if n < 0 {"
condition = refl

search : search_text Rust (codes "i") 60 ≡ codes "for i in 0..60_i128 {"
unfolding digits
search = refl

others : else_lines Rust 1 ++ scope_lines Rust 1 ++ comment_text Rust (codes "Arm 1.") ++ next_text Rust ≡ codes "    } else {\n    {\n// Arm 1.continue;"
others = refl

-- Worked examples of what is told where reading stops: above each stands its source, behind the header.
use Rattle.std.specs.Prelude.{pos, ◌≡◌, List, [], ◌∷◌, ◌++◌, codes, reverse, Some, None, refl}
use Rattle.cf_lex.specs.declared.token.TokenKind.{TokenKind}
use Rattle.cf_lex.specs.declared.token.TokenKind.TheVariants.{Literal, Word, Sign}
use Rattle.cf_help.specs.Syntax.{Stop, stop_behind, syntax_help, found_token, written}

-- the tokens behind the header up to where reading stops, and from there on
abbrev stopped : List TokenKind → List TokenKind → Stop
stopped before after = stop_behind (reverse (Word (codes "comfusy") ∷ Literal (pos 3) ∷ [] ++ before)) after

header_alone :
    syntax_help (stopped [] []) ≡ Some (codes "the text ends too early: a ), an else, an in or a body is missing")
header_alone = refl

-- # nothing
header_and_a_comment :
    syntax_help (stopped [] []) ≡ Some (codes "the text ends too early: a ), an else, an in or a body is missing")
header_and_a_comment = refl

-- def main(a: int): int =
no_line_feed_at_the_end :
    syntax_help (stopped (Word (codes "def") ∷ Word (codes "main") ∷ Sign (codes "(") ∷ Word (codes "a") ∷ Sign (codes ":") ∷ Word (codes "int") ∷ Sign
    (codes ")") ∷ Sign (codes ":") ∷ Word (codes "int") ∷ Sign (codes "=") ∷ []) []) ≡ Some (codes
    "the text ends too early: a ), an else, an in or a body is missing")
no_line_feed_at_the_end = refl

-- def main(a: int): int = choose (x: int) where 0 != x < a
comparison_chain_with :
    syntax_help (stopped (Word (codes "def") ∷ Word (codes "main") ∷ Sign (codes "(") ∷ Word (codes "a") ∷ Sign (codes ":") ∷ Word (codes "int") ∷ Sign
    (codes ")") ∷ Sign (codes ":") ∷ Word (codes "int") ∷ Sign (codes "=") ∷ Word (codes "choose") ∷ Sign (codes "(") ∷ Word (codes "x") ∷ Sign (codes ":") ∷
    Word (codes "int") ∷ Sign (codes ")") ∷ Word (codes "where") ∷ Literal (pos 0) ∷ Sign (codes "!=") ∷ Word (codes "x") ∷ []) (Sign (codes "<") ∷ Word
    (codes "a") ∷ [])) ≡ Some (codes "a chain runs one way, of < <= == or of > >= ==; join others by &&")
comparison_chain_with = refl

-- def main(a: int): int = choose (x: int) where 0 <= x > a
chain_of_two_ways :
    syntax_help (stopped (Word (codes "def") ∷ Word (codes "main") ∷ Sign (codes "(") ∷ Word (codes "a") ∷ Sign (codes ":") ∷ Word (codes "int") ∷ Sign
    (codes ")") ∷ Sign (codes ":") ∷ Word (codes "int") ∷ Sign (codes "=") ∷ Word (codes "choose") ∷ Sign (codes "(") ∷ Word (codes "x") ∷ Sign (codes ":") ∷
    Word (codes "int") ∷ Sign (codes ")") ∷ Word (codes "where") ∷ Literal (pos 0) ∷ Sign (codes "<=") ∷ Word (codes "x") ∷ []) (Sign (codes ">") ∷ Word
    (codes "a") ∷ [])) ≡ Some (codes "a chain runs one way, of < <= == or of > >= ==; join others by &&")
chain_of_two_ways = refl

-- def main(a: int): int = choose (x: int) where x == a subset x
chain_with_subset_behind :
    syntax_help (stopped (Word (codes "def") ∷ Word (codes "main") ∷ Sign (codes "(") ∷ Word (codes "a") ∷ Sign (codes ":") ∷ Word (codes "int") ∷ Sign
    (codes ")") ∷ Sign (codes ":") ∷ Word (codes "int") ∷ Sign (codes "=") ∷ Word (codes "choose") ∷ Sign (codes "(") ∷ Word (codes "x") ∷ Sign (codes ":") ∷
    Word (codes "int") ∷ Sign (codes ")") ∷ Word (codes "where") ∷ Word (codes "x") ∷ Sign (codes "==") ∷ Word (codes "a") ∷ []) (Word (codes "subset") ∷
    Word (codes "x") ∷ [])) ≡ Some (codes "a chain runs one way, of < <= == or of > >= ==; join others by &&")
chain_with_subset_behind = refl

-- def main(a: int): int = choose (x: int) where x == a < 3 >= 2
chain_of_then_two_ways :
    syntax_help (stopped (Word (codes "def") ∷ Word (codes "main") ∷ Sign (codes "(") ∷ Word (codes "a") ∷ Sign (codes ":") ∷ Word (codes "int") ∷ Sign
    (codes ")") ∷ Sign (codes ":") ∷ Word (codes "int") ∷ Sign (codes "=") ∷ Word (codes "choose") ∷ Sign (codes "(") ∷ Word (codes "x") ∷ Sign (codes ":") ∷
    Word (codes "int") ∷ Sign (codes ")") ∷ Word (codes "where") ∷ Word (codes "x") ∷ Sign (codes "==") ∷ Word (codes "a") ∷ Sign (codes "<") ∷ Literal (pos
    3) ∷ []) (Sign (codes ">=") ∷ Literal (pos 2) ∷ [])) ≡ Some (codes "a chain runs one way, of < <= == or of > >= ==; join others by &&")
chain_of_then_two_ways = refl

-- def main(a: int): int = choose (x: int) where x = a
single :
    syntax_help (stopped (Word (codes "def") ∷ Word (codes "main") ∷ Sign (codes "(") ∷ Word (codes "a") ∷ Sign (codes ":") ∷ Word (codes "int") ∷ Sign
    (codes ")") ∷ Sign (codes ":") ∷ Word (codes "int") ∷ Sign (codes "=") ∷ Word (codes "choose") ∷ Sign (codes "(") ∷ Word (codes "x") ∷ Sign (codes ":") ∷
    Word (codes "int") ∷ Sign (codes ")") ∷ Word (codes "where") ∷ Word (codes "x") ∷ []) (Sign (codes "=") ∷ Word (codes "a") ∷ [])) ≡ Some (codes
    "a comparison is ==; = stands behind def, const and let")
single = refl

-- def main(a: int): int = choose (x: int) where x > a => x == 3
for_implication :
    syntax_help (stopped (Word (codes "def") ∷ Word (codes "main") ∷ Sign (codes "(") ∷ Word (codes "a") ∷ Sign (codes ":") ∷ Word (codes "int") ∷ Sign
    (codes ")") ∷ Sign (codes ":") ∷ Word (codes "int") ∷ Sign (codes "=") ∷ Word (codes "choose") ∷ Sign (codes "(") ∷ Word (codes "x") ∷ Sign (codes ":") ∷
    Word (codes "int") ∷ Sign (codes ")") ∷ Word (codes "where") ∷ Word (codes "x") ∷ Sign (codes ">") ∷ Word (codes "a") ∷ []) (Sign (codes "=") ∷ Sign
    (codes ">") ∷ Word (codes "x") ∷ Sign (codes "==") ∷ Literal (pos 3) ∷ [])) ≡ Some (codes "implication is ==>")
for_implication = refl

-- def main(a: int): int = choose (x: int) where x > a -> x == 3
for_implication_too :
    syntax_help (stopped (Word (codes "def") ∷ Word (codes "main") ∷ Sign (codes "(") ∷ Word (codes "a") ∷ Sign (codes ":") ∷ Word (codes "int") ∷ Sign
    (codes ")") ∷ Sign (codes ":") ∷ Word (codes "int") ∷ Sign (codes "=") ∷ Word (codes "choose") ∷ Sign (codes "(") ∷ Word (codes "x") ∷ Sign (codes ":") ∷
    Word (codes "int") ∷ Sign (codes ")") ∷ Word (codes "where") ∷ Word (codes "x") ∷ Sign (codes ">") ∷ Word (codes "a") ∷ Sign (codes "-") ∷ []) (Sign
    (codes ">") ∷ Word (codes "x") ∷ Sign (codes "==") ∷ Literal (pos 3) ∷ [])) ≡ Some (codes "implication is ==>")
for_implication_too = refl

-- def main(a: int): int = choose (x: int) where x <> a
for_unequal :
    syntax_help (stopped (Word (codes "def") ∷ Word (codes "main") ∷ Sign (codes "(") ∷ Word (codes "a") ∷ Sign (codes ":") ∷ Word (codes "int") ∷ Sign
    (codes ")") ∷ Sign (codes ":") ∷ Word (codes "int") ∷ Sign (codes "=") ∷ Word (codes "choose") ∷ Sign (codes "(") ∷ Word (codes "x") ∷ Sign (codes ":") ∷
    Word (codes "int") ∷ Sign (codes ")") ∷ Word (codes "where") ∷ Word (codes "x") ∷ Sign (codes "<") ∷ []) (Sign (codes ">") ∷ Word (codes "a") ∷ [])) ≡
    Some (codes "not equal is !=")
for_unequal = refl

-- def main(a: int): int = choose (x: int) where x =< a
for_at_most :
    syntax_help (stopped (Word (codes "def") ∷ Word (codes "main") ∷ Sign (codes "(") ∷ Word (codes "a") ∷ Sign (codes ":") ∷ Word (codes "int") ∷ Sign
    (codes ")") ∷ Sign (codes ":") ∷ Word (codes "int") ∷ Sign (codes "=") ∷ Word (codes "choose") ∷ Sign (codes "(") ∷ Word (codes "x") ∷ Sign (codes ":") ∷
    Word (codes "int") ∷ Sign (codes ")") ∷ Word (codes "where") ∷ Word (codes "x") ∷ []) (Sign (codes "=") ∷ Sign (codes "<") ∷ Word (codes "a") ∷ [])) ≡
    Some (codes "at most is <=")
for_at_most = refl

-- def main(a: int): int = choose (x: int) where x > a and x < 3
word_and :
    syntax_help (stopped (Word (codes "def") ∷ Word (codes "main") ∷ Sign (codes "(") ∷ Word (codes "a") ∷ Sign (codes ":") ∷ Word (codes "int") ∷ Sign
    (codes ")") ∷ Sign (codes ":") ∷ Word (codes "int") ∷ Sign (codes "=") ∷ Word (codes "choose") ∷ Sign (codes "(") ∷ Word (codes "x") ∷ Sign (codes ":") ∷
    Word (codes "int") ∷ Sign (codes ")") ∷ Word (codes "where") ∷ Word (codes "x") ∷ Sign (codes ">") ∷ Word (codes "a") ∷ []) (Word (codes "and") ∷ Word
    (codes "x") ∷ Sign (codes "<") ∷ Literal (pos 3) ∷ [])) ≡ Some (codes "and is &&")
word_and = refl

-- def main(a: int): int = choose (x: int) where x > a or x < 3
word_or :
    syntax_help (stopped (Word (codes "def") ∷ Word (codes "main") ∷ Sign (codes "(") ∷ Word (codes "a") ∷ Sign (codes ":") ∷ Word (codes "int") ∷ Sign
    (codes ")") ∷ Sign (codes ":") ∷ Word (codes "int") ∷ Sign (codes "=") ∷ Word (codes "choose") ∷ Sign (codes "(") ∷ Word (codes "x") ∷ Sign (codes ":") ∷
    Word (codes "int") ∷ Sign (codes ")") ∷ Word (codes "where") ∷ Word (codes "x") ∷ Sign (codes ">") ∷ Word (codes "a") ∷ []) (Word (codes "or") ∷ Word
    (codes "x") ∷ Sign (codes "<") ∷ Literal (pos 3) ∷ [])) ≡ Some (codes "or is ||")
word_or = refl

-- def main(a: int): int = choose (x: int) where x > a implies x > 0
word_implies :
    syntax_help (stopped (Word (codes "def") ∷ Word (codes "main") ∷ Sign (codes "(") ∷ Word (codes "a") ∷ Sign (codes ":") ∷ Word (codes "int") ∷ Sign
    (codes ")") ∷ Sign (codes ":") ∷ Word (codes "int") ∷ Sign (codes "=") ∷ Word (codes "choose") ∷ Sign (codes "(") ∷ Word (codes "x") ∷ Sign (codes ":") ∷
    Word (codes "int") ∷ Sign (codes ")") ∷ Word (codes "where") ∷ Word (codes "x") ∷ Sign (codes ">") ∷ Word (codes "a") ∷ []) (Word (codes "implies") ∷
    Word (codes "x") ∷ Sign (codes ">") ∷ Literal (pos 0) ∷ [])) ≡ Some (codes "implication is ==>")
word_implies = refl

-- def main(a: int): int = choose (x: int) where x > a minimize x
minimize :
    syntax_help (stopped (Word (codes "def") ∷ Word (codes "main") ∷ Sign (codes "(") ∷ Word (codes "a") ∷ Sign (codes ":") ∷ Word (codes "int") ∷ Sign
    (codes ")") ∷ Sign (codes ":") ∷ Word (codes "int") ∷ Sign (codes "=") ∷ Word (codes "choose") ∷ Sign (codes "(") ∷ Word (codes "x") ∷ Sign (codes ":") ∷
    Word (codes "int") ∷ Sign (codes ")") ∷ Word (codes "where") ∷ Word (codes "x") ∷ Sign (codes ">") ∷ Word (codes "a") ∷ []) (Word (codes "minimize") ∷
    Word (codes "x") ∷ [])) ≡ Some (codes "did you mean 'minimise'?")
minimize = refl

-- def main(a: int): int = choose (x: int) where x < a maximize x
maximize :
    syntax_help (stopped (Word (codes "def") ∷ Word (codes "main") ∷ Sign (codes "(") ∷ Word (codes "a") ∷ Sign (codes ":") ∷ Word (codes "int") ∷ Sign
    (codes ")") ∷ Sign (codes ":") ∷ Word (codes "int") ∷ Sign (codes "=") ∷ Word (codes "choose") ∷ Sign (codes "(") ∷ Word (codes "x") ∷ Sign (codes ":") ∷
    Word (codes "int") ∷ Sign (codes ")") ∷ Word (codes "where") ∷ Word (codes "x") ∷ Sign (codes "<") ∷ Word (codes "a") ∷ []) (Word (codes "maximize") ∷
    Word (codes "x") ∷ [])) ≡ Some (codes "did you mean 'maximise'?")
maximize = refl

-- def main(a: int): int = choose (x: int) where exists (k: int) 3 * k == x
exists :
    syntax_help (stopped (Word (codes "def") ∷ Word (codes "main") ∷ Sign (codes "(") ∷ Word (codes "a") ∷ Sign (codes ":") ∷ Word (codes "int") ∷ Sign
    (codes ")") ∷ Sign (codes ":") ∷ Word (codes "int") ∷ Sign (codes "=") ∷ Word (codes "choose") ∷ Sign (codes "(") ∷ Word (codes "x") ∷ Sign (codes ":") ∷
    Word (codes "int") ∷ Sign (codes ")") ∷ Word (codes "where") ∷ Word (codes "exists") ∷ Sign (codes "(") ∷ Word (codes "k") ∷ []) (Sign (codes ":") ∷ Word
    (codes "int") ∷ Sign (codes ")") ∷ Literal (pos 3) ∷ Sign (codes "*") ∷ Word (codes "k") ∷ Sign (codes "==") ∷ Word (codes "x") ∷ [])) ≡ Some (codes
    "an output behind ; is not given out: choose (x: int; k: int) where ..")
exists = refl

-- def main(s: set): int = choose (x: int) where forall e in s: x >= e
forall :
    syntax_help (stopped (Word (codes "def") ∷ Word (codes "main") ∷ Sign (codes "(") ∷ Word (codes "s") ∷ Sign (codes ":") ∷ Word (codes "set") ∷ Sign
    (codes ")") ∷ Sign (codes ":") ∷ Word (codes "int") ∷ Sign (codes "=") ∷ Word (codes "choose") ∷ Sign (codes "(") ∷ Word (codes "x") ∷ Sign (codes ":") ∷
    Word (codes "int") ∷ Sign (codes ")") ∷ Word (codes "where") ∷ Word (codes "forall") ∷ []) (Word (codes "e") ∷ Word (codes "in") ∷ Word (codes "s") ∷
    Sign (codes ":") ∷ Word (codes "x") ∷ Sign (codes ">=") ∷ Word (codes "e") ∷ [])) ≡ Some (codes "there is no forall")
forall = refl

-- def main(s: set): int = choose (x: int) where x in s
membership :
    syntax_help (stopped (Word (codes "def") ∷ Word (codes "main") ∷ Sign (codes "(") ∷ Word (codes "s") ∷ Sign (codes ":") ∷ Word (codes "set") ∷ Sign
    (codes ")") ∷ Sign (codes ":") ∷ Word (codes "int") ∷ Sign (codes "=") ∷ Word (codes "choose") ∷ Sign (codes "(") ∷ Word (codes "x") ∷ Sign (codes ":") ∷
    Word (codes "int") ∷ Sign (codes ")") ∷ Word (codes "where") ∷ Word (codes "x") ∷ []) (Word (codes "in") ∷ Word (codes "s") ∷ [])) ≡ Some (codes
    "there is no membership; sets have subset, inter and card")
membership = refl

-- fn main(a: int): int = a
fn :
    syntax_help (stopped [] (Word (codes "fn") ∷ Word (codes "main") ∷ Sign (codes "(") ∷ Word (codes "a") ∷ Sign (codes ":") ∷ Word (codes "int") ∷ Sign
    (codes ")") ∷ Sign (codes ":") ∷ Word (codes "int") ∷ Sign (codes "=") ∷ Word (codes "a") ∷ [])) ≡ Some (codes "a function begins with def")
fn = refl

-- def main(a: int) = a
no_result_type :
    syntax_help (stopped (Word (codes "def") ∷ Word (codes "main") ∷ Sign (codes "(") ∷ Word (codes "a") ∷ Sign (codes ":") ∷ Word (codes "int") ∷ Sign
    (codes ")") ∷ []) (Sign (codes "=") ∷ Word (codes "a") ∷ [])) ≡ Some (codes "a function has a result type: def f(x: int): int = ..")
no_result_type = refl

-- def main(a: Int): int = a
type_in_capitals :
    syntax_help (stopped (Word (codes "def") ∷ Word (codes "main") ∷ Sign (codes "(") ∷ Word (codes "a") ∷ Sign (codes ":") ∷ []) (Word (codes "Int") ∷ Sign
    (codes ")") ∷ Sign (codes ":") ∷ Word (codes "int") ∷ Sign (codes "=") ∷ Word (codes "a") ∷ [])) ≡ Some (codes "a type is int, bool or set")
type_in_capitals = refl

-- def main(a: int): ((int, int), int) = ((a, a), a)
nested_tuple_type :
    syntax_help (stopped (Word (codes "def") ∷ Word (codes "main") ∷ Sign (codes "(") ∷ Word (codes "a") ∷ Sign (codes ":") ∷ Word (codes "int") ∷ Sign
    (codes ")") ∷ Sign (codes ":") ∷ Sign (codes "(") ∷ []) (Sign (codes "(") ∷ Word (codes "int") ∷ Sign (codes ",") ∷ Word (codes "int") ∷ Sign (codes ")")
    ∷ Sign (codes ",") ∷ Word (codes "int") ∷ Sign (codes ")") ∷ Sign (codes "=") ∷ Sign (codes "(") ∷ Sign (codes "(") ∷ Word (codes "a") ∷ Sign (codes ",")
    ∷ Word (codes "a") ∷ Sign (codes ")") ∷ Sign (codes ",") ∷ Word (codes "a") ∷ Sign (codes ")") ∷ [])) ≡ Some (codes "a tuple is flat: (int, int, int)")
nested_tuple_type = refl

-- def main(a: int): int = choose (x) where x == a
output_without_type :
    syntax_help (stopped (Word (codes "def") ∷ Word (codes "main") ∷ Sign (codes "(") ∷ Word (codes "a") ∷ Sign (codes ":") ∷ Word (codes "int") ∷ Sign
    (codes ")") ∷ Sign (codes ":") ∷ Word (codes "int") ∷ Sign (codes "=") ∷ Word (codes "choose") ∷ Sign (codes "(") ∷ Word (codes "x") ∷ []) (Sign (codes
    ")") ∷ Word (codes "where") ∷ Word (codes "x") ∷ Sign (codes "==") ∷ Word (codes "a") ∷ [])) ≡ Some (codes
    "each parameter and output has a type: (x: int)")
output_without_type = refl

-- def main(a, b): int = a
parameter_without_type :
    syntax_help (stopped (Word (codes "def") ∷ Word (codes "main") ∷ Sign (codes "(") ∷ Word (codes "a") ∷ []) (Sign (codes ",") ∷ Word (codes "b") ∷ Sign
    (codes ")") ∷ Sign (codes ":") ∷ Word (codes "int") ∷ Sign (codes "=") ∷ Word (codes "a") ∷ [])) ≡ Some (codes
    "each parameter and output has a type: (x: int)")
parameter_without_type = refl

-- def main(a: int): int = choose x: int where x == a
outputs_without_parentheses :
    syntax_help (stopped (Word (codes "def") ∷ Word (codes "main") ∷ Sign (codes "(") ∷ Word (codes "a") ∷ Sign (codes ":") ∷ Word (codes "int") ∷ Sign
    (codes ")") ∷ Sign (codes ":") ∷ Word (codes "int") ∷ Sign (codes "=") ∷ Word (codes "choose") ∷ []) (Word (codes "x") ∷ Sign (codes ":") ∷ Word (codes
    "int") ∷ Word (codes "where") ∷ Word (codes "x") ∷ Sign (codes "==") ∷ Word (codes "a") ∷ [])) ≡ Some (codes
    "the outputs stand in parentheses: choose (x: int) where ..")
outputs_without_parentheses = refl

-- def main(a: int): int = choose (x: int;) where x == a
no_hidden_outputs_behind :
    syntax_help (stopped (Word (codes "def") ∷ Word (codes "main") ∷ Sign (codes "(") ∷ Word (codes "a") ∷ Sign (codes ":") ∷ Word (codes "int") ∷ Sign
    (codes ")") ∷ Sign (codes ":") ∷ Word (codes "int") ∷ Sign (codes "=") ∷ Word (codes "choose") ∷ Sign (codes "(") ∷ Word (codes "x") ∷ Sign (codes ":") ∷
    Word (codes "int") ∷ Sign (codes ";") ∷ []) (Sign (codes ")") ∷ Word (codes "where") ∷ Word (codes "x") ∷ Sign (codes "==") ∷ Word (codes "a") ∷ [])) ≡
    Some (codes "hidden outputs stand behind the ;")
no_hidden_outputs_behind = refl

-- def main(a: int): int = choose (; k: int) where k == a
hidden_outputs_alone :
    syntax_help (stopped (Word (codes "def") ∷ Word (codes "main") ∷ Sign (codes "(") ∷ Word (codes "a") ∷ Sign (codes ":") ∷ Word (codes "int") ∷ Sign
    (codes ")") ∷ Sign (codes ":") ∷ Word (codes "int") ∷ Sign (codes "=") ∷ Word (codes "choose") ∷ Sign (codes "(") ∷ []) (Sign (codes ";") ∷ Word (codes
    "k") ∷ Sign (codes ":") ∷ Word (codes "int") ∷ Sign (codes ")") ∷ Word (codes "where") ∷ Word (codes "k") ∷ Sign (codes "==") ∷ Word (codes "a") ∷ [])) ≡
    Some (codes "an output stands before the ;")
hidden_outputs_alone = refl

-- def main(a: int): int = choose (x: int; k: int; l: int) where k == a
two_lists_of_hidden_outputs :
    syntax_help (stopped (Word (codes "def") ∷ Word (codes "main") ∷ Sign (codes "(") ∷ Word (codes "a") ∷ Sign (codes ":") ∷ Word (codes "int") ∷ Sign
    (codes ")") ∷ Sign (codes ":") ∷ Word (codes "int") ∷ Sign (codes "=") ∷ Word (codes "choose") ∷ Sign (codes "(") ∷ Word (codes "x") ∷ Sign (codes ":") ∷
    Word (codes "int") ∷ Sign (codes ";") ∷ Word (codes "k") ∷ Sign (codes ":") ∷ Word (codes "int") ∷ []) (Sign (codes ";") ∷ Word (codes "l") ∷ Sign (codes
    ":") ∷ Word (codes "int") ∷ Sign (codes ")") ∷ Word (codes "where") ∷ Word (codes "k") ∷ Sign (codes "==") ∷ Word (codes "a") ∷ [])) ≡ Some (codes
    "a ; stands only between outputs and hidden ones, and between arms")
two_lists_of_hidden_outputs = refl

-- def main(a: int): int = a;
body_closed_by :
    syntax_help (stopped (Word (codes "def") ∷ Word (codes "main") ∷ Sign (codes "(") ∷ Word (codes "a") ∷ Sign (codes ":") ∷ Word (codes "int") ∷ Sign
    (codes ")") ∷ Sign (codes ":") ∷ Word (codes "int") ∷ Sign (codes "=") ∷ Word (codes "a") ∷ []) (Sign (codes ";") ∷ [])) ≡ Some (codes
    "a ; stands only between outputs and hidden ones, and between arms")
body_closed_by = refl

-- def main(a: int): int { a }
body_in_braces :
    syntax_help (stopped (Word (codes "def") ∷ Word (codes "main") ∷ Sign (codes "(") ∷ Word (codes "a") ∷ Sign (codes ":") ∷ Word (codes "int") ∷ Sign
    (codes ")") ∷ Sign (codes ":") ∷ Word (codes "int") ∷ []) (Sign (codes "{") ∷ Word (codes "a") ∷ Sign (codes "}") ∷ [])) ≡ Some (codes
    "a body stands behind =: def f(x: int): int = x")
body_in_braces = refl

-- def main(a: int): int = a[0]
list :
    syntax_help (stopped (Word (codes "def") ∷ Word (codes "main") ∷ Sign (codes "(") ∷ Word (codes "a") ∷ Sign (codes ":") ∷ Word (codes "int") ∷ Sign
    (codes ")") ∷ Sign (codes ":") ∷ Word (codes "int") ∷ Sign (codes "=") ∷ Word (codes "a") ∷ []) (Sign (codes "[") ∷ Literal (pos 0) ∷ Sign (codes "]") ∷
    [])) ≡ Some (codes "there are no lists; a set is {1, 2}")
list = refl

-- def main(a: int): int = a + 1_000
digits_with :
    syntax_help (stopped (Word (codes "def") ∷ Word (codes "main") ∷ Sign (codes "(") ∷ Word (codes "a") ∷ Sign (codes ":") ∷ Word (codes "int") ∷ Sign
    (codes ")") ∷ Sign (codes ":") ∷ Word (codes "int") ∷ Sign (codes "=") ∷ Word (codes "a") ∷ Sign (codes "+") ∷ Literal (pos 1) ∷ []) (Word (codes "_000")
    ∷ [])) ≡ Some (codes "digits are written without _")
digits_with = refl

-- def main(a: int): int = choose (x: int) where 3 x == a
product_without :
    syntax_help (stopped (Word (codes "def") ∷ Word (codes "main") ∷ Sign (codes "(") ∷ Word (codes "a") ∷ Sign (codes ":") ∷ Word (codes "int") ∷ Sign
    (codes ")") ∷ Sign (codes ":") ∷ Word (codes "int") ∷ Sign (codes "=") ∷ Word (codes "choose") ∷ Sign (codes "(") ∷ Word (codes "x") ∷ Sign (codes ":") ∷
    Word (codes "int") ∷ Sign (codes ")") ∷ Word (codes "where") ∷ Literal (pos 3) ∷ []) (Word (codes "x") ∷ Sign (codes "==") ∷ Word (codes "a") ∷ [])) ≡
    Some (codes "a product is written with *")
product_without = refl

-- def main(a: int): int = a + 0xff
hexadecimal :
    syntax_help (stopped (Word (codes "def") ∷ Word (codes "main") ∷ Sign (codes "(") ∷ Word (codes "a") ∷ Sign (codes ":") ∷ Word (codes "int") ∷ Sign
    (codes ")") ∷ Sign (codes ":") ∷ Word (codes "int") ∷ Sign (codes "=") ∷ Word (codes "a") ∷ Sign (codes "+") ∷ Literal (pos 0) ∷ []) (Word (codes "xff")
    ∷ [])) ≡ Some (codes "a product is written with *")
hexadecimal = refl

-- def main(a: int): int = let with = a in with
reserved_word_as_a_name :
    syntax_help (stopped (Word (codes "def") ∷ Word (codes "main") ∷ Sign (codes "(") ∷ Word (codes "a") ∷ Sign (codes ":") ∷ Word (codes "int") ∷ Sign
    (codes ")") ∷ Sign (codes ":") ∷ Word (codes "int") ∷ Sign (codes "=") ∷ Word (codes "let") ∷ []) (Word (codes "with") ∷ Sign (codes "=") ∷ Word (codes
    "a") ∷ Word (codes "in") ∷ Word (codes "with") ∷ [])) ≡ Some (codes "'with' is a reserved word; take another name")
reserved_word_as_a_name = refl

-- def main(a: int): int = choose (set: int) where set == a
reserved_word_as_an_output :
    syntax_help (stopped (Word (codes "def") ∷ Word (codes "main") ∷ Sign (codes "(") ∷ Word (codes "a") ∷ Sign (codes ":") ∷ Word (codes "int") ∷ Sign
    (codes ")") ∷ Sign (codes ":") ∷ Word (codes "int") ∷ Sign (codes "=") ∷ Word (codes "choose") ∷ Sign (codes "(") ∷ []) (Word (codes "set") ∷ Sign (codes
    ":") ∷ Word (codes "int") ∷ Sign (codes ")") ∷ Word (codes "where") ∷ Word (codes "set") ∷ Sign (codes "==") ∷ Word (codes "a") ∷ [])) ≡ Some (codes
    "'set' is a reserved word; take another name")
reserved_word_as_an_output = refl

-- def main(given: int): int = given
reserved_word_as_a_parameter :
    syntax_help (stopped (Word (codes "def") ∷ Word (codes "main") ∷ Sign (codes "(") ∷ []) (Word (codes "given") ∷ Sign (codes ":") ∷ Word (codes "int") ∷
    Sign (codes ")") ∷ Sign (codes ":") ∷ Word (codes "int") ∷ Sign (codes "=") ∷ Word (codes "given") ∷ [])) ≡ Some (codes
    "'given' is a reserved word; take another name")
reserved_word_as_a_parameter = refl

-- def min(a: int, b: int): int = a
operation_as_a_function :
    syntax_help (stopped (Word (codes "def") ∷ []) (Word (codes "min") ∷ Sign (codes "(") ∷ Word (codes "a") ∷ Sign (codes ":") ∷ Word (codes "int") ∷ Sign
    (codes ",") ∷ Word (codes "b") ∷ Sign (codes ":") ∷ Word (codes "int") ∷ Sign (codes ")") ∷ Sign (codes ":") ∷ Word (codes "int") ∷ Sign (codes "=") ∷
    Word (codes "a") ∷ [])) ≡ Some (codes "'min' is an operation; take another name")
operation_as_a_function = refl

-- def main(a: int): int = choose (x: int) where (1 + 2) divides x
divides_with_a_sum_on_the_left :
    syntax_help (stopped (Word (codes "def") ∷ Word (codes "main") ∷ Sign (codes "(") ∷ Word (codes "a") ∷ Sign (codes ":") ∷ Word (codes "int") ∷ Sign
    (codes ")") ∷ Sign (codes ":") ∷ Word (codes "int") ∷ Sign (codes "=") ∷ Word (codes "choose") ∷ Sign (codes "(") ∷ Word (codes "x") ∷ Sign (codes ":") ∷
    Word (codes "int") ∷ Sign (codes ")") ∷ Word (codes "where") ∷ Sign (codes "(") ∷ Literal (pos 1) ∷ Sign (codes "+") ∷ Literal (pos 2) ∷ Sign (codes ")")
    ∷ []) (Word (codes "divides") ∷ Word (codes "x") ∷ [])) ≡ Some (codes "the left side of divides is a constant or a literal of at least 1")
divides_with_a_sum_on_the_left = refl

-- def main(a: int): int = choose (x: int) where x == a given a > 0
given_behind_where :
    syntax_help (stopped (Word (codes "def") ∷ Word (codes "main") ∷ Sign (codes "(") ∷ Word (codes "a") ∷ Sign (codes ":") ∷ Word (codes "int") ∷ Sign
    (codes ")") ∷ Sign (codes ":") ∷ Word (codes "int") ∷ Sign (codes "=") ∷ Word (codes "choose") ∷ Sign (codes "(") ∷ Word (codes "x") ∷ Sign (codes ":") ∷
    Word (codes "int") ∷ Sign (codes ")") ∷ Word (codes "where") ∷ Word (codes "x") ∷ Sign (codes "==") ∷ Word (codes "a") ∷ []) (Word (codes "given") ∷ Word
    (codes "a") ∷ Sign (codes ">") ∷ Literal (pos 0) ∷ [])) ≡ Some (codes "given stands before where")
given_behind_where = refl

-- def main(a: int): int = choose (x: int) where x > 0 && let y = x in y == a
let_inside_an_operation :
    syntax_help (stopped (Word (codes "def") ∷ Word (codes "main") ∷ Sign (codes "(") ∷ Word (codes "a") ∷ Sign (codes ":") ∷ Word (codes "int") ∷ Sign
    (codes ")") ∷ Sign (codes ":") ∷ Word (codes "int") ∷ Sign (codes "=") ∷ Word (codes "choose") ∷ Sign (codes "(") ∷ Word (codes "x") ∷ Sign (codes ":") ∷
    Word (codes "int") ∷ Sign (codes ")") ∷ Word (codes "where") ∷ Word (codes "x") ∷ Sign (codes ">") ∷ Literal (pos 0) ∷ Sign (codes "&&") ∷ []) (Word
    (codes "let") ∷ Word (codes "y") ∷ Sign (codes "=") ∷ Word (codes "x") ∷ Word (codes "in") ∷ Word (codes "y") ∷ Sign (codes "==") ∷ Word (codes "a") ∷
    [])) ≡ Some (codes "it stands in parentheses inside an operation")
let_inside_an_operation = refl

-- def main(a: int): int = 1 + if a > 0 then 1 else 2
if_inside_a_sum :
    syntax_help (stopped (Word (codes "def") ∷ Word (codes "main") ∷ Sign (codes "(") ∷ Word (codes "a") ∷ Sign (codes ":") ∷ Word (codes "int") ∷ Sign
    (codes ")") ∷ Sign (codes ":") ∷ Word (codes "int") ∷ Sign (codes "=") ∷ Literal (pos 1) ∷ Sign (codes "+") ∷ []) (Word (codes "if") ∷ Word (codes "a") ∷
    Sign (codes ">") ∷ Literal (pos 0) ∷ Word (codes "then") ∷ Literal (pos 1) ∷ Word (codes "else") ∷ Literal (pos 2) ∷ [])) ≡ Some (codes
    "it stands in parentheses inside an operation")
if_inside_a_sum = refl

-- def main(a: int): int = choose (x: int) where (x == a
missing :
    syntax_help (stopped (Word (codes "def") ∷ Word (codes "main") ∷ Sign (codes "(") ∷ Word (codes "a") ∷ Sign (codes ":") ∷ Word (codes "int") ∷ Sign
    (codes ")") ∷ Sign (codes ":") ∷ Word (codes "int") ∷ Sign (codes "=") ∷ Word (codes "choose") ∷ Sign (codes "(") ∷ Word (codes "x") ∷ Sign (codes ":") ∷
    Word (codes "int") ∷ Sign (codes ")") ∷ Word (codes "where") ∷ Sign (codes "(") ∷ Word (codes "x") ∷ Sign (codes "==") ∷ Word (codes "a") ∷ []) []) ≡
    Some (codes "the text ends too early: a ), an else, an in or a body is missing")
missing = refl

-- def main(a: int): int = if a > 0 then 1
missing_else :
    syntax_help (stopped (Word (codes "def") ∷ Word (codes "main") ∷ Sign (codes "(") ∷ Word (codes "a") ∷ Sign (codes ":") ∷ Word (codes "int") ∷ Sign
    (codes ")") ∷ Sign (codes ":") ∷ Word (codes "int") ∷ Sign (codes "=") ∷ Word (codes "if") ∷ Word (codes "a") ∷ Sign (codes ">") ∷ Literal (pos 0) ∷ Word
    (codes "then") ∷ Literal (pos 1) ∷ []) []) ≡ Some (codes "the text ends too early: a ), an else, an in or a body is missing")
missing_else = refl

-- def main(a: int): int = min(a)
min_of_one :
    syntax_help (stopped (Word (codes "def") ∷ Word (codes "main") ∷ Sign (codes "(") ∷ Word (codes "a") ∷ Sign (codes ":") ∷ Word (codes "int") ∷ Sign
    (codes ")") ∷ Sign (codes ":") ∷ Word (codes "int") ∷ Sign (codes "=") ∷ Word (codes "min") ∷ Sign (codes "(") ∷ Word (codes "a") ∷ []) (Sign (codes ")")
    ∷ [])) ≡ None
min_of_one = refl

-- def main(a: int): int = abs(a, 1)
abs_of_two :
    syntax_help (stopped (Word (codes "def") ∷ Word (codes "main") ∷ Sign (codes "(") ∷ Word (codes "a") ∷ Sign (codes ":") ∷ Word (codes "int") ∷ Sign
    (codes ")") ∷ Sign (codes ":") ∷ Word (codes "int") ∷ Sign (codes "=") ∷ Word (codes "abs") ∷ Sign (codes "(") ∷ Word (codes "a") ∷ []) (Sign (codes ",")
    ∷ Literal (pos 1) ∷ Sign (codes ")") ∷ [])) ≡ None
abs_of_two = refl

-- def main(a: int): int = choose (x: int) where x > a minimise x maximise x
two_minimise :
    syntax_help (stopped (Word (codes "def") ∷ Word (codes "main") ∷ Sign (codes "(") ∷ Word (codes "a") ∷ Sign (codes ":") ∷ Word (codes "int") ∷ Sign
    (codes ")") ∷ Sign (codes ":") ∷ Word (codes "int") ∷ Sign (codes "=") ∷ Word (codes "choose") ∷ Sign (codes "(") ∷ Word (codes "x") ∷ Sign (codes ":") ∷
    Word (codes "int") ∷ Sign (codes ")") ∷ Word (codes "where") ∷ Word (codes "x") ∷ Sign (codes ">") ∷ Word (codes "a") ∷ Word (codes "minimise") ∷ Word
    (codes "x") ∷ []) (Word (codes "maximise") ∷ Word (codes "x") ∷ [])) ≡ None
two_minimise = refl

-- def main(a: int): int = choose (x: int) where 0 divides x
n0_divides :
    syntax_help (stopped (Word (codes "def") ∷ Word (codes "main") ∷ Sign (codes "(") ∷ Word (codes "a") ∷ Sign (codes ":") ∷ Word (codes "int") ∷ Sign
    (codes ")") ∷ Sign (codes ":") ∷ Word (codes "int") ∷ Sign (codes "=") ∷ Word (codes "choose") ∷ Sign (codes "(") ∷ Word (codes "x") ∷ Sign (codes ":") ∷
    Word (codes "int") ∷ Sign (codes ")") ∷ Word (codes "where") ∷ Literal (pos 0) ∷ []) (Word (codes "divides") ∷ Word (codes "x") ∷ [])) ≡ Some (codes
    "the left side of divides is a constant or a literal of at least 1")
n0_divides = refl

-- def main(a: int): int = choose (x: int) where div(x, 0) == a
div_by_0 :
    syntax_help (stopped (Word (codes "def") ∷ Word (codes "main") ∷ Sign (codes "(") ∷ Word (codes "a") ∷ Sign (codes ":") ∷ Word (codes "int") ∷ Sign
    (codes ")") ∷ Sign (codes ":") ∷ Word (codes "int") ∷ Sign (codes "=") ∷ Word (codes "choose") ∷ Sign (codes "(") ∷ Word (codes "x") ∷ Sign (codes ":") ∷
    Word (codes "int") ∷ Sign (codes ")") ∷ Word (codes "where") ∷ Word (codes "div") ∷ Sign (codes "(") ∷ Word (codes "x") ∷ Sign (codes ",") ∷ []) (Literal
    (pos 0) ∷ Sign (codes ")") ∷ Sign (codes "==") ∷ Word (codes "a") ∷ [])) ≡ Some (codes "a divisor is at least 1")
div_by_0 = refl

-- def main(a: int): int = div(a, 1 + 1)
div_by_a_sum :
    syntax_help (stopped (Word (codes "def") ∷ Word (codes "main") ∷ Sign (codes "(") ∷ Word (codes "a") ∷ Sign (codes ":") ∷ Word (codes "int") ∷ Sign
    (codes ")") ∷ Sign (codes ":") ∷ Word (codes "int") ∷ Sign (codes "=") ∷ Word (codes "div") ∷ Sign (codes "(") ∷ Word (codes "a") ∷ Sign (codes ",") ∷
    Literal (pos 1) ∷ []) (Sign (codes "+") ∷ Literal (pos 1) ∷ Sign (codes ")") ∷ [])) ≡ None
div_by_a_sum = refl

-- const K
-- def main(a: int): int = a
const_without_a_value :
    syntax_help (stopped (Word (codes "const") ∷ Word (codes "K") ∷ []) (Word (codes "def") ∷ Word (codes "main") ∷ Sign (codes "(") ∷ Word (codes "a") ∷
    Sign (codes ":") ∷ Word (codes "int") ∷ Sign (codes ")") ∷ Sign (codes ":") ∷ Word (codes "int") ∷ Sign (codes "=") ∷ Word (codes "a") ∷ [])) ≡ None
const_without_a_value = refl

-- def main(a: int): int = const K = 3 in a
const_inside_a_function :
    syntax_help (stopped (Word (codes "def") ∷ Word (codes "main") ∷ Sign (codes "(") ∷ Word (codes "a") ∷ Sign (codes ":") ∷ Word (codes "int") ∷ Sign
    (codes ")") ∷ Sign (codes ":") ∷ Word (codes "int") ∷ Sign (codes "=") ∷ []) (Word (codes "const") ∷ Word (codes "K") ∷ Sign (codes "=") ∷ Literal (pos
    3) ∷ Word (codes "in") ∷ Word (codes "a") ∷ [])) ≡ Some (codes "const stands among the functions")
const_inside_a_function = refl

-- def main(a: int): int = a b
word_behind_the_end :
    syntax_help (stopped (Word (codes "def") ∷ Word (codes "main") ∷ Sign (codes "(") ∷ Word (codes "a") ∷ Sign (codes ":") ∷ Word (codes "int") ∷ Sign
    (codes ")") ∷ Sign (codes ":") ∷ Word (codes "int") ∷ Sign (codes "=") ∷ Word (codes "a") ∷ []) (Word (codes "b") ∷ [])) ≡ None
word_behind_the_end = refl

-- def main(a: int): int = a bbbbbbbbbbbbbbbbbbbbbbbbbbbbbbbbbbbbbbbbbbbbbbbbbbbbbbbbbbbb
long_token :
    syntax_help (stopped (Word (codes "def") ∷ Word (codes "main") ∷ Sign (codes "(") ∷ Word (codes "a") ∷ Sign (codes ":") ∷ Word (codes "int") ∷ Sign
    (codes ")") ∷ Sign (codes ":") ∷ Word (codes "int") ∷ Sign (codes "=") ∷ Word (codes "a") ∷ []) (Word (codes
    "bbbbbbbbbbbbbbbbbbbbbbbbbbbbbbbbbbbbbbbbbbbbbbbbbbbbbbbbbbbb") ∷ [])) ≡ None
long_token = refl

-- def main(a: int): int = a, and b behind 201 spaces
long_line :
    syntax_help (stopped (Word (codes "def") ∷ Word (codes "main") ∷ Sign (codes "(") ∷ Word (codes "a") ∷ Sign (codes ":") ∷ Word (codes "int") ∷ Sign
    (codes ")") ∷ Sign (codes ":") ∷ Word (codes "int") ∷ Sign (codes "=") ∷ Word (codes "a") ∷ []) (Word (codes "b") ∷ [])) ≡ None
long_line = refl

-- def main(a: int): int =
--   choose (x: int) where x = a
carriage_returns :
    syntax_help (stopped (Word (codes "def") ∷ Word (codes "main") ∷ Sign (codes "(") ∷ Word (codes "a") ∷ Sign (codes ":") ∷ Word (codes "int") ∷ Sign
    (codes ")") ∷ Sign (codes ":") ∷ Word (codes "int") ∷ Sign (codes "=") ∷ Word (codes "choose") ∷ Sign (codes "(") ∷ Word (codes "x") ∷ Sign (codes ":") ∷
    Word (codes "int") ∷ Sign (codes ")") ∷ Word (codes "where") ∷ Word (codes "x") ∷ []) (Sign (codes "=") ∷ Word (codes "a") ∷ [])) ≡ Some (codes
    "a comparison is ==; = stands behind def, const and let")
carriage_returns = refl

no_header_is_language_2 :
    syntax_help (stopped [] (Sign (codes "(") ∷ Word (codes "a") ∷ Sign (codes ":") ∷ Word (codes "int") ∷ Sign (codes ")") ∷ Sign (codes ":") ∷ Word (codes
    "int") ∷ Sign (codes "=") ∷ Word (codes "choose") ∷ Sign (codes "(") ∷ Word (codes "x") ∷ Sign (codes ":") ∷ Word (codes "int") ∷ Sign (codes ")") ∷ Word
    (codes "where") ∷ Literal (pos 0) ∷ Sign (codes "<=") ∷ Word (codes "x") ∷ Sign (codes "<") ∷ Word (codes "a") ∷ [])) ≡ Some (codes
    "a comment begins with #")
no_header_is_language_2 = refl

-- def main(a: int): int = b
n3_and_a_name_together :
    syntax_help (stopped [] (Word (codes "x") ∷ Word (codes "def") ∷ Word (codes "main") ∷ Sign (codes "(") ∷ Word (codes "a") ∷ Sign (codes ":") ∷ Word
    (codes "int") ∷ Sign (codes ")") ∷ Sign (codes ":") ∷ Word (codes "int") ∷ Sign (codes "=") ∷ Word (codes "b") ∷ [])) ≡ None
n3_and_a_name_together = refl

comfusy_3_within_language_2 :
    syntax_help (stopped [] (Sign (codes "(") ∷ Word (codes "comfusy") ∷ Sign (codes ":") ∷ Word (codes "int") ∷ Sign (codes ")") ∷ Sign (codes ":") ∷ Word
    (codes "int") ∷ Sign (codes "=") ∷ Word (codes "comfusy") ∷ Literal (pos 3) ∷ [])) ≡ Some (codes "a comment begins with #")
comfusy_3_within_language_2 = refl

-- -- hi
-- def main(a: int): int = a
comment_with :
    syntax_help (stopped [] (Sign (codes "-") ∷ Sign (codes "-") ∷ Word (codes "hi") ∷ Word (codes "def") ∷ Word (codes "main") ∷ Sign (codes "(") ∷ Word
    (codes "a") ∷ Sign (codes ":") ∷ Word (codes "int") ∷ Sign (codes ")") ∷ Sign (codes ":") ∷ Word (codes "int") ∷ Sign (codes "=") ∷ Word (codes "a") ∷
    [])) ≡ Some (codes "a comment begins with #")
comment_with = refl

-- (* hi *)
-- def main(a: int): int = a
comment_with_too :
    syntax_help (stopped [] (Sign (codes "(") ∷ Sign (codes "*") ∷ Word (codes "hi") ∷ Sign (codes "*") ∷ Sign (codes ")") ∷ Word (codes "def") ∷ Word (codes
    "main") ∷ Sign (codes "(") ∷ Word (codes "a") ∷ Sign (codes ":") ∷ Word (codes "int") ∷ Sign (codes ")") ∷ Sign (codes ":") ∷ Word (codes "int") ∷ Sign
    (codes "=") ∷ Word (codes "a") ∷ [])) ≡ Some (codes "a comment begins with #")
comment_with_too = refl

-- def main(a: int): int = let half-a = a in a
name_with_a_hyphen :
    syntax_help (stopped (Word (codes "def") ∷ Word (codes "main") ∷ Sign (codes "(") ∷ Word (codes "a") ∷ Sign (codes ":") ∷ Word (codes "int") ∷ Sign
    (codes ")") ∷ Sign (codes ":") ∷ Word (codes "int") ∷ Sign (codes "=") ∷ Word (codes "let") ∷ Word (codes "half") ∷ []) (Sign (codes "-") ∷ Word (codes
    "a") ∷ Sign (codes "=") ∷ Word (codes "a") ∷ Word (codes "in") ∷ Word (codes "a") ∷ [])) ≡ Some (codes "a name is made of letters, digits and _")
name_with_a_hyphen = refl

-- def main(a: int): int = match a with 1 then 0
match_without_braces :
    syntax_help (stopped (Word (codes "def") ∷ Word (codes "main") ∷ Sign (codes "(") ∷ Word (codes "a") ∷ Sign (codes ":") ∷ Word (codes "int") ∷ Sign
    (codes ")") ∷ Sign (codes ":") ∷ Word (codes "int") ∷ Sign (codes "=") ∷ Word (codes "match") ∷ Word (codes "a") ∷ Word (codes "with") ∷ []) (Literal
    (pos 1) ∷ Word (codes "then") ∷ Literal (pos 0) ∷ [])) ≡ Some (codes "the arms stand in braces: match a with { 2 * i then i ; i then 0 }")
match_without_braces = refl

-- def main(a: int): bool = a => a
implies_by_equal_greater :
    syntax_help (stopped (Word (codes "def") ∷ Word (codes "main") ∷ Sign (codes "(") ∷ Word (codes "a") ∷ Sign (codes ":") ∷ Word (codes "int") ∷ Sign
    (codes ")") ∷ Sign (codes ":") ∷ Word (codes "bool") ∷ Sign (codes "=") ∷ Word (codes "a") ∷ []) (Sign (codes "=") ∷ Sign (codes ">") ∷ Word (codes "a")
    ∷ [])) ≡ Some (codes "implication is ==>")
implies_by_equal_greater = refl

-- def main(a: int) = a
a_section_of_def :
    syntax_help (stopped (Word (codes "def") ∷ Word (codes "main") ∷ Sign (codes "(") ∷ Word (codes "a") ∷ Sign (codes ":") ∷ Word (codes "int") ∷ Sign
    (codes ")") ∷ []) (Sign (codes "=") ∷ Word (codes "a") ∷ [])) ≡ Some (codes "a function has a result type: def f(x: int): int = ..")
a_section_of_def = refl

-- def main(a: int): bool = let b = (a) = a in b
an_equal_in_let :
    syntax_help (stopped (Word (codes "def") ∷ Word (codes "main") ∷ Sign (codes "(") ∷ Word (codes "a") ∷ Sign (codes ":") ∷ Word (codes "int") ∷ Sign
    (codes ")") ∷ Sign (codes ":") ∷ Word (codes "bool") ∷ Sign (codes "=") ∷ Word (codes "let") ∷ Word (codes "b") ∷ Sign (codes "=") ∷ Sign (codes "(") ∷
    Word (codes "a") ∷ Sign (codes ")") ∷ []) (Sign (codes "=") ∷ Word (codes "a") ∷ Word (codes "in") ∷ Word (codes "b") ∷ [])) ≡ Some (codes
    "a function has a result type: def f(x: int): int = ..")
an_equal_in_let = refl

-- fun f(x: int): int = x
fun :
    syntax_help (stopped [] (Word (codes "fun") ∷ Word (codes "f") ∷ Sign (codes "(") ∷ Word (codes "x") ∷ Sign (codes ":") ∷ Word (codes "int") ∷ Sign
    (codes ")") ∷ Sign (codes ":") ∷ Word (codes "int") ∷ Sign (codes "=") ∷ Word (codes "x") ∷ [])) ≡ Some (codes "a function begins with def")
fun = refl

-- const a-b = 3
const_with_a_hyphen :
    syntax_help (stopped (Word (codes "const") ∷ Word (codes "a") ∷ []) (Sign (codes "-") ∷ Word (codes "b") ∷ Sign (codes "=") ∷ Literal (pos 3) ∷ [])) ≡
    Some (codes "a name is made of letters, digits and _")
const_with_a_hyphen = refl

-- def a-b(x: int): int = x
def_with_a_hyphen :
    syntax_help (stopped (Word (codes "def") ∷ Word (codes "a") ∷ []) (Sign (codes "-") ∷ Word (codes "b") ∷ Sign (codes "(") ∷ Word (codes "x") ∷ Sign
    (codes ":") ∷ Word (codes "int") ∷ Sign (codes ")") ∷ Sign (codes ":") ∷ Word (codes "int") ∷ Sign (codes "=") ∷ Word (codes "x") ∷ [])) ≡ Some (codes
    "a name is made of letters, digits and _")
def_with_a_hyphen = refl

-- const true = 3
reserved_behind_const :
    syntax_help (stopped (Word (codes "const") ∷ []) (Word (codes "true") ∷ Sign (codes "=") ∷ Literal (pos 3) ∷ [])) ≡ Some (codes
    "'true' is a reserved word; take another name")
reserved_behind_const = refl

-- def in(x: int): int = x
reserved_behind_def :
    syntax_help (stopped (Word (codes "def") ∷ []) (Word (codes "in") ∷ Sign (codes "(") ∷ Word (codes "x") ∷ Sign (codes ":") ∷ Word (codes "int") ∷ Sign
    (codes ")") ∷ Sign (codes ":") ∷ Word (codes "int") ∷ Sign (codes "=") ∷ Word (codes "x") ∷ [])) ≡ Some (codes
    "'in' is a reserved word; take another name")
reserved_behind_def = refl

-- def f(x: int, in: int): int = x
reserved_behind_a_comma :
    syntax_help (stopped (Word (codes "def") ∷ Word (codes "f") ∷ Sign (codes "(") ∷ Word (codes "x") ∷ Sign (codes ":") ∷ Word (codes "int") ∷ Sign (codes
    ",") ∷ []) (Word (codes "in") ∷ Sign (codes ":") ∷ Word (codes "int") ∷ Sign (codes ")") ∷ Sign (codes ":") ∷ Word (codes "int") ∷ Sign (codes "=") ∷
    Word (codes "x") ∷ [])) ≡ Some (codes "'in' is a reserved word; take another name")
reserved_behind_a_comma = refl

-- def main(): int = choose (x: int; in: int) where true
reserved_behind_a_semicolon :
    syntax_help (stopped (Word (codes "def") ∷ Word (codes "main") ∷ Sign (codes "(") ∷ Sign (codes ")") ∷ Sign (codes ":") ∷ Word (codes "int") ∷ Sign
    (codes "=") ∷ Word (codes "choose") ∷ Sign (codes "(") ∷ Word (codes "x") ∷ Sign (codes ":") ∷ Word (codes "int") ∷ Sign (codes ";") ∷ []) (Word (codes
    "in") ∷ Sign (codes ":") ∷ Word (codes "int") ∷ Sign (codes ")") ∷ Word (codes "where") ∷ Word (codes "true") ∷ [])) ≡ Some (codes
    "'in' is a reserved word; take another name")
reserved_behind_a_semicolon = refl

-- def main(a: int): int = f(, a)
in_a_call_is_no_list :
    syntax_help (stopped (Word (codes "def") ∷ Word (codes "main") ∷ Sign (codes "(") ∷ Word (codes "a") ∷ Sign (codes ":") ∷ Word (codes "int") ∷ Sign
    (codes ")") ∷ Sign (codes ":") ∷ Word (codes "int") ∷ Sign (codes "=") ∷ Word (codes "f") ∷ Sign (codes "(") ∷ []) (Sign (codes ",") ∷ Word (codes "a") ∷
    Sign (codes ")") ∷ [])) ≡ None
in_a_call_is_no_list = refl

-- def main(a: int): bool = exists (k: int) a == k
colon_behind_exists :
    syntax_help (stopped (Word (codes "def") ∷ Word (codes "main") ∷ Sign (codes "(") ∷ Word (codes "a") ∷ Sign (codes ":") ∷ Word (codes "int") ∷ Sign
    (codes ")") ∷ Sign (codes ":") ∷ Word (codes "bool") ∷ Sign (codes "=") ∷ Word (codes "exists") ∷ Sign (codes "(") ∷ Word (codes "k") ∷ []) (Sign (codes
    ":") ∷ Word (codes "int") ∷ Sign (codes ")") ∷ Word (codes "a") ∷ Sign (codes "==") ∷ Word (codes "k") ∷ [])) ≡ Some (codes
    "an output behind ; is not given out: choose (x: int; k: int) where ..")
colon_behind_exists = refl

-- def main(a: int): int = choose (x: int) where (k: int) == a
colon_without_exists :
    syntax_help (stopped (Word (codes "def") ∷ Word (codes "main") ∷ Sign (codes "(") ∷ Word (codes "a") ∷ Sign (codes ":") ∷ Word (codes "int") ∷ Sign
    (codes ")") ∷ Sign (codes ":") ∷ Word (codes "int") ∷ Sign (codes "=") ∷ Word (codes "choose") ∷ Sign (codes "(") ∷ Word (codes "x") ∷ Sign (codes ":") ∷
    Word (codes "int") ∷ Sign (codes ")") ∷ Word (codes "where") ∷ Sign (codes "(") ∷ Word (codes "k") ∷ []) (Sign (codes ":") ∷ Word (codes "int") ∷ Sign
    (codes ")") ∷ Sign (codes "==") ∷ Word (codes "a") ∷ [])) ≡ Some (codes "types stand in the list of outputs alone")
colon_without_exists = refl

-- def main(a: (int, int)): int = a
base_as_a_tuple :
    syntax_help (stopped (Word (codes "def") ∷ Word (codes "main") ∷ Sign (codes "(") ∷ Word (codes "a") ∷ Sign (codes ":") ∷ []) (Sign (codes "(") ∷ Word
    (codes "int") ∷ Sign (codes ",") ∷ Word (codes "int") ∷ Sign (codes ")") ∷ Sign (codes ")") ∷ Sign (codes ":") ∷ Word (codes "int") ∷ Sign (codes "=") ∷
    Word (codes "a") ∷ [])) ≡ Some (codes "a type is int, bool or set")
base_as_a_tuple = refl

-- def main(a: text): int = a
types_are_three :
    syntax_help (stopped (Word (codes "def") ∷ Word (codes "main") ∷ Sign (codes "(") ∷ Word (codes "a") ∷ Sign (codes ":") ∷ []) (Word (codes "text") ∷ Sign
    (codes ")") ∷ Sign (codes ":") ∷ Word (codes "int") ∷ Sign (codes "=") ∷ Word (codes "a") ∷ [])) ≡ Some (codes "a type is int, bool or set")
types_are_three = refl

-- def main(a; b: int): int = a
semicolon_between_parameters :
    syntax_help (stopped (Word (codes "def") ∷ Word (codes "main") ∷ Sign (codes "(") ∷ Word (codes "a") ∷ []) (Sign (codes ";") ∷ Word (codes "b") ∷ Sign
    (codes ":") ∷ Word (codes "int") ∷ Sign (codes ")") ∷ Sign (codes ":") ∷ Word (codes "int") ∷ Sign (codes "=") ∷ Word (codes "a") ∷ [])) ≡ Some (codes
    "each parameter and output has a type: (x: int)")
semicolon_between_parameters = refl

-- def main(): int = choose (x, y: int) where true
output_with_comma :
    syntax_help (stopped (Word (codes "def") ∷ Word (codes "main") ∷ Sign (codes "(") ∷ Sign (codes ")") ∷ Sign (codes ":") ∷ Word (codes "int") ∷ Sign
    (codes "=") ∷ Word (codes "choose") ∷ Sign (codes "(") ∷ Word (codes "x") ∷ []) (Sign (codes ",") ∷ Word (codes "y") ∷ Sign (codes ":") ∷ Word (codes
    "int") ∷ Sign (codes ")") ∷ Word (codes "where") ∷ Word (codes "true") ∷ [])) ≡ Some (codes "each parameter and output has a type: (x: int)")
output_with_comma = refl

-- def main(a: int): int = a]
bracket_closed :
    syntax_help (stopped (Word (codes "def") ∷ Word (codes "main") ∷ Sign (codes "(") ∷ Word (codes "a") ∷ Sign (codes ":") ∷ Word (codes "int") ∷ Sign
    (codes ")") ∷ Sign (codes ":") ∷ Word (codes "int") ∷ Sign (codes "=") ∷ Word (codes "a") ∷ []) (Sign (codes "]") ∷ [])) ≡ Some (codes
    "there are no lists; a set is {1, 2}")
bracket_closed = refl

-- def main(a: int): int = mod(a, 0)
zero_behind_a_comma :
    syntax_help (stopped (Word (codes "def") ∷ Word (codes "main") ∷ Sign (codes "(") ∷ Word (codes "a") ∷ Sign (codes ":") ∷ Word (codes "int") ∷ Sign
    (codes ")") ∷ Sign (codes ":") ∷ Word (codes "int") ∷ Sign (codes "=") ∷ Word (codes "mod") ∷ Sign (codes "(") ∷ Word (codes "a") ∷ Sign (codes ",") ∷
    []) (Literal (pos 0) ∷ Sign (codes ")") ∷ [])) ≡ Some (codes "a divisor is at least 1")
zero_behind_a_comma = refl

-- def main(a: int): int = a 0
zero_elsewhere :
    syntax_help (stopped (Word (codes "def") ∷ Word (codes "main") ∷ Sign (codes "(") ∷ Word (codes "a") ∷ Sign (codes ":") ∷ Word (codes "int") ∷ Sign
    (codes ")") ∷ Sign (codes ":") ∷ Word (codes "int") ∷ Sign (codes "=") ∷ Word (codes "a") ∷ []) (Literal (pos 0) ∷ [])) ≡ None
zero_elsewhere = refl

-- def main(a: int): bool = f(a) divides a
divides_behind_a_call :
    syntax_help (stopped (Word (codes "def") ∷ Word (codes "main") ∷ Sign (codes "(") ∷ Word (codes "a") ∷ Sign (codes ":") ∷ Word (codes "int") ∷ Sign
    (codes ")") ∷ Sign (codes ":") ∷ Word (codes "bool") ∷ Sign (codes "=") ∷ Word (codes "f") ∷ Sign (codes "(") ∷ Word (codes "a") ∷ Sign (codes ")") ∷ [])
    (Word (codes "divides") ∷ Word (codes "a") ∷ [])) ≡ Some (codes "the left side of divides is a constant or a literal of at least 1")
divides_behind_a_call = refl

-- def main(a: int): int = a given a
given_in_a_function :
    syntax_help (stopped (Word (codes "def") ∷ Word (codes "main") ∷ Sign (codes "(") ∷ Word (codes "a") ∷ Sign (codes ":") ∷ Word (codes "int") ∷ Sign
    (codes ")") ∷ Sign (codes ":") ∷ Word (codes "int") ∷ Sign (codes "=") ∷ Word (codes "a") ∷ []) (Word (codes "given") ∷ Word (codes "a") ∷ [])) ≡ None
given_in_a_function = refl

-- def main(a: int): int = 1 + choose (x: int) where x == a
choose_inside_a_sum :
    syntax_help (stopped (Word (codes "def") ∷ Word (codes "main") ∷ Sign (codes "(") ∷ Word (codes "a") ∷ Sign (codes ":") ∷ Word (codes "int") ∷ Sign
    (codes ")") ∷ Sign (codes ":") ∷ Word (codes "int") ∷ Sign (codes "=") ∷ Literal (pos 1) ∷ Sign (codes "+") ∷ []) (Word (codes "choose") ∷ Sign (codes
    "(") ∷ Word (codes "x") ∷ Sign (codes ":") ∷ Word (codes "int") ∷ Sign (codes ")") ∷ Word (codes "where") ∷ Word (codes "x") ∷ Sign (codes "==") ∷ Word
    (codes "a") ∷ [])) ≡ Some (codes "it stands in parentheses inside an operation")
choose_inside_a_sum = refl

-- def main(a: int): int = 1 + match a with { i then i }
match_inside_a_sum :
    syntax_help (stopped (Word (codes "def") ∷ Word (codes "main") ∷ Sign (codes "(") ∷ Word (codes "a") ∷ Sign (codes ":") ∷ Word (codes "int") ∷ Sign
    (codes ")") ∷ Sign (codes ":") ∷ Word (codes "int") ∷ Sign (codes "=") ∷ Literal (pos 1) ∷ Sign (codes "+") ∷ []) (Word (codes "match") ∷ Word (codes
    "a") ∷ Word (codes "with") ∷ Sign (codes "{") ∷ Word (codes "i") ∷ Word (codes "then") ∷ Word (codes "i") ∷ Sign (codes "}") ∷ [])) ≡ Some (codes
    "it stands in parentheses inside an operation")
match_inside_a_sum = refl

-- def main(a: int): bool = a + == a
a_comparison_behind_a_sign :
    syntax_help (stopped (Word (codes "def") ∷ Word (codes "main") ∷ Sign (codes "(") ∷ Word (codes "a") ∷ Sign (codes ":") ∷ Word (codes "int") ∷ Sign
    (codes ")") ∷ Sign (codes ":") ∷ Word (codes "bool") ∷ Sign (codes "=") ∷ Word (codes "a") ∷ Sign (codes "+") ∷ []) (Sign (codes "==") ∷ Word (codes "a")
    ∷ [])) ≡ None
a_comparison_behind_a_sign = refl

-- def main(s: set): bool = {1} == s subset s
a_comparison_behind_a_brace :
    syntax_help (stopped (Word (codes "def") ∷ Word (codes "main") ∷ Sign (codes "(") ∷ Word (codes "s") ∷ Sign (codes ":") ∷ Word (codes "set") ∷ Sign
    (codes ")") ∷ Sign (codes ":") ∷ Word (codes "bool") ∷ Sign (codes "=") ∷ Sign (codes "{") ∷ Literal (pos 1) ∷ Sign (codes "}") ∷ Sign (codes "==") ∷
    Word (codes "s") ∷ []) (Word (codes "subset") ∷ Word (codes "s") ∷ [])) ≡ Some (codes
    "a chain runs one way, of < <= == or of > >= ==; join others by &&")
a_comparison_behind_a_brace = refl

-- def main(p: bool): bool = p == true != p
a_comparison_behind_true :
    syntax_help (stopped (Word (codes "def") ∷ Word (codes "main") ∷ Sign (codes "(") ∷ Word (codes "p") ∷ Sign (codes ":") ∷ Word (codes "bool") ∷ Sign
    (codes ")") ∷ Sign (codes ":") ∷ Word (codes "bool") ∷ Sign (codes "=") ∷ Word (codes "p") ∷ Sign (codes "==") ∷ Word (codes "true") ∷ []) (Sign (codes
    "!=") ∷ Word (codes "p") ∷ [])) ≡ Some (codes "a chain runs one way, of < <= == or of > >= ==; join others by &&")
a_comparison_behind_true = refl

-- def main(): int = choose (x: int) where true minimise x: int
a_section_of_minimise :
    syntax_help (stopped (Word (codes "def") ∷ Word (codes "main") ∷ Sign (codes "(") ∷ Sign (codes ")") ∷ Sign (codes ":") ∷ Word (codes "int") ∷ Sign
    (codes "=") ∷ Word (codes "choose") ∷ Sign (codes "(") ∷ Word (codes "x") ∷ Sign (codes ":") ∷ Word (codes "int") ∷ Sign (codes ")") ∷ Word (codes
    "where") ∷ Word (codes "true") ∷ Word (codes "minimise") ∷ Word (codes "x") ∷ []) (Sign (codes ":") ∷ Word (codes "int") ∷ [])) ≡ None
a_section_of_minimise = refl

-- def main(s: set): int = choose (x: int) given 1 in s where true
in_behind_given :
    syntax_help (stopped (Word (codes "def") ∷ Word (codes "main") ∷ Sign (codes "(") ∷ Word (codes "s") ∷ Sign (codes ":") ∷ Word (codes "set") ∷ Sign
    (codes ")") ∷ Sign (codes ":") ∷ Word (codes "int") ∷ Sign (codes "=") ∷ Word (codes "choose") ∷ Sign (codes "(") ∷ Word (codes "x") ∷ Sign (codes ":") ∷
    Word (codes "int") ∷ Sign (codes ")") ∷ Word (codes "given") ∷ Literal (pos 1) ∷ []) (Word (codes "in") ∷ Word (codes "s") ∷ Word (codes "where") ∷ Word
    (codes "true") ∷ [])) ≡ None
in_behind_given = refl

-- def main(): set {1}
set_as_a_body :
    syntax_help (stopped (Word (codes "def") ∷ Word (codes "main") ∷ Sign (codes "(") ∷ Sign (codes ")") ∷ Sign (codes ":") ∷ Word (codes "set") ∷ []) (Sign
    (codes "{") ∷ Literal (pos 1) ∷ Sign (codes "}") ∷ [])) ≡ Some (codes "a body stands behind =: def f(x: int): int = x")
set_as_a_body = refl

-- def main(): bool = true x
a_name_behind_true :
    syntax_help (stopped (Word (codes "def") ∷ Word (codes "main") ∷ Sign (codes "(") ∷ Sign (codes ")") ∷ Sign (codes ":") ∷ Word (codes "bool") ∷ Sign
    (codes "=") ∷ Word (codes "true") ∷ []) (Word (codes "x") ∷ [])) ≡ None
a_name_behind_true = refl

-- def main(): int = )
nothing_known :
    syntax_help (stopped (Word (codes "def") ∷ Word (codes "main") ∷ Sign (codes "(") ∷ Sign (codes ")") ∷ Sign (codes ":") ∷ Word (codes "int") ∷ Sign
    (codes "=") ∷ []) (Sign (codes ")") ∷ [])) ≡ None
nothing_known = refl

-- comfusy 3
two_headers :
    syntax_help (stopped [] (Word (codes "comfusy") ∷ Literal (pos 3) ∷ [])) ≡ None
two_headers = refl

-- def main(): set = choose set where true
choose_without_parentheses :
    syntax_help (stopped (Word (codes "def") ∷ Word (codes "main") ∷ Sign (codes "(") ∷ Sign (codes ")") ∷ Sign (codes ":") ∷ Word (codes "set") ∷ Sign
    (codes "=") ∷ Word (codes "choose") ∷ []) (Word (codes "set") ∷ Word (codes "where") ∷ Word (codes "true") ∷ [])) ≡ Some (codes
    "the outputs stand in parentheses: choose (x: int) where ..")
choose_without_parentheses = refl

-- def main(): int = choose (x: int, y) where (1) == x
nested_parentheses :
    syntax_help (stopped (Word (codes "def") ∷ Word (codes "main") ∷ Sign (codes "(") ∷ Sign (codes ")") ∷ Sign (codes ":") ∷ Word (codes "int") ∷ Sign
    (codes "=") ∷ Word (codes "choose") ∷ Sign (codes "(") ∷ Word (codes "x") ∷ Sign (codes ":") ∷ Word (codes "int") ∷ Sign (codes ",") ∷ Word (codes "y") ∷
    []) (Sign (codes ")") ∷ Word (codes "where") ∷ Sign (codes "(") ∷ Literal (pos 1) ∷ Sign (codes ")") ∷ Sign (codes "==") ∷ Word (codes "x") ∷ [])) ≡ Some
    (codes "each parameter and output has a type: (x: int)")
nested_parentheses = refl

-- def f(x: int): int = (x : int)
a_closed_list_before :
    syntax_help (stopped (Word (codes "def") ∷ Word (codes "f") ∷ Sign (codes "(") ∷ Word (codes "x") ∷ Sign (codes ":") ∷ Word (codes "int") ∷ Sign (codes
    ")") ∷ Sign (codes ":") ∷ Word (codes "int") ∷ Sign (codes "=") ∷ Sign (codes "(") ∷ Word (codes "x") ∷ []) (Sign (codes ":") ∷ Word (codes "int") ∷ Sign
    (codes ")") ∷ [])) ≡ None
a_closed_list_before = refl

-- def main(a: int): bool = not a
foreign_before :
    syntax_help (stopped (Word (codes "def") ∷ Word (codes "main") ∷ Sign (codes "(") ∷ Word (codes "a") ∷ Sign (codes ":") ∷ Word (codes "int") ∷ Sign
    (codes ")") ∷ Sign (codes ":") ∷ Word (codes "bool") ∷ Sign (codes "=") ∷ Word (codes "not") ∷ []) (Word (codes "a") ∷ [])) ≡ Some (codes "not is !")
foreign_before = refl

-- def main(): int = and (x: int)
foreign_function :
    syntax_help (stopped (Word (codes "def") ∷ Word (codes "main") ∷ Sign (codes "(") ∷ Sign (codes ")") ∷ Sign (codes ":") ∷ Word (codes "int") ∷ Sign
    (codes "=") ∷ Word (codes "and") ∷ Sign (codes "(") ∷ Word (codes "x") ∷ []) (Sign (codes ":") ∷ Word (codes "int") ∷ Sign (codes ")") ∷ [])) ≡ Some
    (codes "and is &&")
foreign_function = refl

-- def main(a: int): int = choose (x: int) where true minimize
minimize_before :
    syntax_help (stopped (Word (codes "def") ∷ Word (codes "main") ∷ Sign (codes "(") ∷ Word (codes "a") ∷ Sign (codes ":") ∷ Word (codes "int") ∷ Sign
    (codes ")") ∷ Sign (codes ":") ∷ Word (codes "int") ∷ Sign (codes "=") ∷ Word (codes "choose") ∷ Sign (codes "(") ∷ Word (codes "x") ∷ Sign (codes ":") ∷
    Word (codes "int") ∷ Sign (codes ")") ∷ Word (codes "where") ∷ Word (codes "true") ∷ []) (Word (codes "minimize") ∷ [])) ≡ Some
    (codes "did you mean 'minimise'?")
minimize_before = refl

-- x
a_header_and_a_name :
    syntax_help (stopped [] (Word (codes "x") ∷ [])) ≡ None
a_header_and_a_name = refl

-- func x
func :
    syntax_help (stopped [] (Word (codes "func") ∷ Word (codes "x") ∷ [])) ≡ Some (codes "a function begins with def")
func = refl

-- proc x
proc :
    syntax_help (stopped [] (Word (codes "proc") ∷ Word (codes "x") ∷ [])) ≡ Some (codes "a function begins with def")
proc = refl

-- function x
function :
    syntax_help (stopped [] (Word (codes "function") ∷ Word (codes "x") ∷ [])) ≡ Some (codes "a function begins with def")
function = refl

-- define x
define :
    syntax_help (stopped [] (Word (codes "define") ∷ Word (codes "x") ∷ [])) ≡ Some (codes "a function begins with def")
define = refl

-- def main(p: bool): bool = p ! p
a_bang_behind_a_name :
    syntax_help (stopped (Word (codes "def") ∷ Word (codes "main") ∷ Sign (codes "(") ∷ Word (codes "p") ∷ Sign (codes ":") ∷ Word (codes "bool") ∷ Sign
    (codes ")") ∷ Sign (codes ":") ∷ Word (codes "bool") ∷ Sign (codes "=") ∷ Word (codes "p") ∷ []) (Sign (codes "!") ∷ Word (codes "p") ∷ [])) ≡ None
a_bang_behind_a_name = refl

-- def main(p: bool): bool = p -> p
arrow :
    syntax_help (stopped (Word (codes "def") ∷ Word (codes "main") ∷ Sign (codes "(") ∷ Word (codes "p") ∷ Sign (codes ":") ∷ Word (codes "bool") ∷ Sign
    (codes ")") ∷ Sign (codes ":") ∷ Word (codes "bool") ∷ Sign (codes "=") ∷ Word (codes "p") ∷ Sign (codes "-") ∷ []) (Sign (codes ">") ∷ Word (codes "p")
    ∷ [])) ≡ Some (codes "implication is ==>")
arrow = refl

-- def main(a: int): bool = a < > a
a_less_and_a_greater :
    syntax_help (stopped (Word (codes "def") ∷ Word (codes "main") ∷ Sign (codes "(") ∷ Word (codes "a") ∷ Sign (codes ":") ∷ Word (codes "int") ∷ Sign
    (codes ")") ∷ Sign (codes ":") ∷ Word (codes "bool") ∷ Sign (codes "=") ∷ Word (codes "a") ∷ Sign (codes "<") ∷ []) (Sign (codes ">") ∷ Word (codes "a")
    ∷ [])) ≡ Some (codes "not equal is !=")
a_less_and_a_greater = refl

-- def main(a: int): bool = 1 + = < a
equal_then_less :
    syntax_help (stopped (Word (codes "def") ∷ Word (codes "main") ∷ Sign (codes "(") ∷ Word (codes "a") ∷ Sign (codes ":") ∷ Word (codes "int") ∷ Sign
    (codes ")") ∷ Sign (codes ":") ∷ Word (codes "bool") ∷ Sign (codes "=") ∷ Literal (pos 1) ∷ Sign (codes "+") ∷ []) (Sign (codes "=") ∷ Sign (codes "<") ∷
    Word (codes "a") ∷ [])) ≡ Some (codes "at most is <=")
equal_then_less = refl

-- ---- tokens as they are written
found_end : found_token [] ≡ codes "syntax: found the end of the text"
found_end = refl

found_written : found_token (codes "007+1") ≡ codes "syntax: found '007'"
found_written = refl

found_long : found_token (codes "abcdefghijklmnopqrstuvwxyz_ABCDEFGHIJKLMN + 1") ≡ codes "syntax: found 'abcdefghijklmnopqrstuvwxyz_ABCDEFGHIJKLM..'"
found_long = refl

found_forty : found_token (codes "abcdefghijklmnopqrstuvwxyz_ABCDEFGHIJKLM + 1") ≡ codes "syntax: found 'abcdefghijklmnopqrstuvwxyz_ABCDEFGHIJKLM'"
found_forty = refl

found_signs :
    (written (codes "==>x") ≡ codes "==>") × (written (codes "==x") ≡ codes "==") × (written (codes "=>x") ≡ codes "=")
    × (written (codes "<=") ≡ codes "<=") × (written (codes "<") ≡ codes "<") × (written (codes "a_1 ") ≡ codes "a_1")
found_signs = (refl, refl, refl, refl, refl, refl)

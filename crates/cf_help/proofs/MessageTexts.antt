-- Worked examples of whole messages.
use Rattle.std.specs.Prelude.{ℕ, ◌≡◌, List, [], ◌∷◌, ◌++◌, codes, Some, None, refl}
use Rattle.std.specs.Fmt.{digits}
use Rattle.std.specs.List.{concat}
use Rattle.cf_program.proofs.RuleExamples.{on}
use Rattle.cf_help.specs.Faults.{words}
use Rattle.cf_help.specs.Messages.{message, bad_byte_words, past_limit_words, too_long_words, choose_words}

-- lines, each with a line feed
abbrev text : List (List ℕ) → List ℕ
text [] = []
text (l ∷ ls) = concat (l ∷ codes "\n" ∷ text ls ∷ [])

a_slash :
    message (codes "p.cf") (text (codes "comfusy 3" ∷ codes "def main(a: int): int = a / 2" ∷ [])) (Some (on 2 27)) (bad_byte_words (text (codes "comfusy 3"
    ∷ codes "def main(a: int): int = a / 2" ∷ [])) (on 2 27)) ≡ (text (codes "p.cf:2:27: bad byte: found '/'" ∷ codes "def main(a: int): int = a / 2" ∷ codes
    "                          ^" ∷ codes "help: division is div(a, 2), and what is left over is mod(a, 2)" ∷ []))
unfolding digits
a_slash = refl

two_slashes :
    message (codes "p.cf") (text (codes "comfusy 3" ∷ codes "def main(a: int): int = a // 2" ∷ [])) (Some (on 2 27)) (bad_byte_words (text (codes "comfusy 3"
    ∷ codes "def main(a: int): int = a // 2" ∷ [])) (on 2 27)) ≡ (text (codes "p.cf:2:27: bad byte: found '/'" ∷ codes "def main(a: int): int = a // 2" ∷
    codes "                          ^" ∷ codes "help: a comment begins with #" ∷ []))
unfolding digits
two_slashes = refl

a_percent_sign :
    message (codes "p.cf") (text (codes "comfusy 3" ∷ codes "def main(a: int): int = a % 2" ∷ [])) (Some (on 2 27)) (bad_byte_words (text (codes "comfusy 3"
    ∷ codes "def main(a: int): int = a % 2" ∷ [])) (on 2 27)) ≡ (text (codes "p.cf:2:27: bad byte: found '%'" ∷ codes "def main(a: int): int = a % 2" ∷ codes
    "                          ^" ∷ codes "help: what is left over is mod(a, 2)" ∷ []))
unfolding digits
a_percent_sign = refl

a_power :
    message (codes "p.cf") (text (codes "comfusy 3" ∷ codes "def main(a: int): int = a ^ 2" ∷ [])) (Some (on 2 27)) (bad_byte_words (text (codes "comfusy 3"
    ∷ codes "def main(a: int): int = a ^ 2" ∷ [])) (on 2 27)) ≡ (text (codes "p.cf:2:27: bad byte: found '^'" ∷ codes "def main(a: int): int = a ^ 2" ∷ codes
    "                          ^" ∷ codes "help: there are no powers; write a product" ∷ []))
unfolding digits
a_power = refl

one_bar :
    message (codes "p.cf") (text (codes "comfusy 3" ∷ codes "def main(a: int): int = p | q" ∷ [])) (Some (on 2 27)) (bad_byte_words (text (codes "comfusy 3"
    ∷ codes "def main(a: int): int = p | q" ∷ [])) (on 2 27)) ≡ (text (codes "p.cf:2:27: bad byte: found '|'" ∷ codes "def main(a: int): int = p | q" ∷ codes
    "                          ^" ∷ codes "help: or is ||; that k divides a is written k divides a" ∷ []))
unfolding digits
one_bar = refl

one_ampersand :
    message (codes "p.cf") (text (codes "comfusy 3" ∷ codes "def main(a: int): int = p & q" ∷ [])) (Some (on 2 27)) (bad_byte_words (text (codes "comfusy 3"
    ∷ codes "def main(a: int): int = p & q" ∷ [])) (on 2 27)) ≡ (text (codes "p.cf:2:27: bad byte: found '&'" ∷ codes "def main(a: int): int = p & q" ∷ codes
    "                          ^" ∷ codes "help: and is &&" ∷ []))
unfolding digits
one_ampersand = refl

a_tilde :
    message (codes "p.cf") (text (codes "comfusy 3" ∷ codes "def main(a: int): int = ~p" ∷ [])) (Some (on 2 25)) (bad_byte_words (text (codes "comfusy 3" ∷
    codes "def main(a: int): int = ~p" ∷ [])) (on 2 25)) ≡ (text (codes "p.cf:2:25: bad byte: found '~'" ∷ codes "def main(a: int): int = ~p" ∷ codes
    "                        ^" ∷ codes "help: not is !" ∷ []))
unfolding digits
a_tilde = refl

a_dot :
    message (codes "p.cf") (text (codes "comfusy 3" ∷ codes "def main(a: int): int = 1.5" ∷ [])) (Some (on 2 26)) (bad_byte_words (text (codes "comfusy 3" ∷
    codes "def main(a: int): int = 1.5" ∷ [])) (on 2 26)) ≡ (text (codes "p.cf:2:26: bad byte: found '.'" ∷ codes "def main(a: int): int = 1.5" ∷ codes
    "                         ^" ∷ codes "help: numbers are whole, and there are no ranges" ∷ []))
unfolding digits
a_dot = refl

a_question_mark :
    message (codes "p.cf") (text (codes "comfusy 3" ∷ codes "def main(a: int): int = p ? 1" ∷ [])) (Some (on 2 27)) (bad_byte_words (text (codes "comfusy 3"
    ∷ codes "def main(a: int): int = p ? 1" ∷ [])) (on 2 27)) ≡ (text (codes "p.cf:2:27: bad byte: found '?'" ∷ codes "def main(a: int): int = p ? 1" ∷ codes
    "                          ^" ∷ codes "help: a choice between values is if p then a else b" ∷ []))
unfolding digits
a_question_mark = refl

a_prime :
    message (codes "p.cf") (text (codes "comfusy 3" ∷ codes "def main(a: int): int = a'" ∷ [])) (Some (on 2 26)) (bad_byte_words (text (codes "comfusy 3" ∷
    codes "def main(a: int): int = a'" ∷ [])) (on 2 26)) ≡ (text (codes "p.cf:2:26: bad byte: found '''" ∷ codes "def main(a: int): int = a'" ∷ codes
    "                         ^" ∷ codes "help: a name is made of letters, digits and _" ∷ []))
unfolding digits
a_prime = refl

a_quotation_mark :
    message (codes "p.cf") (text (codes "comfusy 3" ∷ (concat (codes "def main(a: int): int = " ∷ (34 ∷ []) ∷ codes "a" ∷ [])) ∷ [])) (Some (on 2 25))
    (bad_byte_words (text (codes "comfusy 3" ∷ (concat (codes "def main(a: int): int = " ∷ (34 ∷ []) ∷ codes "a" ∷ [])) ∷ [])) (on 2 25)) ≡ (text ((concat
    (codes "p.cf:2:25: bad byte: found '" ∷ (34 ∷ []) ∷ codes "'" ∷ [])) ∷ (concat (codes "def main(a: int): int = " ∷ (34 ∷ []) ∷ codes "a" ∷ [])) ∷ codes
    "                        ^" ∷ codes "help: there are no texts" ∷ []))
unfolding digits
a_quotation_mark = refl

at_most :
    message (codes "p.cf") (text (codes "comfusy 3" ∷ (concat (codes "def main(a: int): int = a " ∷ (226 ∷ []) ∷ (137 ∷ []) ∷ (164 ∷ []) ∷ codes " 2" ∷ []))
    ∷ [])) (Some (on 2 27)) (bad_byte_words (text (codes "comfusy 3" ∷ (concat (codes "def main(a: int): int = a " ∷ (226 ∷ []) ∷ (137 ∷ []) ∷ (164 ∷ []) ∷
    codes " 2" ∷ [])) ∷ [])) (on 2 27)) ≡ (text (codes "p.cf:2:27: bad byte: found byte 226" ∷ (concat (codes "def main(a: int): int = a " ∷ (226 ∷ []) ∷
    (137 ∷ []) ∷ (164 ∷ []) ∷ codes " 2" ∷ [])) ∷ codes "                          ^" ∷ codes "help: write <=" ∷ []))
unfolding digits
at_most = refl

at_least :
    message (codes "p.cf") (text (codes "comfusy 3" ∷ (concat (codes "def main(a: int): int = a " ∷ (226 ∷ []) ∷ (137 ∷ []) ∷ (165 ∷ []) ∷ codes " 2" ∷ []))
    ∷ [])) (Some (on 2 27)) (bad_byte_words (text (codes "comfusy 3" ∷ (concat (codes "def main(a: int): int = a " ∷ (226 ∷ []) ∷ (137 ∷ []) ∷ (165 ∷ []) ∷
    codes " 2" ∷ [])) ∷ [])) (on 2 27)) ≡ (text (codes "p.cf:2:27: bad byte: found byte 226" ∷ (concat (codes "def main(a: int): int = a " ∷ (226 ∷ []) ∷
    (137 ∷ []) ∷ (165 ∷ []) ∷ codes " 2" ∷ [])) ∷ codes "                          ^" ∷ codes "help: write >=" ∷ []))
unfolding digits
at_least = refl

not_equal :
    message (codes "p.cf") (text (codes "comfusy 3" ∷ (concat (codes "def main(a: int): int = a " ∷ (226 ∷ []) ∷ (137 ∷ []) ∷ (160 ∷ []) ∷ codes " 2" ∷ []))
    ∷ [])) (Some (on 2 27)) (bad_byte_words (text (codes "comfusy 3" ∷ (concat (codes "def main(a: int): int = a " ∷ (226 ∷ []) ∷ (137 ∷ []) ∷ (160 ∷ []) ∷
    codes " 2" ∷ [])) ∷ [])) (on 2 27)) ≡ (text (codes "p.cf:2:27: bad byte: found byte 226" ∷ (concat (codes "def main(a: int): int = a " ∷ (226 ∷ []) ∷
    (137 ∷ []) ∷ (160 ∷ []) ∷ codes " 2" ∷ [])) ∷ codes "                          ^" ∷ codes "help: write !=" ∷ []))
unfolding digits
not_equal = refl

another_byte :
    message (codes "p.cf") (text (codes "comfusy 3" ∷ codes "def main(a: int): int = a $ 2" ∷ [])) (Some (on 2 27)) (bad_byte_words (text (codes "comfusy 3"
    ∷ codes "def main(a: int): int = a $ 2" ∷ [])) (on 2 27)) ≡ (text (codes "p.cf:2:27: bad byte: found '$'" ∷ codes "def main(a: int): int = a $ 2" ∷ codes
    "                          ^" ∷ []))
unfolding digits
another_byte = refl

the_first_visible_byte :
    message (codes "p.cf") (text (codes "comfusy 3" ∷ (concat (codes "def main(a: int): int = a" ∷ (127 ∷ []) ∷ [])) ∷ [])) (Some (on 2 26)) (bad_byte_words
    (text (codes "comfusy 3" ∷ (concat (codes "def main(a: int): int = a" ∷ (127 ∷ []) ∷ [])) ∷ [])) (on 2 26)) ≡ (text (codes
    "p.cf:2:26: bad byte: found byte 127" ∷ codes "def main(a: int): int = a?" ∷ codes "                         ^" ∷ []))
unfolding digits
the_first_visible_byte = refl

a_byte_below :
    message (codes "p.cf") (text (codes "comfusy 3" ∷ (concat (codes "def main(a: int): int = a " ∷ (1 ∷ []) ∷ [])) ∷ [])) (Some (on 2 27)) (bad_byte_words
    (text (codes "comfusy 3" ∷ (concat (codes "def main(a: int): int = a " ∷ (1 ∷ []) ∷ [])) ∷ [])) (on 2 27)) ≡ (text (codes
    "p.cf:2:27: bad byte: found byte 1" ∷ codes "def main(a: int): int = a ?" ∷ codes "                          ^" ∷ []))
unfolding digits
a_byte_below = refl

another_character :
    message (codes "p.cf") (text (codes "comfusy 3" ∷ (concat (codes "def main(a: int): int = " ∷ (195 ∷ []) ∷ (169 ∷ []) ∷ [])) ∷ [])) (Some (on 2 25))
    (bad_byte_words (text (codes "comfusy 3" ∷ (concat (codes "def main(a: int): int = " ∷ (195 ∷ []) ∷ (169 ∷ []) ∷ [])) ∷ [])) (on 2 25)) ≡ (text (codes
    "p.cf:2:25: bad byte: found byte 195" ∷ (concat (codes "def main(a: int): int = " ∷ (195 ∷ []) ∷ (169 ∷ []) ∷ [])) ∷ codes "                        ^" ∷
    []))
unfolding digits
another_character = refl

like_at_most :
    message (codes "p.cf") (text (codes "comfusy 3" ∷ (concat (codes "def main(a: int): int = a " ∷ (226 ∷ []) ∷ (137 ∷ []) ∷ (166 ∷ []) ∷ codes " 2" ∷ []))
    ∷ [])) (Some (on 2 27)) (bad_byte_words (text (codes "comfusy 3" ∷ (concat (codes "def main(a: int): int = a " ∷ (226 ∷ []) ∷ (137 ∷ []) ∷ (166 ∷ []) ∷
    codes " 2" ∷ [])) ∷ [])) (on 2 27)) ≡ (text (codes "p.cf:2:27: bad byte: found byte 226" ∷ (concat (codes "def main(a: int): int = a " ∷ (226 ∷ []) ∷
    (137 ∷ []) ∷ (166 ∷ []) ∷ codes " 2" ∷ [])) ∷ codes "                          ^" ∷ []))
unfolding digits
like_at_most = refl

a_byte_order_mark_behind_the_header :
    message (codes "p.cf") (text (codes "comfusy 3" ∷ (concat ((239 ∷ []) ∷ (187 ∷ []) ∷ (191 ∷ []) ∷ codes "def main(a: int): int = a" ∷ [])) ∷ [])) (Some
    (on 2 1)) (bad_byte_words (text (codes "comfusy 3" ∷ (concat ((239 ∷ []) ∷ (187 ∷ []) ∷ (191 ∷ []) ∷ codes "def main(a: int): int = a" ∷ [])) ∷ [])) (on
    2 1)) ≡ (text (codes "p.cf:2:1: bad byte: found byte 239" ∷ (concat ((239 ∷ []) ∷ (187 ∷ []) ∷ (191 ∷ []) ∷ codes "def main(a: int): int = a" ∷ [])) ∷
    codes "^" ∷ codes "help: the file begins with a byte order mark; save it without one" ∷ []))
unfolding digits
a_byte_order_mark_behind_the_header = refl

past_the_limit :
    message (codes "p.cf") (text (codes "comfusy 3" ∷ codes "def main(a: int): int = a + 170141183460469231731687303715884105728" ∷ [])) (Some (on 2 29))
    past_limit_words ≡ (text (codes "p.cf:2:29: number past limit" ∷ codes "def main(a: int): int = a + 170141183460469231731687303715884105728" ∷ codes
    "                            ^" ∷ codes "help: the greatest number is 170141183460469231731687303715884105727" ∷ []))
unfolding digits
past_the_limit = refl

a_tab_before :
    message (codes "p.cf") (text (codes "comfusy 3" ∷ (concat (codes "def main(a: int):" ∷ (9 ∷ []) ∷ codes "int =" ∷ (9 ∷ []) ∷ codes "a + b1 # " ∷ (9 ∷ [])
    ∷ [])) ∷ [])) (Some (on 2 29)) (words (codes "unknown name: 'b1'" ∷ []) None) ≡ (text (codes "p.cf:2:29: unknown name: 'b1'" ∷ (concat (codes
    "def main(a: int):" ∷ (9 ∷ []) ∷ codes "int =" ∷ (9 ∷ []) ∷ codes "a + b1 # " ∷ (9 ∷ []) ∷ [])) ∷ (concat (codes "                 " ∷ (9 ∷ []) ∷ codes
    "     " ∷ (9 ∷ []) ∷ codes "    ^" ∷ [])) ∷ []))
unfolding digits
a_tab_before = refl

a_carriage_return :
    message (codes "p.cf") (text (codes "comfusy 3" ∷ (concat (codes "def main(a: int): int = b1" ∷ (13 ∷ []) ∷ [])) ∷ [])) (Some (on 2 25)) (words (codes
    "unknown name: 'b1'" ∷ []) None) ≡ (text (codes "p.cf:2:25: unknown name: 'b1'" ∷ codes "def main(a: int): int = b1" ∷ codes "                        ^"
    ∷ []))
unfolding digits
a_carriage_return = refl

characters_before :
    message (codes "p.cf") (text (codes "comfusy 3" ∷ (concat (codes "def main(a: int): int = # " ∷ (195 ∷ []) ∷ (169 ∷ []) ∷ (226 ∷ []) ∷ (130 ∷ []) ∷ (172
    ∷ []) ∷ [])) ∷ (concat (codes " a + # " ∷ (195 ∷ []) ∷ (169 ∷ []) ∷ [])) ∷ (concat (codes "  b1 # " ∷ (195 ∷ []) ∷ (169 ∷ []) ∷ [])) ∷ [])) (Some (on 4
    3)) (words (codes "unknown name: 'b1'" ∷ []) None) ≡ (text (codes "p.cf:4:3: unknown name: 'b1'" ∷ (concat (codes "  b1 # " ∷ (195 ∷ []) ∷ (169 ∷ []) ∷
    [])) ∷ codes "  ^" ∷ []))
unfolding digits
characters_before = refl

shown_as_a_question_mark :
    message (codes "p.cf") (text (codes "comfusy 3" ∷ (concat (codes "def main(a: int): int = b1 # " ∷ (1 ∷ []) ∷ (27 ∷ []) ∷ (127 ∷ []) ∷ (31 ∷ []) ∷ (128 ∷
    []) ∷ [])) ∷ [])) (Some (on 2 25)) (words (codes "unknown name: 'b1'" ∷ []) None) ≡ (text (codes "p.cf:2:25: unknown name: 'b1'" ∷ (concat (codes
    "def main(a: int): int = b1 # ????" ∷ (128 ∷ []) ∷ [])) ∷ codes "                        ^" ∷ []))
unfolding digits
shown_as_a_question_mark = refl

a_line_of_200_bytes :
    message (codes "p.cf") (text (codes "comfusy 3" ∷ (concat (codes
    "def main(a: int): int = b1 # xxxxxxxxxxxxxxxxxxxxxxxxxxxxxxxxxxxxxxxxxxxxxxxxxxxxxxxxxxxxxxxxxxxxxxxxxxxxxxxxx" ∷ codes
    "xxxxxxxxxxxxxxxxxxxxxxxxxxxxxxxxxxxxxxxxxxxxxxxxxxxxxxxxxxxxxxxxxxxxxxxxxxxxxxxxxxxxxxxxxx" ∷ [])) ∷ [])) (Some (on 2 25)) (words (codes
    "unknown name: 'b1'" ∷ []) None) ≡ (text (codes "p.cf:2:25: unknown name: 'b1'" ∷ (concat (codes
    "def main(a: int): int = b1 # xxxxxxxxxxxxxxxxxxxxxxxxxxxxxxxxxxxxxxxxxxxxxxxxxxxxxxxxxxxxxxxxxxxxxxxxxxxxxxxxx" ∷ codes
    "xxxxxxxxxxxxxxxxxxxxxxxxxxxxxxxxxxxxxxxxxxxxxxxxxxxxxxxxxxxxxxxxxxxxxxxxxxxxxxxxxxxxxxxxxx" ∷ [])) ∷ codes "                        ^" ∷ []))
unfolding digits
a_line_of_200_bytes = refl

a_line_of_201_bytes :
    message (codes "p.cf") (text (codes "comfusy 3" ∷ (concat (codes
    "def main(a: int): int = b1 # xxxxxxxxxxxxxxxxxxxxxxxxxxxxxxxxxxxxxxxxxxxxxxxxxxxxxxxxxxxxxxxxxxxxxxxxxxxxxxxxx" ∷ codes
    "xxxxxxxxxxxxxxxxxxxxxxxxxxxxxxxxxxxxxxxxxxxxxxxxxxxxxxxxxxxxxxxxxxxxxxxxxxxxxxxxxxxxxxxxxxx" ∷ [])) ∷ [])) (Some (on 2 25)) (words (codes
    "unknown name: 'b1'" ∷ []) None) ≡ (text (codes "p.cf:2:25: unknown name: 'b1'" ∷ []))
unfolding digits
a_line_of_201_bytes = refl

the_end_behind_a_return :
    message (codes "p.cf") (text (codes "comfusy 3" ∷ []) ++ (concat (codes "def main(a: int): int =" ∷ (13 ∷ []) ∷ []))) (Some (on 2 25)) (words (codes
    "syntax: found the end of the text" ∷ []) (Some (codes "the text ends too early: a ), an else, an in or a body is missing"))) ≡ (text (codes
    "p.cf:2:25: syntax: found the end of the text" ∷ codes "def main(a: int): int =" ∷ codes "                        ^" ∷ codes
    "help: the text ends too early: a ), an else, an in or a body is missing" ∷ []))
unfolding digits
the_end_behind_a_return = refl

a_character_before_the_end :
    message (codes "p.cf") (text (codes "comfusy 3" ∷ []) ++ (concat (codes "def main(a: int): int = # " ∷ (195 ∷ []) ∷ (169 ∷ []) ∷ (226 ∷ []) ∷ (130 ∷ [])
    ∷ (172 ∷ []) ∷ []))) (Some (on 2 32)) (words (codes "syntax: found the end of the text" ∷ []) (Some (codes
    "the text ends too early: a ), an else, an in or a body is missing"))) ≡ (text (codes "p.cf:2:32: syntax: found the end of the text" ∷ (concat (codes
    "def main(a: int): int = # " ∷ (195 ∷ []) ∷ (169 ∷ []) ∷ (226 ∷ []) ∷ (130 ∷ []) ∷ (172 ∷ []) ∷ [])) ∷ codes "                            ^" ∷ codes
    "help: the text ends too early: a ), an else, an in or a body is missing" ∷ []))
unfolding digits
a_character_before_the_end = refl

the_end_of_an_empty_line :
    message (codes "p.cf") (text (codes "comfusy 3" ∷ codes "def main(a: int): int =" ∷ codes "" ∷ [])) (Some (on 4 1)) (words (codes
    "syntax: found the end of the text" ∷ []) (Some (codes "the text ends too early: a ), an else, an in or a body is missing"))) ≡ (text (codes
    "p.cf:4:1: syntax: found the end of the text" ∷ codes "help: the text ends too early: a ), an else, an in or a body is missing" ∷ []))
unfolding digits
the_end_of_an_empty_line = refl

another_name :
    message ((concat (codes "a" ∷ (27 ∷ []) ∷ (9 ∷ []) ∷ codes "b.cf" ∷ []))) (text (codes "comfusy 3" ∷ codes "def main(a: int): int = b1" ∷ [])) (Some (on
    2 25)) (words (codes "unknown name: 'b1'" ∷ []) None) ≡ (text ((concat (codes "a?" ∷ (9 ∷ []) ∷ codes "b.cf:2:25: unknown name: 'b1'" ∷ [])) ∷ codes
    "def main(a: int): int = b1" ∷ codes "                        ^" ∷ []))
unfolding digits
another_name = refl

no_place : message (codes "p.cf") (codes "x") None (words (codes "no main" ∷ []) None) ≡ codes "p.cf: no main\n"
no_place = refl

too_long : message (codes "p.cf") [] None too_long_words ≡ codes "p.cf: text too long\n"
too_long = refl

a_choose : choose_words 12 (codes "Cases 2048") ≡ words (codes "choose 12: Cases 2048" ∷ []) None
unfolding digits
a_choose = refl

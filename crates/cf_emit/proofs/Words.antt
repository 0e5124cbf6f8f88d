-- The words of printed code: numbers, variables, bases and orders.
use Rattle.std.proofs.Common.{ℕ, zero, suc, ℤ, pos, negsuc, ◌+◌, ◌-◌, ◌^◌, ◌<◌, ◌≤◌, Bool, true, false, List, [], ◌∷◌, ◌++◌, length, map, refl, ap, sym, subst, inl, inr, codes, arith}
use Rattle.std.specs.Prelude.{◌≤ℤ◌, All, decimal}
use Rattle.std.specs.Fmt.{signed_decimal}
use Rattle.std.proofs.lemmas.Int.{ints}
use Rattle.std.proofs.lemmas.List.Elements.{All-head, All-tail}
use Rattle.cf_num.specs.Limit.{IsWithin}
use Rattle.cf_lex.specs.Bytes.{is_in_word}
use Rattle.cf_lex.specs.Runs.{StopsAt}
use Rattle.cf_lex.specs.declared.token.TokenKind.{TokenKind}
use Rattle.cf_lex.specs.declared.token.TokenKind.TheVariants.{Literal, Word, Sign}
use Rattle.cf_reader.specs.Tokens.{Form, ◌⨟◌, Next, Others, Several, OneOrTuple}
use Rattle.cf_reader.specs.Kinds.{truth_kind, order_kind, SpellsBase}
use Rattle.cf_target.specs.Spelling.{level_name, SpellsVariable, SpellsMoreVariables, SpellsVariables, SpellsNumber, SpellsDivisor, SpellsNumeral, SpellsBounds, SpellsBases, SpellsHeader}
use Rattle.cf_tree.specs.declared.base.Base.{Base}
use Rattle.cf_tree.specs.declared.base.Base.TheVariants.{Int, Bool as Truth, Set}
use Rattle.cf_tree.specs.declared.base.Edition.{Edition}
use Rattle.cf_tree.specs.declared.base.Edition.TheVariants.{Two, Three}
use Rattle.cf_tree.specs.declared.base.Order.{Order}
use Rattle.cf_tree.specs.declared.base.Order.TheVariants.{Eq, Ne, Lt, Le, Gt, Ge}
use Rattle.cf_tree.specs.Relation.{IsDivisor}
use Rattle.cf_tree.specs.Spelled.{IsNumeral}
use Rattle.cf_tree.specs.Words.{truth_text}
use Rattle.cf_emit.specs.Printed.{line_end, base_text, header_text, order_text, variable_text, more_variables, variables_text, more_texts, listed, results_text}
use Rattle.cf_emit.proofs.Numerals.{AreDigitsOf, decimal_read, digits_in_word, ends_digits}
use Rattle.cf_emit.proofs.Spans.{Spans, Says, then, as_form, one_token, white_behind, word, spaced, Mark, closing, closing_square, minus, comma, spaced_sign}
use Rattle.cf_emit.proofs.Forms.{first_part, next_part, bracketed, tuple_form}

digits_say : (n : ℕ) (ds : List ℕ) → n ≤ 2 ^ 127 - 1 → AreDigitsOf n ds → Says (Next (Literal (pos n))) ds
digits_say n ds fits r rest stops =
    one_token ds rest (Literal (pos n)) ((r.some, (r.digits, ends_digits rest stops)), subst (λ v. v ≤ 2 ^ 127 - 1) (sym r.value) fits, ap pos (sym r.value))

short : (n : ℕ) → n ≤ 2 ^ 127 - 1 → n < 10 ^ 64
short n fits = omega arith

literal_says : (n : ℕ) → n ≤ 2 ^ 127 - 1 → Says (Next (Literal (pos n))) (decimal n)
literal_says n fits = digits_say n (decimal n) fits (decimal_read n (short n fits))

not_negative : (n : ℕ) → pos 0 ≤ℤ pos n
not_negative n = omega (arith, ints)

positive : (n : ℕ) → pos 1 ≤ℤ pos (suc n)
positive n = omega (arith, ints)

no_divisor : (n : ℕ) → pos 1 ≤ℤ negsuc n → ⊥
no_divisor n h = omega (arith, ints)

pub number_says : (k : ℤ) → IsWithin k → Says (SpellsNumber k) (signed_decimal k)
number_says (pos n) fits rest stops = as_form (λ ts more h. inl (h.0, (h.1, not_negative n))) (literal_says n fits rest stops)
number_says (negsuc n) fits rest stops =
    as_form (λ ts more h. inr (pos (suc n), (h.0, h.1, (h.2.0, (h.2.1, positive n))), refl))
    (then (minus.gives (decimal (suc n) ++ rest)) (literal_says (suc n) fits rest stops))

pub divisor_says : (k : ℤ) → IsDivisor k → Says (SpellsDivisor k) (signed_decimal k)
divisor_says (pos n) d rest stops = as_form (λ ts more h. (h.0, (h.1, d.0))) (literal_says n d.1 rest stops)
divisor_says (negsuc n) d rest stops = absurd (no_divisor n d.0)

numeral_fits : (n : ℕ) → IsNumeral n → n ≤ 2 ^ 127 - 1
numeral_fits n h = omega arith

pub numeral_says : (n : ℕ) → IsNumeral n → Says (SpellsNumeral n) (decimal n)
numeral_says n h rest stops = as_form (λ ts more l. (h, l)) (literal_says n (numeral_fits n h) rest stops)

level_fits : (x : ℕ) → x < 2 ^ 32 → x < 10 ^ 64
level_fits x h = omega arith

pub variable_says : (x : ℕ) → x < 2 ^ 32 → Says (SpellsVariable x) (variable_text x)
variable_says x small rest stops =
    as_form (λ ts more h. (small, h))
    (one_token (level_name x) rest (Word (level_name x)) ((refl, (digits_in_word (decimal x) (decimal_read x (level_fits x small)).digits, stops)), refl))

variables_begin : (n x : ℕ) (rest : List ℕ) → StopsAt is_in_word (more_variables x n ++ (codes ")" ++ rest))
variables_begin zero x rest = refl
variables_begin (suc n) x rest = refl

more_variables_say : (n x : ℕ) → x + n ≤ 2 ^ 32 → (rest : List ℕ) → Spans (SpellsMoreVariables x n) (more_variables x n ++ (codes ")" ++ rest)) rest
more_variables_say zero x h rest = closing.gives rest
more_variables_say (suc n) x h rest =
    next_part (codes ", ") (variable_text x) (more_variables (suc x) n) (codes ")" ++ rest) comma (variable_says x (omega arith))
    (variables_begin n (suc x) rest)
    (more_variables_say n (suc x) (omega arith) rest)

pub variables_say : (x n : ℕ) → 1 ≤ n → x + n ≤ 2 ^ 32 → Says (SpellsVariables x n) (variables_text x n)
variables_say x zero some fits rest stops = absurd (omega arith)
variables_say x (suc zero) some fits rest stops = variable_says x (omega arith) rest stops
variables_say x (suc (suc n)) some fits rest stops =
    tuple_form (variable_text x) (more_variables (suc x) (suc n)) rest (variable_says x (omega arith)) (variables_begin (suc n) (suc x) rest)
    (more_variables_say (suc n) (suc x) (omega arith) rest)

pub truth_says : (t : Bool) → Says (Next (truth_kind t)) (truth_text t)
truth_says true rest stops = word (codes "true") rest refl stops
truth_says false rest stops = word (codes "false") rest refl stops

pub order_mark : (o : Order) → Mark (order_kind o) (order_text o)
order_mark Eq = spaced_sign (codes "==") (λ rest. refl)
order_mark Ne = spaced_sign (codes "!=") (λ rest. refl)
order_mark Lt = spaced_sign (codes "<") (λ rest. (refl, refl))
order_mark Le = spaced_sign (codes "<=") (λ rest. refl)
order_mark Gt = spaced_sign (codes ">") (λ rest. (refl, refl))
order_mark Ge = spaced_sign (codes ">=") (λ rest. refl)

-- each item of a list says its own text
abbrev AllSay : {A : Type 0} → (A → Form) → (A → List ℕ) → List A → Type 0
AllSay Item text [] = Unit {0}
AllSay Item text (x ∷ xs) = Says (Item x) (text x) × AllSay Item text xs

texts_begin : (ts : List (List ℕ)) {k : TokenKind} (close rest : List ℕ) → Mark k close → StopsAt is_in_word (more_texts ts ++ (close ++ rest))
texts_begin [] close rest mark = mark.begins rest
texts_begin (t ∷ ts) close rest mark = refl

others_say : {A : Type 0} (Item : A → Form) (text : A → List ℕ) {k : TokenKind} (xs : List A) (close rest : List ℕ) → AllSay Item text xs → Mark k close →
    Spans (Others Item (Sign (codes ",")) k xs) (more_texts (map text xs) ++ (close ++ rest)) rest
others_say Item text [] close rest all mark = mark.gives rest
others_say Item text (x ∷ xs) close rest all mark =
    next_part (codes ", ") (text x) (more_texts (map text xs)) (close ++ rest) comma all.0 (texts_begin (map text xs) close rest mark)
    (others_say Item text xs close rest all.1 mark)

several_say : {A : Type 0} (Item : A → Form) (text : A → List ℕ) {k : TokenKind} (x : A) (xs : List A) (close rest : List ℕ) → AllSay Item text (x ∷ xs) →
    Mark k close →
    Spans (Several Item (Sign (codes ",")) k (x ∷ xs)) (listed (map text (x ∷ xs)) ++ (close ++ rest)) rest
several_say Item text x xs close rest all mark =
    first_part (text x) (more_texts (map text xs)) (close ++ rest) all.0 (texts_begin (map text xs) close rest mark)
    (others_say Item text xs close rest all.1 mark)

numerals_say : (ns : List ℕ) → All IsNumeral ns → AllSay SpellsNumeral decimal ns
numerals_say [] h = tt
numerals_say (n ∷ ns) h = (numeral_says n (All-head IsNumeral n ns h), numerals_say ns (All-tail IsNumeral n ns h))

pub bounds_say : (ns : List ℕ) → All IsNumeral ns → (rest : List ℕ) → Spans (SpellsBounds ns) (listed (map decimal ns) ++ (codes "]" ++ rest)) rest
bounds_say [] h rest = closing_square.gives rest
bounds_say (n ∷ ns) h rest = several_say SpellsNumeral decimal n ns (codes "]") rest (numerals_say (n ∷ ns) h) closing_square

base_says : (b : Base) → Says (SpellsBase b) (base_text b)
base_says Int rest stops = word (codes "int") rest refl stops
base_says Truth rest stops = word (codes "bool") rest refl stops
base_says Set rest stops = word (codes "set") rest refl stops

all_bases_say : (bs : List Base) → AllSay SpellsBase base_text bs
all_bases_say [] = tt
all_bases_say (b ∷ bs) = (base_says b, all_bases_say bs)

pub params_say : (bs : List Base) (rest : List ℕ) → Spans (SpellsBases bs) (listed (map base_text bs) ++ (codes ")" ++ rest)) rest
params_say [] rest = closing.gives rest
params_say (b ∷ bs) rest = several_say SpellsBase base_text b bs (codes ")") rest (all_bases_say (b ∷ bs)) closing

pub results_say : (bs : List Base) → 1 ≤ length bs → Says (OneOrTuple SpellsBase bs) (results_text bs)
results_say [] some rest stops = absurd (omega arith)
results_say (b ∷ []) some rest stops = base_says b rest stops
results_say (b ∷ c ∷ bs) some rest stops =
    bracketed (listed (map base_text (b ∷ c ∷ bs))) rest (several_say SpellsBase base_text b (c ∷ bs) (codes ")") rest (all_bases_say (b ∷ c ∷ bs)) closing)

header_form : (k : ℕ) (digit rest : List ℕ) → k ≤ 2 ^ 127 - 1 → AreDigitsOf k digit →
    Spans (Next (Word (codes "comfusy")) ⨟ Next (Literal (pos k))) (codes "comfusy " ++ (digit ++ (line_end ++ rest))) rest
header_form k digit rest small are =
    then (spaced (codes "comfusy") (digit ++ (line_end ++ rest)) refl) (white_behind 10 refl (digits_say k digit small are (10 ∷ rest) refl))

pub header_says : (edition : Edition) (rest : List ℕ) → Spans (SpellsHeader edition) (header_text edition ++ (line_end ++ rest)) rest
header_says Two rest =
    as_form (λ ts more h. inr h) (header_form 2 (codes "2") rest (omega arith) (record { some = omega arith; digits = (refl, tt); value = refl }))
header_says Three rest =
    as_form (λ ts more h. inr h) (header_form 3 (codes "3") rest (omega arith) (record { some = omega arith; digits = (refl, tt); value = refl }))

-- The line of a number form: like parts are one, and constants are one number.
use Rattle.std.specs.Prelude.{ℤ, pos, negsuc, int_le, List, [], ◌∷◌, if◌then◌else◌}
use Rattle.cf_tree.specs.RelTree.{TermTree, term_lit, term_var, term_card, term_neg, term_add, term_sub, term_mul, term_div, term_mod, term_abs}
use Rattle.cf_simple.specs.Lines.{Part, Line, just, alone, plus, times}
use Rattle.cf_simple.specs.Quotients.{line_term, line_quotient}

-- a product of which one side has no parts is a multiple of the other; no other product is taken apart
abbrev pub product_by : List Part → List Part → Line → Line → Line
product_by [] qs l m = times l.constant m
product_by (p ∷ ps) [] l m = times m.constant l
product_by (p ∷ ps) (q ∷ qs) l m = alone (term_mul (line_term l) (line_term m))

abbrev pub product : Line → Line → Line
product l m = product_by l.parts m.parts l m

-- the quotient of a line, or a form as it is where the divisor is below 1
abbrev pub quotient_or : Line → ℤ → TermTree → Line
quotient_or l k t = if int_le (pos 1) k then line_quotient l k else alone t

abbrev pub line_of : TermTree → Line
line_of (term_lit k) = just k
line_of (term_var x) = alone (term_var x)
line_of (term_card s) = alone (term_card s)
line_of (term_neg a) = times (negsuc 0) (line_of a)
line_of (term_add a b) = plus (line_of a) (pos 1) (line_of b)
line_of (term_sub a b) = plus (line_of a) (negsuc 0) (line_of b)
line_of (term_mul a b) = product (line_of a) (line_of b)
line_of (term_div a k) = quotient_or (line_of a) k (term_div a k)
line_of (term_mod a k) = alone (term_mod (line_term (line_of a)) k)
line_of (term_abs a) = alone (term_abs (line_term (line_of a)))

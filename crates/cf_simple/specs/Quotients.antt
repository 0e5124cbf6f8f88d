-- Quotients of lines, spelled so that equal ones look the same.
use Rattle.std.specs.Prelude.{ℕ, zero, suc, ◌*◌, ℤ, pos, negsuc, ◌+ℤ◌, ◌-ℤ◌, ◌*ℤ◌, neg_ℤ, int_lt, unsigned_abs, Bool, true, false, ◌&&◌, ◌||◌, List, [], ◌∷◌, if◌then◌else◌}
use Rattle.std.specs.List.{list_all}
use Rattle.std.specs.Ordering.{int_eq}
use Rattle.cf_num.specs.Divisors.{gcd_of}
use Rattle.cf_tree.specs.Numbers.{quotient, remainder}
use Rattle.cf_tree.specs.RelTree.{TermTree, term_lit, term_var, term_card, term_neg, term_add, term_sub, term_mul, term_div, term_mod, term_abs}
use Rattle.cf_simple.specs.Lines.{Part, Line, just, put_part, plus, times}

-- ---- lines as number forms; literals are at least 0
abbrev pub literal : ℤ → TermTree
literal (pos n) = term_lit (pos n)
literal (negsuc n) = term_neg (term_lit (pos (suc n)))

abbrev pub scaled_term : ℤ → TermTree → TermTree
scaled_term k t = if int_eq k (pos 1) then t else (if int_eq k (negsuc 0) then term_neg t else term_mul (literal k) t)

-- one more part, which is taken away where its factor is negative
abbrev pub one_term : TermTree → Part → TermTree
one_term t p = if int_lt p.factor (pos 0) then term_sub t (scaled_term (neg_ℤ p.factor) p.of) else term_add t (scaled_term p.factor p.of)

abbrev pub more_terms : TermTree → List Part → TermTree
more_terms t [] = t
more_terms t (p ∷ ps) = more_terms (one_term t p) ps

abbrev pub plus_literal : TermTree → ℤ → TermTree
plus_literal t (pos zero) = t
plus_literal t (pos (suc n)) = term_add t (term_lit (pos (suc n)))
plus_literal t (negsuc n) = term_sub t (term_lit (pos (suc n)))

abbrev pub parts_term : List Part → ℤ → TermTree
parts_term [] c = literal c
parts_term (p ∷ ps) c = plus_literal (more_terms (scaled_term p.factor p.of) ps) c

abbrev pub line_term : Line → TermTree
line_term l = parts_term l.parts l.constant

-- ---- common factors
abbrev pub divides_all : ℤ → List Part → Bool
divides_all g ps = list_all (λ p. int_eq (remainder p.factor g) (pos 0)) ps

abbrev pub gcd_with : ℕ → List Part → ℕ
gcd_with g [] = g
gcd_with g (p ∷ ps) = gcd_with (gcd_of g (unsigned_abs p.factor)) ps

-- d, where it divides g and all factors; this is seen, and not proved
abbrev pub if_common : ℤ → ℕ → List Part → ℤ
if_common d g ps = if int_lt (pos 1) d && int_eq (remainder (pos g) d) (pos 0) && divides_all d ps then d else pos 1

-- the greatest divisor of g and of all factors, of which one is not 0
abbrev pub common_factor : ℕ → List Part → ℤ
common_factor g ps = if_common (pos (gcd_with g ps)) g ps

abbrev pub divided_by : ℤ → List Part → List Part
divided_by g [] = []
divided_by g (p ∷ ps) = record { factor = quotient p.factor g; of = p.of } ∷ divided_by g ps

abbrev pub turned : List Part → List Part
turned [] = []
turned (p ∷ ps) = record { factor = neg_ℤ p.factor; of = p.of } ∷ turned ps

-- whether the first factor is negative
abbrev pub begins_negative : List Part → Bool
begins_negative [] = false
begins_negative (p ∷ ps) = int_lt p.factor (pos 0)

-- ---- quotients by a number k of at least 1
-- the multiple of k next to a number; in the middle between two it is the one nearer to 0
abbrev pub nearest : ℤ → ℤ → ℤ
nearest k m =
    if int_lt (k -ℤ remainder m k) (remainder m k) || int_eq (k -ℤ remainder m k) (remainder m k) && int_lt m (pos 0) then quotient m k +ℤ pos 1
    else quotient m k

abbrev pub wholes : ℤ → List Part → List Part
wholes k [] = []
wholes k (p ∷ ps) = put_part (nearest k p.factor) p.of (wholes k ps)

abbrev pub rests : ℤ → List Part → List Part
rests k [] = []
rests k (p ∷ ps) = put_part (p.factor -ℤ k *ℤ nearest k p.factor) p.of (rests k ps)

-- the quotient of a quotient is one quotient
abbrev pub quotient_term : TermTree → ℤ → TermTree
quotient_term (term_div t n) k = if int_lt (pos 0) n then term_div t (n *ℤ k) else term_div (term_div t n) k
quotient_term t k = term_div t k

-- a quotient of parts and a constant from 0 to k - 1, by what they have in common with k
abbrev pub reduced : ℤ → ℤ → List Part → ℤ → Line
reduced g k ps c =
    if int_eq g k then record { parts = divided_by g ps; constant = quotient c g }
    else record { parts = record { factor = pos 1; of = quotient_term (parts_term (divided_by g ps) (quotient c g)) (quotient k g) } ∷ []; constant = pos 0 }

-- a quotient of parts of which the first has no negative factor
abbrev pub upright : ℤ → List Part → ℤ → Line
upright k ps c = plus (reduced (common_factor (unsigned_abs k) ps) k ps (remainder c k)) (quotient c k) (just (pos 1))

-- a quotient of parts with factors near to 0: where the first is negative, the negated quotient rounded up
abbrev pub near_quotient : ℤ → List Part → ℤ → Line
near_quotient k [] c = just (quotient c k)
near_quotient k (p ∷ ps) c =
    if int_lt p.factor (pos 0) then times (negsuc 0) (upright k (turned (p ∷ ps)) (k -ℤ pos 1 -ℤ c)) else upright k (p ∷ ps) c

abbrev pub line_quotient : Line → ℤ → Line
line_quotient l k = plus (record { parts = wholes k l.parts; constant = pos 0 }) (pos 1) (near_quotient k (rests k l.parts) l.constant)

-- Printed relations are spelled by their tokens.
use Rattle.std.proofs.Common.{◌≡◌, ℕ, zero, suc, ℤ, pos, negsuc, ◌+◌, ◌-◌, ◌^◌, ◌<◌, ◌≤◌, Bool, true, false, List, [], ◌∷◌, ◌++◌, refl, sym, ap, subst, codes, arith, append_assoc, append-nil}
use Rattle.std.specs.Prelude.{◌≤ℤ◌, decimal, nat_lt}
use Rattle.std.specs.Fmt.{signed_decimal}
use Rattle.std.proofs.lemmas.Bool.Decides.{nat_tests}
use Rattle.std.proofs.lemmas.Int.{ints}
use Rattle.cf_num.specs.Limit.{IsWithin}
use Rattle.cf_emit.specs.Printed.{order_text}
use Rattle.cf_emit.proofs.Numerals.{AreDigitsOf, decimal_read, ends_digits}
use Rattle.cf_lex.specs.Bytes.{is_in_word, is_long_sign}
use Rattle.cf_lex.specs.Places.{first_place}
use Rattle.cf_lex.specs.Runs.{StopsAt}
use Rattle.cf_lex.specs.Tokens.{IsWord, none}
use Rattle.cf_lex.specs.declared.token.Token.{Token}
use Rattle.cf_lex.specs.declared.token.TokenKind.{TokenKind}
use Rattle.cf_lex.specs.declared.token.TokenKind.TheVariants.{Literal, Word, Sign}
use Rattle.cf_parse.specs.Spelling.{rank as rank_of, tier_of, op_tier, left_tier, right_tier, FirstOp, Spells}
use Rattle.cf_reader.specs.Kinds.{order_kind}
use Rattle.cf_reader.specs.Operations.{op_kind}
use Rattle.cf_reader.specs.Tokens.{Form, ◌⨟◌, First, Next, NextLiteral}
use Rattle.cf_tree.specs.declared.base.Edition.TheVariants.{Three}
use Rattle.cf_tree.specs.declared.base.Order.{Order}
use Rattle.cf_tree.specs.declared.base.Order.TheVariants.{Eq, Ne, Lt, Le, Gt, Ge}
use Rattle.cf_tree.specs.declared.base.Place.{Place}
use Rattle.cf_tree.specs.declared.raw.BinOp.{BinOp}
use Rattle.cf_tree.specs.declared.raw.BinOp.TheVariants.{Add, Sub, Mul, And, Or, Union, Inter, Diff, Subset, Compare}
use Rattle.cf_tree.specs.RawTree.{number_lit, RawTree, raw_lit, raw_truth, raw_name, raw_set_of, raw_group, raw_neg, raw_not, raw_abs, raw_binary, raw_divides, raw_div, raw_mod, raw_card, no_raws}
use Rattle.cf_tree.specs.Relation.{IsDivisor}
use Rattle.cf_tree.specs.RelTree.{SetTree, empty_set, set_var, union_of, inter_of, diff_of, TermTree, term_lit, term_var, term_card, term_neg, term_add, term_sub, term_mul, term_div, term_mod, term_abs, RelTree, rel_true, rel_false, rel_compare, rel_same_set, rel_other_set, rel_subset, rel_divides, rel_and, rel_or, rel_not}
use Rattle.cf_relation_text.specs.declared.tier.Tier.{Tier}
use Rattle.cf_relation_text.specs.declared.tier.Tier.TheVariants.{Ors, Ands, Comparisons, Sums, Products, Unary}
use Rattle.cf_relation_text.specs.RelationText.{rank, is_looser, set_tier, term_tier, rel_tier, byte_if, part, name_of, set_part, set_text, term_part, term_text, rel_part, rel_text}
use Rattle.cf_relation_text.specs.RelationTree.{Placed, bare, grouped, IsPair, IsOver, IsLeaf, IsSet, IsLiteral, IsTerm, IsRelation, IsName, HasSetNames, HasTermSpelling, HasSpelling}
use Rattle.cf_relation_text.specs.ReadsBack.{ReadsBack}
use Rattle.cf_relation_text.proofs.Stretches.{Spans, Says, then, as_form, one_token, is_plain, is_a_word, word, sign, Mark, opening, closing, opening_brace, closing_brace, minus, comma, spaced_sign, spaced_word}

-- some tree of this kind
abbrev Some : (RawTree → Type 0) → Form
Some Is ts rest = (t : RawTree) × Is t × Spells Three t ts rest

-- one that stands where a tier is asked: the tiers of the grammar have two more further out
abbrev In : Tier → (RawTree → Type 0) → Form
In outer Is ts rest = (t : RawTree) × Is t × (2 + rank outer ≤ rank_of (tier_of t)) × Spells Three t ts rest

-- ---- parts in their places
not_looser : (i o : ℕ) → nat_lt i o ≡ false → o ≤ i
not_looser i o e = grind (arith, nat_tests)

rank_most : (t : Tier) → 2 + rank t ≤ 7
rank_most Ors = omega arith
rank_most Ands = omega arith
rank_most Comparisons = omega arith
rank_most Sums = omega arith
rank_most Products = omega arith
rank_most Unary = omega arith

further_in : (i o n : ℕ) → o ≤ i → 2 + i ≤ n → 2 + o ≤ n
further_in i o n h k = omega (arith, h, k)

placed_says : (outer inner : Tier) (Is : RawTree → Type 0) (text : List ℕ) → ((t : RawTree) → Is t → 2 + rank inner ≤ rank_of (tier_of t)) →
    Says (Some Is) text →
    Says (In outer (Placed outer inner Is)) (part outer inner text)
placed_says outer inner Is text fits s = by (is_looser inner outer) refl
  where
    by : (b : Bool) → is_looser inner outer ≡ b → Says (In outer (Placed outer inner Is)) (byte_if 40 b ++ text ++ byte_if 41 b)
    by true e rest stops =
        simp append_assoc (as_form (λ ts more h.
        (raw_group h.1.0 h.2.1.0, grouped h.1.0 e h.2.1.1, rank_most outer, (h.0, h.1.1, (h.2.0, h.2.1.2, h.2.2))))
        (then (opening.gives (text ++ (codes ")" ++ rest))) (then (s (codes ")" ++ rest) refl) (closing.gives rest))))
    by false e rest stops =
        rw (append-nil text) (as_form (λ ts more h.
        (h.0, bare e h.1, further_in (rank inner) (rank outer) (rank_of (tier_of h.0)) (not_looser (rank inner) (rank outer) e) (fits h.0 h.1), h.2))
        (s rest stops))

-- ---- forms over one and two parts
pair_says : (op : BinOp) (left right : Tier) (A B : RawTree → Type 0) (a o b : List ℕ) → Mark (op_kind op) o → Says (In left A) a → Says (In right B) b →
    ((n : ℕ) → 2 + rank left ≤ n → rank_of (left_tier (op_tier op)) ≤ n) → ((n : ℕ) → 2 + rank right ≤ n → rank_of (right_tier (op_tier op)) ≤ n) →
    ((p : Place) (ts more : List Token) → First p (op_kind op) ts more → FirstOp op Three p ts more) →
    Says (Some (IsPair op A B)) (a ++ o ++ b)
pair_says op left right A B a o b mark s t l r f rest stops =
    simp append_assoc (as_form (λ ts more h. (
      raw_binary h.2.1.0 op h.1.0 h.2.2.0,
      (h.2.1.0, h.1.0, h.2.2.0, refl, h.1.1, h.2.2.1),
      (h.0, (l (rank_of (tier_of h.1.0)) h.1.2, h.1.3), (h.2.0, f h.2.1.0 h.0 h.2.0 h.2.1.1, (r (rank_of (tier_of h.2.2.0)) h.2.2.2, h.2.2.3))),
    ))
    (then (s (o ++ (b ++ rest)) (mark.begins (b ++ rest))) (then (mark.gives (b ++ rest)) (t rest stops))))

-- a word, its part in parentheses
called_says : (form : Place → RawTree → RawTree) (w a : List ℕ) (A : RawTree → Type 0) → IsWord w [] → Says (Some A) a →
    ((p : Place) (e : RawTree) (ts more : List Token) → (First p (Word w) ⨟ Next (Sign (codes "(")) ⨟ Spells Three e ⨟ Next (Sign (codes ")"))) ts more →
    Spells Three (form p e) ts more) →
    Says (Some (IsOver form A)) (w ++ codes "(" ++ a ++ codes ")")
called_says form w a A plain s turn rest stops =
    simp append_assoc (as_form (λ ts more h. (
      form h.1.0 h.2.2.1.0,
      (h.1.0, h.2.2.1.0, refl, h.2.2.1.1),
      turn h.1.0 h.2.2.1.0 ts more (h.0, h.1.1, (h.2.0, h.2.1, (h.2.2.0, h.2.2.1.2, h.2.2.2))),
    ))
    (then (word w (codes "(" ++ (a ++ (codes ")" ++ rest))) plain refl)
    (then (opening.gives (a ++ (codes ")" ++ rest))) (then (s (codes ")" ++ rest) refl) (closing.gives rest)))))

-- ---- numbers
short : (n : ℕ) → n ≤ 2 ^ 127 - 1 → n < 10 ^ 64
short n fits = omega arith

literal_says : (n : ℕ) → n ≤ 2 ^ 127 - 1 → Says (Next (Literal (pos n))) (decimal n)
literal_says n fits rest stops =
    let r = decimal_read n (short n fits) in
    one_token (decimal n) rest (Literal (pos n))
    ((r.some, (r.digits, ends_digits rest stops)), subst (λ v. v ≤ 2 ^ 127 - 1) (sym r.value) fits, ap pos (sym r.value))

not_negative : (n : ℕ) → pos 0 ≤ℤ pos n
not_negative n = omega (arith, ints)

no_divisor : (n : ℕ) → pos 1 ≤ℤ negsuc n → ⊥
no_divisor n h = omega (arith, ints)

divisor_says : (k : ℤ) → IsDivisor k → Says (Next (Literal k)) (signed_decimal k)
divisor_says (pos n) d = literal_says n d.1
divisor_says (negsuc n) d = absurd (no_divisor n d.0)

number_says : (k : ℤ) → IsWithin k → Says (Some (IsLiteral k)) (signed_decimal k)
number_says (pos n) fits rest stops =
    as_form (λ ts more h. (raw_lit h.0 (pos n), (h.0, refl), (h.1, not_negative n))) (literal_says n fits rest stops)
number_says (negsuc n) fits rest stops =
    as_form (λ ts more h. (
      raw_neg h.1.0 (raw_lit h.2.0 (pos (suc n))),
      (h.1.0, raw_lit h.2.0 (pos (suc n)), refl, (h.2.0, refl)),
      (h.0, h.1.1, (omega arith, (h.2.1, not_negative (suc n)))),
    ))
    (then (minus.gives (decimal (suc n) ++ rest)) (literal_says (suc n) fits rest stops))

-- a word, its part, a divisor
quotient_says : (form : Place → RawTree → RawTree) (w a : List ℕ) (A : RawTree → Type 0) (k : ℤ) → IsWord w [] → IsDivisor k → Says (Some A) a →
    ((p q : Place) (e : RawTree) (ts more : List Token) → (First p (Word w) ⨟ Next (Sign (codes "(")) ⨟ Spells Three e ⨟ Next (Sign (codes ","))
    ⨟ Next (Literal k) ⨟ Next (Sign (codes ")"))) ts more → Spells Three (form p e) ts more) →
    Says (Some (IsOver form A)) (w ++ codes "(" ++ a ++ codes ", " ++ signed_decimal k ++ codes ")")
quotient_says form w a A k plain d s turn rest stops =
    let end : List ℕ = signed_decimal k ++ (codes ")" ++ rest) in
    let inner : List ℕ = a ++ (codes ", " ++ end) in
    simp append_assoc (as_form (λ ts more h. (
      form h.1.0 h.2.2.1.0,
      (h.1.0, h.2.2.1.0, refl, h.2.2.1.1),
      turn h.1.0 h.1.0 h.2.2.1.0 ts more (h.0, h.1.1, (h.2.0, h.2.1, (h.2.2.0, h.2.2.1.2, h.2.2.2))),
    ))
    (then (word w (codes "(" ++ inner) plain refl) (then (opening.gives inner)
    (then (s (codes ", " ++ end) refl) (then (comma.gives end) (then (divisor_says k d (codes ")" ++ rest) refl) (closing.gives rest)))))))

-- the divisor of a quotient, which is at least 1
with_divisor : (k : ℤ) → IsDivisor k → (X : Form) (p : Place) (w : List ℕ) (ts more : List Token) → (First p (Word w) ⨟ Next (Sign (codes "(")) ⨟ X
    ⨟ Next (Sign (codes ",")) ⨟ Next (Literal k) ⨟ Next (Sign (codes ")"))) ts more →
    (First p (Word w) ⨟ Next (Sign (codes "(")) ⨟ X ⨟ Next (Sign (codes ",")) ⨟ NextLiteral (pos 1) k ⨟ Next (Sign (codes ")"))) ts more
with_divisor k d X p w ts more h =
    let a = h.2 in let b = a.2 in let c = b.2 in let e = c.2 in
    (h.0, h.1, (a.0, a.1, (b.0, b.1, (c.0, c.1, (e.0, (e.1.0, (e.1.1, d.0)), e.2)))))

-- ---- names and signs
name_says : (x : List ℕ) → IsName x → Says (Some (IsLeaf (λ p. raw_name p x))) x
name_says x h rest stops = as_form (λ ts more f. (raw_name f.0 x, (f.0, refl), (f.1, h.1))) (word x rest h.0 stops)

truth_word : (t : Bool) (w : List ℕ) → IsWord w [] → ((p : Place) (ts more : List Token) → First p (Word w) ts more → Spells Three (raw_truth p t) ts more) →
    Says (Some (IsLeaf (λ p. raw_truth p t))) w
truth_word t w plain turn rest stops = as_form (λ ts more f. (raw_truth f.0 t, (f.0, refl), turn f.0 ts more f.1)) (word w rest plain stops)

order_mark : (o : Order) → Mark (order_kind o) (order_text o)
order_mark Eq = spaced_sign (codes "==") (λ rest. (refl, refl))
order_mark Ne = spaced_sign (codes "!=") (λ rest. (refl, refl))
order_mark Lt = spaced_sign (codes "<") (λ rest. (refl, refl))
order_mark Le = spaced_sign (codes "<=") (λ rest. (refl, refl))
order_mark Gt = spaced_sign (codes ">") (λ rest. (refl, refl))
order_mark Ge = spaced_sign (codes ">=") (λ rest. (refl, refl))

plus_mark : Mark (Sign (codes "+")) (codes " + ")
plus_mark = spaced_sign (codes "+") (λ rest. (refl, refl))

minus_mark : Mark (Sign (codes "-")) (codes " - ")
minus_mark = spaced_sign (codes "-") (λ rest. (refl, refl))

times_mark : Mark (Sign (codes "*")) (codes " * ")
times_mark = spaced_sign (codes "*") (λ rest. (refl, refl))

and_mark : Mark (Sign (codes "&&")) (codes " && ")
and_mark = spaced_sign (codes "&&") (λ rest. (refl, refl))

or_mark : Mark (Sign (codes "||")) (codes " || ")
or_mark = spaced_sign (codes "||") (λ rest. (refl, refl))

word_mark : (w : List ℕ) → is_plain w ≡ true → Mark (Word w) (codes " " ++ w ++ codes " ")
word_mark w h = spaced_word w (is_a_word w h)

-- ---- sets
set_fits : (names : List (List ℕ)) (s : SetTree) (t : RawTree) → IsSet names s t → 2 + rank (set_tier s) ≤ rank_of (tier_of t)
set_fits names empty_set t h = rw h.1 (omega arith)
set_fits names (set_var x) t h = rw h.1 (omega arith)
set_fits names (union_of a b) t h = rw h.3 (omega arith)
set_fits names (inter_of a b) t h = rw h.3 (omega arith)
set_fits names (diff_of a b) t h = rw h.3 (omega arith)

empty_says : Says (Some (IsLeaf (λ p. raw_set_of p no_raws))) (codes "{}")
empty_says rest stops =
    as_form (λ ts more h. (raw_set_of h.1.0 no_raws, (h.1.0, refl), (h.0, h.1.1, h.2)))
    (then (opening_brace.gives (codes "}" ++ rest)) (closing_brace.gives rest))

set_says : (names : List (List ℕ)) (s : SetTree) → HasSetNames names s → Says (Some (IsSet names s)) (set_text names s)
set_says names empty_set h = empty_says
set_says names (set_var x) h = name_says (name_of names x) h
set_says names (union_of a b) h =
    pair_says Union Sums Products (Placed Sums (set_tier a) (IsSet names a)) (Placed Products (set_tier b) (IsSet names b))
    (set_part Sums a (set_text names a)) (codes " union ") (set_part Products b (set_text names b)) (word_mark (codes "union") refl)
    (placed_says Sums (set_tier a) (IsSet names a) (set_text names a) (set_fits names a) (set_says names a h.0))
    (placed_says Products (set_tier b) (IsSet names b) (set_text names b) (set_fits names b) (set_says names b h.1))
    (λ n l. l) (λ n l. l) (λ p ts more f. f)
set_says names (inter_of a b) h =
    pair_says Inter Products Unary (Placed Products (set_tier a) (IsSet names a)) (Placed Unary (set_tier b) (IsSet names b))
    (set_part Products a (set_text names a)) (codes " inter ") (set_part Unary b (set_text names b)) (word_mark (codes "inter") refl)
    (placed_says Products (set_tier a) (IsSet names a) (set_text names a) (set_fits names a) (set_says names a h.0))
    (placed_says Unary (set_tier b) (IsSet names b) (set_text names b) (set_fits names b) (set_says names b h.1))
    (λ n l. l) (λ n l. l) (λ p ts more f. f)
set_says names (diff_of a b) h =
    pair_says Diff Sums Products (Placed Sums (set_tier a) (IsSet names a)) (Placed Products (set_tier b) (IsSet names b))
    (set_part Sums a (set_text names a)) (codes " diff ") (set_part Products b (set_text names b)) (word_mark (codes "diff") refl)
    (placed_says Sums (set_tier a) (IsSet names a) (set_text names a) (set_fits names a) (set_says names a h.0))
    (placed_says Products (set_tier b) (IsSet names b) (set_text names b) (set_fits names b) (set_says names b h.1))
    (λ n l. l) (λ n l. l) (λ p ts more f. f)

pub set_placed : (names : List (List ℕ)) (outer : Tier) (s : SetTree) → HasSetNames names s →
    Says (In outer (Placed outer (set_tier s) (IsSet names s))) (set_part outer s (set_text names s))
set_placed names outer s h = placed_says outer (set_tier s) (IsSet names s) (set_text names s) (set_fits names s) (set_says names s h)

-- ---- numbers
literal_fits : (k : ℤ) (t : RawTree) → IsLiteral k t → 7 ≤ rank_of (tier_of t)
literal_fits (pos n) t h = rw h.1 (omega arith)
literal_fits (negsuc n) t h = rw h.2 (omega arith)

term_fits : (names : List (List ℕ)) (a : TermTree) (t : RawTree) → IsTerm names a t → 2 + rank (term_tier a) ≤ rank_of (tier_of t)
term_fits names (term_lit k) t h = literal_fits k t h
term_fits names (term_var x) t h = rw h.1 (omega arith)
term_fits names (term_card s) t h = rw h.2 (omega arith)
term_fits names (term_neg a) t h = rw h.2 (omega arith)
term_fits names (term_add a b) t h = rw h.3 (omega arith)
term_fits names (term_sub a b) t h = rw h.3 (omega arith)
term_fits names (term_mul a b) t h = rw h.3 (omega arith)
term_fits names (term_div a k) t h = rw h.2 (omega arith)
term_fits names (term_mod a k) t h = rw h.2 (omega arith)
term_fits names (term_abs a) t h = rw h.2 (omega arith)

negated_says : (a : List ℕ) (A : RawTree → Type 0) → Says (In Unary A) a → Says (Some (IsOver (λ p e. raw_neg p e) A)) (codes "-" ++ a)
negated_says a A s rest stops =
    simp append_assoc (as_form (λ ts more h. (raw_neg h.1.0 h.2.0, (h.1.0, h.2.0, refl, h.2.1), (h.0, h.1.1, (h.2.2, h.2.3))))
    (then (minus.gives (a ++ rest)) (s rest stops)))

term_says : (names : List (List ℕ)) (a : TermTree) → HasTermSpelling names a → Says (Some (IsTerm names a)) (term_text names a)
term_says names (term_lit k) h = number_says k h
term_says names (term_var x) h = name_says (name_of names x) h
term_says names (term_card s) h =
    called_says (λ p e. raw_card p e) (codes "card") (set_text names s) (IsSet names s) (is_a_word (codes "card") refl) (set_says names s h)
    (λ p e ts more f. f)
term_says names (term_neg a) h =
    negated_says (term_part Unary a (term_text names a)) (Placed Unary (term_tier a) (IsTerm names a))
    (placed_says Unary (term_tier a) (IsTerm names a) (term_text names a) (term_fits names a) (term_says names a h))
term_says names (term_add a b) h =
    pair_says Add Sums Products (Placed Sums (term_tier a) (IsTerm names a)) (Placed Products (term_tier b) (IsTerm names b))
    (term_part Sums a (term_text names a)) (codes " + ") (term_part Products b (term_text names b)) plus_mark
    (placed_says Sums (term_tier a) (IsTerm names a) (term_text names a) (term_fits names a) (term_says names a h.0))
    (placed_says Products (term_tier b) (IsTerm names b) (term_text names b) (term_fits names b) (term_says names b h.1))
    (λ n l. l) (λ n l. l) (λ p ts more f. f)
term_says names (term_sub a b) h =
    pair_says Sub Sums Products (Placed Sums (term_tier a) (IsTerm names a)) (Placed Products (term_tier b) (IsTerm names b))
    (term_part Sums a (term_text names a)) (codes " - ") (term_part Products b (term_text names b)) minus_mark
    (placed_says Sums (term_tier a) (IsTerm names a) (term_text names a) (term_fits names a) (term_says names a h.0))
    (placed_says Products (term_tier b) (IsTerm names b) (term_text names b) (term_fits names b) (term_says names b h.1))
    (λ n l. l) (λ n l. l) (λ p ts more f. f)
term_says names (term_mul a b) h =
    pair_says Mul Products Unary (Placed Products (term_tier a) (IsTerm names a)) (Placed Unary (term_tier b) (IsTerm names b))
    (term_part Products a (term_text names a)) (codes " * ") (term_part Unary b (term_text names b)) times_mark
    (placed_says Products (term_tier a) (IsTerm names a) (term_text names a) (term_fits names a) (term_says names a h.0))
    (placed_says Unary (term_tier b) (IsTerm names b) (term_text names b) (term_fits names b) (term_says names b h.1))
    (λ n l. l) (λ n l. l) (λ p ts more f. f)
term_says names (term_div a k) h =
    quotient_says (λ p e. raw_div p e (number_lit k)) (codes "div") (term_text names a) (IsTerm names a) k (is_a_word (codes "div") refl) h.1
    (term_says names a h.0) (λ p q e ts more f. with_divisor k h.1 (Spells Three e) p (codes "div") ts more f)
term_says names (term_mod a k) h =
    quotient_says (λ p e. raw_mod p e (number_lit k)) (codes "mod") (term_text names a) (IsTerm names a) k (is_a_word (codes "mod") refl) h.1
    (term_says names a h.0) (λ p q e ts more f. with_divisor k h.1 (Spells Three e) p (codes "mod") ts more f)
term_says names (term_abs a) h =
    called_says (λ p e. raw_abs p e) (codes "abs") (term_text names a) (IsTerm names a) (is_a_word (codes "abs") refl) (term_says names a h)
    (λ p e ts more f. f)

pub term_placed : (names : List (List ℕ)) (outer : Tier) (a : TermTree) → HasTermSpelling names a →
    Says (In outer (Placed outer (term_tier a) (IsTerm names a))) (term_part outer a (term_text names a))
term_placed names outer a h = placed_says outer (term_tier a) (IsTerm names a) (term_text names a) (term_fits names a) (term_says names a h)

-- ---- relations
rel_fits : (names : List (List ℕ)) (r : RelTree) (t : RawTree) → IsRelation names r t → 2 + rank (rel_tier r) ≤ rank_of (tier_of t)
rel_fits names rel_true t h = rw h.1 (omega arith)
rel_fits names rel_false t h = rw h.1 (omega arith)
rel_fits names (rel_compare o a b) t h = rw h.3 (omega arith)
rel_fits names (rel_same_set a b) t h = rw h.3 (omega arith)
rel_fits names (rel_other_set a b) t h = rw h.3 (omega arith)
rel_fits names (rel_subset a b) t h = rw h.3 (omega arith)
rel_fits names (rel_divides k a) t h = rw h.2 (omega arith)
rel_fits names (rel_and a b) t h = rw h.3 (omega arith)
rel_fits names (rel_or a b) t h = rw h.3 (omega arith)
rel_fits names (rel_not a) t h = rw h.2 (omega arith)

-- behind ! stands no sign that goes on with it
no_sign : (names : List (List ℕ)) (r : RelTree) (rest : List ℕ) → StopsAt (is_long_sign 33) (rel_part Unary r (rel_text names r) ++ rest)
no_sign names rel_true rest = refl
no_sign names rel_false rest = refl
no_sign names (rel_compare o a b) rest = refl
no_sign names (rel_same_set a b) rest = refl
no_sign names (rel_other_set a b) rest = refl
no_sign names (rel_subset a b) rest = refl
no_sign names (rel_divides k a) rest = refl
no_sign names (rel_and a b) rest = refl
no_sign names (rel_or a b) rest = refl
no_sign names (rel_not a) rest = refl

opposite_says : (a : List ℕ) (A : RawTree → Type 0) → ((rest : List ℕ) → StopsAt (is_long_sign 33) (a ++ rest)) → Says (In Unary A) a →
    Says (Some (IsOver (λ p e. raw_not p e) A)) (codes "!" ++ a)
opposite_says a A alone s rest stops =
    simp append_assoc (as_form (λ ts more h. (raw_not h.1.0 h.2.0, (h.1.0, h.2.0, refl, h.2.1), (h.0, h.1.1, (h.2.2, h.2.3))))
    (then (sign (codes "!") (a ++ rest) (refl, alone rest)) (s rest stops)))

divides_says : (k : ℤ) (a : List ℕ) (A : RawTree → Type 0) → IsDivisor k → Says (In Sums A) a →
    Says (Some (IsOver (λ p e. raw_divides p (number_lit k) e) A)) (signed_decimal k ++ codes " divides " ++ a)
divides_says k a A d s rest stops =
    let mark = word_mark (codes "divides") refl in
    simp append_assoc (as_form (λ ts more h.
    (raw_divides h.1.0 (number_lit k) h.2.2.0, (h.1.0, h.2.2.0, refl, h.2.2.1), (h.0, (h.1.1, d.0), (h.2.0, h.2.1, (h.2.2.2, h.2.2.3)))))
    (then (divisor_says k d (codes " divides " ++ (a ++ rest)) (mark.begins (a ++ rest))) (then (mark.gives (a ++ rest)) (s rest stops))))

rel_says : (names : List (List ℕ)) (r : RelTree) → HasSpelling names r → Says (Some (IsRelation names r)) (rel_text names r)
rel_says names rel_true h = truth_word true (codes "true") (is_a_word (codes "true") refl) (λ p ts more f. f)
rel_says names rel_false h = truth_word false (codes "false") (is_a_word (codes "false") refl) (λ p ts more f. f)
rel_says names (rel_compare o a b) h =
    pair_says (Compare o) Sums Sums (Placed Sums (term_tier a) (IsTerm names a)) (Placed Sums (term_tier b) (IsTerm names b))
    (term_part Sums a (term_text names a)) (order_text o) (term_part Sums b (term_text names b)) (order_mark o)
    (term_placed names Sums a h.0) (term_placed names Sums b h.1) (λ n l. l) (λ n l. l) (λ p ts more f. f)
rel_says names (rel_same_set a b) h =
    pair_says (Compare Eq) Sums Sums (Placed Sums (set_tier a) (IsSet names a)) (Placed Sums (set_tier b) (IsSet names b))
    (set_part Sums a (set_text names a)) (codes " == ") (set_part Sums b (set_text names b)) (order_mark Eq)
    (set_placed names Sums a h.0) (set_placed names Sums b h.1) (λ n l. l) (λ n l. l) (λ p ts more f. f)
rel_says names (rel_other_set a b) h =
    pair_says (Compare Ne) Sums Sums (Placed Sums (set_tier a) (IsSet names a)) (Placed Sums (set_tier b) (IsSet names b))
    (set_part Sums a (set_text names a)) (codes " != ") (set_part Sums b (set_text names b)) (order_mark Ne)
    (set_placed names Sums a h.0) (set_placed names Sums b h.1) (λ n l. l) (λ n l. l) (λ p ts more f. f)
rel_says names (rel_subset a b) h =
    pair_says Subset Sums Sums (Placed Sums (set_tier a) (IsSet names a)) (Placed Sums (set_tier b) (IsSet names b))
    (set_part Sums a (set_text names a)) (codes " subset ") (set_part Sums b (set_text names b)) (word_mark (codes "subset") refl)
    (set_placed names Sums a h.0) (set_placed names Sums b h.1) (λ n l. l) (λ n l. l) (λ p ts more f. f)
rel_says names (rel_divides k a) h =
    divides_says k (term_part Sums a (term_text names a)) (Placed Sums (term_tier a) (IsTerm names a)) h.0 (term_placed names Sums a h.1)
rel_says names (rel_and a b) h =
    pair_says And Ands Comparisons (Placed Ands (rel_tier a) (IsRelation names a)) (Placed Comparisons (rel_tier b) (IsRelation names b))
    (rel_part Ands a (rel_text names a)) (codes " && ") (rel_part Comparisons b (rel_text names b)) and_mark
    (placed_says Ands (rel_tier a) (IsRelation names a) (rel_text names a) (rel_fits names a) (rel_says names a h.0))
    (placed_says Comparisons (rel_tier b) (IsRelation names b) (rel_text names b) (rel_fits names b) (rel_says names b h.1))
    (λ n l. l) (λ n l. l) (λ p ts more f. f)
rel_says names (rel_or a b) h =
    pair_says Or Ors Ands (Placed Ors (rel_tier a) (IsRelation names a)) (Placed Ands (rel_tier b) (IsRelation names b))
    (rel_part Ors a (rel_text names a)) (codes " || ") (rel_part Ands b (rel_text names b)) or_mark
    (placed_says Ors (rel_tier a) (IsRelation names a) (rel_text names a) (rel_fits names a) (rel_says names a h.0))
    (placed_says Ands (rel_tier b) (IsRelation names b) (rel_text names b) (rel_fits names b) (rel_says names b h.1))
    (λ n l. l) (λ n l. l) (λ p ts more f. f)
rel_says names (rel_not a) h =
    opposite_says (rel_part Unary a (rel_text names a)) (Placed Unary (rel_tier a) (IsRelation names a)) (no_sign names a)
    (placed_says Unary (rel_tier a) (IsRelation names a) (rel_text names a) (rel_fits names a) (rel_says names a h))

-- ---- the whole text
reads_back : (names : List (List ℕ)) (r : RelTree) → HasSpelling names r → ReadsBack names r (rel_text names r)
reads_back names r h =
    let s = rw (append-nil (rel_text names r)) at (rel_says names r h [] tt) in
    let g = s.spans first_place in
    let x = g.1 [] g.0 none in
    record {
      tokens = x.0;
      end = g.0;
      lexed = ([], x.1, refl);
      tree = x.2.0;
      is_relation = x.2.1;
      spelled = x.2.2;
    }

pub reads_back_as : (names : List (List ℕ)) (r : RelTree) (text : List ℕ) → text ≡ rel_text names r → HasSpelling names r → ReadsBack names r text
reads_back_as names r text is h = subst (ReadsBack names r) (sym is) (reads_back names r h)

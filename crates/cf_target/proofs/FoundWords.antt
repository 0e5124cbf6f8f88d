-- What one token tells is spelled by it.
use Rattle.std.proofs.Common.{◌≡◌, inl, inr, ℕ, ◌+◌, ◌-◌, ◌≤◌, ◌<◌, ◌^◌, Bool, true, false, List, Option, Some, None, nat_le, refl, sym, ap, subst, ◌∙◌, cond, arith}
use Rattle.std.specs.Prelude.{ℤ, pos, negsuc, ◌≤ℤ◌, int_le, nat_eq, ◌&&◌, codes}
use Rattle.std.specs.Str.{bytes_eq}
use Rattle.std.proofs.lemmas.Bool.{eqb-true, leb-true}
use Rattle.cf_lex.specs.declared.token.Token.{Token}
use Rattle.cf_lex.specs.declared.token.TokenKind.{TokenKind}
use Rattle.cf_lex.specs.declared.token.TokenKind.TheVariants.{Literal, Word, Sign}
use Rattle.cf_tree.specs.declared.base.Place.{Place}
use Rattle.cf_tree.specs.declared.raw.BinOp.{BinOp}
use Rattle.cf_tree.specs.CodeTree.{CodeTree, code_lit, code_truth, code_var, code_set_of, code_tuple, code_sum, code_sub, code_mul, code_neg, code_div, code_mod, code_min, code_max, code_compare, code_divides, code_and, code_or, code_not, code_union, code_inter, code_diff, code_subset, code_card, code_slice, code_fresh, code_if, code_let, code_solve}
use Rattle.cf_tree.specs.Spelled.{IsNumeral}
use Rattle.cf_reader.specs.Tokens.{Next}
use Rattle.cf_reader.specs.Readers.{Test, is}
use Rattle.cf_reader.specs.Operations.{op_kind, op_of}
use Rattle.cf_reader.proofs.Yields.{Took, if_some, if_else_some, same_token, same_text, in_order, took_next}
use Rattle.cf_tree.specs.declared.base.Edition.TheVariants.{Two}
use Rattle.cf_reader.proofs.OperationLaws.{HasOperation, op_on, op_had}
use Rattle.cf_target.specs.declared.form.Unary.{Unary}
use Rattle.cf_target.specs.declared.form.Unary.TheVariants.{Neg, Not, Card}
use Rattle.cf_target.specs.declared.form.Division.{Division}
use Rattle.cf_target.specs.declared.form.Division.TheVariants.{Div, Mod}
use Rattle.cf_target.specs.declared.form.Extreme.{Extreme}
use Rattle.cf_target.specs.declared.form.Extreme.TheVariants.{Min, Max}
use Rattle.cf_target.specs.declared.form.Step.{Step}
use Rattle.cf_target.specs.declared.form.Step.TheVariants.{Let, Need}
use Rattle.cf_target.specs.Spelling.{level_name, SpellsVariable, SpellsNumeral}
use Rattle.cf_target.specs.Levels.{last_level}
use Rattle.cf_target.specs.Reading.{a_unary, a_division, an_extreme, a_step, a_numeral, numeral_of, a_variable, if_before_last, an_early_variable, if_same, the_variable, comma_after, an_operation, lone_literal, divisor_of, divides_by}
use Rattle.cf_target.proofs.LevelLaws.{name_found}

-- the words of forms
abbrev pub unary_kind : Unary → TokenKind
unary_kind Neg = Word (codes "neg")
unary_kind Not = Word (codes "not")
unary_kind Card = Word (codes "card")

abbrev pub division_kind : Division → TokenKind
division_kind Div = Word (codes "div")
division_kind Mod = Word (codes "mod")

abbrev pub extreme_kind : Extreme → TokenKind
extreme_kind Min = Word (codes "min")
extreme_kind Max = Word (codes "max")

abbrev pub step_kind : Step → TokenKind
step_kind Let = Word (codes "let")
step_kind Need = Word (codes "need")

-- a token that passed a test is of the kind that it tells
took_kind : {A : Type 0} (f : Test A) (kind : A → TokenKind) →
    ((q : Place) (k : TokenKind) (x : A) → f (record { place = q; kind = k }) ≡ Some x → k ≡ kind x) →
    (ts us : List Token) (x : A) → Took f ts x us → Next (kind x) ts us
took_kind f kind h ts us x (t, e, g) = (t.place, same_token t t.place (kind x) ts us e refl (h t.place t.kind x g))

two_words : {A : Type 0} (kind : A → TokenKind) (x v w : List ℕ) (a b y : A) → kind a ≡ Word v → kind b ≡ Word w →
    cond (bytes_eq x v) (Some a) (cond (bytes_eq x w) (Some b) None) ≡ Some y → Word x ≡ kind y
two_words kind x v w a b y f g e = elim (if_else_some (bytes_eq x v) a y _ e) [
  | inl h ↦ ap Word (same_text x v h.0) ∙ sym f ∙ ap kind h.1
  | inr h ↦ let j = if_some (bytes_eq x w) b y h.1 in ap Word (same_text x w j.0) ∙ sym g ∙ ap kind j.1
]

unary_on : (q : Place) (k : TokenKind) (u : Unary) → a_unary (record { place = q; kind = k }) ≡ Some u → k ≡ unary_kind u
unary_on q (Word x) u e = elim (if_else_some (bytes_eq x (codes "neg")) Neg u _ e) [
  | inl h ↦ ap Word (same_text x _ h.0) ∙ ap unary_kind h.1
  | inr h ↦ two_words unary_kind x (codes "not") (codes "card") Not Card u refl refl h.1
]
unary_on q (Sign x) u e = cc
unary_on q (Literal n) u e = cc

division_on : (q : Place) (k : TokenKind) (d : Division) → a_division (record { place = q; kind = k }) ≡ Some d → k ≡ division_kind d
division_on q (Word x) d e = two_words division_kind x (codes "div") (codes "mod") Div Mod d refl refl e
division_on q (Sign x) d e = cc
division_on q (Literal n) d e = cc

extreme_on : (q : Place) (k : TokenKind) (x : Extreme) → an_extreme (record { place = q; kind = k }) ≡ Some x → k ≡ extreme_kind x
extreme_on q (Word x) y e = two_words extreme_kind x (codes "min") (codes "max") Min Max y refl refl e
extreme_on q (Sign x) y e = cc
extreme_on q (Literal n) y e = cc

step_on : (q : Place) (k : TokenKind) (s : Step) → a_step (record { place = q; kind = k }) ≡ Some s → k ≡ step_kind s
step_on q (Word x) s e = two_words step_kind x (codes "let") (codes "need") Let Need s refl refl e
step_on q (Sign x) s e = cc
step_on q (Literal n) s e = cc

pub took_unary : (ts us : List Token) (u : Unary) → Took a_unary ts u us → Next (unary_kind u) ts us
took_unary ts us u w = took_kind a_unary unary_kind unary_on ts us u w

pub took_division : (ts us : List Token) (d : Division) → Took a_division ts d us → Next (division_kind d) ts us
took_division ts us d w = took_kind a_division division_kind division_on ts us d w

pub took_extreme : (ts us : List Token) (x : Extreme) → Took an_extreme ts x us → Next (extreme_kind x) ts us
took_extreme ts us x w = took_kind an_extreme extreme_kind extreme_on ts us x w

pub took_step : (ts us : List Token) (s : Step) → Took a_step ts s us → Next (step_kind s) ts us
took_step ts us s w = took_kind a_step step_kind step_on ts us s w

-- variables

variable_on : (q : Place) (k : TokenKind) (x : ℕ) → a_variable (record { place = q; kind = k }) ≡ Some x → (k ≡ Word (level_name x)) × (x < 2 ^ 32)
variable_on q (Word w) x e = let r = name_found w x e in (ap Word r.0, r.1)
variable_on q (Sign w) x e = cc
variable_on q (Literal n) x e = cc

pub took_variable : (ts us : List Token) (x : ℕ) → Took a_variable ts x us → SpellsVariable x ts us
took_variable ts us x (t, e, f) = let h = variable_on t.place t.kind x f in (h.1, (t.place, same_token t t.place (Word (level_name x)) ts us e refl h.0))

early_on : (o : Option ℕ) (x : ℕ) → if_before_last o ≡ Some x → o ≡ Some x
early_on None x e = cc
early_on (Some y) x e = ap Some (if_some (nat_le (y + 1) last_level) y x e).1

pub took_early : (ts us : List Token) (x : ℕ) → Took an_early_variable ts x us → SpellsVariable x ts us
took_early ts us x (t, e, f) = took_variable ts us x (t, e, early_on (a_variable t) x f)

same_on : (y : ℕ) (o : Option ℕ) (x : ℕ) → if_same y o ≡ Some x → (o ≡ Some x) × (x ≡ y)
same_on y None x e = cc
same_on y (Some z) x e = let h = if_some (nat_eq z y) z x e in (ap Some h.1, sym h.1 ∙ eqb-true z y h.0)

pub took_that : (y : ℕ) (ts us : List Token) (x : ℕ) → Took (the_variable y) ts x us → SpellsVariable x ts us × (x ≡ y)
took_that y ts us x (t, e, f) = let h = same_on y (a_variable t) x f in (took_variable ts us x (t, e, h.0), h.1)

guard_on : {A : Type 0} (b : Bool) (o : Option A) (x : A) → cond b o None ≡ Some x → (b ≡ true) × (o ≡ Some x)
guard_on true o x e = (refl, e)
guard_on false o x e = cc

pub took_comma : (last : ℕ) (ts us : List Token) (p : Place) → Took (comma_after last) ts p us → Next (Sign (codes ",")) ts us
took_comma last ts us p (t, e, f) = took_next (Sign (codes ",")) ts us p (t, e, (guard_on (nat_le (last + 1) last_level) (is (Sign (codes ",")) t) p f).1)

-- numbers

both_on : (b c : Bool) (x y : ℕ) → cond (b && c) (Some x) None ≡ Some y → (b ≡ true) × (c ≡ true) × (x ≡ y)
both_on true true x y e = (refl, refl, cc)
both_on true false x y e = cc
both_on false c x y e = cc

numeral_on : (k : ℤ) (n : ℕ) → numeral_of k ≡ Some n → (k ≡ pos n) × IsNumeral n
unfolding last_level
numeral_on (pos m) n e =
    let h = both_on (nat_le 1 m) (nat_le m (2 ^ 32 - 1)) m n e in
    let low : 1 ≤ m = leb-true 1 m h.0 in
    let high : m ≤ 2 ^ 32 - 1 = leb-true m (2 ^ 32 - 1) h.1 in
    (ap pos h.2, (omega (arith, low, h.2), omega (arith, high, h.2)))
numeral_on (negsuc m) n e = cc

literal_kind_on : (q : Place) (k : TokenKind) (n : ℕ) → a_numeral (record { place = q; kind = k }) ≡ Some n → (k ≡ Literal (pos n)) × IsNumeral n
literal_kind_on q (Literal k) n e = let h = numeral_on k n e in (ap Literal h.0, h.1)
literal_kind_on q (Word x) n e = cc
literal_kind_on q (Sign x) n e = cc

pub took_numeral : (ts us : List Token) (n : ℕ) → Took a_numeral ts n us → SpellsNumeral n ts us
took_numeral ts us n (t, e, f) = let h = literal_kind_on t.place t.kind n f in (h.1, (t.place, same_token t t.place (Literal (pos n)) ts us e refl h.0))

-- operations

pub took_operation : (may : Bool) (ts us : List Token) (op : BinOp) → Took (an_operation may) ts op us →
    (may ≡ true) × HasOperation Two op × Next (op_kind op) ts us
took_operation may ts us op (t, e, f) =
    let h = guard_on may (op_of Two t.kind) op f in
    (h.0, op_had Two t.kind op h.1, (t.place, same_token t t.place (op_kind op) ts us e refl (op_on Two t.kind op h.1)))

-- the word divides, behind a literal
pub record DividesFound (n : ℕ) (left : CodeTree) (ts : List Token) (k : ℤ) (us : List Token) : Type 0 where
  pub small : 1 ≤ n
  pub alone : left ≡ code_lit k
  pub least : pos 1 ≤ℤ k
  pub stands : Next (Word (codes "divides")) ts us

lone_on : (c : CodeTree) (k : ℤ) → lone_literal c ≡ Some k → c ≡ code_lit k
lone_on (code_lit n) k e = let h : n ≡ k = cc in ap code_lit h
lone_on (code_truth t) k e = cc
lone_on (code_var x) k e = cc
lone_on (code_set_of cs) k e = cc
lone_on (code_tuple cs) k e = cc
lone_on (code_sum cs) k e = cc
lone_on (code_sub c d) k e = cc
lone_on (code_mul c d) k e = cc
lone_on (code_neg c) k e = cc
lone_on (code_div c n) k e = cc
lone_on (code_mod c n) k e = cc
lone_on (code_min cs) k e = cc
lone_on (code_max cs) k e = cc
lone_on (code_compare o c d) k e = cc
lone_on (code_divides n c) k e = cc
lone_on (code_and c d) k e = cc
lone_on (code_or c d) k e = cc
lone_on (code_not c) k e = cc
lone_on (code_union cs) k e = cc
lone_on (code_inter cs) k e = cc
lone_on (code_diff c d) k e = cc
lone_on (code_subset c d) k e = cc
lone_on (code_card c) k e = cc
lone_on (code_slice c d f) k e = cc
lone_on (code_fresh c d) k e = cc
lone_on (code_if t c d) k e = cc
lone_on (code_let x n c d) k e = cc
lone_on (code_solve n arms) k e = cc

divisor_on : (n : ℕ) (o : Option ℤ) (q : Option Place) (k : ℤ) → divisor_of n o q ≡ Some k →
    (o ≡ Some k) × (1 ≤ n) × (pos 1 ≤ℤ k) × ((p : Place) × (q ≡ Some p))
divisor_on n None q k e = cc
divisor_on n (Some j) None k e = cc
divisor_on n (Some j) (Some p) k e =
    let h = guard_on (int_le (pos 1) j) (cond (nat_le 1 n) (Some j) None) k e in
    let i = if_some (nat_le 1 n) j k h.1 in
    (ap Some i.1, leb-true 1 n i.0, subst (λ z. pos 1 ≤ℤ z) i.1 (in_order (pos 1) j h.0), (p, refl))

pub took_divides : (n : ℕ) (left : CodeTree) (ts us : List Token) (k : ℤ) → Took (divides_by n left) ts k us → DividesFound n left ts k us
unfolding divides_by
took_divides n left ts us k (t, e, f) =
    let h = divisor_on n (lone_literal left) (is (Word (codes "divides")) t) k f in
    record { small = h.1; alone = lone_on left k h.0; least = h.2; stands = took_next (Word (codes "divides")) ts us h.3.0 (t, e, h.3.1) }

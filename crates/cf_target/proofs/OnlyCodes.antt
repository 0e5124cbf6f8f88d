-- What is spelled is read.
use Rattle.std.proofs.Common.{◌≡◌, inl, inr, ℕ, zero, suc, ◌+◌, ◌-◌, ◌≤◌, ◌<◌, ◌^◌, ◌||◌, Bool, true, false, List, [], ◌∷◌, ◌++◌, length, Option, Some, None, Ok, nat_le, refl, sym, ap, subst, ◌∙◌, cond, T, arith}
use Rattle.std.specs.Prelude.{ℤ, pos, negsuc, ◌≤ℤ◌, nat_eq, ◌&&◌, codes}
use Rattle.std.specs.Int.Signed.{le_z_yes}
use Rattle.std.proofs.lemmas.Bool.{eq-eqb, le-leb}
use Rattle.cf_lex.specs.declared.token.Token.{Token}
use Rattle.cf_lex.specs.declared.token.TokenKind.{TokenKind}
use Rattle.cf_lex.specs.declared.token.TokenKind.TheVariants.{Literal, Word, Sign}
use Rattle.cf_tree.specs.declared.base.Place.{Place}
use Rattle.cf_tree.specs.declared.base.Order.TheVariants.{Eq, Ne, Lt, Le, Gt, Ge}
use Rattle.cf_tree.specs.declared.raw.BinOp.{BinOp}
use Rattle.cf_tree.specs.declared.raw.BinOp.TheVariants as ops
use Rattle.cf_tree.specs.CodeTree.{CodeTree, code_lit, code_truth, code_var, code_set_of, code_tuple, code_sum, code_sub, code_mul, code_neg, code_div, code_mod, code_min, code_max, code_compare, code_divides, code_and, code_or, code_not, code_union, code_inter, code_diff, code_subset, code_card, code_slice, code_fresh, code_if, code_let, code_solve, CodeTrees, no_codes, code_more, codes_of, count, code_depth, codes_depth}
use Rattle.cf_tree.specs.declared.base.Edition.TheVariants.{Two as language_2}
use Rattle.cf_reader.specs.Tokens.{First, Next, Others}
use Rattle.cf_reader.specs.Readers.{Got, Reader, same_kind, before, at, must, bind, several_of, snoc}
use Rattle.cf_reader.specs.Kinds.{truth_kind, a_truth}
use Rattle.cf_reader.specs.Operations.{op_kind, op_of}
use Rattle.cf_reader.proofs.Exact.{bind_is, pure_is, must_is, first_is, first_not, deep_is, deep_not, at_is, at_not, next_is, le_yes, literal_is, first_longer, Items, several_are, must_within}
use Rattle.cf_reader.proofs.Near.{Within}
use Rattle.cf_reader.proofs.KindLaws.{no_literal, no_truth}
use Rattle.cf_reader.proofs.OperationLaws.{HasOperation, op_again}
use Rattle.cf_reader.proofs.Yields.{added_snoc, all_added}
use Rattle.cf_target.specs.declared.form.Unary.{Unary}
use Rattle.cf_target.specs.declared.form.Division.{Division}
use Rattle.cf_target.specs.declared.form.Extreme.{Extreme}
use Rattle.cf_target.specs.declared.form.Many.{Many}
use Rattle.cf_target.specs.declared.form.Many.TheVariants as manies
use Rattle.cf_target.specs.declared.form.Two.{Two}
use Rattle.cf_target.specs.declared.form.Two.TheVariants as twos
use Rattle.cf_target.specs.declared.form.Operation.TheVariants as operations
use Rattle.cf_target.specs.Levels.{last_level, level_of}
use Rattle.cf_target.specs.Spelling.{level_name, SpellsVariable, SpellsMoreVariables, SpellsVariables, SpellsDivisor, SpellsNumeral, SpellsBounds, SpellsCode, SpellsCodes, SpellsOthers}
use Rattle.cf_target.specs.Reading.{a_unary, unary_tree, a_division, division_tree, an_extreme, extreme_tree, operation_of, many_kind, many_tree, two_tree, a_numeral, a_variable, if_before_last, an_early_variable, if_same, the_variable, comma_after, variables_of, all_variables, vars_of, bounds_of, list_of, elements_of, one_of, divided_of, listed_of, slice_of, fresh_of, if_of, let_of, operated_of, InsideTree, several, single, an_operation, divisor_of, divides_by, behind_of, inside_of, forms_of, unless_zero, word_of, step}
use Rattle.cf_target.proofs.LevelLaws.{name_reads}

same_both : {A : Type 0} (b : Bool) (o : Option A) → cond b o o ≡ o
same_both true o = refl
same_both false o = refl

both_true : (b c : Bool) (n : ℕ) → b ≡ true → c ≡ true → cond (b && c) (Some n) None ≡ Some n
both_true true true n e f = refl
both_true true false n e f = cc
both_true false c n e f = cc

-- variables, numerals and bounds

pub variable_is : (x : ℕ) (ts us : List Token) → SpellsVariable x ts us → at a_variable ts ≡ Some (x, us)
unfolding at
variable_is x ts us (l, (p, w)) = ap (at a_variable) w ∙ ap (λ o. before us o) (name_reads x l)

early_is : (x : ℕ) (ts us : List Token) → SpellsVariable x ts us → x + 1 < 2 ^ 32 → at an_early_variable ts ≡ Some (x, us)
unfolding at last_level
early_is x ts us (l, (p, w)) h =
    ap (at an_early_variable) w ∙ ap (λ o. before us (if_before_last o)) (name_reads x l) ∙
    ap (λ b. before us (cond b (Some x) None)) (le-leb (x + 1) (2 ^ 32 - 1) (omega (arith, h)))

that_is : (x y : ℕ) (ts us : List Token) → y ≡ x → SpellsVariable x ts us → must (the_variable y) ts ≡ Ok (y, us)
unfolding at
that_is x y ts us e (l, (p, w)) =
    must_is (the_variable y) ts us y
    (ap (at (the_variable y)) w ∙ ap (λ o. before us (if_same y o)) (name_reads x l) ∙ ap (λ (z : ℕ). before us (cond (nat_eq z y) (Some z) None)) (sym e) ∙
    ap (λ b. before us (cond b (Some y) None)) (eq-eqb y y refl))

comma_is : (x : ℕ) (ts us : List Token) (p : Place) → x + 1 < 2 ^ 32 → First p (Sign (codes ",")) ts us → at (comma_after x) ts ≡ Some (p, us)
unfolding at last_level
comma_is x ts us p h w = ap (at (comma_after x)) w ∙ ap (λ b. before us (cond b (Some p) None)) (le-leb (x + 1) (2 ^ 32 - 1) (omega (arith, h)))

no_comma : (x : ℕ) (ts us : List Token) (p : Place) → First p (Sign (codes ")")) ts us → at (comma_after x) ts ≡ None
unfolding at
no_comma x ts us p w = ap (at (comma_after x)) w ∙ ap (λ (o : Option Place). before us o) (same_both (nat_le (x + 1) last_level) None)

more_are : (k x n : ℕ) (ts us : List Token) → length ts ≤ k → SpellsMoreVariables (suc x) n ts us → variables_of k x ts ≡ Ok (x + n, us)
unfolding variables_of
more_are zero x zero ts us l w = absurd (omega (arith, l, first_longer (Sign (codes ")")) ts us w.0 w.1))
more_are zero x (suc n) ts us l (a, c, (b, v, r)) = absurd (omega (arith, l, first_longer (Sign (codes ",")) ts a c.0 c.1))
more_are (suc k) x zero ts us l (p, w) =
    let e : x ≡ x + 0 = omega arith in first_not _ _ _ ts (no_comma x ts us p w)
    (bind_is _ _ ts (next_is (Sign (codes ")")) ts us refl (p, w)) (pure_is x (x + 0) us e))
more_are (suc k) x (suc n) ts us l (a, c, (b, v, r)) =
    let e : x + 1 + n ≡ x + suc n = omega arith in
    let f : x + 1 ≡ suc x = omega arith in
    let g : suc (suc x) ≡ suc (x + 1) = omega arith in
    first_is _ _ _ ts (comma_is x ts a c.0 (omega (arith, v.0)) c.1)
    (bind_is _ _ a (that_is (suc x) (x + 1) a b f v)
    (more_are k (x + 1) n b us (omega (arith, l, first_longer (Sign (codes ",")) ts a c.0 c.1, first_longer (Word (level_name (suc x))) a b v.1.0 v.1.1))
    (subst (λ z. SpellsMoreVariables z n b us) g r)
    ∙ ap (λ (z : ℕ). Ok (z, us)) e))

vars_are : (x n : ℕ) (ts us : List Token) → SpellsVariables x n ts us → vars_of ts ≡ Ok ((x, n), us)
unfolding vars_of all_variables
vars_are x zero ts us w = absurd w
vars_are x (suc zero) ts us v =
    first_not _ _ _ ts (at_not (Sign (codes "(")) (Word (level_name x)) ts us v.1.0 refl v.1.1)
    (bind_is _ _ ts (must_is _ ts us x (variable_is x ts us v)) (pure_is _ _ us refl))
vars_are x (suc (suc n)) ts us (a, o, (b, v, (c, m, (d, w, r)))) =
    let e : x + 1 + n - x + 1 ≡ suc (suc n) = omega arith in
    let f : x + 1 ≡ suc x = omega arith in
    let g : suc (suc x) ≡ suc (x + 1) = omega arith in
    first_is _ _ _ ts (at_is (Sign (codes "(")) ts a o.0 refl o.1)
    (bind_is _ _ a (must_is _ a b x (early_is x a b v (omega (arith, w.0))))
    (bind_is _ _ b (next_is (Sign (codes ",")) b c refl m)
    (bind_is _ _ c (that_is (suc x) (x + 1) c d f w)
    (bind_is _ _ d (more_are (length d) (x + 1) n d us (omega arith) (subst (λ z. SpellsMoreVariables z n d us) g r))
    (pure_is _ _ us (ap (λ (z : ℕ). (x, z)) e))))))

pub numeral_is : (n : ℕ) (ts us : List Token) → SpellsNumeral n ts us → at a_numeral ts ≡ Some (n, us)
unfolding at last_level
numeral_is n ts us (i, (p, w)) =
    ap (at a_numeral) w ∙ ap (λ o. before us o) (both_true (nat_le 1 n) (nat_le n (2 ^ 32 - 1)) n (le-leb 1 n i.0) (le-leb n (2 ^ 32 - 1) (omega (arith, i.1))))

numeral_items : Items (must a_numeral) SpellsNumeral (Sign (codes ",")) (Sign (codes "]"))
numeral_items = record {
  reads = λ n ts us w e. must_is a_numeral ts us n (numeral_is n ts us w);
  within = must_within a_numeral;
  separates = refl;
  closes =
      refl;
  differs = refl;
}

pub bounds_are : (ns : List ℕ) (ts us : List Token) → SpellsBounds ns ts us → bounds_of ts ≡ Ok (ns, us)
unfolding bounds_of
bounds_are [] ts us w = first_is _ _ _ ts (at_is (Sign (codes "]")) ts us w.0 refl w.1) (pure_is _ _ us refl)
bounds_are (n ∷ ns) ts us (a, i, o) =
    first_not _ _ _ ts (at_not (Sign (codes "]")) (Literal (pos n)) ts a i.1.0 refl i.1.1)
    (several_are snoc (must a_numeral) SpellsNumeral (Sign (codes ",")) (Sign (codes "]")) numeral_items (n ∷ ns) [] ts us (a, i, o) ∙
    ap (λ (z : List ℕ). Ok (z, us)) (all_added (n ∷ ns)))

-- how codes begin

-- a code begins with a token that begins no `if`, no `let`, and closes no set
pub record Begins (ts : List Token) : Type 0 where
  pub kind : TokenKind
  pub rest : List Token
  pub place : Place
  pub stands : First place kind ts rest
  pub no_if : same_kind kind (Word (codes "if")) ≡ false
  pub no_let : same_kind kind (Word (codes "let")) ≡ false
  pub no_brace : same_kind kind (Sign (codes "}")) ≡ false

begins_at : (k : TokenKind) (ts us : List Token) → same_kind k (Word (codes "if")) ≡ false → same_kind k (Word (codes "let")) ≡ false →
    same_kind k (Sign (codes "}")) ≡ false → Next k ts us → Begins ts
begins_at k ts us e f g (p, w) = record { kind = k; rest = us; place = p; stands = w; no_if = e; no_let = f; no_brace = g }

truth_begins : (b : Bool) (ts us : List Token) → Next (truth_kind b) ts us → Begins ts
truth_begins true ts us w = begins_at (truth_kind true) ts us refl refl refl w
truth_begins false ts us w = begins_at (truth_kind false) ts us refl refl refl w

opens : (ts us : List Token) → Next (Sign (codes "(")) ts us → Begins ts
opens ts us w = begins_at (Sign (codes "(")) ts us refl refl refl w

pub begins : (c : CodeTree) (ts us : List Token) → SpellsCode c ts us → Begins ts
begins (code_lit k) ts us (inl (p, w)) = begins_at (Literal k) ts us refl refl refl (p, w.0)
begins (code_lit k) ts us (inr (n, (a, m, w), e)) = begins_at (Sign (codes "-")) ts a refl refl refl m
begins (code_truth b) ts us w = truth_begins b ts us w
begins (code_var x) ts us w = begins_at (Word (level_name x)) ts us refl refl refl w.1
begins (code_set_of no_codes) ts us w = begins_at (Sign (codes "{")) ts w.0 refl refl refl w.1
begins (code_set_of (code_more c cs)) ts us w = begins_at (Sign (codes "{")) ts w.0 refl refl refl w.1
begins (code_tuple cs) ts us w = opens ts w.1.0 w.1.1
begins (code_sum cs) ts us w = opens ts w.1.0 w.1.1
begins (code_sub c d) ts us w = opens ts w.0 w.1
begins (code_mul c d) ts us w = opens ts w.0 w.1
begins (code_neg c) ts us w = begins_at (Word (codes "neg")) ts w.0 refl refl refl w.1
begins (code_div c k) ts us w = begins_at (Word (codes "div")) ts w.0 refl refl refl w.1
begins (code_mod c k) ts us w = begins_at (Word (codes "mod")) ts w.0 refl refl refl w.1
begins (code_min cs) ts us w = begins_at (Word (codes "min")) ts w.0 refl refl refl w.1
begins (code_max cs) ts us w = begins_at (Word (codes "max")) ts w.0 refl refl refl w.1
begins (code_compare o c d) ts us w = opens ts w.0 w.1
begins (code_divides k c) ts us w = opens ts w.0 w.1
begins (code_and c d) ts us w = opens ts w.0 w.1
begins (code_or c d) ts us w = opens ts w.0 w.1
begins (code_not c) ts us w = begins_at (Word (codes "not")) ts w.0 refl refl refl w.1
begins (code_union cs) ts us w = opens ts w.1.0 w.1.1
begins (code_inter cs) ts us w = opens ts w.1.0 w.1.1
begins (code_diff c d) ts us w = opens ts w.0 w.1
begins (code_subset c d) ts us w = opens ts w.0 w.1
begins (code_card c) ts us w = begins_at (Word (codes "card")) ts w.0 refl refl refl w.1
begins (code_slice c d e) ts us w = begins_at (Word (codes "slice")) ts w.0 refl refl refl w.1
begins (code_fresh c d) ts us w = begins_at (Word (codes "fresh")) ts w.0 refl refl refl w.1
begins (code_if t c d) ts us w = opens ts w.0 w.1
begins (code_let x n c d) ts us w = opens ts w.0 w.1
begins (code_solve n arms) ts us w = begins_at (Word (codes "solve")) ts w.0 refl refl refl w.1

pub depth_one : (c : CodeTree) → 1 ≤ code_depth c
depth_one (code_lit k) = omega arith
depth_one (code_truth b) = omega arith
depth_one (code_var x) = omega arith
depth_one (code_set_of cs) = omega arith
depth_one (code_tuple cs) = omega arith
depth_one (code_sum cs) = omega arith
depth_one (code_sub c d) = omega arith
depth_one (code_mul c d) = omega arith
depth_one (code_neg c) = omega arith
depth_one (code_div c k) = omega arith
depth_one (code_mod c k) = omega arith
depth_one (code_min cs) = omega arith
depth_one (code_max cs) = omega arith
depth_one (code_compare o c d) = omega arith
depth_one (code_divides k c) = omega arith
depth_one (code_and c d) = omega arith
depth_one (code_or c d) = omega arith
depth_one (code_not c) = omega arith
depth_one (code_union cs) = omega arith
depth_one (code_inter cs) = omega arith
depth_one (code_diff c d) = omega arith
depth_one (code_subset c d) = omega arith
depth_one (code_card c) = omega arith
depth_one (code_slice c d e) = omega arith
depth_one (code_fresh c d) = omega arith
depth_one (code_if t c d) = omega arith
depth_one (code_let x n c d) = omega arith
depth_one (code_solve n arms) = omega arith

-- lists of codes

-- the reader reads each code of depth at most n, and leaves no more tokens than it is given
pub record ReadsTo (n : ℕ) (part : Reader CodeTree) : Type 0 where
  pub reads : (c : CodeTree) (ts us : List Token) → code_depth c ≤ n → SpellsCode c ts us → part ts ≡ Ok (c, us)
  pub within : (ts : List Token) → Within (length ts) (part ts)

abbrev pub listed : CodeTrees → List CodeTree
listed no_codes = []
listed (code_more c cs) = c ∷ listed cs

pub listed_again : (cs : CodeTrees) → codes_of (listed cs) ≡ cs
listed_again no_codes = refl
listed_again (code_more c cs) = ap (code_more c) (listed_again cs)

abbrev IsItem : ℕ → CodeTree → List Token → List Token → Type 0
IsItem n c ts us = (code_depth c ≤ n) × SpellsCode c ts us

-- tokens between the codes of a list, and behind them
record Ends (separator close : TokenKind) : Type 0 where
  separates : same_kind separator separator ≡ true
  closes : same_kind close close ≡ true
  differs : same_kind close separator ≡ false

comma_paren : Ends (Sign (codes ",")) (Sign (codes ")"))
comma_paren = record { separates = refl; closes = refl; differs = refl }

comma_brace : Ends (Sign (codes ",")) (Sign (codes "}"))
comma_brace = record { separates = refl; closes = refl; differs = refl }

many_paren : (many : Many) → Ends (many_kind many) (Sign (codes ")"))
many_paren manies.Sum = record { separates = refl; closes = refl; differs = refl }
many_paren manies.Union = record { separates = refl; closes = refl; differs = refl }
many_paren manies.Inter = record { separates = refl; closes = refl; differs = refl }

code_items : (n : ℕ) (part : Reader CodeTree) (separator close : TokenKind) → ReadsTo n part → Ends separator close → Items part (IsItem n) separator close
code_items n part separator close h e =
    record { reads = λ c ts us w z. h.reads c ts us w.0 w.1; within = h.within; separates = e.separates; closes = e.closes; differs = e.differs }

as_others : (n : ℕ) (separator close : TokenKind) (cs : CodeTrees) (ts us : List Token) → codes_depth cs ≤ n → SpellsOthers cs separator close ts us →
    Others (IsItem n) separator close (listed cs) ts us
as_others n separator close no_codes ts us d w = w
as_others n separator close (code_more c cs) ts us d (a, s, (b, w, o)) =
    (a, s, (b, (omega (arith, d), w), as_others n separator close cs b us (omega (arith, d)) o))

-- code { separator code } close, behind codes that were read before
codes_are : (n : ℕ) (part : Reader CodeTree) (separator close : TokenKind) → ReadsTo n part → Ends separator close →
    (done : List CodeTree) (c : CodeTree) (cs : CodeTrees) (ts mid us : List Token) →
    code_depth c ≤ n → codes_depth cs ≤ n → SpellsCode c ts mid → SpellsOthers cs separator close mid us →
    several_of snoc part separator close done ts ≡ Ok (done ++ c ∷ listed cs, us)
codes_are n part separator close h e done c cs ts mid us d ds w o =
    several_are snoc part (IsItem n) separator close (code_items n part separator close h e) (c ∷ listed cs) done ts us
    (mid, (d, w), as_others n separator close cs mid us ds o)
    ∙ ap (λ (z : List CodeTree). Ok (z, us)) (added_snoc done (c ∷ listed cs))

pub elements_are : (n : ℕ) (part : Reader CodeTree) → ReadsTo n part → (c : CodeTree) (cs : CodeTrees) (ts mid us : List Token) → code_depth c ≤ n →
    codes_depth cs ≤ n → SpellsCode c ts mid →
    SpellsOthers cs (Sign (codes ",")) (Sign (codes "}")) mid us → elements_of part ts ≡ Ok (c ∷ listed cs, us)
unfolding elements_of list_of
elements_are n part h c cs ts mid us d ds w o =
    let b = begins c ts mid w in
    first_not _ _ _ ts (at_not (Sign (codes "}")) b.kind ts b.rest b.place b.no_brace b.stands) (codes_are n part _ _ h comma_brace [] c cs ts mid us d ds w o)

-- forms that begin with a word

one_is : (n : ℕ) (part : Reader CodeTree) → ReadsTo n part → (c : CodeTree) (ts a b us : List Token) → code_depth c ≤ n → Next (Sign (codes "(")) ts a →
    SpellsCode c a b → Next (Sign (codes ")")) b us → one_of part ts ≡ Ok (c, us)
unfolding one_of
one_is n part h c ts a b us d o w r = bind_is _ _ ts (next_is _ ts a refl o)
    (bind_is _ _ a (h.reads c a b d w) (bind_is _ _ b (next_is _ b us refl r) (pure_is _ _ us refl)))

divided_is : (n : ℕ) (part : Reader CodeTree) → ReadsTo n part → (c : CodeTree) (k : ℤ) (ts a b e f us : List Token) → code_depth c ≤ n →
    Next (Sign (codes "(")) ts a → SpellsCode c a b → Next (Sign (codes ",")) b e →
    SpellsDivisor k e f → Next (Sign (codes ")")) f us → divided_of part ts ≡ Ok ((c, k), us)
unfolding divided_of
divided_is n part h c k ts a b e f us d o w m v r =
    bind_is _ _ ts (next_is _ ts a refl o) (bind_is _ _ a (h.reads c a b d w) (bind_is _ _ b (next_is _ b e refl m)
    (bind_is _ _ e (must_is _ e f _ (literal_is (pos 1) e f v.0 k v.1)) (bind_is _ _ f (next_is _ f us refl r) (pure_is _ _ us refl)))))

listed_is : (n : ℕ) (part : Reader CodeTree) → ReadsTo n part → (cs : CodeTrees) (ts a us : List Token) → codes_depth cs ≤ n → Next (Sign (codes "(")) ts a →
    SpellsCodes cs (Sign (codes ",")) (Sign (codes ")")) a us →
    listed_of part ts ≡ Ok (listed cs, us)
unfolding listed_of list_of
listed_is n part h no_codes ts a us d o w = absurd w
listed_is n part h (code_more c cs) ts a us d o (b, w, r) =
    bind_is _ _ ts (next_is _ ts a refl o) (codes_are n part _ _ h comma_paren [] c cs a b us (omega (arith, d)) (omega (arith, d)) w r)

unless_is : {A : Type 0} (n : ℕ) (r : Reader A) (ts : List Token) {y : Got A} → 1 ≤ n → r ts ≡ y → unless_zero n r ts ≡ y
unfolding unless_zero
unless_is zero r ts l e = absurd (omega (arith, l))
unless_is (suc n) r ts l e = e

-- a word that is no name of a level, and no truth value
pub word_step : (part less : Reader CodeTree) (n : ℕ) (w : List ℕ) (p : Place) (ts a : List Token) {y : Got CodeTree} → First p (Word w) ts a →
    a_truth (record { place = p; kind = Word w }) ≡ None → level_of w ≡ None →
    word_of part less n ts ≡ y → step part less n ts ≡ y
unfolding step at
word_step part less n w p ts a h t e x =
    first_not _ _ _ ts (no_literal p w ts a h) (first_not _ _ _ ts (at_not _ (Word w) ts a p refl h) (first_not _ _ _ ts (no_truth w p ts a t h)
    (first_not _ _ _ ts (ap (at a_variable) h ∙ ap (λ o. before a o) e)
    (first_not _ _ _ ts (at_not _ (Word w) ts a p refl h) (deep_not _ _ _ _ ts (at_not _ (Word w) ts a p refl h) x)))))

pub form_step : (part less : Reader CodeTree) (n : ℕ) (w : List ℕ) (p : Place) (ts a : List Token) {y : Got CodeTree} → 1 ≤ n → First p (Word w) ts a →
    a_truth (record { place = p; kind = Word w }) ≡ None → level_of w ≡ None →
    same_kind (Word w) (Word (codes "solve")) ≡ false → forms_of part ts ≡ y → step part less n ts ≡ y
unfolding word_of
form_step part less n w p ts a l h t e s x =
    word_step part less n w p ts a h t e (first_not _ _ _ ts (at_not _ (Word w) ts a p s h) (unless_is n (forms_of part) ts l x))

pub unary_is : (n : ℕ) (part : Reader CodeTree) → ReadsTo n part → (u : Unary) (c : CodeTree) (ts a b d us : List Token) → code_depth c ≤ n →
    at a_unary ts ≡ Some (u, a) → Next (Sign (codes "(")) a b → SpellsCode c b d → Next (Sign (codes ")")) d us →
    forms_of part ts ≡ Ok (unary_tree u c, us)
unfolding forms_of
unary_is n part h u c ts a b d us l e o w r = first_is _ _ _ ts e (bind_is _ _ a (one_is n part h c a b d us l o w r) (pure_is _ _ us refl))

pub division_is : (n : ℕ) (part : Reader CodeTree) → ReadsTo n part → (v : Division) (c : CodeTree) (k : ℤ) (ts a b d e f us : List Token) → code_depth c ≤ n →
    at a_unary ts ≡ None → at a_division ts ≡ Some (v, a) →
    Next (Sign (codes "(")) a b → SpellsCode c b d → Next (Sign (codes ",")) d e → SpellsDivisor k e f → Next (Sign (codes ")")) f us →
    forms_of part ts ≡ Ok (division_tree v c k, us)
unfolding forms_of
division_is n part h v c k ts a b d e f us l u x o w m i r =
    first_not _ _ _ ts u (first_is _ _ _ ts x (bind_is _ _ a (divided_is n part h c k a b d e f us l o w m i r) (pure_is _ _ us refl)))

pub extreme_is : (n : ℕ) (part : Reader CodeTree) → ReadsTo n part → (v : Extreme) (cs : CodeTrees) (ts a b us : List Token) → codes_depth cs ≤ n →
    at a_unary ts ≡ None → at a_division ts ≡ None → at an_extreme ts ≡ Some (v, a) →
    Next (Sign (codes "(")) a b → SpellsCodes cs (Sign (codes ",")) (Sign (codes ")")) b us → forms_of part ts ≡ Ok (extreme_tree v (listed cs), us)
unfolding forms_of
extreme_is n part h v cs ts a b us l u x y o w =
    first_not _ _ _ ts u (first_not _ _ _ ts x (first_is _ _ _ ts y (bind_is _ _ a (listed_is n part h cs a b us l o w) (pure_is _ _ us refl))))

pub slice_is : (n : ℕ) (part : Reader CodeTree) → ReadsTo n part → (c d e : CodeTree) (ts a b f g i j k us : List Token) (p : Place) → code_depth c ≤ n →
    code_depth d ≤ n → code_depth e ≤ n → First p (Word (codes "slice")) ts a →
    Next (Sign (codes "(")) a b → SpellsCode c b f → Next (Sign (codes ",")) f g → SpellsCode d g i → Next (Sign (codes ",")) i j → SpellsCode e j k →
    Next (Sign (codes ")")) k us → forms_of part ts ≡ Ok (code_slice c d e, us)
unfolding forms_of slice_of at
slice_is n part h c d e ts a b f g i j k us p l m q s o w x v y u r =
    first_not _ _ _ ts (ap (at a_unary) s) (first_not _ _ _ ts (ap (at a_division) s)
    (first_not _ _ _ ts (ap (at an_extreme) s) (first_is _ _ _ ts (at_is _ ts a p refl s)
    (bind_is _ _ a (next_is _ a b refl o) (bind_is _ _ b (h.reads c b f l w)
    (bind_is _ _ f (next_is _ f g refl x) (bind_is _ _ g (h.reads d g i m v) (bind_is _ _ i (next_is _ i j refl y)
    (bind_is _ _ j (h.reads e j k q u) (bind_is _ _ k (next_is _ k us refl r) (pure_is _ _ us refl)))))))))))

pub fresh_is : (n : ℕ) (part : Reader CodeTree) → ReadsTo n part → (c d : CodeTree) (ts a b f g i us : List Token) (p : Place) → code_depth c ≤ n →
    code_depth d ≤ n → First p (Word (codes "fresh")) ts a →
    Next (Sign (codes "(")) a b → SpellsCode c b f → Next (Sign (codes ",")) f g → SpellsCode d g i → Next (Sign (codes ")")) i us →
    forms_of part ts ≡ Ok (code_fresh c d, us)
unfolding forms_of fresh_of at
fresh_is n part h c d ts a b f g i us p l m s o w x v r =
    first_not _ _ _ ts (ap (at a_unary) s) (first_not _ _ _ ts (ap (at a_division) s)
    (first_not _ _ _ ts (ap (at an_extreme) s)
    (first_not _ _ _ ts (at_not _ (Word (codes "fresh")) ts a p refl s) (first_is _ _ _ ts (at_is _ ts a p refl s)
    (bind_is _ _ a (next_is _ a b refl o) (bind_is _ _ b (h.reads c b f l w)
    (bind_is _ _ f (next_is _ f g refl x) (bind_is _ _ g (h.reads d g i m v) (bind_is _ _ i (next_is _ i us refl r) (pure_is _ _ us refl))))))))))

-- what stands in parentheses

-- two readers of parts, of which the first goes at least as deep
pub record Heads (m n : ℕ) (head part : Reader CodeTree) : Type 0 where
  pub heads : ReadsTo m head
  pub parts : ReadsTo n part
  pub deeper : n ≤ m

-- behind a code that begins an operation or a tuple
not_worded : (head part : Reader CodeTree) (m n : ℕ) (c : CodeTree) (ts us : List Token) {y : Got InsideTree} → SpellsCode c ts us →
    bind head (λ c. behind_of head part n (nat_eq m n || nat_le (code_depth c) n) c) ts ≡ y → inside_of head part m n ts ≡ y
unfolding inside_of
not_worded head part m n c ts us w x =
    let b = begins c ts us w in
    deep_not _ _ _ _ ts (at_not (Word (codes "if")) b.kind ts b.rest b.place b.no_if b.stands)
    (deep_not _ _ _ _ ts (at_not (Word (codes "let")) b.kind ts b.rest b.place b.no_let b.stands) x)

pub tuple_is : (head part : Reader CodeTree) (m n : ℕ) → Heads m n head part → (cs : CodeTrees) (ts us : List Token) → 2 ≤ count cs → codes_depth cs ≤ m →
    SpellsCodes cs (Sign (codes ",")) (Sign (codes ")")) ts us →
    inside_of head part m n ts ≡ Ok (several (listed cs), us)
unfolding behind_of
tuple_is head part m n h no_codes ts us l d w = absurd w
tuple_is head part m n h (code_more c no_codes) ts us l d w = absurd (omega (arith, l))
tuple_is head part m n h (code_more c (code_more e cs)) ts us l d (a, w, (b, s, (f, v, o))) =
    not_worded head part m n c ts a w (bind_is _ _ ts (h.heads.reads c ts a (omega (arith, d)) w)
    (first_is _ _ _ a (at_is (Sign (codes ",")) a b s.0 refl s.1)
    (bind_is _ _ b (codes_are m head (Sign (codes ",")) (Sign (codes ")")) h.heads comma_paren (c ∷ []) e cs b f us (omega (arith, d)) (omega (arith, d)) v o)
    (pure_is _ _ us refl))))

op_no_comma : (op : BinOp) → same_kind (op_kind op) (Sign (codes ",")) ≡ false
op_no_comma ops.Add = refl
op_no_comma ops.Sub = refl
op_no_comma ops.Mul = refl
op_no_comma ops.And = refl
op_no_comma ops.Or = refl
op_no_comma ops.Union = refl
op_no_comma ops.Inter = refl
op_no_comma ops.Diff = refl
op_no_comma ops.Subset = refl
op_no_comma ops.Implies = refl
op_no_comma (ops.Compare Eq) = refl
op_no_comma (ops.Compare Ne) = refl
op_no_comma (ops.Compare Lt) = refl
op_no_comma (ops.Compare Le) = refl
op_no_comma (ops.Compare Gt) = refl
op_no_comma (ops.Compare Ge) = refl

or_true : (a b : Bool) → b ≡ true → (a || b) ≡ true
or_true true b e = refl
or_true false b e = e

operation_is : (may : Bool) (op : BinOp) (ts us : List Token) → may ≡ true → HasOperation language_2 op → Next (op_kind op) ts us →
    at (an_operation may) ts ≡ Some (op, us)
unfolding at
operation_is may op ts us e had (p, w) = ap (at (an_operation may)) w ∙ ap (λ b. before us (cond b (op_of language_2 (op_kind op)) None)) e ∙
    ap (λ o. before us o) (op_again language_2 op had)

-- an operation behind the first code
operated : (head part : Reader CodeTree) (m n : ℕ) → Heads m n head part → (op : BinOp) → HasOperation language_2 op →
    (c d : CodeTree) (ts a b us : List Token) → code_depth c ≤ n →
    SpellsCode c ts a → Next (op_kind op) a b →
    operated_of part c (operation_of op) b ≡ Ok (d, us) → inside_of head part m n ts ≡ Ok (single d, us)
unfolding behind_of
operated head part m n h op had c d ts a b us l w o x =
    not_worded head part m n c ts a w (bind_is _ _ ts (h.heads.reads c ts a (omega (arith, l, h.deeper)) w)
    (first_not _ _ _ a (at_not (Sign (codes ",")) (op_kind op) a b o.0 (op_no_comma op) o.1)
    (first_is _ _ _ a (operation_is _ op a b (or_true (nat_eq m n) (nat_le (code_depth c) n) (le-leb (code_depth c) n l)) had o)
    (bind_is _ _ b x (pure_is _ _ us refl)))))

two_is : (head part : Reader CodeTree) (m n : ℕ) → Heads m n head part → (op : BinOp) → HasOperation language_2 op → (two : Two) →
    operation_of op ≡ operations.Two two →
    (c d : CodeTree) (ts a b e us : List Token) → code_depth c ≤ n → code_depth d ≤ n →
    SpellsCode c ts a → Next (op_kind op) a b → SpellsCode d b e → Next (Sign (codes ")")) e us →
    inside_of head part m n ts ≡ Ok (single (two_tree two c d), us)
unfolding operated_of
two_is head part m n h op had two f c d ts a b e us l k w o v r =
    operated head part m n h op had c (two_tree two c d) ts a b us l w o
    (ap (λ z. operated_of part c z b) f ∙ bind_is _ _ b (h.parts.reads d b e k v) (bind_is _ _ e (next_is _ e us refl r) (pure_is _ _ us refl)))

many_is : (head part : Reader CodeTree) (m n : ℕ) → Heads m n head part → (op : BinOp) → HasOperation language_2 op → (many : Many) →
    operation_of op ≡ operations.Many many →
    op_kind op ≡ many_kind many → (cs : CodeTrees) (ts us : List Token) → 2 ≤ count cs →
    codes_depth cs ≤ n → SpellsCodes cs (many_kind many) (Sign (codes ")")) ts us → inside_of head part m n ts ≡ Ok (single (many_tree many (listed cs)), us)
unfolding operated_of
many_is head part m n h op had many f g no_codes ts us l d w = absurd w
many_is head part m n h op had many f g (code_more c no_codes) ts us l d w = absurd (omega (arith, l))
many_is head part m n h op had many f g (code_more c (code_more e cs)) ts us l d (a, w, (b, s, (i, v, o))) =
    operated head part m n h op had c (many_tree many (c ∷ e ∷ listed cs)) ts a b us (omega (arith, d)) w (subst (λ z. Next z a b) (sym g) s)
    (ap (λ z. operated_of part c z b) f
    ∙ bind_is _ _ b (codes_are n part (many_kind many) (Sign (codes ")")) h.parts (many_paren many) (c ∷ []) e cs b i us (omega (arith, d)) (omega (arith, d)) v
    o) (pure_is _ _ us refl))

no_operation : (may : Bool) (ts us : List Token) (p : Place) → First p (Word (codes "divides")) ts us → at (an_operation may) ts ≡ None
unfolding at op_of
no_operation may ts us p w = ap (at (an_operation may)) w ∙ ap (λ o. before us o) (same_both may None)

divisor_is : (n : ℕ) (k : ℤ) (p : Place) → 1 ≤ n → pos 1 ≤ℤ k → divisor_of n (Some k) (Some p) ≡ Some k
divisor_is n k p l h = ap (λ b. cond b (cond (nat_le 1 n) (Some k) None) None) (le_yes (pos 1) k h) ∙ ap (λ b. cond b (Some k) None) (le-leb 1 n l)

divides_is : (n : ℕ) (k : ℤ) (ts us : List Token) → 1 ≤ n → pos 1 ≤ℤ k → Next (Word (codes "divides")) ts us → at (divides_by n (code_lit k)) ts ≡ Some (k, us)
unfolding at divides_by
divides_is n k ts us l h (p, w) = ap (at (divides_by n (code_lit k))) w ∙ ap (λ o. before us o) (divisor_is n k p l h)

at_least_none : (k : ℤ) → pos 1 ≤ℤ k → pos 0 ≤ℤ k
at_least_none (pos n) h = le_z_yes (subst T (sym (le-leb 0 n (omega arith))) tt)
at_least_none (negsuc n) h = absurd h.le

multiple_is : (head part : Reader CodeTree) (m n : ℕ) → Heads m n head part → (k : ℤ) (d : CodeTree) (ts a b e us : List Token) → code_depth d ≤ n →
    SpellsDivisor k ts a → Next (Word (codes "divides")) a b → SpellsCode d b e →
    Next (Sign (codes ")")) e us → inside_of head part m n ts ≡ Ok (single (code_divides k d), us)
unfolding behind_of
multiple_is head part m n h k d ts a b e us l i o v r =
    let lit : SpellsCode (code_lit k) ts a = inl (i.0, (i.1.0, at_least_none k i.1.1)) in
    not_worded head part m n (code_lit k) ts a lit (bind_is _ _ ts (h.heads.reads (code_lit k) ts a (omega (arith, l, h.deeper, depth_one d)) lit)
    (first_not _ _ _ a (at_not (Sign (codes ",")) (Word (codes "divides")) a b o.0 refl o.1)
    (first_not _ _ _ a (no_operation _ a b o.0 o.1)
    (first_is _ _ _ a (divides_is n k a b (omega (arith, l, depth_one d)) i.1.1 o)
    (bind_is _ _ b (h.parts.reads d b e l v) (bind_is _ _ e (next_is _ e us refl r) (pure_is _ _ us refl)))))))

-- the forms in parentheses, but for the tuple
abbrev pub IsBracketed : CodeTree → Type 0
IsBracketed (code_sum cs) = Unit {0}
IsBracketed (code_sub c d) = Unit {0}
IsBracketed (code_mul c d) = Unit {0}
IsBracketed (code_compare o c d) = Unit {0}
IsBracketed (code_divides k c) = Unit {0}
IsBracketed (code_and c d) = Unit {0}
IsBracketed (code_or c d) = Unit {0}
IsBracketed (code_union cs) = Unit {0}
IsBracketed (code_inter cs) = Unit {0}
IsBracketed (code_diff c d) = Unit {0}
IsBracketed (code_subset c d) = Unit {0}
IsBracketed (code_if t c d) = Unit {0}
IsBracketed (code_let x n c d) = Unit {0}
IsBracketed c = ⊥

-- what stands behind the parenthesis is read as this code
pub record Inside (head part : Reader CodeTree) (m n : ℕ) (c : CodeTree) (ts us : List Token) : Type 0 where
  pub behind : List Token
  pub opened : Next (Sign (codes "(")) ts behind
  pub reads : inside_of head part m n behind ≡ Ok (single c, us)

pub bracketed : (head part : Reader CodeTree) (m n : ℕ) → Heads m n head part → (c : CodeTree) (ts us : List Token) → IsBracketed c → code_depth c ≤ suc n →
    SpellsCode c ts us → Inside head part m n c ts us
unfolding inside_of if_of let_of
bracketed head part m n h (code_sum cs) ts us i d (l, (a, o, w)) =
    record {
      behind = a;
      opened = o;
      reads = many_is head part m n h ops.Add tt manies.Sum refl refl cs a us l (omega (arith, d)) w ∙
          ap (λ z. Ok (single (code_sum z), us)) (listed_again cs);
    }
bracketed head part m n h (code_union cs) ts us i d (l, (a, o, w)) =
    record {
      behind = a;
      opened = o;
      reads = many_is head part m n h ops.Union tt manies.Union refl refl cs a us l (omega (arith, d)) w ∙
          ap (λ z. Ok (single (code_union z), us)) (listed_again cs);
    }
bracketed head part m n h (code_inter cs) ts us i d (l, (a, o, w)) =
    record {
      behind = a;
      opened = o;
      reads = many_is head part m n h ops.Inter tt manies.Inter refl refl cs a us l (omega (arith, d)) w ∙
          ap (λ z. Ok (single (code_inter z), us)) (listed_again cs);
    }
bracketed head part m n h (code_sub c e) ts us i d (a, o, (b, w, (f, s, (g, v, r)))) =
    record { behind = a; opened = o; reads = two_is head part m n h ops.Sub tt twos.Sub refl c e a b f g us (omega (arith, d)) (omega (arith, d)) w s v r }
bracketed head part m n h (code_mul c e) ts us i d (a, o, (b, w, (f, s, (g, v, r)))) =
    record { behind = a; opened = o; reads = two_is head part m n h ops.Mul tt twos.Mul refl c e a b f g us (omega (arith, d)) (omega (arith, d)) w s v r }
bracketed head part m n h (code_diff c e) ts us i d (a, o, (b, w, (f, s, (g, v, r)))) =
    record { behind = a; opened = o; reads = two_is head part m n h ops.Diff tt twos.Diff refl c e a b f g us (omega (arith, d)) (omega (arith, d)) w s v r }
bracketed head part m n h (code_subset c e) ts us i d (a, o, (b, w, (f, s, (g, v, r)))) =
    record {
      behind = a;
      opened = o;
      reads = two_is head part m n h ops.Subset tt twos.Subset refl c e a b f g us (omega (arith, d)) (omega (arith, d)) w s v r;
    }
bracketed head part m n h (code_and c e) ts us i d (a, o, (b, w, (f, s, (g, v, r)))) =
    record { behind = a; opened = o; reads = two_is head part m n h ops.And tt twos.And refl c e a b f g us (omega (arith, d)) (omega (arith, d)) w s v r }
bracketed head part m n h (code_or c e) ts us i d (a, o, (b, w, (f, s, (g, v, r)))) =
    record { behind = a; opened = o; reads = two_is head part m n h ops.Or tt twos.Or refl c e a b f g us (omega (arith, d)) (omega (arith, d)) w s v r }
bracketed head part m n h (code_compare order c e) ts us i d (a, o, (b, w, (f, s, (g, v, r)))) =
    record {
      behind = a;
      opened = o;
      reads =
          two_is head part m n h (ops.Compare order) tt (twos.Compare order) refl c e a b f g us (omega (arith, d)) (omega (arith, d)) w s v r;
    }
bracketed head part m n h (code_divides k e) ts us i d (a, o, (b, w, (f, s, (g, v, r)))) =
    record { behind = a; opened = o; reads = multiple_is head part m n h k e a b f g us (omega (arith, d)) w s v r }
bracketed head part m n h (code_if t c e) ts us i d (a, o, (b, w, (f, x, (g, y, (j, z, (k, u, (l, v, s))))))) =
    record {
      behind = a;
      opened = o;
      reads =
          deep_is _ _ _ _ a (omega (arith, d, depth_one c)) (at_is _ a b w.0 refl w.1)
          (bind_is _ _ b (bind_is _ _ b (h.parts.reads t b f (omega (arith, d)) x)
          (bind_is _ _ f (next_is _ f g refl y) (bind_is _ _ g (h.parts.reads c g j (omega (arith, d)) z) (bind_is _ _ j (next_is _ j k refl u)
          (bind_is _ _ k (h.parts.reads e k l (omega (arith, d)) v) (bind_is _ _ l (next_is _ l us refl s) (pure_is _ _ us refl))))))) (pure_is _ _ us refl));
    }
bracketed head part m n h (code_let q i c e) ts us ok d (a, o, (b, w, (f, x, (g, y, (j, z, (k, u, (l, v, s))))))) =
    record {
      behind = a;
      opened = o;
      reads =
          deep_not _ _ _ _ a (at_not _ (Word (codes "let")) a b w.0 refl w.1) (deep_is _ _ _ _ a (omega (arith, d, depth_one c)) (at_is _ a b w.0 refl w.1)
          (bind_is _ _ b (bind_is _ _ b (vars_are q i b f x)
          (bind_is _ _ f (next_is _ f g refl y) (bind_is _ _ g (h.parts.reads c g j (omega (arith, d)) z) (bind_is _ _ j (next_is _ j k refl u)
          (bind_is _ _ k (h.parts.reads e k l (omega (arith, d)) v) (bind_is _ _ l (next_is _ l us refl s) (pure_is _ _ us refl))))))) (pure_is _ _ us refl)));
    }
bracketed head part m n h (code_lit k) ts us i d w = absurd i
bracketed head part m n h (code_truth b) ts us i d w = absurd i
bracketed head part m n h (code_var x) ts us i d w = absurd i
bracketed head part m n h (code_set_of cs) ts us i d w = absurd i
bracketed head part m n h (code_tuple cs) ts us i d w = absurd i
bracketed head part m n h (code_neg c) ts us i d w = absurd i
bracketed head part m n h (code_div c k) ts us i d w = absurd i
bracketed head part m n h (code_mod c k) ts us i d w = absurd i
bracketed head part m n h (code_min cs) ts us i d w = absurd i
bracketed head part m n h (code_max cs) ts us i d w = absurd i
bracketed head part m n h (code_not c) ts us i d w = absurd i
bracketed head part m n h (code_card c) ts us i d w = absurd i
bracketed head part m n h (code_slice c e f) ts us i d w = absurd i
bracketed head part m n h (code_fresh c e) ts us i d w = absurd i
bracketed head part m n h (code_solve x arms) ts us i d w = absurd i

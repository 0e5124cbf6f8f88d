-- What is read is spelled by the tokens that it took.
use Rattle.std.proofs.Common.{◌≡◌, inl, inr, ℕ, zero, suc, ◌+◌, ◌-◌, ◌≤◌, ◌||◌, Bool, true, false, List, [], ◌∷◌, ◌++◌, length, Option, Some, None, nat_le, refl, sym, subst, ◌∙◌, append_assoc, append-nil, arith}
use Rattle.std.specs.Prelude.{ℤ, pos, negsuc, neg_ℤ, ◌≤ℤ◌, nat_eq, codes}
use Rattle.std.proofs.lemmas.Bool.{eqb-true, leb-true}
use Rattle.cf_lex.specs.declared.token.Token.{Token}
use Rattle.cf_lex.specs.declared.token.TokenKind.{TokenKind}
use Rattle.cf_lex.specs.declared.token.TokenKind.TheVariants.{Word, Sign}
use Rattle.cf_tree.specs.declared.base.Place.{Place}
use Rattle.cf_tree.specs.declared.raw.BinOp.{BinOp}
use Rattle.cf_tree.specs.declared.raw.BinOp.TheVariants as ops
use Rattle.cf_tree.specs.CodeTree.{CodeTree, code_lit, code_truth, code_var, code_set_of, code_tuple, code_sum, code_sub, code_mul, code_neg, code_div, code_mod, code_min, code_max, code_compare, code_divides, code_and, code_or, code_not, code_union, code_inter, code_diff, code_subset, code_card, code_slice, code_fresh, code_if, code_let, code_solve, ItemTree, ArmTree, codes_of, items_of, arms_of, count, code_depth, codes_depth, item_depth, items_depth, arm_depth, arms_depth}
use Rattle.cf_tree.specs.Spelled.{IsNoTuple}
use Rattle.cf_reader.specs.Tokens.{Next, FirstLiteral, Others, Several}
use Rattle.cf_reader.specs.Readers.{Got, Reader, Test, before, is, at, pure, refuse, must, bind, first, several_of, snoc}
use Rattle.cf_reader.specs.Operations.{op_kind}
use Rattle.cf_reader.proofs.OperationLaws.{HasOperation}
use Rattle.cf_tree.specs.declared.base.Edition.TheVariants.{Two as language_2}
use Rattle.cf_reader.proofs.Yields.{Yields, faults, Took, pure_yields, refuse_yields, widen, bind_yields, must_yields, first_yields, deep_yields, added_snoc, all_added, took_next, took_literal, others_yields, several_yields}
use Rattle.cf_reader.proofs.Exact.{at_is}
use Rattle.cf_reader.proofs.KindLaws.{took_truth}
use Rattle.cf_target.specs.declared.form.Unary.{Unary}
use Rattle.cf_target.specs.declared.form.Unary.TheVariants.{Neg, Not, Card}
use Rattle.cf_target.specs.declared.form.Division.{Division}
use Rattle.cf_target.specs.declared.form.Division.TheVariants.{Div, Mod}
use Rattle.cf_target.specs.declared.form.Extreme.{Extreme}
use Rattle.cf_target.specs.declared.form.Extreme.TheVariants.{Min, Max}
use Rattle.cf_target.specs.declared.form.Step.{Step}
use Rattle.cf_target.specs.declared.form.Step.TheVariants.{Let, Need}
use Rattle.cf_target.specs.declared.form.Many.{Many}
use Rattle.cf_target.specs.declared.form.Many.TheVariants as manies
use Rattle.cf_target.specs.declared.form.Two.{Two}
use Rattle.cf_target.specs.declared.form.Two.TheVariants as twos
use Rattle.cf_target.specs.Spelling.{SpellsVariable, SpellsMoreVariables, SpellsVariables, SpellsNumber, SpellsDivisor, SpellsNumeral, SpellsBounds, Pair, SpellsCode, SpellsCodes, SpellsOthers, SpellsArms, SpellsArm, SpellsItems, SpellsItem, SpellsGives}
use Rattle.cf_target.specs.Reading.{unary_tree, division_tree, extreme_tree, step_tree, operation_of, many_kind, many_tree, two_tree, a_numeral, variables_of, all_variables, vars_of, bounds_of, list_of, elements_of, one_of, divided_of, listed_of, slice_of, fresh_of, if_of, let_of, operated_of, InsideTree, several, single, behind_of, inside_of, whole, all_given, item_of, steps_of, all_steps, gives_of, arm_from, all_arms, solve_of, forms_of, unless_zero, word_of, negative_of, step, read}
use Rattle.cf_target.proofs.FoundWords.{unary_kind, division_kind, extreme_kind, step_kind, took_unary, took_division, took_extreme, took_step, took_variable, took_early, took_that, took_comma, took_numeral, took_operation, DividesFound, took_divides}

-- a code of depth at most n
pub record Found (n : ℕ) (ts : List Token) (c : CodeTree) (us : List Token) : Type 0 where
  pub deep : code_depth c ≤ n
  pub spelled : SpellsCode c ts us

unfoldable pub Finds : Reader CodeTree → ℕ → Type 0
Finds part n = (ts : List Token) → Yields (Found n ts) (part ts)

-- variables and bounds

MoreVariables : ℕ → List Token → ℕ → List Token → Type 0
MoreVariables last ts x us = (n : ℕ) × (x ≡ last + n) × SpellsMoreVariables (suc last) n ts us

one_more : (last : ℕ) (ts a b : List Token) (x y : ℕ) (us : List Token) → Next (Sign (codes ",")) ts a → SpellsVariable x a b → x ≡ last + 1 →
    MoreVariables x b y us → MoreVariables last ts y us
unfolding MoreVariables
one_more last ts a b x y us c v e' (n, f, w) =
    let e : x ≡ suc last = omega (arith, e') in
    (suc n, omega (arith, e, f), (a, c, (b, subst (λ z. SpellsVariable z a b) e v, subst (λ z. SpellsMoreVariables (suc z) n b us) e w)))

no_more : (last : ℕ) (ts a : List Token) → Next (Sign (codes ")")) ts a → MoreVariables last ts last a
unfolding MoreVariables
no_more last ts a w = (0, omega arith, w)

variables_yields : (k last : ℕ) (ts : List Token) → Yields (MoreVariables last ts) (variables_of k last ts)
unfolding variables_of
variables_yields zero last ts = faults 0
variables_yields (suc k) last ts =
    first_yields _ _ _ ts
    (λ p a c. bind_yields _ _ a (must_yields _ a) (λ x b v. let h = took_that (last + 1) a b x v in
    widen (λ y us w. one_more last ts a b x y us (took_comma last ts a p c) h.0 h.1 w) (variables_yields k x b)))
    (bind_yields _ _ ts (must_yields _ ts) (λ p a c. pure_yields last a (no_more last ts a (took_next _ ts a p c))))

counted : (x y last n : ℕ) → y ≡ suc x → last ≡ y + n → last - x + 1 ≡ suc (suc n)
counted x y last n e f = omega (arith, e, f)

tuple_of_variables : (ts a b c d us : List Token) (x y last : ℕ) → Next (Sign (codes "(")) ts a → SpellsVariable x a b → Next (Sign (codes ",")) b c →
    SpellsVariable y c d → y ≡ x + 1 → MoreVariables y d last us →
    SpellsVariables x (last - x + 1) ts us
unfolding MoreVariables
tuple_of_variables ts a b c d us x y last o v m w e' (n, f, r) =
    let e : y ≡ suc x = omega (arith, e') in
    subst (λ z. SpellsVariables x z ts us) (sym (counted x y last n e f))
    (a, o, (b, v, (c, m, (d, subst (λ z. SpellsVariable z c d) e w, subst (λ z. SpellsMoreVariables (suc z) n d us) e r))))

pub vars_yields : (ts : List Token) → Yields (λ xs us. SpellsVariables xs.0 xs.1 ts us) (vars_of ts)
unfolding vars_of all_variables
vars_yields ts =
    first_yields _ _ _ ts
    (λ p a o. bind_yields _ _ a (must_yields _ a)
    (λ x b v. bind_yields _ _ b (must_yields _ b) (λ q c m. bind_yields _ _ c (must_yields _ c) (λ y d w. let h = took_that (x + 1) c d y w in
    bind_yields _ _ d (variables_yields (length d) y d) (λ last us r.
    pure_yields _ us (tuple_of_variables ts a b c d us x y last (took_next _ ts a p o) (took_early a b x v) (took_next _ b c q m) h.0 h.1 r))))))
    (bind_yields _ _ ts (must_yields _ ts) (λ x us v. pure_yields (x, 1) us (took_variable ts us x v)))

some_bounds : (ts us : List Token) (ns new : List ℕ) → ns ≡ new → Several SpellsNumeral (Sign (codes ",")) (Sign (codes "]")) new ts us → SpellsBounds ns ts us
some_bounds ts us ns [] e w = absurd w
some_bounds ts us ns (n ∷ new) e w = subst (λ z. SpellsBounds z ts us) (sym e) w

pub bounds_yields : (ts : List Token) → Yields (λ ns us. SpellsBounds ns ts us) (bounds_of ts)
unfolding bounds_of
bounds_yields ts =
    first_yields _ _ _ ts (λ p a c. pure_yields [] a (took_next _ ts a p c))
    (widen (λ ns us w. some_bounds ts us ns w.0 (w.1 ∙ all_added w.0) w.2)
    (several_yields snoc (must a_numeral) SpellsNumeral (Sign (codes ",")) (Sign (codes "]"))
    (λ ts. widen (λ n us w. took_numeral ts us n w) (must_yields a_numeral ts)) [] ts))

-- lists of codes

pub record OthersFound (n : ℕ) (separator close : TokenKind) (ts : List Token) (cs : List CodeTree) (us : List Token) : Type 0 where
  pub deep : codes_depth (codes_of cs) ≤ n
  pub spelled : SpellsOthers (codes_of cs) separator close ts us

others_found : (n : ℕ) (separator close : TokenKind) (cs : List CodeTree) (ts us : List Token) → Others (λ c ts us. Found n ts c us) separator close cs ts us →
    OthersFound n separator close ts cs us
others_found n separator close [] ts us w = record { deep = omega arith; spelled = w }
others_found n separator close (c ∷ cs) ts us (a, s, (b, f, o)) =
    let h = others_found n separator close cs b us o in record { deep = omega (arith, f.deep, h.deep); spelled = (a, s, (b, f.spelled, h.spelled)) }

-- code { separator code } close
pub record ListFound (n : ℕ) (separator close : TokenKind) (ts : List Token) (cs : List CodeTree) (us : List Token) : Type 0 where
  pub head : CodeTree
  pub others : List CodeTree
  pub mid : List Token
  pub all : cs ≡ head ∷ others
  pub first_found : Found n ts head mid
  pub more : OthersFound n separator close mid others us

list_found : (n : ℕ) (separator close : TokenKind) (ts us : List Token) (cs new : List CodeTree) → cs ≡ new →
    Several (λ c ts us. Found n ts c us) separator close new ts us → ListFound n separator close ts cs us
list_found n separator close ts us cs [] e w = absurd w
list_found n separator close ts us cs (c ∷ new) e (a, f, o) =
    record { head = c; others = new; mid = a; all = e; first_found = f; more = others_found n separator close new a us o }

pub list_yields : (part : Reader CodeTree) (n : ℕ) → Finds part n → (close : TokenKind) (ts : List Token) →
    Yields (ListFound n (Sign (codes ",")) close ts) (list_of part close ts)
unfolding list_of Finds
list_yields part n h close ts =
    widen (λ cs us w. list_found n (Sign (codes ",")) close ts us cs w.0 (w.1 ∙ all_added w.0) w.2)
    (several_yields snoc part (λ c ts us. Found n ts c us) (Sign (codes ",")) close h [] ts)

-- the list, with its separators and its end
list_spelled : (n : ℕ) (separator close : TokenKind) (ts us : List Token) (cs : List CodeTree) → ListFound n separator close ts cs us →
    (codes_depth (codes_of cs) ≤ n) × SpellsCodes (codes_of cs) separator close ts us
list_spelled n separator close ts us cs l =
    subst (λ z. (codes_depth (codes_of z) ≤ n) × SpellsCodes (codes_of z) separator close ts us) (sym l.all)
    (omega (arith, l.first_found.deep, l.more.deep), (l.mid, l.first_found.spelled, l.more.spelled))

set_found : (n : ℕ) (start ts us : List Token) (cs : List CodeTree) → Next (Sign (codes "{")) start ts →
    ListFound n (Sign (codes ",")) (Sign (codes "}")) ts cs us → Found (suc n) start (code_set_of (codes_of cs)) us
set_found n start ts us cs o l =
    subst (λ z. Found (suc n) start (code_set_of (codes_of z)) us) (sym l.all)
    (record { deep = omega (arith, l.first_found.deep, l.more.deep); spelled = (ts, o, (l.mid, l.first_found.spelled, l.more.spelled)) })

elements_yields : (part : Reader CodeTree) (n : ℕ) → Finds part n → (start ts : List Token) → Next (Sign (codes "{")) start ts →
    Yields (λ cs us. Found (suc n) start (code_set_of (codes_of cs)) us) (elements_of part ts)
unfolding elements_of
elements_yields part n h start ts o =
    first_yields _ _ _ ts (λ p a c. pure_yields [] a (record { deep = omega arith; spelled = (ts, o, took_next _ ts a p c) }))
    (widen (λ cs us l. set_found n start ts us cs o l) (list_yields part n h (Sign (codes "}")) ts))

-- forms that begin with a word

one_made : (n : ℕ) (u : Unary) (c : CodeTree) (start ts a b us : List Token) → Next (unary_kind u) start ts → Next (Sign (codes "(")) ts a → Found n a c b →
    Next (Sign (codes ")")) b us → Found (suc n) start (unary_tree u c) us
one_made n Neg c start ts a b us w o f e = record { deep = omega (arith, f.deep); spelled = (ts, w, (a, o, (b, f.spelled, e))) }
one_made n Not c start ts a b us w o f e = record { deep = omega (arith, f.deep); spelled = (ts, w, (a, o, (b, f.spelled, e))) }
one_made n Card c start ts a b us w o f e = record { deep = omega (arith, f.deep); spelled = (ts, w, (a, o, (b, f.spelled, e))) }

one_yields : (part : Reader CodeTree) (n : ℕ) → Finds part n → (start ts : List Token) (u : Unary) → Next (unary_kind u) start ts →
    Yields (λ c us. Found (suc n) start (unary_tree u c) us) (one_of part ts)
unfolding one_of Finds
one_yields part n h start ts u w =
    bind_yields _ _ ts (must_yields _ ts) (λ p a o. bind_yields _ _ a (h a) (λ c b f. bind_yields _ _ b (must_yields _ b) (λ q us e.
    pure_yields c us (one_made n u c start ts a b us w (took_next _ ts a p o) f (took_next _ b us q e)))))

divided_made : (n : ℕ) (d : Division) (c : CodeTree) (k : ℤ) (q : Place) (start ts a b e f us : List Token) → Next (division_kind d) start ts →
    Next (Sign (codes "(")) ts a → Found n a c b → Next (Sign (codes ",")) b e →
    FirstLiteral (pos 1) q k e f → Next (Sign (codes ")")) f us → Found (suc n) start (division_tree d c k) us
divided_made n Div c k q start ts a b e f us w o g m l r =
    record { deep = omega (arith, g.deep); spelled = (ts, w, (a, o, (b, g.spelled, (e, m, (f, (q, l), r))))) }
divided_made n Mod c k q start ts a b e f us w o g m l r =
    record { deep = omega (arith, g.deep); spelled = (ts, w, (a, o, (b, g.spelled, (e, m, (f, (q, l), r))))) }

divided_yields : (part : Reader CodeTree) (n : ℕ) → Finds part n → (start ts : List Token) (d : Division) → Next (division_kind d) start ts →
    Yields (λ x us. Found (suc n) start (division_tree d x.0 x.1) us) (divided_of part ts)
unfolding divided_of Finds
divided_yields part n h start ts d w =
    bind_yields _ _ ts (must_yields _ ts) (λ p a o. bind_yields _ _ a (h a)
    (λ c b g. bind_yields _ _ b (must_yields _ b) (λ q e m. bind_yields _ _ e (must_yields _ e) (λ k f l. bind_yields _ _ f (must_yields _ f) (λ r us s.
    pure_yields (c, k.1) us (divided_made n d c k.1 k.0 start ts a b e f us w (took_next _ ts a p o) g (took_next _ b e q m) (took_literal (pos 1) e f k l)
    (took_next _ f us r s)))))))

listed_made : (n : ℕ) (x : Extreme) (cs : List CodeTree) (start ts a us : List Token) → Next (extreme_kind x) start ts → Next (Sign (codes "(")) ts a →
    ListFound n (Sign (codes ",")) (Sign (codes ")")) a cs us →
    Found (suc n) start (extreme_tree x cs) us
listed_made n Min cs start ts a us w o l = let h = list_spelled n _ _ a us cs l in record { deep = omega (arith, h.0); spelled = (ts, w, (a, o, h.1)) }
listed_made n Max cs start ts a us w o l = let h = list_spelled n _ _ a us cs l in record { deep = omega (arith, h.0); spelled = (ts, w, (a, o, h.1)) }

listed_yields : (part : Reader CodeTree) (n : ℕ) → Finds part n → (start ts : List Token) (x : Extreme) → Next (extreme_kind x) start ts →
    Yields (λ cs us. Found (suc n) start (extreme_tree x cs) us) (listed_of part ts)
unfolding listed_of
listed_yields part n h start ts x w =
    bind_yields _ _ ts (must_yields _ ts) (λ p a o. widen (λ cs us l. listed_made n x cs start ts a us w (took_next _ ts a p o) l)
    (list_yields part n h (Sign (codes ")")) a))

slice_yields : (part : Reader CodeTree) (n : ℕ) → Finds part n → (start ts : List Token) → Next (Word (codes "slice")) start ts →
    Yields (λ c us. Found (suc n) start c us) (slice_of part ts)
unfolding slice_of Finds
slice_yields part n h start ts w =
    bind_yields _ _ ts (must_yields _ ts) (λ p a o. bind_yields _ _ a (h a)
    (λ c b f. bind_yields _ _ b (must_yields _ b) (λ q d m. bind_yields _ _ d (h d) (λ e g k. bind_yields _ _ g (must_yields _ g) (λ r i s.
    bind_yields _ _ i (h i) (λ j l t. bind_yields _ _ l (must_yields _ l) (λ u us v.
    pure_yields _ us (record {
      deep = omega (arith, f.deep, k.deep, t.deep);
      spelled = (
        ts,
        w,
        (
          a,
          took_next _ ts a p o,
          (b, f.spelled, (d, took_next _ b d q m, (g, k.spelled, (i, took_next _ g i r s, (l, t.spelled, took_next _ l us u v))))),
        ),
      );
    }))))))))

fresh_yields : (part : Reader CodeTree) (n : ℕ) → Finds part n → (start ts : List Token) → Next (Word (codes "fresh")) start ts →
    Yields (λ c us. Found (suc n) start c us) (fresh_of part ts)
unfolding fresh_of Finds
fresh_yields part n h start ts w =
    bind_yields _ _ ts (must_yields _ ts) (λ p a o. bind_yields _ _ a (h a)
    (λ c b f. bind_yields _ _ b (must_yields _ b) (λ q d m. bind_yields _ _ d (h d) (λ e g k. bind_yields _ _ g (must_yields _ g) (λ r us s.
    pure_yields _ us (record {
      deep = omega (arith, f.deep, k.deep);
      spelled = (ts, w, (a, took_next _ ts a p o, (b, f.spelled, (d, took_next _ b d q m, (g, k.spelled, took_next _ g us r s)))));
    }))))))

forms_yields : (part : Reader CodeTree) (n : ℕ) → Finds part n → (ts : List Token) → Yields (Found (suc n) ts) (forms_of part ts)
unfolding forms_of
forms_yields part n h ts =
    first_yields _ _ _ ts (λ u a w. bind_yields _ _ a (one_yields part n h ts a u (took_unary ts a u w)) (λ c us f. pure_yields _ us f))
    (first_yields _ _ _ ts (λ d a w. bind_yields _ _ a (divided_yields part n h ts a d (took_division ts a d w)) (λ x us f. pure_yields _ us f))
    (first_yields _ _ _ ts (λ x a w. bind_yields _ _ a (listed_yields part n h ts a x (took_extreme ts a x w)) (λ cs us f. pure_yields _ us f))
    (first_yields _ _ _ ts (λ p a w. slice_yields part n h ts a (took_next _ ts a p w))
    (first_yields _ _ _ ts (λ p a w. fresh_yields part n h ts a (took_next _ ts a p w))
    (refuse_yields ts)))))

-- what stands in parentheses

abbrev One : ℕ → List Token → CodeTree → List Token → Type 0
One n start c us = Found n start c us × IsNoTuple c

-- behind "(": a list of codes of depth at most m, or a code that is no tuple, with parts of depth at most n
pub InsideFound : ℕ → ℕ → List Token → InsideTree → List Token → Type 0
InsideFound m n ts (several cs) us = (codes_depth (codes_of cs) ≤ m) × (2 ≤ count (codes_of cs)) ×
    SpellsCodes (codes_of cs) (Sign (codes ",")) (Sign (codes ")")) ts us
InsideFound m n ts (single c) us = (start : List Token) → Next (Sign (codes "(")) start ts → One (suc n) start c us

if_yields : (part : Reader CodeTree) (n : ℕ) → Finds part n → (ts b : List Token) → Next (Word (codes "if")) ts b →
    Yields (λ c us. InsideFound n n ts (single c) us) (if_of part b)
unfolding if_of Finds InsideFound
if_yields part n h ts b w =
    bind_yields _ _ b (h b) (λ t d f. bind_yields _ _ d (must_yields _ d)
    (λ p e o. bind_yields _ _ e (h e) (λ c g k. bind_yields _ _ g (must_yields _ g)
    (λ q i m. bind_yields _ _ i (h i) (λ j l r. bind_yields _ _ l (must_yields _ l) (λ s us u.
    pure_yields _ us (λ start v. (
      record {
        deep = omega (arith, f.deep, k.deep, r.deep);
        spelled = (ts, v, (b, w, (d, f.spelled, (e, took_next _ d e p o, (g, k.spelled, (i, took_next _ g i q m, (l, r.spelled, took_next _ l us s u)))))));
      },
      tt,
    ))))))))

let_yields : (part : Reader CodeTree) (n : ℕ) → Finds part n → (ts b : List Token) → Next (Word (codes "let")) ts b →
    Yields (λ c us. InsideFound n n ts (single c) us) (let_of part b)
unfolding let_of Finds InsideFound
let_yields part n h ts b w =
    bind_yields _ _ b (vars_yields b) (λ xs d f. bind_yields _ _ d (must_yields _ d)
    (λ p e o. bind_yields _ _ e (h e) (λ c g k. bind_yields _ _ g (must_yields _ g)
    (λ q i m. bind_yields _ _ i (h i) (λ j l r. bind_yields _ _ l (must_yields _ l) (λ s us u.
    pure_yields _ us (λ start v. (
      record {
        deep = omega (arith, k.deep, r.deep);
        spelled = (ts, v, (b, w, (d, f, (e, took_next _ d e p o, (g, k.spelled, (i, took_next _ g i q m, (l, r.spelled, took_next _ l us s u)))))));
      },
      tt,
    ))))))))

-- an operation and the parts behind it

two_yields : (part : Reader CodeTree) (n : ℕ) → Finds part n → (c : CodeTree) (two : Two) (ts us vs : List Token) (k : TokenKind) → code_depth c ≤ n →
    SpellsCode c ts us → Next k us vs →
    ((start : List Token) (d : CodeTree) (ws : List Token) → code_depth d ≤ n → Pair (SpellsCode c) k (SpellsCode d) start ws →
    One (suc n) start (two_tree two c d) ws) →
    Yields (λ d ws. InsideFound n n ts (single d) ws) (bind part (λ d. bind (must (is (Sign (codes ")")))) (λ p. pure (two_tree two c d))) vs)
unfolding Finds InsideFound
two_yields part n h c two ts us vs k l s o made =
    bind_yields _ _ vs (h vs) (λ d ws f. bind_yields _ _ ws (must_yields _ ws)
    (λ p xs q. pure_yields _ xs (λ start v. made start d xs f.deep (ts, v, (us, s, (vs, o, (ws, f.spelled, took_next _ ws xs p q)))))))

-- parts behind the first one and a separator
record MoreFound (n : ℕ) (separator close : TokenKind) (c : CodeTree) (ts : List Token) (cs : List CodeTree) (us : List Token) : Type 0 where
  deep : codes_depth (codes_of cs) ≤ n
  long : 2 ≤ count (codes_of cs)
  spelled : SpellsCodes (codes_of cs) separator close ts us

more_found : (n : ℕ) (separator close : TokenKind) (c : CodeTree) (ts us vs ws : List Token) (cs new : List CodeTree) → cs ≡ c ∷ new → code_depth c ≤ n →
    SpellsCode c ts us → Next separator us vs →
    Several (λ c ts us. Found n ts c us) separator close new vs ws → MoreFound n separator close c ts cs ws
more_found n separator close c ts us vs ws cs [] e l s o w = absurd w
more_found n separator close c ts us vs ws cs (d ∷ new) e l s o (a, f, w) =
    let h = others_found n separator close new a ws w in
    subst (λ z. MoreFound n separator close c ts z ws) (sym e)
    (record { deep = omega (arith, l, f.deep, h.deep); long = omega arith; spelled = (us, s, (vs, o, (a, f.spelled, h.spelled))) })

more_yields : (part : Reader CodeTree) (n : ℕ) → Finds part n → (separator close : TokenKind) (c : CodeTree) (ts us vs : List Token) → code_depth c ≤ n →
    SpellsCode c ts us → Next separator us vs →
    Yields (MoreFound n separator close c ts) (several_of snoc part separator close (c ∷ []) vs)
unfolding Finds
more_yields part n h separator close c ts us vs l s o =
    widen (λ cs ws w. more_found n separator close c ts us vs ws cs w.0 (w.1 ∙ added_snoc (c ∷ []) w.0) l s o w.2)
    (several_yields snoc part (λ c ts us. Found n ts c us) separator close h (c ∷ []) vs)

many_made : (n : ℕ) (many : Many) (c : CodeTree) (ts : List Token) (cs : List CodeTree) (us start : List Token) → Next (Sign (codes "(")) start ts →
    MoreFound n (many_kind many) (Sign (codes ")")) c ts cs us → One (suc n) start (many_tree many cs) us
many_made n manies.Sum c ts cs us start o m = (record { deep = omega (arith, m.deep); spelled = (m.long, (ts, o, m.spelled)) }, tt)
many_made n manies.Union c ts cs us start o m = (record { deep = omega (arith, m.deep); spelled = (m.long, (ts, o, m.spelled)) }, tt)
many_made n manies.Inter c ts cs us start o m = (record { deep = omega (arith, m.deep); spelled = (m.long, (ts, o, m.spelled)) }, tt)

many_yields : (part : Reader CodeTree) (n : ℕ) → Finds part n → (many : Many) (c : CodeTree) (ts us vs : List Token) → code_depth c ≤ n → SpellsCode c ts us →
    Next (many_kind many) us vs →
    Yields (λ d ws. InsideFound n n ts (single d) ws)
    (bind (several_of snoc part (many_kind many) (Sign (codes ")")) (c ∷ [])) (λ cs. pure (many_tree many cs)) vs)
unfolding InsideFound
many_yields part n h many c ts us vs l s o =
    bind_yields _ _ vs (more_yields part n h (many_kind many) (Sign (codes ")")) c ts us vs l s o)
    (λ cs ws m. pure_yields _ ws (λ start v. many_made n many c ts cs ws start v m))

operated_yields : (part : Reader CodeTree) (n : ℕ) → Finds part n → (c : CodeTree) (op : BinOp) (ts us vs : List Token) → code_depth c ≤ n →
    SpellsCode c ts us → HasOperation language_2 op → Next (op_kind op) us vs →
    Yields (λ d ws. InsideFound n n ts (single d) ws) (operated_of part c (operation_of op) vs)
unfolding operated_of
operated_yields part n h c ops.Add ts us vs l s had o = many_yields part n h manies.Sum c ts us vs l s o
operated_yields part n h c ops.Union ts us vs l s had o = many_yields part n h manies.Union c ts us vs l s o
operated_yields part n h c ops.Inter ts us vs l s had o = many_yields part n h manies.Inter c ts us vs l s o
operated_yields part n h c ops.Sub ts us vs l s had o =
    two_yields part n h c twos.Sub ts us vs (op_kind ops.Sub) l s o (λ start d ws i w. (record { deep = omega (arith, l, i); spelled = w }, tt))
operated_yields part n h c ops.Mul ts us vs l s had o =
    two_yields part n h c twos.Mul ts us vs (op_kind ops.Mul) l s o (λ start d ws i w. (record { deep = omega (arith, l, i); spelled = w }, tt))
operated_yields part n h c ops.And ts us vs l s had o =
    two_yields part n h c twos.And ts us vs (op_kind ops.And) l s o (λ start d ws i w. (record { deep = omega (arith, l, i); spelled = w }, tt))
operated_yields part n h c ops.Or ts us vs l s had o =
    two_yields part n h c twos.Or ts us vs (op_kind ops.Or) l s o (λ start d ws i w. (record { deep = omega (arith, l, i); spelled = w }, tt))
operated_yields part n h c ops.Diff ts us vs l s had o =
    two_yields part n h c twos.Diff ts us vs (op_kind ops.Diff) l s o (λ start d ws i w. (record { deep = omega (arith, l, i); spelled = w }, tt))
operated_yields part n h c ops.Subset ts us vs l s had o =
    two_yields part n h c twos.Subset ts us vs (op_kind ops.Subset) l s o (λ start d ws i w. (record { deep = omega (arith, l, i); spelled = w }, tt))
operated_yields part n h c (ops.Compare order) ts us vs l s had o =
    two_yields part n h c (twos.Compare order) ts us vs (op_kind (ops.Compare order)) l s o
    (λ start d ws i w. (record { deep = omega (arith, l, i); spelled = w }, tt))
operated_yields part n h c ops.Implies ts us vs l s had o = absurd had

-- a number of at least 1 has no minus
below : (k n : ℤ) → pos 1 ≤ℤ n → k ≡ neg_ℤ n → pos 1 ≤ℤ k → ⊥
below k (pos zero) l e h = l.le
below k (pos (suc n)) l e h = (subst (λ z. pos 1 ≤ℤ z) e h).le
below k (negsuc n) l e h = l.le

divisor_found : (k : ℤ) (ts us : List Token) → pos 1 ≤ℤ k → SpellsNumber k ts us → SpellsDivisor k ts us
divisor_found k ts us h (inl (p, w)) = (p, (w.0, h))
divisor_found k ts us h (inr (n, (a, m, (p, w)), e)) = absurd (below k n w.1 e h)

divides_yields : (part : Reader CodeTree) (m n : ℕ) → Finds part n → (c : CodeTree) (k : ℤ) (ts us vs : List Token) → SpellsCode c ts us →
    DividesFound n c us k vs →
    Yields (InsideFound m n ts) (bind part (λ d. bind (must (is (Sign (codes ")")))) (λ p. pure (single (code_divides k d)))) vs)
unfolding Finds InsideFound
divides_yields part m n h c k ts us vs s d =
    bind_yields _ _ vs (h vs) (λ e ws f. bind_yields _ _ ws (must_yields _ ws) (λ p xs q. pure_yields _ xs (λ start v. (
      record {
        deep = omega (arith, f.deep);
        spelled = (
          ts,
          v,
          (
            us,
            divisor_found k ts us d.least (subst (λ z. SpellsCode z ts us) d.alone s),
            (vs, d.stands, (ws, f.spelled, took_next _ ws xs p q)),
          ),
        );
      },
      tt,
    ))))

single_found : (m n : ℕ) (ts us : List Token) (c : CodeTree) → InsideFound n n ts (single c) us → InsideFound m n ts (single c) us
unfolding InsideFound
single_found m n ts us c w = w

several_found : (m n : ℕ) (ts us : List Token) (c : CodeTree) (cs : List CodeTree) → MoreFound m (Sign (codes ",")) (Sign (codes ")")) c ts cs us →
    InsideFound m n ts (several cs) us
unfolding InsideFound
several_found m n ts us c cs w = (w.deep, w.long, w.spelled)

behind_yields : (head part : Reader CodeTree) (m n : ℕ) → Finds head m → Finds part n → (may : Bool) (c : CodeTree) (ts us : List Token) → code_depth c ≤ m →
    (may ≡ true → code_depth c ≤ n) → SpellsCode c ts us →
    Yields (InsideFound m n ts) (behind_of head part n may c us)
unfolding behind_of
behind_yields head part m n g h may c ts us l e s =
    first_yields _ _ _ us
    (λ p vs o. bind_yields _ _ vs (more_yields head m g (Sign (codes ",")) (Sign (codes ")")) c ts us vs l s (took_next _ us vs p o))
    (λ cs ws w. pure_yields (several cs) ws (several_found m n ts ws c cs w)))
    (first_yields _ _ _ us
    (λ op vs o. let t = took_operation may us vs op o in
    bind_yields _ _ vs (operated_yields part n h c op ts us vs (e t.0) s t.1 t.2) (λ d ws w. pure_yields (single d) ws (single_found m n ts ws d w)))
    (first_yields _ _ _ us
    (λ k vs o. divides_yields part m n h c k ts us vs s (took_divides n c us vs k o))
    (refuse_yields us)))

may_be : (a b : Bool) (m n d : ℕ) → (a ≡ true → m ≡ n) → (b ≡ true → d ≤ n) → d ≤ m → (a || b) ≡ true → d ≤ n
may_be true b m n d f g l e = let s : m ≡ n = f refl in omega (arith, l, s)
may_be false b m n d f g l e = g e

pub inside_yields : (head part : Reader CodeTree) (m n : ℕ) → Finds head m → Finds part n → (ts : List Token) →
    Yields (InsideFound m n ts) (inside_of head part m n ts)
unfolding inside_of Finds
inside_yields head part m n g h ts =
    deep_yields _ _ _ _ ts (λ p a w. bind_yields _ _ a (if_yields part n h ts a (took_next _ ts a p w))
    (λ c us f. pure_yields (single c) us (single_found m n ts us c f)))
    (deep_yields _ _ _ _ ts (λ p a w. bind_yields _ _ a (let_yields part n h ts a (took_next _ ts a p w))
    (λ c us f. pure_yields (single c) us (single_found m n ts us c f)))
    (bind_yields _ _ ts (g ts) (λ c us f. behind_yields head part m n g h (nat_eq m n || nat_le (code_depth c) n) c ts us f.deep
    (may_be (nat_eq m n) (nat_le (code_depth c) n) m n (code_depth c) (eqb-true m n) (leb-true (code_depth c) n) f.deep) f.spelled)))

-- arms

-- items behind those read before
StepsFound : ℕ → List ItemTree → List Token → List ItemTree → List Token → Type 0
StepsFound n done ts is us = (new : List ItemTree) × (is ≡ done ++ new) × (items_depth (items_of new) ≤ n) × SpellsItems (items_of new) ts us

-- an item behind its word
ItemFound : ℕ → Step → List Token → ItemTree → List Token → Type 0
ItemFound n s a i us = (start : List Token) → Next (step_kind s) start a → (item_depth i ≤ n) × SpellsItem i start us

item_made : (n : ℕ) (s : Step) (c : CodeTree) (a b us : List Token) → Found n a c b → Next (Sign (codes ";")) b us → ItemFound n s a (step_tree s c) us
unfolding ItemFound
item_made n Let c a b us f e = λ start w. (f.deep, (a, w, (b, f.spelled, e)))
item_made n Need c a b us f e = λ start w. (f.deep, (a, w, (b, f.spelled, e)))

item_yields : (part : Reader CodeTree) (n : ℕ) → Finds part n → (s : Step) (a : List Token) → Yields (ItemFound n s a) (item_of part s a)
unfolding item_of Finds
item_yields part n h s a =
    bind_yields _ _ a (h a) (λ c b f. bind_yields _ _ b (must_yields _ b)
    (λ p us e. pure_yields (step_tree s c) us (item_made n s c a b us f (took_next _ b us p e))))

one_step : (n : ℕ) (s : Step) (i : ItemTree) (done : List ItemTree) (ts a b : List Token) (is : List ItemTree) (us : List Token) → Next (step_kind s) ts a →
    ItemFound n s a i b →
    StepsFound n (done ++ i ∷ []) b is us → StepsFound n done ts is us
unfolding StepsFound ItemFound
one_step n s i done ts a b is us w f (new, g, l, v) =
    let d = f ts w in (i ∷ new, g ∙ append_assoc done (i ∷ []) new, omega (arith, d.0, l), (b, d.1, v))

no_steps : (n : ℕ) (done : List ItemTree) (ts a : List Token) → Next (Word (codes "give")) ts a → StepsFound n done ts done a
unfolding StepsFound
no_steps n done ts a w = ([], sym (append-nil done), omega arith, w)

steps_yields : (part : Reader CodeTree) (n : ℕ) → Finds part n → (k : ℕ) (done : List ItemTree) (ts : List Token) →
    Yields (StepsFound n done ts) (steps_of part k done ts)
unfolding steps_of
steps_yields part n h zero done ts = faults 0
steps_yields part n h (suc k) done ts =
    first_yields _ _ _ ts
    (λ s a w. bind_yields _ _ a (item_yields part n h s a)
    (λ i b f. widen (λ is us v. one_step n s i done ts a b is us (took_step ts a s w) f v) (steps_yields part n h k (done ++ i ∷ []) b)))
    (bind_yields _ _ ts (must_yields _ ts) (λ p a c. pure_yields done a (no_steps n done ts a (took_next _ ts a p c))))

abbrev GivesFound : ℕ → List Token → List CodeTree → List Token → Type 0
GivesFound n ts cs us = (codes_depth (codes_of cs) ≤ n) × SpellsGives (codes_of cs) ts us

one_given : (n : ℕ) (ts us : List Token) (c : CodeTree) → One n ts c us → GivesFound n ts (c ∷ []) us
one_given n ts us c (f, i) = let d : code_depth c ≤ n = f.deep in (omega (arith, d), (i, f.spelled))

several_given : (n : ℕ) (start ts us : List Token) (cs : List CodeTree) → Next (Sign (codes "(")) start ts → codes_depth (codes_of cs) ≤ n →
    2 ≤ count (codes_of cs) →
    SpellsCodes (codes_of cs) (Sign (codes ",")) (Sign (codes ")")) ts us → GivesFound n start cs us
several_given n start ts us [] o d l w = absurd w
several_given n start ts us (c ∷ []) o d l w = absurd (omega (arith, l))
several_given n start ts us (c ∷ e ∷ cs) o d l (a, s, w) = (d, (ts, o, (a, s, w)))

given_found : (n m : ℕ) (start ts us : List Token) (x : InsideTree) → suc m ≡ n → Next (Sign (codes "(")) start ts → InsideFound n m ts x us →
    GivesFound n start (all_given x) us
unfolding InsideFound
given_found n m start ts us (several cs) e o (d, l, w) = several_given n start ts us cs o d l w
given_found n m start ts us (single c) e o w = one_given n start us c (subst (λ z. One z start c us) e (w start o))

clash : {A : Type 0} (o : Option A) (x : A) → o ≡ None → o ≡ Some x → ⊥
clash None x e f = cc
clash (Some y) x e f = cc

opened : (ts a : List Token) (o : Next (Sign (codes "(")) ts a) → at (is (Sign (codes "("))) ts ≡ Some (o.0, a)
opened ts a o = at_is (Sign (codes "(")) ts a o.0 refl o.1

none_on : {A B : Type 0} {Q : B → List Token → Type 0} (f : Test A) (g : A → Reader B) (r : Got B) (t : Token) (ts : List Token) (o : Option A) → f t ≡ o →
    ((x : A) (us : List Token) → Took f (t ∷ ts) x us → Yields Q (g x us)) → (before ts o ≡ None → Yields Q r) →
    Yields Q (elim (before ts o) [ None ↦ r | Some a ↦ g a.0 a.1 ])
none_on f g r t ts None e h k = k refl
none_on f g r t ts (Some x) e h k = h x ts (t, refl, e)

-- as first_yields, where the other reader may rest on what the first token is not
first_none_yields : {A B : Type 0} {Q : B → List Token → Type 0} (f : Test A) (g : A → Reader B) (r : Reader B) (ts : List Token) →
    ((x : A) (us : List Token) → Took f ts x us → Yields Q (g x us)) → (at f ts ≡ None → Yields Q (r ts)) → Yields Q (first f g r ts)
unfolding first at
first_none_yields f g r [] h k = k refl
first_none_yields f g r (t ∷ ts) h k = none_on f g (r (t ∷ ts)) t ts (f t) refl h k

-- a tuple begins with a parenthesis
no_tuple : (c : CodeTree) (ts us : List Token) → at (is (Sign (codes "("))) ts ≡ None → SpellsCode c ts us → IsNoTuple c
no_tuple (code_lit k) ts us e s = tt
no_tuple (code_truth t) ts us e s = tt
no_tuple (code_var x) ts us e s = tt
no_tuple (code_set_of cs) ts us e s = tt
no_tuple (code_tuple cs) ts us e (l, (a, o, w)) = clash (at (is (Sign (codes "("))) ts) (o.0, a) e (opened ts a o)
no_tuple (code_sum cs) ts us e s = tt
no_tuple (code_sub c d) ts us e s = tt
no_tuple (code_mul c d) ts us e s = tt
no_tuple (code_neg c) ts us e s = tt
no_tuple (code_div c k) ts us e s = tt
no_tuple (code_mod c k) ts us e s = tt
no_tuple (code_min cs) ts us e s = tt
no_tuple (code_max cs) ts us e s = tt
no_tuple (code_compare o c d) ts us e s = tt
no_tuple (code_divides k c) ts us e s = tt
no_tuple (code_and c d) ts us e s = tt
no_tuple (code_or c d) ts us e s = tt
no_tuple (code_not c) ts us e s = tt
no_tuple (code_union cs) ts us e s = tt
no_tuple (code_inter cs) ts us e s = tt
no_tuple (code_diff c d) ts us e s = tt
no_tuple (code_subset c d) ts us e s = tt
no_tuple (code_card c) ts us e s = tt
no_tuple (code_slice c d f) ts us e s = tt
no_tuple (code_fresh c d) ts us e s = tt
no_tuple (code_if t c d) ts us e s = tt
no_tuple (code_let x n c d) ts us e s = tt
no_tuple (code_solve n arms) ts us e s = tt

all_yields : (part : Reader CodeTree) (n : ℕ) → Finds part n → (ts : List Token) →
    Yields (λ is us. (items_depth (items_of is) ≤ n) × SpellsItems (items_of is) ts us) (all_steps part ts)
unfolding all_steps StepsFound
all_yields part n h ts = widen (λ is us w. subst (λ z. (items_depth (items_of z) ≤ n) × SpellsItems (items_of z) ts us) (sym w.1) (w.2, w.3))
    (steps_yields part n h (length ts) [] ts)

gives_yields : (part less : Reader CodeTree) (n m : ℕ) → suc m ≡ n → Finds part n → Finds less m → (ts : List Token) →
    Yields (GivesFound n ts) (gives_of part less n ts)
unfolding gives_of Finds
gives_yields part less n m e g h ts =
    let same : m ≡ n - 1 = omega (arith, e) in
    first_none_yields _ _ _ ts
    (λ p a o. bind_yields _ _ a (subst (λ z. Yields (InsideFound n z a) (inside_of part less n z a)) same (inside_yields part less n m g h a))
    (λ x us w. pure_yields (all_given x) us (given_found n (n - 1) ts a us x (omega (arith, e)) (took_next _ ts a p o) w)))
    (λ none. bind_yields _ _ ts (g ts) (λ c us f. pure_yields (c ∷ []) us (one_given n ts us c (f, no_tuple c ts us none f.spelled))))

-- behind the word arm
ArmFound : ℕ → ArmTree → List Token → List Token → Type 0
ArmFound n arm ts us = (start : List Token) → Next (Word (codes "arm")) start ts → (arm_depth arm ≤ n) × SpellsArm arm start us

arm_yields : (part less : Reader CodeTree) (n m : ℕ) → suc m ≡ n → Finds part n → Finds less m → (ts : List Token) →
    Yields (λ arm us. ArmFound n arm ts us) (arm_from part less n ts)
unfolding arm_from all_steps ArmFound
arm_yields part less n m e g h ts =
    bind_yields _ _ ts (must_yields _ ts) (λ p b o. bind_yields _ _ b (bounds_yields b)
    (λ bounds c bs. bind_yields _ _ c (must_yields _ c) (λ q d i. bind_yields _ _ d (all_yields part n g d) (λ steps f is.
    bind_yields _ _ f (gives_yields part less n m e g h f) (λ gives j gs. bind_yields _ _ j (must_yields _ j) (λ r us l.
    pure_yields _ us (λ start w. (
      omega (arith, is.0, gs.0),
      (ts, w, (b, took_next _ ts b p o, (c, bs, (d, took_next _ c d q i, (f, is.1, (j, gs.1, took_next _ j us r l)))))),
    ))))))))

arms_found : (n : ℕ) (arms : List ArmTree) (ts us : List Token) →
    Others (λ arm ts us. ArmFound n arm ts us) (Word (codes "arm")) (Sign (codes "}")) arms ts us →
    (arms_depth (arms_of arms) ≤ n) × SpellsArms (arms_of arms) ts us
unfolding ArmFound
arms_found n [] ts us w = (omega arith, w)
arms_found n (arm ∷ arms) ts us (a, s, (b, f, o)) = let g = f ts s in let h = arms_found n arms b us o in (omega (arith, g.0, h.0), (b, g.1, h.1))

all_arms_yields : (part less : Reader CodeTree) (n : ℕ) → Finds part n → Finds less (n - 1) → (ts : List Token) →
    Yields (λ arms us. (arms_depth (arms_of arms) ≤ n) × SpellsArms (arms_of arms) ts us) (all_arms part less n ts)
unfolding all_arms
all_arms_yields part less zero g h ts = bind_yields _ _ ts (must_yields _ ts) (λ p us c. pure_yields [] us (omega arith, took_next _ ts us p c))
all_arms_yields part less (suc n) g h ts =
    let same : suc n - 1 ≡ n = omega arith in
    widen (λ arms us w. subst (λ z. (arms_depth (arms_of z) ≤ suc n) × SpellsArms (arms_of z) ts us) (sym (w.1 ∙ all_added w.0))
    (arms_found (suc n) w.0 ts us w.2))
    (others_yields snoc (arm_from part less (suc n)) (λ arm ts us. ArmFound (suc n) arm ts us) (Word (codes "arm")) (Sign (codes "}"))
    (arm_yields part less (suc n) n refl g (subst (λ z. Finds less z) same h)) [] ts)

solve_yields : (part less : Reader CodeTree) (n : ℕ) → Finds part n → Finds less (n - 1) → (start ts : List Token) → Next (Word (codes "solve")) start ts →
    Yields (Found (suc n) start) (solve_of part less n ts)
unfolding solve_of
solve_yields part less n g h start ts w =
    bind_yields _ _ ts (must_yields _ ts) (λ number a k. bind_yields _ _ a (must_yields _ a)
    (λ p b o. bind_yields _ _ b (all_arms_yields part less n g h b) (λ arms us s.
    pure_yields _ us (record { deep = omega (arith, s.0); spelled = (ts, w, (a, took_numeral ts a number k, (b, took_next _ a b p o, s.1))) }))))

unless_zero_yields : {A : Type 0} {P : A → List Token → Type 0} (n : ℕ) (r : Reader A) (ts : List Token) → Yields P (r ts) → Yields P (unless_zero n r ts)
unfolding unless_zero
unless_zero_yields zero r ts h = faults (length ts)
unless_zero_yields (suc n) r ts h = h

word_yields : (part less : Reader CodeTree) (n : ℕ) → Finds part n → Finds less (n - 1) → (ts : List Token) → Yields (Found (suc n) ts) (word_of part less n ts)
unfolding word_of
word_yields part less n g h ts =
    first_yields _ _ _ ts (λ p a w. solve_yields part less n g h ts a (took_next _ ts a p w))
    (unless_zero_yields n (forms_of part) ts (forms_yields part n g ts))

whole_found : (n : ℕ) (start ts us : List Token) (x : InsideTree) → Next (Sign (codes "(")) start ts → InsideFound n n ts x us →
    Found (suc n) start (whole x) us
unfolding InsideFound
whole_found n start ts us (several cs) o (d, l, w) = record { deep = omega (arith, d); spelled = (l, (ts, o, w)) }
whole_found n start ts us (single c) o w = (w start o).0

step_yields : (part less : Reader CodeTree) (n : ℕ) → Finds part n → Finds less (n - 1) → (ts : List Token) → Yields (Found (suc n) ts) (step part less n ts)
unfolding step negative_of
step_yields part less n g h ts =
    first_yields _ _ _ ts (λ k a w. pure_yields _ a (record { deep = omega arith; spelled = inl (k.0, took_literal (pos 0) ts a k w) }))
    (first_yields _ _ _ ts (λ p a w. bind_yields _ _ a (must_yields _ a) (λ k us l.
    pure_yields _ us (record { deep = omega arith; spelled = inr (k.1, (a, took_next _ ts a p w, (k.0, took_literal (pos 1) a us k l)), refl) })))
    (first_yields _ _ _ ts (λ t a w. pure_yields _ a (record { deep = omega arith; spelled = (t.0, took_truth ts a t w) }))
    (first_yields _ _ _ ts (λ x a w. pure_yields _ a (record { deep = omega arith; spelled = took_variable ts a x w }))
    (first_yields _ _ _ ts (λ p a w. bind_yields _ _ a (elements_yields part n g ts a (took_next _ ts a p w)) (λ cs us f. pure_yields _ us f))
    (deep_yields _ _ _ _ ts (λ p a w. bind_yields _ _ a (inside_yields part part n n g g a)
    (λ x us f. pure_yields _ us (whole_found n ts a us x (took_next _ ts a p w) f)))
    (word_yields part less n g h ts))))))

pub read_found : (n : ℕ) → Finds (read n) n
unfolding read Finds
read_found zero ts = refuse_yields ts
read_found (suc zero) ts = step_yields refuse refuse 0 (λ us. refuse_yields us) (λ us. refuse_yields us) ts
read_found (suc (suc n)) ts =
    let same : n ≡ suc n - 1 = omega arith in
    step_yields (read (suc n)) (read n) (suc n) (read_found (suc n)) (subst (λ z. Finds (read n) z) same (read_found n)) ts

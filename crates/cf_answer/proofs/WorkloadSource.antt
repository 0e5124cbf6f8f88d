-- The text of a workload's source spells its program.
use Rattle.std.proofs.Common.{◌≡◌, ℕ, zero, suc, ◌+◌, ◌-◌, ◌^◌, ◌<◌, ◌≤◌, pos, true, false, List, [], ◌∷◌, ◌++◌, length, map, codes, refl, sym, ap, ap₂, ◌∙◌, subst, append_assoc, append-nil, arith}
use Rattle.std.specs.Prelude.{◌≤ℤ◌, ◌==◌, decimal, max}
use Rattle.std.specs.List.{flat_map, range_with_len}
use Rattle.std.proofs.lemmas.Int.{ints}
use Rattle.std.proofs.Math.Nat.{max-le}
use Rattle.std.proofs.lemmas.Bool.Decides.{nat_tests}
use Rattle.std.proofs.lemmas.Grind.{flat_map-append}
use Rattle.std.proofs.lemmas.List.{length-map}
use Rattle.std.proofs.lemmas.List.FromFn.{length-range_with_len}
use Rattle.cf_lex.specs.Bytes.{is_digit}
use Rattle.cf_lex.specs.Editions.{edition_of}
use Rattle.cf_lex.specs.Places.{first_place}
use Rattle.cf_lex.specs.Runs.{AllAre}
use Rattle.cf_lex.specs.Tokens.{Lexes, none}
use Rattle.cf_lex.specs.Words.{is_reserved}
use Rattle.cf_lex.specs.declared.token.Token.{Token}
use Rattle.cf_lex.specs.declared.token.TokenKind.TheVariants.{Literal, Word, Sign}
use Rattle.cf_reader.specs.Tokens.{Form, ◌⨟◌, First, FirstName, Next, NextFunction, Several}
use Rattle.cf_reader.specs.Operations.{op_kind}
use Rattle.cf_tree.specs.declared.base.Base.TheVariants.{Int}
use Rattle.cf_tree.specs.declared.base.Order.TheVariants.{Eq, Le, Lt}
use Rattle.cf_tree.specs.declared.base.Place.{Place}
use Rattle.cf_tree.specs.declared.raw.BinOp.{BinOp}
use Rattle.cf_tree.specs.declared.raw.BinOp.TheVariants.{Add, Sub, Mul, And, Or, Union, Inter, Diff, Subset, Implies, Compare}
use Rattle.cf_tree.specs.declared.base.Edition.TheVariants.{Two}
use Rattle.cf_tree.specs.DefView.{RawDefTree, item_def}
use Rattle.cf_tree.specs.RawTree.{RawTree, raw_lit, raw_name, raw_binary, raw_call, raw_let, raw_choose, no_given, no_aim, no_raws, raw_more, raw_depth}
use Rattle.cf_program.specs.NoForm.{IsNotImplies}
use Rattle.cf_parse.specs.declared.tier.Tier.{Tier}
use Rattle.cf_parse.specs.declared.tier.Tier.TheVariants.{Whole, Imps, Ors, Ands, Cmps, Sums, Muls, Unary}
use Rattle.cf_parse.specs.Programs.{SpellsDef, SpellsAll}
use Rattle.cf_parse.specs.Spelling.{rank, op_tier, left_tier, right_tier, Fits, FirstOp, SpellsParam, SpellsNames, Spells}
use Rattle.cf_gen.specs.Workload.{function_text, function_line, call_text, call_more, main_line, coefficient, coefficients, gen_source}
use Rattle.cf_emit.proofs.Numerals.{AreDigitsOf, decimal_read, digits_in_word, ends_digits}
use Rattle.cf_emit.proofs.Spans.{Spans, Says, then, as_form, one_token, white_before, white_behind, is_plain, word, spaced, Mark, opening, closing, comma, colon, spaced_sign}
use Rattle.cf_answer.proofs.WorkloadShapes.{Shape, IsName, IsLit, IsBoth, number_at, IsEqual, IsRelation, IsChoose, IsBody, function_name, IsCall, AreCalls, IsDef, AreDefs}

-- some tree of a shape
abbrev Tree : Shape → Form
Tree A ts rest = (t : RawTree) × A t × Spells Two t ts rest

-- ---- how tightly the shapes bind
abbrev AllFit : Tier → Shape → Type 0
AllFit tier A = (t : RawTree) → A t → Fits tier t

name_fits : (tier : Tier) (x : List ℕ) → AllFit tier (IsName x)
name_fits Whole x t h = rw h.1 (omega arith)
name_fits Imps x t h = rw h.1 (omega arith)
name_fits Ors x t h = rw h.1 (omega arith)
name_fits Ands x t h = rw h.1 (omega arith)
name_fits Cmps x t h = rw h.1 (omega arith)
name_fits Sums x t h = rw h.1 (omega arith)
name_fits Muls x t h = rw h.1 (omega arith)
name_fits Unary x t h = rw h.1 (omega arith)

lit_fits : (tier : Tier) (k : ℕ) → AllFit tier (IsLit k)
lit_fits Whole k t h = rw h.1 (omega arith)
lit_fits Imps k t h = rw h.1 (omega arith)
lit_fits Ors k t h = rw h.1 (omega arith)
lit_fits Ands k t h = rw h.1 (omega arith)
lit_fits Cmps k t h = rw h.1 (omega arith)
lit_fits Sums k t h = rw h.1 (omega arith)
lit_fits Muls k t h = rw h.1 (omega arith)
lit_fits Unary k t h = rw h.1 (omega arith)

call_fits : (i : ℕ) → AllFit Muls (IsCall i)
call_fits i t h = rw h.2 (omega arith)

both_fits : (tier : Tier) (op : BinOp) (A B : Shape) → rank tier ≤ rank (op_tier op) → AllFit tier (IsBoth op A B)
both_fits tier op A B l t h = rw h.5 l

-- ---- words, numbers and operations
name_says : (x : List ℕ) → is_plain x ≡ true → is_reserved Two x ≡ false → Says (Tree (IsName x)) x
name_says x plain free rest stops = as_form (λ ts more h. (raw_name h.0 x, (h.0, refl), (h.1, free))) (word x rest plain stops)

number_says : (k : ℕ) (ds : List ℕ) → k ≤ 2 ^ 127 - 1 → AreDigitsOf k ds → Says (Tree (IsLit k)) ds
number_says k ds fits r rest stops =
    as_form (λ ts more h. (raw_lit h.0 (pos k), (h.0, refl), (h.1, not_negative k)))
    (one_token ds rest (Literal (pos k)) ((r.some, (r.digits, ends_digits rest stops)), subst (λ v. v ≤ 2 ^ 127 - 1) (sym r.value) fits, ap pos (sym r.value)))
  where
    not_negative : (n : ℕ) → pos 0 ≤ℤ pos n
    not_negative n = omega (arith, ints)

-- the sign of an operation of language 2
first_op : (op : BinOp) (p : Place) (ts rest : List Token) → IsNotImplies op → First p (op_kind op) ts rest → FirstOp op Two p ts rest
first_op Add p ts rest n h = h
first_op Sub p ts rest n h = h
first_op Mul p ts rest n h = h
first_op And p ts rest n h = h
first_op Or p ts rest n h = h
first_op Union p ts rest n h = h
first_op Inter p ts rest n h = h
first_op Diff p ts rest n h = h
first_op Subset p ts rest n h = h
first_op Implies p ts rest n h = absurd n
first_op (Compare order) p ts rest n h = h

both_says : (op : BinOp) → IsNotImplies op → (A B : Shape) (a o b : List ℕ) → Says (Tree A) a → Mark (op_kind op) o → Says (Tree B) b → AllFit (left_tier (op_tier op)) A →
    AllFit (right_tier (op_tier op)) B →
    Says (Tree (IsBoth op A B)) (a ++ o ++ b)
both_says op once A B a o b left mark right fit fits rest stops =
    simp append_assoc (as_form turn (then (left (o ++ (b ++ rest)) (mark.begins (b ++ rest))) (then (mark.gives (b ++ rest)) (right rest stops))))
  where
    turn : (ts more : List Token) → (Tree A ⨟ Next (op_kind op) ⨟ Tree B) ts more → Tree (IsBoth op A B) ts more
    turn ts more h = (
      raw_binary h.2.1.0 op h.1.0 h.2.2.0,
      (h.2.1.0, h.1.0, h.2.2.0, h.1.1, h.2.2.1, refl),
      (h.0, (fit h.1.0 h.1.1, h.1.2), (h.2.0, first_op op h.2.1.0 h.0 h.2.0 once h.2.1.1, (fits h.2.2.0 h.2.2.1, h.2.2.2))),
    )

plus : Mark (Sign (codes "+")) (codes " + ")
plus = spaced_sign (codes "+") (λ rest. (refl, refl))

times : Mark (Sign (codes "*")) (codes " * ")
times = spaced_sign (codes "*") (λ rest. (refl, refl))

ands : Mark (Sign (codes "&&")) (codes " && ")
ands = spaced_sign (codes "&&") (λ rest. refl)

equals : Mark (Sign (codes "==")) (codes " == ")
equals = spaced_sign (codes "==") (λ rest. refl)

at_most : Mark (Sign (codes "<=")) (codes " <= ")
at_most = spaced_sign (codes "<=") (λ rest. refl)

below : Mark (Sign (codes "<")) (codes " < ")
below = spaced_sign (codes "<") (λ rest. (refl, refl))

q_says : Says (Tree (IsName (codes "q"))) (codes "q")
q_says = name_says (codes "q") refl refl

r_says : Says (Tree (IsName (codes "r"))) (codes "r")
r_says = name_says (codes "r") refl refl

a_says : Says (Tree (IsName (codes "a"))) (codes "a")
a_says = name_says (codes "a") refl refl

zero_says : Says (Tree (IsLit 0)) (codes "0")
zero_says = number_says 0 (codes "0") (omega arith) (record { some = omega arith; digits = (refl, tt); value = refl })

-- ---- the relation
abbrev product_text : ℕ → List ℕ
product_text c = decimal c ++ codes " * " ++ codes "q"

abbrev equation_text : ℕ → List ℕ
equation_text c = codes "a" ++ codes " == " ++ (product_text c ++ codes " + " ++ codes "r")

abbrev lower_text : List ℕ
lower_text = codes "0" ++ codes " <= " ++ codes "r"

abbrev upper_text : ℕ → List ℕ
upper_text c = codes "r" ++ codes " < " ++ decimal c

abbrev relation_text : ℕ → List ℕ
relation_text c = (equation_text c ++ codes " && " ++ lower_text) ++ codes " && " ++ upper_text c

module _ (c : ℕ) (small : c ≤ 2 ^ 127 - 1) where
  c_says : Says (Tree (IsLit c)) (decimal c)
  c_says = number_says c (decimal c) small (decimal_read c (omega arith))

  product_says : Says (Tree (IsBoth Mul (IsLit c) (IsName (codes "q")))) (product_text c)
  product_says = both_says Mul tt (IsLit c) (IsName (codes "q")) (decimal c) (codes " * ") (codes "q") c_says times q_says (lit_fits Muls c)
      (name_fits Unary (codes "q"))

  sum_says : Says (Tree (IsBoth Add (IsBoth Mul (IsLit c) (IsName (codes "q"))) (IsName (codes "r")))) (product_text c ++ codes " + " ++ codes "r")
  sum_says =
      both_says Add tt (IsBoth Mul (IsLit c) (IsName (codes "q"))) (IsName (codes "r")) (product_text c) (codes " + ") (codes "r") product_says plus r_says
      (both_fits Sums Mul (IsLit c) (IsName (codes "q")) (omega arith)) (name_fits Muls (codes "r"))

  equation_says : Says (Tree (IsEqual c)) (equation_text c)
  equation_says =
      both_says (Compare Eq) tt (IsName (codes "a")) (IsBoth Add (IsBoth Mul (IsLit c) (IsName (codes "q"))) (IsName (codes "r"))) (codes "a") (codes " == ")
      (product_text c ++ codes " + " ++ codes "r") a_says equals sum_says (name_fits Sums (codes "a"))
      (both_fits Sums Add (IsBoth Mul (IsLit c) (IsName (codes "q"))) (IsName (codes "r")) (omega arith))

  lower_says : Says (Tree (IsBoth (Compare Le) (IsLit 0) (IsName (codes "r")))) lower_text
  lower_says = both_says (Compare Le) tt (IsLit 0) (IsName (codes "r")) (codes "0") (codes " <= ") (codes "r") zero_says at_most r_says (lit_fits Sums 0)
      (name_fits Sums (codes "r"))

  upper_says : Says (Tree (IsBoth (Compare Lt) (IsName (codes "r")) (IsLit c))) (upper_text c)
  upper_says = both_says (Compare Lt) tt (IsName (codes "r")) (IsLit c) (codes "r") (codes " < ") (decimal c) r_says below c_says (name_fits Sums (codes "r"))
      (lit_fits Sums c)

  relation_says : Says (Tree (IsRelation c)) (relation_text c)
  relation_says =
      both_says And tt (IsBoth And (IsEqual c) (IsBoth (Compare Le) (IsLit 0) (IsName (codes "r")))) (IsBoth (Compare Lt) (IsName (codes "r")) (IsLit c))
      (equation_text c ++ codes " && " ++ lower_text) (codes " && ") (upper_text c)
      (both_says And tt (IsEqual c) (IsBoth (Compare Le) (IsLit 0) (IsName (codes "r"))) (equation_text c) (codes " && ") lower_text equation_says ands lower_says
      (both_fits Ands (Compare Eq) (IsName (codes "a")) (IsBoth Add (IsBoth Mul (IsLit c) (IsName (codes "q"))) (IsName (codes "r"))) (omega arith))
      (both_fits Cmps (Compare Le) (IsLit 0) (IsName (codes "r")) (omega arith)))
      ands upper_says
      (both_fits Ands And (IsEqual c) (IsBoth (Compare Le) (IsLit 0) (IsName (codes "r"))) (omega arith))
      (both_fits Cmps (Compare Lt) (IsName (codes "r")) (IsLit c) (omega arith))

-- ---- the choose
abbrev SomeParam : List ℕ → Form
SomeParam x ts rest = (p : Place) × SpellsParam Two (number_at p x) ts rest

param_says : (x : List ℕ) → is_plain x ≡ true → is_reserved Two x ≡ false → Says (SomeParam x) (x ++ codes ": " ++ codes "int")
param_says x plain free rest stops =
    simp append_assoc (as_form (λ ts more h. (h.1.0, (h.0, (h.1.1, free), h.2)))
    (then (word x (codes ": int" ++ rest) plain refl) (then (colon.gives (codes "int" ++ rest)) (word (codes "int") rest refl stops))))

abbrev SomeOutputs : Form
SomeOutputs ts rest = (q : Place) × (r : Place) × Several (SpellsParam Two) (Sign (codes ",")) (Sign (codes ")"))
    (number_at q (codes "q") ∷ number_at r (codes "r") ∷ []) ts rest

outputs_say : (rest : List ℕ) → Spans SomeOutputs (codes "q: int, r: int)" ++ rest) rest
outputs_say rest =
    as_form (λ ts more h. (h.1.0, h.2.2.1.0, (h.0, h.1.1, (h.2.0, h.2.1, (h.2.2.0, h.2.2.1.1, h.2.2.2)))))
    (then (param_says (codes "q") refl refl (codes ", r: int)" ++ rest) refl) (then (comma.gives (codes "r: int)" ++ rest))
    (then (param_says (codes "r") refl refl (codes ")" ++ rest) refl) (closing.gives rest))))

choose_says : (c : ℕ) (t : List ℕ) → Says (Tree (IsRelation c)) t → Says (Tree (IsChoose c)) (codes "choose (q: int, r: int) where " ++ t)
choose_says c t relation rest stops =
    as_form turn
    (then (spaced (codes "choose") (codes "(q: int, r: int) where " ++ (t ++ rest)) refl) (then (opening.gives (codes "q: int, r: int) where " ++ (t ++ rest)))
    (then (outputs_say (codes " where " ++ (t ++ rest))) (then (white_before 32 refl (spaced (codes "where") (t ++ rest) refl)) (relation rest stops)))))
  where
    turn : (ts more : List Token) → (Next (Word (codes "choose")) ⨟ Next (Sign (codes "(")) ⨟ SomeOutputs ⨟ Next (Word (codes "where")) ⨟
        Tree (IsRelation c)) ts more →
        Tree (IsChoose c) ts more
    turn ts more h =
        let o = h.2.2.1 in
        let e = h.2.2.2.2 in (
          raw_choose h.1.0 (number_at o.0 (codes "q") ∷ number_at o.1 (codes "r") ∷ []) [] no_given e.0 no_aim,
          (h.1.0, o.0, o.1, e.0, e.1, refl),
          (h.0, h.1.1, (h.2.0, h.2.1, (h.2.2.0, o.2, (h.2.2.2.0, h.2.2.2.1, (fits e.0 e.1, e.2))))),
        )
      where
        fits : AllFit Ors (IsRelation c)
        fits = both_fits Ors And (IsBoth And (IsEqual c) (IsBoth (Compare Le) (IsLit 0) (IsName (codes "r"))))
            (IsBoth (Compare Lt) (IsName (codes "r")) (IsLit c)) (omega arith)

-- ---- a function's body
abbrev SomeNames : Form
SomeNames ts rest = (q : Place) × (r : Place) × SpellsNames Two (codes "q" ∷ codes "r" ∷ []) (q ∷ r ∷ []) ts rest

abbrev NextName : List ℕ → Form
NextName x ts rest = (p : Place) × FirstName Two p x ts rest

next_name : (x : List ℕ) → is_plain x ≡ true → is_reserved Two x ≡ false → Says (NextName x) x
next_name x plain free rest stops = as_form (λ ts more h. (h.0, (h.1, free))) (word x rest plain stops)

names_say : (rest : List ℕ) → Spans SomeNames (codes "(q, r)" ++ rest) rest
names_say rest =
    as_form (λ ts more h.
    let q = h.2.1.0 in
    let r = h.2.2.2.1.0 in (
      q,
      r,
      (
        (q, codes "q") ∷ (r, codes "r") ∷ [],
        refl,
        refl,
        (h.0, h.1, (h.2.0, h.2.1.1, (h.2.2.0, h.2.2.1, (h.2.2.2.0, h.2.2.2.1.1, h.2.2.2.2)))),
      ),
    ))
    (then (opening.gives (codes "q, r)" ++ rest)) (then (next_name (codes "q") refl refl (codes ", r)" ++ rest) refl) (then (comma.gives (codes "r)" ++ rest))
    (then (next_name (codes "r") refl refl (codes ")" ++ rest) refl) (closing.gives rest)))))

body_says : (c : ℕ) (t : List ℕ) → Says (Tree (IsChoose c)) t → Says (Tree (IsBody c)) (codes "let (q, r) = " ++ t ++ codes " in q + r")
body_says c t chooses rest stops =
    simp append_assoc (as_form turn
    (then (spaced (codes "let") (codes "(q, r) = " ++ (t ++ behind)) refl) (then (names_say (codes " = " ++ (t ++ behind)))
    (then ((spaced_sign (codes "=") (λ r. (refl, refl))).gives (t ++ behind)) (then (chooses behind refl)
    (then (white_before 32 refl (spaced (codes "in") (codes "q + r" ++ rest) refl)) (sum_of_both rest stops)))))))
  where
    behind : List ℕ
    behind = codes " in q + r" ++ rest

    sum_of_both : Says (Tree (IsBoth Add (IsName (codes "q")) (IsName (codes "r")))) (codes "q + r")
    sum_of_both = both_says Add tt (IsName (codes "q")) (IsName (codes "r")) (codes "q") (codes " + ") (codes "r") q_says plus r_says
        (name_fits Sums (codes "q")) (name_fits Muls (codes "r"))

    turn : (ts more : List Token) →
        (Next (Word (codes "let")) ⨟ SomeNames ⨟ Next (Sign (codes "=")) ⨟ Tree (IsChoose c) ⨟ Next (Word (codes "in")) ⨟
        Tree (IsBoth Add (IsName (codes "q")) (IsName (codes "r")))) ts more →
        Tree (IsBody c) ts more
    turn ts more h =
        let n = h.2.1 in
        let e = h.2.2.2.1 in
        let f = h.2.2.2.2.2 in (
          raw_let h.1.0 (codes "q" ∷ codes "r" ∷ []) (n.0 ∷ n.1 ∷ []) e.0 f.0,
          (h.1.0, n.0, n.1, e.0, f.0, e.1, f.1, refl),
          (h.0, h.1.1, (h.2.0, n.2, (h.2.2.0, h.2.2.1, (h.2.2.2.0, e.2, (h.2.2.2.2.0, h.2.2.2.2.1, f.2))))),
        )

-- ---- names of functions
not_a : (d : ℕ) → is_digit d ≡ true → (d == 97) ≡ false
not_a d h = grind (arith, nat_tests)

not_r : (d : ℕ) → is_digit d ≡ true → (d == 114) ≡ false
not_r d h = grind (arith, nat_tests)

free_by : (d : ℕ) (ds : List ℕ) → is_digit d ≡ true → is_reserved Two (102 ∷ d ∷ ds) ≡ false
free_by d ds h = rw (not_a d h, not_r d h) refl

free_digits : (ds : List ℕ) → 0 < length ds → AllAre is_digit ds → is_reserved Two (102 ∷ ds) ≡ false
free_digits [] l h = absurd (omega arith)
free_digits (d ∷ ds) l h = free_by d ds h.0

module _ (i : ℕ) (small : i ≤ 2 ^ 127 - 1) where
  digits : AreDigitsOf i (decimal i)
  digits = decimal_read i (omega arith)

  free : is_reserved Two (function_name i) ≡ false
  free = free_digits (decimal i) digits.some digits.digits

  function_word : Says (Next (Word (function_name i))) (function_name i)
  function_word rest stops = one_token (function_name i) rest (Word (function_name i)) ((refl, (digits_in_word (decimal i) digits.digits, stops)), refl)

  function_name_says : Says (NextFunction Two (function_name i)) (function_name i)
  function_name_says rest stops = as_form (λ ts more h. (h.0, (h.1, free))) (function_word rest stops)

  -- a call
  call_says : Says (Tree (IsCall i)) (call_text i)
  call_says rest stops =
      simp append_assoc (as_form turn
      (then (function_name_says (codes "(a)" ++ rest) refl) (then (opening.gives (codes "a)" ++ rest))
      (then (a_says (codes ")" ++ rest) refl) (closing.gives rest)))))
    where
      turn : (ts more : List Token) → (NextFunction Two (function_name i) ⨟ Next (Sign (codes "(")) ⨟ Tree (IsName (codes "a")) ⨟ Next (Sign (codes ")"))) ts more →
          Tree (IsCall i) ts more
      turn ts more h =
          let a = h.2.2.1 in (
            raw_call h.1.0 (function_name i) (raw_more (raw_name a.1.0 (codes "a")) no_raws),
            (h.1.0, a.1.0, refl),
            (h.0, h.1.1, (h.2.0, h.2.1, (h.2.2.0, subst (λ t. Spells Two t h.2.0 h.2.2.0) a.1.1 a.2, h.2.2.2))),
          )

-- ---- the sum of the calls
range_push : (a n : ℕ) → range_with_len a (suc n) ≡ range_with_len a n ++ (a + n) ∷ []
range_push a zero = let z : a ≡ a + 0 = omega arith in ap (λ x. x ∷ []) z
range_push a (suc n) =
    let s : a + 1 + n ≡ a + suc n = omega arith in ap (λ xs. a ∷ xs) (range_push (a + 1) n) ∙ ap (λ x. a ∷ (range_with_len (a + 1) n ++ x ∷ [])) s

abbrev calls_text : ℕ → List ℕ
calls_text m = call_text 1 ++ flat_map call_more (range_with_len 2 m)

calls_text_next : (m : ℕ) → calls_text (suc m) ≡ calls_text m ++ codes " + " ++ call_text (m + 2)
calls_text_next m =
    let s : 2 + m ≡ m + 2 = omega arith in
    ap (λ xs. call_text 1 ++ flat_map call_more xs) (range_push 2 m)
    ∙ ap (λ t. call_text 1 ++ t) (flat_map-append call_more (range_with_len 2 m) ((2 + m) ∷ []))
    ∙ ap (λ k. call_text 1 ++ (flat_map call_more (range_with_len 2 m) ++ (call_more k ++ []))) s
    ∙ ap (λ t. call_text 1 ++ (flat_map call_more (range_with_len 2 m) ++ t)) (append-nil (call_more (m + 2)))
    ∙ sym (append_assoc (call_text 1) (flat_map call_more (range_with_len 2 m)) (call_more (m + 2)))
    ∙ sym (append_assoc (calls_text m) (codes " + ") (call_text (m + 2)))

calls_fit : (m : ℕ) → AllFit Sums (AreCalls m)
calls_fit zero t h = rw h.2 (omega arith)
calls_fit (suc m) t h = both_fits Sums Add (AreCalls m) (IsCall (m + 2)) (omega arith) t h

calls_say : (m : ℕ) → m + 1 ≤ 2 ^ 127 - 1 → Says (Tree (AreCalls m)) (calls_text m)
calls_say zero small = subst (λ t. Says (Tree (IsCall 1)) t) (sym (append-nil (call_text 1))) (call_says 1 (omega arith))
calls_say (suc m) small =
    subst (λ t. Says (Tree (AreCalls (suc m))) t) (sym (calls_text_next m))
    (both_says Add tt (AreCalls m) (IsCall (m + 2)) (calls_text m) (codes " + ") (call_text (m + 2)) (calls_say m (omega arith)) plus
    (call_says (m + 2) (omega arith))
    (calls_fit m) (call_fits (m + 2)))

-- ---- depths
abbrev AreShallow : ℕ → Shape → Type 0
AreShallow n A = (t : RawTree) → A t → raw_depth t ≤ n

one_more : (a n : ℕ) → a ≤ n → 1 + a ≤ suc n
one_more a n l = omega arith

name_shallow : (x : List ℕ) → AreShallow 1 (IsName x)
name_shallow x t h = rw h.1 (omega arith)

lit_shallow : (k : ℕ) → AreShallow 1 (IsLit k)
lit_shallow k t h = rw h.1 (omega arith)

both_shallow : (n : ℕ) (op : BinOp) (A B : Shape) → AreShallow n A → AreShallow n B → AreShallow (suc n) (IsBoth op A B)
both_shallow n op A B a b t h = rw h.5 (one_more (max (raw_depth h.1) (raw_depth h.2)) n (max-le (a h.1 h.3) (b h.2 h.4)))

deeper : (n m : ℕ) (A : Shape) → n ≤ m → AreShallow n A → AreShallow m A
deeper n m A l s t h = let k = s t h in omega arith

module _ (c : ℕ) where
  equal_shallow : AreShallow 4 (IsEqual c)
  equal_shallow =
      both_shallow 3 (Compare Eq) (IsName (codes "a")) (IsBoth Add (IsBoth Mul (IsLit c) (IsName (codes "q"))) (IsName (codes "r")))
      (deeper 1 3 (IsName (codes "a")) (omega arith) (name_shallow (codes "a")))
      (both_shallow 2 Add (IsBoth Mul (IsLit c) (IsName (codes "q"))) (IsName (codes "r"))
      (both_shallow 1 Mul (IsLit c) (IsName (codes "q")) (lit_shallow c) (name_shallow (codes "q")))
      (deeper 1 2 (IsName (codes "r")) (omega arith) (name_shallow (codes "r"))))

  relation_shallow : AreShallow 6 (IsRelation c)
  relation_shallow =
      both_shallow 5 And (IsBoth And (IsEqual c) (IsBoth (Compare Le) (IsLit 0) (IsName (codes "r")))) (IsBoth (Compare Lt) (IsName (codes "r")) (IsLit c))
      (both_shallow 4 And (IsEqual c) (IsBoth (Compare Le) (IsLit 0) (IsName (codes "r"))) equal_shallow
      (deeper 2 4 (IsBoth (Compare Le) (IsLit 0) (IsName (codes "r"))) (omega arith)
      (both_shallow 1 (Compare Le) (IsLit 0) (IsName (codes "r")) (lit_shallow 0) (name_shallow (codes "r")))))
      (deeper 2 5 (IsBoth (Compare Lt) (IsName (codes "r")) (IsLit c)) (omega arith)
      (both_shallow 1 (Compare Lt) (IsName (codes "r")) (IsLit c) (name_shallow (codes "r")) (lit_shallow c)))

  choose_shallow : AreShallow 7 (IsChoose c)
  choose_shallow t h = let k = relation_shallow h.3 h.4 in rw h.5 (omega arith)

  body_shallow : AreShallow 200 (IsBody c)
  body_shallow t h =
      rw h.7 (omega (
        arith,
        max-le (choose_shallow h.3 h.5)
            (deeper 2 7 (IsBoth Add (IsName (codes "q")) (IsName (codes "r"))) (omega arith)
            (both_shallow 1 Add (IsName (codes "q")) (IsName (codes "r")) (name_shallow (codes "q")) (name_shallow (codes "r"))) h.4 h.6),
      ))

call_shallow : (i : ℕ) → AreShallow 2 (IsCall i)
call_shallow i t h = rw h.2 (omega arith)

calls_shallow : (m : ℕ) → AreShallow (m + 2) (AreCalls m)
calls_shallow zero = call_shallow 1
calls_shallow (suc m) =
    deeper (suc (m + 2)) (suc m + 2) (AreCalls (suc m)) (omega arith)
    (both_shallow (m + 2) Add (AreCalls m) (IsCall (m + 2)) (calls_shallow m) (deeper 2 (m + 2) (IsCall (m + 2)) (omega arith) (call_shallow (m + 2))))

-- ---- functions
abbrev SomeDef : List ℕ → Shape → Form
SomeDef x A ts rest = (d : RawDefTree) × IsDef x A d × SpellsDef Two 200 d ts rest

abbrev def_text : List ℕ → List ℕ → List ℕ
def_text x t = codes "def " ++ x ++ codes "(a: int): int = " ++ t ++ codes "\n"

def_says : (x : List ℕ) (A : Shape) (t rest : List ℕ) → Says (NextFunction Two x) x → Says (Tree A) t → AreShallow 200 A →
    Spans (SomeDef x A) (def_text x t ++ rest) rest
def_says x A t rest named body shallow =
    simp append_assoc (as_form turn
    (then (spaced (codes "def") (x ++ (codes "(a: int): int = " ++ end)) refl) (then (named (codes "(a: int): int = " ++ end) refl)
    (then (opening.gives (codes "a: int): int = " ++ end)) (then (param_says (codes "a") refl refl (codes "): int = " ++ end) refl)
    (then (closing.gives (codes ": int = " ++ end)) (then (colon.gives (codes "int = " ++ end)) (then (word (codes "int") (codes " = " ++ end) refl refl)
    (then ((spaced_sign (codes "=") (λ r. (refl, refl))).gives end) (white_behind 10 refl (body (10 ∷ rest) refl)))))))))))
  where
    end : List ℕ
    end = t ++ (10 ∷ rest)

    turn : (ts more : List Token) →
        (Next (Word (codes "def")) ⨟ NextFunction Two x ⨟ Next (Sign (codes "(")) ⨟ SomeParam (codes "a") ⨟ Next (Sign (codes ")")) ⨟ Next (Sign (codes ":")) ⨟
        Next (Word (codes "int"))
        ⨟ Next (Sign (codes "=")) ⨟ Tree A) ts more →
        SomeDef x A ts more
    turn ts more h =
        let params = h.2.2.2 in
        let results = params.2.2 in
        let b = results.2.2.2 in (
          record { place = h.1.0; name = x; params = number_at params.1.0 (codes "a") ∷ []; results = Int ∷ []; body = b.0 },
          (h.1.0, params.1.0, b.0, b.1, refl),
          (
            h.0,
            h.1.1,
            (
              h.2.0,
              h.2.1,
              (
                h.2.2.0,
                h.2.2.1,
                (
                  params.2.0,
                  (params.0, params.1.1, params.2.1),
                  (
                    results.0,
                    results.1,
                    (results.2.0, results.2.1, (results.2.2.0, results.2.2.1, (shallow b.0 b.1, b.2))),
                  ),
                ),
              ),
            ),
          ),
        )

-- ---- all functions
abbrev AreSpelled : List RawDefTree → Form
AreSpelled [] ts rest = ts ≡ rest
AreSpelled (d ∷ ds) ts rest = (mid : List Token) × SpellsDef Two 200 d ts mid × AreSpelled ds mid rest

all_spelled : (ds : List RawDefTree) (ts : List Token) → AreSpelled ds ts [] → SpellsAll Two 200 (map item_def ds) ts
all_spelled [] ts h = h
all_spelled (d ∷ ds) ts h = (h.0, h.1, all_spelled ds h.0 h.2)

abbrev SomeDefs : ℕ → ℕ → List ℕ → Form
SomeDefs m i cs ts rest = (ds : List RawDefTree) × AreDefs m i cs ds × AreSpelled ds ts rest

abbrev AreSmall : List ℕ → Type 0
AreSmall [] = Unit {0}
AreSmall (c ∷ cs) = (c ≤ 2 ^ 127 - 1) × AreSmall cs

abbrev functions_text : ℕ → List ℕ → List ℕ
functions_text i [] = []
functions_text i (c ∷ cs) = function_text i c ++ functions_text (i + 1) cs

abbrev body_text : ℕ → List ℕ
body_text c = codes "let (q, r) = " ++ (codes "choose (q: int, r: int) where " ++ relation_text c) ++ codes " in q + r"

-- the pieces of a function's text, whatever they are
text_pieces : (a d b c m k e : List ℕ) → a ++ d ++ b ++ c ++ m ++ k ++ e ≡ a ++ (d ++ (b ++ (c ++ (m ++ (k ++ e)))))
text_pieces a d b c m k e = simp append_assoc refl

body_pieces : (w f d h l o a e c t q p r n z x b i g : List ℕ) →
    w ++ (f ++ d) ++ h ++ (l ++ (o ++ ((a ++ e ++ (c ++ t ++ q ++ p ++ r) ++ n ++ (z ++ x ++ r)) ++ n ++ (r ++ b ++ c))) ++ i) ++ g
    ≡ w ++ (f ++ (d ++ (h ++ (l ++ (o ++ (a ++ (e ++ (c ++ (t ++ (q ++ (p ++ (r ++ (n ++ (z ++ (x ++ (r ++ (n ++ (r ++ (b ++ (c ++ (i ++ g)))))))))))))))))))))
body_pieces w f d h l o a e c t q p r n z x b i g = simp append_assoc refl

function_text_is : (i c : ℕ) → function_text i c ≡ def_text (function_name i) (body_text c)
function_text_is i c =
    text_pieces (codes "def f") (decimal i) (codes "(a: int): int = let (q, r) = choose (q: int, r: int) where a == ") (decimal c)
    (codes " * q + r && 0 <= r && r < ") (decimal c)
    (codes " in q + r\n")
    ∙ sym (body_pieces (codes "def ") (codes "f") (decimal i) (codes "(a: int): int = ") (codes "let (q, r) = ") (codes "choose (q: int, r: int) where ")
    (codes "a") (codes " == ") (decimal c)
    (codes " * ") (codes "q") (codes " + ") (codes "r") (codes " && ") (codes "0") (codes " <= ") (codes " < ") (codes " in q + r") (codes "\n"))

function_says : (i c : ℕ) → i ≤ 2 ^ 127 - 1 → c ≤ 2 ^ 127 - 1 → (rest : List ℕ) → Spans (SomeDef (function_name i) (IsBody c)) (function_text i c ++ rest) rest
function_says i c small within rest =
    subst (λ t. Spans (SomeDef (function_name i) (IsBody c)) (t ++ rest) rest) (sym (function_text_is i c))
    (def_says (function_name i) (IsBody c) (body_text c) rest (function_name_says i small)
    (body_says c (codes "choose (q: int, r: int) where " ++ relation_text c) (choose_says c (relation_text c) (relation_says c within)))
    (body_shallow c))

main_name : Says (NextFunction Two (codes "main")) (codes "main")
main_name rest stops = as_form (λ ts more h. (h.0, (h.1, refl))) (word (codes "main") rest refl stops)

main_says : (m : ℕ) → m + 2 ≤ 200 → (rest : List ℕ) → Spans (SomeDef (codes "main") (AreCalls m)) (def_text (codes "main") (calls_text m) ++ rest) rest
main_says m small rest =
    def_says (codes "main") (AreCalls m) (calls_text m) rest main_name (calls_say m (omega arith))
    (deeper (m + 2) 200 (AreCalls m) small (calls_shallow m))

functions_say : (m i : ℕ) (cs : List ℕ) → m + 2 ≤ 200 → i + length cs ≤ 2 ^ 127 - 1 → AreSmall cs → (rest : List ℕ) →
    Spans (SomeDefs m i cs) (functions_text i cs ++ (def_text (codes "main") (calls_text m) ++ rest)) rest
functions_say m i [] low few small rest =
    as_form (λ ts more h. (h.0 ∷ [], (h.1, refl), (more, h.2, refl))) (main_says m low rest)
functions_say m i (c ∷ cs) low few small rest =
    subst (λ t. Spans (SomeDefs m i (c ∷ cs)) t rest) (sym (append_assoc (function_text i c) (functions_text (i + 1) cs)
    (def_text (codes "main") (calls_text m) ++ rest)))
    (as_form (λ ts more h. (h.1.0 ∷ h.2.0, (h.1.1, h.2.1), (h.0, h.1.2, h.2.2)))
    (then (function_says i c (omega arith) small.0 (functions_text (i + 1) cs ++ (def_text (codes "main") (calls_text m) ++ rest)))
    (functions_say m (i + 1) cs low (omega arith) small.1 rest)))

-- ---- the source
functions_are : (n i k : ℕ) → functions_text i (map (coefficient n) (range_with_len i k)) ≡ flat_map (function_line n) (range_with_len i k)
functions_are n i zero = refl
functions_are n i (suc k) = ap (λ t. function_line n i ++ t) (functions_are n (i + 1) k)

main_line_is : (n : ℕ) → main_line n ≡ def_text (codes "main") (calls_text (n - 1))
main_line_is n = simp append_assoc refl

coefficients_small : (n i k : ℕ) → AreSmall (map (coefficient n) (range_with_len i k))
coefficients_small n i zero = tt
coefficients_small n i (suc k) = (omega arith, coefficients_small n (i + 1) k)

source_is : (n : ℕ) → gen_source n ≡ functions_text 1 (coefficients n) ++ (def_text (codes "main") (calls_text (n - 1)) ++ [])
source_is n = ap₂ (λ s t. s ++ t) (sym (functions_are n 1 n)) (main_line_is n ∙ sym (append-nil (def_text (codes "main") (calls_text (n - 1)))))

-- a tree that the source spells: its functions by their coefficients, and main
pub source_spelled : (n : ℕ) → 1 ≤ n → n ≤ 100 →
    (ts : List Token) × (end : Place) × Lexes Two (2 ^ 127 - 1) first_place (gen_source n) ts end [] × (ds : List RawDefTree) × AreDefs (n - 1) 1
    (coefficients n) ds × SpellsAll Two 200 (map item_def ds) ts
source_spelled n l h =
    let many = length-map (range_with_len 1 n) (coefficient n) in
    let long = length-range_with_len 1 n in
    let s = functions_say (n - 1) 1 (coefficients n) (omega arith) (omega arith) (coefficients_small n 1 n) [] in
    let f = s.spans first_place in
    let g = f.1 [] f.0 none in
    (g.0, f.0, subst (λ t. Lexes Two (2 ^ 127 - 1) first_place t g.0 f.0 []) (sym (source_is n)) g.1, g.2.0, g.2.1, all_spelled g.2.0 g.0 g.2.2)

-- it is a source of language 2
pub gen_edition : (n : ℕ) → 1 ≤ n → edition_of (gen_source n) ≡ Two
gen_edition zero l = absurd (omega (arith, l))
gen_edition (suc n) l = refl

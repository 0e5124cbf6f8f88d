-- Language 2 is walked as before there were constants: each clause of its walk as it was, in a context of language 2.
--
-- A context of language 2 has no constants, and its sources have literals as divisors and factors, and chooses of outputs and a relation alone.
use Rattle.std.proofs.Common.{◌≡◌, ℕ, ◌+◌, ℤ, pos, ◌==◌, not, Bool, List, [], ◌∷◌, ◌++◌, length, map, reverse, Option, Some, None, Result, Ok, All, refl, sym, ap, ◌∙◌, append-nil, append_assoc}
use Rattle.std.proofs.lemmas.List.Elements.{All-head, All-tail}
use Rattle.cf_tree.specs.declared.base.Base.TheVariants.{Int, Bool as Truth, Set}
use Rattle.cf_tree.specs.declared.base.Edition.TheVariants.{Two}
use Rattle.cf_tree.specs.declared.base.Place.{Place}
use Rattle.cf_tree.specs.declared.raw.BinOp.{BinOp}
use Rattle.cf_tree.specs.declared.raw.Param.{Param}
use Rattle.cf_tree.specs.Bases.{same_bases}
use Rattle.cf_tree.specs.DefView.{RawDefTree, DefTree, RawItemTree, item_const, item_def}
use Rattle.cf_tree.specs.ExprTree.{expr_lit, expr_truth, expr_neg, expr_not, expr_abs, expr_divides, expr_div, expr_mod, expr_card}
use Rattle.cf_tree.specs.Params.{names_of}
use Rattle.cf_tree.specs.RawTree.{RawTree, raw_lit, raw_truth, raw_name, raw_set_of, raw_group, raw_tuple, raw_neg, raw_not, raw_abs, raw_binary, raw_card, raw_call, raw_if, raw_let, raw_match, raw_arm, raw_arm_more, RawTrees, RawArmTrees, PartTree, NumberTree, number_lit, number_name, place_of}
use Rattle.cf_tree.specs.RelTree.{term_lit, term_card, term_neg, term_div, term_mod, term_abs, rel_divides, rel_not}
use Rattle.cf_tree.specs.Typing.{one}
use Rattle.cf_program.specs.declared.fault.TypeFault.{TypeFault}
use Rattle.cf_program.specs.declared.fault.TypeFault.TheVariants.{WrongCount, DuplicateName, Mismatch}
use Rattle.cf_program.specs.declared.linearity.Linearity.{Linearity}
use Rattle.cf_program.specs.declared.variable.Variable.{Variable}
use Rattle.cf_program.specs.Checked.{functions_of, def_form, walk_items, walk_def, with_main, main_from, sized, checked}
use Rattle.cf_program.specs.LateLinear.{known_in}
use Rattle.cf_program.specs.Names.{Callee, callee_from, variable_of, is_among, repeated}
use Rattle.cf_program.specs.Reading.{relation, term, on_relation, on_term, on_set, truth_reading}
use Rattle.cf_program.specs.Source.{IsSpelledFactor, IsSpelledPart, IsSpelledItem, IsSpelledProgram}
use Rattle.cf_program.specs.Then.{◌>>=◌}
use Rattle.cf_program.specs.Walk.{Context, Pattern, Summand, signed, with_summand, with_part, with_parts, first_start, sum_with, constant_fault, behind, in_relation, form, name_form, variable_form, unary_form, binary_form, set_form, tuple_form, call_form, if_form, let_form, choose_form, choose_part, match_form, no_forms, Arms, no_arms, with_arm, variables_of, after_arm, where_kept, where_no_fault, where_none_repeated, output_fault, bound, matched, walk, walk_all, walk_arms}
use Rattle.cf_program.proofs.PlainForms.{raw_divides, raw_div, raw_mod, raw_choose}

-- where an expression of language 2 stands
abbrev pub two : Linearity → (List ℕ → Option Callee) → List RawDefTree → ℕ → Context
two how calls before known = record { edition = Two; calls = calls; constants = []; earlier = before; how = how; known = known }

in_a_body : (how : Linearity) (calls : List ℕ → Option Callee) (before : List RawDefTree) → behind Two how calls [] before ≡ two how calls before 0
in_a_body how calls before = refl

in_a_relation : (how : Linearity) (calls : List ℕ → Option Callee) (before : List RawDefTree) (known n : ℕ) →
    in_relation (two how calls before known) n ≡ two how calls before (known_in how n)
in_a_relation how calls before known n = refl

-- a name is that of a variable
names : (p : Place) (n : ℕ) (v : Option Variable) → name_form p n v None ≡ variable_form p n v
names p n None = refl
names p n (Some v) = refl

module _ (how : Linearity) (calls : List ℕ → Option Callee) (ds : List RawDefTree) (known : ℕ) (scope : List Param) (n : ℕ) (p : Place) where
  literals : (k : ℤ) → walk (two how calls ds known) scope n (raw_lit p k) ≡ form (one Int) (expr_lit k) (term (term_lit k)) n
  literals k = refl

  truths : (t : Bool) → walk (two how calls ds known) scope n (raw_truth p t) ≡ form (one Truth) (expr_truth t) (truth_reading t) n
  truths t = refl

  variables : (x : List ℕ) → walk (two how calls ds known) scope n (raw_name p x) ≡ variable_form p n (variable_of scope x)
  variables x = names p n (variable_of scope x)

  sets : (es : RawTrees) → walk (two how calls ds known) scope n (raw_set_of p es) ≡ (walk_all (two how calls ds known) scope (no_forms n) es >>= set_form p)
  sets es = refl

  groups : (a : RawTree) → walk (two how calls ds known) scope n (raw_group p a) ≡ walk (two how calls ds known) scope n a
  groups a = refl

  tuples : (es : RawTrees) → walk (two how calls ds known) scope n (raw_tuple p es) ≡ (walk_all (two how calls ds known) scope (no_forms n) es >>= tuple_form p)
  tuples es = refl

  negations : (a : RawTree) → walk (two how calls ds known) scope n (raw_neg p a) ≡
      (walk (two how calls ds known) scope n a >>= unary_form p Int Int expr_neg (on_term (λ t. term (term_neg t))))
  negations a = refl

  denials : (a : RawTree) → walk (two how calls ds known) scope n (raw_not p a) ≡
      (walk (two how calls ds known) scope n a >>= unary_form p Truth Truth expr_not (on_relation (λ r. relation (rel_not r))))
  denials a = refl

  absolutes : (a : RawTree) → walk (two how calls ds known) scope n (raw_abs p a) ≡
      (walk (two how calls ds known) scope n a >>= unary_form p Int Int expr_abs (on_term (λ t. term (term_abs t))))
  absolutes a = refl

  operations : (op : BinOp) (a b : RawTree) → walk (two how calls ds known) scope n (raw_binary p op a b) ≡
      (walk (two how calls ds known) scope n a >>= λ f. walk (two how calls ds known) scope f.next b >>= binary_form known p op f)
  operations op a b = refl

  divisors : (k : ℤ) (a : RawTree) → walk (two how calls ds known) scope n (raw_divides p k a) ≡
      (walk (two how calls ds known) scope n a >>= unary_form p Int Truth (expr_divides k) (on_term (λ t. relation (rel_divides k t))))
  divisors k a = refl

  quotients : (a : RawTree) (k : ℤ) → walk (two how calls ds known) scope n (raw_div p a k) ≡
      (walk (two how calls ds known) scope n a >>= unary_form p Int Int (λ e. expr_div e k) (on_term (λ t. term (term_div t k))))
  quotients a k = refl

  remainders : (a : RawTree) (k : ℤ) → walk (two how calls ds known) scope n (raw_mod p a k) ≡
      (walk (two how calls ds known) scope n a >>= unary_form p Int Int (λ e. expr_mod e k) (on_term (λ t. term (term_mod t k))))
  remainders a k = refl

  cards : (a : RawTree) → walk (two how calls ds known) scope n (raw_card p a) ≡
      (walk (two how calls ds known) scope n a >>= unary_form p Set Int expr_card (on_set (λ s. term (term_card s))))
  cards a = refl

  calls_of : (x : List ℕ) (es : RawTrees) → walk (two how calls ds known) scope n (raw_call p x es) ≡
      (walk_all (two how calls ds known) scope (no_forms n) es >>= call_form p (calls x))
  calls_of x es = refl

  branches : (t a b : RawTree) → walk (two how calls ds known) scope n (raw_if p t a b) ≡
      (walk (two how calls ds known) scope n t >>= λ f. walk (two how calls ds known) scope f.next a >>= λ g.
      walk (two how calls ds known) scope g.next b >>= if_form p f g)
  branches t a b = refl

  lets : (xs : List (List ℕ)) (places : List Place) (a b : RawTree) → walk (two how calls ds known) scope n (raw_let p xs places a b) ≡
      (walk (two how calls ds known) scope n a >>= λ f.
      where_none_repeated (repeated [] xs places) (
      where_kept (length xs == length f.bases) (WrongCount p) (
      walk (two how calls ds known) (scope ++ bound xs places f.bases) f.next b >>= let_form p (length xs) f)))
  lets xs places a b = refl

  chooses : (outputs : List Param) (r : RawTree) → walk (two how calls ds known) scope n (raw_choose p outputs r) ≡
      where_no_fault (output_fault Two [] outputs) (
      walk (in_relation (two how calls ds known) (length scope)) (scope ++ outputs) (n + 1) r >>= choose_form p n scope outputs >>= λ f.
      walk (two how calls ds known) (scope ++ outputs) (n + 1) r >>= choose_part p f)
  chooses outputs r = refl

  matches : (a : RawTree) (arms : RawArmTrees) → walk (two how calls ds known) scope n (raw_match p a arms) ≡
      (walk (two how calls ds known) scope (n + 1) a >>= λ f.
      walk_arms (two how calls ds known) (scope ++ matched p ∷ []) (no_arms f.next) arms >>= match_form p n (scope ++ matched p ∷ []) f)
  matches a arms = refl

-- ---- patterns: literals as factors, or none, and the literal
abbrev pub literal_or_one : Option NumberTree → ℤ
literal_or_one None = pos 1
literal_or_one (Some (number_lit k)) = k
literal_or_one (Some (number_name p x)) = pos 0

-- each part is a variable with its factor
abbrev pub summand : PartTree → Summand
summand x = record { place = x.place; factor = signed x.is_negative (literal_or_one x.factor); name = x.name }

abbrev pub plain_pattern : List Summand → ℤ → Pattern
plain_pattern xs k = record { summands = xs; constants = []; constant = k }

module _ (how : Linearity) (calls : List ℕ → Option Callee) (ds : List RawDefTree) (known : ℕ) (scope : List Param) where
  one_part : (m : Pattern) (x : PartTree) (o : Option NumberTree) → IsSpelledFactor Two o →
      with_part (two how calls ds known) scope m x o ≡ Ok (with_summand m x.place (signed x.is_negative (literal_or_one o)) x.name)
  one_part m x None s = refl
  one_part m x (Some (number_lit k)) s = refl
  one_part m x (Some (number_name p y)) s = absurd s

  parts : (k : ℤ) (before : List Summand) (xs : List PartTree) → All (IsSpelledPart Two) xs →
      with_parts (two how calls ds known) scope (plain_pattern before k) xs ≡ Ok (plain_pattern (before ++ map summand xs) k)
  parts k before [] s = ap (λ ys. Ok (plain_pattern ys k)) (sym (append-nil before))
  parts k before (x ∷ xs) s =
      ap (λ r. r >>= λ more. with_parts (two how calls ds known) scope more xs) (one_part (plain_pattern before k) x x.factor (All-head (IsSpelledPart Two) x xs
      s)) ∙ parts k (before ++ summand x ∷ []) xs (All-tail (IsSpelledPart Two) x xs s)
      ∙ ap (λ ys. Ok (plain_pattern ys k)) (append_assoc before (summand x ∷ []) (map summand xs))

  gone_on : (o : Option Place) (m : Pattern) (f : Pattern → Result Arms TypeFault) → (where_none_repeated o (Ok m) >>= f) ≡ where_none_repeated o (f m)
  gone_on None m f = refl
  gone_on (Some p) m f = refl

  arms_of : (before : Arms) (xs : List PartTree) (k : ℤ) (body : RawTree) (arms : RawArmTrees) → All (IsSpelledPart Two) xs →
      walk_arms (two how calls ds known) scope before (raw_arm_more (raw_arm xs k body) arms) ≡
      where_none_repeated (repeated [] (map (λ x. x.name) (map summand xs)) (map (λ x. x.place) (map summand xs))) (
      walk (two how calls ds known) (scope ++ variables_of (map summand xs)) (after_arm before.next (map summand xs)) body >>= λ f.
      walk_arms (two how calls ds known) scope (with_arm before (plain_pattern (map summand xs) k) f) arms)
  arms_of before xs k body arms s =
      let go : Pattern → Result Arms TypeFault = λ m. walk (two how calls ds known) (scope ++ variables_of m.summands) (after_arm before.next m.summands) body
      >>= λ f. walk_arms (two how calls ds known) scope (with_arm before m f) arms in
      ap (λ r. (r >>= λ m. where_none_repeated (repeated [] (map (λ x. x.name) m.summands) (map (λ x. x.place) m.summands)) (
      where_no_fault (constant_fault (first_start xs) m.constants k) (
      Ok (record { summands = m.summands; constants = m.constants; constant = sum_with k m.constants })))) >>= go) (parts k [] xs s)
      ∙ gone_on (repeated [] (map (λ x. x.name) (map summand xs)) (map (λ x. x.place) (map summand xs))) (plain_pattern (map summand xs) k) go

-- ---- programs
no_more : (how : Linearity) (all before : List RawDefTree) (done : List DefTree) (n : ℕ) → walk_items Two how all [] before done n (map item_def []) ≡ Ok done
no_more how all before done n = refl

one_more : (how : Linearity) (all before : List RawDefTree) (done : List DefTree) (n : ℕ) (d : RawDefTree) (ds : List RawDefTree) →
    walk_items Two how all [] before done n (map item_def (d ∷ ds)) ≡
    (walk_def Two how all [] before n d >>= λ r. walk_items Two how all [] (before ++ d ∷ []) (done ++ r.0 ∷ []) r.1 (map item_def ds))
one_more how all before done n d ds = refl

functions : (how : Linearity) (all before : List RawDefTree) (n : ℕ) (d : RawDefTree) → walk_def Two how all [] before n d ≡
    where_kept (not (is_among (map (λ e. e.name) before) d.name)) (DuplicateName d.place) (
    where_none_repeated (repeated [] (names_of d.params) (map (λ p. p.place) d.params)) (
    walk (two how (callee_from (length before) 0 all) (reverse before) 0) d.params n d.body >>= λ f.
    where_kept (same_bases f.bases d.results) (Mismatch (place_of d.body)) (
    Ok (def_form d f, f.next))))
functions how all before n d = refl

-- the declarations of a program are its functions
functions_are : (ds : List RawDefTree) → functions_of (map item_def ds) ≡ ds
functions_are [] = refl
functions_are (d ∷ ds) = ap (λ es. d ∷ es) (functions_are ds)

pub items_are : (items : List RawItemTree) → IsSpelledProgram Two items → items ≡ map item_def (functions_of items)
items_are [] s = refl
items_are (item_const p x e ∷ items) s = absurd (All-head (IsSpelledItem Two) (item_const p x e) items s).0
items_are (item_def d ∷ items) s = ap (λ is. item_def d ∷ is) (items_are items (All-tail (IsSpelledItem Two) (item_def d) items s))

programs : (how : Linearity) (ds : List RawDefTree) → checked Two how (map item_def ds) ≡
    (walk_items Two how ds [] [] [] 1 (map item_def ds) >>= λ defs. with_main defs (main_from 0 ds) >>= sized)
programs how ds = ap (λ all. walk_items Two how all [] [] [] 1 (map item_def ds) >>= λ defs. with_main defs (main_from 0 all) >>= sized) (functions_are ds)

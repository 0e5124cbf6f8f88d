-- A program that tokens spell has the forms of its edition, and the numbers and the lengths that the rules ask for.
use Rattle.std.proofs.Common.{◌≡◌, zero, suc, negsuc, ◌≤◌, ◌-◌, ◌^◌, ℕ, ℤ, pos, List, [], ◌∷◌, length, map, All, Option, Some, None, refl, sym, ap, subst, arith, inl, inr, ◌∙◌}
use Rattle.std.specs.Prelude.{neg_ℤ}
use Rattle.std.proofs.lemmas.List.{length-map}
use Rattle.std.proofs.lemmas.List.Elements.{All-nil, All-cons}
use Rattle.cf_num.specs.Limit.{IsWithin}
use Rattle.cf_tree.specs.declared.base.Edition.{Edition}
use Rattle.cf_tree.specs.declared.base.Edition.TheVariants.{Two, Three}
use Rattle.cf_tree.specs.declared.base.Order.{Order}
use Rattle.cf_tree.specs.declared.base.Place.{Place}
use Rattle.cf_tree.specs.declared.raw.BinOp.{BinOp}
use Rattle.cf_tree.specs.declared.raw.BinOp.TheVariants.{Add, Sub, Mul, And, Or, Union, Inter, Diff, Subset, Implies, Compare}
use Rattle.cf_tree.specs.declared.raw.Param.{Param}
use Rattle.cf_tree.specs.DefView.{RawDefTree, RawItemTree, item_const, item_def}
use Rattle.cf_tree.specs.RawTree.{NumberTree, number_lit, number_name, PartTree, RawTree, raw_lit, raw_truth, raw_name, raw_set_of, raw_group, raw_tuple, raw_neg, raw_not, raw_abs, raw_binary, raw_chain, raw_min, raw_max, raw_divides, raw_div, raw_mod, raw_card, raw_call, raw_if, raw_let, raw_choose, raw_match, RawTrees, no_raws, raw_more, RawArmTree, raw_arm, RawArmTrees, no_raw_arms, raw_arm_more, GivenTree, no_given, given_that, AimTree, no_aim, aim_at}
use Rattle.cf_lex.specs.Tokens.{AreWithin}
use Rattle.cf_lex.specs.declared.token.Token.{Token}
use Rattle.cf_lex.specs.declared.token.TokenKind.{TokenKind}
use Rattle.cf_reader.proofs.Keeps.{Small, Keeps, behind, both, past, given, inside, never, first_keeps, one, skip, closed, name_keeps, function_keeps, next_function_keeps, literal_keeps, next_literal_keeps, any_keeps, several_keep, one_or_tuple_keeps, base_keeps}
use Rattle.cf_reader.specs.Kinds.{SpellsBase}
use Rattle.cf_reader.specs.Tokens.{Form, IsThree}
use Rattle.cf_parse.specs.declared.sign.TermSign.{TermSign}
use Rattle.cf_parse.specs.declared.sign.TermSign.TheVariants.{Plus, Minus}
use Rattle.cf_parse.specs.Spelling.{SpellsParam, SpellsOutputs, SpellsName, SpellsNames, FirstNumber, NextNumber, FirstOp, signed, SpellsProduct, SpellsPart, SpellsSignedPart, SpellsConstant, SpellsTerms, SpellsPattern, IsChain, Spells, SpellsItems, SpellsOthers, SpellsTwoOrMore, SpellsLinks, SpellsGiven, SpellsAim, SpellsArm, SpellsArms}
use Rattle.cf_parse.specs.Programs.{SpellsDef, SpellsItem, SpellsAll, SpellsSome, IsProgram}
use Rattle.cf_program.specs.Source.{IsThree as IsOfThree, IsSpelledDivisor, IsSpelledFactor, IsSpelledPart, IsSpelledOp, AreSpelledHidden, AreSeveral, count_of_raws, IsSpelledRaw, IsSpelledGiven, IsSpelledAim, AreSpelledRaws, AreSpelledArms, IsSpelledDef, IsSpelledItem, IsSpelledProgram}

three : (edition : Edition) → IsThree edition → IsOfThree edition
three Two h = h
three Three h = h

-- numbers with a minus before them, and patterns

pub neg_within : (n : ℤ) → IsWithin n → IsWithin (neg_ℤ n)
neg_within (pos zero) h = h
neg_within (pos (suc n)) h = h
neg_within (negsuc n) h = h

signed_within : (sign : TermSign) (n : ℤ) → IsWithin n → IsWithin (signed sign n)
signed_within Plus n h = h
signed_within Minus n h = neg_within n h

pub none_within : IsWithin (pos 0)
none_within = omega arith

product_keeps : (edition : Edition) (p : Place) (factor : Option NumberTree) (x : Place × List ℕ) →
    Keeps (SpellsProduct edition p factor x) (IsSpelledFactor edition factor)
product_keeps edition p None x = inside (name_keeps edition x.0 x.1)
product_keeps edition p (Some (number_lit k)) x = behind (λ h. h.0.1) (both (literal_keeps (pos 0) p k) (skip (name_keeps edition x.0 x.1)))
product_keeps edition p (Some (number_name q y)) x =
    behind (λ h. three edition h.0.0) (given (past (name_keeps edition q y) (skip (name_keeps edition x.0 x.1))))

part_keeps : (edition : Edition) (x : PartTree) → Keeps (SpellsPart edition x) (IsSpelledPart edition x)
part_keeps edition x = inside (product_keeps edition x.start x.factor (x.place, x.name))

signed_part_keeps : (edition : Edition) (sign : TermSign) (x : PartTree) → Keeps (SpellsSignedPart edition sign x) (IsSpelledPart edition x)
signed_part_keeps edition sign x = record {
  keeps = λ ts us s w. (past (first_keeps x.start _) (product_keeps edition w.1.0 x.factor (x.place, x.name))).keeps ts us s w.1.1;
}

constant_keeps : (sign : TermSign) (constant : ℤ) → Keeps (SpellsConstant sign constant) (IsWithin constant)
constant_keeps sign constant = record {
  keeps = λ ts us s h.
      let l = (next_literal_keeps (pos 0) h.0).keeps ts us s h.1 in
      (rw h.2 (signed_within sign h.0 l.0.1), l.1);
}

-- the factors and the constant of a pattern
abbrev PatternFine : Edition → List PartTree → ℤ → Type 0
PatternFine edition parts constant = All (IsSpelledPart edition) parts × IsWithin constant

terms_on : (edition : Edition) (parts : List PartTree) (constant : ℤ) (ts us : List Token) → Small ts → SpellsTerms edition parts constant ts us →
    PatternFine edition parts constant × Small us
terms_on edition [] constant ts us s (inl h) = ((All-nil (IsSpelledPart edition), rw h.1 none_within), subst Small h.0 s)
terms_on edition [] constant ts us s (inr h) =
    let c = (skip (constant_keeps h.0 constant)).keeps ts us s h.1 in
    ((All-nil (IsSpelledPart edition), c.0), c.1)
terms_on edition (x ∷ xs) constant ts us s h =
    let c = (both (signed_part_keeps edition h.0 x) (record { keeps = terms_on edition xs constant })).keeps ts us s h.1 in
    ((All-cons (IsSpelledPart edition) x xs c.0.0 c.0.1.0, c.0.1.1), c.1)

terms_keep : (edition : Edition) (parts : List PartTree) (constant : ℤ) → Keeps (SpellsTerms edition parts constant) (PatternFine edition parts constant)
terms_keep edition parts constant = record { keeps = terms_on edition parts constant }

pattern_on : (edition : Edition) (parts : List PartTree) (constant : ℤ) (ts us : List Token) → Small ts → SpellsPattern edition parts constant ts us →
    PatternFine edition parts constant × Small us
pattern_on edition [] constant ts us s (inl h) =
    let c = (constant_keeps Plus constant).keeps ts us s h in ((All-nil (IsSpelledPart edition), c.0), c.1)
pattern_on edition [] constant ts us s (inr h) =
    let c = (skip (constant_keeps Minus constant)).keeps ts us s h in ((All-nil (IsSpelledPart edition), c.0), c.1)
pattern_on edition (x ∷ xs) constant ts us s (inl h) =
    let c = (both (part_keeps edition x) (terms_keep edition xs constant)).keeps ts us s h in
    ((All-cons (IsSpelledPart edition) x xs c.0.0 c.0.1.0, c.0.1.1), c.1)
pattern_on edition (x ∷ xs) constant ts us s (inr h) =
    let c = (both (signed_part_keeps edition Minus x) (terms_keep edition xs constant)).keeps ts us s h in
    ((All-cons (IsSpelledPart edition) x xs c.0.0 c.0.1.0, c.0.1.1), c.1)

pattern_keeps : (edition : Edition) (parts : List PartTree) (constant : ℤ) → Keeps (SpellsPattern edition parts constant) (PatternFine edition parts constant)
pattern_keeps edition parts constant = record { keeps = pattern_on edition parts constant }

-- numbers and operations

number_keeps : (edition : Edition) (k : NumberTree) → Keeps (NextNumber edition k) (IsSpelledDivisor edition k)
number_keeps edition (number_lit k) = next_literal_keeps (pos 1) k
number_keeps edition (number_name p x) = behind (λ h. three edition h.0) (given (name_keeps edition p x))

first_number_keeps : (edition : Edition) (p : Place) (k : NumberTree) → Keeps (FirstNumber edition p k) (IsSpelledDivisor edition k)
first_number_keeps edition p (number_lit k) = literal_keeps (pos 1) p k
first_number_keeps edition p (number_name q x) = behind (λ h. three edition h.0.0) (given (name_keeps edition p x))

op_keeps : (edition : Edition) (op : BinOp) (p : Place) → Keeps (FirstOp op edition p) (IsSpelledOp edition op)
op_keeps edition Implies p = behind (λ h. three edition h.0) (given (first_keeps p _))
op_keeps edition Add p = first_keeps p _
op_keeps edition Sub p = first_keeps p _
op_keeps edition Mul p = first_keeps p _
op_keeps edition And p = first_keeps p _
op_keeps edition Or p = first_keeps p _
op_keeps edition Union p = first_keeps p _
op_keeps edition Inter p = first_keeps p _
op_keeps edition Diff p = first_keeps p _
op_keeps edition Subset p = first_keeps p _
op_keeps edition (Compare order) p = first_keeps p _

-- parameters and names

param_keeps : (edition : Edition) (x : Param) → Keeps (SpellsParam edition x) (Unit {0})
param_keeps edition x = past (name_keeps edition x.place x.name) (skip (one _))

outputs_keep : (edition : Edition) (outputs hidden : List Param) →
    Keeps (SpellsOutputs edition outputs hidden) ((1 ≤ length outputs) × AreSpelledHidden edition hidden)
outputs_keep edition outputs [] = behind (λ h. (h, tt)) (several_keep (SpellsParam edition) _ _ (param_keeps edition) outputs)
outputs_keep edition outputs (x ∷ hidden) =
    behind (λ h. (h.1.0, three edition h.0)) (given (both (several_keep (SpellsParam edition) _ _ (param_keeps edition) outputs)
    (several_keep (SpellsParam edition) _ _ (param_keeps edition) (x ∷ hidden))))

as_many_names : (names : List (List ℕ)) (places : List Place) (xs : List (Place × List ℕ)) → names ≡ map (λ x. x.1) xs → places ≡ map (λ x. x.0) xs →
    1 ≤ length xs →
    (1 ≤ length names) × (length places ≡ length names)
as_many_names names places xs e f some =
    let many : length names ≡ length xs = ap length e ∙ length-map xs (λ x. x.1) in
    let as_many : length places ≡ length xs = ap length f ∙ length-map xs (λ x. x.0) in
    (rw many some, as_many ∙ sym many)

names_keep : (edition : Edition) (names : List (List ℕ)) (places : List Place) →
    Keeps (SpellsNames edition names places) ((1 ≤ length names) × (length places ≡ length names))
names_keep edition names places = record {
  keeps = λ ts us s w.
      let k = (one_or_tuple_keeps (SpellsName edition) (λ x. name_keeps edition x.0 x.1) w.0).keeps ts us s w.3 in
      (as_many_names names places w.0 w.1 w.2 k.0, k.1);
}

-- what is given, and the aim, once it is known of their trees

abbrev TreeKept : Edition → RawTree → Type 0
TreeKept edition e = Keeps (Spells edition e) (IsSpelledRaw edition e)

abbrev GivenKept : Edition → GivenTree → Type 0
GivenKept edition no_given = Unit {0}
GivenKept edition (given_that p e) = TreeKept edition e

abbrev AimKept : Edition → AimTree → Type 0
AimKept edition no_aim = Unit {0}
AimKept edition (aim_at p sense e) = TreeKept edition e

given_keeps : {X : Form} {P : Type 0} (edition : Edition) (gv : GivenTree) → GivenKept edition gv → Keeps X P →
    Keeps (SpellsGiven edition gv X) (IsSpelledGiven edition gv × P)
given_keeps edition no_given k x = behind (λ h. (tt, h)) x
given_keeps edition (given_that p e) k x = behind (λ h. ((three edition h.0, h.1.0), h.1.1)) (given (past (first_keeps p _) (both k x)))

aim_keeps : {X : Form} {P : Type 0} (edition : Edition) (aim : AimTree) (rel : RawTree) → AimKept edition aim → Keeps X P →
    Keeps (SpellsAim edition aim rel X) (P × IsSpelledAim edition aim)
aim_keeps edition no_aim rel k x = behind (λ h. (h, tt)) x
aim_keeps edition (aim_at p sense e) rel k x = behind (λ h. (h.1.0, (three edition h.0.0, h.1.1))) (given (both x (past (first_keeps p _) k)))

-- the orders of a chain and the parts behind them
abbrev LinksFine : Edition → RawTrees → List Order → List Place → Type 0
LinksFine edition es orders places = (length places ≡ length orders) × (count_of_raws es ≡ length orders) × AreSpelledRaws edition es

chain_two : (p : Place) (orders : List Order) (places : List Place) → IsChain p orders places → 2 ≤ length orders
chain_two p orders [] c = absurd c
chain_two p orders (q ∷ places) c = c.1

-- an arm and those behind it
abbrev ArmFine : Edition → RawArmTree → Type 0
ArmFine edition (raw_arm parts k body) = All (IsSpelledPart edition) parts × IsWithin k × IsSpelledRaw edition body

arm_and : (edition : Edition) (arm : RawArmTree) (arms : RawArmTrees) → ArmFine edition arm → AreSpelledArms edition arms →
    AreSpelledArms edition (raw_arm_more arm arms)
arm_and edition (raw_arm parts k body) arms a b = (a.0, a.1, a.2, b)

mutual
  tree_keeps : (edition : Edition) (e : RawTree) → Keeps (Spells edition e) (IsSpelledRaw edition e)
  tree_keeps edition (raw_lit p k) = behind (λ h. h.1) (literal_keeps (pos 0) p k)
  tree_keeps edition (raw_truth p t) = first_keeps p _
  tree_keeps edition (raw_name p x) = name_keeps edition p x
  tree_keeps edition (raw_set_of p es) = past (first_keeps p _) (items_keep edition es _)
  tree_keeps edition (raw_group p e) = past (first_keeps p _) (closed (tree_keeps edition e))
  tree_keeps edition (raw_tuple p no_raws) = never
  tree_keeps edition (raw_tuple p (raw_more e no_raws)) = never
  tree_keeps edition (raw_tuple p (raw_more e (raw_more f es))) =
      behind (λ h. (tt, h)) (past (first_keeps p _) (both (tree_keeps edition e) (others_keep edition (raw_more f es) _)))
  tree_keeps edition (raw_neg p e) = past (first_keeps p _) (inside (tree_keeps edition e))
  tree_keeps edition (raw_not p e) = past (first_keeps p _) (inside (tree_keeps edition e))
  tree_keeps edition (raw_abs p e) = past (first_keeps p _) (skip (closed (tree_keeps edition e)))
  tree_keeps edition (raw_card p e) = past (first_keeps p _) (skip (closed (tree_keeps edition e)))
  tree_keeps edition (raw_binary p op e f) =
      behind (λ h. (h.1.0, h.0, h.1.1)) (both (inside (tree_keeps edition e)) (both (op_keeps edition op p) (inside (tree_keeps edition f))))
  tree_keeps edition (raw_chain p orders places no_raws) = never
  tree_keeps edition (raw_chain p orders places (raw_more e es)) =
      behind (λ h. (three edition h.0.0, (chain_two p orders places h.0.1, h.1.1.0, ap suc h.1.1.1), (h.1.0, h.1.1.2)))
      (given (both (inside (tree_keeps edition e)) (links_keep edition es orders places)))
  tree_keeps edition (raw_min p es) = behind (λ h. (three edition h.0, h.1.0, h.1.1)) (given (past (first_keeps p _) (skip (two_keep edition es))))
  tree_keeps edition (raw_max p es) = behind (λ h. (three edition h.0, h.1.0, h.1.1)) (given (past (first_keeps p _) (skip (two_keep edition es))))
  tree_keeps edition (raw_divides p k e) = both (first_number_keeps edition p k) (skip (inside (tree_keeps edition e)))
  tree_keeps edition (raw_div p e k) =
      behind (λ h. (h.1, h.0)) (past (first_keeps p _) (skip (both (tree_keeps edition e) (skip (closed (number_keeps edition k))))))
  tree_keeps edition (raw_mod p e k) =
      behind (λ h. (h.1, h.0)) (past (first_keeps p _) (skip (both (tree_keeps edition e) (skip (closed (number_keeps edition k))))))
  tree_keeps edition (raw_call p x es) = past (function_keeps edition p x) (skip (items_keep edition es _))
  tree_keeps edition (raw_if p e f g) = behind (λ h. (h.0, h.1.0, h.1.1))
      (past (first_keeps p _) (both (tree_keeps edition e) (skip (both (tree_keeps edition f) (skip (tree_keeps edition g))))))
  tree_keeps edition (raw_let p names places e f) = behind (λ h. (h.0.0, h.0.1, h.1.0, h.1.1))
      (past (first_keeps p _) (both (names_keep edition names places) (skip (both (tree_keeps edition e) (skip (tree_keeps edition f))))))
  tree_keeps edition (raw_choose p outputs hidden gv e aim) = behind (λ h. (h.0.0, h.0.1, h.1.0, h.1.1.0, h.1.1.1))
      (past (first_keeps p _) (skip (both (outputs_keep edition outputs hidden)
      (given_keeps edition gv (given_kept edition gv) (skip (aim_keeps edition aim e (aim_kept edition aim) (inside (tree_keeps edition e))))))))
  tree_keeps edition (raw_match p e no_raw_arms) = never
  tree_keeps edition (raw_match p e (raw_arm_more arm arms)) = behind (λ h. (tt, h.0, arm_and edition arm arms h.1.0 h.1.1))
      (past (first_keeps p _) (both (tree_keeps edition e) (skip (skip (both (arm_keeps edition arm) (arms_keep edition arms))))))

  given_kept : (edition : Edition) (gv : GivenTree) → GivenKept edition gv
  given_kept edition no_given = tt
  given_kept edition (given_that p e) = tree_keeps edition e

  aim_kept : (edition : Edition) (aim : AimTree) → AimKept edition aim
  aim_kept edition no_aim = tt
  aim_kept edition (aim_at p sense e) = tree_keeps edition e

  items_keep : (edition : Edition) (es : RawTrees) (close : TokenKind) → Keeps (SpellsItems edition es close) (AreSpelledRaws edition es)
  items_keep edition no_raws close = one close
  items_keep edition (raw_more e es) close = both (tree_keeps edition e) (others_keep edition es close)

  others_keep : (edition : Edition) (es : RawTrees) (close : TokenKind) → Keeps (SpellsOthers edition es close) (AreSpelledRaws edition es)
  others_keep edition no_raws close = one close
  others_keep edition (raw_more e es) close = skip (both (tree_keeps edition e) (others_keep edition es close))

  two_keep : (edition : Edition) (es : RawTrees) → Keeps (SpellsTwoOrMore edition es) (AreSeveral es × AreSpelledRaws edition es)
  two_keep edition no_raws = never
  two_keep edition (raw_more e no_raws) = never
  two_keep edition (raw_more e (raw_more f es)) = behind (λ h. (tt, h)) (both (tree_keeps edition e) (others_keep edition (raw_more f es) _))

  links_keep : (edition : Edition) (es : RawTrees) (orders : List Order) (places : List Place) →
      Keeps (SpellsLinks edition es orders places) (LinksFine edition es orders places)
  links_keep edition no_raws [] [] = record { keeps = λ ts us s w. ((refl, refl, tt), subst Small w s) }
  links_keep edition no_raws [] (p ∷ places) = record { keeps = λ ts us s w. absurd w }
  links_keep edition no_raws (order ∷ orders) places = record { keeps = λ ts us s w. absurd w }
  links_keep edition (raw_more e es) [] places = record { keeps = λ ts us s w. absurd w }
  links_keep edition (raw_more e es) (order ∷ orders) [] = record { keeps = λ ts us s w. absurd w }
  links_keep edition (raw_more e es) (order ∷ orders) (p ∷ places) = record {
    keeps = λ ts us s w.
        let k = (past (first_keeps p _) (both (inside (tree_keeps edition e)) (links_keep edition es orders places))).keeps ts us s w in
        ((ap suc k.0.1.0, ap suc k.0.1.1, (k.0.0, k.0.1.2)), k.1);
  }

  arm_keeps : (edition : Edition) (arm : RawArmTree) → Keeps (SpellsArm edition arm) (ArmFine edition arm)
  arm_keeps edition (raw_arm parts k body) = behind (λ h. (h.0.0, h.0.1, h.1)) (both (pattern_keeps edition parts k) (skip (tree_keeps edition body)))

  arms_keep : (edition : Edition) (arms : RawArmTrees) → Keeps (SpellsArms edition arms) (AreSpelledArms edition arms)
  arms_keep edition no_raw_arms = one _
  arms_keep edition (raw_arm_more arm arms) =
      behind (λ h. arm_and edition arm arms h.0 h.1) (skip (both (arm_keeps edition arm) (arms_keep edition arms)))

def_keeps : (edition : Edition) (depth : ℕ) (d : RawDefTree) → Keeps (SpellsDef edition depth d) (IsSpelledDef edition d)
def_keeps edition depth d =
    past (first_keeps d.place _) (past (next_function_keeps edition d.name) (skip (past (any_keeps (SpellsParam edition) (λ x. Unit {0}) _ _ (param_keeps edition)
    d.params) (skip (both (one_or_tuple_keeps SpellsBase base_keeps d.results) (skip (inside (tree_keeps edition d.body))))))))

item_keeps : (edition : Edition) (depth : ℕ) (x : RawItemTree) → Keeps (SpellsItem edition depth x) (IsSpelledItem edition x)
item_keeps edition depth (item_def d) = def_keeps edition depth d
item_keeps edition depth (item_const p x e) =
    behind (λ h. (three edition h.0, h.1)) (given (skip (past (name_keeps edition p x) (skip (inside (tree_keeps edition e))))))

items_spelled : (edition : Edition) (depth : ℕ) (xs : List RawItemTree) (ts : List Token) → SpellsAll edition depth xs ts → Small ts → IsSpelledProgram edition xs
items_spelled edition depth [] ts h w = All-nil (IsSpelledItem edition)
items_spelled edition depth (x ∷ xs) ts h w =
    let a = (item_keeps edition depth x).keeps ts h.0 w h.1 in
    All-cons (IsSpelledItem edition) x xs a.0 (items_spelled edition depth xs h.0 h.2 a.1)

some_spelled : (edition : Edition) (depth : ℕ) (xs : List RawItemTree) (ts : List Token) → SpellsSome edition depth xs ts → Small ts → IsSpelledProgram edition xs
some_spelled edition depth [] ts h w = absurd h
some_spelled edition depth (x ∷ xs) ts h w = items_spelled edition depth (x ∷ xs) ts h w

-- what tokens spell is a program for the rules; one of language 2 has functions alone, and no form of edition 3
pub spelled_program : (edition : Edition) (xs : List RawItemTree) (ts : List Token) → IsProgram edition xs ts → AreWithin (2 ^ 127 - 1) ts → IsSpelledProgram edition xs
spelled_program Two xs ts h w = some_spelled Two 200 xs ts h w
spelled_program Three xs ts h w = some_spelled Three 200 xs h.0 h.2 ((skip (one _)).keeps ts h.0 w h.1).1

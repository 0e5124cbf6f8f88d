-- Which tokens spell an expression: the grammar, by cases on the tree.
use Rattle.std.specs.Prelude.{◌≡◌, ◌≤◌, ◌⊎◌, ◌||◌, ℕ, ℤ, pos, neg_ℤ, Bool, true, false, List, [], ◌∷◌, length, map, Option, Some, None, codes}
use Rattle.std.specs.List.{list_all}
use Rattle.cf_tree.specs.declared.base.Edition.{Edition}
use Rattle.cf_tree.specs.declared.base.Edition.TheVariants.{Two, Three}
use Rattle.cf_lex.specs.declared.token.TokenKind.{TokenKind}
use Rattle.cf_lex.specs.declared.token.TokenKind.TheVariants.{Word, Sign}
use Rattle.cf_tree.specs.declared.base.Order.{Order}
use Rattle.cf_tree.specs.declared.base.Order.TheVariants.{Eq, Ne, Lt, Le, Gt, Ge}
use Rattle.cf_tree.specs.declared.base.Place.{Place}
use Rattle.cf_tree.specs.declared.base.Sense.{Sense}
use Rattle.cf_tree.specs.declared.base.Sense.TheVariants.{Least, Greatest}
use Rattle.cf_tree.specs.declared.raw.BinOp.{BinOp}
use Rattle.cf_tree.specs.declared.raw.BinOp.TheVariants.{Add, Sub, Mul, And, Or, Union, Inter, Diff, Subset, Implies, Compare}
use Rattle.cf_tree.specs.declared.raw.Param.{Param}
use Rattle.cf_tree.specs.RawTree.{NumberTree, number_lit, number_name, PartTree, RawTree, raw_lit, raw_truth, raw_name, raw_set_of, raw_group, raw_tuple, raw_neg, raw_not, raw_abs, raw_binary, raw_chain, raw_min, raw_max, raw_divides, raw_div, raw_mod, raw_card, raw_call, raw_if, raw_let, raw_choose, raw_match, RawTrees, no_raws, raw_more, RawArmTree, raw_arm, RawArmTrees, no_raw_arms, raw_arm_more, GivenTree, no_given, given_that, AimTree, no_aim, aim_at}
use Rattle.cf_reader.specs.Tokens.{Form, ◌⨟◌, Nothing, IsThree, If, First, Next, FirstName, FirstFunction, FirstLiteral, NextLiteral, Several, OneOrTuple}
use Rattle.cf_reader.specs.Kinds.{base_kind, truth_kind, order_kind}
use Rattle.cf_reader.specs.Operations.{op_kind}
use Rattle.cf_parse.specs.declared.sign.TermSign.{TermSign}
use Rattle.cf_parse.specs.declared.sign.TermSign.TheVariants.{Plus, Minus}
use Rattle.cf_parse.specs.declared.tier.Tier.{Tier}
use Rattle.cf_parse.specs.declared.tier.Tier.TheVariants.{Whole, Imps, Ors, Ands, Cmps, Sums, Muls, Unary}

-- how far inside a tier is
abbrev pub rank : Tier → ℕ
rank Whole = 0
rank Imps = 1
rank Ors = 2
rank Ands = 3
rank Cmps = 4
rank Sums = 5
rank Muls = 6
rank Unary = 7

-- the tier next inside
abbrev pub under : Tier → Tier
under Whole = Imps
under Imps = Ors
under Ors = Ands
under Ands = Cmps
under Cmps = Sums
under Sums = Muls
under Muls = Unary
under Unary = Unary

-- the tier of an operation
abbrev pub op_tier : BinOp → Tier
op_tier Implies = Imps
op_tier Or = Ors
op_tier And = Ands
op_tier (Compare order) = Cmps
op_tier Subset = Cmps
op_tier Add = Sums
op_tier Sub = Sums
op_tier Union = Sums
op_tier Diff = Sums
op_tier Mul = Muls
op_tier Inter = Muls

-- the tier of an operation's left side: operations of one tier group to the left, a comparison has no comparison as its side, and ==> groups to the right
abbrev pub left_tier : Tier → Tier
left_tier Whole = Whole
left_tier Imps = Ors
left_tier Ors = Ors
left_tier Ands = Ands
left_tier Cmps = Sums
left_tier Sums = Sums
left_tier Muls = Muls
left_tier Unary = Unary

-- the tier of an operation's right side
abbrev pub right_tier : Tier → Tier
right_tier Whole = Imps
right_tier Imps = Imps
right_tier Ors = Ands
right_tier Ands = Cmps
right_tier Cmps = Sums
right_tier Sums = Muls
right_tier Muls = Unary
right_tier Unary = Unary

-- the tier of a form: it stands where a form of this tier, or of one further out, is asked
abbrev pub tier_of : RawTree → Tier
tier_of (raw_lit p k) = Unary
tier_of (raw_truth p t) = Unary
tier_of (raw_name p x) = Unary
tier_of (raw_set_of p es) = Unary
tier_of (raw_group p a) = Unary
tier_of (raw_tuple p es) = Unary
tier_of (raw_neg p a) = Unary
tier_of (raw_not p a) = Unary
tier_of (raw_abs p a) = Unary
tier_of (raw_binary p op a b) = op_tier op
tier_of (raw_chain p orders qs es) = Cmps
tier_of (raw_min p es) = Unary
tier_of (raw_max p es) = Unary
tier_of (raw_divides p k a) = Cmps
tier_of (raw_div p a k) = Unary
tier_of (raw_mod p a k) = Unary
tier_of (raw_card p a) = Unary
tier_of (raw_call p x es) = Unary
tier_of (raw_if p a b c) = Whole
tier_of (raw_let p xs qs a b) = Whole
tier_of (raw_choose p outputs hidden given a aim) = Whole
tier_of (raw_match p a arms) = Whole

abbrev pub Fits : Tier → RawTree → Type 0
Fits tier t = rank tier ≤ rank (tier_of t)

-- the tier of a relation: in language 2 a let, if, choose or match stands there only in parentheses
abbrev pub relation_tier : Edition → Tier
relation_tier Two = Ors
relation_tier Three = Whole

-- which way a chain runs: < and > do not meet in it, and != stands in none
abbrev pub is_upward : Order → Bool
is_upward Eq = true
is_upward Ne = false
is_upward Lt = true
is_upward Le = true
is_upward Gt = false
is_upward Ge = false

abbrev pub is_downward : Order → Bool
is_downward Eq = true
is_downward Ne = false
is_downward Lt = false
is_downward Le = false
is_downward Gt = true
is_downward Ge = true

abbrev pub runs_one_way : List Order → Bool
runs_one_way orders = list_all is_upward orders || list_all is_downward orders

-- a minimise or maximise behind the tree belongs to a choose at the end of it
abbrev pub takes_aim : RawTree → Bool
takes_aim (raw_choose p outputs hidden given a no_aim) = true
takes_aim (raw_choose p outputs hidden given a (aim_at q sense b)) = takes_aim b
takes_aim (raw_let p xs qs a b) = takes_aim b
takes_aim (raw_if p a b c) = takes_aim c
takes_aim (raw_lit p k) = false
takes_aim (raw_truth p t) = false
takes_aim (raw_name p x) = false
takes_aim (raw_set_of p es) = false
takes_aim (raw_group p a) = false
takes_aim (raw_tuple p es) = false
takes_aim (raw_neg p a) = false
takes_aim (raw_not p a) = false
takes_aim (raw_abs p a) = false
takes_aim (raw_binary p op a b) = false
takes_aim (raw_chain p orders qs es) = false
takes_aim (raw_min p es) = false
takes_aim (raw_max p es) = false
takes_aim (raw_divides p k a) = false
takes_aim (raw_div p a k) = false
takes_aim (raw_mod p a k) = false
takes_aim (raw_card p a) = false
takes_aim (raw_call p x es) = false
takes_aim (raw_match p a arms) = false

-- param = name ":" base
abbrev pub SpellsParam : Edition → Param → Form
SpellsParam edition x = FirstName edition x.place x.name ⨟ Next (Sign (codes ":")) ⨟ Next (base_kind x.base)

-- params [ ";" params ] ")", where the hidden ones stand behind the semicolon
abbrev pub SpellsOutputs : Edition → List Param → List Param → Form
SpellsOutputs edition outputs [] = Several (SpellsParam edition) (Sign (codes ",")) (Sign (codes ")")) outputs
SpellsOutputs edition outputs (x ∷ hidden) =
    If (IsThree edition) (Several (SpellsParam edition) (Sign (codes ",")) (Sign (codes ";")) outputs
    ⨟ Several (SpellsParam edition) (Sign (codes ",")) (Sign (codes ")")) (x ∷ hidden))

-- a name and its place
abbrev pub SpellsName : Edition → Place × List ℕ → Form
SpellsName edition x = FirstName edition x.0 x.1

-- names = name | "(" name "," name { "," name } ")"
abbrev pub SpellsNames : Edition → List (List ℕ) → List Place → Form
SpellsNames edition names places ts rest =
    (xs : List (Place × List ℕ)) × (names ≡ map (λ x. x.1) xs) × (places ≡ map (λ x. x.0) xs) × OneOrTuple (SpellsName edition) xs ts rest

-- k = literal | name, where a literal is at least 1
abbrev pub FirstNumber : Edition → Place → NumberTree → Form
FirstNumber edition p (number_lit k) = FirstLiteral (pos 1) p k
FirstNumber edition p (number_name q x) = If (IsThree edition × (q ≡ p)) (FirstName edition p x)

abbrev pub NextNumber : Edition → NumberTree → Form
NextNumber edition (number_lit k) = NextLiteral (pos 1) k
NextNumber edition (number_name p x) = If (IsThree edition) (FirstName edition p x)

-- the word or sign of an operation
abbrev pub FirstOp : BinOp → Edition → Place → Form
FirstOp Implies edition p = If (IsThree edition) (First p (op_kind Implies))
FirstOp op edition p = First p (op_kind op)

abbrev pub plus_or_minus : TermSign → TokenKind
plus_or_minus Plus = Sign (codes "+")
plus_or_minus Minus = Sign (codes "-")

abbrev pub is_minus : TermSign → Bool
is_minus Plus = false
is_minus Minus = true

-- the number as the sign before it makes it
abbrev pub signed : TermSign → ℤ → ℤ
signed Plus n = n
signed Minus n = neg_ℤ n

-- [ k "*" ] name, at this place: a part without its sign
abbrev pub SpellsProduct : Edition → Place → Option NumberTree → Place × List ℕ → Form
SpellsProduct edition p None x = If (p ≡ x.0) (FirstName edition x.0 x.1)
SpellsProduct edition p (Some (number_lit k)) x = FirstLiteral (pos 0) p k ⨟ Next (Sign (codes "*")) ⨟ FirstName edition x.0 x.1
SpellsProduct edition p (Some (number_name q y)) x =
    If (IsThree edition × (p ≡ q)) (FirstName edition q y ⨟ Next (Sign (codes "*")) ⨟ FirstName edition x.0 x.1)

-- a part behind its sign, or without one, which is as behind a plus
abbrev pub SpellsPart : Edition → PartTree → Form
SpellsPart edition x = If (x.is_negative ≡ false) (SpellsProduct edition x.start x.factor (x.place, x.name))

abbrev pub SpellsSignedPart : Edition → TermSign → PartTree → Form
SpellsSignedPart edition sign x ts rest =
    (x.is_negative ≡ is_minus sign) × ((p : Place) × (First x.start (plus_or_minus sign) ⨟ SpellsProduct edition p x.factor (x.place, x.name)) ts rest)

-- the constant, behind a plus or a minus
abbrev pub SpellsConstant : TermSign → ℤ → Form
SpellsConstant sign constant ts rest = (n : ℤ) × NextLiteral (pos 0) n ts rest × (constant ≡ signed sign n)

-- { ("+" | "-") part } [ ("+" | "-") literal ]
abbrev pub SpellsTerms : Edition → List PartTree → ℤ → Form
SpellsTerms edition [] constant ts rest =
    ((ts ≡ rest) × (constant ≡ pos 0)) ⊎ ((sign : TermSign) × (Next (plus_or_minus sign) ⨟ SpellsConstant sign constant) ts rest)
SpellsTerms edition (x ∷ xs) constant ts rest = (sign : TermSign) × (SpellsSignedPart edition sign x ⨟ SpellsTerms edition xs constant) ts rest

-- pattern = [ "-" ] part { ("+" | "-") part } [ ("+" | "-") literal ] | [ "-" ] literal
abbrev pub SpellsPattern : Edition → List PartTree → ℤ → Form
SpellsPattern edition [] constant ts rest = SpellsConstant Plus constant ts rest ⊎ (Next (Sign (codes "-")) ⨟ SpellsConstant Minus constant) ts rest
SpellsPattern edition (x ∷ xs) constant ts rest =
    (SpellsPart edition x ⨟ SpellsTerms edition xs constant) ts rest ⊎ (SpellsSignedPart edition Minus x ⨟ SpellsTerms edition xs constant) ts rest

-- the first order of a chain has its place; a chain has two orders or more
abbrev pub IsChain : Place → List Order → List Place → Type 0
IsChain p orders [] = ⊥
IsChain p orders (q ∷ places) = (p ≡ q) × (2 ≤ length orders) × (runs_one_way orders ≡ true)

abbrev pub sense_kind : Sense → TokenKind
sense_kind Least = Word (codes "minimise")
sense_kind Greatest = Word (codes "maximise")

abbrev mutual
  -- the tree is spelled by the tokens up to the rest
  pub Spells : Edition → RawTree → Form
  Spells edition (raw_lit p k) = FirstLiteral (pos 0) p k
  Spells edition (raw_truth p t) = First p (truth_kind t)
  Spells edition (raw_name p x) = FirstName edition p x
  Spells edition (raw_set_of p es) = First p (Sign (codes "{")) ⨟ SpellsItems edition es (Sign (codes "}"))
  Spells edition (raw_group p e) = First p (Sign (codes "(")) ⨟ Spells edition e ⨟ Next (Sign (codes ")"))
  Spells edition (raw_tuple p no_raws) = Nothing
  Spells edition (raw_tuple p (raw_more e no_raws)) = Nothing
  Spells edition (raw_tuple p (raw_more e (raw_more f es))) =
      First p (Sign (codes "(")) ⨟ Spells edition e ⨟ SpellsOthers edition (raw_more f es) (Sign (codes ")"))
  Spells edition (raw_neg p e) = First p (Sign (codes "-")) ⨟ If (Fits Unary e) (Spells edition e)
  Spells edition (raw_not p e) = First p (Sign (codes "!")) ⨟ If (Fits Unary e) (Spells edition e)
  Spells edition (raw_abs p e) = First p (Word (codes "abs")) ⨟ Next (Sign (codes "(")) ⨟ Spells edition e ⨟ Next (Sign (codes ")"))
  Spells edition (raw_card p e) = First p (Word (codes "card")) ⨟ Next (Sign (codes "(")) ⨟ Spells edition e ⨟ Next (Sign (codes ")"))
  Spells edition (raw_binary p op e f) =
      If (Fits (left_tier (op_tier op)) e) (Spells edition e) ⨟ FirstOp op edition p ⨟ If (Fits (right_tier (op_tier op)) f) (Spells edition f)
  Spells edition (raw_chain p orders places no_raws) = Nothing
  Spells edition (raw_chain p orders places (raw_more e es)) =
      If (IsThree edition × IsChain p orders places) (If (Fits Sums e) (Spells edition e) ⨟ SpellsLinks edition es orders places)
  Spells edition (raw_min p es) = If (IsThree edition) (First p (Word (codes "min")) ⨟ Next (Sign (codes "(")) ⨟ SpellsTwoOrMore edition es)
  Spells edition (raw_max p es) = If (IsThree edition) (First p (Word (codes "max")) ⨟ Next (Sign (codes "(")) ⨟ SpellsTwoOrMore edition es)
  Spells edition (raw_divides p k e) = FirstNumber edition p k ⨟ Next (Word (codes "divides")) ⨟ If (Fits Sums e) (Spells edition e)
  Spells edition (raw_div p e k) =
      First p (Word (codes "div")) ⨟ Next (Sign (codes "(")) ⨟ Spells edition e ⨟ Next (Sign (codes ",")) ⨟ NextNumber edition k ⨟ Next (Sign (codes ")"))
  Spells edition (raw_mod p e k) =
      First p (Word (codes "mod")) ⨟ Next (Sign (codes "(")) ⨟ Spells edition e ⨟ Next (Sign (codes ",")) ⨟ NextNumber edition k ⨟ Next (Sign (codes ")"))
  Spells edition (raw_call p x es) = FirstFunction edition p x ⨟ Next (Sign (codes "(")) ⨟ SpellsItems edition es (Sign (codes ")"))
  Spells edition (raw_if p e f g) =
      First p (Word (codes "if")) ⨟ Spells edition e ⨟ Next (Word (codes "then")) ⨟ Spells edition f ⨟ Next (Word (codes "else")) ⨟ Spells edition g
  Spells edition (raw_let p names places e f) =
      First p (Word (codes "let")) ⨟ SpellsNames edition names places ⨟ Next (Sign (codes "=")) ⨟ Spells edition e ⨟ Next (Word (codes "in"))
      ⨟ Spells edition f
  Spells edition (raw_choose p outputs hidden given e aim) =
      First p (Word (codes "choose")) ⨟ Next (Sign (codes "(")) ⨟ SpellsOutputs edition outputs hidden ⨟ SpellsGiven edition given (
      Next (Word (codes "where")) ⨟ SpellsAim edition aim e (If (Fits (relation_tier edition) e) (Spells edition e)))
  Spells edition (raw_match p e no_raw_arms) = Nothing
  Spells edition (raw_match p e (raw_arm_more arm arms)) =
      First p (Word (codes "match")) ⨟ Spells edition e ⨟ Next (Word (codes "with")) ⨟ Next (Sign (codes "{")) ⨟ SpellsArm edition arm
      ⨟ SpellsArms edition arms

  -- [ expr { "," expr } ] close
  pub SpellsItems : Edition → RawTrees → TokenKind → Form
  SpellsItems edition no_raws close = Next close
  SpellsItems edition (raw_more e es) close = Spells edition e ⨟ SpellsOthers edition es close

  -- { "," expr } close
  pub SpellsOthers : Edition → RawTrees → TokenKind → Form
  SpellsOthers edition no_raws close = Next close
  SpellsOthers edition (raw_more e es) close = Next (Sign (codes ",")) ⨟ Spells edition e ⨟ SpellsOthers edition es close

  -- expr "," expr { "," expr } ")"
  pub SpellsTwoOrMore : Edition → RawTrees → Form
  SpellsTwoOrMore edition no_raws = Nothing
  SpellsTwoOrMore edition (raw_more e no_raws) = Nothing
  SpellsTwoOrMore edition (raw_more e (raw_more f es)) = Spells edition e ⨟ SpellsOthers edition (raw_more f es) (Sign (codes ")"))

  -- the orders of a chain, each with the part behind it
  pub SpellsLinks : Edition → RawTrees → List Order → List Place → Form
  SpellsLinks edition no_raws [] [] ts rest = ts ≡ rest
  SpellsLinks edition no_raws [] (p ∷ places) ts rest = ⊥
  SpellsLinks edition no_raws (order ∷ orders) places ts rest = ⊥
  SpellsLinks edition (raw_more e es) [] places ts rest = ⊥
  SpellsLinks edition (raw_more e es) (order ∷ orders) [] ts rest = ⊥
  SpellsLinks edition (raw_more e es) (order ∷ orders) (p ∷ places) ts rest =
      (First p (order_kind order) ⨟ If (Fits Sums e) (Spells edition e) ⨟ SpellsLinks edition es orders places) ts rest

  -- [ "given" expr ] and what follows
  pub SpellsGiven : Edition → GivenTree → Form → Form
  SpellsGiven edition no_given X = X
  SpellsGiven edition (given_that p e) X = If (IsThree edition) (First p (Word (codes "given")) ⨟ Spells edition e ⨟ X)

  -- the relation and [ ("minimise" | "maximise") expr ], which belongs to the nearest where
  pub SpellsAim : Edition → AimTree → RawTree → Form → Form
  SpellsAim edition no_aim rel X = X
  SpellsAim edition (aim_at p sense e) rel X =
      If (IsThree edition × (takes_aim rel ≡ false)) (X ⨟ First p (sense_kind sense) ⨟ Spells edition e)

  -- marm = pattern "then" expr
  pub SpellsArm : Edition → RawArmTree → Form
  SpellsArm edition (raw_arm parts constant body) = SpellsPattern edition parts constant ⨟ Next (Word (codes "then")) ⨟ Spells edition body

  -- { ";" marm } "}"
  pub SpellsArms : Edition → RawArmTrees → Form
  SpellsArms edition no_raw_arms = Next (Sign (codes "}"))
  SpellsArms edition (raw_arm_more arm arms) = Next (Sign (codes ";")) ⨟ SpellsArm edition arm ⨟ SpellsArms edition arms

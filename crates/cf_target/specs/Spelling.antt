-- Which tokens spell a target: the grammar of target texts, by cases on the tree.
use Rattle.std.specs.Prelude.{◌≡◌, ◌≤◌, ◌<◌, ◌^◌, ◌⊎◌, ℕ, zero, suc, ℤ, pos, neg_ℤ, List, [], ◌++◌, codes, decimal}
use Rattle.cf_lex.specs.declared.token.Token.{Token}
use Rattle.cf_lex.specs.declared.token.TokenKind.{TokenKind}
use Rattle.cf_lex.specs.declared.token.TokenKind.TheVariants.{Literal, Word, Sign}
use Rattle.cf_tree.specs.declared.base.Base.{Base}
use Rattle.cf_tree.specs.declared.base.Edition.{Edition}
use Rattle.cf_tree.specs.declared.base.Edition.TheVariants.{Two, Three}
use Rattle.cf_tree.specs.CodeTree.{CodeTree, code_lit, code_truth, code_var, code_set_of, code_tuple, code_sum, code_sub, code_mul, code_neg, code_div, code_mod, code_min, code_max, code_compare, code_divides, code_and, code_or, code_not, code_union, code_inter, code_diff, code_subset, code_card, code_slice, code_fresh, code_if, code_let, code_solve, CodeTrees, no_codes, code_more, ItemTree, let_item, need_item, ItemTrees, no_items, item_more, ArmTree, arm_of, ArmTrees, no_arms, arm_more, count, code_depth}
use Rattle.cf_tree.specs.Spelled.{IsNumeral, IsNoTuple}
pub use Rattle.cf_tree.specs.DefView.{TargetTree, target_tree}
use Rattle.cf_reader.specs.Tokens.{Form, ◌⨟◌, Nothing, If, Next, NextLiteral, AnyNumber, OneOrTuple}
use Rattle.cf_reader.specs.Kinds.{truth_kind, order_kind, SpellsBase}

-- the name of a level: v and the level in decimal, without leading zeros
abbrev pub level_name : ℕ → List ℕ
level_name x = codes "v" ++ decimal x

-- a variable names a level below 2 ^ 32
abbrev pub SpellsVariable : ℕ → Form
SpellsVariable x = If (x < 2 ^ 32) (Next (Word (level_name x)))

-- { "," variable } ")", n variables that rise by 1 from x on
abbrev pub SpellsMoreVariables : ℕ → ℕ → Form
SpellsMoreVariables x zero = Next (Sign (codes ")"))
SpellsMoreVariables x (suc n) = Next (Sign (codes ",")) ⨟ SpellsVariable x ⨟ SpellsMoreVariables (suc x) n

-- vars = variable | "(" variable "," variable { "," variable } ")", n variables that rise by 1 from x on
abbrev pub SpellsVariables : ℕ → ℕ → Form
SpellsVariables x zero = Nothing
SpellsVariables x (suc zero) = SpellsVariable x
SpellsVariables x (suc (suc n)) = Next (Sign (codes "(")) ⨟ SpellsVariable x ⨟ SpellsMoreVariables (suc x) (suc n)

-- literal | "-" literal, where the literal behind a minus is not 0
abbrev pub SpellsNumber : ℤ → Form
SpellsNumber k ts rest = NextLiteral (pos 0) k ts rest ⊎ ((n : ℤ) × (Next (Sign (codes "-")) ⨟ NextLiteral (pos 1) n) ts rest × (k ≡ neg_ℤ n))

-- the literal of a division
abbrev pub SpellsDivisor : ℤ → Form
SpellsDivisor k = NextLiteral (pos 1) k

-- a literal other than 0 in 32 bits
abbrev pub SpellsNumeral : ℕ → Form
SpellsNumeral n = If (IsNumeral n) (Next (Literal (pos n)))

-- [ literal { "," literal } ] "]"
abbrev pub SpellsBounds : List ℕ → Form
SpellsBounds ns = AnyNumber SpellsNumeral (Sign (codes ",")) (Sign (codes "]")) ns

-- "(" and then what X spells up to its ")"
abbrev pub InBrackets : Form → Form
InBrackets X = Next (Sign (codes "(")) ⨟ X

-- word "(" and then what X spells up to its ")"
abbrev pub Called : List ℕ → Form → Form
Called word X = Next (Word word) ⨟ InBrackets X

-- a part "," and then what X spells
abbrev pub Before : (Part X : Form) → Form
Before Part X = Part ⨟ Next (Sign (codes ",")) ⨟ X

-- a part ")"
abbrev pub Last : Form → Form
Last Part = Part ⨟ Next (Sign (codes ")"))

-- "(" part operation part ")"
abbrev pub Pair : Form → TokenKind → Form → Form
Pair Left operation Right = InBrackets (Left ⨟ Next operation ⨟ Last Right)

abbrev mutual
  -- the code is spelled by the tokens up to the rest
  pub SpellsCode : CodeTree → Form
  SpellsCode (code_lit k) = SpellsNumber k
  SpellsCode (code_truth t) = Next (truth_kind t)
  SpellsCode (code_var x) = SpellsVariable x
  SpellsCode (code_set_of no_codes) = Next (Sign (codes "{")) ⨟ Next (Sign (codes "}"))
  SpellsCode (code_set_of (code_more c cs)) = Next (Sign (codes "{")) ⨟ SpellsCode c ⨟ SpellsOthers cs (Sign (codes ",")) (Sign (codes "}"))
  SpellsCode (code_tuple cs) = If (2 ≤ count cs) (InBrackets (SpellsCodes cs (Sign (codes ",")) (Sign (codes ")"))))
  SpellsCode (code_sum cs) = If (2 ≤ count cs) (InBrackets (SpellsCodes cs (Sign (codes "+")) (Sign (codes ")"))))
  SpellsCode (code_union cs) = If (2 ≤ count cs) (InBrackets (SpellsCodes cs (Word (codes "union")) (Sign (codes ")"))))
  SpellsCode (code_inter cs) = If (2 ≤ count cs) (InBrackets (SpellsCodes cs (Word (codes "inter")) (Sign (codes ")"))))
  SpellsCode (code_sub c d) = Pair (SpellsCode c) (Sign (codes "-")) (SpellsCode d)
  SpellsCode (code_mul c d) = Pair (SpellsCode c) (Sign (codes "*")) (SpellsCode d)
  SpellsCode (code_diff c d) = Pair (SpellsCode c) (Word (codes "diff")) (SpellsCode d)
  SpellsCode (code_compare o c d) = Pair (SpellsCode c) (order_kind o) (SpellsCode d)
  SpellsCode (code_subset c d) = Pair (SpellsCode c) (Word (codes "subset")) (SpellsCode d)
  SpellsCode (code_and c d) = Pair (SpellsCode c) (Sign (codes "&&")) (SpellsCode d)
  SpellsCode (code_or c d) = Pair (SpellsCode c) (Sign (codes "||")) (SpellsCode d)
  SpellsCode (code_divides k c) = Pair (SpellsDivisor k) (Word (codes "divides")) (SpellsCode c)
  SpellsCode (code_neg c) = Called (codes "neg") (Last (SpellsCode c))
  SpellsCode (code_not c) = Called (codes "not") (Last (SpellsCode c))
  SpellsCode (code_card c) = Called (codes "card") (Last (SpellsCode c))
  SpellsCode (code_div c k) = Called (codes "div") (Before (SpellsCode c) (Last (SpellsDivisor k)))
  SpellsCode (code_mod c k) = Called (codes "mod") (Before (SpellsCode c) (Last (SpellsDivisor k)))
  SpellsCode (code_min cs) = Called (codes "min") (SpellsCodes cs (Sign (codes ",")) (Sign (codes ")")))
  SpellsCode (code_max cs) = Called (codes "max") (SpellsCodes cs (Sign (codes ",")) (Sign (codes ")")))
  SpellsCode (code_slice c d e) = Called (codes "slice") (Before (SpellsCode c) (Before (SpellsCode d) (Last (SpellsCode e))))
  SpellsCode (code_fresh c d) = Called (codes "fresh") (Before (SpellsCode c) (Last (SpellsCode d)))
  SpellsCode (code_if t c d) =
      InBrackets (Next (Word (codes "if")) ⨟ SpellsCode t ⨟ Next (Word (codes "then")) ⨟ SpellsCode c ⨟ Next (Word (codes "else")) ⨟ Last (SpellsCode d))
  SpellsCode (code_let first n c d) =
      InBrackets (Next (Word (codes "let")) ⨟ SpellsVariables first n ⨟ Next (Sign (codes "=")) ⨟ SpellsCode c ⨟ Next (Word (codes "in")) ⨟ Last (SpellsCode d))
  SpellsCode (code_solve n arms) = Next (Word (codes "solve")) ⨟ SpellsNumeral n ⨟ Next (Sign (codes "{")) ⨟ SpellsArms arms

  -- code { separator code } close
  pub SpellsCodes : CodeTrees → TokenKind → TokenKind → Form
  SpellsCodes no_codes separator close = Nothing
  SpellsCodes (code_more c cs) separator close = SpellsCode c ⨟ SpellsOthers cs separator close

  -- { separator code } close
  pub SpellsOthers : CodeTrees → TokenKind → TokenKind → Form
  SpellsOthers no_codes separator close = Next close
  SpellsOthers (code_more c cs) separator close = Next separator ⨟ SpellsCode c ⨟ SpellsOthers cs separator close

  -- { arm } "}"
  pub SpellsArms : ArmTrees → Form
  SpellsArms no_arms = Next (Sign (codes "}"))
  SpellsArms (arm_more arm arms) = SpellsArm arm ⨟ SpellsArms arms

  -- arm = "arm" "[" [ literal { "," literal } ] "]" "{" { item } "give" code "}"
  pub SpellsArm : ArmTree → Form
  SpellsArm (arm_of bounds is gs) =
      Next (Word (codes "arm")) ⨟ Next (Sign (codes "[")) ⨟ SpellsBounds bounds ⨟ Next (Sign (codes "{")) ⨟ SpellsItems is ⨟ SpellsGives gs ⨟ Next
      (Sign (codes "}"))

  -- { item } "give"
  pub SpellsItems : ItemTrees → Form
  SpellsItems no_items = Next (Word (codes "give"))
  SpellsItems (item_more i is) = SpellsItem i ⨟ SpellsItems is

  -- item = "let" code ";" | "need" code ";"
  pub SpellsItem : ItemTree → Form
  SpellsItem (let_item c) = Next (Word (codes "let")) ⨟ SpellsCode c ⨟ Next (Sign (codes ";"))
  SpellsItem (need_item c) = Next (Word (codes "need")) ⨟ SpellsCode c ⨟ Next (Sign (codes ";"))

  -- what an arm gives: one code that is no tuple, or the parts of a tuple
  pub SpellsGives : CodeTrees → Form
  SpellsGives no_codes = Nothing
  SpellsGives (code_more c no_codes) = If (IsNoTuple c) (SpellsCode c)
  SpellsGives (code_more c (code_more d cs)) = Next (Sign (codes "(")) ⨟ SpellsCode c ⨟ SpellsOthers (code_more d cs) (Sign (codes ",")) (Sign (codes ")"))

-- [ base { "," base } ] ")"
abbrev pub SpellsBases : List Base → Form
SpellsBases bs = AnyNumber SpellsBase (Sign (codes ",")) (Sign (codes ")")) bs

-- the number in the header of a target
abbrev pub header_number : Edition → ℕ
header_number Two = 2
header_number Three = 3

-- a target of language 2 may lack its header
abbrev pub MayLackHeader : Edition → Type 0
MayLackHeader Two = Unit {0}
MayLackHeader Three = ⊥

-- [ "comfusy" "2" ], in edition 3 "comfusy" "3"
abbrev pub SpellsHeader : Edition → Form
SpellsHeader edition ts rest =
    (MayLackHeader edition × (ts ≡ rest)) ⊎ (Next (Word (codes "comfusy")) ⨟ Next (Literal (pos (header_number edition)))) ts rest

-- "main" "(" [ base { "," base } ] ")" ":" results "=" code
abbrev pub SpellsMain : TargetTree → Form
SpellsMain t =
    Next (Word (codes "main")) ⨟ Next (Sign (codes "(")) ⨟ SpellsBases t.params ⨟ Next (Sign (codes ":")) ⨟ OneOrTuple SpellsBase t.results ⨟ Next
    (Sign (codes "="))
    ⨟ SpellsCode t.code

-- a target whose code has at most this depth, up to a rest
abbrev pub SpellsPart : Edition → ℕ → TargetTree → Form
SpellsPart edition limit t = If (code_depth t.code ≤ limit) (SpellsHeader edition ⨟ SpellsMain t)

-- target = header "main" "(" [ base { "," base } ] ")" ":" results "=" code, up to the end, with a code of at most this depth
abbrev pub SpellsTarget : Edition → ℕ → TargetTree → List Token → Type 0
SpellsTarget edition limit t ts = (SpellsHeader edition ⨟ SpellsMain t) ts [] × (code_depth t.code ≤ limit)

-- the tokens spell the target, and the depth of its code is within the limit
abbrev pub IsTarget : Edition → TargetTree → List Token → Type 0
IsTarget edition t ts = SpellsTarget edition 500 t ts

-- The operations of both grammars: their words and signs, and how these are read.
use Rattle.std.specs.Prelude.{ℕ, List, Option, Some, None, codes, if◌then◌else◌}
use Rattle.std.specs.Str.{bytes_eq}
use Rattle.cf_tree.specs.declared.base.Edition.{Edition}
use Rattle.cf_tree.specs.declared.base.Edition.TheVariants.{Two, Three}
use Rattle.cf_lex.specs.declared.token.TokenKind.{TokenKind}
use Rattle.cf_lex.specs.declared.token.TokenKind.TheVariants.{Literal, Word, Sign}
use Rattle.cf_tree.specs.declared.base.Order.TheVariants.{Eq, Ne, Lt, Le, Gt, Ge}
use Rattle.cf_tree.specs.declared.raw.BinOp.{BinOp}
use Rattle.cf_tree.specs.declared.raw.BinOp.TheVariants.{Add, Sub, Mul, And, Or, Union, Inter, Diff, Subset, Implies, Compare}
use Rattle.cf_reader.specs.Kinds.{order_kind}

-- the word or sign of an operation
abbrev pub op_kind : BinOp → TokenKind
op_kind Implies = Sign (codes "==>")
op_kind Or = Sign (codes "||")
op_kind And = Sign (codes "&&")
op_kind (Compare order) = order_kind order
op_kind Subset = Word (codes "subset")
op_kind Add = Sign (codes "+")
op_kind Sub = Sign (codes "-")
op_kind Union = Word (codes "union")
op_kind Diff = Word (codes "diff")
op_kind Mul = Sign (codes "*")
op_kind Inter = Word (codes "inter")

abbrev pub word_op : List ℕ → Option BinOp
word_op x =
    if bytes_eq x (codes "union") then Some Union else
    if bytes_eq x (codes "diff") then Some Diff else
    if bytes_eq x (codes "inter") then Some Inter else
    if bytes_eq x (codes "subset") then Some Subset else None

abbrev pub compare_op : List ℕ → Option BinOp
compare_op x =
    if bytes_eq x (codes "==") then Some (Compare Eq) else
    if bytes_eq x (codes "!=") then Some (Compare Ne) else
    if bytes_eq x (codes "<") then Some (Compare Lt) else
    if bytes_eq x (codes "<=") then Some (Compare Le) else
    if bytes_eq x (codes ">") then Some (Compare Gt) else
    if bytes_eq x (codes ">=") then Some (Compare Ge) else None

abbrev pub sign_op_of_two : List ℕ → Option BinOp
sign_op_of_two x =
    if bytes_eq x (codes "||") then Some Or else
    if bytes_eq x (codes "&&") then Some And else
    if bytes_eq x (codes "+") then Some Add else
    if bytes_eq x (codes "-") then Some Sub else
    if bytes_eq x (codes "*") then Some Mul else compare_op x

abbrev pub sign_op : Edition → List ℕ → Option BinOp
sign_op Two x = sign_op_of_two x
sign_op Three x = if bytes_eq x (codes "==>") then Some Implies else sign_op_of_two x

-- the operation of a word or sign
unfoldable pub op_of : Edition → TokenKind → Option BinOp
op_of edition (Word x) = word_op x
op_of edition (Sign x) = sign_op edition x
op_of edition (Literal n) = None

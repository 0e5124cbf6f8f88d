-- Bases and truth values: their words, and how these are read.
use Rattle.std.specs.Prelude.{Bool, true, false, List, [], Some, None, codes, if◌then◌else◌}
use Rattle.std.specs.Str.{bytes_eq}
use Rattle.cf_lex.specs.declared.token.TokenKind.{TokenKind}
use Rattle.cf_lex.specs.declared.token.TokenKind.TheVariants.{Literal, Word, Sign}
use Rattle.cf_tree.specs.declared.base.Place.{Place}
use Rattle.cf_tree.specs.declared.base.Base.{Base}
use Rattle.cf_tree.specs.declared.base.Base.TheVariants.{Int, Bool as BoolBase, Set}
use Rattle.cf_tree.specs.declared.base.Order.{Order}
use Rattle.cf_tree.specs.declared.base.Order.TheVariants.{Eq, Ne, Lt, Le, Gt, Ge}
use Rattle.cf_reader.specs.Tokens.{Form, Next}
use Rattle.cf_reader.specs.Readers.{Reader, Test, must, snoc, one_or_tuple}

abbrev pub base_kind : Base → TokenKind
base_kind Int = Word (codes "int")
base_kind BoolBase = Word (codes "bool")
base_kind Set = Word (codes "set")

abbrev pub truth_kind : Bool → TokenKind
truth_kind true = Word (codes "true")
truth_kind false = Word (codes "false")

-- the sign of a comparison
abbrev pub order_kind : Order → TokenKind
order_kind Eq = Sign (codes "==")
order_kind Ne = Sign (codes "!=")
order_kind Lt = Sign (codes "<")
order_kind Le = Sign (codes "<=")
order_kind Gt = Sign (codes ">")
order_kind Ge = Sign (codes ">=")

abbrev pub SpellsBase : Base → Form
SpellsBase base = Next (base_kind base)

abbrev pub a_base : Test Base
a_base t = elim t.kind [
  | Word x ↦ if bytes_eq x (codes "int") then Some Int else if bytes_eq x (codes "bool") then Some BoolBase else if bytes_eq x (codes "set") then Some Set else
      None
  | Literal n ↦ None
  | Sign x ↦ None
]

abbrev pub a_truth : Test (Place × Bool)
a_truth t = elim t.kind [
  | Word x ↦ if bytes_eq x (codes "true") then Some (t.place, true) else if bytes_eq x (codes "false") then Some (t.place, false) else None
  | Literal n ↦ None
  | Sign x ↦ None
]

unfoldable pub results_of : Reader (List Base)
results_of = one_or_tuple snoc (must a_base) []

-- Forms whose parts are given, in the order in which they stand.
use Rattle.std.specs.Prelude.{◌≡◌}
use Rattle.cf_tree.specs.ExprTree.{ExprTree, expr_set_of, expr_tuple, expr_min, expr_max, expr_neg, expr_not, expr_abs, expr_divides, expr_div, expr_mod, expr_card, expr_call, expr_binary, expr_let, ExprTrees}
use Rattle.cf_tree.specs.RawTree.{RawTree, raw_set_of, raw_tuple, raw_min, raw_max, raw_group, raw_neg, raw_not, raw_abs, raw_divides, raw_div, raw_mod, raw_card, RawTrees}

-- an expression over a list
abbrev pub IsExprOverList : ExprTree → ExprTrees → Type 0
IsExprOverList (expr_set_of own) es = es ≡ own
IsExprOverList (expr_tuple own) es = es ≡ own
IsExprOverList (expr_min own) es = es ≡ own
IsExprOverList (expr_max own) es = es ≡ own
IsExprOverList (expr_call n own) es = es ≡ own
IsExprOverList _ es = ⊥

-- an expression with one part
abbrev pub IsExprOverOne : ExprTree → ExprTree → Type 0
IsExprOverOne (expr_neg a) e = e ≡ a
IsExprOverOne (expr_not a) e = e ≡ a
IsExprOverOne (expr_abs a) e = e ≡ a
IsExprOverOne (expr_divides k a) e = e ≡ a
IsExprOverOne (expr_div a k) e = e ≡ a
IsExprOverOne (expr_mod a k) e = e ≡ a
IsExprOverOne (expr_card a) e = e ≡ a
IsExprOverOne _ e = ⊥

-- an expression with two parts
abbrev pub IsExprOverTwo : ExprTree → ExprTree → ExprTree → Type 0
IsExprOverTwo (expr_binary op a b) d e = (d ≡ a) × (e ≡ b)
IsExprOverTwo (expr_let n a b) d e = (d ≡ a) × (e ≡ b)
IsExprOverTwo _ d e = ⊥

-- an expression as it is read, over a list
abbrev pub IsRawOverList : RawTree → RawTrees → Type 0
IsRawOverList (raw_set_of p own) es = es ≡ own
IsRawOverList (raw_tuple p own) es = es ≡ own
IsRawOverList (raw_min p own) es = es ≡ own
IsRawOverList (raw_max p own) es = es ≡ own
IsRawOverList _ es = ⊥

-- an expression as it is read, with one part
abbrev pub IsRawOverOne : RawTree → RawTree → Type 0
IsRawOverOne (raw_group p a) e = e ≡ a
IsRawOverOne (raw_neg p a) e = e ≡ a
IsRawOverOne (raw_not p a) e = e ≡ a
IsRawOverOne (raw_abs p a) e = e ≡ a
IsRawOverOne (raw_card p a) e = e ≡ a
IsRawOverOne _ e = ⊥

-- an expression as it is read, with one part and a number
abbrev pub IsRawOverNumber : RawTree → RawTree → Type 0
IsRawOverNumber (raw_divides p k a) e = e ≡ a
IsRawOverNumber (raw_div p a k) e = e ≡ a
IsRawOverNumber (raw_mod p a k) e = e ≡ a
IsRawOverNumber _ e = ⊥

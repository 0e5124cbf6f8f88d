-- The parts of a union.
use Rattle.std.proofs.Common.{◌≡◌, Bool, true, false, not, cond, List, [], ◌∷◌, length, map, filter, slice_index_or, refl, ap, arith}
use Rattle.cf_tree.specs.CodeTree.{CodeTrees, code_union, no_codes, code_more, codes_of}
use Rattle.cf_tree.specs.CodeView.{code_tree}
use Rattle.cf_tree.specs.declared.code.Code.{Code}
use Rattle.cf_range.specs.Settled.{is_empty, nonempty, union_of}

abbrev pub counts : Code → Bool
counts c = not (is_empty (code_tree c))

part_kept : (t : Bool) (c : Code) (cs : List Code) (ds : CodeTrees) → codes_of (map code_tree cs) ≡ ds →
    codes_of (map code_tree (cond (not t) (c ∷ cs) cs)) ≡ cond t ds (code_more (code_tree c) ds)
part_kept true c cs ds e = e
part_kept false c cs ds e = ap (code_more (code_tree c)) e

pub parts_kept : (cs : List Code) → codes_of (map code_tree (filter counts cs)) ≡ nonempty (codes_of (map code_tree cs))
parts_kept [] = refl
parts_kept (c ∷ cs) = part_kept (is_empty (code_tree c)) c (filter counts cs) (nonempty (codes_of (map code_tree cs))) (parts_kept cs)

-- the first of a list of one is all of it
pub only_is : (cs : List Code) (x : Code) → length cs ≡ 1 → x ≡ slice_index_or cs 0 x → code_more (code_tree x) no_codes ≡ codes_of (map code_tree cs)
only_is [] x e f = absurd (omega (arith, e))
only_is (c ∷ []) x e f = ap (λ y. code_more (code_tree y) no_codes) f
only_is (c ∷ d ∷ cs) x e f = absurd (omega (arith, e))

pub more_parts : (cs : List Code) → (length cs ≡ 0 → ⊥) → (length cs ≡ 1 → ⊥) → code_union (codes_of (map code_tree cs)) ≡ union_of (codes_of (map code_tree cs))
more_parts [] n o = absurd (n refl)
more_parts (c ∷ []) n o = absurd (o refl)
more_parts (c ∷ d ∷ cs) n o = refl

-- When one code may stand for another: every reply stays.
use Rattle.std.specs.Prelude.{◌≡◌, ◌≤◌, List, length, Option}
use Rattle.cf_num.specs.Limit.{limit}
use Rattle.cf_tree.specs.declared.base.Base.{Base}
use Rattle.cf_tree.specs.CodeTree.{CodeTree}
use Rattle.cf_tree.specs.Meaning.{Path, path}
use Rattle.cf_tree.specs.Typing.{HasBases}
use Rattle.cf_tree.specs.Values.{Value}
use Rattle.cf_range.specs.Ranges.{LieIn}
use Rattle.cf_range.specs.declared.range.Range.{Range}

-- where no number met on the first path is past the limit, none is on the second, and it gives the same
abbrev pub Follows : {A : Type 0} → Path A → Path A → Type 0
Follows p q = p.peak ≤ limit → (q.peak ≤ limit) × (q.gives ≡ p.gives)

-- a number past the limit is met on both or on none, and where on none, they give the same
abbrev pub Alike : {A : Type 0} → Path A → Path A → Type 0
Alike p q = Follows p q × Follows q p

-- so in each environment within the ranges
abbrev pub AnswersAlike : List Range → CodeTree → CodeTree → Type 0
AnswersAlike rs old new = (env : List Value) → LieIn rs env → Alike (path old env) (path new env)

-- each typing of the one, in a scope of one base for each range, is one of the other
abbrev pub KeepsTypes : List Range → CodeTree → CodeTree → Type 0
KeepsTypes rs old new = (scope : List Base) (asked : Option (List Base)) (bs : List Base) → length scope ≡ length rs →
    HasBases old scope asked bs → HasBases new scope asked bs

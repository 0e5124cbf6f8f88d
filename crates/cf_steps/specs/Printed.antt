-- The printed form of a block.
use Rattle.std.specs.Prelude.{ℕ, Bool, true, false, List, [], ◌∷◌, ◌++◌, map, codes, decimal}
use Rattle.std.specs.Fmt.{signed_decimal}
use Rattle.cf_tree.specs.declared.base.Edition.TheVariants.{Two}
use Rattle.cf_tree.specs.declared.target.RawTarget.{RawTarget}
use Rattle.cf_tree.specs.Words.{truth_text}
use Rattle.cf_emit.specs.Printed.{line_end, listed, target_text}
use Rattle.cf_elim.specs.declared.act.Act.{Act}
use Rattle.cf_elim.specs.declared.act.Act.TheVariants.{Clean, Mix, Last, Search, Drop}
use Rattle.cf_steps.specs.declared.block.Block.{Block}
use Rattle.cf_steps.specs.declared.block.NamedTruth.{NamedTruth}
use Rattle.cf_steps.specs.Blocks.{block_tree}

abbrev pub side_text : Bool → List ℕ
side_text true = codes "lower"
side_text false = codes "upper"

-- the word of a step, and its columns and factors behind a space each
abbrev pub act_text : Act → List ℕ
act_text Clean = codes "clean"
act_text (Mix x y a b c d) =
    codes "mix " ++ decimal x ++ codes " " ++ decimal y ++ codes " " ++ signed_decimal a ++ codes " " ++ signed_decimal b ++ codes " " ++ signed_decimal c ++
    codes " " ++ signed_decimal d
act_text (Last e) = codes "last " ++ decimal e
act_text (Search x lower) = codes "search " ++ decimal x ++ codes " " ++ side_text lower
act_text (Drop x) = codes "drop " ++ decimal x

-- each step has a line
abbrev pub acts_text : List Act → List ℕ
acts_text [] = []
acts_text (act ∷ acts) = act_text act ++ codes ";" ++ line_end ++ acts_text acts

-- each brace of a case ends its line
abbrev pub cases_text : List (List Act) → List ℕ
cases_text [] = []
cases_text (acts ∷ cases) = codes "case {" ++ line_end ++ acts_text acts ++ codes "}" ++ line_end ++ cases_text cases

-- a truth variable and its value
abbrev pub named_text : NamedTruth → List ℕ
named_text t = t.name ++ codes " = " ++ truth_text t.value

-- the branch behind a number: nothing where a choose has but one
abbrev pub head_text : List NamedTruth → List ℕ
head_text [] = []
head_text (t ∷ ts) = codes " (" ++ listed (map named_text (t ∷ ts)) ++ codes ")"

-- the steps of choose number n in a branch, and its target
abbrev pub block_text : ℕ → List NamedTruth → List (List Act) → RawTarget → List ℕ
block_text n truths cases t =
    codes "choose " ++ decimal n ++ head_text truths ++ codes " {" ++ line_end ++ cases_text cases ++ codes "}" ++ line_end ++ target_text Two t

-- the blocks one after the other
abbrev pub blocks_text : List Block → List ℕ
blocks_text [] = []
blocks_text (b ∷ bs) = block_text b.number b.truths.items (block_tree b).cases b.target ++ blocks_text bs

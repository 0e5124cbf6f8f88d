-- What a pass tells of itself.
use Rattle.std.specs.Prelude.{ℕ, ◌≡◌, ◌+◌, ◌≤◌, nat_le, Bool, true, ◌&&◌, ◌||◌, List, [], ◌∷◌, length}
use Rattle.std.specs.List.{list_all}
use Rattle.cf_tree.specs.CodeTree.{CodeTree}
use Rattle.cf_tree.specs.RelSize.{capped}
use Rattle.cf_pass.specs.Improves.{Improves}

-- a to z, 0 to 9, and the hyphen
abbrev pub is_name_byte : ℕ → Bool
is_name_byte b = nat_le 97 b && nat_le b 122 || nat_le 48 b && nat_le b 57 || nat_le 45 b && nat_le b 45

-- 1 to 32 such bytes
abbrev pub IsPassName : List ℕ → Type 0
IsPassName name = (1 ≤ length name) × (length name ≤ 32) × (list_all is_name_byte name ≡ true)

-- its name, how many units it has replaced, and how often it was called to rewrite, where at their last value these counts stay; what it makes of a code
-- outside which so many variables are bound; and whether its last turn found all the memory that it asked for
pub record Told : Type 0 where
  pub name : List ℕ
  pub tally : ℕ
  pub turns : ℕ
  pub makes : ℕ → CodeTree → CodeTree
  pub whole : Bool

-- it was called once: its name is the same, its tally did not fall, and it has had one turn more
pub record HasTurned (old new : Told) : Type 0 where
  pub name : new.name ≡ old.name
  pub tally : old.tally ≤ new.tally
  pub turns : new.turns ≡ capped (old.turns + 1)

-- each pass of a list was called once
abbrev pub HaveTurned : List Told → List Told → Type 0
HaveTurned [] [] = Unit {0}
HaveTurned (o ∷ old) (n ∷ new) = HasTurned o n × HaveTurned old new
HaveTurned old new = ⊥

-- what a pass that told `old` and tells `new` has made of a code: one that may take its place, and where its turn was whole, the one that it makes
pub record IsMade (outside : ℕ) (old new : Told) (before after : CodeTree) : Type 0 where
  pub better : Improves outside before after
  pub made : new.whole ≡ true → after ≡ old.makes outside before

-- what the passes of a list have made of a code: the first of it, and each other one of what the pass before it has made
abbrev pub AreMade : ℕ → List Told → List Told → CodeTree → CodeTree → Type 0
AreMade outside [] [] before after = after ≡ before
AreMade outside (o ∷ old) (n ∷ new) before after =
    (between : CodeTree) × IsMade outside o n before between × AreMade outside old new between after
AreMade outside old new before after = ⊥

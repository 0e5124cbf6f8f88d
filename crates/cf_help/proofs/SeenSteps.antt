-- The first of several.
use Rattle.std.proofs.Common.{◌≡◌, List, [], ◌∷◌, length, Option, Some, None, refl, arith}
use Rattle.cf_tree.specs.declared.raw.Raw.{Raw}
use Rattle.cf_tree.specs.RawView.{raw_trees}
use Rattle.cf_help.specs.Faults.{raws_length}
use Rattle.cf_help.specs.Rows.{or_else}

pub none : {A : Type 0} (x : Option A) → or_else x None ≡ x
none (Some x) = refl
none None = refl

pub two : {A : Type 0} (x a b : Option A) → or_else (or_else x a) b ≡ or_else x (or_else a b)
two (Some x) a b = refl
two None a b = refl

pub three : {A : Type 0} (x a b c : Option A) → or_else (or_else (or_else x a) b) c ≡ or_else x (or_else a (or_else b c))
three (Some x) a b c = refl
three None a b c = two a b c

pub four : {A : Type 0} (x a b c d : Option A) →
    or_else (or_else (or_else (or_else x a) b) c) d ≡ or_else x (or_else a (or_else b (or_else c d)))
four (Some x) a b c d = refl
four None a b c d = three a b c d

-- what is found already
pub kept : {A : Type 0} (x : A) (b : Option A) → or_else (Some x) b ≡ Some x
kept x b = refl

pub raws_counted : (raws : List Raw) → raws_length (raw_trees raws) ≡ length raws
raws_counted [] = refl
raws_counted (r ∷ raws) = omega (arith, raws_counted raws)

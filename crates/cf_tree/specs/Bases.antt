-- Whether bases are the same, as a test.
use Rattle.std.specs.Prelude.{Bool, true, false, ◌&&◌, List, [], ◌∷◌}
use Rattle.cf_tree.specs.declared.base.Base.{Base}
use Rattle.cf_tree.specs.declared.base.Base.TheVariants.{Int, Bool as Truth, Set}

abbrev pub same_base : Base → Base → Bool
same_base Int Int = true
same_base Int Truth = false
same_base Int Set = false
same_base Truth Int = false
same_base Truth Truth = true
same_base Truth Set = false
same_base Set Int = false
same_base Set Truth = false
same_base Set Set = true

abbrev pub same_bases : List Base → List Base → Bool
same_bases [] [] = true
same_bases [] (c ∷ cs) = false
same_bases (b ∷ bs) [] = false
same_bases (b ∷ bs) (c ∷ cs) = same_base b c && same_bases bs cs

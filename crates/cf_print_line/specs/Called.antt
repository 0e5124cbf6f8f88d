-- The function that is called from outside, and what is told of it.
use Rattle.std.specs.Prelude.{ℕ, List, [], ◌∷◌, length, decimal, codes, nat_eq, if◌then◌else◌}
use Rattle.std.specs.List.{concat}
use Rattle.cf_tree.specs.declared.base.Base.{Base}
use Rattle.cf_print.specs.declared.language.Language.{Language}
use Rattle.cf_print.specs.declared.language.Language.TheVariants.{C, Python, JavaScript, Rust}
use Rattle.cf_print.specs.Pieces.{joined}
use Rattle.cf_print_line.specs.declared.called.TheConstants.{WHERE_NONE, WHERE_SEVERAL}

abbrev pub about_main : List (List ℕ) → List ℕ
about_main names =
    if nat_eq (length names) 0 then codes "Gives what main does."
    else concat (codes "Gives " ∷ joined (codes ", ") names ∷ codes "." ∷ [])

-- where there is no solution: at the choose of this number alone, or at several
abbrev pub about_none : List ℕ → List ℕ → List ℕ → List ℕ
about_none before_it outcome digits =
    concat (before_it ∷ outcome ∷ WHERE_NONE.now ∷ digits ∷ codes ".\n" ∷ [])

abbrev pub about_several : List ℕ → List ℕ → List ℕ
about_several before_it outcome = concat (before_it ∷ outcome ∷ WHERE_SEVERAL.now ∷ [])

-- a line on that, behind what stands before a line and how that outcome is told
abbrev pub about_nones : List ℕ → List ℕ → List ℕ → List ℕ
about_nones before_it outcome [] = []
about_nones before_it outcome (n ∷ ns) =
    if nat_eq (length ns) 0 then about_none before_it outcome (decimal n) else about_several before_it outcome

-- the function that is called: its name, parameters and results, the names of the results, and those of pointers to them
pub record Called : Type 0 where
  pub name : List ℕ
  pub params : List (List ℕ)
  pub bases : List Base
  pub results : List Base
  pub result_names : List (List ℕ)
  pub pointers : List (List ℕ)
  -- parameters and pointers that no statement names
  pub unread : List (List ℕ)
  -- the chooses of which it may tell that there is no solution
  pub nones : List ℕ

-- its last line
abbrev pub end_of : Language → List ℕ
end_of Python = []
end_of C = codes "}\n"
end_of JavaScript = codes "}\n"
end_of Rust = codes "}\n"

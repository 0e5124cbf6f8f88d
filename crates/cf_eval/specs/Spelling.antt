-- How values are spelled on an input line.
use Rattle.std.specs.Prelude.{◌≡◌, ℕ, ℤ, pos, neg_ℤ, ◌<◌, ◌≤◌, Bool, true, false, List, [], ◌∷◌, ◌++◌, length, codes, ◌⊎◌, ◌||◌, ◌==◌, if◌then◌else◌}
use Rattle.cf_lex.specs.Bytes.{is_digit}
use Rattle.cf_lex.specs.Digits.{digits_value}
use Rattle.cf_lex.specs.Runs.{AllAre}
use Rattle.cf_tree.specs.Sets.{set_of}
use Rattle.cf_tree.specs.Values.{Value, number, truth, elements}
use Rattle.cf_tree.specs.declared.base.Base.{Base}
use Rattle.cf_tree.specs.declared.base.Base.TheVariants as base

-- a space or a tab
abbrev pub is_space : ℕ → Bool
is_space b = b == 32 || b == 9

-- the line, but for a carriage return as its last byte
abbrev pub without_return : List ℕ → List ℕ
without_return [] = []
without_return (b ∷ []) = if b == 13 then [] else b ∷ []
without_return (b ∷ c ∷ line) = b ∷ without_return (c ∷ line)

-- digits, with a value of at most the limit
pub record IsNatural (limit : ℕ) (w : List ℕ) : Type 0 where
  pub some : 0 < length w
  pub digits : AllAre is_digit w
  pub fits : digits_value w ≤ limit

-- digits, or - and digits
abbrev pub IsNumber : ℕ → List ℕ → ℤ → Type 0
IsNumber limit [] z = ⊥
IsNumber limit (b ∷ w) z = ((b ≡ 45) × IsNatural limit w × (z ≡ neg_ℤ (pos (digits_value w)))) ⊎ (IsNatural limit (b ∷ w) × (z ≡ pos (digits_value (b ∷ w))))

-- a number with spaces around it
pub record IsItem (limit : ℕ) (part : List ℕ) (z : ℤ) : Type 0 where
  pub before : List ℕ
  pub number : List ℕ
  pub behind : List ℕ
  pub whole : part ≡ before ++ (number ++ behind)
  pub white_before : AllAre is_space before
  pub is : IsNumber limit number z
  pub white_behind : AllAre is_space behind

-- numbers with a comma between each two
abbrev pub AreItems : ℕ → List ℕ → List ℤ → Type 0
AreItems limit text [] = ⊥
AreItems limit text (z ∷ []) = IsItem limit text z
AreItems limit text (z ∷ y ∷ zs) = (part : List ℕ) × (rest : List ℕ) × (text ≡ part ++ 44 ∷ rest) × IsItem limit part z × AreItems limit rest (y ∷ zs)

-- what stands between braces: numbers, or none
abbrev pub IsBody : ℕ → List ℕ → List ℤ → Type 0
IsBody limit body zs = (AllAre is_space body × (zs ≡ [])) ⊎ AreItems limit body zs

-- The bytes spell this value of this base. The numbers of a set may stand in any order, and more than once.
abbrev pub IsValue : ℕ → Base → List ℕ → Value → Type 0
IsValue limit base.Int w (number z) = IsNumber limit w z
IsValue limit base.Bool w (truth true) = w ≡ codes "true"
IsValue limit base.Bool w (truth false) = w ≡ codes "false"
IsValue limit base.Set w (elements es) = (body : List ℕ) × (zs : List ℤ) × (w ≡ 123 ∷ (body ++ 125 ∷ [])) × IsBody limit body zs × (es ≡ set_of zs)
IsValue limit b w v = ⊥

-- where another value comes, a space comes first
abbrev pub IsApart : List Base → List ℕ → Type 0
IsApart [] rest = Unit {0}
IsApart (b ∷ bases) [] = ⊥
IsApart (b ∷ bases) (c ∷ rest) = is_space c ≡ true

-- the text is these values, one of each base, with spaces around and between them
abbrev pub Spells : ℕ → List Base → List ℕ → List Value → Type 0
Spells limit [] text [] = AllAre is_space text
Spells limit [] text (v ∷ vs) = ⊥
Spells limit (b ∷ bases) text [] = ⊥
Spells limit (b ∷ bases) text (v ∷ vs) = (before : List ℕ) × (w : List ℕ) × (rest : List ℕ) × (text ≡ before ++ (w ++ rest)) × AllAre is_space before
    × IsValue limit b w v × IsApart bases rest × Spells limit bases rest vs

-- the line spells these values of these bases
abbrev pub SpellsValues : ℕ → List Base → List ℕ → List Value → Type 0
SpellsValues limit bases line vs = Spells limit bases (without_return line) vs

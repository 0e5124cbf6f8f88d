-- Tokens that stand first, and lists of items between signs: the words in which both grammars are written.
use Rattle.std.specs.Prelude.{◌≡◌, ℕ, ℤ, ◌≤ℤ◌, false, List, [], ◌∷◌, codes}
use Rattle.cf_lex.specs.Words.{is_reserved, is_no_function}
use Rattle.cf_tree.specs.declared.base.Edition.{Edition}
use Rattle.cf_tree.specs.declared.base.Edition.TheVariants.{Two, Three}
use Rattle.cf_lex.specs.declared.token.Token.{Token}
use Rattle.cf_lex.specs.declared.token.TokenKind.{TokenKind}
use Rattle.cf_lex.specs.declared.token.TokenKind.TheVariants.{Literal, Word, Sign}
use Rattle.cf_tree.specs.declared.base.Place.{Place}

-- which tokens spell something, up to a rest
abbrev pub Form : Type 1
Form = List Token → List Token → Type 0

infixr 10 ◌⨟◌
-- what X spells, and behind it what Y spells
abbrev pub ◌⨟◌ : Form → Form → Form
(X ⨟ Y) ts rest = (mid : List Token) × X ts mid × Y mid rest

-- no tokens spell this
abbrev pub Nothing : Form
Nothing ts rest = ⊥

-- what edition 3 has alone
abbrev pub IsThree : Edition → Type 0
IsThree Two = ⊥
IsThree Three = Unit {0}

-- what X spells, where this holds
abbrev pub If : Type 0 → Form → Form
If holds X ts rest = holds × X ts rest

-- a token of this kind at this place stands first, and before the rest
abbrev pub First : Place → TokenKind → Form
First p k ts rest = ts ≡ record { place = p; kind = k } ∷ rest

-- a token of this kind stands first, wherever it is
abbrev pub Next : TokenKind → Form
Next k ts rest = (p : Place) × First p k ts rest

-- a name stands first: a word that is not reserved
abbrev pub FirstName : Edition → Place → List ℕ → Form
FirstName edition p x ts rest = First p (Word x) ts rest × (is_reserved edition x ≡ false)

-- the name of a function stands first: a name that is no operation
abbrev pub FirstFunction : Edition → Place → List ℕ → Form
FirstFunction edition p x ts rest = First p (Word x) ts rest × (is_no_function edition x ≡ false)

abbrev pub NextFunction : Edition → List ℕ → Form
NextFunction edition x ts rest = (p : Place) × FirstFunction edition p x ts rest

-- a literal of at least this value stands first
abbrev pub FirstLiteral : ℤ → Place → ℤ → Form
FirstLiteral least p n ts rest = First p (Literal n) ts rest × (least ≤ℤ n)

abbrev pub NextLiteral : ℤ → ℤ → Form
NextLiteral least n ts rest = (p : Place) × FirstLiteral least p n ts rest

-- { separator item } close, where Item says which tokens spell an item
abbrev pub Others : {A : Type 0} → (A → Form) → TokenKind → TokenKind → List A → Form
Others Item separator close [] = Next close
Others Item separator close (x ∷ xs) = Next separator ⨟ Item x ⨟ Others Item separator close xs

-- item { separator item } close
abbrev pub Several : {A : Type 0} → (A → Form) → TokenKind → TokenKind → List A → Form
Several Item separator close [] = Nothing
Several Item separator close (x ∷ xs) = Item x ⨟ Others Item separator close xs

-- [ item { separator item } ] close
abbrev pub AnyNumber : {A : Type 0} → (A → Form) → TokenKind → TokenKind → List A → Form
AnyNumber Item separator close [] = Next close
AnyNumber Item separator close (x ∷ xs) = Several Item separator close (x ∷ xs)

-- item | "(" item "," item { "," item } ")"
abbrev pub OneOrTuple : {A : Type 0} → (A → Form) → List A → Form
OneOrTuple Item [] = Nothing
OneOrTuple Item (x ∷ []) = Item x
OneOrTuple Item (x ∷ y ∷ xs) = Next (Sign (codes "(")) ⨟ Several Item (Sign (codes ",")) (Sign (codes ")")) (x ∷ y ∷ xs)

-- Where tokens are refused: Spelled says of which lists of tokens there is a tree.
use Rattle.std.specs.Prelude.{◌≡◌, ◌⊎◌, ℕ, ◌-◌, List, [], ◌∷◌, ◌++◌, length, drop, Err}
use Rattle.cf_lex.specs.declared.token.Token.{Token}
use Rattle.cf_tree.specs.declared.base.Place.{Place}
use Rattle.cf_reader.specs.Readers.{Reader}
use Rattle.cf_reader.specs.declared.fault.ParseFault.{ParseFault}
use Rattle.cf_reader.specs.declared.fault.ParseFault.TheVariants.{Syntax, NoMemory}

-- no tree begins with these tokens and this one behind them
abbrev pub IsDead : (List Token → Type 0) → List Token → Token → Type 0
IsDead Spelled front t = (other : List Token) → Spelled (front ++ t ∷ other) → ⊥

-- the place of a token up to and with which no tree begins, or the end
abbrev pub IsFaultPlace : (List Token → Type 0) → List Token → Place → Place → Type 0
IsFaultPlace Spelled ts end p =
    (p ≡ end) ⊎ ((front : List Token) × (t : Token) × (more : List Token) × (ts ≡ front ++ t ∷ more) × (p ≡ t.place) × IsDead Spelled front t)

abbrev pub IsFault : (List Token → Type 0) → List Token → Place → ParseFault → Type 0
IsFault Spelled ts end NoMemory = Unit {0}
IsFault Spelled ts end (Syntax p) = IsFaultPlace Spelled ts end p

abbrev pub front_place : List Token → Place → Place
front_place [] end = end
front_place (t ∷ ts) end = t.place

-- the place where so many tokens are left
unfoldable pub place_with_left : List Token → Place → ℕ → Place
place_with_left ts end left = front_place (drop (length ts - left) ts) end

-- the token from which on reading stops has this place, or the end where none is left
pub record IsFaultPlaceOf {A : Type 0} (read : Reader A) (ts : List Token) (end p : Place) : Type 0 where
  pub left : ℕ
  pub stops : read ts ≡ Err left
  pub stands : p ≡ place_with_left ts end left

abbrev pub IsFaultOf : {A : Type 0} → Reader A → List Token → Place → ParseFault → Type 0
IsFaultOf read ts end NoMemory = Unit {0}
IsFaultOf read ts end (Syntax p) = IsFaultPlaceOf read ts end p

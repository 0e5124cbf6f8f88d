-- What is looked up among the rows of a parse.
use Rattle.std.proofs.Common.{◌≡◌, ◌∙◌, ◌||◌, Bool, true, false, cond, refl, ap, true≢false, List, [], ◌∷◌, ◌++◌, Option, Some, None, is_some, append-nil, bytes_eq, find}
use Rattle.clap.specs.Walk.{Row, Text, at_row, has_row, more_values, with_values, without}
use Rattle.clap.specs.declared.parser.matches.ValueSource.{ValueSource}
use Rattle.clap.specs.declared.builder.value_parser.Reading.{Reading}

-- the row of an id
abbrev pub row_at : Text → List Row → Option Row
row_at id rows = find (λ r. bytes_eq r.id id) rows

some≢none : {X : Type 0} (x : X) → Some x ≡ None → ⊥
some≢none x e = true≢false (ap (λ o. is_some o) e)

-- where an id has no row, `missing` comes to the end
pub absent : (id : Text) (change : Row → List Row) (missing rows : List Row) → row_at id rows ≡ None → at_row id change missing rows ≡ rows ++ missing
absent id change missing [] none = refl
absent id change missing (r ∷ rows) none = go (bytes_eq r.id id) (absent id change missing rows) none
  where
    go : (b : Bool) → (row_at id rows ≡ None → at_row id change missing rows ≡ rows ++ missing) → cond b (Some r) (row_at id rows) ≡ None
        → cond b (change r ++ rows) (r ∷ at_row id change missing rows) ≡ r ∷ (rows ++ missing)
    go true more e = absurd (some≢none r e)
    go false more e = ap (λ rs. r ∷ rs) (more e)

abbrev pub row_of_values : Text → Reading → ValueSource → List Text → Row
row_of_values id how source values = record { id = id; values = values; count = None; source = Some source; reading = how }

pub defaulted : (id : Text) (how : Reading) (source : ValueSource) (values : List Text) (rows : List Row) → row_at id rows ≡ None
    → with_values id how source values rows ≡ rows ++ row_of_values id how source values ∷ []
defaulted id how source values rows none = absent id (more_values source values) (row_of_values id how source values ∷ []) rows none

-- a first use adds a row
pub added : (id : Text) (how : Reading) (source : ValueSource) (values : List Text) (rows : List Row) → row_at id rows ≡ None
    → with_values id how source values (without id rows) ≡ rows ++ row_of_values id how source values ∷ []
added id how source values rows none =
    ap (with_values id how source values) (absent id (λ _. []) [] rows none ∙ append-nil rows) ∙ defaulted id how source values rows none

-- a row at the end leaves what other ids have, and is that of its own
pub kept : (id : Text) (r : Row) (rows : List Row) → bytes_eq r.id id ≡ false → row_at id (rows ++ r ∷ []) ≡ row_at id rows
kept id r [] other = rw other refl
kept id r (x ∷ rows) other = ap (cond (bytes_eq x.id id) (Some x)) (kept id r rows other)

pub found : (id : Text) (r : Row) (rows : List Row) → bytes_eq r.id id ≡ true → row_at id rows ≡ None → row_at id (rows ++ r ∷ []) ≡ Some r
found id r [] own none = rw own refl
found id r (x ∷ rows) own none = go (bytes_eq x.id id) (found id r rows own) none
  where
    go : (b : Bool) → (row_at id rows ≡ None → row_at id (rows ++ r ∷ []) ≡ Some r) → cond b (Some x) (row_at id rows) ≡ None
        → cond b (Some x) (row_at id (rows ++ r ∷ [])) ≡ Some r
    go true more e = absurd (some≢none x e)
    go false more e = more e

pub has_row_is : (id : Text) (rows : List Row) → has_row id rows ≡ is_some (row_at id rows)
has_row_is id [] = refl
has_row_is id (r ∷ rows) = go (bytes_eq r.id id) (has_row_is id rows)
  where
    go : (b : Bool) → has_row id rows ≡ is_some (row_at id rows) → (b || has_row id rows) ≡ is_some (cond b (Some r) (row_at id rows))
    go true more = refl
    go false more = more

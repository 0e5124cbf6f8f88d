-- The steps that an elimination takes.
use Rattle.std.specs.Prelude.{◌≡◌, ◌<◌, ℕ, zero, suc, ◌^◌, nat_lt, List, [], ◌∷◌, ◌++◌, All, if◌then◌else◌}
use Rattle.cf_num.specs.Limit.{IsWithin}
use Rattle.cf_linear.specs.Rows.{Row, entry}
use Rattle.cf_linear.specs.Systems.{System}
use Rattle.cf_linear.specs.Steps.{present, factors_of, Pick, pick}
use Rattle.cf_linear.specs.Stages.{Limits, limits, State, ends, goes, stage, first_state}
use Rattle.cf_elim.specs.declared.act.Act.{Act}
use Rattle.cf_elim.specs.declared.act.Act.TheVariants.{Clean, Mix, Last, Search, Drop}

-- columns and numbers of chooses have 32 bits
abbrev pub IsColumn : ℕ → Type 0
IsColumn n = n < 2 ^ 32

-- the columns of a step have 32 bits, and its factors are within the limit
abbrev pub IsSpelledAct : Act → Type 0
IsSpelledAct Clean = Unit {0}
IsSpelledAct (Mix x y a b c d) = IsColumn x × IsColumn y × IsWithin a × IsWithin b × IsWithin c × IsWithin d
IsSpelledAct (Last e) = IsColumn e
IsSpelledAct (Search x lower) = IsColumn x
IsSpelledAct (Drop x) = IsColumn x

-- a Merge of the first two unknowns of an equation, or its end
abbrev pub equation_acts : Row → List ℕ → List Act
equation_acts e [] = []
equation_acts e (u ∷ []) = Last 0 ∷ []
equation_acts e (u ∷ w ∷ us) =
    let f = factors_of (entry e u) (entry e w) in Mix u w f.s f.m f.t f.n ∷ []

-- the search of the picked unknown, where its product is above 1, and its drop
abbrev pub bound_acts : Pick → List Act
bound_acts c = (if nat_lt 1 c.product then Search c.unknown c.lower ∷ Drop c.unknown ∷ [] else Drop c.unknown ∷ [])

abbrev pub unknown_acts : System → List ℕ → List Act
unknown_acts m [] = []
unknown_acts m (x ∷ us) = bound_acts (pick m.inequalities x us)

abbrev pub row_acts : System → List Row → List Act
row_acts m [] = unknown_acts m m.unknown
row_acts m (e ∷ rest) = equation_acts e (present m.unknown e)

-- the steps of one stage
unfoldable pub acts_at : State → List Act
acts_at s = (if s.is_past_clean then row_acts s.system s.system.equations else Clean ∷ [])

-- those of at most n stages from a state
unfoldable pub acts_for : ℕ → Limits → State → List Act
acts_for zero l s = []
acts_for (suc n) l s = elim (stage l s) [ ends e ↦ [] | goes t a ↦ acts_at s ++ acts_for n l t ]

-- those of the whole elimination of a system
unfoldable pub traced : Limits → System → List Act
traced l m = acts_for (2 ^ 64) l (first_state m)

-- ---- what the calls that write them answer
-- these steps are added, and a steps file can spell them
pub record AreAdded (old acts new : List Act) : Type 0 where
  pub is : new ≡ old ++ acts
  pub spelled : All IsSpelledAct acts

-- the Merge of two unknowns of the equation, which a steps file can spell
pub record IsMerge (e : Row) (x y : ℕ) (act : Act) : Type 0 where
  pub is : act ≡ (let f = factors_of (entry e x) (entry e y) in Mix x y f.s f.m f.t f.n)
  pub spelled : IsSpelledAct act

-- the steps of the whole elimination of the system, which a steps file can spell
pub record AreStepsOf (m : System) (acts : List Act) : Type 0 where
  pub are : acts ≡ traced limits m
  pub spelled : All IsSpelledAct acts

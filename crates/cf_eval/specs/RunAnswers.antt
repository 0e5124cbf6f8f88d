-- How a result of the program tells a reached.
use Rattle.std.specs.Prelude.{◌≡◌, ℕ, ℤ, pos, Bool, true, false, [], ◌∷◌, ◌++◌, All, ◌-◌, ◌^◌, min, List, Option, Some, None, Result, Ok, Err, Vec}
use Rattle.std.specs.declared.alloc.Global.{Global}
use Rattle.std.specs.Borrow.{Bor}
use Rattle.cf_num.specs.Limit.{IsWithin}
use Rattle.cf_tree.specs.Values.{Value, number}
use Rattle.cf_eval.specs.declared.value.Value.{Value as RunValue}
use Rattle.cf_eval.specs.declared.value.Value.TheVariants.{Int, Truth, Elements}
use Rattle.cf_eval.specs.declared.given.Stop.{Stop}
use Rattle.cf_eval.specs.declared.given.Stop.TheVariants.{NoMemory, Past, Unsolved}
use Rattle.cf_eval.specs.declared.given.Given.{Given}
use Rattle.cf_eval.specs.declared.given.Given.TheVariants.{One, Several}
use Rattle.cf_eval.specs.Reached.{Reached, given, none_from, past, met_all}
use Rattle.cf_eval.specs.Seen.{plain, plains, IsFit}

-- why it stopped, if not for want of memory
abbrev pub StopIs : {A : Type 0} → Stop → Reached A → Type 0
StopIs NoMemory r = Unit {0}
StopIs Past r = r ≡ past
StopIs (Unsolved n) r = r ≡ none_from n

abbrev pub given_items : Given → List RunValue
given_items (One v) = v ∷ []
given_items (Several vs) = vs.items

abbrev pub RunAnswer : Result Given Stop → Reached (List Value) → Type 0
RunAnswer (Ok g) r = r ≡ given (plains (given_items g))
RunAnswer (Err e) r = StopIs e r

abbrev pub ValuesAnswer : Result (Vec RunValue Global) Stop → Reached (List Value) → Type 0
ValuesAnswer (Ok vs) r = r ≡ given (plains vs.items)
ValuesAnswer (Err e) r = StopIs e r

abbrev pub ValueAnswer : Result RunValue Stop → Reached Value → Type 0
ValueAnswer (Ok v) r = r ≡ given (plain v)
ValueAnswer (Err e) r = StopIs e r

abbrev pub NumberAnswer : Result ℤ Stop → Reached ℤ → Type 0
NumberAnswer (Ok z) r = r ≡ given z
NumberAnswer (Err e) r = StopIs e r

abbrev pub TruthAnswer : Result Bool Stop → Reached Bool → Type 0
TruthAnswer (Ok b) r = r ≡ given b
TruthAnswer (Err e) r = StopIs e r

abbrev pub SetAnswer : Result (List ℤ) Stop → Reached (List ℤ) → Type 0
SetAnswer (Ok zs) r = r ≡ given zs
SetAnswer (Err e) r = StopIs e r

abbrev pub FoundAnswer : Result (Option (Vec RunValue Global)) Stop → Reached (Option (List Value)) → Type 0
FoundAnswer (Ok None) r = r ≡ given None
FoundAnswer (Ok (Some vs)) r = r ≡ given (Some (plains vs.items))
FoundAnswer (Err e) r = StopIs e r

-- whether the needs hold, with the environment after the lets
abbrev pub ItemsAnswer : Result Bool Stop → List Value → Reached (Option (List Value)) → Type 0
ItemsAnswer (Ok true) env r = r ≡ given (Some env)
ItemsAnswer (Ok false) env r = r ≡ given None
ItemsAnswer (Err e) env r = StopIs e r

-- what is given, behind the old values
abbrev pub MoreAnswer : {A : Type 0} → Result A Stop → List Value → List Value → Reached (List Value) → Type 0
MoreAnswer (Ok u) old new r = (xs : List Value) × (r ≡ given xs) × (new ≡ old ++ xs)
MoreAnswer (Err e) old new r = StopIs e r

-- the same values, and perhaps more
abbrev pub Extends : List RunValue → List RunValue → Type 0
Extends old new = (more : List RunValue) × (new ≡ old ++ more)

-- the search values are met, and stand after the values that were there
abbrev pub BindsAll : List ℕ → List Value → List Value → Type 0
BindsAll ks old new = (vs : List Value) × (met_all ks ≡ given vs) × (new ≡ old ++ vs)

abbrev pub IsGivenFit : Given → Type 0
IsGivenFit (One v) = IsFit v
IsGivenFit (Several vs) = All IsFit vs.items

abbrev pub IsFoundFit : Option (Vec RunValue Global) → Type 0
IsFoundFit None = Unit {0}
IsFoundFit (Some vs) = All IsFit vs.items

-- the value, or 0 where there is none
abbrev pub seen_or_zero : Option (Bor RunValue) → Value
seen_or_zero None = number (pos 0)
seen_or_zero (Some v) = plain v.now

-- a count of tuples, as far as it is kept
abbrev pub capped : ℕ → ℕ
capped n = min n (2 ^ 64 - 1)

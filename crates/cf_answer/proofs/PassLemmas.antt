-- What the passes tell.
use Rattle.std.proofs.Common.{◌≡◌, inl, inr, sym, subst, refl, ℕ, Bool, true, false, List, [], ◌∷◌}
use Rattle.std.specs.Prelude.{Result, Ok, Err, OnErr}
use Rattle.cf_pass.specs.Passes.{Told, HaveTurned}
use Rattle.cf_tree.specs.declared.target.RawTarget.{RawTarget}
use Rattle.cf_answer.specs.Owed.{IsCompiledBy}
use Rattle.cf_answer.specs.Passes.{AreCalled, ArePassed}
use Rattle.cf_answer.specs.Refusals.{IsRefusedSource}
use Rattle.cf_answer.specs.Sources.{Compiles}
use Rattle.cf_answer.specs.Steps.{IsVerdict}
use Rattle.cf_answer.specs.declared.fault.Fault.{Fault}

-- passes that are not called tell what they told
pub unpassed : (called : Bool) (given : List Told) → ArePassed called given given
unpassed true given = inr refl
unpassed false given = refl

pub kept_passed : (called : Bool) (given last : List Told) → last ≡ given → ArePassed called given last
kept_passed called given last same = subst (ArePassed called given) (sym same) (unpassed called given)

pub called_passed : (called : Bool) (given last : List Told) → AreCalled called given last → ArePassed called given last
called_passed true given last turned = inl turned
called_passed false given last same = same

-- what holds anyway holds of an error
pub on_err : {A E : Type 0} {P : Type 0} (r : Result A E) → P → OnErr r P
on_err (Ok x) h = tt
on_err (Err e) h = h

-- there are none where there were none
pub still_none : (last : List Told) → HaveTurned [] last → last ≡ []
still_none [] h = refl
still_none (n ∷ last) h = absurd h

-- a source that no pass is called for
pub plain_verdict : (source : List ℕ) (last given : List Told) (r : Result RawTarget Fault) →
    IsVerdict (IsCompiledBy true source [] last) (IsRefusedSource source) r →
    IsVerdict (IsCompiledBy false source given given) (IsRefusedSource source) r
plain_verdict source last given (Ok t) v =
    (subst (λ ps. Compiles [] ps source t) (still_none last v.1) v.0, refl)
plain_verdict source last given (Err f) v = v

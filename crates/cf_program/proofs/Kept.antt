-- What holds wherever a result is Ok.
use Rattle.std.proofs.Common.{◌≡◌, Bool, true, false, List, Option, Some, None, Result, Ok, Err, refl}
use Rattle.cf_tree.specs.declared.base.Edition.{Edition}
use Rattle.cf_tree.specs.declared.base.Edition.TheVariants.{Two, Three}
use Rattle.cf_tree.specs.declared.base.Place.{Place}
use Rattle.cf_program.specs.declared.fault.TypeFault.{TypeFault}
use Rattle.cf_program.specs.Then.{◌>>=◌}
use Rattle.cf_program.specs.Linear.{Held, Found, linear as linear_with, bends}
use Rattle.cf_program.specs.Walk.{by_edition, where_kept, where_linear, where_no_fault, where_none_repeated}

pub data WhenOk {A : Type 0} (P : A → Type 0) : Result A TypeFault → Type 0 where
  when_ok : (x : A) → P x → WhenOk P (Ok x)
  when_err : (e : TypeFault) → WhenOk P (Err e)

pub when_bind : {A B : Type 0} {P : A → Type 0} {Q : B → Type 0} (r : Result A TypeFault) (f : A → Result B TypeFault) → WhenOk P r →
    ((x : A) → P x → WhenOk Q (f x)) → WhenOk Q (r >>= f)
when_bind (Ok x) f (when_ok y p) k = k x p
when_bind (Err e) f h k = when_err e

pub when_kept : {A : Type 0} {P : A → Type 0} (b : Bool) (fault : TypeFault) (go : Result A TypeFault) → (b ≡ true → WhenOk P go) → WhenOk P
    (where_kept b fault go)
when_kept true fault go k = k refl
when_kept false fault go k = when_err fault

pub when_no_fault : {A : Type 0} {P : A → Type 0} (o : Option TypeFault) (go : Result A TypeFault) → (o ≡ None → WhenOk P go) → WhenOk P (where_no_fault o go)
when_no_fault None go k = k refl
when_no_fault (Some fault) go k = when_err fault

pub when_none_repeated : {A : Type 0} {P : A → Type 0} (o : Option Place) (go : Result A TypeFault) → WhenOk P go → WhenOk P (where_none_repeated o go)
when_none_repeated None go k = k
when_none_repeated (Some p) go k = when_err _

pub when_is : {A : Type 0} {P : A → Type 0} (r : Result A TypeFault) (x : A) → WhenOk P r → r ≡ Ok x → P x
when_is (Ok y) x (when_ok z p) e = let same : y ≡ x = cc in rw (← same) p
when_is (Err f) x h e = cc

pub when_different : {A : Type 0} {P : A → Type 0} (o : Option Place) (go : Result A TypeFault) → (o ≡ None → WhenOk P go) → WhenOk P (where_none_repeated o go)
when_different None go k = k refl
when_different (Some p) go k = when_err _

-- what holds whatever the result is
pub when_any : {A : Type 0} {P : Type 0} (r : Result A TypeFault) → P → WhenOk (λ _. P) r
when_any (Ok x) p = when_ok x p
when_any (Err e) p = when_err e

-- what follows from it; both of two such facts
pub when_map : {A : Type 0} {P Q : Type 0} (r : Result A TypeFault) → WhenOk (λ _. P) r → (P → Q) → WhenOk (λ _. Q) r
when_map (Ok x) (when_ok y p) f = when_ok x (f p)
when_map (Err e) h f = when_err e

pub when_both : {A : Type 0} {P Q : A → Type 0} (r : Result A TypeFault) → WhenOk P r → WhenOk Q r → WhenOk (λ x. P x × Q x) r
when_both (Ok x) (when_ok y p) (when_ok z q) = when_ok x (p, q)
when_both (Err e) h k = when_err e

-- whatever the result is
pub when_all : {A : Type 0} {P : A → Type 0} (r : Result A TypeFault) → ((x : A) → P x) → WhenOk P r
when_all (Ok x) p = when_ok x (p x)
when_all (Err e) p = when_err e

-- by each edition's way
pub when_edition : {A : Type 0} {P : A → Type 0} (edition : Edition) (two three : Result A TypeFault) → (edition ≡ Two → WhenOk P two) →
    (edition ≡ Three → WhenOk P three) → WhenOk P (by_edition edition two three)
when_edition Two two three h k = h refl
when_edition Three two three h k = k refl

pub when_linear : {A : Type 0} {P : A → Type 0} (o : Found) (go : Result A TypeFault) → ((hs : List Held) → o ≡ linear_with hs → WhenOk P go) →
    WhenOk P (where_linear o go)
when_linear (linear_with hs) go k = k hs refl
when_linear (bends p c) go k = when_err _

pub when_so : {A : Type 0} {P Q : A → Type 0} (r : Result A TypeFault) → WhenOk P r → ((x : A) → P x → Q x) → WhenOk Q r
when_so (Ok x) (when_ok y p) f = when_ok x (f x p)
when_so (Err e) h f = when_err e

-- whatever is known of the first result
pub when_then : {A B : Type 0} {Q : B → Type 0} (r : Result A TypeFault) (f : A → Result B TypeFault) → ((x : A) → WhenOk Q (f x)) → WhenOk Q (r >>= f)
when_then (Ok x) f k = k x
when_then (Err e) f k = when_err e

-- Steps of the walk that finds what the values of a relation hold.
use Rattle.std.proofs.Common.{◌≡◌, ◌∷◌, ◌++◌, ℕ, Bool, true, false, List, [], Option, Some, None, length, map, take, if◌then◌else◌, refl, sym, ap, ap₂, ◌∙◌}
use Rattle.std.specs.Str.{bytes_eq}
use Rattle.std.proofs.lemmas.List.{append-nil, append_assoc}
use Rattle.cf_tree.specs.DefView.{RawDefTree}
use Rattle.cf_tree.specs.Params.{names_of}
use Rattle.cf_tree.specs.declared.base.Place.{Place}
use Rattle.cf_program.specs.Linear.{Cause, a_call, Held, is_constant, is_known, is_unknown, most, both_hold, Found, linear, bends, ◌then◌, Holder, holders, call_found, found, called}
use Rattle.cf_help.specs.BendView.{root_seen, within_calls, bend_seen, Tells}
use Rattle.cf_help.specs.declared.bend.Bend.{Bend}
use Rattle.cf_help.specs.declared.bend.BendFault.{BendFault}
use Rattle.cf_help.specs.declared.bend.BendFault.TheVariants as faults
use Rattle.cf_help.specs.declared.held.Held.{Held as DeclaredHeld}
use Rattle.cf_help.specs.HeldView.{held_seen}
use Rattle.cf_help.specs.declared.linear.Inside.{Inside}
use Rattle.cf_help.specs.InsideView.{calls_in}
use Rattle.cf_help.specs.LastNamed.{backwards, last_named}

-- a fault before the rest of a chain is the fault of the chain
pub bends_then : (e : BendFault) (f : Found) (k : List Held → Found) → Tells e f → Tells e (f then k)
bends_then (faults.Bends b) f k h = ap (λ g. g then k) h
bends_then faults.NoMemory f k h = tt

-- what a row of values holds, behind these
abbrev pub behind : List Held → Found → Found
behind hs (linear gs) = linear (hs ++ gs)
behind hs (bends p c) = bends p c

pub behind_none : (f : Found) → behind [] f ≡ f
behind_none (linear gs) = refl
behind_none (bends p c) = refl

pub behind_more : (hs : List Held) (h : Held) (f : Found) → behind hs (f then λ gs. linear (h ∷ gs)) ≡ behind (hs ++ h ∷ []) f
behind_more hs h (linear gs) = ap linear (sym (append_assoc hs (h ∷ []) gs))
behind_more hs h (bends p c) = refl

pub all_bends : (e : BendFault) (hs : List Held) (f : Found) (k : List Held → Found) → Tells e f → Tells e (behind hs (f then k))
all_bends (faults.Bends b) hs f k h = ap (λ g. behind hs (g then k)) h
all_bends faults.NoMemory hs f k h = tt

-- one call more
within_more : (c : Cause) (fs : List (List ℕ)) (f : List ℕ) → within_calls c (fs ++ f ∷ []) ≡ a_call f (within_calls c fs)
within_more c [] f = refl
within_more c (g ∷ fs) f = within_more (a_call g c) fs f

-- a call bends where its body does
pub call_bends : (p : Place) (x : List ℕ) (b : Bend) (names : List (List ℕ)) (f : Found) → names ≡ b.names.items ++ x ∷ [] → f ≡ bend_seen b →
    call_found p x f ≡ bends p (within_calls (root_seen b.root) names)
call_bends p x b names f more h =
    ap (call_found p x) h
    ∙ ap (bends p) (sym (within_more (root_seen b.root) b.names.items x) ∙ ap (within_calls (root_seen b.root)) (sym more))

-- what two hold together, taken together with a third
pub most_assoc : (a b c : Held) → most (most a b) c ≡ most a (most b c)
most_assoc is_constant b c = refl
most_assoc is_known is_constant c = refl
most_assoc is_known is_known is_constant = refl
most_assoc is_known is_known is_known = refl
most_assoc is_known is_known is_unknown = refl
most_assoc is_known is_unknown c = refl
most_assoc is_unknown b c = refl

pub most_constant : (h : Held) → most h is_constant ≡ h
most_constant is_constant = refl
most_constant is_known = refl
most_constant is_unknown = refl

-- part by part, where the second has no more parts
pub both_end : (ps hs all : List Held) (left : List DeclaredHeld) → length left ≡ 0 → ps ++ both_hold hs (map held_seen left) ≡ all → ps ≡ all
both_end ps [] all left none h = sym (append-nil ps) ∙ h
both_end ps (g ∷ hs) all [] none h = sym (append-nil ps) ∙ h
both_end ps (g ∷ hs) all (x ∷ left) none h = cc

some_same : {A : Type 0} (x y : A) → Some x ≡ Some y → x ≡ y
some_same x y h = cc

-- a call is its body, behind the functions before it
module _ (inputs : Bool) (x : List ℕ) (hs : List Held) where
  abbrev body_found : RawDefTree → List RawDefTree → Found
  body_found d earlier = found inputs (called inputs earlier) (holders (names_of d.params) hs) d.body

  first_or : (b : Bool) (e d : RawDefTree) (ds earlier : List RawDefTree) (o : Option (RawDefTree × List RawDefTree)) (f : Found) →
      (o ≡ Some (d, earlier) → f ≡ body_found d earlier) → (if b then Some (e, ds) else o) ≡ Some (d, earlier) →
      (if b then body_found e ds else f) ≡ body_found d earlier
  first_or true e d ds earlier o f later h =
      ap (λ (y : RawDefTree × List RawDefTree). body_found y.0 y.1) (some_same {A = RawDefTree × List RawDefTree} (e, ds) (d, earlier) h)
  first_or false e d ds earlier o f later h = later h

  pub called_last : (ds earlier : List RawDefTree) (d : RawDefTree) → last_named ds x ≡ Some (d, earlier) → called inputs ds x hs ≡ body_found d earlier
  called_last [] earlier d h = cc
  called_last (e ∷ ds) earlier d h =
      first_or (bytes_eq e.name x) e d ds earlier (last_named ds x) (called inputs ds x hs) (called_last ds earlier d) h

  none_or : (b : Bool) (e : RawDefTree) (ds : List RawDefTree) (o : Option (RawDefTree × List RawDefTree)) (f : Found) → (o ≡ None → f ≡ linear []) →
      (if b then Some (e, ds) else o) ≡ None → (if b then body_found e ds else f) ≡ linear []
  none_or true e ds o f later h = cc
  none_or false e ds o f later h = later h

  -- and nothing where there is no such function
  pub called_none : (ds : List RawDefTree) → last_named ds x ≡ None → called inputs ds x hs ≡ linear []
  called_none [] h = refl
  called_none (e ∷ ds) h = none_or (bytes_eq e.name x) e ds (last_named ds x) (called inputs ds x hs) (called_none ds) h

-- the same of the calls in a relation
module _ (c : Inside) (x : List ℕ) (hs : List Held) where
  calls_are : calls_in c x hs ≡ called c.inputs (backwards (take c.count c.callees.now)) x hs
  unfolding calls_in
  calls_are = refl

  pub call_of : (d : RawDefTree) (earlier : List RawDefTree) → last_named (backwards (take c.count c.callees.now)) x ≡ Some (d, earlier) →
      calls_in c x hs ≡ found c.inputs (called c.inputs earlier) (holders (names_of d.params) hs) d.body
  call_of d earlier h = calls_are ∙ called_last c.inputs x hs (backwards (take c.count c.callees.now)) earlier d h

  pub call_of_none : last_named (backwards (take c.count c.callees.now)) x ≡ None → calls_in c x hs ≡ linear []
  call_of_none h = calls_are ∙ called_none c.inputs x hs (backwards (take c.count c.callees.now)) h

-- the body of a function behind the functions before it
pub inside_body : (c : Inside) (earlier : List RawDefTree) → backwards (take c.count c.callees.now) ≡ earlier → calls_in c ≡ called c.inputs earlier
unfolding calls_in
inside_body c earlier h = ap (called c.inputs) h

-- a call is the body of its function, as the program walks it
pub call_is : (c body : Inside) (x : List ℕ) (hs : List Held) (d : RawDefTree) (earlier : List RawDefTree) (vs : List Holder) →
    last_named (backwards (take c.count c.callees.now)) x ≡ Some (d, earlier) → body.inputs ≡ c.inputs →
    backwards (take body.count body.callees.now) ≡ earlier →
    vs ≡ holders (names_of d.params) hs → calls_in c x hs ≡ found body.inputs (calls_in body) vs d.body
call_is c body x hs d earlier vs named inputs before params =
    call_of c x hs d earlier named
    ∙ ap₂ (λ b calls. found b calls (holders (names_of d.params) hs) d.body) (sym inputs)
    (sym (inside_body body earlier before ∙ ap (λ b. called b earlier) inputs))
    ∙ ap (λ us. found body.inputs (calls_in body) us d.body) (sym params)

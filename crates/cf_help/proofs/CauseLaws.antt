-- The texts and the helps of causes within calls.
use Rattle.std.proofs.Common.{◌≡◌, ℕ, Bool, List, [], ◌∷◌, ◌++◌, map, refl, sym, ap, ◌∙◌}
use Rattle.std.specs.Prelude.{reverse, flat_map}
use Rattle.std.proofs.lemmas.List.{append-nil, append_assoc, reverse-append}
use Rattle.cf_tree.specs.DefView.{raw_def_tree}
use Rattle.cf_tree.specs.declared.raw.RawDef.{RawDef}
use Rattle.std.specs.Borrow.{Bor}
use Rattle.cf_program.specs.Linear.{Cause, a_call}
use Rattle.cf_help.specs.BendView.{within_calls}
use Rattle.cf_help.specs.Faults.{call_text, cause_text, call_help, cause_help}
use Rattle.cf_help.specs.LastNamed.{backwards}
use Rattle.cf_help.specs.ScopeView.{defs_seen}

calls_of : (fs gs : List (List ℕ)) → flat_map call_text (fs ++ gs) ≡ flat_map call_text fs ++ flat_map call_text gs
calls_of [] gs = refl
calls_of (f ∷ fs) gs = ap (λ t. call_text f ++ t) (calls_of fs gs) ∙ sym (append_assoc (call_text f) (flat_map call_text fs) (flat_map call_text gs))

-- the calls from the outermost on, and the cause within them
pub cause_within : (c : Cause) (fs : List (List ℕ)) → flat_map call_text (reverse fs) ++ cause_text c ≡ cause_text (within_calls c fs)
cause_within c [] = refl
cause_within c (f ∷ fs) =
    ap (λ es. flat_map call_text es ++ cause_text c) (reverse-append (f ∷ []) fs)
    ∙ ap (λ t. t ++ cause_text c) (calls_of (reverse fs) (f ∷ []))
    ∙ append_assoc (flat_map call_text (reverse fs)) (call_text f ++ []) (cause_text c)
    ∙ ap (λ t. flat_map call_text (reverse fs) ++ (t ++ cause_text c)) (append-nil (call_text f))
    ∙ cause_within (a_call f c) fs

-- what a call holds has the help of a call, however deep
calls_help : (c : Cause) (fs : List (List ℕ)) → call_help (within_calls c fs) ≡ call_help c
calls_help c [] = refl
calls_help c (f ∷ fs) = calls_help (a_call f c) fs

called_help : (is_given : Bool) (f : List ℕ) (c : Cause) (fs : List (List ℕ)) → cause_help is_given (within_calls (a_call f c) fs) ≡ call_help c
called_help is_given f c [] = refl
called_help is_given f c (g ∷ fs) = called_help is_given g (a_call f c) fs

pub help_within : (is_given : Bool) (c : Cause) (f : List ℕ) (fs : List (List ℕ)) → call_help c ≡ cause_help is_given (within_calls c (f ∷ fs))
help_within is_given c f fs = sym (called_help is_given f c fs)

-- functions of the program, the last first
map_twice : (ds : List (Bor RawDef)) → map raw_def_tree (map (λ d. d.now) ds) ≡ defs_seen ds
map_twice [] = refl
map_twice (d ∷ ds) = ap (λ es. raw_def_tree d.now ∷ es) (map_twice ds)

pub backwards_seen : (ds : List (Bor RawDef)) → backwards (map (λ d. d.now) ds) ≡ reverse (defs_seen ds)
backwards_seen ds = ap reverse (map_twice ds)

-- A text is refused for faults of one status, whatever its tokens are to spell.
use Rattle.std.proofs.Common.{◌≡◌, ◌∙◌, sym, subst, refl, ℕ, ◌-◌, ◌^◌, ◌<◌, List, arith}
use Rattle.std.specs.Prelude.{length}
use Rattle.cf_lex.specs.declared.token.Token.{Token}
use Rattle.cf_lex.specs.Tokens.{Ending, bad_byte, past_limit, at_end}
use Rattle.cf_lex.proofs.StepLemmas.{LexesTo-once}
use Rattle.cf_reader.specs.Readers.{Reader}
use Rattle.cf_tree.specs.declared.base.Place.{Place}
use Rattle.cf_answer.specs.Limits.{TextKind, tokens_of, most_of}
use Rattle.cf_answer.specs.Refusals.{Causes}
use Rattle.cf_answer.specs.Refusals as refusals
use Rattle.cf_answer.specs.Sources.{HasTokens, Spelled}
use Rattle.cf_answer.specs.Statuses.{fault_status}
use Rattle.cf_answer.specs.declared.fault.Fault.{Fault}
use Rattle.cf_answer.specs.declared.fault.Fault.TheVariants as fault
use Rattle.cf_answer.specs.declared.status.Status.TheVariants.{Text}

-- at most one tree is spelled by tokens
abbrev pub IsSingle : {Tree : Type 0} → (Tree → List Token → Type 0) → Type 0
IsSingle {Tree} Is = (ts : List Token) (x y : Tree) → Is x ts → Is y ts → x ≡ y

-- a fault of the text itself
abbrev IsText : Fault → Type 0
IsText f = fault_status f ≡ Text

-- the ways in which a text comes to be refused
data Cause {Tree : Type 0} (kind : TextKind) (Is : Tree → List Token → Type 0) (Bad : Tree → Fault → Type 0) (text : List ℕ) (f : Fault) : Type 0 where
  too_long : most_of kind < length text → f ≡ fault.TextTooLong → Cause kind Is Bad text f
  no_tokens : (ts : List Token) (p : Place) (e : Ending) → HasTokens kind text ts p e → (e ≡ at_end → ⊥) → IsText f → Cause kind Is Bad text f
  no_tree : (ts : List Token) (p : Place) → HasTokens kind text ts p at_end → ((x : Tree) → Is x ts → ⊥) → IsText f → Cause kind Is Bad text f
  bad_tree : (x : Tree) → Spelled kind Is text x → Bad x f → Cause kind Is Bad text f

tokens_agree : (kind : TextKind) (text : List ℕ) (ts us : List Token) (p q : Place) (e d : Ending) → HasTokens kind text ts p e → HasTokens kind text us q d →
    (ts ≡ us) × (p ≡ q) × (e ≡ d)
tokens_agree kind text ts us p q e d a b = LexesTo-once (tokens_of kind) (2 ^ 127 - 1) text ts us p q e d a.1 b.1

pub trees_agree : {Tree : Type 0} (kind : TextKind) (Is : Tree → List Token → Type 0) → IsSingle Is → (text : List ℕ) (x y : Tree) → Spelled kind Is text x →
    Spelled kind Is text y → x ≡ y
trees_agree kind Is one text x y s t =
    let same = tokens_agree kind text s.0 t.0 s.1 t.1 at_end at_end s.2 t.2 in
    one s.0 x y s.3 (subst (Is y) (sym same.0) t.3)

cause_of : {Tree : Type 0} (kind : TextKind) (Is : Tree → List Token → Type 0) (read : Reader Tree) (Bad : Tree → Fault → Type 0) (text : List ℕ) (f : Fault) →
    Causes kind Is read Bad text f → Cause kind Is Bad text f
cause_of kind Is read Bad text f (refusals.too_long h) = too_long h refl
cause_of kind Is read Bad text f (refusals.odd_byte ts p h) = no_tokens ts p bad_byte h (λ e. cc) refl
cause_of kind Is read Bad text f (refusals.large_number ts p h) = no_tokens ts p past_limit h (λ e. cc) refl
cause_of kind Is read Bad text f (refusals.no_tree ts end p h none place) = no_tree ts end h none refl
cause_of kind Is read Bad text f (refusals.bad_tree x g s b) = bad_tree x s b

within : {A : Type 0} (kind : TextKind) (text : List ℕ) (ts : List Token) (p : Place) (e : Ending) → most_of kind < length text → HasTokens kind text ts p e → A
within kind text ts p e long h = absurd (omega (arith, long, h.0))

not_at_end : {A : Type 0} (kind : TextKind) (text : List ℕ) (ts us : List Token) (p q : Place) (e : Ending) → HasTokens kind text ts p e → (e ≡ at_end → ⊥) →
    HasTokens kind text us q at_end → A
not_at_end kind text ts us p q e a n b = absurd (n (tokens_agree kind text ts us p q e at_end a b).2)

not_spelled : {Tree : Type 0} {A : Type 0} (kind : TextKind) (Is : Tree → List Token → Type 0) (text : List ℕ) (ts : List Token) (p : Place) (x : Tree) →
    HasTokens kind text ts p at_end → ((y : Tree) → Is y ts → ⊥) → Spelled kind Is text x → A
not_spelled kind Is text ts p x h none s = absurd (none x (subst (Is x) (sym (tokens_agree kind text ts s.0 p s.1 at_end at_end h s.2).0) s.3))

-- two causes of one text give one status, if this holds of two faults of one tree
both_causes : {Tree : Type 0} (kind : TextKind) (Is : Tree → List Token → Type 0) (Bad : Tree → Fault → Type 0) → IsSingle Is →
    (text : List ℕ) → ((x : Tree) (f g : Fault) → Spelled kind Is text x → Bad x f → Bad x g → fault_status f ≡ fault_status g) →
    (f g : Fault) → Cause kind Is Bad text f → Cause kind Is Bad text g → fault_status f ≡ fault_status g
both_causes kind Is Bad one text both f g (too_long a is) (too_long b js) = rw (is, js) refl
both_causes kind Is Bad one text both f g (too_long a is) (no_tokens ts p e h n t) = within kind text ts p e a h
both_causes kind Is Bad one text both f g (too_long a is) (no_tree ts p h n t) = within kind text ts p at_end a h
both_causes kind Is Bad one text both f g (too_long a is) (bad_tree x s b) = within kind text s.0 s.1 at_end a s.2
both_causes kind Is Bad one text both f g (no_tokens ts p e h n t) (too_long b js) = within kind text ts p e b h
both_causes kind Is Bad one text both f g (no_tokens ts p e h n t) (no_tokens us q d i m u) = t ∙ sym u
both_causes kind Is Bad one text both f g (no_tokens ts p e h n t) (no_tree us q i m u) = t ∙ sym u
both_causes kind Is Bad one text both f g (no_tokens ts p e h n t) (bad_tree x s b) = not_at_end kind text ts s.0 p s.1 e h n s.2
both_causes kind Is Bad one text both f g (no_tree ts p h n t) (too_long b js) = within kind text ts p at_end b h
both_causes kind Is Bad one text both f g (no_tree ts p h n t) (no_tokens us q d i m u) = t ∙ sym u
both_causes kind Is Bad one text both f g (no_tree ts p h n t) (no_tree us q i m u) = t ∙ sym u
both_causes kind Is Bad one text both f g (no_tree ts p h n t) (bad_tree x s b) = not_spelled kind Is text ts p x h n s
both_causes kind Is Bad one text both f g (bad_tree x s a) (too_long b js) = within kind text s.0 s.1 at_end b s.2
both_causes kind Is Bad one text both f g (bad_tree x s a) (no_tokens us q d i m u) = not_at_end kind text us s.0 q s.1 d i m s.2
both_causes kind Is Bad one text both f g (bad_tree x s a) (no_tree us q i m u) = not_spelled kind Is text us q x i m s
both_causes kind Is Bad one text both f g (bad_tree x s a) (bad_tree y t b) = both x f g s a (subst (λ v. Bad v g) (trees_agree kind Is one text y x t s) b)

pub alike : {Tree : Type 0} (kind : TextKind) (Is : Tree → List Token → Type 0) (read : Reader Tree) (Bad : Tree → Fault → Type 0) → IsSingle Is →
    (text : List ℕ) → ((x : Tree) (f g : Fault) → Spelled kind Is text x → Bad x f → Bad x g → fault_status f ≡ fault_status g) →
    (f g : Fault) → Causes kind Is read Bad text f → Causes kind Is read Bad text g → fault_status f ≡ fault_status g
alike kind Is read Bad one text both f g a b =
    both_causes kind Is Bad one text both f g (cause_of kind Is read Bad text f a) (cause_of kind Is read Bad text g b)

-- a text that is refused spells no tree that is never refused
never_caused : {Tree : Type 0} (kind : TextKind) (Is : Tree → List Token → Type 0) (Bad : Tree → Fault → Type 0) → IsSingle Is →
    (text : List ℕ) (f : Fault) (x : Tree) → ((f : Fault) → Bad x f → ⊥) → Cause kind Is Bad text f → Spelled kind Is text x → ⊥
never_caused kind Is Bad one text f x never (too_long a is) s = within kind text s.0 s.1 at_end a s.2
never_caused kind Is Bad one text f x never (no_tokens ts p e i n t) s = not_at_end kind text ts s.0 p s.1 e i n s.2
never_caused kind Is Bad one text f x never (no_tree ts p i n t) s = not_spelled kind Is text ts p x i n s
never_caused kind Is Bad one text f x never (bad_tree y t b) s = never f (subst (λ v. Bad v f) (trees_agree kind Is one text y x t s) b)

pub unrefused : {Tree : Type 0} (kind : TextKind) (Is : Tree → List Token → Type 0) (read : Reader Tree) (Bad : Tree → Fault → Type 0) → IsSingle Is →
    (text : List ℕ) (f : Fault) (x : Tree) → ((f : Fault) → Bad x f → ⊥) → Causes kind Is read Bad text f → Spelled kind Is text x → ⊥
unrefused kind Is read Bad one text f x never c s = never_caused kind Is Bad one text f x never (cause_of kind Is read Bad text f c) s

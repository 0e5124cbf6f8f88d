-- Words behind `emit` that may be read, as flags and operands.
use Rattle.std.proofs.Common.{◌≡◌, ◌∙◌, ◌||◌, ◌==◌, ℕ, Bool, true, false, not, refl, sym, ap₂, true≢false, List, [], ◌∷◌, map, codes, bytes_eq}
use Rattle.std.proofs.lemmas.Slice.Eq.{bytes_eq-Decides}
use Rattle.std.specs.List.{list_all}
use Rattle.clap.proofs.WalkLemmas.{both}
use Rattle.clap.specs.Walk.{Text}
use Rattle.cf_words.specs.Words.{is_emit_flag, is_operand}
use Rattle.cf_words.proofs.Uses.{IsOperand, by_flag, dash_is, name_is}

-- what is seen in a word that is an operand
pub record IsEmitOperand (word : Text) : Type 0 where
  pub is : IsOperand word
  pub no_main : bytes_eq word (codes "--main") ≡ false
  pub no_name : bytes_eq word (codes "--name") ≡ false

-- a word that may be read
pub data EmitUse : Type 0 where
  main_flag : EmitUse
  name_flag : EmitUse
  operand : (word : Text) → IsEmitOperand word → EmitUse

abbrev pub emit_word_of : EmitUse → Text
emit_word_of main_flag = codes "--main"
emit_word_of name_flag = codes "--name"
emit_word_of (operand word is) = word

abbrev pub emit_words_of : List EmitUse → List Text
emit_words_of us = map emit_word_of us

-- a name is an operand, and so is the dash
module _ (x : ℕ) (xs : List ℕ) (e : (x == 45) ≡ false) where
  name_is_operand : IsEmitOperand (x ∷ xs)
  name_is_operand = record {
    is = name_is x xs e (by_flag (x ∷ xs) (rw e refl) (rw e refl) (rw e refl) (rw e refl) (rw e refl) (rw e refl));
    no_main = rw e refl;
    no_name = rw e refl;
  }

dash_is_operand : IsEmitOperand (codes "-")
dash_is_operand = record { is = dash_is; no_main = refl; no_name = refl }

operand_of : (word : Text) → is_operand word ≡ true → (u : EmitUse) × (emit_word_of u ≡ word)
operand_of [] h = absurd (true≢false (sym h))
operand_of (x ∷ xs) h = go (x == 45) refl h
  where
    go : (b : Bool) → (x == 45) ≡ b → (not b || bytes_eq (x ∷ xs) (codes "-")) ≡ true → (u : EmitUse) × (emit_word_of u ≡ x ∷ xs)
    go false e t = (operand (x ∷ xs) (name_is_operand x xs e), refl)
    go true e t = (operand (codes "-") dash_is_operand, sym ((bytes_eq-Decides (x ∷ xs) (codes "-")).0 t))

use_of : (word : Text) → (is_emit_flag word || is_operand word) ≡ true → (u : EmitUse) × (emit_word_of u ≡ word)
use_of word h = go (bytes_eq word (codes "--main")) refl (bytes_eq word (codes "--name")) refl
  where
    go : (b : Bool) → bytes_eq word (codes "--main") ≡ b → (c : Bool) → bytes_eq word (codes "--name") ≡ c → (u : EmitUse) × (emit_word_of u ≡ word)
    go true t c u = (main_flag, sym ((bytes_eq-Decides word (codes "--main")).0 t))
    go false t true u = (name_flag, sym ((bytes_eq-Decides word (codes "--name")).0 u))
    go false t false u = operand_of word (sym (ap₂ (λ a b. (a || b) || is_operand word) t u) ∙ h)

pub emit_uses_of : (words : List Text) → list_all (λ w. is_emit_flag w || is_operand w) words ≡ true → (us : List EmitUse) × (emit_words_of us ≡ words)
emit_uses_of [] h = ([], refl)
emit_uses_of (word ∷ words) h =
    let parts = both (is_emit_flag word || is_operand word) _ h in
    let first = use_of word parts.0 in
    let more = emit_uses_of words parts.1 in
    (first.0 ∷ more.0, λ i. first.1 i ∷ more.1 i)

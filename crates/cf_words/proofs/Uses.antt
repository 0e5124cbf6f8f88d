-- Words that may be read, as flags and operands.
use Rattle.std.proofs.Common.{◌≡◌, ◌∙◌, ◌||◌, ◌==◌, ◌++◌, ℕ, Bool, true, false, not, refl, sym, ap, true≢false, List, [], ◌∷◌, None, map, codes, bytes_eq}
use Rattle.std.proofs.Common.{◌⊎◌, inl, inr}
use Rattle.std.proofs.lemmas.Slice.Eq.{bytes_eq-Decides}
use Rattle.std.specs.List.{list_all}
use Rattle.clap.proofs.WalkLemmas.{both}
use Rattle.clap.specs.Lexer.{long_of, short_of}
use Rattle.clap.specs.Walk.{Text}
use Rattle.cf_words.specs.Words.{are_once, is_flag, is_operand, stands_twice}

pub data Flag : Type 0 where
  plain : Flag
  stats : Flag
  key : Flag
  jsonl : Flag
  strict : Flag
  unique : Flag

abbrev pub flag_id : Flag → Text
flag_id plain = codes "plain"
flag_id stats = codes "stats"
flag_id key = codes "key"
flag_id jsonl = codes "jsonl"
flag_id strict = codes "strict"
flag_id unique = codes "unique"

abbrev pub flag_word : Flag → Text
flag_word f = codes "--" ++ flag_id f

-- what is seen in a word that is an operand
pub record IsOperand (word : Text) : Type 0 where
  pub no_dashes : bytes_eq word (codes "--") ≡ false
  pub no_long : long_of word ≡ None
  pub no_short : short_of word ≡ None
  pub no_flag : (f : Flag) → bytes_eq word (flag_word f) ≡ false

-- a word that may be read
pub data Use : Type 0 where
  flag : Flag → Use
  operand : (word : Text) → IsOperand word → Use

abbrev pub word_of : Use → Text
word_of (flag f) = flag_word f
word_of (operand word is) = word

abbrev pub words_of : List Use → List Text
words_of us = map word_of us

pub flag_is : (f : Flag) → is_flag (flag_word f) ≡ true
flag_is plain = refl
flag_is stats = refl
flag_is key = refl
flag_is jsonl = refl
flag_is strict = refl
flag_is unique = refl

pub flag_not : (word : Text) → ((f : Flag) → bytes_eq word (flag_word f) ≡ false) → is_flag word ≡ false
flag_not word none = λ i. (none plain i || none stats i || none key i || none jsonl i || none strict i || none unique i)

-- a word is one of the flags or none
pub by_flag : (word : Text) → bytes_eq word (codes "--plain") ≡ false → bytes_eq word (codes "--stats") ≡ false → bytes_eq word (codes "--key") ≡ false
    → bytes_eq word (codes "--jsonl") ≡ false → bytes_eq word (codes "--strict") ≡ false → bytes_eq word (codes "--unique") ≡ false
    → (f : Flag) → bytes_eq word (flag_word f) ≡ false
by_flag word p s k j t u plain = p
by_flag word p s k j t u stats = s
by_flag word p s k j t u key = k
by_flag word p s k j t u jsonl = j
by_flag word p s k j t u strict = t
by_flag word p s k j t u unique = u

flag_named : (word : Text) → ((f : Flag) × (flag_word f ≡ word)) ⊎ ((f : Flag) → bytes_eq word (flag_word f) ≡ false)
flag_named word =
    go (bytes_eq word (codes "--plain")) refl (bytes_eq word (codes "--stats")) refl (bytes_eq word (codes "--key")) refl (bytes_eq word (codes "--jsonl")) refl
    (bytes_eq word (codes "--strict")) refl (bytes_eq word (codes "--unique")) refl
  where
    go : (p : Bool) → bytes_eq word (codes "--plain") ≡ p → (s : Bool) → bytes_eq word (codes "--stats") ≡ s
        → (k : Bool) → bytes_eq word (codes "--key") ≡ k → (j : Bool) → bytes_eq word (codes "--jsonl") ≡ j
        → (t : Bool) → bytes_eq word (codes "--strict") ≡ t → (u : Bool) → bytes_eq word (codes "--unique") ≡ u
        → ((f : Flag) × (flag_word f ≡ word)) ⊎ ((f : Flag) → bytes_eq word (flag_word f) ≡ false)
    go true is s e k f j g t h u i = inl (plain, sym ((bytes_eq-Decides word (codes "--plain")).0 is))
    go false d true is k f j g t h u i = inl (stats, sym ((bytes_eq-Decides word (codes "--stats")).0 is))
    go false d false e true is j g t h u i = inl (key, sym ((bytes_eq-Decides word (codes "--key")).0 is))
    go false d false e false f true is t h u i = inl (jsonl, sym ((bytes_eq-Decides word (codes "--jsonl")).0 is))
    go false d false e false f false g true is u i = inl (strict, sym ((bytes_eq-Decides word (codes "--strict")).0 is))
    go false d false e false f false g false h true is = inl (unique, sym ((bytes_eq-Decides word (codes "--unique")).0 is))
    go false d false e false f false g false h false i = inr (by_flag word d e f g h i)

-- a name is an operand, and so is the dash
pub name_is : (x : ℕ) (xs : List ℕ) → (x == 45) ≡ false → ((f : Flag) → bytes_eq (x ∷ xs) (flag_word f) ≡ false) → IsOperand (x ∷ xs)
name_is x xs e none = record {
  no_dashes = rw e refl;
  no_long = rw e refl;
  no_short = rw e refl;
  no_flag = none;
}

pub dash_is : IsOperand (codes "-")
dash_is = record {
  no_dashes = refl;
  no_long = refl;
  no_short = refl;
  no_flag = by_flag (codes "-") refl refl refl refl refl refl;
}

-- words that may be read are uses
operand_of : (word : Text) → ((f : Flag) → bytes_eq word (flag_word f) ≡ false) → is_operand word ≡ true → (u : Use) × (word_of u ≡ word)
operand_of [] none h = absurd (true≢false (sym h))
operand_of (x ∷ xs) none h = go (x == 45) refl h
  where
    go : (b : Bool) → (x == 45) ≡ b → (not b || bytes_eq (x ∷ xs) (codes "-")) ≡ true → (u : Use) × (word_of u ≡ x ∷ xs)
    go false e t = (operand (x ∷ xs) (name_is x xs e none), refl)
    go true e t = (operand (codes "-") dash_is, sym ((bytes_eq-Decides (x ∷ xs) (codes "-")).0 t))

use_of : (word : Text) → (is_flag word || is_operand word) ≡ true → (u : Use) × (word_of u ≡ word)
use_of word h = elim (flag_named word) [
  | inl (f, is) ↦ (flag f, is)
  | inr none ↦ operand_of word none (sym (ap (λ b. b || is_operand word) (flag_not word none)) ∙ h)
]

pub uses_of : (words : List Text) → list_all (λ w. is_flag w || is_operand w) words ≡ true → (us : List Use) × (words_of us ≡ words)
uses_of [] h = ([], refl)
uses_of (word ∷ words) h =
    let parts = both (is_flag word || is_operand word) _ h in
    let first = use_of word parts.0 in
    let more = uses_of words parts.1 in
    (first.0 ∷ more.0, λ i. first.1 i ∷ more.1 i)

-- no flag stands twice
abbrev pub AreOnce : List Text → Type 0
AreOnce words = (f : Flag) → stands_twice (flag_word f) words ≡ false

abbrev of_six : (p s k j t u : Bool) → Flag → Bool
of_six p s k j t u plain = p
of_six p s k j t u stats = s
of_six p s k j t u key = k
of_six p s k j t u jsonl = j
of_six p s k j t u strict = t
of_six p s k j t u unique = u

none_of : (p s k j t u : Bool) → not (p || s || k || j || t || u) ≡ true → (f : Flag) → of_six p s k j t u f ≡ false
none_of true s k j t u h f = absurd (true≢false (sym h))
none_of false true k j t u h f = absurd (true≢false (sym h))
none_of false false true j t u h f = absurd (true≢false (sym h))
none_of false false false true t u h f = absurd (true≢false (sym h))
none_of false false false false true u h f = absurd (true≢false (sym h))
none_of false false false false false true h f = absurd (true≢false (sym h))
none_of false false false false false false h plain = refl
none_of false false false false false false h stats = refl
none_of false false false false false false h key = refl
none_of false false false false false false h jsonl = refl
none_of false false false false false false h strict = refl
none_of false false false false false false h unique = refl

module _ (words : List Text) (h : are_once words ≡ true) where
  each_once : (f : Flag) → of_six (stands_twice (codes "--plain") words) (stands_twice (codes "--stats") words) (stands_twice (codes "--key") words)
      (stands_twice (codes "--jsonl") words) (stands_twice (codes "--strict") words) (stands_twice (codes "--unique") words) f ≡ false
  each_once = none_of _ _ _ _ _ _ h

  pub once_of : AreOnce words
  once_of plain = each_once plain
  once_of stats = each_once stats
  once_of key = each_once key
  once_of jsonl = each_once jsonl
  once_of strict = each_once strict
  once_of unique = each_once unique

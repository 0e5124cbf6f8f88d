-- The texts of samples, part by part.
use Rattle.std.proofs.Common.{◌≡◌, ◌∙◌, sym, ap, ℕ, List, [], ◌∷◌, ◌++◌, codes, append_assoc, append-nil}
use Rattle.std.specs.List.{concat}
use Rattle.cf_tree.specs.Values.{Value}
use Rattle.cf_answer.specs.Checks.{setting_text, settings_text}

pub setting_more : (text new before name : List ℕ) (v : Value) (names : List (List ℕ)) (vs : List Value) → new ≡ text ++ setting_text before name v →
    new ++ settings_text (codes ", ") names vs ≡ text ++ settings_text before (name ∷ names) (v ∷ vs)
setting_more text new before name v names vs is = rw is (append_assoc text (setting_text before name v) (settings_text (codes ", ") names vs))

-- ---- texts that are added one after the other
added : (t u x rest : List ℕ) → u ≡ t ++ x → u ++ rest ≡ t ++ (x ++ rest)
added t u x rest e = rw e (append_assoc t x rest)

pub two_added : (t u v a b : List ℕ) → u ≡ t ++ a → v ≡ u ++ b → v ≡ t ++ concat (a ∷ b ∷ [])
two_added t u v a b first second = second ∙ ap (λ s. u ++ s) (sym (append-nil b)) ∙ added t u a (b ++ []) first

pub six_added : (t u v w x y z a b c d e f : List ℕ) → u ≡ t ++ a → v ≡ u ++ b → w ≡ v ++ c → x ≡ w ++ d → y ≡ x ++ e → z ≡ y ++ f →
    z ≡ t ++ concat (a ∷ b ∷ c ∷ d ∷ e ∷ f ∷ [])
six_added t u v w x y z a b c d e f h i j k l m =
    two_added x y z e f l m ∙ added w x d (concat (e ∷ f ∷ [])) k ∙ added v w c (concat (d ∷ e ∷ f ∷ [])) j
    ∙ added u v b (concat (c ∷ d ∷ e ∷ f ∷ [])) i ∙ added t u a (concat (b ∷ c ∷ d ∷ e ∷ f ∷ [])) h

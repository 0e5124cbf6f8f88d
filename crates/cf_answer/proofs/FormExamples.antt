-- Worked examples: replies with keys, and how they are worded.
use Rattle.std.proofs.Common.{◌≡◌, ◌<◌, ◌≤◌, ℕ, true, false, pos, List, [], ◌∷◌, ◌++◌, length, refl, arith, codes}
use Rattle.std.specs.Prelude.{map, ◌==◌, if◌then◌else◌}
use Rattle.std.specs.Fmt.{digits}
use Rattle.cf_io.specs.Limits.{line_limit}
use Rattle.cf_tree.specs.Values.{number, values, no_solution}
use Rattle.cf_late.specs.ChooseRun.{comes_to, overflow}
use Rattle.cf_lex.specs.Runs.{AllAre}
use Rattle.cf_answer.specs.Forms.{Wording, as_text, as_json, Form, form_of, is_key_byte, IsKeyed, too_long, no_key, keyed, ByKey, InForm}

-- an apostrophe stands for a quote
abbrev with_quotes : List ℕ → List ℕ
with_quotes bs = map (λ b. if b == 39 then 34 else b) bs

-- ---- wordings
text-of_two : as_text.told (comes_to (values (number (pos 4) ∷ number (pos 5) ∷ []))) ≡ codes "4 5"
unfolding digits
text-of_two = refl

json-of_two : (as_json (codes "q" ∷ codes "r" ∷ [])).told (comes_to (values (number (pos 4) ∷ number (pos 5) ∷ []))) ≡ with_quotes (codes "{'q': 4, 'r': 5}")
unfolding digits
json-of_two = refl

text-of_a_fault : as_text.fault (codes "bad input") ≡ codes "bad input"
text-of_a_fault = refl

json-of_a_fault : (as_json []).fault (codes "bad input") ≡ with_quotes (codes "{'error': 'bad input'}")
json-of_a_fault = refl

-- what is asked for
asked-nothing : form_of (record { key = false; jsonl = false }) (codes "q" ∷ []) ≡ record { key = false; wording = as_text }
asked-nothing = refl

asked-both : form_of (record { key = true; jsonl = true }) (codes "q" ∷ []) ≡ record { key = true; wording = as_json (codes "q" ∷ []) }
asked-both = refl

-- ---- keys: a line is replied to by itself, between angles
abbrev Echoes : List ℕ → List ℕ → Type 0
Echoes line reply = reply ≡ codes "<" ++ line ++ codes ">"

short-line : length (codes "a\t7 8") ≤ line_limit
unfolding line_limit
short-line = omega arith

the-key : IsKeyed as_text Echoes (codes "a\t7 8") (codes "a\t<7 8>")
the-key = keyed (codes "a") (codes "7 8") (codes "<7 8>") short-line refl (refl, tt) refl

-- a key ends before the first TAB, and may be empty
short-tabs : length (codes "\t\t7") ≤ line_limit
unfolding line_limit
short-tabs = omega arith

no-bytes_in_it : IsKeyed as_text Echoes (codes "\t\t7") (codes "\t<\t7>")
no-bytes_in_it = keyed [] (codes "\t7") (codes "<\t7>") short-tabs refl tt refl

short-word : length (codes "a 7") ≤ line_limit
unfolding line_limit
short-word = omega arith

none-there : IsKeyed as_text Echoes (codes "a 7") (codes "bad input")
none-there = no_key short-word (refl, (refl, (refl, tt)))

none-in_json : IsKeyed (as_json []) Echoes (codes "a 7") (with_quotes (codes "{'error': 'bad input'}"))
none-in_json = no_key short-word (refl, (refl, (refl, tt)))

-- the key of a line that is too long is not told
long-line : (line : List ℕ) → line_limit < length line → IsKeyed as_text Echoes line (codes "line too long")
long-line line long = too_long long

-- ---- forms
plain-form : (line reply : List ℕ) → InForm (record { key = false; wording = as_text }) (λ w. Echoes) line reply → Echoes line reply
plain-form line reply h = h

keyed-form : (line reply : List ℕ) → InForm (record { key = true; wording = as_text }) (λ w. Echoes) line reply → IsKeyed as_text Echoes line reply
keyed-form line reply h = h

-- A reader of expressions by how tightly signs bind, one for all languages.
use Rattle.std.specs.Prelude.{ℕ, suc, nat_le, Bool, true, false, List, [], ◌∷◌, ◌++◌, ◌≡◌, codes, if◌then◌else◌}
use Rattle.cf_print_term.specs.Terms.{Term, Terms, word, before, between, call, choice, no_terms, term_more, text, is_tight, is_left_of, asked, asked_in_choice}
use Rattle.cf_print_term.specs.Marks.{mark_text}
use Rattle.cf_print_term.specs.declared.table.Sign.{Sign}
use Rattle.cf_print_term.specs.declared.table.Call.{Call}
use Rattle.cf_print_term.specs.declared.table.Choice.{Choice}

pub data Token : Type 0 where
  a_word : List ℕ → Token
  sign_before : Sign → Token
  sign_between : Sign → Token
  opened : Token
  closed : Token
  call_opened : Call → Token
  comma : Token
  call_closed : Call → Token
  -- behind the first part of a choice, and behind the second
  first_of : Choice → Token
  second_of : Choice → Token

abbrev pub token_text : Token → List ℕ
token_text (a_word w) = w
token_text (sign_before s) = mark_text s.text
token_text (sign_between s) = mark_text s.text
token_text opened = codes "("
token_text closed = codes ")"
token_text (call_opened c) = mark_text c.opening
token_text comma = codes ", "
token_text (call_closed c) = mark_text c.closing
token_text (first_of k) = mark_text k.first
token_text (second_of k) = mark_text k.second

abbrev pub spelled : List Token → List ℕ
spelled [] = []
spelled (t ∷ ts) = token_text t ++ spelled ts

-- ---- the tokens of a term, and others behind it

abbrev pub enclosed_tokens : Bool → (List Token → List Token) → List Token → List Token
enclosed_tokens true part rest = part rest
enclosed_tokens false part rest = opened ∷ part (closed ∷ rest)

abbrev mutual
  pub tokens : Term → List Token → List Token
  tokens (word w) rest = a_word w ∷ rest
  tokens (before s a) rest = sign_before s ∷ enclosed_tokens (is_tight (asked s) a) (tokens a) rest
  tokens (between s a b) rest =
      enclosed_tokens (is_left_of s a) (tokens a) (sign_between s ∷ enclosed_tokens (is_tight (asked s) b) (tokens b) rest)
  tokens (call c ts) rest = call_opened c ∷ list_tokens c ts rest
  tokens (choice k a b c) rest =
      enclosed_tokens (is_tight asked_in_choice a) (tokens a) (first_of k ∷
      enclosed_tokens (is_tight asked_in_choice b) (tokens b) (second_of k ∷
      enclosed_tokens (is_tight asked_in_choice c) (tokens c) rest))

  pub list_tokens : Call → Terms → List Token → List Token
  list_tokens c no_terms rest = call_closed c ∷ rest
  list_tokens c (term_more t ts) rest = tokens t (more_tokens c ts rest)

  pub more_tokens : Call → Terms → List Token → List Token
  more_tokens c no_terms rest = call_closed c ∷ rest
  more_tokens c (term_more t ts) rest = comma ∷ tokens t (more_tokens c ts rest)

-- ---- the reader: one token after another, with what waits for its next part on a stack

pub data Waiting : Type 0 where
  before_waits : Sign → Waiting
  between_waits : Sign → Term → Waiting
  opened_waits : Waiting
  -- a call, with its arguments so far, the last first
  call_waits : Call → List Term → Waiting
  first_waits : Choice → Term → Waiting
  second_waits : Choice → Term → Term → Waiting

pub data State : Type 0 where
  -- a term has been read last, or a part has to come, or what was read is no term
  behind : Term → List Waiting → State
  at_part : List Waiting → State
  stuck : State

-- what waits takes the term behind it where it binds at least as tight as what comes
abbrev pub taken_in : ℕ → Term → List Waiting → State
taken_in l t [] = behind t []
taken_in l t (before_waits s ∷ ws) = if nat_le l (suc s.level) then taken_in l (before s t) ws else behind t (before_waits s ∷ ws)
taken_in l t (between_waits s a ∷ ws) = if nat_le l (suc s.level) then taken_in l (between s a t) ws else behind t (between_waits s a ∷ ws)
taken_in l t (second_waits k a b ∷ ws) = if nat_le l 0 then taken_in l (choice k a b t) ws else behind t (second_waits k a b ∷ ws)
taken_in l t (opened_waits ∷ ws) = behind t (opened_waits ∷ ws)
taken_in l t (call_waits c ts ∷ ws) = behind t (call_waits c ts ∷ ws)
taken_in l t (first_waits k a ∷ ws) = behind t (first_waits k a ∷ ws)

abbrev pub settled : ℕ → State → State
settled l (behind t ws) = taken_in l t ws
settled l (at_part ws) = stuck
settled l stuck = stuck

-- what tokens make of a settled state
abbrev pub sign_behind : Sign → State → State
sign_behind s (behind t ws) = at_part (between_waits s t ∷ ws)
sign_behind s _ = stuck

abbrev pub close : State → State
close (behind t (opened_waits ∷ ws)) = behind t ws
close _ = stuck

abbrev pub next_argument : State → State
next_argument (behind t (call_waits c ts ∷ ws)) = at_part (call_waits c (t ∷ ts) ∷ ws)
next_argument _ = stuck

abbrev pub in_order : List Term → Terms → Terms
in_order [] ts = ts
in_order (t ∷ back) ts = in_order back (term_more t ts)

abbrev pub end_call : State → State
end_call (behind t (call_waits c ts ∷ ws)) = behind (call c (in_order (t ∷ ts) no_terms)) ws
end_call _ = stuck

abbrev pub first_behind : Choice → State → State
first_behind k (behind t ws) = at_part (first_waits k t ∷ ws)
first_behind k _ = stuck

abbrev pub second_behind : State → State
second_behind (behind t (first_waits k a ∷ ws)) = at_part (second_waits k a t ∷ ws)
second_behind _ = stuck

-- what tokens make where a part has to come
abbrev pub at_its_part : (List Waiting → State) → State → State
at_its_part f (at_part ws) = f ws
at_its_part f _ = stuck

abbrev pub empty_call : State → State
empty_call (at_part (call_waits c [] ∷ ws)) = behind (call c no_terms) ws
empty_call s = end_call (settled 0 s)

abbrev pub step : Token → State → State
step (a_word w) s = at_its_part (λ ws. behind (word w) ws) s
step (sign_before g) s = at_its_part (λ ws. at_part (before_waits g ∷ ws)) s
step (sign_between g) s = sign_behind g (settled (suc g.level) s)
step opened s = at_its_part (λ ws. at_part (opened_waits ∷ ws)) s
step closed s = close (settled 0 s)
step (call_opened c) s = at_its_part (λ ws. at_part (call_waits c [] ∷ ws)) s
step comma s = next_argument (settled 0 s)
step (call_closed c) s = empty_call s
step (first_of k) s = first_behind k (settled 0 s)
step (second_of k) s = second_behind (settled 0 s)

abbrev pub run : List Token → State → State
run [] s = s
run (t ∷ ts) s = run ts (step t s)

-- what tokens spell, if they spell a term
abbrev pub read : List Token → State
read ts = settled 0 (run ts (at_part []))

-- the text of each term is that of tokens in which the reader finds the term again, and nothing else
pub record TextReadsBack (t : Term) : Type 0 where
  pub spells : spelled (tokens t []) ≡ text t
  pub reads : read (tokens t []) ≡ behind t []

abbrev pub TextsReadBack : Type 0
TextsReadBack = (t : Term) → TextReadsBack t

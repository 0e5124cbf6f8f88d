-- What a line is read as, part by part.
use Rattle.std.specs.Prelude.{◌≡◌, ℕ, ℤ, pos, neg_ℤ, ◌+◌, Bool, true, false, List, [], ◌∷◌, ◌++◌, length, take, drop, Option, Some, None, Result, Ok, Err, codes, nat_eq, nat_lt, not, ◌==◌, if◌then◌else◌}
use Rattle.std.specs.Borrow.{Bor}
use Rattle.std.specs.List.{prefix_len, list_all, slice_split, starts_with}
use Rattle.cf_lex.specs.Bytes.{is_digit}
use Rattle.cf_lex.specs.Digits.{digits_value, at_most}
use Rattle.cf_tree.specs.Sets.{set_of}
use Rattle.cf_tree.specs.Values.{Value, number, truth, elements}
use Rattle.cf_tree.specs.declared.base.Base.{Base}
use Rattle.cf_tree.specs.declared.base.Base.TheVariants as base
use Rattle.cf_eval.specs.Seen.{plain}
use Rattle.cf_eval.specs.Spelling.{is_space}
use Rattle.cf_eval.specs.declared.fault.LineFault.{LineFault}
use Rattle.cf_eval.specs.declared.fault.LineFault.TheVariants as fault
use Rattle.cf_eval.specs.declared.value.Value.{Value as RunValue}

abbrev pub is_before_comma : ℕ → Bool
is_before_comma b = not (b == 44)

abbrev pub is_before_brace : ℕ → Bool
is_before_brace b = not (b == 125)

-- a value and what stands behind it, or nothing
abbrev pub Read : Type 0 → Type 0
Read A = Option (A × List ℕ)

abbrev pub after_spaces : List ℕ → List ℕ
after_spaces text = drop (prefix_len is_space text) text

abbrev pub digits_read : ℕ → List ℕ → Option ℕ → Read ℤ
digits_read n text None = None
digits_read n text (Some v) = Some (pos v, drop n text)

-- the longest run of digits
abbrev pub digits_at : ℕ → List ℕ → Read ℤ
digits_at limit text =
    if prefix_len is_digit text == 0 then None
    else digits_read (prefix_len is_digit text) text (at_most limit (digits_value (take (prefix_len is_digit text) text)))

abbrev pub negated : Read ℤ → Read ℤ
negated None = None
negated (Some x) = Some (neg_ℤ x.0, x.1)

-- digits, or their negative behind "-"
abbrev pub number_at : ℕ → List ℕ → Read ℤ
number_at limit [] = None
number_at limit (b ∷ text) = if b == 45 then negated (digits_at limit text) else digits_at limit (b ∷ text)

-- spaces, a number and spaces
abbrev pub item_rest : Read ℤ → Option ℤ
item_rest None = None
item_rest (Some x) = if list_all is_space x.1 then Some x.0 else None

abbrev pub item_at : ℕ → List ℕ → Option ℤ
item_at limit part = item_rest (number_at limit (after_spaces part))

abbrev pub added : List ℤ → Option ℤ → Option (List ℤ)
added done None = None
added done (Some z) = Some (done ++ z ∷ [])

abbrev pub with_item : (List ℤ → Option (List ℤ)) → Option (List ℤ) → Option (List ℤ)
with_item go None = None
with_item go (Some done) = go done

abbrev pub items_from : ℕ → List (List ℕ) → List ℤ → Option (List ℤ)
items_from limit [] done = Some done
items_from limit (part ∷ parts) done = with_item (items_from limit parts) (added done (item_at limit part))

-- numbers with commas between them, or none
abbrev pub body_at : ℕ → List ℕ → Option (List ℤ)
body_at limit body = if list_all is_space body then Some [] else items_from limit (slice_split (λ b. b == 44) body) []

abbrev pub set_read : List ℕ → Option (List ℤ) → Read Value
set_read rest None = None
set_read rest (Some zs) = Some (elements (set_of zs), rest)

abbrev pub braces_at : ℕ → ℕ → List ℕ → Read Value
braces_at limit n text = if nat_lt n (length text) then set_read (drop (n + 1) text) (body_at limit (take n text)) else None

abbrev pub set_at : ℕ → List ℕ → Read Value
set_at limit [] = None
set_at limit (b ∷ text) = if b == 123 then braces_at limit (prefix_len is_before_brace text) text else None

abbrev pub truth_at : List ℕ → Read Value
truth_at text =
    if starts_with nat_eq text (codes "true") then Some (truth true, drop 4 text)
    else (if starts_with nat_eq text (codes "false") then Some (truth false, drop 5 text) else None)

abbrev pub number_read : Read ℤ → Read Value
number_read None = None
number_read (Some x) = Some (number x.0, x.1)

abbrev pub value_at : ℕ → Base → List ℕ → Read Value
value_at limit base.Int text = number_read (number_at limit text)
value_at limit base.Bool text = truth_at text
value_at limit base.Set text = set_at limit text

-- a space between this value and the next
abbrev pub is_apart : List Base → List ℕ → Bool
is_apart [] rest = true
is_apart (b ∷ bases) [] = false
is_apart (b ∷ bases) (c ∷ rest) = is_space c

abbrev pub with_value : (List ℕ → List Value → Option (List Value)) → List Base → List Value → Read Value → Option (List Value)
with_value go bases done None = None
with_value go bases done (Some x) = if is_apart bases x.1 then go x.1 (done ++ x.0 ∷ []) else None

abbrev pub values_from : ℕ → List Base → List ℕ → List Value → Option (List Value)
values_from limit [] text done = if list_all is_space text then Some done else None
values_from limit (base ∷ bases) text done = with_value (values_from limit bases) bases done (value_at limit base (after_spaces text))

-- an error, by what is read
abbrev pub ReadFault : {Y : Type 0} → LineFault → Option Y → Type 0
ReadFault fault.BadInput read = read ≡ None
ReadFault fault.NoMemory read = Unit {0}

-- what a reader gives, seen by view
abbrev pub ReadAnswer : {X Y : Type 0} → (X → Y) → Result X LineFault → Option Y → Type 0
ReadAnswer view (Ok x) read = read ≡ Some (view x)
ReadAnswer view (Err e) read = ReadFault e read

-- the same where no memory is wanted
abbrev pub NumberRead : Option (ℤ × Bor (List ℕ)) → Read ℤ → Type 0
NumberRead (Some x) read = read ≡ Some (x.0, x.1.now)
NumberRead None read = read ≡ None

abbrev pub TruthRead : Option (RunValue × Bor (List ℕ)) → Read Value → Type 0
TruthRead (Some x) read = read ≡ Some (plain x.0, x.1.now)
TruthRead None read = read ≡ None

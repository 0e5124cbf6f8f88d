-- Worked examples of the source in the comment at the top, which it cannot leave.
use Rattle.std.specs.Prelude.{ℕ, ◌≡◌, List, [], ◌∷◌, ◌++◌, Option, None, codes, refl}
use Rattle.cf_print.specs.Sources.{source_lines, head_of}
use Rattle.cf_print.specs.declared.language.Language.{Language}
use Rattle.cf_print.specs.declared.language.Language.TheVariants.{C, Python, JavaScript, Rust}

abbrev lines : Language → List ℕ → List ℕ
lines l source = source_lines l None source

-- ---- a line, an empty line, and a last line without its end
plain : lines C (codes "ab\n\nc") ≡ codes " *     ab\n *\n *     c\n"
plain = refl

python_lines : lines Python (codes "ab\n\nc\n") ≡ codes "    ab\n\n    c\n"
python_lines = refl

js_lines : lines JavaScript (codes "ab\n\nc") ≡ codes "//     ab\n//\n//     c\n"
js_lines = refl

js_head : head_of JavaScript (codes "ab\n") ≡ codes "// Written by Comfusy from this source; each change belongs there.\n//\n//     ab\n"
js_head = refl

rust_lines : lines Rust (codes "ab\n\nc") ≡ codes "//     ab\n//\n//     c\n"
rust_lines = refl

rust_head : head_of Rust (codes "ab\n") ≡ codes "// Written by Comfusy from this source; each change belongs there.\n//\n//     ab\n" ++ codes
    "\n#![forbid(unsafe_code)]\n#![allow(non_snake_case, unused_variables)]\n"
rust_head = refl

quotes_in_rust : lines Rust (codes "\"\\ */") ≡ codes "//     \"\\ */\n"
quotes_in_rust = refl

-- ---- bytes that are shown otherwise
tab : lines Python (codes "a\tb") ≡ codes "    a b\n"
tab = refl

carriage_return : lines JavaScript (codes "# a" ++ (13 ∷ codes "b()")) ≡ codes "//     # a?b()\n"
carriage_return = refl

zero_byte : lines Python (codes "# " ++ (0 ∷ [])) ≡ codes "    # ?\n"
zero_byte = refl

past_letters : lines JavaScript (126 ∷ 127 ∷ 128 ∷ 226 ∷ 255 ∷ []) ≡ codes "//     ~????\n"
past_letters = refl

-- ---- what would end the comment
quotes : lines Python (codes "\"\"\"\\") ≡ codes "    \\\"\\\"\\\"\\\\\n"
quotes = refl

star_slash : lines C (codes "*/ /* */*") ≡ codes " *     * / / * * / *\n"
star_slash = refl

trigraph : lines C (codes "# ??/\n1 / 2") ≡ codes " *     # ?? /\n *     1 / 2\n"
trigraph = refl

-- two bytes that are no letters, and a slash
made_trigraph : lines C (codes "# " ++ (195 ∷ 169 ∷ codes "/\n")) ≡ codes " *     # ?? /\n"
made_trigraph = refl

-- a line begins anew: what stands at the end of the last does not count
next_line : lines C (codes "*\n/") ≡ codes " *     *\n *     /\n"
next_line = refl

backslash_at_the_end : lines C (codes "# \\\nb") ≡ codes " *     # \\\n *     b\n"
backslash_at_the_end = refl

-- The words of a language that no variable may have for its name.
use Rattle.std.specs.Prelude.{ℕ, List}
use Rattle.cf_print.specs.declared.language.Language.{Language}
use Rattle.cf_print.specs.declared.language.Language.TheVariants.{C, Python, JavaScript, Rust}
use Rattle.cf_print.specs.declared.words.TheConstants.{PYTHON_WORDS, C_WORDS, JAVASCRIPT_WORDS, RUST_WORDS}

abbrev pub words_of : Language → List ℕ
words_of C = C_WORDS.now
words_of Python = PYTHON_WORDS.now
words_of JavaScript = JAVASCRIPT_WORDS.now
words_of Rust = RUST_WORDS.now

-- Laws on what the program answers.
use Rattle.std.proofs.Common.{◌≡◌, ℕ, ◌<◌, List, length, Option, Some, None, Result, Ok, Err, IfOk, IfNone, refl, sym, ap, ◌∙◌, subst, lit<}
use Rattle.std.specs.Prelude.{replicate}
use Rattle.std.proofs.lemmas.List.{length-replicate}
use Rattle.std.specs.declared.alloc.AllocError.{AllocError}
use Rattle.weave_base.specs.Contents.{File, bytes_of}
use Rattle.c_lexer.specs.declared.token.Token.{Token}
use Rattle.c_lexer.specs.FirstForm.Tokens.{AreTokensOf}
use Rattle.c_lexer.proofs.FirstForm.TokenLaws.{one_token_list}
use Rattle.c_parser.specs.declared.first_form.tree.FirstTree.{FirstTree}
use Rattle.c_words.specs.declared.word.Mode.TheVariants as mode
use Rattle.c_parser.specs.FirstForm.Program.{Program}
use Rattle.c_parser.specs.FirstForm.Texts.{Spells}
use Rattle.weave_cli.specs.Answers.{IsFirstProgram}

long_list : (n : ℕ) → 262144 < n → (text : List ℕ) × (262144 < length text)
long_list n h = (replicate n 0, subst (λ k. 262144 < k) (sym (length-replicate n 0)) h)

some_long_list : (text : List ℕ) × (262144 < length text)
some_long_list = long_list 262145 (lit< tt)

-- a text of the file that is too long: where the files tell nothing, any text may be the file's
pub record LongText (contents : Option (List File)) (file : List ℕ) : Type 0 where
  pub text : List ℕ
  pub of_file : (files : List File) → contents ≡ Some files → bytes_of files file ≡ Some text
  pub long : 262144 < length text

pub long_text : (contents : Option (List File)) (file : List ℕ) → ((files : List File) → contents ≡ Some files → (bytes : List ℕ) × (bytes_of files file ≡ Some bytes) × (262144 < length bytes)) → LongText contents file
long_text None file told = record { text = some_long_list.0; of_file = λ files h. cc; long = some_long_list.1 }
long_text (Some files) file told =
    let t = told files refl in
    record { text = t.0; of_file = λ others h. let same : others ≡ files = cc in (ap (λ fs. bytes_of fs file) same ∙ t.1); long = t.2 }

-- where no program is spelled by the one list of tokens, the text is of no program
pub no_program : (text : List ℕ) (tokens : List Token) (r : Result (Option FirstTree) AllocError) → AreTokensOf text tokens
    → IfOk r (λ found. IfNone found ((p : Program) → Spells mode.Source text tokens p → ⊥)) → IfOk r (λ found. IfNone found (IsFirstProgram text → ⊥))
no_program text tokens (Err e) lexed none = tt
no_program text tokens (Ok (Some tree)) lexed none = tt
no_program text tokens (Ok None) lexed none =
    λ found. none found.0 (subst (λ ts. Spells mode.Source text ts found.0) (one_token_list text found.1.tokens tokens found.1.lexed lexed) found.1.spelled)

-- Declared names and parameters are read exactly, and leaves spell them in one way at most.
use Rattle.std.proofs.Common.{◌≡◌, suc, max, [], ◌∷◌, Some, refl, sym, ◌∙◌, append-nil, arith}
use Rattle.c_grammar.specs.Declarations as grammar
use Rattle.c_words.specs.Parsing.{word_at}
use Rattle.c_words.proofs.Reading.{Ends, same_pair}
use Rattle.c_declarations.specs.DeclaredReading as read
use Rattle.c_declarations.specs.Exactness.{ReadsDeclarations, ReadsParameters, HaveOneDeclaration}
use Rattle.c_declarations.proofs.DeclaredLaws.{goes_on_all_declared, all_declared-Sound, all_declared-Complete}
use Rattle.c_declarations.proofs.ParameterLaws.{params-Sound, params-gives}

at_end : Ends goes_on_all_declared []
unfolding word_at
at_end = record { ends = refl }

pub reads_declarations : ReadsDeclarations
reads_declarations k ls a = ((λ h. (all_declared-Sound k).takes ls a [] h), (λ t. (all_declared-Complete k).gives ls a [] t at_end))

pub reads_parameters : ReadsParameters
unfolding word_at
reads_parameters k ls closing rest a is = ((λ h. (params-Sound k).takes ls a (closing ∷ rest) h), (λ t. params-gives k a ls (closing ∷ rest) t is))

pub have_one_declaration : HaveOneDeclaration
have_one_declaration a b first second same =
    let k = suc (max (grammar.all_declared a).nesting (grammar.all_declared b).nesting) in
    let ls = (grammar.all_declared a).leaves in
    let x : read.all_declared k ls ≡ Some (a, []) =
    (all_declared-Complete k).gives ls a [] (record { spelled = sym (append-nil (grammar.all_declared a).leaves); levelled = first; below = omega arith }) at_end in
    let y : read.all_declared k ls ≡ Some (b, []) =
    (all_declared-Complete k).gives ls b [] (record { spelled = same ∙ sym (append-nil (grammar.all_declared b).leaves); levelled = second; below = omega arith }) at_end in
    (same_pair (sym x ∙ y)).0

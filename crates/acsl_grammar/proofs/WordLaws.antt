-- What a word begins, and which words go on with a tree.
use Rattle.std.proofs.Common.{◌≡◌, Bool, true, false, ◌||◌, ◌&&◌, List, [], ◌∷◌, refl, ap, ◌∙◌}
use Rattle.std.specs.List.{list_all}
use Rattle.c_words.specs.declared.word.Word.{Word}
use Rattle.c_words.specs.declared.word.Word.TheVariants as w
use Rattle.c_words.specs.Words.{same}
use Rattle.c_words.specs.OperatorWords.{is_comma, is_product_operator, is_sum_operator}
use Rattle.acsl_grammar.specs.Vocabulary.{is_name, is_constant, is_unary, is_truth, is_validity, is_event, is_comparison, ascends, descends, is_one_way}
use Rattle.acsl_grammar.specs.TermReading.{is_suffix, StartsName, StartsConstant, StartsUnary, factor_start, StartsTruth, StartsValid, StartsTerm, literal_start, Way, Undecided, Ascending, Descending, Ended, way_of, way_after, leads}

-- ---- starts

pub name_starts : (y : Word) → is_name y ≡ true → factor_start y ≡ StartsName
name_starts w.Name h = refl
name_starts w.CallEvent h = refl
name_starts w.ReturnEvent h = refl
name_starts w.EitherEvent h = refl
name_starts w.PreLabel h = refl
name_starts w.HereLabel h = refl
name_starts w.MetaName h = refl
name_starts w.OtherName h = refl
name_starts _ h = cc

pub constant_starts : (y : Word) → is_constant y ≡ true → factor_start y ≡ StartsConstant
constant_starts w.Number h = refl
constant_starts w.Character h = refl
constant_starts w.SlashNull h = refl
constant_starts w.SlashWritten h = refl
constant_starts w.SlashRead h = refl
constant_starts w.SlashCalled h = refl
constant_starts _ h = cc

pub unary_starts : (y : Word) → is_unary y ≡ true → factor_start y ≡ StartsUnary
unary_starts w.Minus h = refl
unary_starts w.Star h = refl
unary_starts w.Ampersand h = refl
unary_starts _ h = cc

-- no event begins with these
pub constant_no_event : (y : Word) → is_constant y ≡ true → is_event y ≡ false
constant_no_event w.CallEvent h = cc
constant_no_event w.ReturnEvent h = cc
constant_no_event w.EitherEvent h = cc
constant_no_event _ h = refl

pub unary_no_event : (y : Word) → is_unary y ≡ true → is_event y ≡ false
unary_no_event w.CallEvent h = cc
unary_no_event w.ReturnEvent h = cc
unary_no_event w.EitherEvent h = cc
unary_no_event _ h = refl

pub truth_no_event : (y : Word) → is_truth y ≡ true → is_event y ≡ false
truth_no_event w.CallEvent h = cc
truth_no_event w.ReturnEvent h = cc
truth_no_event w.EitherEvent h = cc
truth_no_event _ h = refl

pub validity_no_event : (y : Word) → is_validity y ≡ true → is_event y ≡ false
validity_no_event w.CallEvent h = cc
validity_no_event w.ReturnEvent h = cc
validity_no_event w.EitherEvent h = cc
validity_no_event _ h = refl

-- a factor begins no literal but a relation
pub name_literal : (y : Word) → is_name y ≡ true → literal_start y ≡ StartsTerm
name_literal w.Exclamation h = cc
name_literal w.SlashTrue h = cc
name_literal w.SlashFalse h = cc
name_literal w.SlashValid h = cc
name_literal w.SlashValidRead h = cc
name_literal w.SlashSeparated h = cc
name_literal _ h = refl

pub constant_literal : (y : Word) → is_constant y ≡ true → literal_start y ≡ StartsTerm
constant_literal w.Exclamation h = cc
constant_literal w.SlashTrue h = cc
constant_literal w.SlashFalse h = cc
constant_literal w.SlashValid h = cc
constant_literal w.SlashValidRead h = cc
constant_literal w.SlashSeparated h = cc
constant_literal _ h = refl

pub unary_literal : (y : Word) → is_unary y ≡ true → literal_start y ≡ StartsTerm
unary_literal w.Minus h = refl
unary_literal w.Star h = refl
unary_literal w.Ampersand h = refl
unary_literal _ h = cc

pub truth_literal : (y : Word) → is_truth y ≡ true → literal_start y ≡ StartsTruth
truth_literal w.SlashTrue h = refl
truth_literal w.SlashFalse h = refl
truth_literal _ h = cc

pub validity_literal : (y : Word) → is_validity y ≡ true → literal_start y ≡ StartsValid
validity_literal w.SlashValid h = refl
validity_literal w.SlashValidRead h = refl
validity_literal _ h = cc

pub name_no_paren : (y : Word) → is_name y ≡ true → same w.RightParen y ≡ false
name_no_paren w.RightParen h = cc
name_no_paren _ h = refl

-- ---- the words that may go on with a tree. After a name that is a `(`, too

abbrev pub goes_on_factor : Word → Bool
goes_on_factor y = is_suffix y || same w.LeftParen y

abbrev pub goes_on_product : Word → Bool
goes_on_product y = is_product_operator y || goes_on_factor y

abbrev pub goes_on_term : Word → Bool
goes_on_term y = is_sum_operator y || goes_on_product y

abbrev pub goes_on_literal : Word → Bool
goes_on_literal y = is_comparison y || goes_on_term y

abbrev pub goes_on_conjunction : Word → Bool
goes_on_conjunction y = same w.AndAnd y || goes_on_literal y

abbrev pub goes_on_disjunction : Word → Bool
goes_on_disjunction y = same w.OrOr y || goes_on_conjunction y

abbrev pub goes_on_implication : Word → Bool
goes_on_implication y = same w.Implies y || goes_on_disjunction y

abbrev pub goes_on_any : Word → Bool
goes_on_any y = same w.Equivalent y || goes_on_implication y

pub suffix_no_paren : (y : Word) → is_suffix y ≡ true → same w.LeftParen y ≡ false
suffix_no_paren w.LeftBracket h = refl
suffix_no_paren w.Dot h = refl
suffix_no_paren w.Arrow h = refl
suffix_no_paren _ h = cc

pub product_apart : (y : Word) → is_product_operator y ≡ true → goes_on_factor y ≡ false
product_apart w.Star h = refl
product_apart w.Slash h = refl
product_apart w.Percent h = refl
product_apart _ h = cc

pub sum_apart : (y : Word) → is_sum_operator y ≡ true → goes_on_product y ≡ false
sum_apart w.Plus h = refl
sum_apart w.Minus h = refl
sum_apart _ h = cc

pub comparison_apart : (y : Word) → is_comparison y ≡ true → goes_on_term y ≡ false
comparison_apart w.Less h = refl
comparison_apart w.LessEqual h = refl
comparison_apart w.Greater h = refl
comparison_apart w.GreaterEqual h = refl
comparison_apart w.EqualEqual h = refl
comparison_apart w.NotEqual h = refl
comparison_apart _ h = cc

pub comma_apart : (y : Word) → is_comma y ≡ true → goes_on_term y ≡ false
comma_apart w.Comma h = refl
comma_apart _ h = cc

pub and_apart : (y : Word) → same w.AndAnd y ≡ true → goes_on_literal y ≡ false
and_apart w.AndAnd h = refl
and_apart _ h = cc

pub or_apart : (y : Word) → same w.OrOr y ≡ true → goes_on_conjunction y ≡ false
or_apart w.OrOr h = refl
or_apart _ h = cc

pub equivalent_apart : (y : Word) → same w.Equivalent y ≡ true → goes_on_implication y ≡ false
equivalent_apart w.Equivalent h = refl
equivalent_apart _ h = cc

-- ---- the operators of a chain of relations

-- the operators lead on, one after the other
abbrev pub leads_all : Way → List Word → Bool
leads_all way [] = true
leads_all way (o ∷ os) = leads way o && leads_all (way_after way o) os

one_way : (os : List Word) → leads_all Ascending os ≡ list_all ascends os
one_way [] = refl
one_way (o ∷ os) = ap (λ b. ascends o && b) (one_way os)

other_way : (os : List Word) → leads_all Descending os ≡ list_all descends os
other_way [] = refl
other_way (o ∷ os) = ap (λ b. descends o && b) (other_way os)

or_false : (b : Bool) → b ≡ (b || false)
or_false true = refl
or_false false = refl

either_way : (os : List Word) → leads_all Undecided os ≡ (list_all ascends os || list_all descends os)
either_way [] = refl
either_way (w.EqualEqual ∷ os) = either_way os
either_way (w.Less ∷ os) = one_way os ∙ or_false (list_all ascends os)
either_way (w.LessEqual ∷ os) = one_way os ∙ or_false (list_all ascends os)
either_way (w.Greater ∷ os) = other_way os
either_way (w.GreaterEqual ∷ os) = other_way os
either_way (_ ∷ os) = refl

-- they lead on exactly where they are in one direction
pub leads_one_way : (o : Word) (os : List Word) → is_comparison o ≡ true → leads_all (way_of o) os ≡ is_one_way o os
leads_one_way o [] h = refl
leads_one_way w.EqualEqual (p ∷ ps) h = either_way (p ∷ ps)
leads_one_way w.Less (p ∷ ps) h = one_way (p ∷ ps) ∙ or_false (list_all ascends (p ∷ ps))
leads_one_way w.LessEqual (p ∷ ps) h = one_way (p ∷ ps) ∙ or_false (list_all ascends (p ∷ ps))
leads_one_way w.Greater (p ∷ ps) h = other_way (p ∷ ps)
leads_one_way w.GreaterEqual (p ∷ ps) h = other_way (p ∷ ps)
leads_one_way w.NotEqual (p ∷ ps) h = refl
leads_one_way _ (p ∷ ps) h = cc

ascends_compares : (y : Word) → ascends y ≡ true → is_comparison y ≡ true
ascends_compares w.EqualEqual h = refl
ascends_compares w.Less h = refl
ascends_compares w.LessEqual h = refl
ascends_compares _ h = cc

descends_compares : (y : Word) → descends y ≡ true → is_comparison y ≡ true
descends_compares w.EqualEqual h = refl
descends_compares w.Greater h = refl
descends_compares w.GreaterEqual h = refl
descends_compares _ h = cc

either_compares : (y : Word) → (ascends y || descends y) ≡ true → is_comparison y ≡ true
either_compares w.EqualEqual h = refl
either_compares w.Less h = refl
either_compares w.LessEqual h = refl
either_compares w.Greater h = refl
either_compares w.GreaterEqual h = refl
either_compares _ h = cc

pub leads_compares : (way : Way) (y : Word) → leads way y ≡ true → is_comparison y ≡ true
leads_compares Undecided y h = either_compares y h
leads_compares Ascending y h = ascends_compares y h
leads_compares Descending y h = descends_compares y h
leads_compares Ended y h = cc

pub no_lead : (way : Way) (y : Word) → is_comparison y ≡ false → leads way y ≡ false
no_lead way y h = of (leads way y) refl
  where
    of : (b : Bool) → leads way y ≡ b → b ≡ false
    of true e = cc (leads_compares way y e, h)
    of false e = refl

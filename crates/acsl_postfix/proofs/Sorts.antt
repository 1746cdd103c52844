-- Readers of terms or of something else, beside the parsers.
use Rattle.std.proofs.Common.{◌≡◌, List, Some, None, refl}
use Rattle.c_words.specs.Parsing.{Leaves, Parser}
use Rattle.acsl_grammar.specs.Trees.{Inside}
use Rattle.acsl_grammar.specs.TermReading.{Either, ATerm, NoTerm, Enclosed, EnclosedPredicate, EnclosedRange, term_of, predicate_of, a_term, a_predicate}
use Rattle.acsl_postfix.specs.declared.operation.Operation.{Operation}
use Rattle.acsl_postfix.specs.declared.sort.Sort.{Sort}
use Rattle.acsl_postfix.specs.declared.sort.Sort.TheVariants as sort
use Rattle.acsl_postfix.specs.Coders.{State, Coder, Done, and_then, coded}
use Rattle.acsl_postfix.specs.Readers.{must_be_term, must_be_predicate, after_term}
use Rattle.acsl_postfix.specs.Forms as forms
use Rattle.acsl_postfix.specs.Forms.{Form, InnerForms}
use Rattle.acsl_postfix.proofs.Steps.{at_state, done, Agrees, step}

abbrev pub sort_by : {T P : Type 0} → (P → Sort) → Either T P → Sort
sort_by f (ATerm t) = sort.Term
sort_by f (NoTerm p) = f p

abbrev pub form_by : {T P : Type 0} → (T → Form) → (P → Form) → Either T P → Form
form_by f g (ATerm t) = f t
form_by f g (NoTerm p) = g p

abbrev pub a_predicate_sort : {P : Type 0} → P → Sort
a_predicate_sort p = sort.Predicate

abbrev pub enclosed_sort : {i : Inside} → Enclosed i → Sort
enclosed_sort (EnclosedPredicate g) = sort.Predicate
enclosed_sort (EnclosedRange r) = sort.Range

abbrev pub enclosed_form : {i : Inside} → InnerForms i → Enclosed i → Form
enclosed_form x (EnclosedPredicate g) = forms.group x g
enclosed_form x (EnclosedRange r) = forms.range x r

-- what is no term is refused where a term must stand, and is left alone by what follows terms alone
pub record NoTerms {P : Type 0} (f : P → Sort) : Type 0 where
  pub refused : (p : P) (s : State) → must_be_term (f p) s ≡ None
  pub alone : (more : Done) (p : P) (s : State) → after_term more (f p) s ≡ Some (f p, s)

pub predicates_are_no_terms : {P : Type 0} → NoTerms {P = P} a_predicate_sort
predicates_are_no_terms = record { refused = λ p s. refl; alone = λ more p s. refl }

pub enclosed_are_no_terms : {i : Inside} → NoTerms {P = Enclosed i} enclosed_sort
enclosed_are_no_terms {i = i} = record { refused = refused; alone = alone }
  where
    refused : (p : Enclosed i) (s : State) → must_be_term (enclosed_sort p) s ≡ None
    refused (EnclosedPredicate g) s = refl
    refused (EnclosedRange r) s = refl

    alone : (more : Done) (p : Enclosed i) (s : State) → after_term more (enclosed_sort p) s ≡ Some (enclosed_sort p, s)
    alone more (EnclosedPredicate g) s = refl
    alone more (EnclosedRange r) s = refl

module _ {T P : Type 0} (p : Parser (Either T P)) (c : Coder Sort) (f : P → Sort) (ft : T → Form) (fp : P → Form) (h : Agrees p c (sort_by f) (form_by ft fp)) where
  -- where a term must stand
  pub a_term_agrees : NoTerms f → (ops : List Operation) (ts : Leaves) → and_then (c (at_state ops ts)) must_be_term ≡ coded done ft ops (a_term p ts)
  unfolding a_term
  a_term_agrees others ops ts = step (sort_by f) (form_by ft fp) done ft ops ops (p ts) (c (at_state ops ts)) must_be_term term_of (h ops ts) (λ a rest e. of a rest)
    where
      of : (a : Either T P) (rest : Leaves) → must_be_term (sort_by f a) (at_state (form_by ft fp a ops) rest) ≡ coded done ft ops (term_of a rest)
      of (ATerm t) rest = refl
      of (NoTerm q) rest = others.refused q _

module _ {T P : Type 0} (p : Parser (Either T P)) (c : Coder Sort) (ft : T → Form) (fp : P → Form) (h : Agrees p c (sort_by a_predicate_sort) (form_by ft fp)) where
  -- where a predicate must stand
  pub a_predicate_agrees : (ops : List Operation) (ts : Leaves) → and_then (c (at_state ops ts)) must_be_predicate ≡ coded done fp ops (a_predicate p ts)
  unfolding a_predicate
  a_predicate_agrees ops ts =
      step (sort_by a_predicate_sort) (form_by ft fp) done fp ops ops (p ts) (c (at_state ops ts)) must_be_predicate predicate_of (h ops ts) (λ a rest e. of a rest)
    where
      of : (a : Either T P) (rest : Leaves) → must_be_predicate (sort_by a_predicate_sort a) (at_state (form_by ft fp a ops) rest) ≡ coded done fp ops (predicate_of a rest)
      of (ATerm t) rest = refl
      of (NoTerm q) rest = refl

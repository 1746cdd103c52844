-- What each operation does to the parts, locations and predicates that were made before it.
use Rattle.std.specs.Prelude.{◌≡◌, ℕ, List, [], ◌∷◌, ◌++◌, map, Ok, Err}
use Rattle.c_lexer.specs.declared.token.Place.{Place}
use Rattle.c_words.specs.declared.word.Leaf.{Leaf}
use Rattle.step_meaning.specs.declared.predicate.Predicate.{Predicate}
use Rattle.step_meaning.specs.declared.predicate.Predicate.TheVariants as q
use Rattle.acsl_postfix.specs.declared.operation.Operation.{Operation}
use Rattle.acsl_postfix.specs.declared.operation.Operation.TheVariants as op
use Rattle.acsl_rules.specs.declared.fault.TermFault.TheVariants as fault
use Rattle.acsl_rules.specs.Checked.{Checked, ◌>>=◌}
use Rattle.acsl_rules.specs.Parts.{Part, parenthesised, value, side, base}
use Rattle.acsl_rules.specs.Rules as rules
use Rattle.acsl_rules.specs.Rules.{Known, Located, place_of, is_equality}
use Rattle.acsl_rules.specs.Meanings.{truth, connected}

pub record State : Type 0 where
  -- the last part first
  pub parts : List Part
  -- the first location first
  pub locations : List Located
  -- the last predicate first
  pub predicates : List Predicate

abbrev pub state : List Part → List Located → List Predicate → State
state ps ls rs = record { parts = ps; locations = ls; predicates = rs }

-- where an operation finds fewer operands than it has, which no form brings about
abbrev pub stuck : Checked State
stuck = Err (fault.Syntax (record { line = 0; column = 0 }))

abbrev pub push_part : Part → State → State
push_part a m = state (a ∷ m.parts) m.locations m.predicates

abbrev pub push_location : Located → State → State
push_location l m = state m.parts (m.locations ++ l ∷ []) m.predicates

abbrev pub push_predicate : Predicate → State → State
push_predicate r m = state m.parts m.locations (r ∷ m.predicates)

-- what is made of the last part
abbrev pub on_part : (Part → Checked Part) → List Part → List Located → List Predicate → Checked State
on_part f (a ∷ ps) ls rs = f a >>= (λ b. Ok (state (b ∷ ps) ls rs))
on_part f [] ls rs = stuck

abbrev pub on_parts : (Part → Part → Checked Part) → List Part → List Located → List Predicate → Checked State
on_parts f (b ∷ a ∷ ps) ls rs = f a b >>= (λ c. Ok (state (c ∷ ps) ls rs))
on_parts f _ ls rs = stuck

abbrev pub to_relation : (Part → Part → Checked Predicate) → List Part → List Located → List Predicate → Checked State
to_relation f (b ∷ a ∷ ps) ls rs = f a b >>= (λ r. Ok (state ps ls (r ∷ rs)))
to_relation f _ ls rs = stuck

abbrev pub to_object : List Part → List Located → List Predicate → Checked State
to_object (a ∷ ps) ls rs = rules.object a >>= (λ l. Ok (state ps (ls ++ l ∷ []) rs))
to_object [] ls rs = stuck

abbrev pub to_objects : Known → List Part → List Located → List Predicate → Checked State
to_objects s (b ∷ a ∷ v ∷ ps) ls rs = rules.objects s v a b >>= (λ l. Ok (state ps (ls ++ l ∷ []) rs))
to_objects s _ ls rs = stuck

abbrev pub to_valid : List Part → List Located → List Predicate → Checked State
to_valid ps (l ∷ []) rs = rules.valid l >>= (λ r. Ok (state ps [] (r ∷ rs)))
to_valid ps _ rs = stuck

abbrev pub on_predicate : (Predicate → Predicate) → List Part → List Located → List Predicate → Checked State
on_predicate f ps ls (r ∷ rs) = Ok (state ps ls (f r ∷ rs))
on_predicate f ps ls [] = stuck

abbrev pub on_predicates : (Predicate → Predicate → Predicate) → List Part → List Located → List Predicate → Checked State
on_predicates f ps ls (n ∷ r ∷ rs) = Ok (state ps ls (f r n ∷ rs))
on_predicates f ps ls _ = stuck

abbrev pub step : Known → Operation → State → Checked State
step s (op.Name t) m = rules.named s t >>= (λ a. Ok (push_part a m))
step s (op.Constant t) m = rules.constant s t >>= (λ a. Ok (push_part a m))
step s (op.Parenthesis l) m = on_part (λ a. Ok (parenthesised (place_of l) a)) m.parts m.locations m.predicates
step s (op.At sign label) m = on_part (rules.at s sign label) m.parts m.locations m.predicates
step s (op.EventValue f x) m = rules.event_value s f x >>= (λ a. Ok (push_part a m))
step s (op.Member dot n) m = on_part (rules.member s dot n) m.parts m.locations m.predicates
step s (op.Arrow sign n) m = on_part (rules.arrow s sign n) m.parts m.locations m.predicates
step s op.Base m = on_part base m.parts m.locations m.predicates
step s (op.Index l) m = on_parts (rules.element s l) m.parts m.locations m.predicates
step s (op.Prefix t) m = on_part (rules.prefix t) m.parts m.locations m.predicates
step s op.Value m = on_part value m.parts m.locations m.predicates
step s (op.Operator o) m = on_parts (rules.operated s o) m.parts m.locations m.predicates
step s (op.Side o) m = on_part (side (is_equality o.word)) m.parts m.locations m.predicates
step s (op.Relation o) m = to_relation (rules.related o) m.parts m.locations m.predicates
step s op.Both m = on_predicates q.And m.parts m.locations m.predicates
step s (op.Truth t) m = Ok (push_predicate (truth t.word) m)
step s op.Not m = on_predicate q.Not m.parts m.locations m.predicates
step s (op.Connective t) m = on_predicates (connected t.word) m.parts m.locations m.predicates
step s op.Object m = to_object m.parts m.locations m.predicates
step s op.Objects m = to_objects s m.parts m.locations m.predicates
step s op.Valid m = to_valid m.parts m.locations m.predicates
step s op.Separated m = Ok (state m.parts [] (q.Separated (map (λ l. l.location) m.locations) ∷ m.predicates))
step s (op.Event sign n) m = rules.event_of s sign n >>= (λ r. Ok (push_predicate r m))

unfoldable pub run : Known → List Operation → State → Checked State
run s [] m = Ok m
run s (o ∷ os) m = step s o m >>= (λ n. run s os n)

abbrev pub nothing_made : State
nothing_made = state [] [] []

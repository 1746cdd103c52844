-- The words that stand in one place of the grammar of terms and predicates (ACSL, terms and predicates).
use Rattle.std.specs.Prelude.{Bool, true, false, ◌||◌, List, [], ◌∷◌}
use Rattle.std.specs.List.{list_all}
use Rattle.c_words.specs.declared.word.Word.{Word}
use Rattle.c_words.specs.declared.word.Word.TheVariants as w

-- a name: some names have a meaning of their own in places where no other name may stand
abbrev pub is_name : Word → Bool
is_name w.Name = true
is_name w.CallEvent = true
is_name w.ReturnEvent = true
is_name w.EitherEvent = true
is_name w.PreLabel = true
is_name w.HereLabel = true
is_name w.MetaName = true
is_name w.OtherName = true
is_name _ = false

-- an atom that is one token and no name
abbrev pub is_constant : Word → Bool
is_constant w.Number = true
is_constant w.Character = true
is_constant w.SlashNull = true
is_constant w.SlashWritten = true
is_constant w.SlashRead = true
is_constant w.SlashCalled = true
is_constant _ = false

-- a label of `\at`
abbrev pub is_label : Word → Bool
is_label w.PreLabel = true
is_label w.HereLabel = true
is_label _ = false

-- what stands after `f().`
abbrev pub is_event_value : Word → Bool
is_event_value w.SlashResult = true
is_event_value x = is_name x

abbrev pub is_unary : Word → Bool
is_unary w.Minus = true
is_unary w.Star = true
is_unary w.Ampersand = true
is_unary _ = false

abbrev pub is_truth : Word → Bool
is_truth w.SlashTrue = true
is_truth w.SlashFalse = true
is_truth _ = false

abbrev pub is_validity : Word → Bool
is_validity w.SlashValid = true
is_validity w.SlashValidRead = true
is_validity _ = false

abbrev pub is_event : Word → Bool
is_event w.CallEvent = true
is_event w.ReturnEvent = true
is_event w.EitherEvent = true
is_event _ = false

-- ---- relations

abbrev pub is_comparison : Word → Bool
is_comparison w.EqualEqual = true
is_comparison w.NotEqual = true
is_comparison w.Less = true
is_comparison w.LessEqual = true
is_comparison w.Greater = true
is_comparison w.GreaterEqual = true
is_comparison _ = false

abbrev pub ascends : Word → Bool
ascends w.EqualEqual = true
ascends w.Less = true
ascends w.LessEqual = true
ascends _ = false

abbrev pub descends : Word → Bool
descends w.EqualEqual = true
descends w.Greater = true
descends w.GreaterEqual = true
descends _ = false

-- the operators of a chain of relations: one alone, or several in one direction
abbrev pub is_one_way : Word → List Word → Bool
is_one_way o [] = true
is_one_way o (p ∷ ps) = list_all ascends (o ∷ p ∷ ps) || list_all descends (o ∷ p ∷ ps)

use Rattle.std.proofs.Common.{subst, take, drop, true, None, IfOk, IfErr, arith}
use Rattle.std.proofs.lemmas.List.{length-take-le}
use Rattle.c_lexer.specs.declared.profile.Profile.TheVariants as profile
use Rattle.c_lexer.specs.Lexing.{Lexed, IsFaultOf}
use Rattle.c_lexer.proofs.lexing.lex_annotation.Goals as goal

pub tokens_from-requires-clause-within : goal.tokens_from-requires-clause-within
tokens_from-requires-clause-within c =
    omega (arith, c.position_at-from.ensures.offset, length-take-le c.args.past c.args.text.now c.requires.within, c.requires.ordered)

pub returns-clause-tokens : goal.returns-clause-tokens
returns-clause-tokens c =
    subst (λ p. IfOk c.tokens_from.result (λ v. Lexed profile.Annotation p true (drop c.args.first (take c.args.past c.args.text.now)) v.items None)) c.position_at-from.ensures.position
    (subst (λ i. IfOk c.tokens_from.result (λ v. Lexed profile.Annotation c.position_at-from.result true (drop i (take c.args.past c.args.text.now)) v.items None)) c.position_at-from.ensures.offset c.tokens_from.ensures.tokens)

pub returns-clause-fault : goal.returns-clause-fault
returns-clause-fault c =
    subst (λ p. IfErr c.tokens_from.result (λ f. IsFaultOf (Lexed profile.Annotation p true (drop c.args.first (take c.args.past c.args.text.now))) f)) c.position_at-from.ensures.position
    (subst (λ i. IfErr c.tokens_from.result (λ f. IsFaultOf (Lexed profile.Annotation c.position_at-from.result true (drop i (take c.args.past c.args.text.now))) f)) c.position_at-from.ensures.offset c.tokens_from.ensures.fault)

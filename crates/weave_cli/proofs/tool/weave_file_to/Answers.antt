use Rattle.std.proofs.Common.{◌≤◌, length, refl, ap, Some, Err, ◌∙◌, sym, subst}
use Rattle.weave_cli.specs.Answers.{IsWovenText, unread, refusal, woven_text, memory, too_long, other_form}
use Rattle.weave_cli.proofs.AnswerLaws.{long_text}
use Rattle.weave_cli.proofs.FirstForm.Headline.{weaving_of}
use Rattle.weave_cli.proofs.tool.weave_file_to.Goals as goal

pub returns-in-Err-Failed-clause-answers : goal.returns-in-Err-Failed-clause-answers
returns-in-Err-Failed-clause-answers g c = λ words w.
    let name = rw c.in-Err-Failed.field-0-is at c.in-Err-Failed.ensures.failed_name in
    unread c.args.file.now w (c.in-Err-Failed.ensures.cause.failed (ap Err c.in-Err-Failed.field-0-is), name) refl refl

pub returns-in-Err-TooLong-clause-answers : goal.returns-in-Err-TooLong-clause-answers
returns-in-Err-TooLong-clause-answers g c = λ words w.
    let loaded = rw c.in-Err-TooLong.field-0-is at c.in-Err-TooLong.ensures.loaded in
    let long = long_text (g.F.Files.contents c.args.files.now) c.args.file.now loaded in
    refusal c.args.file.now long.text 100 w long.of_file (too_long long.long) refl c.refuse.ensures.told

pub returns-in-Err-Memory-clause-answers : goal.returns-in-Err-Memory-clause-answers
returns-in-Err-Memory-clause-answers g c = λ words w. memory refl refl

pub returns-in-Ok-Some-clause-answers : goal.returns-in-Ok-Some-clause-answers
returns-in-Ok-Some-clause-answers g c = λ words w.
    let found = rw c.in-Ok-Some.field-0-is at c.in-Ok-Some.ensures.found in
    woven_text c.args.file.now c.deref.result.now c.deref-in-Ok-Some.result.now w
    (λ files h. (c.in-Ok.ensures.loaded files h).0 ∙ ap Some (sym c.deref.ensures.value))
    (subst (λ t. length t ≤ 262144) (sym c.deref.ensures.value) c.in-Ok.ensures.bounded)
    (weaving_of _ _ (subst (λ t. IsWovenText c.deref.result.now t) (sym c.deref-in-Ok-Some.ensures.value) found))
    refl c.tell.ensures.told

pub returns-in-Ok-None-clause-answers : goal.returns-in-Ok-None-clause-answers
returns-in-Ok-None-clause-answers g c = λ words w.
    let none = rw c.in-Ok-None.field-0-is at c.in-Ok-None.ensures.none in
    refusal c.args.file.now c.deref.result.now 190 w
    (λ files h. (c.in-Ok.ensures.loaded files h).0 ∙ ap Some (sym c.deref.ensures.value))
    (other_form (subst (λ t. length t ≤ 262144) (sym c.deref.ensures.value) c.in-Ok.ensures.bounded) none)
    refl c.refuse-in-Ok-None.ensures.told

pub returns-clause-answers : goal.returns-clause-answers
returns-clause-answers g c = λ words w. memory refl refl

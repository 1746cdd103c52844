-- The leaves of a tree over a text: a name is an identifier and no keyword, and a character has a value of `int`.
use Rattle.std.proofs.Common.{◌≡◌, ℕ, zero, suc, ◌+◌, ◌-◌, ◌≤◌, max, Bool, true, false, ◌&&◌, ◌||◌, not, List, [], ◌∷◌, ◌++◌, map, take, drop, length, Option, Some, None, Ok, Err, refl, sym, ap, subst, ◌∙◌, arith}
use Rattle.std.specs.Prelude.{pos, nat_le, slice_index, if◌then◌else◌, filter, codes, ◌==◌, All}
use Rattle.std.specs.List.{AllByRecursion, list_all, list_any}
use Rattle.std.specs.Str.{bytes_eq}
use Rattle.std.proofs.lemmas.Bool.{eqb-true, leb-true, le-leb}
use Rattle.c_lexer.specs.declared.token.TokenKind.{TokenKind}
use Rattle.c_lexer.specs.declared.token.TokenKind.TheVariants as token
use Rattle.c_lexer.specs.declared.token.Token.{Token}
use Rattle.c_lexer.specs.declared.profile.Profile.TheVariants as profile
use Rattle.c_lexer.specs.declared.fault.LexFault.{LexFault}
use Rattle.c_lexer.specs.Bytes as bytes
use Rattle.c_lexer.specs.Spellings as spellings
use Rattle.c_lexer.specs.Lexemes.{is_plain, is_escape, is_character, escaped, character_value}
use Rattle.c_lexer.specs.Lexing.{Tokens}
use Rattle.c_lexer.specs.LexingLaws.{IsTokenIn, IsSpelled}
use Rattle.c_lexer.proofs.SpellingLaws.{tokens_spelled}
use Rattle.c_words.specs.declared.word.Word.{Word}
use Rattle.c_words.specs.declared.word.Word.TheVariants as w
use Rattle.c_words.specs.declared.word.Leaf.{Leaf}
use Rattle.c_words.specs.declared.word.Mode.{Mode}
use Rattle.c_words.specs.declared.word.Mode.TheVariants as mode
use Rattle.c_words.specs.Words.{same, keywords, punctuators, word_in, register_word, keyword_word, word_by, bytes_of, leaf_of, is_kept, leaves_of}
use Rattle.step_meaning.specs.declared.value.IntKind.TheVariants as kind
use Rattle.step_meaning.specs.Identifiers.{is_nondigit, is_name}
use Rattle.step_meaning.specs.Identifiers as identifiers
use Rattle.step_meaning.proofs.Ranges.{and_true, left_of_and, right_of_and, false_is_not_true, natural_in_range}
use Rattle.typing_laws.specs.ParsedSyntax.{IsName, IsCharacter}
use Rattle.typing_laws.proofs.CheckedValues.{if_holds}

-- ---- identifiers

letter_is : (c : ℕ) → bytes.is_letter c ≡ is_nondigit c
letter_is c = last_first (bytes.is_between 97 122 c) (bytes.is_between 65 90 c) (c == 95)
  where
    last_first : (a b d : Bool) → (a || (b || d)) ≡ (d || (a || b))
    last_first true true true = refl
    last_first true true false = refl
    last_first true false true = refl
    last_first true false false = refl
    last_first false true true = refl
    last_first false true false = refl
    last_first false false true = refl
    last_first false false false = refl

words_are : (cs : List ℕ) → list_all bytes.is_word cs ≡ list_all (λ d. is_nondigit d || identifiers.is_digit d) cs
words_are [] = refl
words_are (c ∷ cs) = rw (letter_is c, words_are cs) refl

identifier_is : (word : List ℕ) → spellings.is_identifier word ≡ identifiers.is_identifier word
unfolding spellings.is_identifier
identifier_is [] = refl
identifier_is (c ∷ cs) = rw (letter_is c, words_are cs) refl

keyword_is : (word : List ℕ) → bytes.is_keyword word ≡ identifiers.is_keyword word
unfolding bytes.is_keyword bytes.keywords identifiers.is_keyword identifiers.keywords
keyword_is word = refl

name_spelled : (word : List ℕ) → spellings.is_identifier word ≡ true → bytes.is_keyword word ≡ false → is_name word ≡ true
name_spelled word h k = and_true (sym (identifier_is word) ∙ h) (ap not (sym (keyword_is word) ∙ k))

-- ---- characters

one_of_small : (es : List ℕ) (c : ℕ) → list_all (λ e. nat_le e 127) es ≡ true → list_any (λ e. c == e) es ≡ true → c ≤ 127
one_of_small [] c h k = false_is_not_true k
one_of_small (e ∷ es) c h k = by (c == e) refl k (one_of_small es c (right_of_and _ _ h))
  where
    by : (b : Bool) → (c == e) ≡ b → (b || list_any (λ e. c == e) es) ≡ true → (list_any (λ e. c == e) es ≡ true → c ≤ 127) → c ≤ 127
    by true i l more = let m : e ≤ 127 = leb-true e 127 (left_of_and _ _ h) in subst (λ x. x ≤ 127) (sym (eqb-true c e i)) m
    by false i l more = more l

escape_small : (c : ℕ) → is_escape c ≡ true → c ≤ 127
escape_small c h = one_of_small (codes "ntr0\\'\"") c refl h

plain_small : (c : ℕ) → is_plain c ≡ true → c ≤ 127
plain_small c h = let k : c ≤ 126 = leb-true c 126 (right_of_and (nat_le 32 c) (nat_le c 126) (left_of_and (bytes.is_between 32 126 c) _ h)) in omega arith

escaped_small : (c : ℕ) → c ≤ 127 → escaped c ≤ 127
escaped_small c h =
    if_holds (λ n. n ≤ 127) (c == 110) 10 _ (λ i. omega arith) (λ i.
    if_holds (λ n. n ≤ 127) (c == 116) 9 _ (λ i. omega arith) (λ i.
    if_holds (λ n. n ≤ 127) (c == 114) 13 _ (λ i. omega arith) (λ i.
    if_holds (λ n. n ≤ 127) (c == 48) 0 c (λ i. omega arith) (λ i. h))))

character_small : (word : List ℕ) → is_character word ≡ true → character_value word ≤ 127
unfolding is_character character_value
character_small (a ∷ c ∷ b ∷ []) h =
    let small : c ≤ 127 = plain_small c (left_of_and (is_plain c) (b == 39) (right_of_and (a == 39) _ h)) in
    let quote : b ≡ 39 = eqb-true b 39 (right_of_and (is_plain c) (b == 39) (right_of_and (a == 39) _ h)) in
    if_holds (λ n. n ≤ 127) (c == 92) (escaped b) c (λ i. escaped_small b (omega (arith, quote))) (λ i. small)
character_small (a ∷ s ∷ c ∷ b ∷ []) h =
    let small : c ≤ 127 = escape_small c (left_of_and _ _ (right_of_and _ _ (right_of_and _ _ h))) in
    let slash : (s == 92) ≡ true = left_of_and _ _ (right_of_and _ _ h) in
    rw slash (escaped_small c small)
character_small word h = false_is_not_true h

-- ---- words of tokens

not_named : (ps : List (List ℕ × Word)) (word : List ℕ) (x : Word) → same x w.Unused ≡ false → list_all (λ p. not (same x p.1)) ps ≡ true → same x (word_in ps word) ≡ false
unfolding word_in
not_named [] word x u h = u
not_named (p ∷ ps) word x u h = if_holds (λ y. same x y ≡ false) (bytes_eq word p.0) p.1 (word_in ps word) (λ i. other (same x p.1) (left_of_and _ _ h)) (λ i. not_named ps word x u (right_of_and _ _ h))
  where
    other : (b : Bool) → not b ≡ true → b ≡ false
    other false h = refl
    other true h = absurd (cc h)

punctuator_not : (word : List ℕ) (x : Word) → same x w.Unused ≡ false → list_all (λ p. not (same x p.1)) punctuators ≡ true → same x (word_in punctuators word) ≡ false
punctuator_not word x u h = not_named punctuators word x u h

register_not : (m : Mode) (x : Word) → same x w.Unused ≡ false → same x w.Register ≡ false → same x (register_word m) ≡ false
register_not mode.Source x u r = u
register_not mode.Woven x u r = r

keyword_not : (m : Mode) (word : List ℕ) (x : Word) → same x w.Unused ≡ false → same x w.Register ≡ false → list_all (λ p. not (same x p.1)) keywords ≡ true → same x (keyword_word m word) ≡ false
unfolding keyword_word
keyword_not m word x u r h = if_holds (λ y. same x y ≡ false) (bytes_eq word (codes "register")) (register_word m) (word_in keywords word) (λ i. register_not m x u r) (λ i. not_named keywords word x u h)

no : {A : Type 0} (b : Bool) → b ≡ false → b ≡ true → A
no b h k = false_is_not_true (sym h ∙ k)

-- a token whose word is a name, or a character, is one
name_kind : (m : Mode) (k : TokenKind) (word : List ℕ) → same w.Name (word_by m k word) ≡ true → k ≡ token.Name
unfolding keywords punctuators
name_kind m token.Name word h = refl
name_kind m token.Keyword word h = no _ (keyword_not m word w.Name refl refl refl) h
name_kind m token.Punctuation word h = no _ (punctuator_not word w.Name refl refl) h
name_kind m (token.Number s) word h = false_is_not_true h
name_kind m token.Character word h = false_is_not_true h
name_kind m token.Meta word h = false_is_not_true h
name_kind m token.Ghost word h = false_is_not_true h
name_kind m token.Assert word h = false_is_not_true h
name_kind m _ word h = false_is_not_true h

character_kind : (m : Mode) (k : TokenKind) (word : List ℕ) → same w.Character (word_by m k word) ≡ true → k ≡ token.Character
unfolding keywords punctuators
character_kind m token.Character word h = refl
character_kind m token.Keyword word h = no _ (keyword_not m word w.Character refl refl refl) h
character_kind m token.Punctuation word h = no _ (punctuator_not word w.Character refl refl) h
character_kind m (token.Number s) word h = false_is_not_true h
character_kind m token.Name word h = false_is_not_true h
character_kind m token.Meta word h = false_is_not_true h
character_kind m token.Ghost word h = false_is_not_true h
character_kind m token.Assert word h = false_is_not_true h
character_kind m _ word h = false_is_not_true h

-- ---- leaves

pub record IsRead (text : List ℕ) (t : Leaf) : Type 0 where
  pub name : same w.Name t.word ≡ true → IsName text t
  pub character : same w.Character t.word ≡ true → IsCharacter text t

abbrev pub AreRead : List ℕ → List Leaf → Type 0
AreRead text ts = AllByRecursion (IsRead text) ts

nothing_before : (n : ℕ) → n - 0 ≡ n
nothing_before n = omega arith

leaf_read : (m : Mode) (text : List ℕ) (t : Token) → IsTokenIn profile.C 0 text t → IsRead text (leaf_of m text t)
unfolding leaf_of
leaf_read m text t h =
    let spelled : IsSpelled profile.C t.kind (bytes_of text t) = subst (λ n. IsSpelled profile.C t.kind (take (t.past - t.first) (drop n text))) (nothing_before t.first) h.spelled in
    record {
      name = λ e. let s : IsSpelled profile.C token.Name (bytes_of text t) = subst (λ k. IsSpelled profile.C k (bytes_of text t)) (name_kind m t.kind (bytes_of text t) e) spelled in name_spelled (bytes_of text t) s.0 s.1;
      character = λ e.
          let s : IsSpelled profile.C token.Character (bytes_of text t) = subst (λ k. IsSpelled profile.C k (bytes_of text t)) (character_kind m t.kind (bytes_of text t) e) spelled in
          let small : character_value (bytes_of text t) ≤ 127 = character_small (bytes_of text t) s in
          natural_in_range kind.Int (character_value (bytes_of text t)) (omega arith);
    }

pub tokens_read : (m : Mode) (text : List ℕ) (ts : List Token) → AllByRecursion (IsTokenIn profile.C 0 text) ts → AreRead text (leaves_of m text ts)
unfolding leaves_of
tokens_read m text [] h = tt
tokens_read m text (t ∷ ts) h = by (is_kept m t) refl (tokens_read m text ts h.1)
  where
    by : (b : Bool) → is_kept m t ≡ b → AreRead text (map (leaf_of m text) (filter (is_kept m) ts)) → AreRead text (map (leaf_of m text) (filter (is_kept m) (t ∷ ts)))
    by true e more = rw e (leaf_read m text t h.0, more)
    by false e more = rw e more

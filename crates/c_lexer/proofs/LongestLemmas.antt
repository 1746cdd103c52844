-- The longest lexeme at a place, for each sort.
use Rattle.std.proofs.Common.{◌≡◌, ℕ, zero, suc, ◌<◌, ◌≤◌, Bool, true, false, ◌&&◌, ◌==◌, List, [], ◌∷◌, length, take, drop, get_or, refl, sym, ap, ◌∙◌, ⊎_elim, arith}
use Rattle.std.specs.List.{list_all, take_while}
use Rattle.std.proofs.lemmas.Bool.{cases_lt}
use Rattle.std.proofs.lemmas.Bool.Decides.{nat_tests}
use Rattle.std.proofs.lemmas.List.{length-take-le, get_or-take}
use Rattle.c_lexer.specs.declared.profile.Profile.{Profile}
use Rattle.c_lexer.specs.Bytes.{is_digit, is_letter, is_word, is_number_part}
use Rattle.c_lexer.specs.Spellings.{is_identifier, is_number, is_backslash_word}
use Rattle.c_lexer.specs.Lexemes.{Shape, word, number, character, backslash, is_specification, is_plain, is_escape, is_plain_character, is_escaped_character, is_character, is_lexeme, IsRangeAt, HasNoRange, Begins, IsLongest}
use Rattle.c_lexer.proofs.ListLemmas.{both, left, right, apart, IsRun, IsRun-take_while, IsRun-some}
use Rattle.c_lexer.proofs.TokenLemmas.{identifier_words, number_parts, digit_part}
use Rattle.c_lexer.proofs.FrontLemmas.{identifier_run}
use Rattle.c_lexer.proofs.LeadLemmas.{lexeme_some, words_only, numbers_only, characters_only, backslashes_only, begins_as}

-- a byte that isn't 0 is one of the text
pub byte_within : (text : List ℕ) (i b : ℕ) → get_or text i 0 ≡ suc b → i < length text
byte_within [] i b h = cc
byte_within (c ∷ cs) zero b h = omega arith
byte_within (c ∷ cs) (suc i) b h = omega (arith, byte_within cs i b h)

pub test_same : (c b : ℕ) → (c == b) ≡ true → c ≡ b
test_same c b h = grind (arith, nat_tests)

-- ---- names and keywords

pub word_longest : (p : Profile) (text : List ℕ) (n : ℕ) → is_letter (get_or text 0 0) ≡ true → n ≡ length (take_while is_word text) → IsLongest p text word n
unfolding is_lexeme
word_longest p text n h e =
    let run = IsRun-take_while is_word text n e in
    record {
      begins = record { fits = run.fits; spelled = identifier_run text n h run; ended = tt };
      longest = λ other m b. run.longest m b.fits (identifier_words (take m text) (begins_as p text other word m (words_only p text h) b).spelled);
    }

-- ---- numbers

all_less : (test : ℕ → Bool) (xs : List ℕ) (n m : ℕ) → n ≤ m → list_all test (take m xs) ≡ true → list_all test (take n xs) ≡ true
all_less test xs zero m le h = refl
all_less test [] (suc n) m le h = refl
all_less test (x ∷ xs) (suc n) zero le h = absurd (omega arith)
all_less test (x ∷ xs) (suc n) (suc m) le h = both _ _ (left (test x) _ h) (all_less test xs n m (omega arith) (right (test x) _ h))

number_run : (text : List ℕ) (n m : ℕ) → is_digit (get_or text 0 0) ≡ true → 0 < n → n ≤ m → list_all is_number_part (take m text) ≡ true → is_number (take n text) ≡ true
unfolding is_number
number_run [] n m h some le i = cc
number_run (c ∷ cs) zero m h some le i = absurd (omega arith)
number_run (c ∷ cs) (suc n) m h some le i = both _ _ h (right (is_number_part c) _ (all_less is_number_part (c ∷ cs) (suc n) m le i))

digit_point : (c : ℕ) → is_digit c ≡ true → c ≡ 46 → ⊥
digit_point c h e = grind (arith, nat_tests)

digit_run_some : (text : List ℕ) (n : ℕ) → is_digit (get_or text 0 0) ≡ true → IsRun is_number_part text n → 0 < n
digit_run_some [] n h run = cc
digit_run_some (c ∷ cs) n h run = IsRun-some is_number_part c cs n (digit_part c h) run

-- the number ends at n, before `..` or where the run of its bytes does
pub record NumberEnds (p : Profile) (text : List ℕ) (run n : ℕ) : Type 0 where
  pub within : n ≤ run
  pub clear : is_specification p ≡ true → HasNoRange text n
  pub range : n < run → (is_specification p ≡ true) × IsRangeAt text n

number_some : (p : Profile) (text : List ℕ) (run n : ℕ) → is_digit (get_or text 0 0) ≡ true → 0 < run → NumberEnds p text run n → 0 < n
number_some p text run zero h some e = absurd (digit_point (get_or text 0 0) h (e.range some).1.one)
number_some p text run (suc n) h some e = omega arith

pub number_longest : (p : Profile) (text : List ℕ) (run n : ℕ) → is_digit (get_or text 0 0) ≡ true → run ≡ length (take_while is_number_part text) → NumberEnds p text run n → IsLongest p text number n
unfolding is_lexeme
number_longest p text run n h e ends =
    let r = IsRun-take_while is_number_part text run e in
    let some = number_some p text run n h (digit_run_some text run h r) ends in
    record {
      begins = record { fits = omega (arith, ends.within, r.fits); spelled = number_run text n run h some ends.within r.passes; ended = ends.clear };
      longest = longest;
    }
  where
    no_longer : (m : ℕ) → Begins p text number m → n < m → m ≤ run → ⊥
    no_longer m b lt le = let range = ends.range (omega arith) in b.ended range.0 n lt range.1

    longest : (other : Shape) (m : ℕ) → Begins p text other m → m ≤ n
    longest other m b =
        let b' = begins_as p text other number m (numbers_only p text h) b in
        let le : m ≤ run = (IsRun-take_while is_number_part text run e).longest m b'.fits (number_parts (take m text) b'.spelled) in
        ⊎_elim (λ lt. absurd (no_longer m b' lt le)) (λ ge. ge) (cases_lt n m)

-- ---- characters

data CharacterForm (w : List ℕ) : Type 0 where
  plain : length w ≡ 3 → is_plain_character w ≡ true → CharacterForm w
  escaped : length w ≡ 4 → is_escaped_character w ≡ true → CharacterForm w

character_form : (w : List ℕ) → is_character w ≡ true → CharacterForm w
unfolding is_character
character_form [] h = cc
character_form (a ∷ []) h = cc
character_form (a ∷ c ∷ []) h = cc
character_form (a ∷ c ∷ b ∷ []) h = plain refl (right (a == 39) _ h)
character_form (a ∷ s ∷ c ∷ b ∷ []) h = escaped refl (right (a == 39) _ h)
character_form (a ∷ s ∷ c ∷ b ∷ d ∷ ds) h = cc

data CharacterAt (text : List ℕ) (m : ℕ) : Type 0 where
  plain_at : m ≡ 3 → is_plain_character text ≡ true → CharacterAt text m
  escaped_at : m ≡ 4 → is_escaped_character text ≡ true → CharacterAt text m

plain_more : (text : List ℕ) (m : ℕ) → m ≡ 3 → is_plain_character (take m text) ≡ is_plain_character text
plain_more text m e =
    ap (λ c. is_plain c && get_or (take m text) 2 0 == 39) (get_or-take m text 1 0 (omega arith)) ∙ ap (λ c. is_plain (get_or text 1 0) && c == 39) (get_or-take m text 2 0 (omega arith))

escaped_more : (text : List ℕ) (m : ℕ) → m ≡ 4 → is_escaped_character (take m text) ≡ is_escaped_character text
escaped_more text m e =
    ap (λ c. c == 92 && (is_escape (get_or (take m text) 2 0) && get_or (take m text) 3 0 == 39)) (get_or-take m text 1 0 (omega arith))
    ∙ ap (λ c. get_or text 1 0 == 92 && (is_escape c && get_or (take m text) 3 0 == 39)) (get_or-take m text 2 0 (omega arith))
    ∙ ap (λ c. get_or text 1 0 == 92 && (is_escape (get_or text 2 0) && c == 39)) (get_or-take m text 3 0 (omega arith))

character_from : (text : List ℕ) (m : ℕ) → m ≤ length text → CharacterForm (take m text) → CharacterAt text m
character_from text m le (plain n h) = let e : m ≡ 3 = omega (arith, n, length-take-le m text le) in plain_at e (sym (plain_more text m e) ∙ h)
character_from text m le (escaped n h) = let e : m ≡ 4 = omega (arith, n, length-take-le m text le) in escaped_at e (sym (escaped_more text m e) ∙ h)

character_at : (p : Profile) (text : List ℕ) (other : Shape) (m : ℕ) → get_or text 0 0 ≡ 39 → Begins p text other m → CharacterAt text m
unfolding is_lexeme
character_at p text other m h b =
    let b' = begins_as p text other character m (characters_only p text h) b in
    character_from text m b'.fits (character_form (take m text) b'.spelled)

plain_escaped : (text : List ℕ) → is_plain_character text ≡ true → is_escaped_character text ≡ true → ⊥
plain_escaped text h i = absurd (clash (get_or text 1 0) (left _ _ h) (left _ _ i))
  where
    clash : (c : ℕ) → is_plain c ≡ true → (c == 92) ≡ true → ⊥
    clash c h i = grind (arith, nat_tests)

plain_spelled : (text : List ℕ) → get_or text 0 0 ≡ 39 → is_plain_character text ≡ true → is_character (take 3 text) ≡ true
unfolding is_character
plain_spelled [] e h = cc
plain_spelled (a ∷ []) e h = cc
plain_spelled (a ∷ c ∷ []) e h = let no : false ≡ true = right (is_plain c) _ h in cc
plain_spelled (a ∷ c ∷ b ∷ rest) e h = both _ _ (grind (arith, nat_tests)) h

escaped_spelled : (text : List ℕ) → get_or text 0 0 ≡ 39 → is_escaped_character text ≡ true → is_character (take 4 text) ≡ true
unfolding is_character
escaped_spelled [] e h = cc
escaped_spelled (a ∷ []) e h = cc
escaped_spelled (a ∷ s ∷ []) e h = let no : false ≡ true = right (s == 92) _ h in cc
escaped_spelled (a ∷ s ∷ c ∷ []) e h = let no : false ≡ true = right (is_escape c) _ (right (s == 92) _ h) in cc
escaped_spelled (a ∷ s ∷ c ∷ b ∷ rest) e h = both _ _ (grind (arith, nat_tests)) h

plain_fits : (text : List ℕ) → is_plain_character text ≡ true → 3 ≤ length text
plain_fits text h = omega (arith, byte_within text 2 38 (test_same _ 39 (right (is_plain (get_or text 1 0)) _ h)))

escaped_fits : (text : List ℕ) → is_escaped_character text ≡ true → 4 ≤ length text
escaped_fits text h = omega (arith, byte_within text 3 38 (test_same _ 39 (right (is_escape (get_or text 2 0)) _ (right (get_or text 1 0 == 92) _ h))))

pub plain_longest : (p : Profile) (text : List ℕ) → get_or text 0 0 ≡ 39 → is_plain_character text ≡ true → IsLongest p text character 3
unfolding is_lexeme
plain_longest p text e h = record {
  begins = record { fits = plain_fits text h; spelled = plain_spelled text e h; ended = tt };
  longest = λ other m b. elim (character_at p text other m e b) [ plain_at n _ ↦ omega arith | escaped_at _ i ↦ absurd (plain_escaped text h i) ];
}

pub escaped_longest : (p : Profile) (text : List ℕ) → get_or text 0 0 ≡ 39 → is_escaped_character text ≡ true → IsLongest p text character 4
unfolding is_lexeme
escaped_longest p text e h = record {
  begins = record { fits = escaped_fits text h; spelled = escaped_spelled text e h; ended = tt };
  longest = λ other m b. elim (character_at p text other m e b) [ plain_at _ i ↦ absurd (plain_escaped text i h) | escaped_at n _ ↦ omega arith ];
}

pub no_character : (p : Profile) (text : List ℕ) → get_or text 0 0 ≡ 39 → is_plain_character text ≡ false → is_escaped_character text ≡ false → (s : Shape) (n : ℕ) → Begins p text s n → ⊥
no_character p text e h i s n b = elim (character_at p text s n e b) [ plain_at _ j ↦ apart _ h j | escaped_at _ j ↦ apart _ i j ]

-- ---- words of ACSL

backslash_word : (p : Profile) (text : List ℕ) (n : ℕ) → is_specification p ≡ true → get_or text 0 0 ≡ 92 → is_letter (get_or text 1 0) ≡ true → IsRun is_word (drop 1 text) n → Begins p text backslash (suc n)
unfolding is_lexeme is_backslash_word
backslash_word p [] n s e h run = cc
backslash_word p (c ∷ cs) n s e h run = record {
  fits = omega (arith, run.fits);
  spelled = both _ _ s (both _ _ (grind (arith, nat_tests)) (identifier_run cs n h run));
  ended = tt;
}

backslash_tail : (p : Profile) (c : ℕ) (cs : List ℕ) (m : ℕ) → Begins p (c ∷ cs) backslash (suc m) → is_identifier (take m cs) ≡ true
unfolding is_lexeme is_backslash_word
backslash_tail p c cs m b = right (c == 92) _ (right (is_specification p) _ b.spelled)

backslash_bound : (p : Profile) (text : List ℕ) (n m : ℕ) → IsRun is_word (drop 1 text) n → Begins p text backslash m → m ≤ suc n
backslash_bound p text n zero run b = omega arith
backslash_bound p [] n (suc m) run b = absurd (lexeme_some p backslash b.spelled)
backslash_bound p (c ∷ cs) n (suc m) run b = omega (arith, run.longest m (omega (arith, b.fits)) (identifier_words (take m cs) (backslash_tail p c cs m b)))

pub backslash_longest : (p : Profile) (text : List ℕ) (n : ℕ) → is_specification p ≡ true → get_or text 0 0 ≡ 92 → is_letter (get_or text 1 0) ≡ true → n ≡ length (take_while is_word (drop 1 text)) → IsLongest p text backslash (suc n)
backslash_longest p text n s e h i =
    let run = IsRun-take_while is_word (drop 1 text) n i in
    record {
      begins = backslash_word p text n s e h run;
      longest = λ other m b. backslash_bound p text n m run (begins_as p text other backslash m (backslashes_only p text e) b);
    }

identifier_head : (cs : List ℕ) (m : ℕ) → is_identifier (take m cs) ≡ true → is_letter (get_or cs 0 0) ≡ true
unfolding is_identifier
identifier_head cs zero h = cc
identifier_head [] (suc m) h = cc
identifier_head (c ∷ cs) (suc m) h = left _ _ h

backslash_head : (p : Profile) (text : List ℕ) (m : ℕ) → Begins p text backslash m → is_letter (get_or text 1 0) ≡ true
backslash_head p text zero b = absurd (lexeme_some p backslash b.spelled)
backslash_head p [] (suc m) b = absurd (lexeme_some p backslash b.spelled)
backslash_head p (c ∷ cs) (suc m) b = identifier_head cs m (backslash_tail p c cs m b)

pub no_backslash : (p : Profile) (text : List ℕ) → get_or text 0 0 ≡ 92 → is_letter (get_or text 1 0) ≡ false → (s : Shape) (n : ℕ) → Begins p text s n → ⊥
no_backslash p text e h s n b = apart _ h (backslash_head p text n (begins_as p text s backslash n (backslashes_only p text e) b))

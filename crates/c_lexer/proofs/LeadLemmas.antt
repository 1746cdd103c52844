-- What a lexeme begins with, which tells the sorts of lexemes apart.
use Rattle.std.proofs.Common.{◌≡◌, ℕ, zero, suc, ◌<◌, Bool, true, false, ◌&&◌, ◌==◌, if◌then◌else◌, List, [], ◌∷◌, take, get_or, refl, sym, ap, subst, ◌∙◌, ⊎_elim, arith}
use Rattle.std.specs.List.{list_any}
use Rattle.std.specs.Str.{bytes_eq}
use Rattle.std.proofs.lemmas.Bool.Decides.{nat_tests}
use Rattle.c_lexer.specs.declared.profile.Profile.{Profile}
use Rattle.c_lexer.specs.declared.profile.Profile.TheVariants as profile
use Rattle.c_lexer.specs.Bytes.{is_digit, is_letter}
use Rattle.c_lexer.specs.Spellings.{is_identifier, is_number, is_backslash_word}
use Rattle.c_lexer.specs.Lexemes.{Shape, word, number, character, backslash, directive, string, mark, is_specification, is_annotation, is_ya, is_character, is_string, is_directive, c_marks, further_marks, is_mark, is_lexeme, Begins, BeginsOnly}
use Rattle.c_lexer.proofs.ListLemmas.{both, left, right, either, apart, among}
use Rattle.c_lexer.proofs.TokenLemmas.{starts}

-- the sort of the lexemes that begin with the byte, but for those that begin with `%`
unfoldable pub lead : ℕ → Shape
lead c =
    if is_letter c then word
    else (if is_digit c then number
    else (if c == 39 then character
    else (if c == 92 then backslash
    else (if c == 34 then string
    else mark))))

unfoldable pub lead_of : Shape → Shape
lead_of directive = mark
lead_of s = s

pub lead_word : (c : ℕ) → is_letter c ≡ true → lead c ≡ word
unfolding lead
lead_word c h = rw h

pub lead_number : (c : ℕ) → is_digit c ≡ true → lead c ≡ number
unfolding lead
lead_number c h = grind (arith, nat_tests)

pub lead_byte : (c b : ℕ) → c ≡ b → lead c ≡ lead b
lead_byte c b e = ap lead e

test_same : (c b : ℕ) → (c == b) ≡ true → c ≡ b
test_same c b h = grind (arith, nat_tests)

character_head : (c : ℕ) (cs : List ℕ) → is_character (c ∷ cs) ≡ true → c ≡ 39
unfolding is_character
character_head c [] h = cc
character_head c (b ∷ []) h = cc
character_head c (d ∷ b ∷ []) h = test_same c 39 (left _ _ h)
character_head c (s ∷ d ∷ b ∷ []) h = test_same c 39 (left _ _ h)
character_head c (s ∷ d ∷ b ∷ e ∷ es) h = cc

abbrev is_mark_lead : Shape → Bool
is_mark_lead mark = true
is_mark_lead _ = false

mark_lead : (s : Shape) → is_mark_lead s ≡ true → s ≡ mark
mark_lead mark h = refl
mark_lead _ h = cc

mark_head : (p : Profile) (c : ℕ) (cs : List ℕ) → is_mark p (c ∷ cs) ≡ true → lead c ≡ mark
unfolding is_mark c_marks further_marks lead
mark_head p c cs h =
    ⊎_elim (λ i. mark_lead (lead c) (among (starts (λ b. is_mark_lead (lead b))) c_marks (c ∷ cs) refl i))
    (λ i. mark_lead (lead c) (among (starts (λ b. is_mark_lead (lead b))) further_marks (c ∷ cs) refl (right (is_specification p) _ i)))
    (either (list_any (bytes_eq (c ∷ cs)) c_marks) _ h)

lexeme_lead : (p : Profile) (s : Shape) (c : ℕ) (cs : List ℕ) → is_lexeme p s (c ∷ cs) ≡ true → lead c ≡ lead_of s
unfolding is_lexeme is_identifier is_number is_backslash_word is_directive is_string lead lead_of
lexeme_lead p word c cs h = lead_word c (left _ _ h)
lexeme_lead p number c cs h = lead_number c (left _ _ h)
lexeme_lead p character c cs h = lead_byte c 39 (character_head c cs h)
lexeme_lead p backslash c cs h = lead_byte c 92 (test_same c 92 (left _ _ (right (is_specification p) _ h)))
lexeme_lead p directive c cs h = lead_byte c 37 (test_same c 37 (left _ _ (right (is_ya p) _ h)))
lexeme_lead p string c cs h = lead_byte c 34 (test_same c 34 (left _ _ (right (is_annotation p) _ h)))
lexeme_lead p mark c cs h = mark_head p c cs h

mark_some : (p : Profile) → is_mark p [] ≡ true → ⊥
unfolding is_mark c_marks further_marks
mark_some p h =
    ⊎_elim (λ i. let e : false ≡ true = among (starts (λ b. true)) c_marks [] refl i in cc)
    (λ i. let e : false ≡ true = among (starts (λ b. true)) further_marks [] refl (right (is_specification p) _ i) in cc)
    (either (list_any (bytes_eq []) c_marks) _ h)

pub lexeme_some : (p : Profile) (s : Shape) → is_lexeme p s [] ≡ true → ⊥
unfolding is_lexeme is_identifier is_number is_character is_backslash_word is_directive is_string
lexeme_some p word h = cc
lexeme_some p number h = cc
lexeme_some p character h = cc
lexeme_some p backslash h = let e : false ≡ true = right (is_specification p) _ h in cc
lexeme_some p directive h = let e : false ≡ true = right (is_ya p) _ h in cc
lexeme_some p string h = let e : false ≡ true = right (is_annotation p) _ h in cc
lexeme_some p mark h = mark_some p h

pub begins_some : (p : Profile) (text : List ℕ) (s : Shape) (n : ℕ) → Begins p text s n → 0 < n
begins_some p text s zero b = absurd (lexeme_some p s b.spelled)
begins_some p text s (suc n) b = omega arith

pub begins_lead : (p : Profile) (text : List ℕ) (s : Shape) (n : ℕ) → Begins p text s n → lead (get_or text 0 0) ≡ lead_of s
begins_lead p text s zero b = absurd (lexeme_some p s b.spelled)
begins_lead p [] s (suc n) b = absurd (lexeme_some p s b.spelled)
begins_lead p (c ∷ cs) s (suc n) b = lexeme_lead p s c (take n cs) b.spelled

-- ---- what may begin where the first byte is known

pub only_word : (s : Shape) → lead_of s ≡ word → s ≡ word
unfolding lead_of
only_word word h = refl
only_word _ h = cc

pub only_number : (s : Shape) → lead_of s ≡ number → s ≡ number
unfolding lead_of
only_number number h = refl
only_number _ h = cc

pub only_character : (s : Shape) → lead_of s ≡ character → s ≡ character
unfolding lead_of
only_character character h = refl
only_character _ h = cc

pub only_backslash : (s : Shape) → lead_of s ≡ backslash → s ≡ backslash
unfolding lead_of
only_backslash backslash h = refl
only_backslash _ h = cc

pub only_string : (s : Shape) → lead_of s ≡ string → s ≡ string
unfolding lead_of
only_string string h = refl
only_string _ h = cc

lead_here : (p : Profile) (text : List ℕ) (s t : Shape) (n : ℕ) → lead (get_or text 0 0) ≡ t → Begins p text s n → lead_of s ≡ t
lead_here p text s t n e b = sym (begins_lead p text s n b) ∙ e

pub words_only : (p : Profile) (text : List ℕ) → is_letter (get_or text 0 0) ≡ true → BeginsOnly p text word
words_only p text h s n b = only_word s (lead_here p text s word n (lead_word (get_or text 0 0) h) b)

pub numbers_only : (p : Profile) (text : List ℕ) → is_digit (get_or text 0 0) ≡ true → BeginsOnly p text number
numbers_only p text h s n b = only_number s (lead_here p text s number n (lead_number (get_or text 0 0) h) b)

pub characters_only : (p : Profile) (text : List ℕ) → get_or text 0 0 ≡ 39 → BeginsOnly p text character
unfolding lead
characters_only p text h s n b = only_character s (lead_here p text s character n (lead_byte (get_or text 0 0) 39 h) b)

pub backslashes_only : (p : Profile) (text : List ℕ) → get_or text 0 0 ≡ 92 → BeginsOnly p text backslash
unfolding lead
backslashes_only p text h s n b = only_backslash s (lead_here p text s backslash n (lead_byte (get_or text 0 0) 92 h) b)

pub strings_only : (p : Profile) (text : List ℕ) → get_or text 0 0 ≡ 34 → BeginsOnly p text string
unfolding lead
strings_only p text h s n b = only_string s (lead_here p text s string n (lead_byte (get_or text 0 0) 34 h) b)

-- the same sort, seen as the one that may begin
pub begins_as : (p : Profile) (text : List ℕ) (s t : Shape) (n : ℕ) → BeginsOnly p text t → Begins p text s n → Begins p text t n
begins_as p text s t n only b = subst (λ x. Begins p text x n) (only s n b) b

-- ---- what may begin with another byte

abbrev heads : Profile → Shape → ℕ → Bool
heads p word c = is_letter c
heads p number c = is_digit c
heads p character c = c == 39
heads p backslash c = is_specification p && c == 92
heads p directive c = is_ya p && c == 37
heads p string c = is_annotation p && c == 34
heads p mark c = true

test_true : (c b : ℕ) → c ≡ b → (c == b) ≡ true
test_true c b h = grind (arith, nat_tests)

lexeme_heads : (p : Profile) (s : Shape) (c : ℕ) (cs : List ℕ) → is_lexeme p s (c ∷ cs) ≡ true → heads p s c ≡ true
unfolding is_lexeme is_identifier is_number is_backslash_word is_directive is_string
lexeme_heads p word c cs h = left _ _ h
lexeme_heads p number c cs h = left _ _ h
lexeme_heads p character c cs h = test_true c 39 (character_head c cs h)
lexeme_heads p backslash c cs h = both (is_specification p) _ (left _ _ h) (left _ _ (right (is_specification p) _ h))
lexeme_heads p directive c cs h = both (is_ya p) _ (left _ _ h) (left _ _ (right (is_ya p) _ h))
lexeme_heads p string c cs h = both (is_annotation p) _ (left _ _ h) (left _ _ (right (is_annotation p) _ h))
lexeme_heads p mark c cs h = refl

begins_heads : (p : Profile) (text : List ℕ) (s : Shape) (n : ℕ) → Begins p text s n → heads p s (get_or text 0 0) ≡ true
begins_heads p text s zero b = absurd (lexeme_some p s b.spelled)
begins_heads p [] s (suc n) b = absurd (lexeme_some p s b.spelled)
begins_heads p (c ∷ cs) s (suc n) b = lexeme_heads p s c (take n cs) b.spelled

-- a byte with which only punctuators begin
pub record IsMarkByte (p : Profile) (c : ℕ) : Type 0 where
  pub letter : is_letter c ≡ false
  pub digit : is_digit c ≡ false
  pub quote : (c == 39) ≡ false
  pub backslash : (is_specification p && c == 92) ≡ false
  pub directive : (is_ya p && c == 37) ≡ false
  pub string : (is_annotation p && c == 34) ≡ false

pub marks_only : (p : Profile) (text : List ℕ) → IsMarkByte p (get_or text 0 0) → BeginsOnly p text mark
marks_only p text h word n b = absurd (apart _ h.letter (begins_heads p text word n b))
marks_only p text h number n b = absurd (apart _ h.digit (begins_heads p text number n b))
marks_only p text h character n b = absurd (apart _ h.quote (begins_heads p text character n b))
marks_only p text h backslash n b = absurd (apart _ h.backslash (begins_heads p text backslash n b))
marks_only p text h directive n b = absurd (apart _ h.directive (begins_heads p text directive n b))
marks_only p text h string n b = absurd (apart _ h.string (begins_heads p text string n b))
marks_only p text h mark n b = refl

pub annotation_is : (p : Profile) → is_annotation p ≡ true → p ≡ profile.Annotation
annotation_is profile.Annotation h = refl
annotation_is profile.C h = cc
annotation_is profile.Ya h = cc

pub ya_is : (p : Profile) → is_ya p ≡ true → p ≡ profile.Ya
ya_is profile.Ya h = refl
ya_is profile.C h = cc
ya_is profile.Annotation h = cc

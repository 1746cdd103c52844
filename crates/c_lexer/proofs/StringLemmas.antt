-- Strings, directives and punctuators: the longest one at a place.
use Rattle.std.proofs.Common.{◌≡◌, ℕ, zero, suc, ◌+◌, ◌-◌, ◌<◌, ◌≤◌, min, Bool, true, false, not, ◌&&◌, ◌||◌, ◌==◌, nat_le, List, [], ◌∷◌, length, take, drop, get_or, refl, sym, ap, subst, ◌∙◌, ⊎_elim, arith}
use Rattle.std.specs.List.{list_any, list_all, take_while}
use Rattle.std.specs.Str.{bytes_eq}
use Rattle.std.proofs.lemmas.Bool.{cases_lt}
use Rattle.std.proofs.lemmas.Bool.Decides.{nat_tests}
use Rattle.std.proofs.lemmas.List.{length-take-le, get_or-take}
use Rattle.c_lexer.specs.declared.profile.Profile.{Profile}
use Rattle.c_lexer.specs.declared.profile.Profile.TheVariants as profile
use Rattle.c_lexer.specs.Bytes.{is_word}
use Rattle.c_lexer.specs.Lexemes.{Shape, directive, string, mark, is_specification, is_text, is_string_of, is_string, directives, is_directive, c_marks, further_marks, is_mark, is_lexeme, Begins, IsLongest, BeginsOnly}
use Rattle.c_lexer.proofs.ListLemmas.{both, left, right, either, apart, among, IsRun, IsRun-take_while}
use Rattle.c_lexer.proofs.TokenLemmas.{starts}
use Rattle.c_lexer.proofs.FrontLemmas.{among_bytes}
use Rattle.std.specs.Prelude.{codes}
use Rattle.c_lexer.proofs.LeadLemmas.{lead, lead_of, lead_byte, lexeme_some, begins_lead, strings_only, begins_as}
use Rattle.c_lexer.proofs.LongestLemmas.{byte_within, test_same}

-- ---- runs

pub all_at : (test : ℕ → Bool) (xs : List ℕ) (n i : ℕ) → i < n → n ≤ length xs → list_all test (take n xs) ≡ true → test (get_or xs i 0) ≡ true
all_at test xs zero i lt le h = absurd (omega arith)
all_at test [] (suc n) i lt le h = absurd (omega arith)
all_at test (x ∷ xs) (suc n) zero lt le h = left (test x) _ h
all_at test (x ∷ xs) (suc n) (suc i) lt le h = all_at test xs n i (omega arith) (omega arith) (right (test x) _ h)

pub all_more : (test : ℕ → Bool) (xs : List ℕ) (n : ℕ) → n < length xs → list_all test (take n xs) ≡ true → test (get_or xs n 0) ≡ true → list_all test (take (suc n) xs) ≡ true
all_more test [] n lt h i = absurd (omega arith)
all_more test (x ∷ xs) zero lt h i = both _ _ i refl
all_more test (x ∷ xs) (suc n) lt h i = both _ _ (left (test x) _ h) (all_more test xs n (omega arith) (right (test x) _ h) i)

pub take_take : (xs : List ℕ) (n m : ℕ) → n ≤ m → take n (take m xs) ≡ take n xs
take_take xs zero m le = refl
take_take [] (suc n) zero le = refl
take_take [] (suc n) (suc m) le = refl
take_take (x ∷ xs) (suc n) zero le = absurd (omega arith)
take_take (x ∷ xs) (suc n) (suc m) le = ap (λ r. x ∷ r) (take_take xs n m (omega arith))

past_end : (xs : List ℕ) (i : ℕ) → length xs ≤ i → get_or xs i 0 ≡ 0
past_end [] i le = refl
past_end (x ∷ xs) zero le = absurd (omega arith)
past_end (x ∷ xs) (suc i) le = past_end xs i (omega arith)

-- the byte after a run doesn't pass the test
pub run_end : (test : ℕ → Bool) (xs : List ℕ) (n : ℕ) → test 0 ≡ false → IsRun test xs n → test (get_or xs n 0) ≡ false
run_end test xs n h run = of (test (get_or xs n 0)) refl
  where
    of : (b : Bool) → test (get_or xs n 0) ≡ b → test (get_or xs n 0) ≡ false
    of false e = e
    of true e =
        ⊎_elim (λ lt. absurd (omega (arith, run.longest (suc n) (omega arith) (all_more test xs n lt run.passes e))))
        (λ le. ap test (past_end xs n le) ∙ h) (cases_lt n (length xs))

-- a front that passes, and whose next byte doesn't, is the whole run
pub run_is : (test : ℕ → Bool) (xs : List ℕ) (n m : ℕ) → IsRun test xs n → m ≤ length xs → list_all test (take m xs) ≡ true → test (get_or xs m 0) ≡ false → m ≡ n
run_is test xs n m run le h i =
    let short : m ≤ n = run.longest m le h in
    ⊎_elim (λ lt. absurd (apart _ i (all_at test xs n m lt run.fits run.passes))) (λ ge. omega arith) (cases_lt m n)

le_test : (m n : ℕ) → nat_le m n ≡ true → m ≤ n
le_test m n h = grind (arith, nat_tests)

-- ---- strings

-- what a string has between its first quote and the end of what follows
record IsQuoted (rest : List ℕ) (n : ℕ) : Type 0 where
  low : nat_le 1 n ≡ true
  high : nat_le n 64 ≡ true
  each : list_all is_text (take n rest) ≡ true
  quote : (get_or rest n 0 == 34) ≡ true

string_rest : (c : ℕ) (rest : List ℕ) → is_string (c ∷ rest) ≡ true → IsQuoted rest (length rest - 1)
unfolding is_string
string_rest c rest h =
    let h' = right (c == 34) _ h in
    let bounds = left (nat_le 1 (length rest - 1) && nat_le (length rest - 1) 64) _ h' in
    let tail = right (nat_le 1 (length rest - 1) && nat_le (length rest - 1) 64) _ h' in
    record {
      low = left _ _ bounds;
      high = right (nat_le 1 (length rest - 1)) _ bounds;
      each = left _ _ tail;
      quote = right (list_all is_text (take (length rest - 1) rest)) _ tail;
    }

rest_string : (c : ℕ) (rest : List ℕ) → c ≡ 34 → IsQuoted rest (length rest - 1) → is_string (c ∷ rest) ≡ true
unfolding is_string
rest_string c rest e q = both _ _ (grind (arith, nat_tests)) (both _ _ (both _ _ q.low q.high) (both _ _ q.each q.quote))

quoted_take : (cs : List ℕ) (n : ℕ) → suc n ≤ length cs → IsQuoted cs n → IsQuoted (take (suc n) cs) (length (take (suc n) cs) - 1)
quoted_take cs n le q =
    let e : n ≡ length (take (suc n) cs) - 1 = omega (arith, length-take-le (suc n) cs le) in
    subst (IsQuoted (take (suc n) cs)) e
    (record {
      low = q.low;
      high = q.high;
      each = subst (λ w. list_all is_text w ≡ true) (sym (take_take cs n (suc n) (omega arith))) q.each;
      quote = subst (λ b. (b == 34) ≡ true) (sym (get_or-take (suc n) cs n 0 (omega arith))) q.quote;
    })

quoted_from : (cs : List ℕ) (m : ℕ) → m ≤ length cs → IsQuoted (take m cs) (length (take m cs) - 1) → (0 < m) × IsQuoted cs (m - 1)
quoted_from cs m le q =
    let size : length (take m cs) ≡ m = length-take-le m cs le in
    let e : length (take m cs) - 1 ≡ m - 1 = omega arith in
    let q' : IsQuoted (take m cs) (m - 1) = subst (IsQuoted (take m cs)) e q in
    let some : 0 < m = omega (arith, le_test 1 (m - 1) q'.low) in (
      some,
      record {
        low = q'.low;
        high = q'.high;
        each = subst (λ w. list_all is_text w ≡ true) (take_take cs (m - 1) m (omega arith)) q'.each;
        quote = subst (λ b. (b == 34) ≡ true) (get_or-take m cs (m - 1) 0 (omega arith)) q'.quote;
      },
    )

quote_no_text : (c : ℕ) → (c == 34) ≡ true → is_text c ≡ false
quote_no_text c h = grind (arith, nat_tests)

-- the string that begins with these bytes is as long as the run of its bytes lets it be
quoted_run : (cs : List ℕ) (n m : ℕ) → IsRun is_text cs n → IsQuoted cs m → m ≡ n
quoted_run cs n m run q = run_is is_text cs n m run (omega (arith, byte_within cs m 33 (test_same _ 34 q.quote))) q.each (quote_no_text (get_or cs m 0) q.quote)

string_at : (text : List ℕ) (other : Shape) (m : ℕ) → get_or text 0 0 ≡ 34 → Begins profile.Annotation text other m → (n : ℕ) × (m ≡ n + 2) × IsQuoted (drop 1 text) n
unfolding is_lexeme
string_at text other zero e b = absurd (lexeme_some profile.Annotation other b.spelled)
string_at [] other (suc m) e b = absurd (lexeme_some profile.Annotation other b.spelled)
string_at (c ∷ cs) other (suc m) e b =
    let b' = begins_as profile.Annotation (c ∷ cs) other string (suc m) (strings_only profile.Annotation (c ∷ cs) e) b in
    let q = quoted_from cs m (omega (arith, b'.fits)) (string_rest c (take m cs) b'.spelled) in
    let some = q.0 in
    (m - 1, omega arith, q.1)

quoted_test : (text : List ℕ) (n : ℕ) → 0 < length text → IsRun is_text (drop 1 text) n → is_string_of text n ≡ true → IsQuoted (drop 1 text) n
quoted_test [] n some run h = absurd (omega arith)
quoted_test (c ∷ cs) n some run h =
    let bounds = left (nat_le 1 n && nat_le n 64) _ h in
    let e : n + 1 ≡ suc n = omega arith in
    record {
      low = left _ _ bounds;
      high = right (nat_le 1 n) _ bounds;
      each = run.passes;
      quote = subst (λ i. (get_or (c ∷ cs) i 0 == 34) ≡ true) e (right (nat_le 1 n && nat_le n 64) _ h);
    }

test_quoted : (c : ℕ) (cs : List ℕ) (n : ℕ) → IsQuoted cs n → is_string_of (c ∷ cs) n ≡ true
test_quoted c cs n q =
    let e : suc n ≡ n + 1 = omega arith in
    both _ _ (both _ _ q.low q.high) (subst (λ i. (get_or (c ∷ cs) i 0 == 34) ≡ true) e q.quote)

string_spelled : (text : List ℕ) (n : ℕ) → get_or text 0 0 ≡ 34 → IsQuoted (drop 1 text) n → Begins profile.Annotation text string (n + 2)
unfolding is_lexeme
string_spelled [] n e q = cc
string_spelled (c ∷ cs) n e q =
    let fits : suc n ≤ length cs = omega (arith, byte_within cs n 33 (test_same _ 34 q.quote)) in
    let size : suc (suc n) ≡ n + 2 = omega arith in
    subst (Begins profile.Annotation (c ∷ cs) string) size
    (record { fits = omega arith; spelled = rest_string c (take (suc n) cs) e (quoted_take cs n fits q); ended = tt })

pub string_longest : (text : List ℕ) (n : ℕ) → get_or text 0 0 ≡ 34 → n ≡ length (take_while is_text (drop 1 text)) → is_string_of text n ≡ true → IsLongest profile.Annotation text string (n + 2)
string_longest text n e i h =
    let run = IsRun-take_while is_text (drop 1 text) n i in
    record {
      begins = string_spelled text n e (quoted_test text n (byte_within text 0 33 e) run h);
      longest = λ other m b. let s = string_at text other m e b in omega (arith, s.1, quoted_run (drop 1 text) n s.0 run s.2);
    }

pub no_string : (text : List ℕ) (n : ℕ) → get_or text 0 0 ≡ 34 → n ≡ length (take_while is_text (drop 1 text)) → is_string_of text n ≡ false → (s : Shape) (m : ℕ) → Begins profile.Annotation text s m → ⊥
no_string [] n e i h s m b = cc
no_string (c ∷ cs) n e i h s m b =
    let run = IsRun-take_while is_text cs n i in
    let q = string_at (c ∷ cs) s m e b in
    apart _ h (test_quoted c cs n (subst (IsQuoted cs) (quoted_run cs n q.0 run q.2) q.2))

-- ---- directives

directive_tail : (c : ℕ) (cs : List ℕ) (m : ℕ) → Begins profile.Ya (c ∷ cs) directive (suc m) → list_any (bytes_eq (take m cs)) directives ≡ true
unfolding is_lexeme is_directive
directive_tail c cs m b = right (c == 37) _ b.spelled

directive_words : (w : List ℕ) → list_any (bytes_eq w) directives ≡ true → list_all is_word w ≡ true
unfolding directives
directive_words w h = among (list_all is_word) directives w refl h

directive_long : (w : List ℕ) → list_any (bytes_eq w) directives ≡ true → 4 ≤ length w
unfolding directives
directive_long w h = le_test 4 (length w) (among (λ v. nat_le 4 (length v)) directives w refl h)

test_or : (a b : Bool) → (not a || b) ≡ true → a ≡ true → b ≡ true
test_or true b h i = h
test_or false b h i = cc

-- a punctuator that begins with `%` has no more than two bytes
percent_short : (c : ℕ) (cs : List ℕ) → c ≡ 37 → is_mark profile.Ya (c ∷ cs) ≡ true → length (c ∷ cs) ≤ 2
unfolding is_mark c_marks further_marks
percent_short c cs e h =
    let test : List ℕ → Bool = λ w. not (starts (λ b. b == 37) w) || nat_le (length w) 2 in
    let here : (c == 37) ≡ true = grind (arith, nat_tests) in
    ⊎_elim (λ i. le_test _ 2 (test_or (c == 37) _ (among test c_marks (c ∷ cs) refl i) here))
    (λ i. le_test _ 2 (test_or (c == 37) _ (among test further_marks (c ∷ cs) refl i) here))
    (either (list_any (bytes_eq (c ∷ cs)) c_marks) _ h)

lead_percent : (p : Profile) (text : List ℕ) (s : Shape) (m : ℕ) → get_or text 0 0 ≡ 37 → Begins p text s m → mark ≡ lead_of s
unfolding lead
lead_percent p text s m e b = sym (lead_byte (get_or text 0 0) 37 e) ∙ begins_lead p text s m b

directive_begins : (text : List ℕ) (n : ℕ) → get_or text 0 0 ≡ 37 → IsRun is_word (drop 1 text) n → list_any (bytes_eq (take n (drop 1 text))) directives ≡ true → Begins profile.Ya text directive (suc n)
unfolding is_lexeme is_directive
directive_begins [] n e run h = cc
directive_begins (c ∷ cs) n e run h = record { fits = omega (arith, run.fits); spelled = both _ _ (grind (arith, nat_tests)) h; ended = run_end is_word cs n refl run }

-- the length of the name of a directive
directive_run : (c : ℕ) (cs : List ℕ) (n m : ℕ) → IsRun is_word cs n → Begins profile.Ya (c ∷ cs) directive (suc m) → m ≡ n
directive_run c cs n m run b = run_is is_word cs n m run (omega (arith, b.fits)) (directive_words (take m cs) (directive_tail c cs m b)) b.ended

mark_tail : (c : ℕ) (cs : List ℕ) (m : ℕ) → c ≡ 37 → Begins profile.Ya (c ∷ cs) mark (suc m) → suc m ≤ 2
unfolding is_lexeme
mark_tail c cs m e b =
    let fits = b.fits in
    let short = percent_short c (take m cs) e b.spelled in
    omega (arith, short, length-take-le m cs (omega arith))

percent_bound : (text : List ℕ) (n : ℕ) → get_or text 0 0 ≡ 37 → IsRun is_word (drop 1 text) n → list_any (bytes_eq (take n (drop 1 text))) directives ≡ true → (s : Shape) (m : ℕ) → mark ≡ lead_of s → Begins profile.Ya text s m → m ≤ suc n
unfolding lead_of
percent_bound text n e run h s zero l b = omega arith
percent_bound [] n e run h s (suc m) l b = absurd (lexeme_some profile.Ya s b.spelled)
percent_bound (c ∷ cs) n e run h directive (suc m) l b = omega (arith, directive_run c cs n m run b)
percent_bound (c ∷ cs) n e run h mark (suc m) l b =
    let long = directive_long (take n cs) h in
    let size = length-take-le n cs run.fits in
    omega (arith, mark_tail c cs m e b)
percent_bound (c ∷ cs) n e run h _ (suc m) l b = cc

pub directive_longest : (text : List ℕ) (n : ℕ) → get_or text 0 0 ≡ 37 → n ≡ length (take_while is_word (drop 1 text)) → list_any (bytes_eq (take n (drop 1 text))) directives ≡ true → IsLongest profile.Ya text directive (suc n)
directive_longest text n e i h =
    let run = IsRun-take_while is_word (drop 1 text) n i in
    record {
      begins = directive_begins text n e run h;
      longest = λ other m b. percent_bound text n e run h other m (lead_percent profile.Ya text other m e b) b;
    }

percent_mark : (text : List ℕ) (n : ℕ) → get_or text 0 0 ≡ 37 → IsRun is_word (drop 1 text) n → list_any (bytes_eq (take n (drop 1 text))) directives ≡ false → (s : Shape) (m : ℕ) → mark ≡ lead_of s → Begins profile.Ya text s m → s ≡ mark
unfolding lead_of
percent_mark text n e run h s zero l b = absurd (lexeme_some profile.Ya s b.spelled)
percent_mark [] n e run h s (suc m) l b = absurd (lexeme_some profile.Ya s b.spelled)
percent_mark (c ∷ cs) n e run h directive (suc m) l b =
    absurd (apart _ h (subst (λ i. list_any (bytes_eq (take i cs)) directives ≡ true) (directive_run c cs n m run b) (directive_tail c cs m b)))
percent_mark (c ∷ cs) n e run h mark (suc m) l b = refl
percent_mark (c ∷ cs) n e run h _ (suc m) l b = cc

pub no_directive : (text : List ℕ) (n : ℕ) → get_or text 0 0 ≡ 37 → n ≡ length (take_while is_word (drop 1 text)) → list_any (bytes_eq (take n (drop 1 text))) directives ≡ false → BeginsOnly profile.Ya text mark
no_directive text n e i h s m b = percent_mark text n e (IsRun-take_while is_word (drop 1 text) n i) h s m (lead_percent profile.Ya text s m e b) b

-- ---- punctuators

mark_short : (p : Profile) (w : List ℕ) → is_mark p w ≡ true → length w ≤ 4
unfolding is_mark c_marks further_marks
mark_short p w h =
    ⊎_elim (λ i. le_test _ 4 (among (λ v. nat_le (length v) 4) c_marks w refl i))
    (λ i. le_test _ 4 (among (λ v. nat_le (length v) 4) further_marks w refl (right (is_specification p) _ i)))
    (either (list_any (bytes_eq w) c_marks) _ h)

pub mark_within : (p : Profile) (text : List ℕ) (m : ℕ) → m ≤ length text → is_mark p (take m text) ≡ true → m ≤ min (length text) 4
mark_within p text m le h = omega (arith, mark_short p (take m text) h, length-take-le m text le)

pub mark_longest : (p : Profile) (text : List ℕ) (n : ℕ) → BeginsOnly p text mark → n ≤ length text → is_mark p (take n text) ≡ true
    → ((m : ℕ) → m ≤ length text → is_mark p (take m text) ≡ true → m ≤ n) → IsLongest p text mark n
unfolding is_lexeme
mark_longest p text n only fits spelled bound = record {
  begins = record { fits = fits; spelled = spelled; ended = tt };
  longest = λ other m b. let b' = begins_as p text other mark m only b in bound m b'.fits b'.spelled;
}

pub no_mark : (p : Profile) (text : List ℕ) (n : ℕ) → n ≡ 0 → BeginsOnly p text mark → ((m : ℕ) → m ≤ length text → is_mark p (take m text) ≡ true → m ≤ n) → (s : Shape) (m : ℕ) → Begins p text s m → ⊥
unfolding is_lexeme
no_mark p text n e only bound s m b =
    let b' = begins_as p text s mark m only b in
    let none : m ≡ 0 = omega (arith, bound m b'.fits b'.spelled) in
    lexeme_some p mark (subst (λ i. is_mark p (take i text) ≡ true) none b'.spelled)

-- a punctuator of one byte that begins no longer one
abbrev is_lone : ℕ → Bool
is_lone c = list_any (λ b. c == b) (codes "{}()[];,~?:")

lone_byte : (c : ℕ) → is_lone c ≡ true → list_any (bytes_eq (c ∷ [])) c_marks ≡ true
unfolding c_marks
lone_byte c h = among_bytes (λ b. list_any (bytes_eq (b ∷ [])) c_marks) (codes "{}()[];,~?:") c refl h

lone_short : (p : Profile) (c : ℕ) (cs : List ℕ) → is_lone c ≡ true → is_mark p (c ∷ cs) ≡ true → length (c ∷ cs) ≤ 1
unfolding is_mark c_marks further_marks
lone_short p c cs h i =
    let test : List ℕ → Bool = λ w. not (starts is_lone w) || nat_le (length w) 1 in
    ⊎_elim (λ j. le_test _ 1 (test_or (is_lone c) _ (among test c_marks (c ∷ cs) refl j) h))
    (λ j. le_test _ 1 (test_or (is_lone c) _ (among test further_marks (c ∷ cs) refl (right (is_specification p) _ j)) h))
    (either (list_any (bytes_eq (c ∷ cs)) c_marks) _ i)

pub lone_within : (text : List ℕ) → is_lone (get_or text 0 0) ≡ true → 1 ≤ length text
lone_within [] h = cc
lone_within (c ∷ cs) h = omega arith

pub lone_mark : (p : Profile) (text : List ℕ) → is_lone (get_or text 0 0) ≡ true → is_mark p (take 1 text) ≡ true
unfolding is_mark
lone_mark p [] h = cc
lone_mark p (c ∷ cs) h = ap (λ b. b || (is_specification p && list_any (bytes_eq (c ∷ [])) further_marks)) (lone_byte c h)

pub lone_longest : (p : Profile) (text : List ℕ) → is_lone (get_or text 0 0) ≡ true → (m : ℕ) → m ≤ length text → is_mark p (take m text) ≡ true → m ≤ 1
lone_longest p text h zero le i = omega arith
lone_longest p [] h (suc m) le i = absurd (omega arith)
lone_longest p (c ∷ cs) h (suc m) le i =
    let short = lone_short p c (take m cs) h i in
    omega (arith, short, length-take-le m cs (omega arith))

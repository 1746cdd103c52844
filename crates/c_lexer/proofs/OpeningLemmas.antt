-- What stands at a place, from its first bytes; one piece stands there, and it lies in the text.
use Rattle.std.proofs.Common.{◌≡◌, ℕ, ◌+◌, ◌-◌, ◌<◌, ◌≤◌, Bool, true, false, not, ◌&&◌, ◌==◌, if◌then◌else◌, List, [], ◌∷◌, length, take, drop, get_or, refl, sym, ap, subst, ◌∙◌, ⊎_elim, arith, Option, Some, None, Result, Ok, Err}
use Rattle.std.proofs.lemmas.Bool.{cases_lt}
use Rattle.std.proofs.lemmas.Bool.Decides.{nat_tests}
use Rattle.std.proofs.lemmas.List.{length-take, length-drop}
use Rattle.std.proofs.lemmas.List.Sums.{prefix_len-le-length}
use Rattle.std.proofs.lemmas.List.Folds.{length-prefix_len}
use Rattle.c_lexer.specs.declared.token.TokenKind.{TokenKind}
use Rattle.c_lexer.specs.declared.token.TokenKind.TheVariants as kind
use Rattle.c_lexer.specs.declared.token.IntSuffix.{IntSuffix}
use Rattle.c_lexer.specs.declared.profile.Profile.{Profile}
use Rattle.c_lexer.specs.declared.profile.Profile.TheVariants as profile
use Rattle.c_lexer.specs.declared.fault.Flaw.{Flaw}
use Rattle.c_lexer.specs.declared.fault.Flaw.TheVariants as flaw
use Rattle.c_lexer.specs.declared.piece.Piece.{Piece}
use Rattle.c_lexer.specs.declared.piece.Piece.TheVariants as piece
use Rattle.c_lexer.specs.Bytes.{is_keyword}
use Rattle.c_lexer.specs.Numbers.{number_of}
use Rattle.c_lexer.specs.Lexemes.{Shape, word, number, character, backslash, directive, string, mark, is_specification, is_ya, directives, is_directive, c_marks, further_marks, is_mark, is_lexeme}
use Rattle.c_lexer.specs.Comments.{line_of, Closes, ClosesFirst, annotation_of, annotation_piece, comment_piece, IsBlockComment, closed, never, line_comment, is_marker, marker_piece}
use Rattle.c_lexer.specs.Lexing.{is_blank_in, whole_token, number_piece, lexeme_piece, IsLexeme, longest, missing, Opening, at_end, at_blank, at_block_comment, at_line_comment, at_line_marker, at_lexeme, opening, StandsAt, Stands, Reaches}
use Rattle.c_lexer.proofs.ListLemmas.{left, right, either, apart, not_true, among, both, IsRun-take_while}
use Rattle.c_lexer.proofs.LeadLemmas.{lead_of, begins_some, begins_lead, only_word, only_number, only_character, only_backslash, only_string}
use Rattle.c_lexer.proofs.LongestLemmas.{byte_within}
use Rattle.std.specs.List.{list_any}
use Rattle.std.specs.Str.{bytes_eq}

-- ---- what stands where the first bytes are known

stands_of : (p : Profile) (leads : Bool) (text : List ℕ) (x : Piece) (o : Opening) → opening p leads text ≡ o → StandsAt o p text x → Stands p leads text x
stands_of p leads text x o e s = record { stands = subst (λ q. StandsAt q p text x) (sym e) s }

pub stands_end : (p : Profile) (leads : Bool) (text : List ℕ) → length text ≡ 0 → Stands p leads text piece.End
unfolding opening
stands_end p leads [] e = record { stands = refl }
stands_end p leads (c ∷ cs) e = absurd (omega arith)

pub stands_blank : (p : Profile) (leads : Bool) (text : List ℕ) (c : ℕ) → 0 < length text → is_blank_in p (get_or text 0 0) ≡ true → c ≡ get_or text 0 0 → Stands p leads text (piece.Blank c)
unfolding opening
stands_blank p leads [] c some h e = absurd (omega arith)
stands_blank p leads (b ∷ bs) c some h e = stands_of p leads (b ∷ bs) (piece.Blank c) at_blank (rw h) (ap piece.Blank e)

abbrev opens_block : List ℕ → Bool
opens_block text = get_or text 0 0 == 47 && get_or text 1 0 == 42

abbrev opens_line : List ℕ → Bool
opens_line text = get_or text 0 0 == 47 && get_or text 1 0 == 47

abbrev opens_marker : Profile → Bool → List ℕ → Bool
opens_marker p leads text = get_or text 0 0 == 35 && (not (is_specification p) && leads)

pub stands_block : (p : Profile) (leads : Bool) (text : List ℕ) (x : Piece) → 0 < length text → is_blank_in p (get_or text 0 0) ≡ false → opens_block text ≡ true → IsBlockComment p text x → Stands p leads text x
unfolding opening
stands_block p leads [] x some h i s = absurd (omega arith)
stands_block p leads (b ∷ bs) x some h i s = stands_of p leads (b ∷ bs) x at_block_comment (rw (h, i)) s

pub stands_line : (p : Profile) (leads : Bool) (text : List ℕ) (x : Piece) → 0 < length text → is_blank_in p (get_or text 0 0) ≡ false → opens_block text ≡ false → opens_line text ≡ true → x ≡ line_comment p text → Stands p leads text x
unfolding opening
stands_line p leads [] x some h i j s = absurd (omega arith)
stands_line p leads (b ∷ bs) x some h i j s = stands_of p leads (b ∷ bs) x at_line_comment (rw (h, i, j)) s

pub stands_marker : (p : Profile) (leads : Bool) (text : List ℕ) (x : Piece) → 0 < length text → is_blank_in p (get_or text 0 0) ≡ false → opens_block text ≡ false → opens_line text ≡ false → opens_marker p leads text ≡ true
    → x ≡ marker_piece text → Stands p leads text x
unfolding opening
stands_marker p leads [] x some h i j k s = absurd (omega arith)
stands_marker p leads (b ∷ bs) x some h i j k s = stands_of p leads (b ∷ bs) x at_line_marker (rw (h, i, j, k)) s

pub stands_lexeme : (p : Profile) (leads : Bool) (text : List ℕ) (x : Piece) → 0 < length text → is_blank_in p (get_or text 0 0) ≡ false → opens_block text ≡ false → opens_line text ≡ false → opens_marker p leads text ≡ false
    → IsLexeme p text x → Stands p leads text x
unfolding opening
stands_lexeme p leads [] x some h i j k s = absurd (omega arith)
stands_lexeme p leads (b ∷ bs) x some h i j k s = stands_of p leads (b ∷ bs) x at_lexeme (rw (h, i, j, k)) s

-- ---- one piece

no_percent_mark : (p : Profile) (w : List ℕ) → is_directive w ≡ true → is_mark p w ≡ true → ⊥
unfolding is_mark c_marks further_marks is_directive directives
no_percent_mark p w h i =
    ⊎_elim (λ j. apart (is_directive w) (not_true _ (among (λ v. not (is_directive v)) c_marks w refl j)) h)
    (λ j. apart (is_directive w) (not_true _ (among (λ v. not (is_directive v)) further_marks w refl (right (is_specification p) _ j))) h)
    (either (list_any (bytes_eq w) c_marks) _ i)

directive_same : (p : Profile) (w : List ℕ) (t : Shape) → mark ≡ lead_of t → is_lexeme p directive w ≡ true → is_lexeme p t w ≡ true → directive ≡ t
unfolding is_lexeme lead_of
directive_same p w directive e h i = refl
directive_same p w mark e h i = absurd (no_percent_mark p w (right (is_ya p) _ h) i)
directive_same p w _ e h i = cc

mark_same : (p : Profile) (w : List ℕ) (t : Shape) → mark ≡ lead_of t → is_lexeme p mark w ≡ true → is_lexeme p t w ≡ true → mark ≡ t
unfolding is_lexeme lead_of
mark_same p w directive e h i = absurd (no_percent_mark p w (right (is_ya p) _ i) h)
mark_same p w mark e h i = refl
mark_same p w _ e h i = cc

same_shape : (p : Profile) (w : List ℕ) (s t : Shape) → lead_of s ≡ lead_of t → is_lexeme p s w ≡ true → is_lexeme p t w ≡ true → s ≡ t
unfolding lead_of
same_shape p w word t e h i = sym (only_word t (sym e))
same_shape p w number t e h i = sym (only_number t (sym e))
same_shape p w character t e h i = sym (only_character t (sym e))
same_shape p w backslash t e h i = sym (only_backslash t (sym e))
same_shape p w string t e h i = sym (only_string t (sym e))
same_shape p w directive t e h i = directive_same p w t e h i
same_shape p w mark t e h i = mark_same p w t e h i

one_lexeme : (p : Profile) (text : List ℕ) (x y : Piece) → IsLexeme p text x → IsLexeme p text y → x ≡ y
one_lexeme p text x y (longest s n l e) (longest t m k f) =
    let size : m ≡ n = omega (arith, l.longest t m k.begins, k.longest s n l.begins) in
    let leads : lead_of s ≡ lead_of t = sym (begins_lead p text s n l.begins) ∙ begins_lead p text t m k.begins in
    let spelled : is_lexeme p t (take n text) ≡ true = subst (λ i. is_lexeme p t (take i text) ≡ true) size k.begins.spelled in
    let shapes : s ≡ t = same_shape p (take n text) s t leads l.begins.spelled spelled in
    e ∙ ap (λ r. lexeme_piece r (take n text) n) shapes ∙ ap (λ i. lexeme_piece t (take i text) i) (sym size) ∙ sym f
one_lexeme p text x y (longest s n l e) (missing none f) = absurd (none s n l.begins)
one_lexeme p text x y (missing none e) (longest t m k f) = absurd (none t m k.begins)
one_lexeme p text x y (missing none e) (missing nothing f) = e ∙ sym f

same_close : (text : List ℕ) (k j : ℕ) → ClosesFirst text k → ClosesFirst text j → k ≡ j
same_close text k j h i =
    ⊎_elim (λ lt. absurd (i.first k lt h.here)) (λ le. ⊎_elim (λ lt. absurd (h.first j lt i.here)) (λ ge. omega arith) (cases_lt j k)) (cases_lt k j)

one_block : (p : Profile) (text : List ℕ) (x y : Piece) → IsBlockComment p text x → IsBlockComment p text y → x ≡ y
one_block p text x y (closed k h e) (closed j i f) = e ∙ ap (λ a. comment_piece p text (a + 2) (a + 4)) (same_close (drop 2 text) k j h i) ∙ sym f
one_block p text x y (closed k h e) (never none f) = absurd (none k h.here)
one_block p text x y (never none e) (closed j i f) = absurd (none j i.here)
one_block p text x y (never none e) (never nothing f) = e ∙ sym f

one_at : (o : Opening) (p : Profile) (text : List ℕ) (x y : Piece) → StandsAt o p text x → StandsAt o p text y → x ≡ y
one_at at_end p text x y h i = h ∙ sym i
one_at at_blank p text x y h i = h ∙ sym i
one_at at_block_comment p text x y h i = one_block p text x y h i
one_at at_line_comment p text x y h i = h ∙ sym i
one_at at_line_marker p text x y h i = h ∙ sym i
one_at at_lexeme p text x y h i = one_lexeme p text x y h i

pub one_piece : (p : Profile) (leads : Bool) (text : List ℕ) (x y : Piece) → Stands p leads text x → Stands p leads text y → x ≡ y
one_piece p leads text x y h i = one_at (opening p leads text) p text x y h.stands i.stands

-- ---- how far a piece reaches

whole_reaches : (text : List ℕ) (k : TokenKind) (n : ℕ) → 0 < n → n ≤ length text → Reaches text (whole_token k n)
whole_reaches text k n some fits = record { some = some; fits = fits; ordered = omega arith; past = omega arith }

number_reaches : (text : List ℕ) (r : Result IntSuffix Flaw) (n : ℕ) → 0 < n → n ≤ length text → Reaches text (number_piece r n)
number_reaches text (Ok s) n some fits = whole_reaches text (kind.Number s) n some fits
number_reaches text (Err f) n some fits = omega arith

lexeme_reaches : (text : List ℕ) (s : Shape) (w : List ℕ) (n : ℕ) → 0 < n → n ≤ length text → Reaches text (lexeme_piece s w n)
unfolding lexeme_piece
lexeme_reaches text word w n some fits = whole_reaches text (if is_keyword w then kind.Keyword else kind.Name) n some fits
lexeme_reaches text number w n some fits = number_reaches text (number_of w) n some fits
lexeme_reaches text character w n some fits = whole_reaches text kind.Character n some fits
lexeme_reaches text backslash w n some fits = whole_reaches text kind.Backslash n some fits
lexeme_reaches text directive w n some fits = whole_reaches text kind.Percent n some fits
lexeme_reaches text string w n some fits = whole_reaches text kind.Text n some fits
lexeme_reaches text mark w n some fits = whole_reaches text kind.Punctuation n some fits

annotation_reaches : (text content : List ℕ) (o : Option TokenKind) (past n : ℕ) → 0 < n → n ≤ length text → past ≤ n → length content + 2 ≤ past → (o ≡ annotation_of content) → Reaches text (annotation_piece o past n)
unfolding annotation_of
annotation_reaches text content None past n some fits le long e = (some, fits)
annotation_reaches text [] (Some k) past n some fits le long e = cc
annotation_reaches text (c ∷ cs) (Some k) past n some fits le long e = record { some = some; fits = fits; ordered = omega (arith, long); past = le }

comment_reaches : (p : Profile) (text : List ℕ) (past n : ℕ) → 2 ≤ past → past ≤ n → n ≤ length text → Reaches text (comment_piece p text past n)
unfolding comment_piece
comment_reaches profile.C text past n low le fits =
    let long : length (take (past - 2) (drop 2 text)) + 2 ≤ past = omega (arith, length-take (past - 2) (drop 2 text)) in
    annotation_reaches text (take (past - 2) (drop 2 text)) (annotation_of (take (past - 2) (drop 2 text))) past n (omega arith) fits le long refl
comment_reaches profile.Annotation text past n low le fits = (omega arith, fits)
comment_reaches profile.Ya text past n low le fits = (omega arith, fits)

close_within : (text : List ℕ) (k : ℕ) → Closes (drop 2 text) k → k + 4 ≤ length text
close_within text k h = omega (arith, byte_within (drop 2 text) (k + 1) 46 h.slash, length-drop 2 text)

pub block_reaches : (p : Profile) (text : List ℕ) (x : Piece) → 0 < length text → IsBlockComment p text x → Reaches text x
block_reaches p text x some (closed k h e) = subst (Reaches text) (sym e) (comment_reaches p text (k + 2) (k + 4) (omega arith) (omega arith) (close_within text k h.here))
block_reaches p text x some (never none e) = subst (Reaches text) (sym e) some

line_fits : (text : List ℕ) → length (line_of text) ≤ length text
line_fits text = omega (arith, length-prefix_len (λ c. not (c == 10)) text, prefix_len-le-length (λ c. not (c == 10)) text)

slash_line : (c : ℕ) → (c == 47) ≡ true → not (c == 10) ≡ true
slash_line c h = grind (arith, nat_tests)

hash_line : (c : ℕ) → (c == 35) ≡ true → not (c == 10) ≡ true
hash_line c h = grind (arith, nat_tests)

line_two : (text : List ℕ) → opens_line text ≡ true → 2 ≤ length (line_of text)
line_two [] h = cc
line_two (a ∷ []) h = let no : false ≡ true = right (a == 47) _ h in cc
line_two (a ∷ b ∷ rest) h =
    (IsRun-take_while (λ c. not (c == 10)) (a ∷ b ∷ rest) (length (line_of (a ∷ b ∷ rest))) refl).longest 2 (omega arith)
    (both _ _ (slash_line a (left (a == 47) _ h)) (both _ _ (slash_line b (right (a == 47) _ h)) refl))

pub line_reaches : (p : Profile) (text : List ℕ) (x : Piece) → opens_line text ≡ true → x ≡ line_comment p text → Reaches text x
line_reaches p text x h e = subst (Reaches text) (sym e) (comment_reaches p text (length (line_of text)) (length (line_of text)) (line_two text h) (omega arith) (line_fits text))

line_one : (text : List ℕ) → (get_or text 0 0 == 35) ≡ true → 1 ≤ length (line_of text)
line_one [] h = cc
line_one (a ∷ rest) h = (IsRun-take_while (λ c. not (c == 10)) (a ∷ rest) (length (line_of (a ∷ rest))) refl).longest 1 (omega arith) (both _ _ (hash_line a h) refl)

marker_within : (text : List ℕ) (b : Bool) → (get_or text 0 0 == 35) ≡ true → b ≡ is_marker (drop 1 (line_of text)) → Reaches text (marker_piece text)
unfolding marker_piece
marker_within text true h e = subst (λ b. Reaches text (if b then piece.Ignored (length (line_of text)) else piece.Fault flaw.HashLine)) e (line_one text h, line_fits text)
marker_within text false h e = subst (λ b. Reaches text (if b then piece.Ignored (length (line_of text)) else piece.Fault flaw.HashLine)) e (omega (arith, line_one text h, line_fits text))

pub marker_reaches : (text : List ℕ) (x : Piece) → (get_or text 0 0 == 35) ≡ true → x ≡ marker_piece text → Reaches text x
marker_reaches text x h e = subst (Reaches text) (sym e) (marker_within text (is_marker (drop 1 (line_of text))) h refl)

pub lexeme_within : (p : Profile) (text : List ℕ) (x : Piece) → 0 < length text → IsLexeme p text x → Reaches text x
lexeme_within p text x some (longest s n l e) = subst (Reaches text) (sym e) (lexeme_reaches text s (take n text) n (begins_some p text s n l.begins) l.begins.fits)
lexeme_within p text x some (missing none e) = subst (Reaches text) (sym e) some

reaches_if : (p : Profile) (leads : Bool) (c : ℕ) (cs : List ℕ) (x : Piece) (a b d m : Bool) → opens_line (c ∷ cs) ≡ d → opens_marker p leads (c ∷ cs) ≡ m
    → StandsAt (if a then at_blank else (if b then at_block_comment else (if d then at_line_comment else (if m then at_line_marker else at_lexeme)))) p (c ∷ cs) x → Reaches (c ∷ cs) x
reaches_if p leads c cs x true b d m f g s = subst (Reaches (c ∷ cs)) (sym s) (omega arith)
reaches_if p leads c cs x false true d m f g s = block_reaches p (c ∷ cs) x (omega arith) s
reaches_if p leads c cs x false false true m f g s = line_reaches p (c ∷ cs) x f s
reaches_if p leads c cs x false false false true f g s = marker_reaches (c ∷ cs) x (left (c == 35) _ g) s
reaches_if p leads c cs x false false false false f g s = lexeme_within p (c ∷ cs) x (omega arith) s

pub reaches_of : (p : Profile) (leads : Bool) (text : List ℕ) (x : Piece) → Stands p leads text x → Reaches text x
unfolding opening
reaches_of p leads [] x s = subst (Reaches []) (sym s.stands) tt
reaches_of p leads (c ∷ cs) x s =
    reaches_if p leads c cs x (is_blank_in p c) (opens_block (c ∷ cs)) (opens_line (c ∷ cs)) (opens_marker p leads (c ∷ cs)) refl refl s.stands

-- The search for a file by its name.
use Rattle.std.proofs.Common.{◌≡◌, ℕ, ◌+◌, ◌<◌, ◌≤◌, List, length, get_or, drop, map, sym, ap, ◌∙◌}
use Rattle.std.proofs.lemmas.List.{at_drop_more, at_drop_all}
use Rattle.std.specs.Prelude.{Bool, true, false, Option, Some, None, string_bytes, if◌then◌else◌}
use Rattle.std.specs.Str.{bytes_eq}
use Rattle.weave_base.specs.declared.mem_files.MemFile.{MemFile}
use Rattle.weave_base.specs.Contents.{bytes_of}
use Rattle.weave_base.specs.MemFile.{file_of}

-- the file at a place is the one that is looked for, or the search goes on behind it
bytes_of_next : (files : List MemFile) (i : ℕ) (file : MemFile) (name : List ℕ) → i < length files → file ≡ get_or files i file →
    bytes_of (map file_of (drop i files)) name ≡ (if bytes_eq (string_bytes file.name) name then Some file.bytes.items else bytes_of (map file_of (drop (i + 1) files)) name)
unfolding bytes_of
bytes_of_next files i file name below is =
    at_drop_more (λ rest. bytes_of (map file_of rest) name) files i file below
    ∙ ap (λ (f : MemFile). if bytes_eq (string_bytes f.name) name then Some f.bytes.items else bytes_of (map file_of (drop (i + 1) files)) name) (sym is)

-- the search ends at a file of the name, given that it got there
pub found_here : (files : List MemFile) (i : ℕ) (file : MemFile) (name text : List ℕ) (b : Bool) (answer : Option (List ℕ)) →
    i < length files → file ≡ get_or files i file → text ≡ string_bytes file.name → b ≡ bytes_eq text name → b ≡ true →
    bytes_of (map file_of (drop i files)) name ≡ answer → answer ≡ Some file.bytes.items
found_here files i file name text b answer below is shown test same so_far =
    let named : bytes_eq (string_bytes file.name) name ≡ true = ap (λ t. bytes_eq t name) (sym shown) ∙ sym test ∙ same in
    sym so_far ∙ bytes_of_next files i file name below is
    ∙ ap (λ t. if t then Some file.bytes.items else bytes_of (map file_of (drop (i + 1) files)) name) named

-- and goes on behind another file
pub found_behind : (files : List MemFile) (i : ℕ) (file : MemFile) (name text : List ℕ) (b : Bool) (answer : Option (List ℕ)) →
    i < length files → file ≡ get_or files i file → text ≡ string_bytes file.name → b ≡ bytes_eq text name → b ≡ false →
    bytes_of (map file_of (drop i files)) name ≡ answer → bytes_of (map file_of (drop (i + 1) files)) name ≡ answer
found_behind files i file name text b answer below is shown test other so_far =
    let named : bytes_eq (string_bytes file.name) name ≡ false = ap (λ t. bytes_eq t name) (sym shown) ∙ sym test ∙ other in
    sym (bytes_of_next files i file name below is
    ∙ ap (λ t. if t then Some file.bytes.items else bytes_of (map file_of (drop (i + 1) files)) name) named)
    ∙ so_far

-- behind the last file nothing is found
pub bytes_of_end : (files : List MemFile) (i : ℕ) (name : List ℕ) → length files ≤ i → bytes_of (map file_of (drop i files)) name ≡ None
unfolding bytes_of
bytes_of_end files i name past = at_drop_all (λ rest. bytes_of (map file_of rest) name) files i past

-- What a name stands for, by the blocks and then by file scope.
use Rattle.std.proofs.Common.{◌≡◌, ℕ, List, [], ◌∷◌, reverse, Some, None, Ok, Err, Option, refl, sym, ap, ap₂, ◌∙◌}
use Rattle.c_words.specs.declared.word.Leaf.{Leaf}
use Rattle.typing_rules.specs.declared.operand.Entry.{Entry}
use Rattle.typing_rules.specs.declared.fault.TypeFault.TheVariants.{Unknown}
use Rattle.typing_rules.specs.Checked.{kept}
use Rattle.typing_rules.specs.Environment.{entry, found, found_in, or_else, place_of, bytes_in}
use Rattle.typing_rules.specs.FileScope.{file_scope}
use Rattle.typing_scopes.specs.declared.known.Known.{Known}
use Rattle.typing_scopes.specs.Known.{known, program}
use Rattle.typing_scopes.proofs.Scopes.{found-append, found-one}

pub found_in_all : (k : Known) (q : List ℕ) → found (known k).scopes q ≡ or_else (found (reverse k.blocks.items) q) (found_in (file_scope (program k)) q)
found_in_all k q = found-append (reverse k.blocks.items) (file_scope (program k) ∷ []) q ∙ ap (or_else (found (reverse k.blocks.items) q)) (found-one (file_scope (program k)) q)

module _ (k : Known) (t : Leaf) (q : List ℕ) (bs : List (List (List ℕ × Entry))) (same : q ≡ bytes_in (known k) t) (blocks : bs ≡ k.blocks.items) where
  by_parts : {a b : Option Entry} → a ≡ found (reverse bs) q → b ≡ found_in (file_scope (program k)) q → entry (known k) t ≡ kept (Unknown (place_of t)) (or_else a b)
  by_parts e f =
      ap (λ n. kept (Unknown (place_of t)) (found (known k).scopes n)) (sym same)
      ∙ (ap (kept (Unknown (place_of t))) (found_in_all k q)
      ∙ ap (kept (Unknown (place_of t))) (ap₂ or_else (sym (e ∙ ap (λ xs. found (reverse xs) q) blocks)) (sym f)))

  pub entry_local : {x : Entry} → Some x ≡ found (reverse bs) q → entry (known k) t ≡ Ok x
  unfolding kept
  entry_local e = by_parts e refl

  pub entry_file : {x : Entry} → None ≡ found (reverse bs) q → Some x ≡ found_in (file_scope (program k)) q → entry (known k) t ≡ Ok x
  unfolding kept
  entry_file e f = by_parts e f

  pub entry_none : None ≡ found (reverse bs) q → None ≡ found_in (file_scope (program k)) q → entry (known k) t ≡ Err (Unknown (place_of t))
  unfolding kept
  entry_none e f = by_parts e f

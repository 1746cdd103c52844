-- Activations that begin and end, and their locals: what is true of a store stays, and what the memory becomes.
use Rattle.std.proofs.Common.{◌≡◌, ℕ, ◌-◌, ◌<◌, ◌≤◌, List, [], ◌∷◌, ◌++◌, length, reverse, Option, Some, None, refl, sym, ap, subst, ◌∙◌, inl, inr, arith, length-append}
use Rattle.std.specs.Prelude.{nat_le}
use Rattle.std.proofs.lemmas.Bool.{cases_lt, le-leb, lt-leb, cond-true, cond-false}
use Rattle.std.proofs.lemmas.List.{reverse-append, map_push, get_or_append_left, get_or_push, take_all, drop_all}
use Rattle.step_meaning.specs.declared.value.NameKind.TheVariants as names
use Rattle.step_meaning.specs.Memory.{Slot, Block}
use Rattle.step_meaning.specs.Calls.{with_frame, without_frame}
use Rattle.cell_pool.specs.Region as pool
use Rattle.run_memory.specs.Numbering.{name_number}
use Rattle.run_memory.specs.View.{cells_at, name_at, blocks_at, frames_of, local_at, AreOpen, memory_of}
use Rattle.run_memory.specs.Inside.{Held, IsStore}
use Rattle.run_memory.specs.Storage.{IsNewer}
use Rattle.run_memory.proofs.RegionLaws.{same_cells, same_name_at, apart_blocks, held_apart, free_apart}
use Rattle.run_memory.proofs.StoreLaws.{blocks_length}

-- ---- lists

pub reverse_push : {A : Type 0} (xs : List A) (x : A) → reverse (xs ++ x ∷ []) ≡ x ∷ reverse xs
reverse_push xs x = reverse-append xs (x ∷ [])

pub newer_open : (m l a : ℕ) (ns bs : List ℕ) (d : List Block) → AreOpen m l ns bs → IsNewer a (frames_of ns bs d) → AreOpen a l ns bs
newer_open m l a [] [] d o h = o
newer_open m l a [] (b ∷ bs) d o h = o
newer_open m l a (n ∷ ns) [] d o h = o
newer_open m l a (n ∷ ns) (b ∷ bs) d o h = (h, o.1, o.2)

raise_open : (m n l : ℕ) (ns bs : List ℕ) → m ≤ n → AreOpen m l ns bs → AreOpen n l ns bs
raise_open m n l [] [] h o = o
raise_open m n l [] (b ∷ bs) h o = o
raise_open m n l (k ∷ ns) [] h o = o
raise_open m n l (k ∷ ns) (b ∷ bs) h o = (omega (arith, o.0), o.1, o.2)

pub local_before : (a b : ℕ) (ns bs : List ℕ) (k : ℕ) → k < b → local_at (a ∷ ns) (b ∷ bs) k ≡ local_at ns bs k
local_before a b ns bs k h = cond-false (nat_le b k) (name_number names.Local a (k - b)) (local_at ns bs k) (lt-leb b k h)

pub local_from : (a b : ℕ) (ns bs : List ℕ) (k : ℕ) → b ≤ k → local_at (a ∷ ns) (b ∷ bs) k ≡ name_number names.Local a (k - b)
local_from a b ns bs k h = cond-true (nat_le b k) (name_number names.Local a (k - b)) (local_at ns bs k) (le-leb b k h)

module _ (r : pool.Region Slot) (globals named locals activations starts numbers heap : List ℕ) where
  -- ---- an activation begins

  abbrev l : ℕ
  l = length locals

  pub begun_frames : (a : ℕ) → memory_of r globals locals (activations ++ a ∷ []) (starts ++ l ∷ []) numbers heap ≡ with_frame (record { activation = a; locals = [] }) (memory_of r globals locals activations starts numbers heap)
  begun_frames a =
      let e = blocks_length r locals in
      rw (reverse_push activations a, reverse_push starts l, drop_all l (blocks_at r locals) (omega arith), take_all l (blocks_at r locals) (omega arith)) refl

  pub begun_store : (a : ℕ) → IsStore r globals named locals activations starts numbers heap → IsNewer a (memory_of r globals locals activations starts numbers heap).frames → a < 1099511627776
      → IsStore r globals named locals (activations ++ a ∷ []) (starts ++ l ∷ []) numbers heap
  begun_store a st h q =
      record {
        globals_held = st.globals_held;
        few_globals = st.few_globals;
        locals_held = record { named = λ k p. st.locals_held.named k p ∙ ap Some (sym (here k p)) };
        few_locals = st.few_locals;
        as_many_names = st.as_many_names;
        locals_named = λ k p. st.locals_named k p ∙ sym (here k p);
        opened = rw (reverse_push activations a, reverse_push starts l) (q, omega arith, newer_open 1099511627776 l a (reverse activations) (reverse starts) (blocks_at r locals) st.opened h);
        heap_held = st.heap_held;
        as_many_numbers = st.as_many_numbers;
        heap_rises = st.heap_rises;
        heap_below = st.heap_below;
        counted = st.counted;
      }
    where
      here : (k : ℕ) → k < length locals → local_at (reverse (activations ++ a ∷ [])) (reverse (starts ++ l ∷ [])) k ≡ local_at (reverse activations) (reverse starts) k
      here k p = rw (reverse_push activations a, reverse_push starts l) (local_before a l (reverse activations) (reverse starts) k p)

  -- ---- an activation without locals ends

  pub ended_frames : (a b : ℕ) → b ≡ l → memory_of r globals locals activations starts numbers heap ≡ without_frame (memory_of r globals locals (activations ++ a ∷ []) (starts ++ b ∷ []) numbers heap)
  ended_frames a b h =
      let e = blocks_length r locals in
      rw (reverse_push activations a, reverse_push starts b, take_all b (blocks_at r locals) (omega arith)) refl

  pub ended_store : (a b : ℕ) → b ≡ l → IsStore r globals named locals (activations ++ a ∷ []) (starts ++ b ∷ []) numbers heap → IsStore r globals named locals activations starts numbers heap
  ended_store a b h st =
      let o : AreOpen 1099511627776 l (a ∷ reverse activations) (b ∷ reverse starts) = rw (reverse_push activations a, reverse_push starts b) at st.opened in
      record {
        globals_held = st.globals_held;
        few_globals = st.few_globals;
        locals_held = record { named = λ k p. st.locals_held.named k p ∙ ap Some (here k p) };
        few_locals = st.few_locals;
        as_many_names = st.as_many_names;
        locals_named = λ k p. st.locals_named k p ∙ here k p;
        opened = raise_open a 1099511627776 l (reverse activations) (reverse starts) (omega (arith, o.0)) (subst (λ j. AreOpen a j (reverse activations) (reverse starts)) h o.2);
        heap_held = st.heap_held;
        as_many_numbers = st.as_many_numbers;
        heap_rises = st.heap_rises;
        heap_below = st.heap_below;
        counted = st.counted;
      }
    where
      here : (k : ℕ) → k < length locals → local_at (reverse (activations ++ a ∷ [])) (reverse (starts ++ b ∷ [])) k ≡ local_at (reverse activations) (reverse starts) k
      here k p = rw (reverse_push activations a, reverse_push starts b) (local_before a b (reverse activations) (reverse starts) k (omega arith))

  -- ---- a block at a slot where none was

  pub taken_blocks : (s name : ℕ) (x : Block) (slots : List ℕ) (f : ℕ → ℕ) → Held r f slots → name_at r s ≡ None → blocks_at (pool.with_block r s (Some (record { name = name; cells = x }))) slots ≡ blocks_at r slots
  taken_blocks s name x slots f held e = apart_blocks r slots s (Some (record { name = name; cells = x })) (free_apart r f slots s held e)

  pub taken_push : (s name : ℕ) (x : Block) (slots : List ℕ) (f : ℕ → ℕ) → Held r f slots → name_at r s ≡ None → s < length r.blocks → blocks_at (pool.with_block r s (Some (record { name = name; cells = x }))) (slots ++ s ∷ []) ≡ blocks_at r slots ++ x ∷ []
  taken_push s name x slots f held e h =
      map_push (cells_at (pool.with_block r s (Some (record { name = name; cells = x })))) slots s
      ∙ ap (λ bs. bs ++ cells_at (pool.with_block r s (Some (record { name = name; cells = x }))) s ∷ []) (taken_blocks s name x slots f held e)
      ∙ ap (λ c. blocks_at r slots ++ c ∷ []) (same_cells r s (Some (record { name = name; cells = x })) h)

  pub taken_held : (s name : ℕ) (x : Block) (slots : List ℕ) (f g : ℕ → ℕ) → Held r f slots → name_at r s ≡ None → s < length r.blocks → ((k : ℕ) → k < length slots → g k ≡ f k) → g (length slots) ≡ name
      → Held (pool.with_block r s (Some (record { name = name; cells = x }))) g (slots ++ s ∷ [])
  taken_held s name x slots f g held e h same last =
      record {
        named = λ k p.
            let n = length-append slots (s ∷ []) in
            elim (cases_lt k (length slots)) [
              | inl q ↦
                  ap (λ t. name_at r' t) (get_or_append_left slots (s ∷ []) 0 k q)
                  ∙ (held_apart r f slots s x' (free_apart r f slots s held e) held).named k q
                  ∙ ap Some (sym (same k q))
              | inr q ↦
                  let is : length slots ≡ k = omega arith in
                  ap (λ t. name_at r' t) (get_or_push slots s 0 k is)
                  ∙ same_name_at r s x' h
                  ∙ ap Some (sym last ∙ ap g is)
            ];
      }
    where
      x' : Option (pool.Block Slot)
      x' = Some (record { name = name; cells = x })

      r' : pool.Region Slot
      r' = pool.with_block r s (Some (record { name = name; cells = x }))

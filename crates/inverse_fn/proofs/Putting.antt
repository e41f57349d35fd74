-- All entries read, then changed in memory.
use Rattle.std.proofs.Common.{◌≡◌, ◌<◌, ◌≤◌, ◌+◌, ◌^◌, ℕ, zero, suc, List, [], ◌∷◌, ◌++◌, Option, Some, length, take, refl, sym, ap, ◌∙◌, subst, arith}
use Rattle.std.specs.Prelude.{get_or, set}
use Rattle.std.proofs.lemmas.List.{take_all, take_more}
use Rattle.nfs2_types.specs.declared.Limits.{Limits}
use Rattle.server_trait.specs.Tree.{Tree}
use Rattle.server_trait.specs.declared.bench.ConfTable.{ConfTable}
use Rattle.abs_model.specs.declared.entry.Entry.{Entry}
use Rattle.abs_model.specs.declared.entry.Change.{Change}
use Rattle.abs_model.specs.Array.{changed, entry_at, null_entry}
use Rattle.conf_map.specs.Stands.{AreWithin, StandValid, StandsValid}

-- one change more
pub changed_more : (cs : List Change) (c : Change) (A : List Entry) → changed (cs ++ c ∷ []) A ≡ set (changed cs A) c.index c.entry
changed_more [] c A = refl
changed_more (d ∷ cs) c A = changed_more cs c (set A d.index d.entry)

-- valid for these limits, valid for some
pub valid_for : (limits : Limits) (s : Option Tree) (table : ConfTable) (A : List Entry) → AreWithin limits → StandsValid limits s table A → StandValid s table A
valid_for limits s table A within st = record { limits = limits; within = within; valid = st.valid; stands = st.stands; tallied = st.tallied }

-- one entry more is read
pub read_more : (s : Option Tree) (table : ConfTable) (A entries entries' : List Entry) (i : ℕ) (e : Entry) → StandValid s table A → i < length table.rows.items → entries ≡ take i A → e ≡ entry_at A i → entries' ≡ entries ++ e ∷ [] →
    entries' ≡ take (i + 1) A
read_more s table A entries entries' i e st low was is next =
    let size = st.stands.size in
    next ∙ ap (λ xs. xs ++ e ∷ []) was ∙ ap (λ x. take i A ++ x ∷ []) is ∙ sym (take_more A i null_entry (omega (arith, low, size)))

pub read_all : (s : Option Tree) (table : ConfTable) (A entries : List Entry) (i : ℕ) → StandValid s table A → length table.rows.items ≤ i → entries ≡ take i A → entries ≡ A
read_all s table A entries i st past was = let size = st.stands.size in was ∙ take_all i A (omega (arith, past, size))

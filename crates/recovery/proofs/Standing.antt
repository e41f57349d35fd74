-- What server and table stand for, again and for some limits.
use Rattle.std.proofs.Common.{◌<◌, ◌^◌, ◌∙◌, ℕ, List, Option, length, sym, subst, arith}
use Rattle.nfs2_types.specs.declared.Limits.{Limits}
use Rattle.server_trait.specs.Tree.{Tree}
use Rattle.server_trait.specs.declared.bench.ConfTable.{ConfTable}
use Rattle.abs_model.specs.declared.Entry.{Entry}
use Rattle.conf_map.specs.Stands.{AreWithin, StandValid, StandsValid}
use Rattle.partition_tree.specs.Digests.{IsTreeSize}
use Rattle.partition_tree.proofs.Places.{pow_small}

-- a tree stands over few texts
pub few_texts : (n : ℕ) → IsTreeSize n → n < 2 ^ 32
few_texts n h = (let small = pow_small h.levels h.few in let size = h.size in omega (arith, small, size))

-- what is valid for these limits is valid for some
pub valid_for : (limits : Limits) (s : Option Tree) (table : ConfTable) (A : List Entry) → AreWithin limits →
    StandsValid limits s table A → StandValid s table A
valid_for limits s table A within st = record {
  limits = limits;
  within = within;
  valid = st.valid;
  stands = st.stands;
  tallied = st.tallied;
}

-- what stands again for the limits of an array is valid again
pub stand_again : (s t : Option Tree) (old new : ConfTable) (A : List Entry) → (st : StandValid s old A) →
    (StandsValid st.limits s old A → StandsValid st.limits t new A) → StandValid t new A
stand_again s t old new A st again =
    valid_for st.limits t new A st.within
    (again (record { valid = st.valid; stands = st.stands; tallied = st.tallied }))

-- a table over as many rows as its array has entries
pub rows_many : (limits : Limits) (s : Option Tree) (table : ConfTable) (A : List Entry) →
    StandsValid limits s table A → IsTreeSize limits.n → IsTreeSize (length table.rows.items)
rows_many limits s table A st size = subst IsTreeSize (sym (st.stands.size ∙ st.valid.size)) size

-- Entries whose names lead alike, in whatever order they are kept, are held alike.
use Rattle.std.proofs.Common.{◌≡◌, ℕ, List, Some, slice_get, length, sym, ◌∙◌, subst}
use Rattle.std.specs.Prelude.{⊤}
use Rattle.std.specs.FinMap.{get}
use Rattle.server_trait.specs.Tree.{Tree, Names, names_at, names_in}
use Rattle.server_trait.proofs.TreeLaws.{some_and, is_some_and, slice_get-along}
use Rattle.server_trait.specs.declared.bench.ConfEntry.{ConfEntry}
use Rattle.server_trait.specs.declared.bench.ConfTable.{ConfTable}
use Rattle.abs_model.specs.declared.entry.NameRow.{NameRow}
use Rattle.abs_model.specs.declared.entry.Object.{Object}
use Rattle.abs_model.specs.declared.entry.Object.TheVariants.{Null, File, Dir, Link}
use Rattle.abs_model.specs.declared.entry.Entry.{Entry}
use Rattle.abs_model.specs.Objects.{row_of}
use Rattle.conf_map.specs.Stands.{Leads, SameNames, IsObject}
use Rattle.staging.specs.Staged.{Staged}

abbrev pub LeadAlike : List NameRow → List NameRow → Type 0
LeadAlike xs ys = (name : List ℕ) → row_of name xs ≡ row_of name ys

abbrev pub AreAlike : Object → Object → Type 0
AreAlike Null Null = ⊤
AreAlike (File a x) (File b y) = (a ≡ b) × (x ≡ y)
AreAlike (Dir a x) (Dir b y) = (a ≡ b) × LeadAlike x y
AreAlike (Link a x) (Link b y) = (a ≡ b) × (x ≡ y)
AreAlike o p = ⊥

names_alike : (rows : List ConfEntry) (xs ys : List NameRow) (m : Names) → LeadAlike xs ys → SameNames rows xs m → SameNames rows ys m
names_alike rows xs ys m alike same name = subst (Leads rows (get m name)) (alike name) (same name)

object_alike : (t : Tree) (rows : List ConfEntry) (r : ConfEntry) (o p : Object) → AreAlike o p → IsObject t rows r o → IsObject t rows r p
object_alike t rows r Null Null a k = k
object_alike t rows r (File a x) (File b y) l k = subst (λ b. IsObject t rows r (File b y)) l.0 (subst (λ y. IsObject t rows r (File a y)) l.1 k)
object_alike t rows r (Link a x) (Link b y) l k = subst (λ b. IsObject t rows r (Link b y)) l.0 (subst (λ y. IsObject t rows r (Link a y)) l.1 k)
object_alike t rows r (Dir a x) (Dir b y) l k = subst (λ b. IsObject t rows r (Dir b y)) l.0 (record {
  handle = k.handle;
  node = k.node;
  is_handle = k.is_handle;
  is_node = k.is_node;
  attr = k.attr;
  content = let m = some_and (names_in k.node.content) (SameNames rows x) k.content in is_some_and (SameNames rows y) m.1 (names_alike rows x y m.0 l.1 m.2);
})
object_alike t rows r Null (File b y) a k = absurd a
object_alike t rows r Null (Dir b y) a k = absurd a
object_alike t rows r Null (Link b y) a k = absurd a
object_alike t rows r (File a x) Null l k = absurd l
object_alike t rows r (File a x) (Dir b y) l k = absurd l
object_alike t rows r (File a x) (Link b y) l k = absurd l
object_alike t rows r (Dir a x) Null l k = absurd l
object_alike t rows r (Dir a x) (File b y) l k = absurd l
object_alike t rows r (Dir a x) (Link b y) l k = absurd l
object_alike t rows r (Link a x) Null l k = absurd l
object_alike t rows r (Link a x) (File b y) l k = absurd l
object_alike t rows r (Link a x) (Dir b y) l k = absurd l

-- so a loop may keep any list of entries, and end with the one that is defined
pub staged_alike : (t : Tree) (area : List ℕ) (table : ConfTable) (A A' : List Entry) (S S' : List NameRow) → Staged t area table A S → length A' ≡ length A →
    ((i : ℕ) (e e' : Entry) → slice_get A i ≡ Some e → slice_get A' i ≡ Some e' → (e.generation ≡ e'.generation) × AreAlike e.object e'.object) → LeadAlike S S' → Staged t area table A' S'
staged_alike t area table A A' S S' st size alike staged = record {
  sited = record {
    export = st.sited.export;
    root_has = st.sited.root_has;
    staging_has = let m = some_and (names_at t area) (SameNames table.rows.items S) st.sited.staging_has in is_some_and (SameNames table.rows.items S') m.1 (names_alike table.rows.items S S' m.0 staged m.2);
    root_apart = st.sited.root_apart;
    is_export = st.sited.is_export;
    in_step = st.sited.in_step;
    apart = st.sited.apart;
    covered = st.sited.covered;
    numbers = st.sited.numbers;
  };
  size = st.size ∙ sym size;
  each = λ i r e' is_r is_e'.
      let e = slice_get-along A' A i e' size is_e' in
      let k = st.each i r e.0 is_r e.1 in
      let same = alike i e.0 e' e.1 is_e' in
      record { generation = k.generation ∙ same.0; object = object_alike t table.rows.items r e.0.object e'.object same.1 k.object };
}

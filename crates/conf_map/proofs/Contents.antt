-- What a server holds of files and links.
use Rattle.std.proofs.Common.{◌≡◌, ℕ, true, false, List, take, drop, Option, Some, IsSome, IsSomeAnd, is_some, sym, ap, ◌∙◌}
use Rattle.std.specs.Option.{option_and_then, option_map}
use Rattle.server_trait.specs.Tree.{Tree, Node, Content, bytes_in, text_in, bytes_at, text_at}
use Rattle.server_trait.proofs.TreeLaws.{some_same, is_some_and}
use Rattle.server_trait.specs.declared.bench.ConfEntry.{ConfEntry}
use Rattle.server_trait.specs.declared.bench.ConfTable.{ConfTable}
use Rattle.abs_model.specs.declared.entry.Object.{Object}
use Rattle.abs_model.specs.declared.entry.Object.TheVariants.{File, Link}
use Rattle.abs_model.specs.declared.entry.Entry.{Entry}
use Rattle.abs_model.specs.Objects.{is_file, is_link, bytes_of}
use Rattle.abs_model.specs.Array.{entry_at}
use Rattle.conf_map.specs.Stands.{handle_at, SameContent, StandValid}
use Rattle.conf_map.proofs.Frames.{entry_at-some}
use Rattle.conf_map.proofs.LiveRows.{at_handle, same_content}

file_content : (rows : List ConfEntry) (g : ℕ) (o : Object) (c : Content) → SameContent rows o c →
    is_file (record { generation = g; object = o }) ≡ true →
    bytes_in c ≡ Some (bytes_of (record { generation = g; object = o }))
file_content rows g (File a b) c same is = ap bytes_in same
file_content rows g _ c same is = absurd (let bad : false ≡ true = is in cc)

link_content : (rows : List ConfEntry) (g : ℕ) (o : Object) (c : Content) → SameContent rows o c →
    is_link (record { generation = g; object = o }) ≡ true →
    text_in c ≡ Some (bytes_of (record { generation = g; object = o }))
link_content rows g (Link a b) c same is = ap text_in same
link_content rows g _ c same is = absurd (let bad : false ≡ true = is in cc)

module _ (s : Option Tree) (table : ConfTable) (A : List Entry) (k : StandValid s table A) (i : ℕ) (h : List ℕ)
    (at : handle_at table.rows.items i ≡ Some h) where
  bytes_agree : is_file (entry_at A i) ≡ true → bytes_at k.stands.tree h ≡ Some (bytes_of (entry_at A i))
  bytes_agree is =
      let e = at_handle s table A k.stands i h at in
      let same = entry_at-some A i e.2 e.3.is_entry in
      ap (option_and_then (λ (n : Node). bytes_in n.content)) e.3.is_node
      ∙ file_content table.rows.items e.2.generation e.2.object e.1.content
      (same_content s table A k.stands i h e.0 e.1 e.2 e.3) (ap is_file (sym same) ∙ is)
      ∙ ap (λ e. Some (bytes_of e)) (sym same)

  text_agrees : is_link (entry_at A i) ≡ true → text_at k.stands.tree h ≡ Some (bytes_of (entry_at A i))
  text_agrees is =
      let e = at_handle s table A k.stands i h at in
      let same = entry_at-some A i e.2 e.3.is_entry in
      ap (option_and_then (λ (n : Node). text_in n.content)) e.3.is_node
      ∙ link_content table.rows.items e.2.generation e.2.object e.1.content
      (same_content s table A k.stands i h e.0 e.1 e.2 e.3) (ap is_link (sym same) ∙ is)
      ∙ ap (λ e. Some (bytes_of e)) (sym same)

  pub has_bytes : is_file (entry_at A i) ≡ true → IsSomeAnd s (λ t. IsSome (bytes_at t h))
  has_bytes is = is_some_and (λ t. IsSome (bytes_at t h)) k.stands.has_tree (ap is_some (bytes_agree is))

  pub has_text : is_link (entry_at A i) ≡ true → IsSomeAnd s (λ t. IsSome (text_at t h))
  has_text is = is_some_and (λ t. IsSome (text_at t h)) k.stands.has_tree (ap is_some (text_agrees is))

  -- what was read of a live file is of its bytes
  pub bytes_read : (offset count : ℕ) (v : List ℕ) → is_file (entry_at A i) ≡ true →
      ((t : Tree) → s ≡ Some t → option_map (λ b. take count (drop offset b)) (bytes_at t h) ≡ Some v) →
      v ≡ take count (drop offset (bytes_of (entry_at A i)))
  bytes_read offset count v is read =
      some_same (read k.stands.tree k.stands.has_tree)
      (ap (option_map (λ b. take count (drop offset b))) (bytes_agree is))

  -- and of a live link is its text
  pub text_read : (v : List ℕ) → is_link (entry_at A i) ≡ true → ((t : Tree) → s ≡ Some t → text_at t h ≡ Some v) →
      v ≡ bytes_of (entry_at A i)
  text_read v is read = some_same (read k.stands.tree k.stands.has_tree) (text_agrees is)

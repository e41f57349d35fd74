-- Entries and nodes by their kinds.
use Rattle.std.proofs.Common.{◌≡◌, ℕ, true, false, List, Some, refl, sym, ap, ◌∙◌}
use Rattle.std.specs.FinMap.{insert}
use Rattle.server_trait.specs.Tree.{Node, Names, Content, BytesOf, TextOf, NamesOf, names_in, with_names}
use Rattle.server_trait.proofs.TreeLaws.{some_none, some_same}
use Rattle.abs_model.specs.declared.entry.Object.{Object}
use Rattle.abs_model.specs.declared.entry.Object.TheVariants.{Null, File, Dir, Link}
use Rattle.abs_model.specs.Objects.{is_null, is_dir, names_of, attr_of}

-- a null entry's object
pub null_object : (o : Object) (g : ℕ) → is_null (record { generation = g; object = o }) ≡ true → o ≡ Null
null_object Null g is = refl
null_object (File a b) g is = absurd (let bad : false ≡ true = is in cc)
null_object (Dir a b) g is = absurd (let bad : false ≡ true = is in cc)
null_object (Link a b) g is = absurd (let bad : false ≡ true = is in cc)

-- a directory is its attributes and its names
pub dir_parts : (g : ℕ) (o : Object) → is_dir (record { generation = g; object = o }) ≡ true →
    o ≡ Dir (attr_of (record { generation = g; object = o })) (names_of (record { generation = g; object = o }))
dir_parts g Null is = absurd (let bad : false ≡ true = is in cc)
dir_parts g (File a b) is = absurd (let bad : false ≡ true = is in cc)
dir_parts g (Dir a b) is = refl
dir_parts g (Link a b) is = absurd (let bad : false ≡ true = is in cc)

-- a name in a directory's map, whether the map is known or not
pub names_named : (c : Content) (m : Names) (name h : List ℕ) (n : Node) → n.content ≡ c → names_in c ≡ Some m →
    with_names (λ k. insert k name h) n ≡ with_names (λ _. insert m name h) n
names_named (BytesOf b) m name h n same is = absurd (some_none is refl)
names_named (TextOf b) m name h n same is = absurd (some_none is refl)
names_named (NamesOf k) m name h n same is =
    let e : k ≡ m = some_same refl is ∙ some_same is refl ∙ some_same refl is in
    ap (λ c. with_names (λ k. insert k name h) (record n { content = c })) same
    ∙ ap (λ k. let new : Node = record n { content = NamesOf (insert k name h) } in new) e
    ∙ sym (ap (λ c. with_names (λ _. insert m name h) (record n { content = c })) same)

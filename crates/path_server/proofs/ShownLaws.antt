-- The tree under the handles that are shown: what is in it, what it counts, and how it changes.
use Rattle.std.proofs.Common.{◌≡◌, ℕ, ◌*◌, Bool, true, false, List, Option, Some, None, refl, sym, ap, ◌∙◌}
use Rattle.std.specs.Prelude.{bytes_eq, ◌==◌, if◌then◌else◌}
use Rattle.std.specs.Option.{option_map, option_and_then}
use Rattle.std.specs.FinMap.{get, insert, remove, len}
use Rattle.server_trait.specs.Tree.{Tree, Node, Names, Content, BytesOf, TextOf, NamesOf, node_at, names_at, bytes_at, text_at, target, bytes_in, text_in, names_in, kind_of, size_of, links_of, links, names_to, subdirs, is_dir_at, one_if, used, used_by, with_bytes, with_names, with_node, without_node, edited, named, unnamed, let_go}
use Rattle.server_trait.specs.Calls.{renamed}
use Rattle.server_trait.specs.declared.server.TheConstants.{NAME_BYTES}
use Rattle.server_trait.proofs.CountLaws.{total-same}
use Rattle.server_trait.proofs.TreeLaws.{edited-some, edited-none}
use Rattle.path_server.specs.Shown.{shown_names, shown_content, shown_node, shown_tree}
use Rattle.path_server.proofs.RekeyLaws.{bytes_eq-key, get-rekeyed, get-rekeyed_at, rekeyed-insert, rekeyed-remove, total-rekeyed, len-rekeyed}

-- what a name that moves leaves, where the other name leads here
abbrev by_target : Tree → List ℕ → List ℕ → List ℕ → List ℕ → List ℕ → Option (List ℕ) → Tree
by_target t from name to to_name h o = elim o as (λ _. Tree) [
  | None ↦ named (unnamed t from name) to to_name h
  | Some r ↦ if bytes_eq r h then t else let_go (named (unnamed t from name) to to_name h) r
]

-- a name stands for itself
abbrev name_stays : List ℕ → List ℕ
name_stays name = name

module _ (shown : List ℕ → List ℕ) (twice : (h : List ℕ) → shown (shown h) ≡ h) where
  -- NAMES

  pub get-shown_names : (m : Names) (name : List ℕ) → get (shown_names shown m) name ≡ option_map shown (get m name)
  get-shown_names m name = get-rekeyed name_stays (λ _. refl) shown m name

  pub len-shown_names : (m : Names) → len (shown_names shown m) ≡ len m
  len-shown_names m = len-rekeyed name_stays (λ _. refl) shown m

  same_handles : (h q : List ℕ) → bytes_eq (shown h) (shown q) ≡ bytes_eq h q
  same_handles h q = bytes_eq-key shown twice h (shown q) ∙ ap (bytes_eq h) (twice q)

  -- CONTENT

  pub names_in-shown : (c : Content) → names_in (shown_content shown c) ≡ option_map (shown_names shown) (names_in c)
  names_in-shown (BytesOf b) = refl
  names_in-shown (TextOf x) = refl
  names_in-shown (NamesOf m) = refl

  pub bytes_in-shown : (c : Content) → bytes_in (shown_content shown c) ≡ bytes_in c
  bytes_in-shown (BytesOf b) = refl
  bytes_in-shown (TextOf x) = refl
  bytes_in-shown (NamesOf m) = refl

  pub text_in-shown : (c : Content) → text_in (shown_content shown c) ≡ text_in c
  text_in-shown (BytesOf b) = refl
  text_in-shown (TextOf x) = refl
  text_in-shown (NamesOf m) = refl

  pub kind_of-shown : (c : Content) → kind_of (shown_content shown c) ≡ kind_of c
  kind_of-shown (BytesOf b) = refl
  kind_of-shown (TextOf x) = refl
  kind_of-shown (NamesOf m) = refl

  pub size_of-shown : (c : Content) → size_of (shown_content shown c) ≡ size_of c
  size_of-shown (BytesOf b) = refl
  size_of-shown (TextOf x) = refl
  size_of-shown (NamesOf m) = len-shown_names m

  used_by-shown : (c : Content) → used_by (shown_content shown c) ≡ used_by c
  used_by-shown (BytesOf b) = refl
  used_by-shown (TextOf x) = refl
  used_by-shown (NamesOf m) = ap (λ n. NAME_BYTES * n) (len-shown_names m)

  names_to-shown : (q : List ℕ) (c : Content) → names_to (shown q) (shown_content shown c) ≡ names_to q c
  names_to-shown q (BytesOf b) = refl
  names_to-shown q (TextOf x) = refl
  names_to-shown q (NamesOf m) =
      total-rekeyed name_stays (λ _. refl) shown (λ x. one_if (bytes_eq x (shown q))) m
      ∙ total-same (λ x. one_if (bytes_eq (shown x) (shown q))) (λ x. one_if (bytes_eq x q)) m (λ _ x _.
      ap one_if (same_handles x q))

  -- WHAT IS IN IT

  module _ (t : Tree) where
    pub node_at-shown : (q : List ℕ) → node_at (shown_tree shown t) (shown q) ≡ option_map (shown_node shown)
        (node_at t q)
    node_at-shown q = get-rekeyed_at shown twice (shown_node shown) t.nodes q

    pub node_at-any : (h : List ℕ) → node_at (shown_tree shown t) h ≡ option_map (shown_node shown)
        (node_at t (shown h))
    node_at-any h = get-rekeyed shown twice (shown_node shown) t.nodes h

    names_of_some : (o : Option Node) →
        option_and_then (λ (n : Node). names_in n.content) (option_map (shown_node shown) o)
        ≡ option_map (shown_names shown) (option_and_then (λ (n : Node). names_in n.content) o)
    names_of_some None = refl
    names_of_some (Some n) = names_in-shown n.content

    pub names_at-shown : (q : List ℕ) →
        names_at (shown_tree shown t) (shown q) ≡ option_map (shown_names shown) (names_at t q)
    names_at-shown q = ap (option_and_then (λ (n : Node). names_in n.content)) (node_at-shown q)
        ∙ names_of_some (node_at t q)

    bytes_of_some : (o : Option Node) →
        option_and_then (λ (n : Node). bytes_in n.content) (option_map (shown_node shown) o)
        ≡ option_and_then (λ (n : Node). bytes_in n.content) o
    bytes_of_some None = refl
    bytes_of_some (Some n) = bytes_in-shown n.content

    pub bytes_at-shown : (q : List ℕ) → bytes_at (shown_tree shown t) (shown q) ≡ bytes_at t q
    bytes_at-shown q = ap (option_and_then (λ (n : Node). bytes_in n.content)) (node_at-shown q)
        ∙ bytes_of_some (node_at t q)

    text_of_some : (o : Option Node) →
        option_and_then (λ (n : Node). text_in n.content) (option_map (shown_node shown) o)
        ≡ option_and_then (λ (n : Node). text_in n.content) o
    text_of_some None = refl
    text_of_some (Some n) = text_in-shown n.content

    pub text_at-shown : (q : List ℕ) → text_at (shown_tree shown t) (shown q) ≡ text_at t q
    text_at-shown q = ap (option_and_then (λ (n : Node). text_in n.content)) (node_at-shown q)
        ∙ text_of_some (node_at t q)

    target_of_some : (name : List ℕ) (o : Option Names) →
        option_and_then (λ (m : Names). get m name) (option_map (shown_names shown) o)
        ≡ option_map shown (option_and_then (λ (m : Names). get m name) o)
    target_of_some name None = refl
    target_of_some name (Some m) = get-shown_names m name

    pub target-shown : (dir name : List ℕ) →
        target (shown_tree shown t) (shown dir) name ≡ option_map shown (target t dir name)
    target-shown dir name = ap (option_and_then (λ (m : Names). get m name)) (names_at-shown dir)
        ∙ target_of_some name (names_at t dir)

    -- WHAT IT COUNTS

    abbrev is_there : Option Names → Bool
    is_there o = elim o as (λ _. Bool) [ None ↦ false | Some m ↦ true ]

    still_there : (o : Option Names) → is_there (option_map (shown_names shown) o) ≡ is_there o
    still_there None = refl
    still_there (Some m) = refl

    is_dir_at-shown : (q : List ℕ) → is_dir_at (shown_tree shown t) (shown q) ≡ is_dir_at t q
    is_dir_at-shown q = ap is_there (names_at-shown q) ∙ still_there (names_at t q)

    pub len-shown : len (shown_tree shown t).nodes ≡ len t.nodes
    len-shown = len-rekeyed shown twice (shown_node shown) t.nodes

    pub used-shown : used (shown_tree shown t) ≡ used t
    unfolding used
    used-shown = total-rekeyed shown twice (shown_node shown) (λ n. used_by n.content) t.nodes
        ∙ total-same (λ n. used_by (shown_node shown n).content) (λ n. used_by n.content) t.nodes (λ _ n _.
        used_by-shown n.content)

    pub links-shown : (q : List ℕ) → links (shown_tree shown t) (shown q) ≡ links t q
    unfolding links
    links-shown q = total-rekeyed shown twice (shown_node shown) (λ n. names_to (shown q) n.content) t.nodes
        ∙ total-same (λ n. names_to (shown q) (shown_node shown n).content) (λ n. names_to q n.content) t.nodes
        (λ _ n _. names_to-shown q n.content)

    subdirs-shown : (m : Names) → subdirs (shown_tree shown t) (shown_names shown m) ≡ subdirs t m
    unfolding subdirs
    subdirs-shown m =
        total-rekeyed name_stays (λ _. refl) shown (λ x. one_if (is_dir_at (shown_tree shown t) x)) m
        ∙ total-same (λ x. one_if (is_dir_at (shown_tree shown t) (shown x))) (λ x. one_if (is_dir_at t x)) m
        (λ _ x _. ap one_if (is_dir_at-shown x))

    pub links_of-shown : (q : List ℕ) (c : Content) →
        links_of (shown_tree shown t) (shown q) (shown_content shown c) ≡ links_of t q c
    links_of-shown q (BytesOf b) = links-shown q
    links_of-shown q (TextOf x) = links-shown q
    links_of-shown q (NamesOf m) = subdirs-shown m

    -- HOW IT CHANGES

    pub with_node-shown : (q : List ℕ) (n : Node) →
        shown_tree shown (with_node t q n) ≡ with_node (shown_tree shown t) (shown q) (shown_node shown n)
    with_node-shown q n = ap (λ nodes. let u : Tree = record { root = shown t.root; nodes = nodes } in u)
        (rekeyed-insert shown twice (shown_node shown) t.nodes q n)

    without_node-shown : (q : List ℕ) →
        shown_tree shown (without_node t q) ≡ without_node (shown_tree shown t) (shown q)
    without_node-shown q = ap (λ nodes. let u : Tree = record { root = shown t.root; nodes = nodes } in u)
        (rekeyed-remove shown twice (shown_node shown) t.nodes q)

    -- two changes of nodes that do the same, one inside and one to what is shown
    pub edited-shown : (f g : Node → Node) → ((n : Node) → shown_node shown (f n) ≡ g (shown_node shown n)) →
        (q : List ℕ) → shown_tree shown (edited t q f) ≡ edited (shown_tree shown t) (shown q) g
    edited-shown f g same q = elim (node_at t q) as (λ o. node_at t q ≡ o →
        shown_tree shown (edited t q f) ≡ edited (shown_tree shown t) (shown q) g) [
          | None ↦ λ is. ap (shown_tree shown) (edited-none t q f is)
              ∙ sym (edited-none (shown_tree shown t) (shown q) g
              (node_at-shown q ∙ ap (option_map (shown_node shown)) is))
          | Some n ↦ λ is. ap (shown_tree shown) (edited-some t q f n is) ∙ with_node-shown q (f n)
              ∙ ap (with_node (shown_tree shown t) (shown q)) (same n)
              ∙ sym (edited-some (shown_tree shown t) (shown q) g (shown_node shown n) (node_at-shown q
              ∙ ap (option_map (shown_node shown)) is))
        ] refl

    let_go-shown : (q : List ℕ) → shown_tree shown (let_go t q) ≡ let_go (shown_tree shown t) (shown q)
    unfolding let_go
    let_go-shown q = (elim (links t q == 0) as (λ b. shown_tree shown (if b then without_node t q else t)
        ≡ (if b then without_node (shown_tree shown t) (shown q) else shown_tree shown t)) [
          | true ↦ without_node-shown q
          | false ↦ refl
        ]) ∙ ap (λ n. if n == 0 then without_node (shown_tree shown t) (shown q) else shown_tree shown t)
        (sym (links-shown q))

  -- CHANGES OF A NODE

  pub with_bytes-shown : (f : List ℕ → List ℕ) (n : Node) →
      shown_node shown (with_bytes f n) ≡ with_bytes f (shown_node shown n)
  with_bytes-shown f n = ap (λ c. let m : Node = record n { content = c } in m) (by_content n.content)
    where
      by_content : (c : Content) →
          shown_content shown (elim c as
          (λ _. Content) [ BytesOf b ↦ BytesOf (f b) | TextOf x ↦ TextOf x | NamesOf m ↦ NamesOf m ])
          ≡ elim (shown_content shown c) as
          (λ _. Content) [ BytesOf b ↦ BytesOf (f b) | TextOf x ↦ TextOf x | NamesOf m ↦ NamesOf m ]
      by_content (BytesOf b) = refl
      by_content (TextOf x) = refl
      by_content (NamesOf m) = refl

  with_names-shown : (f g : Names → Names) → ((m : Names) → shown_names shown (f m) ≡ g (shown_names shown m)) →
      (n : Node) → shown_node shown (with_names f n) ≡ with_names g (shown_node shown n)
  with_names-shown f g same n = ap (λ c. let m : Node = record n { content = c } in m) (by_content n.content)
    where
      by_content : (c : Content) →
          shown_content shown (elim c as
          (λ _. Content) [ BytesOf b ↦ BytesOf b | TextOf x ↦ TextOf x | NamesOf m ↦ NamesOf (f m) ])
          ≡ elim (shown_content shown c) as
          (λ _. Content) [ BytesOf b ↦ BytesOf b | TextOf x ↦ TextOf x | NamesOf m ↦ NamesOf (g m) ]
      by_content (BytesOf b) = refl
      by_content (TextOf x) = refl
      by_content (NamesOf m) = ap NamesOf (same m)

  pub named-shown : (t : Tree) (dir name h : List ℕ) →
      shown_tree shown (named t dir name h) ≡ named (shown_tree shown t) (shown dir) name (shown h)
  named-shown t dir name h = edited-shown t _ _
      (with_names-shown (λ m. insert m name h) (λ m. insert m name (shown h)) (λ m.
      rekeyed-insert name_stays (λ _. refl) shown m name h)) dir

  unnamed-shown : (t : Tree) (dir name : List ℕ) →
      shown_tree shown (unnamed t dir name) ≡ unnamed (shown_tree shown t) (shown dir) name
  unnamed-shown t dir name = edited-shown t _ _
      (with_names-shown (λ m. remove m name) (λ m. remove m name) (λ m.
      rekeyed-remove name_stays (λ _. refl) shown m name)) dir

  -- a name goes, and with its last name the node
  pub removed-shown : (t : Tree) (dir name h : List ℕ) → shown_tree shown (let_go (unnamed t dir name) h)
      ≡ let_go (unnamed (shown_tree shown t) (shown dir) name) (shown h)
  removed-shown t dir name h = let_go-shown (unnamed t dir name) h
      ∙ ap (λ u. let_go u (shown h)) (unnamed-shown t dir name)

  -- a name moves
  pub renamed-shown : (t : Tree) (from name to to_name h : List ℕ) →
      shown_tree shown (renamed t from name to to_name h)
      ≡ renamed (shown_tree shown t) (shown from) name (shown to) to_name (shown h)
  renamed-shown t from name to to_name h = (elim (target t to to_name) as (λ o.
      shown_tree shown (by_target t from name to to_name h o)
      ≡ by_target (shown_tree shown t) (shown from) name (shown to) to_name (shown h) (option_map shown o)) [
        | None ↦ moved_name
        | Some r ↦ (elim (bytes_eq r h) as
            (λ b. shown_tree shown (if b then t else let_go (named (unnamed t from name) to to_name h) r)
            ≡ (if b then shown_tree shown t else let_go
            (named (unnamed (shown_tree shown t) (shown from) name) (shown to) to_name (shown h)) (shown r))) [
              | true ↦ refl
              | false ↦ let_go-shown (named (unnamed t from name) to to_name h) r
                  ∙ ap (λ u. let_go u (shown r)) moved_name
            ]) ∙ ap (λ b. if b then shown_tree shown t else let_go
            (named (unnamed (shown_tree shown t) (shown from) name) (shown to) to_name (shown h)) (shown r))
            (sym (same_handles r h))
      ]) ∙ ap (by_target (shown_tree shown t) (shown from) name (shown to) to_name (shown h))
      (sym (target-shown t to to_name))
    where
      moved_name : shown_tree shown (named (unnamed t from name) to to_name h)
          ≡ named (unnamed (shown_tree shown t) (shown from) name) (shown to) to_name (shown h)
      moved_name = named-shown (unnamed t from name) to to_name h
          ∙ ap (λ u. named u (shown to) to_name (shown h)) (unnamed-shown t from name)
